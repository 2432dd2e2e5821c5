use Rattle.std.proofs.Common.{◌∙◌, sym}
use Rattle.std.proofs.lemmas.Bool.{not-true, not-false}
use Rattle.object_code.proofs.KnownNames.{passes_none, passes, stops_at, passed_all, known_all}
use Rattle.object_code.proofs.repeated.add_names.Goals as goal

pub loop-name-init : goal.loop-name-init
loop-name-init c = λ before known. passes_none c.args.known.now before c.args.names.now known

pub returns-then-not-is_new : goal.returns-then-not-is_new
returns-then-not-is_new c = λ before known. record {
  first = stops_at c.loop-name.known before c.args.names.now c.loop-name.name-index c.name-item.result c.loop-name-test.true c.name-item.is (c.loop-name.invariant before known)
      (not-false _ (sym c.in_ok-is_new.ensures.added ∙ c.if-not-is_new.true));
  known = λ none. absurd (cc (none));
}

pub loop-name-preserved : goal.loop-name-preserved
loop-name-preserved c = λ before known.
    passes c.loop-name.known before c.args.names.now c.loop-name.name-index c.name-item.result c.loop-name-test.true c.name-item.is (c.loop-name.invariant before known)
    c.insert.new.self (not-true _ (sym c.in_ok-is_new.ensures.added ∙ c.if-not-is_new.false)) c.in_ok-is_new.ensures.updates

pub returns : goal.returns
returns c = λ before known. record {
  first = passed_all c.loop-name.known before c.args.names.now c.loop-name.name-index c.loop-name-test.false (c.loop-name.invariant before known);
  known = λ none. known_all c.loop-name.known before c.args.names.now c.loop-name.name-index c.loop-name-test.false (c.loop-name.invariant before known);
}
