use Rattle.std.proofs.Common.{length, map, sym, ◌∙◌, arith, below_more}
use Rattle.std.proofs.lemmas.Bool.{not_from_false, not_from_true}
use Rattle.std.proofs.lemmas.List.{length-map}
use Rattle.cov_ast.specs.View as view
use Rattle.flow_model.specs.FirstDifference.{holders_differ, holders_of}
use Rattle.flow_model.proofs.Apart.{holders_seen}
use Rattle.flow_model.proofs.Firsts.{found, none_found}
use Rattle.flow_model.proofs.agreement.lock_apart.Goals as goal

pub loop-l-preserved : goal.loop-l-preserved
loop-l-preserved c =
    below_more _ _ c.loop-l.invariant
    (not_from_true _ (sym (holders_seen c.args.h1.now c.args.h2.now c.loop-l.l) ∙ sym c.same_holder.ensures ∙ c.if-not-same_holder.false))

pub returns-then-not-same_holder : goal.returns-then-not-same_holder
returns-then-not-same_holder c =
    found (holders_differ (holders_of c.args.h1.now) (holders_of c.args.h2.now)) (length (map view.lock c.args.p.now.locks)) c.loop-l.l
    (omega (arith, length-map c.args.p.now.locks view.lock, c.loop-l-test.true, c.len-l-end.ensures))
    (not_from_false _ (sym (holders_seen c.args.h1.now c.args.h2.now c.loop-l.l) ∙ sym c.same_holder.ensures ∙ c.if-not-same_holder.true))
    c.loop-l.invariant

pub returns : goal.returns
returns c =
    none_found (holders_differ (holders_of c.args.h1.now) (holders_of c.args.h2.now)) (length (map view.lock c.args.p.now.locks))
    (λ k h. c.loop-l.invariant k (omega (arith, length-map c.args.p.now.locks view.lock, c.loop-l-test.false, c.len-l-end.ensures, h)))
