use Rattle.std.proofs.Common.{◌≡◌, Option, Some, IfSome, map, length, ◌-◌, refl, sym, subst}
use Rattle.std.proofs.lemmas.List.{length-map}
use Rattle.cov_expr.specs.Term.{Term}
use Rattle.cov_expr.specs.View.{term}
use Rattle.entail_cert.specs.Axioms.{numbered}
use Rattle.entail_cert.specs.HeldTerms.{held_term}
use Rattle.entail_cert.specs.Inside.Findings.{hypotheses}
use Rattle.entail_cert.proofs.Hypotheses.{hypothesis_given, numbered_back, some_of}
use Rattle.entail_cert.proofs.walk.Walk.lent.Goals as goal

pub returns-then-index-given : goal.returns-then-index-given
returns-then-index-given c =
    some_of (λ e. term e.now) c.get.result (numbered (hypotheses c.args.given.now c.args.self.now) c.args.number)
    (hypothesis_given (λ x. x.now) term c.args.given.now (map held_term c.args.self.now.added) c.args.number c.in_ok-index.index c.get.result
    c.in_ok-index.ensures.0 c.in_ok-index.ensures.1 c.if-index-given.true c.get.ensures.lookup.1 c.get.ensures.lookup.2)

pub returns-else-index-given : goal.returns-else-index-given
returns-else-index-given c =
    let P : Option Term → Type 0 = λ o. IfSome c.lent_at.result (λ e. o ≡ Some (term e.now)) in
    subst P
    (sym (numbered_back (map term c.args.given.now) (map held_term c.args.self.now.added) c.args.number c.in_ok-index.index
    (c.in_ok-index.index - length c.args.given.now) c.in_ok-index.ensures.0 c.in_ok-index.ensures.1
    (simp length-map c.if-index-given.false) (simp length-map refl)))
    c.lent_at.ensures
