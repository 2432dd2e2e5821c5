use Rattle.std.proofs.Common.{map, length, ◌-◌, refl, sym, ◌∙◌}
use Rattle.std.proofs.lemmas.List.{length-map}
use Rattle.cov_expr.specs.View.{term}
use Rattle.entail_cert.specs.HeldTerms.{held_term}
use Rattle.entail_cert.proofs.Hypotheses.{hypothesis_given, numbered_back}
use Rattle.entail_cert.proofs.walk.Walk.hypothesis.Goals as goal

pub returns-then-index-given : goal.returns-then-index-given
returns-then-index-given c =
    hypothesis_given (λ x. x.now) term c.args.given.now (map held_term c.args.self.now.added) c.args.number c.in_ok-index.index c.get.result
    c.in_ok-index.ensures.0 c.in_ok-index.ensures.1 c.if-index-given.true c.get.ensures.lookup.1 c.get.ensures.lookup.2

pub returns-else-index-given : goal.returns-else-index-given
returns-else-index-given c =
    c.added_at.ensures
    ∙ sym (numbered_back (map term c.args.given.now) (map held_term c.args.self.now.added) c.args.number c.in_ok-index.index
    (c.in_ok-index.index - length c.args.given.now) c.in_ok-index.ensures.0 c.in_ok-index.ensures.1
    (simp length-map c.if-index-given.false) (simp length-map refl))
