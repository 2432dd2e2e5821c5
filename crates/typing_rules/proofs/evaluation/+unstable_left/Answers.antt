use Rattle.std.proofs.Common.{◌≡◌, ℕ, ◌+◌, ◌<◌, ◌∙◌, MatchOption, ap, length, not, subst, sym}
use Rattle.std.specs.List.{count_by}
use Rattle.cov_expr.specs.Term.{bin}
use Rattle.cov_expr.specs.Trees.{occurrences}
use Rattle.cov_expr.specs.View.{term}
use Rattle.cov_expr.specs.Words.{HasVarsBelow}
use Rattle.cov_expr.proofs.View.{term-Not, term-Bin}
use Rattle.mode_state.specs.Sets.{is_stable}
use Rattle.typing_rules.proofs.GuardLaws.{past_first, in_second}
use Rattle.typing_rules.proofs.evaluation.+unstable_left.Goals as goal

pub returns-in-Not : goal.returns-in-Not
returns-in-Not n c p t held modes below =
    rw (c.in-Not.is, term-Not, ← c.deref.ensures) (c.unstable_left.ensures p t held modes (rw (c.in-Not.is, term-Not, ← c.deref.ensures) at below))

pub returns-in_err-left-in-Bin : goal.returns-in_err-left-in-Bin
returns-in_err-left-in-Bin n c p t held modes below =
    let f = λ (x : ℕ). not (is_stable p t held x) in
    let op = c.in-Bin.field-0 in
    let a = term c.deref-in-Bin.result.now in
    let b = term c.in-Bin.b.value in
    let is = ap term c.in-Bin.is ∙ term-Bin op c.in-Bin.a c.in-Bin.b ∙ ap (λ d. bin op (term d) b) (sym c.deref-in-Bin.ensures) in
    let parts = subst (λ e. HasVarsBelow e (length p.vars)) is below in
    subst (λ r. MatchOption r (c.args.most < count_by f (occurrences (term c.args.e.now))) (λ left. left + count_by f (occurrences (term c.args.e.now)) ≡ c.args.most)) (sym c.from_residual.ensures)
    (past_first f (term c.args.e.now) a b op is c.args.most (c.in_err-left-in-Bin.ensures p t held modes parts.0))

pub returns-in_ok-left-in-Bin : goal.returns-in_ok-left-in-Bin
returns-in_ok-left-in-Bin n c p t held modes below =
    let f = λ (x : ℕ). not (is_stable p t held x) in
    let op = c.in-Bin.field-0 in
    let a = term c.deref-in-Bin.result.now in
    let b = term c.deref-in-Bin-2.result.now in
    let is = ap term c.in-Bin.is ∙ term-Bin op c.in-Bin.a c.in-Bin.b ∙ (λ i. bin op (term (sym c.deref-in-Bin.ensures i)) (term (sym c.deref-in-Bin-2.ensures i))) in
    let parts = subst (λ e. HasVarsBelow e (length p.vars)) is below in
    in_second f (term c.args.e.now) a b op is c.args.most c.in_ok-left-in-Bin.left c.unstable_left-in-Bin-2.result (c.in_ok-left-in-Bin.ensures p t held modes parts.0) (c.unstable_left-in-Bin-2.ensures p t held modes parts.1)
