use Rattle.std.proofs.Common.{◌≡◌, ◌+◌, [], ◌∷◌, ◌++◌, length, map, refl, sym, ◌∙◌, arith, zero-add}
use Rattle.cov_expr.specs.View.{term}
use Rattle.cov_ast.specs.Syntax.{output}
use Rattle.cov_ast.specs.View as view
use Rattle.typing_law.specs.Counts.{entailment_count}
use Rattle.typing_law.specs.Entailments.{guard_follows}
use Rattle.typing_law.specs.ThreadObligations.{flat, guard_obligations}
use Rattle.typing_law.proofs.Counting.{count_own}
use Rattle.typing_rules.specs.Inside.Walking.{plain_of, last_parts}
use Rattle.typing_rules.proofs.Others.{others_guard}
use Rattle.typing_rules.proofs.walk.Walk.output.Goals as goal

pub returns : goal.returns
returns c a k =
    let w = c.args.self.now in
    let p = plain_of w in
    let t = w.thread in
    let at = c.args.at in
    let e = term c.args.e.now in
    let proofs = map view.proof c.args.proofs.now in
    let gs = guard_follows p t a e ∷ [] in
    let tries = c.in_ok-tried.ensures a k in
    let first = guard_obligations p t at a.held e in
    let evaluated = (rw c.site.ensures at c.check_guard-evaluated.ensures) a.held (c.modes.ensures p t a k) in
    let counted : 0 + 0 + length gs ≡ entailment_count (first ++ flat (last_parts p t at proofs 1 (length gs) gs (a ∷ []))) =
    (let none : 0 + 0 + length gs ≡ length gs = omega arith in none) ∙ sym (count_own p t at proofs a (output e) gs refl) in
    c.conclude.ensures a k first gs c.args.kept.now (length gs) (entailment_count (first ++ flat (last_parts p t at proofs 1 (length gs) gs (a ∷ []))))
    (others_guard p t at a.held e) evaluated (sym c.len-mark.ensures) tries (zero-add (length gs)) counted
