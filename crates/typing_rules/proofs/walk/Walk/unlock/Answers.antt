use Rattle.std.proofs.Common.{◌≡◌, ◌+◌, refl, arith, [], ◌∷◌, ◌++◌, length, map, sym, ap, ◌∙◌, subst, zero-add}
use Rattle.cov_ast.specs.Obligations.{Decides}
use Rattle.cov_ast.specs.Syntax.{unlock}
use Rattle.cov_ast.specs.Tables.{has}
use Rattle.cov_ast.specs.View as view
use Rattle.cov_ast.specs.declared.refusal.Rule.TheVariants.{V7}
use Rattle.cov_ast.specs.declared.refusal.Detail.TheVariants.{One}
use Rattle.point_law.specs.After.{after_unlock}
use Rattle.typing_law.specs.Counts.{entailment_count}
use Rattle.typing_law.specs.Entailments.{unlock_entailments}
use Rattle.typing_law.specs.ThreadObligations.{flat, of_lock, thread_obligation}
use Rattle.typing_law.proofs.Counting.{count_own}
use Rattle.typing_rules.specs.Inside.Walking.{plain_of, last_parts}
use Rattle.typing_rules.proofs.walk.Walk.unlock.Goals as goal

pub returns : goal.returns
returns c a k =
    let w = c.args.self.now in
    let p = plain_of w in
    let t = w.thread in
    let at = c.args.at in
    let l = c.args.l in
    let proofs = map view.proof c.args.proofs.now in
    let gs = unlock_entailments p t a l in
    let after = after_unlock p t a l in
    let keeps = c.in_ok-after.ensures t a k in
    let tries = c.in_ok-tried.ensures a k in
    let held : c.holds-held.result ≡ has a.held l = c.holds-held.ensures ∙ ap (λ m. has m.held l) (c.modes.ensures p t a k) in
    let first = of_lock p t at V7 l (has a.held l) ∷ [] in
    let taken : Decides first c.require_at-taken.result =
    subst (λ n. Decides (thread_obligation t at V7 (One n) (has a.held l) ∷ []) c.require_at-taken.result) c.lock_name.ensures
    (subst (λ b. Decides (thread_obligation t at V7 (One c.lock_name.result) b ∷ []) c.require_at-taken.result) held
    (rw c.site.ensures at c.require_at-taken.ensures)) in
    let counted : 0 + 0 + length gs ≡ entailment_count (first ++ flat (last_parts p t at proofs 1 (length gs) gs (after ∷ []))) =
    (let none : 0 + 0 + length gs ≡ length gs = omega arith in none) ∙ sym (count_own p t at proofs a (unlock l) gs refl) in
    c.conclude.ensures after keeps first gs c.args.kept.now (length gs) (entailment_count (first ++ flat (last_parts p t at proofs 1 (length gs) gs (after ∷ []))))
    refl taken (sym c.len-mark.ensures) tries (zero-add (length gs)) counted
