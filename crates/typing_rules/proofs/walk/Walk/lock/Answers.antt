use Rattle.std.proofs.Common.{◌≡◌, [], ◌∷◌, ◌++◌, not, sym, refl, ap, ◌∙◌, subst}
use Rattle.std.proofs.Math.Bool.{and-true}
use Rattle.cov_ast.specs.Obligations.{Decides}
use Rattle.cov_ast.specs.Tables.{has}
use Rattle.cov_ast.specs.declared.refusal.Rule.TheVariants.{V6, V16}
use Rattle.cov_ast.specs.declared.refusal.Detail.TheVariants.{One, Nothing}
use Rattle.point_law.specs.After.{after_lock}
use Rattle.typing_law.specs.ThreadObligations.{obligation, few_preds, of_lock, small_terms, thread_obligation}
use Rattle.point_law.specs.Point.{has_small_types}
use Rattle.typing_rules.specs.Inside.Walking.{plain_of}
use Rattle.typing_rules.proofs.Reaching.{others_looked}
use Rattle.typing_rules.proofs.walk.Walk.lock.Goals as goal

pub returns : goal.returns
returns c proofs kept a k =
    let w = c.args.self.now in
    let p = plain_of w in
    let t = w.thread in
    let at = c.args.at in
    let l = c.args.l in
    let after = after_lock p t a l in
    let keeps = c.in_ok-after.ensures t a k in
    let held : c.holds-held.result ≡ has a.held l = c.holds-held.ensures ∙ ap (λ m. has m.held l) (c.modes.ensures p t a k) in
    let free : Decides (of_lock p t at V6 l (not (has a.held l)) ∷ []) c.require_at-free.result =
    subst (λ n. Decides (thread_obligation t at V6 (One n) (not (has a.held l)) ∷ []) c.require_at-free.result) c.lock_name.ensures
    (subst (λ b. Decides (thread_obligation t at V6 (One c.lock_name.result) (not b) ∷ []) c.require_at-free.result) held
    (rw c.site-site.ensures at c.require_at-free.ensures)) in
    let few : Decides (few_preds p t at (after ∷ [])) c.check_few_preds-few.result = (rw c.site-site.ensures at c.check_few_preds-few.ensures) after keeps in
    let small : Decides (small_terms p t at [] (after ∷ [])) c.require_small-small.result =
    subst (λ b. Decides (obligation p t at V16 Nothing b ∷ []) c.require_small-small.result) (c.has_small_types.ensures p t after keeps ∙ sym (and-true (has_small_types after)))
    (rw c.site-site.ensures at c.require_small-small.ensures) in
    let first = of_lock p t at V6 l (not (has a.held l)) ∷ [] in
    let second = few_preds p t at (after ∷ []) in
    let third = small_terms p t at [] (after ∷ []) in
    let whole = first ++ (second ++ third) in
    c.finish.ensures w.purpose p t whole after kept keeps
    (subst (λ o. Decides o c.both-2.result) (sym (others_looked w.purpose whole refl))
    (c.both-2.ensures first (second ++ third) free (λ _. c.both.ensures second third few (λ _. small))))
