use Rattle.std.proofs.Common.{[], ◌∷◌, ◌++◌, map, sym, subst}
use Rattle.cov_expr.specs.View.{term}
use Rattle.cov_ast.specs.Obligations.{Decides}
use Rattle.cov_ast.specs.View as view
use Rattle.point_law.specs.After.{after_assign}
use Rattle.point_law.specs.Point.{ty}
use Rattle.typing_law.specs.ThreadObligations.{few_preds, flat}
use Rattle.typing_rules.specs.Inside.Walking.{plain_of, value_parts}
use Rattle.typing_rules.proofs.Parts.{flat-append}
use Rattle.typing_law.proofs.VerdictLaws.{padded}
use Rattle.typing_rules.proofs.walk.Walk.check_but_size.Goals as goal

pub returns : goal.returns
returns c a k =
    let w = c.args.self.now in
    let p = plain_of w in
    let t = w.thread in
    let at = c.args.at in
    let x = c.args.x in
    let e = term c.args.e.now in
    let q = ty p t a e in
    let retypes = map view.retype c.args.retypes.now in
    let front = value_parts p t at a x e q retypes in
    let few = few_preds p t at (after_assign p t a x e q retypes ∷ []) in
    let before : Decides (flat front) c.check_before-before.result =
    subst (λ rs. Decides (flat (value_parts p t at a x e q (map view.retype rs))) c.check_before-before.result) c.as_slice.ensures
    (c.check_before-before.ensures q a k (c.in_ok-over.ensures a k)) in
    let few_ok : Decides few c.check_few_preds-few.result =
    (rw c.site.ensures at c.check_few_preds-few.ensures) _ (c.in_ok-after.ensures t a k) in
    subst (λ es. Decides es c.both.result) (sym (flat-append front (few ∷ [])))
    (c.both.ensures (flat front) (few ++ []) before (λ _. padded few c.check_few_preds-few.result few_ok))
