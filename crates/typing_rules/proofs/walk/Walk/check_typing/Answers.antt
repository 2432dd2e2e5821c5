use Rattle.std.proofs.Common.{◌≡◌, ◌<◌, [], ◌∷◌, ◌++◌, ◌&&◌, length, map, arith, subst, if◌then◌else◌, Err, None}
use Rattle.std.proofs.lemmas.List.{length-map}
use Rattle.cov_expr.specs.Trees.{vars}
use Rattle.cov_expr.specs.View.{term}
use Rattle.cov_ast.specs.Declarations.{is_control}
use Rattle.cov_ast.specs.Obligations.{Decides, first_false}
use Rattle.cov_ast.specs.View as view
use Rattle.cov_ast.specs.declared.refusal.Rule.TheVariants.{V4, V5}
use Rattle.cov_ast.specs.declared.refusal.Detail.TheVariants.{Nothing}
use Rattle.cov_ast.proofs.ObligationLaws.{append_decided, append_refused}
use Rattle.mode_state.specs.Sets.{is_stable}
use Rattle.point_law.specs.Point.{is_tracked}
use Rattle.typing_law.specs.ThreadObligations.{obligation, of_var, over_controls, type_obligations}
use Rattle.typing_rules.specs.Inside.Walking.{plain_of}
use Rattle.typing_law.proofs.VerdictLaws.{padded}
use Rattle.typing_rules.proofs.walk.Walk.check_typing.Goals as goal

pub returns-in-Ok-check_stable_if : goal.returns-in-Ok-check_stable_if
returns-in-Ok-check_stable_if c q a k over =
    let w = c.args.self.now in
    let p = plain_of w in
    let t = w.thread in
    let at = c.args.at in
    let x = c.args.x in
    let e = term c.args.e.now in
    let typed = over_controls p t at a.held q ∷ [] in
    let stable = if is_control p x then map (of_var p t at V5 (is_stable p t a.held)) (vars e) else [] in
    let retyped = type_obligations p t at (λ z. is_control p x && is_tracked p t a.held z) a.held [] (map view.retype c.args.retypes.now) in
    let modes = c.modes-modes.ensures p t a k in
    let inside : x < length (map view.var w.program.now.vars) = omega (arith, length-map w.program.now.vars view.var, c.requires.variable) in
    let typed_held : first_false typed ≡ None =
    subst (λ b. first_false (obligation p t at V4 Nothing b ∷ []) ≡ None) over (rw c.site-site.ensures at c.in-Ok.ensures) in
    let stable_held : first_false stable ≡ None =
    subst (λ b. first_false (if b then map (of_var p t at V5 (is_stable p t a.held)) (vars e) else []) ≡ None) (c.is_control.ensures p t a k inside)
    ((rw c.site-site.ensures at c.in-Ok-check_stable_if.ensures) a.held modes) in
    append_decided typed (stable ++ (retyped ++ [])) c.check_retypes.result typed_held
    (append_decided stable (retyped ++ []) c.check_retypes.result stable_held
    (padded retyped c.check_retypes.result ((rw c.site-site.ensures at c.check_retypes.ensures) a k)))

pub returns-in-Err-check_stable_if : goal.returns-in-Err-check_stable_if
returns-in-Err-check_stable_if c q a k over =
    let w = c.args.self.now in
    let p = plain_of w in
    let t = w.thread in
    let at = c.args.at in
    let x = c.args.x in
    let e = term c.args.e.now in
    let typed = over_controls p t at a.held q ∷ [] in
    let stable = if is_control p x then map (of_var p t at V5 (is_stable p t a.held)) (vars e) else [] in
    let retyped = type_obligations p t at (λ z. is_control p x && is_tracked p t a.held z) a.held [] (map view.retype c.args.retypes.now) in
    let modes = c.modes-modes.ensures p t a k in
    let inside : x < length (map view.var w.program.now.vars) = omega (arith, length-map w.program.now.vars view.var, c.requires.variable) in
    let typed_held : first_false typed ≡ None =
    subst (λ b. first_false (obligation p t at V4 Nothing b ∷ []) ≡ None) over (rw c.site-site.ensures at c.in-Ok.ensures) in
    let fault = c.in-Err-check_stable_if.fault in
    let refused : Decides stable c.check_stable_if.result =
    subst (λ b. Decides (if b then map (of_var p t at V5 (is_stable p t a.held)) (vars e) else []) c.check_stable_if.result)
    (c.is_control.ensures p t a k inside) ((rw c.site-site.ensures at c.check_stable_if.ensures) a.held modes) in
    append_decided typed (stable ++ (retyped ++ [])) (Err fault) typed_held (append_refused stable (retyped ++ []) fault (subst (λ r. Decides stable r) c.in-Err-check_stable_if.is refused))

pub returns-in-Err : goal.returns-in-Err
returns-in-Err c q a k over =
    let w = c.args.self.now in
    let p = plain_of w in
    let t = w.thread in
    let at = c.args.at in
    let x = c.args.x in
    let e = term c.args.e.now in
    let typed = over_controls p t at a.held q ∷ [] in
    let stable = if is_control p x then map (of_var p t at V5 (is_stable p t a.held)) (vars e) else [] in
    let retyped = type_obligations p t at (λ z. is_control p x && is_tracked p t a.held z) a.held [] (map view.retype c.args.retypes.now) in
    append_refused typed (stable ++ (retyped ++ [])) c.in-Err.fault
    (subst (λ r. Decides typed r) c.in-Err.is
    (subst (λ b. Decides (obligation p t at V4 Nothing b ∷ []) c.require_at.result) over (rw c.site-site.ensures at c.require_at.ensures)))
