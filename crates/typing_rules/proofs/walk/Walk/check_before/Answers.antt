use Rattle.std.proofs.Common.{[], ◌∷◌, ◌++◌, map, subst, Err}
use Rattle.cov_expr.specs.View.{term}
use Rattle.cov_ast.specs.Obligations.{Decides}
use Rattle.cov_ast.specs.View as view
use Rattle.cov_ast.specs.declared.refusal.Rule.TheVariants.{V2}
use Rattle.mode_state.specs.Sets.{may_write}
use Rattle.typing_law.specs.ThreadObligations.{flat, narrow, of_var, one_unstable, reads}
use Rattle.typing_rules.specs.Inside.Walking.{plain_of, type_parts}
use Rattle.typing_rules.proofs.Parts.{parts_decided, parts_refused}
use Rattle.typing_rules.proofs.walk.Walk.check_before.Goals as goal

pub returns-in-Ok-check_evaluation : goal.returns-in-Ok-check_evaluation
returns-in-Ok-check_evaluation c q a k over =
    let w = c.args.self.now in
    let p = plain_of w in
    let t = w.thread in
    let at = c.args.at in
    let e = term c.args.e.now in
    let access = reads p t at a.held e ∷ (of_var p t at V2 (may_write p t a.held) c.args.x ∷ []) ∷ [] in
    let evaluation = one_unstable p t at a.held e ∷ narrow p t at e ∷ [] in
    let types = type_parts p t at a c.args.x e q (map view.retype c.args.retypes.now) in
    let modes = c.modes-modes.ensures p t a k in
    parts_decided access (evaluation ++ types) c.check_typing.result ((rw c.site-site.ensures at c.in-Ok.ensures) a.held modes)
    (parts_decided evaluation types c.check_typing.result ((rw c.site-site.ensures at c.in-Ok-check_evaluation.ensures) a.held modes)
    (c.check_typing.ensures q a k over))

pub returns-in-Err-check_evaluation : goal.returns-in-Err-check_evaluation
returns-in-Err-check_evaluation c q a k over =
    let w = c.args.self.now in
    let p = plain_of w in
    let t = w.thread in
    let at = c.args.at in
    let e = term c.args.e.now in
    let access = reads p t at a.held e ∷ (of_var p t at V2 (may_write p t a.held) c.args.x ∷ []) ∷ [] in
    let evaluation = one_unstable p t at a.held e ∷ narrow p t at e ∷ [] in
    let types = type_parts p t at a c.args.x e q (map view.retype c.args.retypes.now) in
    let modes = c.modes-modes.ensures p t a k in
    let fault = c.in-Err-check_evaluation.fault in
    parts_decided access (evaluation ++ types) (Err fault) ((rw c.site-site.ensures at c.in-Ok.ensures) a.held modes)
    (parts_refused evaluation types fault
    (subst (λ r. Decides (flat evaluation) r) c.in-Err-check_evaluation.is ((rw c.site-site.ensures at c.check_evaluation.ensures) a.held modes)))

pub returns-in-Err : goal.returns-in-Err
returns-in-Err c q a k over =
    let w = c.args.self.now in
    let p = plain_of w in
    let t = w.thread in
    let at = c.args.at in
    let e = term c.args.e.now in
    let access = reads p t at a.held e ∷ (of_var p t at V2 (may_write p t a.held) c.args.x ∷ []) ∷ [] in
    let evaluation = one_unstable p t at a.held e ∷ narrow p t at e ∷ [] in
    let types = type_parts p t at a c.args.x e q (map view.retype c.args.retypes.now) in
    parts_refused access (evaluation ++ types) c.in-Err.fault
    (subst (λ r. Decides (flat access) r) c.in-Err.is ((rw c.site-site.ensures at c.check_access.ensures) a.held (c.modes-modes.ensures p t a k)))
