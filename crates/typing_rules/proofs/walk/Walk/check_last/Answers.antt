use Rattle.std.proofs.Common.{◌≡◌, ◌+◌, ◌&&◌, [], ◌∷◌, ◌++◌, suc, map, refl, sym, ap, ◌∙◌, subst, None, Err}
use Rattle.std.specs.List.{list_all}
use Rattle.cov_ast.specs.Obligations.{Decides, first_false}
use Rattle.cov_ast.specs.View as view
use Rattle.cov_ast.specs.declared.refusal.Rule.TheVariants.{V16}
use Rattle.cov_ast.specs.declared.refusal.Detail.TheVariants.{Nothing}
use Rattle.cov_ast.proofs.ObligationLaws.{append_decided, append_refused}
use Rattle.typing_law.specs.Entailments.{is_small_entailment}
use Rattle.typing_law.specs.ThreadObligations.{obligation, numbers, proved, small_terms}
use Rattle.typing_rules.specs.Keeping.{looked_at}
use Rattle.point_law.specs.Point.{has_small_types}
use Rattle.typing_rules.specs.Inside.Walking.{plain_of}
use Rattle.typing_law.specs.declared.site.Site.{Site}
use Rattle.typing_rules.proofs.Concluding.{looked_last}
use Rattle.typing_rules.proofs.Parts.{tried_decided}
use Rattle.typing_rules.proofs.walk.Walk.check_last.Goals as goal
use Rattle.typing_rules.proofs.walk.Walk.check_last.Goals.{then-tried, else-tried}

pub returns-in-Ok-require_proved : goal.returns-in-Ok-require_proved
returns-in-Ok-require_proved c gs points count k0 k1 h types sum =
    let w = c.args.self.now in
    let p = plain_of w in
    let proofs = map view.proof c.args.proofs.now in
    let tried = c.args.tried in
    let u = w.purpose in
    let small = list_all is_small_entailment gs && list_all has_small_types points in
    let asked : c.if-tried.require_small ≡ (tried.small && c.args.types) = elim c.if-tried.branch [
      | then-tried w ↦ w.require_small-is ∙ ap (λ b. b && c.args.types) (sym w.if-tried.true)
      | else-tried w ↦ w.require_small-is ∙ w.if-tried.false ∙ ap (λ b. b && c.args.types) (sym w.if-tried.false)
    ] in
    let is : c.if-tried.require_small ≡ small = asked ∙ (λ i. h.small i && types i) in
    let sizes : first_false (small_terms p w.thread c.args.at gs points) ≡ None =
    subst (λ b. first_false (obligation p w.thread c.args.at V16 Nothing b ∷ []) ≡ None) is (rw c.site-site.ensures at c.in-Ok.ensures) in
    let decided = tried_decided u p w.thread c.args.at proofs (suc c.args.before) gs points k0 k1 tried h sizes in
    let entailments = proved p w.thread c.args.at proofs (suc c.args.before) gs in
    let last = numbers p w.thread c.args.at count proofs in
    let small_ones = small_terms p w.thread c.args.at gs points in
    subst (λ o. Decides o c.check_given.result) (sym (looked_last u small_ones entailments last refl))
    (append_decided small_ones (looked_at u entailments ++ looked_at u last) c.check_given.result sizes
    (append_decided (looked_at u entailments) (looked_at u last) c.check_given.result ((rw c.site-site.ensures at c.in-Ok-require_proved.ensures) u p proofs (suc c.args.before) gs decided.1)
    (subst (λ m. Decides (looked_at u (numbers p w.thread c.args.at m proofs)) c.check_given.result) (ap (λ m. c.args.before + m) decided.0 ∙ sum)
    (rw c.site-site.ensures at c.check_given.ensures))))

pub returns-in-Err-require_proved : goal.returns-in-Err-require_proved
returns-in-Err-require_proved c gs points count k0 k1 h types sum =
    let w = c.args.self.now in
    let p = plain_of w in
    let proofs = map view.proof c.args.proofs.now in
    let tried = c.args.tried in
    let u = w.purpose in
    let small = list_all is_small_entailment gs && list_all has_small_types points in
    let asked : c.if-tried.require_small ≡ (tried.small && c.args.types) = elim c.if-tried.branch [
      | then-tried w ↦ w.require_small-is ∙ ap (λ b. b && c.args.types) (sym w.if-tried.true)
      | else-tried w ↦ w.require_small-is ∙ w.if-tried.false ∙ ap (λ b. b && c.args.types) (sym w.if-tried.false)
    ] in
    let is : c.if-tried.require_small ≡ small = asked ∙ (λ i. h.small i && types i) in
    let sizes : first_false (small_terms p w.thread c.args.at gs points) ≡ None =
    subst (λ b. first_false (obligation p w.thread c.args.at V16 Nothing b ∷ []) ≡ None) is (rw c.site-site.ensures at c.in-Ok.ensures) in
    let decided = tried_decided u p w.thread c.args.at proofs (suc c.args.before) gs points k0 k1 tried h sizes in
    let entailments = proved p w.thread c.args.at proofs (suc c.args.before) gs in
    let last = numbers p w.thread c.args.at count proofs in
    let fault = c.in-Err-require_proved.fault in
    let small_ones = small_terms p w.thread c.args.at gs points in
    subst (λ o. Decides o (Err fault)) (sym (looked_last u small_ones entailments last refl))
    (append_decided small_ones (looked_at u entailments ++ looked_at u last) (Err fault) sizes
    (append_refused (looked_at u entailments) (looked_at u last) fault (subst (λ (s : Site). Decides (looked_at u (proved p s.thread s.place proofs (suc c.args.before) gs)) (Err fault)) c.site-site.ensures
    (c.in-Err-require_proved.ensures u p proofs (suc c.args.before) gs decided.1))))
