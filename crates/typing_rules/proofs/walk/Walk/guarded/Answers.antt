use Rattle.std.proofs.Common.{[], ◌∷◌, ◌++◌, refl, sym, ap, ◌∙◌, append_assoc, subst, Ok, Err}
use Rattle.std.specs.List.{list_all}
use Rattle.std.proofs.Math.Bool.{and-true}
use Rattle.std.proofs.lemmas.List.{append-nil}
use Rattle.cov_ast.specs.Obligations.{Decides}
use Rattle.cov_ast.specs.declared.refusal.Rule.TheVariants.{V16}
use Rattle.cov_ast.specs.declared.refusal.Detail.TheVariants.{Nothing}
use Rattle.typing_law.specs.Entailments.{is_small_entailment}
use Rattle.typing_law.specs.ThreadEntailments.{placed_from}
use Rattle.typing_law.specs.ThreadObligations.{obligation, few_preds, proved, small_terms}
use Rattle.typing_rules.specs.Keeping.{looked_at}
use Rattle.typing_rules.specs.Inside.Passing.{Passes, Stops}
use Rattle.typing_rules.specs.Inside.Walking.{plain_of}
use Rattle.typing_rules.proofs.Concluding.{all_tried, asked_asks, asked_silent, concludes, cut_back, last_stops, looked_front}
use Rattle.typing_rules.proofs.Parts.{held_is}
use Rattle.typing_rules.proofs.Reaching.{others-append}
use Rattle.typing_rules.proofs.walk.Walk.guarded.Goals as goal

pub returns-in-Ok : goal.returns-in-Ok
returns-in-Ok c a k b kb front proofs gs start others before marked tries =
    let w = c.args.self.now in
    let p = plain_of w in
    let t = w.thread in
    let u = w.purpose in
    let at = c.args.at in
    let few = few_preds p t at (a ∷ b ∷ []) in
    let small = small_terms p t at gs [] in
    let asked = proved p t at proofs 1 gs ++ [] in
    let first = front ++ few in
    let first_others = others-append front few others refl in
    let is = tries.small ∙ sym (and-true (list_all is_small_entailment gs)) in
    let few_ok : Decides few c.check_both_few_preds-few.result = (rw c.site.ensures at c.check_both_few_preds-few.ensures) a k b kb in
    let small_ok : Decides small c.require_small-small.result =
    subst (λ v. Decides (obligation p t at V16 Nothing v ∷ []) c.require_small-small.result) is (rw c.site-2.ensures at c.require_small-small.ensures) in
    let proved_ok = λ (h : _).
    subst (λ o. Decides (looked_at u o) c.require_proved-proved.result) (sym (append-nil (proved p t at proofs 1 gs)))
    ((rw c.site-3.ensures at c.require_proved-proved.ensures) u p proofs 1 gs (tries.decided (is ∙ held_is p t at _ h)).1) in
    let verdict = c.both-3.ensures front (few ++ (small ++ looked_at u asked)) before
    (λ _. c.both-2.ensures few (small ++ looked_at u asked) few_ok (λ _. c.both.ensures small (looked_at u asked) small_ok proved_ok)) in
    let looked = looked_front u first (small ++ asked) first_others ∙ ap (λ o. first ++ o) (looked_front u small asked refl) ∙ append_assoc front few (small ++ looked_at u asked) in
    let held = subst (λ o. Decides o (Ok tt)) (sym looked) (subst (λ r. Decides (front ++ (few ++ (small ++ looked_at u asked))) r) c.in-Ok.is verdict) in
    let all = all_tried u p t at proofs 1 gs [] first asked first_others start c.args.kept.now c.args.tried tries held in (
      subst (λ o. Passes u o (placed_from at 1 gs) start c.args.kept.now) (append_assoc front few (small ++ asked))
          (concludes u p t at proofs 1 gs [] first asked first_others start c.args.kept.now c.args.tried tries held (asked_asks p t at proofs 1 gs)),
      k,
      kb,
      all.0,
    )

pub returns-in-Err : goal.returns-in-Err
returns-in-Err c a k b kb front proofs gs start others before marked tries =
    let w = c.args.self.now in
    let p = plain_of w in
    let t = w.thread in
    let u = w.purpose in
    let at = c.args.at in
    let few = few_preds p t at (a ∷ b ∷ []) in
    let small = small_terms p t at gs [] in
    let asked = proved p t at proofs 1 gs ++ [] in
    let first = front ++ few in
    let first_others = others-append front few others refl in
    let is = tries.small ∙ sym (and-true (list_all is_small_entailment gs)) in
    let few_ok : Decides few c.check_both_few_preds-few.result = (rw c.site.ensures at c.check_both_few_preds-few.ensures) a k b kb in
    let small_ok : Decides small c.require_small-small.result =
    subst (λ v. Decides (obligation p t at V16 Nothing v ∷ []) c.require_small-small.result) is (rw c.site-2.ensures at c.require_small-small.ensures) in
    let proved_ok = λ (h : _).
    subst (λ o. Decides (looked_at u o) c.require_proved-proved.result) (sym (append-nil (proved p t at proofs 1 gs)))
    ((rw c.site-3.ensures at c.require_proved-proved.ensures) u p proofs 1 gs (tries.decided (is ∙ held_is p t at _ h)).1) in
    let verdict = c.both-3.ensures front (few ++ (small ++ looked_at u asked)) before
    (λ _. c.both-2.ensures few (small ++ looked_at u asked) few_ok (λ _. c.both.ensures small (looked_at u asked) small_ok proved_ok)) in
    let looked = looked_front u first (small ++ asked) first_others ∙ ap (λ o. first ++ o) (looked_front u small asked refl) ∙ append_assoc front few (small ++ looked_at u asked) in
    subst (λ o. Stops u o (placed_from at 1 gs) start c.cut.new.kept c.in-Err.fault) (append_assoc front few (small ++ asked))
    (last_stops u p t at proofs 1 gs [] first asked first_others (asked_silent p t at proofs 1 gs) start c.cut.new.kept
    (cut_back start c.args.kept.now c.cut.new.kept tries.added c.args.mark marked tries.grown c.cut.ensures) c.in-Err.fault
    (subst (λ o. Decides o (Err c.in-Err.fault)) (sym looked) (subst (λ r. Decides (front ++ (few ++ (small ++ looked_at u asked))) r) c.in-Err.is verdict)))
