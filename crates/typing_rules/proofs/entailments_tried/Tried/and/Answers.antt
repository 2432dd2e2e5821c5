use Rattle.std.proofs.Common.{◌≡◌, ◌+◌, ◌&&◌, ◌++◌, length, map, sym, ap, append_assoc, ◌∙◌, subst, arith}
use Rattle.std.specs.Option.{option_or}
use Rattle.std.proofs.lemmas.Bool.{and_parts}
use Rattle.std.proofs.lemmas.List.{length-append}
use Rattle.std.proofs.lemmas.List.Folds.{list_all-append}
use Rattle.typing_law.specs.Entailments.{is_small_entailment}
use Rattle.typing_rules.specs.Inside.Walking.{asked_from}
use Rattle.typing_rules.specs.Keeping.{kept_for, view_kept}
use Rattle.typing_rules.specs.Unproved.{unproved_for}
use Rattle.typing_rules.proofs.KeptLaws.{kept-append}
use Rattle.typing_rules.proofs.AskedLaws.{asked-append}
use Rattle.typing_rules.proofs.UnprovedLaws.{unproved_for-append}
use Rattle.typing_rules.proofs.entailments_tried.Tried.and.Goals as goal
use Rattle.typing_rules.proofs.entailments_tried.Tried.and.Goals.{then-self, else-self}

pub returns : goal.returns
returns c u at proofs n gs hs a b d h k =
    let first = c.args.self in
    let next = c.args.next in
    let is : c.if-self.small ≡ (first.small && next.small) = elim c.if-self.branch [
      | then-self w ↦ w.small-is ∙ ap (λ b. b && next.small) (sym w.if-self.true)
      | else-self w ↦ w.small-is ∙ w.if-self.false ∙ ap (λ b. b && next.small) (sym w.if-self.false)
    ] in
    record {
      few = omega (arith, length-append gs hs, h.few, k.few);
      small = is ∙ (λ i. h.small i && k.small i) ∙ sym (list_all-append is_small_entailment gs hs);
      added = h.added ++ k.added;
      grown = k.grown ∙ ap (λ l. l ++ k.added) h.grown ∙ append_assoc (map view_kept a) h.added k.added;
      decided = λ e.
          let both_small = and_parts first.small next.small (sym is ∙ e) in
          let one = h.decided both_small.0 in
          let two = k.decided both_small.1 in
          let counted : first.count + next.count ≡ length (gs ++ hs) = omega (arith, length-append gs hs, one.0, two.0) in
          let rest : next.unproved ≡ unproved_for u proofs (n + length gs) hs = subst (λ m. next.unproved ≡ unproved_for u proofs (n + m) hs) one.0 two.1 in
          let behind : k.added ≡ kept_for u (asked_from at proofs (n + length gs) hs) = subst (λ m. k.added ≡ kept_for u (asked_from at proofs (n + m) hs)) one.0 two.2 in (
            counted,
            c.or-unproved.ensures ∙ (λ i. option_or (one.1 i) (rest i)) ∙ sym (unproved_for-append proofs u n gs hs),
            (λ i. one.2 i ++ behind i) ∙ sym (kept-append u (asked_from at proofs n gs) (asked_from at proofs (n + length gs) hs)) ∙ ap (kept_for u) (sym (asked-append at proofs n gs hs)),
          );
    }
