-- Records of registers along a run: those of a thread stay true while others run.
use Rattle.std.proofs.Common.{◌≡◌, ◌≢◌, ℕ, ◌<◌, List, [], ◌∷◌, ◌++◌, length, get_or, refl, sym, ◌∙◌, ap, subst, inl, inr, eq-eqb, get_or-set_other}
use Rattle.std.specs.List.{All}
use Rattle.std.proofs.lemmas.List.Elements.{All-head, All-tail}
use Rattle.cov_expr.specs.Words.{IsSchedule}
use Rattle.cov_ast.specs.Plain.{Plain}
use Rattle.flow_model.specs.Composable.{HasCompatibleModes}
use Rattle.flow_model.specs.Holdings.{IsStableNow}
use Rattle.flow_model.specs.Source.{Item, Holders, holder, is_held_by}
use Rattle.flow_model.proofs.Holders.{held_is}
use Rattle.regalloc.specs.Plan.{Plan}
use Rattle.compiled_code.specs.Records.{IsTrueAt, KeepsRecords}
use Rattle.compiled_code.proofs.Cores.{core_from, core_line, core_of, core_step, same_from}
use Rattle.compiled_code.proofs.Coupling.{Coupled, coupled_step, next_items, now, lifted}
use Rattle.compiled_code.proofs.Steps.{AreSets}
use Rattle.compiled_code.proofs.Whole.{IsLaidOut, coupled_start, first_items}
use Rattle.risc_machine.specs.Machine.{CodeState, code_begin, code_from, line_of}
use Rattle.risc_machine.specs.declared.parts.Parts.{Parts}

append : (c : Parts) (a b : List ℕ) (s : CodeState) → code_from c s (a ++ b) ≡ code_from c (code_from c s a) b
append c [] b s = refl
append c (u ∷ a) b s = append c a b _

-- what is stable for a thread stays so where it keeps its locks
still_stable : (p : Plain) (t x : ℕ) (h k : Holders) → ((l : ℕ) → is_held_by (holder k l) t ≡ is_held_by (holder h l) t) → IsStableNow p h t x → IsStableNow p k t x
still_stable p t x h k same (inl a) = inl a
still_stable p t x h k same (inr r) = inr (r.0, held_is (holder k r.0) t (same r.0 ∙ ap (λ o. is_held_by o t) r.1 ∙ eq-eqb t t refl), r.2)

module _ (p : Plain) (sets : (t : ℕ) → AreSets p t) (apart : HasCompatibleModes p) (c : Parts) (t : ℕ) (P : Plan) where
  -- a step of another thread
  true_after : (s : CodeState) (js : List (List Item)) (u : ℕ) → u < length p.threads → u ≢ t → Coupled p sets apart c s js → IsTrueAt p s t P → IsTrueAt p (core_step c s u) t P
  true_after s js u u_in n k h r x e =
      let q = h r x e in
      let step = now p sets apart c s js u u_in k in
      let after = core_line u (core_of s u) (line_of c s u) in
      let n' : t ≢ u = λ e. n (sym e) in (
        still_stable p t x s.holders after.holders (λ l. ap (λ (h : Holders). is_held_by (holder h l) t) step.holders ∙ step.leaves.others t n' l) q.0,
        ap (λ row. get_or row r 0) (get_or-set_other s.registers u t after.registers [] n') ∙ q.1
            ∙ sym (ap (λ m. get_or m x 0) step.memory ∙ step.leaves.words x (λ w. apart s.holders t u x u_in n' w q.0)),
      )

  true_from : (us : List ℕ) (s : CodeState) (js : List (List Item)) → IsSchedule (length p.threads) us → All (λ u. u ≢ t) us → Coupled p sets apart c s js
      → IsTrueAt p s t P → IsTrueAt p (core_from c s us) t P
  true_from [] s js i n k h = h
  true_from (u ∷ us) s js i n k h =
      true_from us (core_step c s u) (next_items p sets apart c s js u i.0 k) i.1 (All-tail (λ u. u ≢ t) u us n) (coupled_step p sets apart c s js u i.0 k)
      (true_after s js u i.0 (All-head (λ u. u ≢ t) u us n) k h)

pub keeps_records : (p : Plain) (sets : (t : ℕ) → AreSets p t) (apart : HasCompatibleModes p) (c : Parts) → IsLaidOut p c → KeepsRecords p c
keeps_records p sets apart c laid m rows schedule further m_in regs s_in f_in t others P h =
    let begin = code_begin c m rows in
    let run = lifted p sets apart c schedule begin (first_items p sets apart c laid) s_in (coupled_start p sets apart c laid m rows regs m_in.complete) in
    subst (λ s. IsTrueAt p s t P)
    (sym (append c schedule further begin ∙ ap (λ s. code_from c s further) (same_from c schedule begin) ∙ same_from c further (core_from c begin schedule)))
    (true_from p sets apart c t P further (core_from c begin schedule) run.items f_in others run.coupled
    (subst (λ s. IsTrueAt p s t P) (same_from c schedule begin) h))
