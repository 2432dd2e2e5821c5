-- Steps of code that leave what threads share as it is.
use Rattle.std.proofs.Common.{◌≡◌, ◌≢◌, ◌⊎◌, inl, inr, ℕ, [], ◌∷◌, get_or, Bool, true, false, Option, Some, None, if◌then◌else◌, refl, sym, ap, ◌∙◌, subst, arith}
use Rattle.std.proofs.lemmas.List.{get_or-set_other}
use Rattle.cov_ast.specs.Plain.{Plain}
use Rattle.flow_model.specs.Agreement.{MemoriesAgree}
use Rattle.flow_model.specs.Runs.{has_moved}
use Rattle.flow_model.specs.declared.machine.Stepped.TheVariants as stepped
use Rattle.risc_machine.specs.CodeAgreement.{CodeStatesAgree}
use Rattle.risc_machine.specs.Machine.{CodeState, register, position, effect, next_position, at_position, code_stays, after_line, line_of, lines_of, line_says, code_step, code_says}
use Rattle.risc_machine.specs.declared.parts.Instr.{Instr}
use Rattle.risc_machine.specs.declared.parts.Instr.TheVariants.{Load, Store, Jump, Jz, Nop, MovC, MovR, Bin, Acquire, Release, Out}
use Rattle.risc_machine.specs.declared.parts.Line.{Line}
use Rattle.risc_machine.specs.declared.parts.Parts.{Parts}
use Rattle.std.specs.List.{slice_get}
use Rattle.schedule_replay.specs.Inside.{is_quiet_instr, is_quiet_line}
use Rattle.schedule_replay.specs.Machines.{GrowsByOne, IsQuiet, code_semantics}
use Rattle.schedule_replay.proofs.StepLaws.{same_outputs}
use Rattle.schedule_replay.proofs.QuietLaws.{same_or_not}

-- Steps that don't go on ---------------------------------------------------------------------------------------

instr_still : (s : CodeState) (t : ℕ) (i : Instr) (stays : Bool) → has_moved (if stays then stepped.Stayed else stepped.Moved) ≡ false
    → (if stays then s else at_position (effect s t i) t (next_position s t i)) ≡ s
instr_still s t i true e = refl
instr_still s t i false e = absurd cc

line_still : (s : CodeState) (t : ℕ) (l : Option Line) → has_moved (line_says s t l) ≡ false → after_line s t l ≡ s
line_still s t None e = refl
line_still s t (Some l) e = instr_still s t l.instr (code_stays t s.holders l.instr) e

-- A step that doesn't go on changes nothing.
pub code_step_still : (c : Parts) (s : CodeState) (t : ℕ) → has_moved (code_says c s t) ≡ false → code_step c s t ≡ s
code_step_still c s t e = line_still s t (line_of c s t) e

-- Steps that change registers and a position alone -------------------------------------------------------------

record IsQuietStep (s now : CodeState) (t : ℕ) : Type 0 where
  pub memory : now.memory ≡ s.memory
  pub holders : now.holders ≡ s.holders
  pub outputs : now.outputs ≡ s.outputs
  pub elsewhere : (u : ℕ) → u ≢ t → position now u ≡ position s u

goes_on : (s effected : CodeState) (t i : ℕ) → effected.memory ≡ s.memory → effected.holders ≡ s.holders → effected.outputs ≡ s.outputs → effected.positions ≡ s.positions
    → IsQuietStep s (at_position effected t i) t
goes_on s effected t i m h o ps = record {
  memory = m;
  holders = h;
  outputs = o;
  elsewhere = λ u e. get_or-set_other effected.positions t u i 0 e ∙ ap (λ qs. get_or qs u 0) ps;
}

instr_quiet : (s : CodeState) (t : ℕ) (w : ℕ) (i : Instr) → is_quiet_instr i ≡ true → IsQuietStep s (after_line s t (Some (record { weight = w; instr = i }))) t
instr_quiet s t w (Load r x) e = goes_on s (effect s t (Load r x)) t (next_position s t (Load r x)) refl refl refl refl
instr_quiet s t w (Store x r) e = absurd cc
instr_quiet s t w (Jump i) e = goes_on s s t i refl refl refl refl
instr_quiet s t w (Jz r i) e = goes_on s s t (next_position s t (Jz r i)) refl refl refl refl
instr_quiet s t w Nop e = goes_on s s t (next_position s t Nop) refl refl refl refl
instr_quiet s t w (MovC r k) e = goes_on s (effect s t (MovC r k)) t (next_position s t (MovC r k)) refl refl refl refl
instr_quiet s t w (MovR r q) e = goes_on s (effect s t (MovR r q)) t (next_position s t (MovR r q)) refl refl refl refl
instr_quiet s t w (Bin op r q) e = goes_on s (effect s t (Bin op r q)) t (next_position s t (Bin op r q)) refl refl refl refl
instr_quiet s t w (Acquire l) e = absurd cc
instr_quiet s t w (Release l) e = absurd cc
instr_quiet s t w (Out r) e = absurd cc

line_quiet : (s : CodeState) (t : ℕ) (l : Option Line) → is_quiet_line l ≡ true → IsQuietStep s (after_line s t l) t
line_quiet s t None e = record { memory = refl; holders = refl; outputs = refl; elsewhere = λ u d. refl }
line_quiet s t (Some l) e = instr_quiet s t l.weight l.instr e

module _ (p : Plain) (c : Parts) (s1 s2 : CodeState) (t : ℕ) (h : CodeStatesAgree p s1 s2) (quiet : is_quiet_line (line_of c s1 t) ≡ true) where
  first_step : IsQuietStep s1 (code_step c s1 t) t
  first_step = line_quiet s1 t (line_of c s1 t) quiet

  second_step : IsQuietStep s2 (code_step c s2 t) t
  second_step = line_quiet s2 t (line_of c s2 t) (ap (λ k. is_quiet_line (slice_get (lines_of c t) k)) (sym (h.threads t)) ∙ quiet)

  quiet_memories : MemoriesAgree p (code_step c s1 t).memory (code_step c s1 t).holders (code_step c s2 t).memory (code_step c s2 t).holders
  quiet_memories = rw (first_step.memory, first_step.holders, second_step.memory, second_step.holders) h.memories

  quiet_positions : (u : ℕ) → position (code_step c s1 t) t ≡ position (code_step c s2 t) t → (u ≡ t) ⊎ (u ≢ t) → position (code_step c s1 t) u ≡ position (code_step c s2 t) u
  quiet_positions u same (inl e) = subst (λ v. position (code_step c s1 t) v ≡ position (code_step c s2 t) v) (sym e) same
  quiet_positions u same (inr e) = first_step.elsewhere u e ∙ h.threads u ∙ sym (second_step.elsewhere u e)

  quiet_code_agree : position (code_step c s1 t) t ≡ position (code_step c s2 t) t → CodeStatesAgree p (code_step c s1 t) (code_step c s2 t)
  quiet_code_agree same = record {
    memories = quiet_memories;
    outputs = first_step.outputs ∙ h.outputs ∙ sym second_step.outputs;
    threads = λ u. quiet_positions u same (same_or_not u t);
  }

-- So the next step of a thread is quiet where its line is.
pub code_is_quiet : (c : Parts) (s : CodeState) (t : ℕ) → is_quiet_line (line_of c s t) ≡ true → IsQuiet code_semantics c s t
code_is_quiet c s t quiet p other agree same = quiet_code_agree p c s other t agree quiet same

-- Outputs ------------------------------------------------------------------------------------------------------

effect_grows : (s : CodeState) (t : ℕ) (i : Instr) → GrowsByOne s.outputs (effect s t i).outputs
effect_grows s t (Load r x) = same_outputs s.outputs
effect_grows s t (Store x r) = same_outputs s.outputs
effect_grows s t (Jump i) = same_outputs s.outputs
effect_grows s t (Jz r i) = same_outputs s.outputs
effect_grows s t Nop = same_outputs s.outputs
effect_grows s t (MovC r k) = same_outputs s.outputs
effect_grows s t (MovR r q) = same_outputs s.outputs
effect_grows s t (Bin op r q) = same_outputs s.outputs
effect_grows s t (Acquire l) = same_outputs s.outputs
effect_grows s t (Release l) = same_outputs s.outputs
effect_grows s t (Out r) = record { more = register s t r ∷ []; few = omega arith; grown = refl }

instr_grows : (s : CodeState) (t : ℕ) (i : Instr) (stays : Bool)
    → GrowsByOne s.outputs (if stays then s else at_position (effect s t i) t (next_position s t i)).outputs
instr_grows s t i true = same_outputs s.outputs
instr_grows s t i false = effect_grows s t i

line_grows : (s : CodeState) (t : ℕ) (l : Option Line) → GrowsByOne s.outputs (after_line s t l).outputs
line_grows s t None = same_outputs s.outputs
line_grows s t (Some l) = instr_grows s t l.instr (code_stays t s.holders l.instr)

-- A step adds at most one output.
pub code_step_grows : (c : Parts) (s : CodeState) (t : ℕ) → GrowsByOne s.outputs (code_step c s t).outputs
code_step_grows c s t = line_grows s t (line_of c s t)
