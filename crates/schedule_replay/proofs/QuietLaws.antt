-- Steps that leave what threads share as it is.
use Rattle.std.proofs.Common.{◌≡◌, ◌≢◌, ◌⊎◌, inl, inr, ℕ, List, [], ◌∷◌, map, true, false, refl, sym, ap, ◌∙◌, subst, arith}
use Rattle.std.proofs.lemmas.List.{set-get_or, get_or-set_other}
use Rattle.cov_ast.specs.Plain.{Plain, skip}
use Rattle.cov_ast.specs.declared.decl.Program.{Program}
use Rattle.flow_model.specs.Agreement.{AreAlike, IsAlikeAt, MemoriesAgree, StatesAgree, shape}
use Rattle.flow_model.specs.Runs.{has_moved}
use Rattle.flow_model.specs.Source.{Item, run, emit, Holders, Outputs, local, Run, turn, step, put_back, items_of, step_says}
use Rattle.source_machine.specs.SourceMachine.{change_of}
use Rattle.schedule_replay.specs.Inside.{is_quiet, stores}
use Rattle.schedule_replay.specs.Machines.{GrowsByOne, IsQuiet, source_semantics}
use Rattle.schedule_replay.proofs.StepLaws.{same_outputs}

pub same_or_not : (u t : ℕ) → (u ≡ t) ⊎ (u ≢ t)
same_or_not u t = grind arith

-- Steps that don't go on ---------------------------------------------------------------------------------------

turn_still : (t : ℕ) (m : List ℕ) (h : Holders) (o : Outputs) (is : List Item) → has_moved (step_says t h is) ≡ false → turn t m h o is ≡ local m h o is
turn_still t m h o is e = grind arith

-- A step that doesn't go on changes nothing.
pub step_still : (r : Run) (t : ℕ) → has_moved (step_says t r.holders (items_of r t)) ≡ false → step r t ≡ r
step_still r t e =
    ap (put_back r t) (turn_still t r.memory r.holders r.outputs (items_of r t) e)
    ∙ ap (λ is. record { memory = r.memory; holders = r.holders; outputs = r.outputs; items = is }) (set-get_or r.items t [])

-- Steps that change nothing but what remains of a thread -------------------------------------------------------

turn_quiet : (t : ℕ) (m : List ℕ) (h : Holders) (o : Outputs) (is : List Item) → is_quiet (change_of is) ≡ true → turn t m h o is ≡ local m h o (turn t m h o is).items
turn_quiet t m h o is e = grind arith

change_shape : (is : List Item) → change_of (map shape is) ≡ change_of is
change_shape (run at skip ∷ rest) = refl
change_shape _ = refl

-- Threads that are alike change the same.
change_alike : (is js : List Item) → AreAlike is js → change_of is ≡ change_of js
change_alike is js e = sym (change_shape is) ∙ ap change_of e ∙ change_shape js

module _ (p : Plain) (r s : Run) (t : ℕ) (h : StatesAgree p r s) (quiet : is_quiet (change_of (items_of r t)) ≡ true) (alike : IsAlikeAt (step r t) (step s t) t) where
  first_turn : turn t r.memory r.holders r.outputs (items_of r t) ≡ local r.memory r.holders r.outputs (turn t r.memory r.holders r.outputs (items_of r t)).items
  first_turn = turn_quiet t r.memory r.holders r.outputs (items_of r t) quiet

  second_turn : turn t s.memory s.holders s.outputs (items_of s t) ≡ local s.memory s.holders s.outputs (turn t s.memory s.holders s.outputs (items_of s t)).items
  second_turn = turn_quiet t s.memory s.holders s.outputs (items_of s t) (ap is_quiet (sym (change_alike (items_of r t) (items_of s t) (h.threads t))) ∙ quiet)

  quiet_memories : MemoriesAgree p (step r t).memory (step r t).holders (step s t).memory (step s t).holders
  quiet_memories =
      subst (λ x. MemoriesAgree p x.memory x.holders (step s t).memory (step s t).holders) (sym first_turn)
      (subst (λ y. MemoriesAgree p r.memory r.holders y.memory y.holders) (sym second_turn) h.memories)

  quiet_items : (u : ℕ) → (u ≡ t) ⊎ (u ≢ t) → AreAlike (items_of (step r t) u) (items_of (step s t) u)
  quiet_items u (inl e) = subst (λ v. AreAlike (items_of (step r t) v) (items_of (step s t) v)) (sym e) alike
  quiet_items u (inr e) =
      ap (map shape) (get_or-set_other r.items t u (turn t r.memory r.holders r.outputs (items_of r t)).items [] e)
      ∙ h.threads u ∙ sym (ap (map shape) (get_or-set_other s.items t u (turn t s.memory s.holders s.outputs (items_of s t)).items [] e))

  quiet_agree : StatesAgree p (step r t) (step s t)
  quiet_agree = record {
    memories = quiet_memories;
    outputs = ap (λ x. x.outputs) first_turn ∙ h.outputs ∙ sym (ap (λ x. x.outputs) second_turn);
    threads = λ u. quiet_items u (same_or_not u t);
  }

-- So the next step of a thread is quiet where it changes nothing but what remains of the thread.
pub source_is_quiet : (p : Program) (r : Run) (t : ℕ) → is_quiet (change_of (items_of r t)) ≡ true → IsQuiet source_semantics p r t
source_is_quiet program r t quiet p other agree alike = quiet_agree p r other t agree quiet alike

-- Steps that don't store ---------------------------------------------------------------------------------------

turn_memory : (t : ℕ) (m : List ℕ) (h : Holders) (o : Outputs) (is : List Item) → stores (change_of is) ≡ false → (turn t m h o is).memory ≡ m
turn_memory t m h o is e = grind arith

-- A step that doesn't store leaves the memory.
pub step_memory : (r : Run) (t : ℕ) → stores (change_of (items_of r t)) ≡ false → (step r t).memory ≡ r.memory
step_memory r t e = turn_memory t r.memory r.holders r.outputs (items_of r t) e

-- Outputs ------------------------------------------------------------------------------------------------------

grows_none : (o n : Outputs) → n ≡ o → GrowsByOne o n
grows_none o n e = subst (GrowsByOne o) (sym e) (same_outputs o)

turn_grows : (t : ℕ) (m : List ℕ) (h : Holders) (o : Outputs) (is : List Item) → GrowsByOne o (turn t m h o is).outputs
turn_grows t m h o (emit at word ∷ rest) = record { more = word ∷ []; few = omega arith; grown = refl }
turn_grows t m h o is = grows_none o (turn t m h o is).outputs (grind arith)

-- A step adds at most one output.
pub step_grows : (r : Run) (t : ℕ) → GrowsByOne r.outputs (step r t).outputs
step_grows r t = turn_grows t r.memory r.holders r.outputs (items_of r t)
