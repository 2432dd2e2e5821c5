-- A thread stands in its body at the start, and so it does after each step.
use Rattle.std.proofs.Common.{◌≡◌, ◌⊎◌, inl, inr, ℕ, List, [], ◌∷◌, refl, ap, sym, ◌∙◌, subst, arith, Bool, true, false, Option, Some, if◌then◌else◌}
use Rattle.cov_expr.specs.Term.{is_set}
use Rattle.cov_ast.specs.Plain.{Cmd, Cmds, plain_block}
use Rattle.cov_ast.specs.Plain as p
use Rattle.cov_ast.specs.Syntax.{Stm, Block, done, more}
use Rattle.cov_ast.specs.Syntax as s
use Rattle.statement_parts.specs.PlainParts.{either, Inside, nothing, parts, turns}
use Rattle.flow_model.specs.Source.{Item, run, items_then, Holders, Outputs}
use Rattle.source_machine.specs.Frames.{items}
use Rattle.source_machine.specs.Inside.Entries.{entered, AreFrames}
use Rattle.source_machine.specs.Inside.Standing.{IsAtStm, IsPart, Stands}
use Rattle.source_machine.specs.Inside.Turns.{turned}
use Rattle.source_machine.proofs.FrameLaws.{items_entered}

pub part_start : (b : Block) (after : List Item) → IsPart b after (items_then (plain_block b) after) ⊎ (items_then (plain_block b) after ≡ after)
part_start done after = inr refl
part_start (more at (s.branch e x y join) proofs b) after = inl (inl (inl refl))
part_start (more at (s.loop e inv x) proofs b) after = inl (inl (inl refl))
part_start (more at (s.note j) proofs b) after = elim (part_start b after) [ inl h ↦ inl (inr h) | inr e ↦ inr e ]
part_start (more at _ proofs b) after = inl (inl refl)

-- What a thread goes on to ---------------------------------------------------------------------------------------

-- from a statement into the blocks inside it
abbrev EntersInside : (at : ℕ) → Cmd → (is next : List Item) → Inside Cmds → Type 0
EntersInside at c is next nothing = ⊥
EntersInside at c is next (turns e x) = next ≡ items_then x (run at c ∷ is)
EntersInside at c is next (either e x y) = (next ≡ items_then x is) ⊎ (next ≡ items_then y is)

abbrev Enters : (at : ℕ) → Cmd → (is next : List Item) → Type 0
Enters at c is next = EntersInside at c is next (parts c).inside

-- from a statement past it or into it
abbrev IsNext : (at : ℕ) → Cmd → (is next : List Item) → Type 0
IsNext at c is next = (next ≡ is) ⊎ Enters at c is next

-- the parts of an equation between lists of items
at_is : {at a : ℕ} {c d : Cmd} {is js : List Item} → run at c ∷ is ≡ run a d ∷ js → at ≡ a
at_is e = cc

cmd_is : {at a : ℕ} {c d : Cmd} {is js : List Item} → run at c ∷ is ≡ run a d ∷ js → c ≡ d
cmd_is e = cc

rest_is : {at a : ℕ} {c d : Cmd} {is js : List Item} → run at c ∷ is ≡ run a d ∷ js → is ≡ js
rest_is e = cc

-- what stands at a block's first statement is in the block, or after it
entered_part : (b : Block) (after next : List Item) → next ≡ items_then (plain_block b) after → IsPart b after next ⊎ (next ≡ after)
entered_part b after next e = elim (part_start b after) [ inl h ↦ inl (subst (IsPart b after) (sym e) h) | inr f ↦ inr (e ∙ f) ]

-- past a statement, where there is no way into it
past : (at a : ℕ) (c d : Cmd) (is next after : List Item) → run at c ∷ is ≡ run a d ∷ after → IsNext at c is next → (Enters at d is next → ⊥) → next ≡ after
past at a c d is next after e (inl n) none = n ∙ rest_is e
past at a c d is next after e (inr n) none = absurd (none (subst (λ x. Enters at x is next) (cmd_is e) n))

branch_next : (e : _) (x y : Block) (join : s.State) (a : ℕ) (after next : List Item)
    → (next ≡ items_then (plain_block x) after) ⊎ (next ≡ items_then (plain_block y) after) → IsAtStm (s.branch e x y join) a after next ⊎ (next ≡ after)
branch_next e x y join a after next (inl n) = elim (entered_part x after next n) [ inl k ↦ inl (inr (inl k)) | inr f ↦ inr f ]
branch_next e x y join a after next (inr n) = elim (entered_part y after next n) [ inl k ↦ inl (inr (inr k)) | inr f ↦ inr f ]

loop_next : (e : _) (inv : s.State) (x : Block) (a : ℕ) (after next : List Item)
    → next ≡ items_then (plain_block x) (run a (p.loop e (plain_block x)) ∷ after) → IsAtStm (s.loop e inv x) a after next ⊎ (next ≡ after)
loop_next e inv x a after next n =
    elim (entered_part x (run a (p.loop e (plain_block x)) ∷ after) next n) [ inl k ↦ inl (inr k) | inr f ↦ inl (inl f) ]

mutual
  stm_next : (d : Stm) (a : ℕ) (after : List Item) (at : ℕ) (c : Cmd) (is next : List Item) → IsAtStm d a after (run at c ∷ is) → IsNext at c is next
      → IsAtStm d a after next ⊎ (next ≡ after)
  stm_next (s.branch e x y join) a after at c is next (inl h) (inl n) = inr (n ∙ rest_is h)
  stm_next (s.branch e x y join) a after at c is next (inl h) (inr n) =
      branch_next e x y join a after next (subst (λ js. (next ≡ items_then (plain_block x) js) ⊎ (next ≡ items_then (plain_block y) js)) (rest_is h)
      (subst (λ z. Enters at z is next) (cmd_is h) n))
  stm_next (s.branch e x y join) a after at c is next (inr (inl h)) n =
      elim (part_next x after at c is next h n) [ inl k ↦ inl (inr (inl k)) | inr f ↦ inr f ]
  stm_next (s.branch e x y join) a after at c is next (inr (inr h)) n =
      elim (part_next y after at c is next h n) [ inl k ↦ inl (inr (inr k)) | inr f ↦ inr f ]
  stm_next (s.loop e inv x) a after at c is next (inl h) (inl n) = inr (n ∙ rest_is h)
  stm_next (s.loop e inv x) a after at c is next (inl h) (inr n) =
      loop_next e inv x a after next
      (subst (λ js. next ≡ items_then (plain_block x) (run a (p.loop e (plain_block x)) ∷ js)) (rest_is h)
      (subst (λ z. next ≡ items_then (plain_block x) (run z (p.loop e (plain_block x)) ∷ is)) (at_is h)
      (subst (λ z. Enters at z is next) (cmd_is h) n)))
  stm_next (s.loop e inv x) a after at c is next (inr h) n =
      elim (part_next x (run a (p.loop e (plain_block x)) ∷ after) at c is next h n) [ inl k ↦ inl (inr k) | inr f ↦ inl (inl f) ]
  stm_next (s.note j) a after at c is next h n = absurd h
  stm_next _ a after at c is next h n = inr (past at a c _ is next after h n (λ x. x))

  part_next : (b : Block) (after : List Item) (at : ℕ) (c : Cmd) (is next : List Item) → IsPart b after (run at c ∷ is) → IsNext at c is next
      → IsPart b after next ⊎ (next ≡ after)
  part_next done after at c is next h n = absurd h
  part_next (more a d proofs b) after at c is next (inl h) n =
      elim (stm_next d a (items_then (plain_block b) after) at c is next h n) [
        | inl k ↦ inl (inl k)
        | inr f ↦ elim (entered_part b after next f) [ inl k ↦ inl (inr k) | inr g ↦ inr g ]
      ]
  part_next (more a d proofs b) after at c is next (inr h) n =
      elim (part_next b after at c is next h n) [ inl k ↦ inl (inr k) | inr f ↦ inr f ]

some_is_not_none : {i : Item} {is : List Item} → i ∷ is ≡ [] → ⊥
some_is_not_none e = cc

next_stands : (body : Block) (at : ℕ) (c : Cmd) (is next : List Item) → Stands body (run at c ∷ is) → IsNext at c is next → Stands body next
next_stands body at c is next (inl h) n = part_next body [] at c is next h n
next_stands body at c is next (inr e) n = absurd (some_is_not_none e)

-- Steps ----------------------------------------------------------------------------------------------------------

module _ (body : Block) (rest : Block) (bs : List Block) where
  rest_stands : (at : ℕ) (c : Cmd) → Stands body (run at c ∷ items_then (plain_block rest) (items bs)) → Stands body (items (entered rest bs))
  rest_stands at c h = next_stands body at c (items_then (plain_block rest) (items bs)) (items (entered rest bs)) h (inl (items_entered rest bs))

  branch_stands : (at : ℕ) (e : _) (x y : Block) (o : Bool) → Stands body (run at (p.branch e (plain_block x) (plain_block y)) ∷ items_then (plain_block rest) (items bs))
      → Stands body (items (entered (if o then x else y) (entered rest bs)))
  branch_stands at e x y true h =
      next_stands body at (p.branch e (plain_block x) (plain_block y)) (items_then (plain_block rest) (items bs)) _ h
      (inr (inl (items_entered x (entered rest bs) ∙ ap (items_then (plain_block x)) (items_entered rest bs))))
  branch_stands at e x y false h =
      next_stands body at (p.branch e (plain_block x) (plain_block y)) (items_then (plain_block rest) (items bs)) _ h
      (inr (inr (items_entered y (entered rest bs) ∙ ap (items_then (plain_block y)) (items_entered rest bs))))

  loop_stands : (at : ℕ) (e : _) (inv : s.State) (x : Block) (proofs : List s.Proof) (o : Bool)
      → Stands body (run at (p.loop e (plain_block x)) ∷ items_then (plain_block rest) (items bs))
      → Stands body (items (if o then entered x (more at (s.loop e inv x) proofs rest ∷ bs) else entered rest bs))
  loop_stands at e inv x proofs true h =
      next_stands body at (p.loop e (plain_block x)) (items_then (plain_block rest) (items bs)) _ h (inr (items_entered x (more at (s.loop e inv x) proofs rest ∷ bs)))
  loop_stands at e inv x proofs false h = rest_stands at (p.loop e (plain_block x)) h

module _ (m : List ℕ) (h : Holders) (o : Outputs) (body : Block) where
  pub turned_stands : (t vars locks room : ℕ) (bs : List Block) (word : Option ℕ) → AreFrames vars locks room bs → Stands body (items bs)
      → Stands body (items (turned t m h o bs word).frames)
  turned_stands t vars locks room [] word f q = q
  turned_stands t vars locks room (done ∷ bs) word f q = absurd f.1
  turned_stands t vars locks room (more at (s.branch e x y join) proofs rest ∷ bs) (Some w) f q = branch_stands body rest bs at e x y (is_set w) q
  turned_stands t vars locks room (more at (s.loop e inv x) proofs rest ∷ bs) (Some w) f q = loop_stands body rest bs at e inv x proofs (is_set w) q
  turned_stands t vars locks room (more at (s.note j) proofs rest ∷ bs) word f q = absurd f.1
  turned_stands t vars locks room (more at c proofs rest ∷ bs) word f q = let g = rest_stands body rest bs at _ q in grind arith
