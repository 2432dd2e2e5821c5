-- A step on frames is the step of the definition on what they stand for.
use Rattle.std.proofs.Common.{◌≡◌, ℕ, ◌+◌, ◌≤◌, List, [], ◌∷◌, length, refl, ap, sym, ◌∙◌, arith, Bool, true, false, Option, Some, None, if◌then◌else◌}
use Rattle.std.proofs.lemmas.List.{length-append, length-set}
use Rattle.cov_expr.specs.Term.{Term, is_set}
use Rattle.cov_ast.specs.Plain.{plain_block, none}
use Rattle.cov_ast.specs.Plain as p
use Rattle.cov_ast.specs.Syntax.{Block, done, more}
use Rattle.cov_ast.specs.Syntax as s
use Rattle.cov_ast.specs.WellFormed.{IsBlockInRange}
use Rattle.flow_model.specs.Source.{Local, local, Holders, Outputs, Item, turn, items_then, step_says}
use Rattle.source_machine.specs.Frames.{items, with_word}
use Rattle.source_machine.specs.Inside.Entries.{entered, height, AreFrames}
use Rattle.source_machine.specs.Inside.Turns.{Turned, turned, moved}
use Rattle.source_machine.proofs.FrameLaws.{items_entered, items_then_last, length_entered, entered_fine}

-- what threads share and what remains of the thread, as the definition sees them
abbrev pub seen : Turned → Local
seen q = local q.memory q.holders q.outputs (with_word q.word (items q.frames))

-- The step on frames does and says what the definition has.
pub record IsTurn (t : ℕ) (m : List ℕ) (h : Holders) (o : Outputs) (is : List Item) (q : Turned) : Type 0 where
  pub does : seen q ≡ turn t m h o is
  pub says : q.answer ≡ step_says t h is

seen_moved : (m : List ℕ) (h : Holders) (o : Outputs) (b : Block) (bs : List Block)
    → seen (moved m h o (entered b bs)) ≡ local m h o (items_then (plain_block b) (items bs))
seen_moved m h o b bs = ap (local m h o) (items_entered b bs)

module _ (t : ℕ) (m : List ℕ) (h : Holders) (o : Outputs) (at : ℕ) (proofs : List s.Proof) (rest : Block) (bs : List Block) where
  branch_does : (one other : Block) (u : Bool) → seen (moved m h o (entered (if u then one else other) (entered rest bs)))
      ≡ local m h o (items_then (if u then plain_block one else plain_block other) (items_then (plain_block rest) (items bs)))
  branch_does one other true = seen_moved m h o one (entered rest bs) ∙ ap (λ is. local m h o (items_then (plain_block one) is)) (items_entered rest bs)
  branch_does one other false = seen_moved m h o other (entered rest bs) ∙ ap (λ is. local m h o (items_then (plain_block other) is)) (items_entered rest bs)

  loop_does : (e : Term) (inv : s.State) (body : Block) (u : Bool)
      → seen (moved m h o (if u then entered body (more at (s.loop e inv body) proofs rest ∷ bs) else entered rest bs))
      ≡ local m h o (items_then (if u then p.◌then_all◌ (plain_block body) (p.next at (p.loop e (plain_block body)) none) else none) (items_then (plain_block rest) (items bs)))
  loop_does e inv body true =
      seen_moved m h o body (more at (s.loop e inv body) proofs rest ∷ bs)
      ∙ ap (local m h o) (sym (items_then_last (plain_block body) at (p.loop e (plain_block body)) (items_then (plain_block rest) (items bs))))
  loop_does e inv body false = seen_moved m h o rest bs

-- at frames that are ready, one step on them is the definition's
module _ (t : ℕ) (m : List ℕ) (h : Holders) (o : Outputs) (vars locks room : ℕ) where
  pub turned_is : (bs : List Block) (word : Option ℕ) → AreFrames vars locks room bs → IsTurn t m h o (with_word word (items bs)) (turned t m h o bs word)
  turned_is [] None f = record { does = refl; says = refl }
  turned_is [] (Some w) f = record { does = refl; says = refl }
  turned_is (done ∷ bs) word f = absurd f.1
  turned_is (more at (s.branch e one other join) proofs rest ∷ bs) (Some w) f = record { does = branch_does t m h o at proofs rest bs one other (is_set w); says = refl }
  turned_is (more at (s.loop e inv body) proofs rest ∷ bs) (Some w) f = record { does = loop_does t m h o at proofs rest bs e inv body (is_set w); says = refl }
  turned_is (more at (s.note j) proofs rest ∷ bs) word f = absurd f.1
  turned_is (more at c proofs rest ∷ bs) word f = record { does = grind (arith, items_entered); says = grind arith }

-- Frames stay fit to run -----------------------------------------------------------------------------------------

module _ (vars locks room : ℕ) where
  branch_fine : (one other : Block) (bs : List Block) (o : Bool) → IsBlockInRange vars locks one → IsBlockInRange vars locks other
      → length bs + height one ≤ room → length bs + height other ≤ room → AreFrames vars locks room bs → AreFrames vars locks room (entered (if o then one else other) bs)
  branch_fine one other bs true ry rn hy hn f = entered_fine vars locks room one bs ry hy f
  branch_fine one other bs false ry rn hy hn f = entered_fine vars locks room other bs rn hn f

  loop_fine : (body rest : Block) (b : Block) (bs : List Block) (o : Bool) → AreFrames vars locks room (entered body (b ∷ bs)) → AreFrames vars locks room (entered rest bs)
      → AreFrames vars locks room (if o then entered body (b ∷ bs) else entered rest bs)
  loop_fine body rest b bs true x y = x
  loop_fine body rest b bs false x y = y

  rest_fine : (at : ℕ) (c : s.Stm) (proofs : List s.Proof) (rest : Block) (bs : List Block) → AreFrames vars locks room (more at c proofs rest ∷ bs)
      → AreFrames vars locks room (entered rest bs)
  rest_fine at c proofs rest bs f = entered_fine vars locks room rest bs (f.0).2 (let k = f.2 in omega arith) f.3

  pub turned_fine : (t : ℕ) (m : List ℕ) (h : Holders) (o : Outputs) (bs : List Block) (word : Option ℕ) → AreFrames vars locks room bs → AreFrames vars locks room (turned t m h o bs word).frames
  turned_fine t m h o [] word f = f
  turned_fine t m h o (done ∷ bs) word f = absurd f.1
  turned_fine t m h o (more at (s.branch e one other join) proofs rest ∷ bs) (Some w) f =
      let k = f.2 in
      let n = length_entered rest bs in
      branch_fine one other (entered rest bs) (is_set w) ((f.0).0).1 ((f.0).0).2 (omega arith) (omega arith)
      (rest_fine at (s.branch e one other join) proofs rest bs f)
  turned_fine t m h o (more at (s.loop e inv body) proofs rest ∷ bs) (Some w) f =
      let k = f.2 in
      loop_fine body rest (more at (s.loop e inv body) proofs rest) bs (is_set w)
      (entered_fine vars locks room body (more at (s.loop e inv body) proofs rest ∷ bs) ((f.0).0).2 (omega arith) f)
      (rest_fine at (s.loop e inv body) proofs rest bs f)
  turned_fine t m h o (more at c proofs rest ∷ bs) word f = let g = rest_fine at c proofs rest bs f in grind arith

-- Sizes stay ---------------------------------------------------------------------------------------------------

module _ (t : ℕ) (m : List ℕ) (h : Holders) (o : Outputs) where
  pub turned_memory : (bs : List Block) (word : Option ℕ) → length (turned t m h o bs word).memory ≡ length m
  turned_memory bs word = grind (arith, length-set)

  pub turned_holders : (bs : List Block) (word : Option ℕ) → length (turned t m h o bs word).holders ≡ length h
  turned_holders bs word = grind (arith, length-set)

  -- Outputs grow by one word at most.
  pub turned_outputs : (bs : List Block) (word : Option ℕ) → length (turned t m h o bs word).outputs ≤ length o + 1
  turned_outputs bs word = grind (arith, length-append)
