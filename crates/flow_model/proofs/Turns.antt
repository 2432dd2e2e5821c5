-- A turn of a thread keeps lengths and words.
use Rattle.std.proofs.Common.{◌≡◌, ℕ, zero, suc, List, [], ◌∷◌, ◌++◌, length, set, true, false, if◌then◌else◌, length-set, arith}
use Rattle.cov_expr.specs.Term.{is_set}
use Rattle.cov_expr.specs.Words.{IsWord, AreWords}
use Rattle.cov_expr.proofs.Values.{value_word}
use Rattle.cov_ast.specs.Plain.{assign, branch, loop, output, Cmds, none, next, ◌then_all◌}
use Rattle.flow_model.specs.Source.{Item, run, put, test, emit, Holders, Outputs, Local, turn, items_then}
use Rattle.flow_model.proofs.WordBodies.{CmdHasWords, CmdsHaveWords}

pub set_words : (m : List ℕ) (x w : ℕ) → AreWords m → IsWord w → AreWords (set m x w)
set_words [] x w h k = h
set_words (v ∷ m) zero w h k = (k, h.1)
set_words (v ∷ m) (suc x) w h k = (h.0, set_words m x w h.1 k)

-- Lengths ------------------------------------------------------------------------------------------------------

pub long_memory : (t : ℕ) (m : List ℕ) (h : Holders) (o : Outputs) (is : List Item) → length (turn t m h o is).memory ≡ length m
long_memory t m h o is = grind (arith, length-set)

pub long_holders : (t : ℕ) (m : List ℕ) (h : Holders) (o : Outputs) (is : List Item) → length (turn t m h o is).holders ≡ length h
long_holders t m h o is = grind (arith, length-set)

-- Words --------------------------------------------------------------------------------------------------------

abbrev pub ItemHasWords : Item → Type 0
ItemHasWords (run at c) = CmdHasWords c
ItemHasWords (put at x w) = IsWord w
ItemHasWords (test at w a b) = CmdsHaveWords a × CmdsHaveWords b
ItemHasWords (emit at w) = IsWord w

abbrev pub ItemsHaveWords : List Item → Type 0
ItemsHaveWords [] = Unit {0}
ItemsHaveWords (i ∷ is) = ItemHasWords i × ItemsHaveWords is

pub then_words : (a b : Cmds) → CmdsHaveWords a → CmdsHaveWords b → CmdsHaveWords (◌then_all◌ a b)
then_words none b h k = k
then_words (next at c a) b h k = (h.0, then_words a b h.1 k)

pub items_words : (a : Cmds) (is : List Item) → CmdsHaveWords a → ItemsHaveWords is → ItemsHaveWords (items_then a is)
items_words none is h k = k
items_words (next at c a) is h k = (h.0, items_words a is h.1 k)

pub more_words : (ws : List ℕ) (w : ℕ) → AreWords ws → IsWord w → AreWords (ws ++ w ∷ [])
more_words [] w h k = (k, tt)
more_words (v ∷ ws) w h k = (h.0, more_words ws w h.1 k)

abbrev pub TurnHasWords : Local → Type 0
TurnHasWords r = AreWords r.memory × AreWords r.outputs × ItemsHaveWords r.items

pub turn_words : (t : ℕ) (m : List ℕ) (h : Holders) (o : Outputs) (is : List Item) → AreWords m → AreWords o → ItemsHaveWords is → TurnHasWords (turn t m h o is)
turn_words t m h o (run at (assign x e) ∷ is) w p k = (w, p, (value_word e m k.0 w, k.1))
turn_words t m h o (run at (branch e a b) ∷ is) w p k = (w, p, ((k.0.1, k.0.2), k.1))
turn_words t m h o (run at (loop e b) ∷ is) w p k = (w, p, ((then_words b (next at (loop e b) none) k.0.1 (k.0, tt), tt), k.1))
turn_words t m h o (run at (output e) ∷ is) w p k = (w, p, (value_word e m k.0 w, k.1))
turn_words t m h o (put at x v ∷ is) w p k = (set_words m x v w k.0, p, k.1)
turn_words t m h o (test at v a b ∷ is) w p k =
    (w, p, elim (is_set v) as (λ f. ItemsHaveWords (items_then (if f then a else b) is)) [ true ↦ items_words a is k.0.0 k.1 | false ↦ items_words b is k.0.1 k.1 ])
turn_words t m h o (emit at v ∷ is) w p k = (w, more_words o v p k.0, k.1)
turn_words t m h o _ w p k = grind arith
