-- Whether threads of one program stand alike, and what a step changes, told from their first statements alone.
--
-- A thread stands in its body, so the place of its first statement tells all that remains. Beside it counts whether the
-- expression of that statement was evaluated; a word that is tested counts, and one that is stored or put out doesn't.
use Rattle.std.specs.Prelude.{ℕ, ◌==◌, ◌&&◌, List, ◌∷◌, Bool, true, false, is_some, Option, Some, None}
use Rattle.std.specs.Option.{option_or}
use Rattle.cov_expr.specs.Term.{Term}
use Rattle.cov_ast.specs.Syntax.{Stm, Block, more}
use Rattle.statement_parts.specs.Parts.{Store, evaluated, parts}
use Rattle.source_machine.specs.SourceMachine.{change_of_lock}
use Rattle.source_machine.specs.declared.change.Change.{Change}
use Rattle.source_machine.specs.declared.change.Change.TheVariants as change

-- the first statement, with its place
abbrev pub first_stm : List Block → Option (ℕ × Stm)
first_stm (more at c proofs b ∷ bs) = Some (at, c)
first_stm _ = None

abbrev pub same_test : Bool → Bool → Bool
same_test true true = true
same_test false false = true
same_test _ _ = false

abbrev pub same_word : Option ℕ → Option ℕ → Bool
same_word None None = true
same_word (Some a) (Some b) = a == b
same_word _ _ = false

-- words that the expression of a statement gave, or none: one that decides counts
abbrev pub alike_by : (guard evaluated : Option Term) → Option ℕ → Option ℕ → Bool
alike_by (Some e) v a b = same_word a b
alike_by None (Some v) a b = same_test (is_some a) (is_some b)
alike_by None None a b = true

abbrev pub alike_words : Stm → Option ℕ → Option ℕ → Bool
alike_words c a b = alike_by (parts c).guard (evaluated (parts c)) a b

abbrev pub stand_alike : Option (ℕ × Stm) → Option ℕ → Option (ℕ × Stm) → Option ℕ → Bool
stand_alike None a None b = true
stand_alike (Some c) a (Some d) b = (c.0 == d.0) && alike_words c.1 a b
stand_alike _ a _ b = false

-- once there is a word
abbrev pub change_by : Change → Option ℕ → Change
change_by done None = change.Nothing
change_by done (Some word) = done

abbrev pub change_of_parts : Option Store → (printed : Option Term) → (lock : Option ℕ) → Option ℕ → Change
change_of_parts (Some k) printed lock w = change_by (change.Word k.variable) w
change_of_parts None (Some e) lock w = change_by change.Outputs w
change_of_parts None None lock w = change_of_lock lock

-- what a step at a statement changes, whose expression was evaluated where there is a word
abbrev pub stm_change : Stm → Option ℕ → Change
stm_change c w = change_of_parts (parts c).store (parts c).printed (option_or (parts c).taken (parts c).returned) w

abbrev pub first_change : Option (ℕ × Stm) → Option ℕ → Change
first_change None w = change.Nothing
first_change (Some c) w = stm_change c.1 w
