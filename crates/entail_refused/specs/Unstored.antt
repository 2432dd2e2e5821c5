-- To which variables of what is asked nothing is stored: in the block at whose end it is asked, or in front of the statement in the text, where the thread stores to them elsewhere.
use Rattle.std.specs.Prelude.{ℕ, nat_lt, List, [], ◌∷◌, ◌++◌, ◌&&◌, length, flat_map, replicate, Bool, false, true, not, codes, if◌then◌else◌, Option, Some, None}
use Rattle.cov_expr.specs.Term.{Term}
use Rattle.cov_expr.specs.Trees.{has_number, vars}
use Rattle.cov_ast.specs.Plain.{plain}
use Rattle.cov_ast.specs.Syntax.{Block, Program}
use Rattle.cov_ast.specs.Tables.{has, with_all}
use Rattle.mode_compat.specs.Compatible.{numbered}
use Rattle.statement_parts.specs.Parts.{assigned, collected_in, either, Nested, none, parts, turn}
use Rattle.entail_origins.specs.AskedVariables.{variables_of, vars_of}
use Rattle.entail_origins.specs.declared.kinds.End.{End}
use Rattle.entail_origins.specs.declared.kinds.End.TheVariants as end
use Rattle.entail_origins.specs.declared.kinds.Question.{Question}
use Rattle.entail_origins.specs.declared.kinds.Question.TheVariants as q
use Rattle.statement_paths.specs.VariableSets.{stable_after_steps}
use Rattle.text_parts.specs.VariableNames.{spaced_name}
use Rattle.entail_refused.specs.OnTheWay.{stored_before}
use Rattle.entail_refused.specs.Remarked.{asked_of}
use Rattle.entail_refused.specs.Sites.{Site}

-- The block -------------------------------------------------------------------------------------------------------

-- the block inside a statement at whose end something is asked of its state, if it is at the end of one
abbrev pub of_turn : End → Block → Option Block
of_turn end.Here b = None
of_turn end.Entry b = None
of_turn end.FirstBlock b = None
of_turn end.SecondBlock b = None
of_turn end.Body b = Some b

abbrev pub of_either : End → (first second : Block) → Option Block
of_either end.Here a b = None
of_either end.Entry a b = None
of_either end.FirstBlock a b = Some a
of_either end.SecondBlock a b = Some b
of_either end.Body a b = None

abbrev pub block_at : End → Nested → Option Block
block_at e none = None
block_at e (turn b) = of_turn e b
block_at e (either a b) = of_either e a b

abbrev pub asked_block : Question → Nested → Option Block
asked_block (q.Predicate e i) blocks = block_at e blocks
asked_block (q.TypeOf e z) blocks = block_at e blocks
asked_block question blocks = None

-- Which are told --------------------------------------------------------------------------------------------------

-- the set of the variables to which the statements of a block store
abbrev pub stored : Program → Block → List Bool
stored p b = with_all (replicate (length p.vars) false) (collected_in assigned b)

abbrev pub is_within : Option (List Bool) → (x : ℕ) → Bool
is_within None x = true
is_within (Some marks) x = has marks x

-- of those within some sets, if there are such, and not in another
module _ (within also : Option (List Bool)) (without : List Bool) where
  -- whether a variable is to be told, beside those that were found
  abbrev pub is_told : (found : List ℕ) → (x : ℕ) → Bool
  is_told found x = nat_lt (length found) 4 && is_within within x && is_within also x && not (has without x) && not (has_number found x)

  abbrev pub with_one : (found : List ℕ) → (x : ℕ) → List ℕ
  with_one found x = if is_told found x then found ++ x ∷ [] else found

  abbrev pub with_each : (found : List ℕ) → List ℕ → List ℕ
  with_each found [] = found
  with_each found (x ∷ xs) = with_each (with_one found x) xs

-- those of the variables of a goal, and then of what is asked with it
abbrev pub with_asked : (within : Option (List Bool)) → (without : List Bool) → (asked : Option Term) → (goal : Term) → List ℕ
with_asked within without asked goal = with_each within None without (with_each within None without [] (vars goal)) (vars_of asked)

-- The line --------------------------------------------------------------------------------------------------------

-- of some variables, with words on where a store was looked for
abbrev pub line_of : Program → List ℕ → (words : List ℕ) → List ℕ
line_of p xs words = codes "  no store to: " ++ (flat_map (spaced_name (plain p)) xs ++ words)

abbrev pub unless_none : Program → List ℕ → (words : List ℕ) → List ℕ
unless_none p [] words = []
unless_none p (x ∷ xs) words = line_of p (x ∷ xs) words

-- Of a block, at whose end the type that is listed for a variable is asked, if the block stores to that. Of a predicate nothing is told: mostly it was lost in front of the block.
abbrev pub block_line : Program → Block → Question → (asked : Option Term) → (goal : Term) → List ℕ
block_line p b (q.TypeOf e z) asked goal =
    if has (stored p b) z then unless_none p (with_asked None (stored p b) asked goal) (codes "   (in this block)\n") else []
block_line p b question asked goal = []

-- what is asked of a statement of a thread; of the variables whose types make up the goal only those that no other thread writes there
abbrev pub statement_line : Program → (t : ℕ) → Site → (asked : Option Term) → (goal : Term) → List ℕ
statement_line p t s asked goal =
    let within = Some (stored p (numbered p t).body) in
    let stable = Some (stable_after_steps (plain p) t s.steps) in
    let before = stored_before p s in
    unless_none p (with_each within stable before (with_asked within before asked goal) (variables_of s.question s.stm)) (codes "   (in front of it, in the text; elsewhere the thread has one)\n")

abbrev pub line_in : Program → (t : ℕ) → Option Block → Site → (asked : Option Term) → (goal : Term) → List ℕ
line_in p t (Some b) s asked goal = block_line p b s.question asked goal
line_in p t None s asked goal = statement_line p t s asked goal

abbrev pub unstored_line : Program → (t : ℕ) → Site → (hypotheses : List Term) → (goal : Term) → List ℕ
unstored_line p t s hypotheses goal = line_in p t (asked_block s.question (parts s.stm).nested) s (asked_of s.question hypotheses) goal
