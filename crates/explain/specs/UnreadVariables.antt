-- What the thread of a refusal stores to and no statement reads: others may not, as it assumes, and it doesn't itself.
use Rattle.std.specs.Prelude.{ℕ, nat_lt, List, [], ◌∷◌, ◌++◌, length, flat_map, replicate, Bool, false, not, ◌&&◌, codes, if◌then◌else◌, slice_get, Option, Some, None}
use Rattle.cov_ast.specs.Plain.{plain}
use Rattle.cov_ast.specs.Syntax.{Block, Program, Thread}
use Rattle.cov_ast.specs.Tables.{has, with_all}
use Rattle.statement_parts.specs.Parts.{assigned, collected_in, evaluated}
use Rattle.explain.specs.StatementUses.{occurrences_in}
use Rattle.text_parts.specs.VariableNames.{spaced_name}

-- Which are told --------------------------------------------------------------------------------------------------

-- the variables that the statements of a block evaluate, and those to which they store
abbrev pub read_in : Program → Block → List Bool
read_in p b = with_all (replicate (length p.vars) false) (collected_in (λ ps. occurrences_in (evaluated ps)) b)

abbrev pub stored_in : Program → Block → List Bool
stored_in p b = with_all (replicate (length p.vars) false) (collected_in assigned b)

-- by these
abbrev pub is_unread : (read stored : List Bool) → (x : ℕ) → Bool
is_unread read stored x = has stored x && not (has read x)

abbrev pub with_one : (read stored : List Bool) → (found : List ℕ) → (x : ℕ) → List ℕ
with_one read stored found x = if nat_lt (length found) 4 && is_unread read stored x then found ++ x ∷ [] else found

-- those of some variables
abbrev pub with_unread : (read stored : List Bool) → (found xs : List ℕ) → List ℕ
with_unread read stored found [] = found
with_unread read stored found (x ∷ xs) = with_unread read stored (with_one read stored found x) xs

unfoldable pub unread : Program → Thread → List ℕ
unread p t = with_unread (read_in p t.body) (stored_in p t.body) [] t.modes.assume_hide

-- The line --------------------------------------------------------------------------------------------------------

abbrev pub line_of : Program → List ℕ → List ℕ
line_of p xs = codes "  never read:  " ++ (flat_map (spaced_name (plain p)) xs ++ codes "   (the thread stores to it, and alone may read it)\n")

abbrev pub unless_none : Program → List ℕ → List ℕ
unless_none p [] = []
unless_none p (x ∷ xs) = line_of p (x ∷ xs)

abbrev pub line_of_thread : Program → Option Thread → List ℕ
line_of_thread p None = []
line_of_thread p (Some t) = unless_none p (unread p t)

-- of a refusal that names a thread
abbrev pub unread_line : Program → (thread : Option ℕ) → List ℕ
unread_line p None = []
unread_line p (Some t) = line_of_thread p (slice_get p.threads t)
