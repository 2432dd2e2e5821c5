-- W9: where the thread stands that doesn't guarantee what another assumes of a variable, and which guarantee it lacks.
use Rattle.std.specs.Prelude.{ℕ, ◌&&◌, List, [], ◌∷◌, ◌++◌, Bool, not, Option, Some, None, codes, decimal, if◌then◌else◌}
use Rattle.std.specs.Str.{bytes_eq}
use Rattle.cov_expr.specs.Trees.{has_number}
use Rattle.cov_ast.specs.Declarations.{have_assumed, have_guaranteed}
use Rattle.cov_ast.specs.NameTables.{find_name}
use Rattle.cov_ast.specs.Syntax.{Modes, Thread, Program}
use Rattle.cov_print.specs.Spelling.{Names, name}
use Rattle.text_parts.specs.VariableNames.{variable_names}
use Rattle.text_parts.specs.Lines.{line}

-- the first thread of a name
abbrev pub thread_named : (wanted : List ℕ) → List Thread → Option Thread
thread_named wanted [] = None
thread_named wanted (t ∷ ts) = if bytes_eq t.name wanted then Some t else thread_named wanted ts

-- the guarantee that meets what is assumed of a variable
abbrev pub guarantee_word : (assumes_hide : Bool) → List ℕ
guarantee_word assumes_hide = if assumes_hide then codes "hide" else codes "nowrite"

-- whether the other guarantees what is assumed of a variable
abbrev pub is_met : (assumes_hide : Bool) → (other : Modes) → (x : ℕ) → Bool
is_met assumes_hide other x = if assumes_hide then has_number other.guarantee_hide x else have_guaranteed other x

-- the guarantee that the other lacks for what is assumed of a variable, if it lacks one
abbrev pub missing : (assuming other : Modes) → (x : ℕ) → Option (List ℕ)
missing assuming other x =
    let hides = has_number assuming.assume_hide x in
    if have_assumed assuming x && not (is_met hides other x) then Some (guarantee_word hides) else None

-- where a thread stands: the line of its name
abbrev pub stands_text : (bytes : List ℕ) → Thread → List ℕ
stands_text bytes t = codes "  thread " ++ t.name ++ codes " stands in line " ++ decimal (line bytes t.at)

-- which guarantee it needs
abbrev pub needs_text : Names → (word : List ℕ) → (x : ℕ) → List ℕ
needs_text names word x = codes " and needs `guarantee " ++ word ++ codes " " ++ name names x ++ codes "`\n"

-- of a thread that lacks a guarantee
abbrev pub missing_text : Names → (bytes : List ℕ) → Thread → (word : Option (List ℕ)) → (x : ℕ) → List ℕ
missing_text names bytes u None x = []
missing_text names bytes u (Some word) x = stands_text bytes u ++ needs_text names word x

-- of the thread that assumes something and the other, where both are there
abbrev pub missing_of_both : Names → (bytes : List ℕ) → (t u : Option Thread) → (x : ℕ) → List ℕ
missing_of_both names bytes (Some t) (Some u) x = missing_text names bytes u (missing t.modes u.modes x) x
missing_of_both names bytes (Some t) None x = []
missing_of_both names bytes None u x = []

-- the same, where there is the variable
abbrev pub missing_of : Names → (bytes : List ℕ) → (t u : Option Thread) → Option ℕ → List ℕ
missing_of names bytes t u None = []
missing_of names bytes t u (Some x) = missing_of_both names bytes t u x

-- The line of the names of a refusal: those of the thread that assumes something, of another and of the variable.
abbrev pub guarantee_line : Program → (bytes : List ℕ) → (assuming other variable : List ℕ) → List ℕ
guarantee_line p bytes assuming other variable =
    if bytes_eq assuming other then []
    else missing_of (variable_names p.vars) bytes (thread_named assuming p.threads) (thread_named other p.threads) (find_name (variable_names p.vars) variable)
