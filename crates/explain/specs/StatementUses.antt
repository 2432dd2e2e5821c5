-- What the statements of a program read and write, and what the headers of threads keep for them. Annotations, as types, invariants, notes and certificates,
-- are no statements.
use Rattle.std.specs.Prelude.{ℕ, List, [], ◌++◌, flat_map, Bool, Option, Some, None, option_to_list}
use Rattle.cov_expr.specs.Term.{Term}
use Rattle.cov_expr.specs.Trees.{has_number, occurrences}
use Rattle.cov_ast.specs.Plain.{Cmds, Plain}
use Rattle.statement_parts.specs.PlainParts.{collected_in, Parts}

-- the variables of an expression, if there is one: every occurrence
abbrev pub occurrences_in : Option Term → List ℕ
occurrences_in None = []
occurrences_in (Some e) = occurrences e

-- the variables that a statement itself evaluates, in the value that it assigns, in its guard or in what it puts out
abbrev pub own_reads : Parts → List ℕ
own_reads ps = occurrences_in ps.evaluated

-- the variable that it assigns, if it does
abbrev pub own_writes : Parts → List ℕ
own_writes ps = option_to_list ps.assigned

-- the variables that the statements of a block and those in their blocks evaluate: every occurrence, in the order of the text
abbrev pub read_in : Cmds → List ℕ
read_in b = collected_in own_reads b

-- the variables that they assign, in the order of the text
abbrev pub written_in : Cmds → List ℕ
written_in b = collected_in own_writes b

-- whether a statement of some thread reads the variable, or a thread assumes from its start that no other reads it
abbrev pub has_reader : Plain → (x : ℕ) → Bool
has_reader p x = has_number (flat_map (λ t. t.modes.assume_hide) p.threads ++ flat_map (λ t. read_in t.body) p.threads) x

-- whether a statement of some thread writes the variable, or a thread assumes from its start that no other writes it
abbrev pub has_writer : Plain → (x : ℕ) → Bool
has_writer p x =
    has_number (flat_map (λ t. t.modes.assume_nowrite ++ t.modes.assume_hide) p.threads ++ flat_map (λ t. written_in t.body) p.threads) x
