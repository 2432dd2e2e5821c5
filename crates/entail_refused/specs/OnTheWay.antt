-- To which variables is stored in front of a statement, in the text, by the steps to it.
use Rattle.std.specs.Prelude.{List, [], ◌∷◌, Bool, true, false, length, replicate, set, Option, Some, None}
use Rattle.cov_ast.specs.Syntax.{Stm, Program}
use Rattle.cov_ast.specs.Tables.{with_all}
use Rattle.statement_parts.specs.Parts.{assigned, collected_in, either, Nested, none, parts, Store, turn}
use Rattle.statement_paths.specs.Paths.{Step, passed, yes, no, head}
use Rattle.entail_refused.specs.Sites.{Site}

-- with the one to which a statement stores itself, if it does
abbrev pub with_own : List Bool → Option Store → List Bool
with_own marks None = marks
with_own marks (Some k) = set marks k.variable true

-- with those to which the statements of its blocks store
abbrev pub with_nested : List Bool → Nested → List Bool
with_nested marks none = marks
with_nested marks (turn b) = with_all marks (collected_in assigned b)
with_nested marks (either a b) = with_all (with_all marks (collected_in assigned a)) (collected_in assigned b)

abbrev pub with_statement : List Bool → Stm → List Bool
with_statement marks s = with_nested (with_own marks (parts s).store) (parts s).nested

abbrev pub with_step : List Bool → Step → List Bool
with_step marks (passed at s) = with_statement marks s
with_step marks (yes at e) = marks
with_step marks (no at e) = marks
with_step marks (head at inv) = marks

abbrev pub with_steps : List Bool → List Step → List Bool
with_steps marks [] = marks
with_steps marks (s ∷ ss) = with_steps (with_step marks s) ss

-- the set of those to which the statements in front store, or the statement itself
abbrev pub stored_before : Program → Site → List Bool
stored_before p s = with_own (with_steps (replicate (length p.vars) false) s.steps) (parts s.stm).store
