-- Which programs are accepted.
use Rattle.std.specs.Prelude.{List, ◌++◌, IsTrue}
use Rattle.std.specs.List.{flat_map}
use Rattle.cov_ast.specs.Syntax.{Program}
use Rattle.cov_ast.specs.Obligations.{Obligation, all_hold}
use Rattle.mode_compat.specs.Compatible.{threads_of}
use Rattle.mode_compat.specs.Declared.{declaration_obligations}
use Rattle.typing_law.specs.ThreadObligations.{thread_obligations}

-- the obligations of a program whose names are in order: those of its declarations (W3 to W9), and then those of each
-- thread (V1 to V16)
abbrev pub program_obligations : Program → List Obligation
program_obligations p = declaration_obligations p ++ flat_map (thread_obligations p) (threads_of p)

-- Every obligation holds.
abbrev pub IsAccepted : Program → Type 0
IsAccepted p = IsTrue (all_hold (program_obligations p))
