-- What is asked of the code of a program.
use Rattle.cov_ast.specs.Plain.{plain}
use Rattle.cov_ast.specs.Syntax.{Program}
use Rattle.compiled_code.specs.LoadBound.{MeetsLoadBound}
use Rattle.compiled_code.specs.Matches.{Matches}
use Rattle.compiled_code.specs.SecureCode.{IsSecureCode}
use Rattle.risc_machine.specs.declared.parts.Parts.{Parts}

-- The code matches the program, is secure, and meets the load bound, which speaks of small bodies.
pub record IsGoodCode (p : Program) (c : Parts) : Type 0 where
  pub matches : Matches p c
  pub secure : IsSecureCode (plain p) c
  pub few_loads : MeetsLoadBound (plain p) c
