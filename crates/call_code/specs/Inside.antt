-- Words of contracts of the steps that commands share: what they give. To believe what `covern` promises, nothing here need be read.
use Rattle.std.specs.Prelude.{◌≡◌, Option, Some, None}
use Rattle.call_inputs.specs.Rejections.{Rejection, rejected}
use Rattle.call_judge.specs.Check.{rejection, totals}
use Rattle.call_reports.specs.Replies.{Reply}
use Rattle.call_reports.specs.declared.answers.Totals.{Totals}
use Rattle.compiled_code.specs.Compiled.{compiled}
use Rattle.compiled_code.specs.GoodCode.{IsGoodCode}
use Rattle.cov_ast.specs.Plain.{plain}
use Rattle.cov_ast.specs.Syntax.{Parsed}
use Rattle.cov_ast.specs.View as view
use Rattle.cov_ast.specs.WellFormed.{IsWellFormed}
use Rattle.cov_ast.specs.declared.decl.Program.{Program}
use Rattle.flow_model.specs.Secure.{IsSecure}
use Rattle.policy_class.specs.Resolved.{resolved}
use Rattle.risc_machine.specs.declared.parts.Parts.{Parts}
use Rattle.schedule_replay.specs.CodeReplays.{DeclaresAsMany}
use Rattle.typing_law.specs.Accepted.{IsAccepted}
use Rattle.call_code.specs.declared.codes.Coded.{Coded}

-- The reply is that of a rejection, which there is.
abbrev pub Rejects : Option Rejection → Reply → Type 0
Rejects o reply = (q : Rejection) × (o ≡ Some q) × (reply ≡ rejected q)

-- The code of a program that is accepted, and how much was checked of it.
pub record IsCodeOf (p : Program) (c : Parts) (checked : Totals) : Type 0 where
  pub is : c ≡ compiled (view.program p)
  pub declared : DeclaresAsMany c p
  pub holds : IsAccepted (view.program p)
  pub secure : IsSecure (plain (view.program p))
  pub good : IsGoodCode (view.program p) c
  pub counted : checked ≡ totals (view.program p)

-- A program that is accepted, with its code.
pub record IsAcceptedCode (coded : Coded) : Type 0 where
  pub formed : IsWellFormed (view.program coded.program)
  pub code : IsCodeOf coded.program coded.code coded.totals

-- It is the program that a text stands for, which isn't rejected.
pub record IsOfText (p : Parsed) (coded : Coded) : Type 0 where
  pub is : view.program coded.program ≡ resolved p
  pub accepted : rejection p ≡ None
  pub good : IsAcceptedCode coded
