-- Words of contracts of the steps that commands share: what they give. To believe what `covern` promises, nothing here need be read.
use Rattle.std.specs.Prelude.{◌≡◌, Some, None}
use Rattle.call_inputs.specs.Rejections.{Rejection, rejected}
use Rattle.call_judge.specs.Check.{name_in, name_rejection, rejection}
use Rattle.call_reports.specs.Replies.{Reply, refused}
use Rattle.cov_ast.specs.Obligations.{first_false}
use Rattle.cov_ast.specs.Syntax.{Parsed, Program}
use Rattle.cov_ast.specs.WellFormed.{IsWellFormed}
use Rattle.cov_ast.specs.declared.refusal.Refusal.{Refusal}
use Rattle.policy_class.specs.Resolved.{name_obligations, resolved}
use Rattle.typing_law.specs.Accepted.{program_obligations}

-- The program that a text stands for, whose names are in order.
pub record IsNamed (p : Parsed) (program : Program) : Type 0 where
  pub is : program ≡ resolved p
  pub formed : IsWellFormed program
  pub held : first_false (name_obligations p) ≡ None

-- the reply to a text whose names aren't in order
abbrev pub IsUnnamed : Parsed → Reply → Type 0
IsUnnamed p reply = (q : Rejection) × (name_rejection p ≡ Some q) × (reply ≡ rejected q)

-- the reply to a text that isn't accepted
abbrev pub IsRejected : Parsed → Reply → Type 0
IsRejected p reply = (q : Rejection) × (rejection p ≡ Some q) × (reply ≡ rejected q)

-- the reply to a program of which an obligation doesn't hold, the first such
abbrev pub IsProgramRejected : Program → Reply → Type 0
IsProgramRejected program reply =
    (refusal : Refusal) × (first_false (program_obligations program) ≡ Some refusal) × (reply ≡ refused refusal (name_in program.threads refusal.thread))
