-- What judging the bytes of a text finds, and what `check` replies then.
use Rattle.std.specs.Prelude.{◌≡◌, ℕ, List, Some, None}
use Rattle.call_inputs.specs.Programs.{IsShownFault, SpellsProgram}
use Rattle.call_judge.specs.Check.{accepted_with, name_in, totals}
use Rattle.call_judge.specs.Inside.{IsNamed}
use Rattle.call_judge.specs.declared.judge.Judged.{Judged}
use Rattle.call_judge.specs.declared.judge.Judged.TheVariants as j
use Rattle.call_reports.specs.Replies.{Reply, malformed, refused}
use Rattle.cov_ast.specs.Obligations.{first_false}
use Rattle.cov_ast.specs.Syntax.{Parsed}
use Rattle.cov_ast.specs.View as view
use Rattle.policy_class.specs.Resolved.{name_obligations}
use Rattle.typing_law.specs.Accepted.{IsAccepted, program_obligations}

-- What was found of a text: the first obligation of its names that doesn't hold; or the program that it stands for, and the first
-- obligation of that which doesn't hold; or the program, of which all hold, and how much it has.
abbrev pub FindsIn : Parsed → Judged → Type 0
FindsIn p (j.Malformed fault) = ⊥
FindsIn p (j.Unnamed refusal) = first_false (name_obligations p) ≡ Some refusal
FindsIn p (j.Refused refusal program) =
    IsNamed p (view.program program.value) × (first_false (program_obligations (view.program program.value)) ≡ Some refusal)
FindsIn p (j.Accepted found program) =
    IsNamed p (view.program program.value) × IsAccepted (view.program program.value) × (found ≡ totals (view.program program.value))

-- What was found of bytes: they spell a text, and this was found of it; or they are malformed, and this is their fault.
abbrev pub Finds : (bytes : List ℕ) → Judged → Type 0
Finds bytes (j.Malformed fault) = IsShownFault bytes fault
Finds bytes (j.Unnamed refusal) = (p : Parsed) × SpellsProgram bytes p × FindsIn p (j.Unnamed refusal)
Finds bytes (j.Refused refusal program) = (p : Parsed) × SpellsProgram bytes p × FindsIn p (j.Refused refusal program)
Finds bytes (j.Accepted found program) = (p : Parsed) × SpellsProgram bytes p × FindsIn p (j.Accepted found program)

-- what `check` replies to a file with this name of which this was found
abbrev pub reply_to : (name : List ℕ) → Judged → Reply
reply_to name (j.Malformed fault) = malformed name fault
reply_to name (j.Unnamed refusal) = refused refusal None
reply_to name (j.Refused refusal program) = refused refusal (name_in (view.program program.value).threads refusal.thread)
reply_to name (j.Accepted found program) = accepted_with found
