-- What `check` replies to the bytes of a file.
use Rattle.std.specs.Prelude.{◌≡◌, ◌⊎◌, ℕ, List}
use Rattle.call_inputs.specs.Programs.{SpellsProgram, IsShownFault}
use Rattle.call_judge.specs.Check.{Judges}
use Rattle.call_reports.specs.Replies.{Reply, malformed}
use Rattle.call_reports.specs.declared.answers.Fault.{Fault}
use Rattle.cov_ast.specs.Syntax.{Parsed}

-- The reply of `check` to these bytes of a file: the program that they spell is judged, or they are malformed, with their fault.
abbrev pub ChecksBytes : (name bytes : List ℕ) → Reply → Type 0
ChecksBytes name bytes reply =
    ((p : Parsed) × SpellsProgram bytes p × Judges p reply) ⊎ ((fault : Fault) × IsShownFault bytes fault × (reply ≡ malformed name fault))
