-- `object` and `unobject`: what is replied to a program by the object of its code, and to an object by the listing of its code.
use Rattle.std.specs.Prelude.{◌≡◌, ◌⊎◌, ℕ, List, Some, None}
use Rattle.call_inputs.specs.Plans.{Plan, does}
use Rattle.call_inputs.specs.Readings.{Reading, file, gives}
use Rattle.call_judge.specs.Check.{accepted_program}
use Rattle.call_reports.specs.Replies.{Reply, spelled}
use Rattle.call_reports.specs.declared.answers.Fault.{Fault}
use Rattle.call_reports.specs.declared.answers.Fault.TheVariants as f
use Rattle.cov_ast.specs.Syntax.{Parsed}
use Rattle.cov_expr.specs.declared.limits.TheConstants.{MOST_OBJECT_BYTES}
use Rattle.object_code.specs.Object.{HasObject, IsObjectOf, object}
use Rattle.object_code.specs.ObjectAnswers.{IsFaultyByte}
use Rattle.risc_machine.specs.Faults.{AreGood, fault_of}
use Rattle.risc_machine.specs.declared.parts.CodeBad.{CodeBad}
use Rattle.risc_machine.specs.declared.parts.Parts.{Parts}
use Rattle.call_code.specs.Codes.{RepliesListing, code_of}

-- Objects of programs ------------------------------------------------------------------------------------------

-- The reply is the object of parts that are code, so that it can be read back.
pub record RepliesObject (c : Parts) (reply : Reply) : Type 0 where
  pub is_code : AreGood c
  pub whole : HasObject c
  pub is : reply ≡ spelled (object c)

-- the reply to a text that is accepted
abbrev pub WritesObject : Parsed → Reply → Type 0
WritesObject p reply = RepliesObject (code_of p) reply

-- Objects that are read ----------------------------------------------------------------------------------------

-- The bytes are the object of code.
abbrev pub IsObjectCode : List ℕ → Parts → Type 0
IsObjectCode bytes c = IsObjectOf c bytes × (fault_of c ≡ None)

-- The bytes are no object, and the first that is faulty stands behind so many.
pub record IsByteFault (bytes : List ℕ) (fault : Fault) : Type 0 where
  pub at : ℕ
  pub faulty : IsFaultyByte bytes at
  pub is : fault ≡ f.Object at

-- The bytes are the object of parts to which a fault applies, so that they are no code.
pub record IsCodeFault (bytes : List ℕ) (fault : Fault) : Type 0 where
  pub parts : Parts
  pub object : IsObjectOf parts bytes
  pub found : CodeBad
  pub faulty : fault_of parts ≡ Some found
  pub is : fault ≡ f.Code

-- The fault of bytes that are the object of no code.
abbrev pub IsObjectFault : List ℕ → Fault → Type 0
IsObjectFault bytes fault = IsByteFault bytes fault ⊎ IsCodeFault bytes fault

-- a file that is the object of code
abbrev pub code : (name : List ℕ) → Reading Parts
code name = file name MOST_OBJECT_BYTES IsObjectCode IsObjectFault (λ c. gives c)

-- Plans --------------------------------------------------------------------------------------------------------

-- what `object` does
abbrev pub object_plan : (name : List ℕ) → Plan
object_plan name = does (accepted_program name) WritesObject

-- what `unobject` does
abbrev pub unobject_plan : (name : List ℕ) → Plan
unobject_plan name = does (code name) RepliesListing
