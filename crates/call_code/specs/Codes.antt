-- The code of a program: what `compile` replies, and from which starts and to which ends code runs.
use Rattle.std.specs.Prelude.{◌≡◌, ℕ, List, length, replicate}
use Rattle.replay_inputs.specs.Inputs.{PairInput}
use Rattle.call_inputs.specs.Plans.{Plan, does}
use Rattle.call_inputs.specs.Readings.{Reading, gives, tries}
use Rattle.call_judge.specs.Check.{accepted_program, rejection}
use Rattle.call_judge.specs.Starts.{unfit_starts}
use Rattle.call_reports.specs.Replies.{Reply, spelled}
use Rattle.code_text.specs.Listing.{IsListed, listing}
use Rattle.compiled_code.specs.Compiled.{compiled}
use Rattle.cov_ast.specs.Syntax.{Parsed}
use Rattle.policy_class.specs.Resolved.{resolved}
use Rattle.risc_machine.specs.Faults.{AreGood}
use Rattle.risc_machine.specs.Machine.{CodeState, code_after, code_begin}
use Rattle.risc_machine.specs.declared.parts.Parts.{Parts}

-- the code of the program that a text stands for
abbrev pub code_of : Parsed → Parts
code_of p = compiled (resolved p)

-- The listing -------------------------------------------------------------------------------------------------

-- The reply is the listing of parts that are code, so that it can be read back.
pub record RepliesListing (c : Parts) (reply : Reply) : Type 0 where
  pub is_code : AreGood c
  pub listed : IsListed c
  pub is : reply ≡ spelled (listing c)

-- the reply to a text that is accepted
abbrev pub Compiles : Parsed → Reply → Type 0
Compiles p reply = RepliesListing (code_of p) reply

-- Runs --------------------------------------------------------------------------------------------------------

-- the registers of so many threads, with 0 in each
abbrev pub cleared : (threads : ℕ) → List (List ℕ)
cleared threads = replicate threads (replicate 8 0)

-- the start from a memory, with 0 in each register
abbrev pub code_start : Parts → (memory : List ℕ) → CodeState
code_start c memory = code_begin c memory (cleared (length c.threads))

-- the state after a schedule
abbrev pub code_end : Parts → (memory schedule : List ℕ) → CodeState
code_end c memory schedule = code_after c memory (cleared (length c.threads)) schedule

-- Plans -------------------------------------------------------------------------------------------------------

-- what two runs take, if their program is accepted, and their starts are fit
abbrev pub accepted_pair : PairInput → Reading PairInput
accepted_pair i = tries (rejection i.program) (tries (unfit_starts i.program i.left i.right) (gives i))

-- what `compile` does
abbrev pub compile_plan : (name : List ℕ) → Plan
compile_plan name = does (accepted_program name) Compiles
