-- Worked starts, schedules and replays, by computation.
use Rattle.std.proofs.Common.{◌≡◌, ℕ, List, [], ◌∷◌, Some, None, refl}
use Rattle.std.specs.Prelude.{codes, Ok, Err}
use Rattle.cov_ast.specs.declared.decl.Class.TheVariants as classes
use Rattle.cov_ast.specs.declared.decl.VarDecl.{VarDecl}
use Rattle.risc_machine.specs.Machine.{code_begin, code_stayed_from}
use Rattle.risc_machine.specs.declared.parts.Instr.TheVariants.{MovC, Store, Acquire, Release}
use Rattle.risc_machine.specs.declared.parts.Line.{Line}
use Rattle.risc_machine.specs.declared.parts.Parts.{Parts}
use Rattle.serde_json.specs.Data.{Data, null, number, string, array, object, unsigned, no_items, item, no_members, member}
use Rattle.schedule_replay.specs.Schedules.{schedule_of}
use Rattle.schedule_replay.specs.Starts.{start_of}
use Rattle.schedule_replay.specs.declared.fault.ScheduleFault.TheVariants as schedule
use Rattle.schedule_replay.specs.declared.fault.StartFault.TheVariants as start

abbrev whole : ℕ → Data
whole n = number (unsigned n)

-- two variables, and one that is declared twice
abbrev two : List VarDecl
two = record { name = codes "a"; at = 4; class = classes.Low } ∷ record { name = codes "b"; at = 12; class = classes.High } ∷ []

abbrev twice : List VarDecl
twice = record { name = codes "a"; at = 4; class = classes.Low } ∷ record { name = codes "a"; at = 12; class = classes.High } ∷ []

start_words : start_of two (Some (object (member (codes "a") (whole 4) (member (codes "b") (whole 4294967295) no_members)))) ≡ Ok (4 ∷ 4294967295 ∷ [])
start_words = refl

start_of_one_key : start_of twice (Some (object (member (codes "a") (whole 4) no_members))) ≡ Ok (4 ∷ 4 ∷ [])
start_of_one_key = refl

start_unread : start_of two None ≡ Err start.Json
start_unread = refl

start_of_list : start_of two (Some (array no_items)) ≡ Err start.NotObject
start_of_list = refl

-- the first that is missing, also where another key is unknown
start_missing : start_of two (Some (object (member (codes "a") (whole 4) (member (codes "c") (whole 0) no_members)))) ≡ Err (start.Missing (codes "b"))
start_missing = refl

-- unknown, also where a value is no word
start_unknown : start_of two (Some (object (member (codes "a") null (member (codes "b") (whole 0) (member (codes "c") (whole 0) no_members))))) ≡ Err start.Unknown
start_unknown = refl

start_of_no_word : start_of two (Some (object (member (codes "a") (whole 4) (member (codes "b") (whole 4294967296) no_members)))) ≡ Err (start.NotWord (codes "b"))
start_of_no_word = refl

entries : schedule_of 2 (Some (array (item (whole 0) (item (whole 1) (item (whole 0) no_items))))) ≡ Ok (0 ∷ 1 ∷ 0 ∷ [])
entries = refl

no_entries : schedule_of 0 (Some (array no_items)) ≡ Ok []
no_entries = refl

schedule_of_object : schedule_of 2 (Some (object no_members)) ≡ Err schedule.NotList
schedule_of_object = refl

entry_of_no_thread : schedule_of 2 (Some (array (item (whole 0) (item (whole 2) (item (string []) no_items))))) ≡ Err (schedule.BadEntry 1)
entry_of_no_thread = refl

-- code that stores a word under a lock
abbrev writing : ℕ → List Line
writing word =
    record { weight = 1; instr = Acquire 0 } ∷ record { weight = 1; instr = MovC 0 word }
    ∷ record { weight = 1; instr = Store 0 0 } ∷ record { weight = 1; instr = Release 0 } ∷ []

abbrev writers : Parts
writers = record {
  version = 1;
  vars = codes "n" ∷ [];
  locks = codes "l" ∷ [];
  threads = record { name = codes "a"; lines = writing 1 } ∷ record { name = codes "b"; lines = writing 2 } ∷ [];
}

-- the first thread takes the lock, and the second waits for it
second_waits : code_stayed_from writers (code_begin writers (0 ∷ []) []) (0 ∷ 1 ∷ 1 ∷ 0 ∷ 1 ∷ []) ≡ 3
second_waits = refl

-- steps of a finished thread don't stay
first_ends : code_stayed_from writers (code_begin writers (0 ∷ []) []) (0 ∷ 0 ∷ 0 ∷ 0 ∷ 0 ∷ 0 ∷ []) ≡ 0
first_ends = refl
