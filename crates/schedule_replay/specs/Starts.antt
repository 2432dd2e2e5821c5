-- What a JSON value says as a start: an object with a word for each variable, and for nothing else.
use Rattle.std.specs.Prelude.{◌≡◌, ℕ, ◌^◌, List, [], ◌∷◌, Bool, true, ◌&&◌, if◌then◌else◌, is_some, Option, Some, None, option_and_then, Result, Ok, Err}
use Rattle.std.specs.List.{list_any}
use Rattle.std.specs.Str.{bytes_eq}
use Rattle.cov_ast.specs.declared.decl.VarDecl.{VarDecl}
use Rattle.serde_json.specs.Data.{Data, Members, no_members, member}
use Rattle.serde_json.specs.Find.{as_object, get_member}
use Rattle.schedule_replay.specs.Json.{number_below, prefixed}
use Rattle.schedule_replay.specs.declared.fault.StartFault.{StartFault}
use Rattle.schedule_replay.specs.declared.fault.StartFault.TheVariants as faults

-- the name of the first variable that is no key
abbrev pub first_missing : Members → List VarDecl → Option (List ℕ)
first_missing ms [] = None
first_missing ms (v ∷ vs) = if is_some (get_member v.name ms) then first_missing ms vs else Some v.name

abbrev pub is_declared : List VarDecl → List ℕ → Bool
is_declared vs key = list_any (λ v. bytes_eq v.name key) vs

-- whether each key is the name of a variable
abbrev pub are_declared : List VarDecl → Members → Bool
are_declared vs no_members = true
are_declared vs (member key d ms) = is_declared vs key && are_declared vs ms

-- the word of a name, if its value is one
abbrev pub word_of : Members → List ℕ → Option ℕ
word_of ms name = option_and_then (number_below (2 ^ 32)) (get_member name ms)

abbrev pub with_word : List ℕ → Option ℕ → Result (List ℕ) StartFault → Result (List ℕ) StartFault
with_word name None rest = Err (faults.NotWord name)
with_word name (Some word) rest = prefixed (word ∷ []) rest

-- the word of each variable, or the first whose value is no word
abbrev pub words_of : Members → List VarDecl → Result (List ℕ) StartFault
words_of ms [] = Ok []
words_of ms (v ∷ vs) = with_word v.name (word_of ms v.name) (words_of ms vs)

abbrev pub unless_missing : Option (List ℕ) → Result (List ℕ) StartFault → Result (List ℕ) StartFault
unless_missing (Some name) rest = Err (faults.Missing name)
unless_missing None rest = rest

-- what the members of an object say
abbrev pub start_in : List VarDecl → Members → Result (List ℕ) StartFault
start_in vs ms = unless_missing (first_missing ms vs) (if are_declared vs ms then words_of ms vs else Err faults.Unknown)

abbrev pub start_at : List VarDecl → Option Members → Result (List ℕ) StartFault
start_at vs None = Err faults.NotObject
start_at vs (Some ms) = start_in vs ms

-- The words of the variables, in the order of their declarations, or the first fault. There may be no value. A name that is
-- declared twice is one key.
abbrev pub start_of : List VarDecl → Option Data → Result (List ℕ) StartFault
start_of vs None = Err faults.Json
start_of vs (Some d) = start_at vs (as_object d)

-- What is answered is what the value says, unless memory ran out.
abbrev pub GivesStart : (answer said : Result (List ℕ) StartFault) → Type 0
GivesStart (Err faults.NoMemory) said = Unit {0}
GivesStart answer said = said ≡ answer
