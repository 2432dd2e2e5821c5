-- A judge in memory: a table of what it says, by the places of threads, and what it says of each other thread.
use Rattle.std.specs.Prelude.{ℕ, ◌==◌, ◌&&◌, nat_lt, List, [], ◌∷◌, Bool, false, if◌then◌else◌, Some, Ok, Err}
use Rattle.std.specs.List.{list_all}
use Rattle.typing_law.specs.declared.count.Count.{Count}
use Rattle.thread_swap.specs.Judges.{Judging, Said, goes_with, most_said}
use Rattle.thread_swap.specs.declared.row.Row.{Row}

-- of a thread with this number
abbrev pub said_of : ℕ → Said → Said
said_of t (Ok count) = Ok count
said_of t (Err refusal) = Err (record refusal { thread = Some t })

-- what a table has for a place, else another answer
abbrev pub listed_said : List Row → ℕ → Said → Said
listed_said [] at rest = rest
listed_said (r ∷ rows) at rest = if r.at == at then r.said else listed_said rows at rest

-- a table as a judge, after so many statements
abbrev pub by_table : List Row → Count → ℕ → Judging
by_table rows rest judged = record { says = λ vars locks t d. said_of t (listed_said rows d.at (Ok rest)); exact = false; judged = judged }

abbrev pub is_small : Count → Bool
is_small count = nat_lt count.statements most_said && nat_lt count.entailments most_said

-- whether an answer may be said of a thread
abbrev pub is_lawful : Said → Bool
is_lawful (Ok count) = is_small count
is_lawful (Err refusal) = goes_with refusal.rule refusal.detail

abbrev pub are_lawful : List Row → Bool
are_lawful rows = list_all (λ r. is_lawful r.said) rows
