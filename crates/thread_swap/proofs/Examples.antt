-- A program of which a thread is replaced twice, and texts of threads for it, by computation. Places are those of the text above each.
use Rattle.std.proofs.Common.{◌≡◌, ℕ, List, [], ◌∷◌, map, set, true, false, refl, Option, Some, None, Ok}
use Rattle.cov_expr.specs.Term.{const}
use Rattle.cov_ast.specs.Declarations.{no_modes}
use Rattle.cov_ast.specs.Syntax.{low, Stm, assign, lock, unlock, Thread, Program, Parsed}
use Rattle.cov_ast.specs.View.{Placed, block_of}
use Rattle.cov_ast.specs.declared.refusal.Detail.TheVariants.{One}
use Rattle.cov_ast.specs.declared.refusal.Rule.TheVariants.{V6}
use Rattle.thread_swap.specs.Binding.{bound, first_fault}
use Rattle.thread_swap.specs.Judges.{Said, risen}
use Rattle.thread_swap.specs.MemJudges.{by_table}
use Rattle.thread_swap.specs.Replacements.{thread_named}
use Rattle.thread_swap.specs.RulesSay.{by_rules}
use Rattle.thread_swap.specs.SwapLines.{swap_lines}
use Rattle.thread_swap.specs.Swaps.{all_open, due, settled, swapped, verdict_on}
use Rattle.thread_swap.specs.declared.judged.Judged.TheVariants.{Accepted, Refused}
use Rattle.thread_swap.specs.declared.swap_fault.SwapFault.TheVariants.{Declares, NoThread, Unknown, Version}

abbrev stm : ℕ → Stm → Placed
stm at s = record { at = at; stm = s; proofs = [] }

abbrev thread_of : ℕ → ℕ → List Placed → ℕ → Thread
thread_of letter at body end = record { name = letter ∷ []; at = at; modes = no_modes; body = block_of body; end = end }

-- var n: low; lock l nowrite n; thread a { lock l; n := 1; unlock l; } thread b { lock l; n := 2; unlock l; }
abbrev writes_under_lock : Program
writes_under_lock = record {
  version = 1;
  vars = record { name = 110 ∷ []; at = 4; class = low } ∷ [];
  locks = record { name = 108 ∷ []; at = 17; nowrite = 0 ∷ []; hide = []; inv = None } ∷ [];
  threads =
      thread_of 97 37 (stm 41 (lock 0) ∷ stm 49 (assign 0 (const 1) None []) ∷ stm 57 (unlock 0) ∷ []) 67
      ∷ thread_of 98 76 (stm 80 (lock 0) ∷ stm 88 (assign 0 (const 2) None []) ∷ stm 96 (unlock 0) ∷ []) 106 ∷ [];
}

-- thread a { lock l; lock l; } thread a { }, in which 0 is the name a, and 1 the name l
abbrev two_threads : Parsed
two_threads = record {
  version = 1;
  names = (97 ∷ []) ∷ (108 ∷ []) ∷ [];
  uses = record { name = 1; lock = true; at = 16 } ∷ record { name = 1; lock = true; at = 24 } ∷ [];
  vars = [];
  locks = [];
  threads = thread_of 97 7 (stm 11 (lock 1) ∷ stm 19 (lock 1) ∷ []) 27 ∷ thread_of 97 36 [] 40 ∷ [];
}

-- The threads by the ids of the program -----------------------------------------------------------------------------------

abbrev locks_twice : Thread
locks_twice = thread_of 97 7 (stm 11 (lock 0) ∷ stm 19 (lock 0) ∷ []) 27

abbrev does_nothing : Thread
does_nothing = thread_of 97 36 [] 40

two_threads-fault : first_fault writes_under_lock two_threads ≡ None
two_threads-fault = refl

two_threads-bound : bound writes_under_lock two_threads ≡ locks_twice ∷ does_nothing ∷ []
two_threads-bound = refl

two_threads-number : thread_named writes_under_lock (97 ∷ []) ≡ 0
two_threads-number = refl

-- Faults ------------------------------------------------------------------------------------------------------------------

-- var x: low;
abbrev declares_x : Parsed
declares_x = record {
  version = 1;
  names = (120 ∷ []) ∷ [];
  uses = [];
  vars = record { name = 120 ∷ []; at = 4; class = low } ∷ [];
  locks = [];
  threads = [];
}

declares_x-fault : first_fault writes_under_lock declares_x ≡ Some (Declares 4)
declares_x-fault = refl

-- version 2; var x: low;
version_first : first_fault writes_under_lock (record declares_x { version = 2 }) ≡ Some Version
version_first = refl

-- thread b { n := 1; x := 1; } thread c { }, in which 1 is n, and 2 is x
abbrev writes_x : List Thread
writes_x = thread_of 98 7 (stm 11 (assign 1 (const 1) None []) ∷ stm 19 (assign 2 (const 1) None []) ∷ []) 27 ∷ []

abbrev names_c : Parsed
names_c = record {
  version = 1;
  names = (98 ∷ []) ∷ (110 ∷ []) ∷ (120 ∷ []) ∷ (99 ∷ []) ∷ [];
  uses = record { name = 1; lock = false; at = 11 } ∷ record { name = 2; lock = false; at = 19 } ∷ [];
  vars = [];
  locks = [];
  threads = thread_of 98 7 (stm 11 (assign 1 (const 1) None []) ∷ stm 19 (assign 2 (const 1) None []) ∷ []) 27 ∷ thread_of 99 36 [] 40 ∷ [];
}

-- a thread that isn't there comes first, though it stands last
names_c-fault : first_fault writes_under_lock names_c ≡ Some (NoThread 36)
names_c-fault = refl

writes_x-fault : first_fault writes_under_lock (record names_c { threads = writes_x }) ≡ Some (Unknown 19)
writes_x-fault = refl

-- Verdicts ----------------------------------------------------------------------------------------------------------------

abbrev none_kept : List (Option Said)
none_kept = all_open writes_under_lock

start-verdict : verdict_on (by_rules 0) writes_under_lock ≡ Accepted (record { statements = 6; entailments = 2 })
start-verdict = refl

start-due : due writes_under_lock none_kept ≡ 6
start-due = refl

start-kept : settled (by_rules 0) writes_under_lock none_kept
    ≡ Some (Ok (record { statements = 3; entailments = 1 })) ∷ Some (Ok (record { statements = 3; entailments = 1 })) ∷ []
start-kept = refl

-- thread a { lock l; lock l; } in the place of the first thread
abbrev first_swapped : Program
first_swapped = swapped writes_under_lock 0 locks_twice

abbrev first_open : List (Option Said)
first_open = set (settled (by_rules 0) writes_under_lock none_kept) 0 None

first-verdict : verdict_on (by_rules 0) first_swapped ≡ Refused (record { rule = V6; thread = Some 0; place = 19; detail = One (108 ∷ []) })
first-verdict = refl

first-due : due first_swapped first_open ≡ 2
first-due = refl

-- and then thread a { }
abbrev second_swapped : Program
second_swapped = swapped first_swapped 0 does_nothing

abbrev second_open : List (Option Said)
second_open = set (settled (by_rules 0) first_swapped first_open) 0 None

second-verdict : verdict_on (by_rules 0) second_swapped ≡ Accepted (record { statements = 3; entailments = 1 })
second-verdict = refl

second-due : due second_swapped second_open ≡ 0
second-due = refl

-- a judge in memory that says so much of every thread
table-verdict : verdict_on (by_table [] (record { statements = 7; entailments = 9 }) 0) writes_under_lock
    ≡ Accepted (record { statements = 14; entailments = 18 })
table-verdict = refl

-- Lines -------------------------------------------------------------------------------------------------------------------

two_threads-lines : swap_lines (by_rules 0) writes_under_lock (locks_twice ∷ does_nothing ∷ [])
    ≡ record { verdict = Accepted (record { statements = 6; entailments = 2 }); checked = 6 }
    ∷ record { verdict = Refused (record { rule = V6; thread = Some 0; place = 19; detail = One (108 ∷ []) }); checked = 2 }
    ∷ record { verdict = Accepted (record { statements = 3; entailments = 1 }); checked = 0 } ∷ []
two_threads-lines = refl

table-lines : swap_lines (by_table [] (record { statements = 7; entailments = 9 }) 0) writes_under_lock []
    ≡ record { verdict = Accepted (record { statements = 14; entailments = 18 }); checked = 6 } ∷ []
table-lines = refl

-- at the end of a count it rises by what is left, and then no more
last-lines : map (λ l. l.checked) (swap_lines (by_rules 18446744073709551613) writes_under_lock (locks_twice ∷ [])) ≡ 2 ∷ 0 ∷ []
last-lines = refl

-- Counts ------------------------------------------------------------------------------------------------------------------

-- a count stands still at its last value
last-risen : risen 18446744073709551614 6 ≡ 18446744073709551615
last-risen = refl
