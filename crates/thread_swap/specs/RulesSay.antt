-- What the rules say of a thread, by the declarations that its obligations speak of.
use Rattle.std.specs.Prelude.{ℕ, List, [], ◌∷◌, ◌++◌, replicate, true}
use Rattle.cov_ast.specs.Syntax.{Var, Lock, Thread, Program}
use Rattle.mode_compat.specs.Compatible.{no_thread}
use Rattle.thread_swap.specs.Judges.{Judging, Said, thread_part}

-- A program in which a thread has its number, and the others do nothing. (The obligations of a thread are the same in each program
-- with these variables and locks that has the thread at this number: `thread_obligations_same` of Inside/SameThread.antt.)
abbrev pub alone : List Var → List Lock → ℕ → Thread → Program
alone vars locks t d = record { version = 1; vars = vars; locks = locks; threads = replicate t no_thread ++ d ∷ [] }

abbrev pub rules_say : List Var → List Lock → ℕ → Thread → Said
rules_say vars locks t d = thread_part (alone vars locks t d) t

-- the rules as a judge, after so many statements
abbrev pub by_rules : ℕ → Judging
by_rules judged = record { says = rules_say; exact = true; judged = judged }
