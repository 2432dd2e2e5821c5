-- What a text of threads means for a program: its first fault, or else its threads, in which each use of a name is an id of the
-- program.
use Rattle.std.specs.Prelude.{◌≡◌, ℕ, ◌==◌, ◌&&◌, List, [], ◌∷◌, map, Bool, not, if◌then◌else◌, Option, Some, None, option_map}
use Rattle.std.specs.List.{find, position_or_len}
use Rattle.std.specs.Option.{option_or}
use Rattle.std.specs.Str.{bytes_eq}
use Rattle.cov_ast.specs.Syntax.{Var, Lock, Thread, Program, Parsed}
use Rattle.cov_ast.specs.declared.parsed.NameUse.{NameUse}
use Rattle.policy_class.specs.Resolved.{is_among, resolved_thread, text_of}
use Rattle.thread_swap.specs.Replacements.{thread_names}
use Rattle.thread_swap.specs.declared.swap_fault.SwapFault.{SwapFault}
use Rattle.thread_swap.specs.declared.swap_fault.SwapFault.TheVariants.{Version, Declares, NoThread, Unknown, NoMemory}

abbrev pub var_names : Program → List (List ℕ)
var_names p = map (λ v. v.name) p.vars

abbrev pub lock_names : Program → List (List ℕ)
lock_names p = map (λ l. l.name) p.locks

-- The threads --------------------------------------------------------------------------------------------------------

-- the id of the variable of the program with a name, by the number that the name has in the text
abbrev pub var_of : Program → Parsed → ℕ → ℕ
var_of p e number = position_or_len (bytes_eq (text_of e number)) (var_names p)

-- and of the lock
abbrev pub lock_of : Program → Parsed → ℕ → ℕ
lock_of p e number = position_or_len (bytes_eq (text_of e number)) (lock_names p)

-- the threads of the text by the ids of the program, in the order of the text
abbrev pub bound : Program → Parsed → List Thread
bound p e = map (resolved_thread (var_of p e) (lock_of p e)) e.threads

-- Faults -------------------------------------------------------------------------------------------------------------

-- the text may put out, and the program may not
abbrev pub version_fault : Program → Parsed → Option SwapFault
version_fault p e = if e.version == 2 && p.version == 1 then Some Version else None

-- the first variable that the text declares, or else the first lock, since locks stand behind variables
abbrev pub declares_fault : List Var → List Lock → Option SwapFault
declares_fault (v ∷ vs) ls = Some (Declares v.at)
declares_fault [] (l ∷ ls) = Some (Declares l.at)
declares_fault [] [] = None

-- the first thread with a name that no thread of the program has
abbrev pub thread_fault : Program → List Thread → Option SwapFault
thread_fault p ts = option_map (λ t. NoThread t.at) (find (λ t. not (is_among (thread_names p) t.name)) ts)

-- whether a name that is used is that of a variable, or of a lock, of the program
abbrev pub is_known : Program → Parsed → NameUse → Bool
is_known p e u = is_among (if u.lock then lock_names p else var_names p) (text_of e u.name)

-- the first use of another name
abbrev pub unknown_fault : Program → Parsed → Option SwapFault
unknown_fault p e = option_map (λ u. Unknown u.at) (find (λ u. not (is_known p e u)) e.uses)

-- the first fault, kind by kind in this order
abbrev pub first_fault : Program → Parsed → Option SwapFault
first_fault p e =
    option_or (version_fault p e) (option_or (declares_fault e.vars e.locks) (option_or (thread_fault p e.threads) (unknown_fault p e)))

-- It is this fault, unless memory ran out.
abbrev pub IsFault : Option SwapFault → SwapFault → Type 0
IsFault first Version = first ≡ Some Version
IsFault first (Declares at) = first ≡ Some (Declares at)
IsFault first (NoThread at) = first ≡ Some (NoThread at)
IsFault first (Unknown at) = first ≡ Some (Unknown at)
IsFault first NoMemory = Unit {0}
