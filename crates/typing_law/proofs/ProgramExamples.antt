-- Small programs of which the verdict and the held locks are known, by computation, and programs that aren't disciplined.
-- Places are those of the text above each program.
use Rattle.std.proofs.Common.{◌≡◌, ◌≤◌, ℕ, zero, suc, List, [], ◌∷◌, true, false, Some, None, refl, subst, inl, inr, arith}
use Rattle.cov_expr.specs.declared.expr.Op.TheVariants.{Add, Eq, Le}
use Rattle.cov_expr.specs.Term.{Term, const, var, bin}
use Rattle.cov_ast.specs.Syntax.{Class, low, high, Var, Lock, Modes, Stm, skip, assign, lock, unlock, branch, loop, output, Thread, Program}
use Rattle.cov_ast.specs.Declarations.{no_modes}
use Rattle.cov_ast.specs.Plain.{plain, no_state}
use Rattle.cov_ast.specs.Plain as code
use Rattle.cov_ast.specs.View.{Placed, block_of}
use Rattle.cov_ast.specs.Obligations.{first_false}
use Rattle.cov_ast.specs.declared.refusal.Rule.TheVariants.{V9, W9}
use Rattle.cov_ast.specs.declared.refusal.Detail.TheVariants.{Number, Three}
use Rattle.flow_model.specs.Source.{Run, emit, run, after, items_of}
use Rattle.flow_model.specs.Holdings.{IsStableNow}
use Rattle.mode_compat.specs.HeldSets.{AreHeldBy}
use Rattle.typing_law.specs.Accepted.{IsAccepted, program_obligations}
use Rattle.typing_law.specs.Verdicts.{counts}
use Rattle.typing_law.specs.Disciplined.{held_at, held_in_front_of, IsEvaluable, IsDisciplinedAt, IsDisciplined}

abbrev variable : ℕ → ℕ → Class → Var
variable letter at class = record { name = letter ∷ []; at = at; class = class }

abbrev lock_of : ℕ → (nowrite : List ℕ) → Lock
lock_of at nowrite = record { name = 108 ∷ []; at = at; nowrite = nowrite; hide = []; inv = None }

abbrev thread_of : ℕ → ℕ → Modes → List Placed → ℕ → Thread
thread_of letter at modes body end = record { name = letter ∷ []; at = at; modes = modes; body = block_of body; end = end }

abbrev one_plus : Term → Term
one_plus e = bin Add (const 1) e

abbrev stm : ℕ → Stm → Placed
stm at s = record { at = at; stm = s; proofs = [] }

-- Verdicts -------------------------------------------------------------------------------------------------------

-- Rules of declarations come first: var x: low; var h: high; thread a assume nowrite x { x := h; } thread b { }
abbrev breaks_both : Program
breaks_both = record {
  version = 1;
  vars = variable 120 4 low ∷ variable 104 16 high ∷ [];
  locks = [];
  threads =
      thread_of 97 32 (record no_modes { assume_nowrite = 0 ∷ [] }) (stm 53 (assign 0 (var 1) None []) ∷ []) 61
      ∷ thread_of 98 70 no_modes [] 74 ∷ [];
}

breaks_both-refused : first_false (program_obligations breaks_both)
    ≡ Some (record { rule = W9; thread = None; place = 32; detail = Three (97 ∷ []) (98 ∷ []) (120 ∷ []) })
breaks_both-refused = refl

-- Threads come by declaration: var x: low; var h: high; thread a { x := h; } thread b { x := h + h; }
abbrev both_break : Program
both_break = record {
  version = 1;
  vars = variable 120 4 low ∷ variable 104 16 high ∷ [];
  locks = [];
  threads =
      thread_of 97 32 no_modes (stm 36 (assign 0 (var 1) None []) ∷ []) 44
      ∷ thread_of 98 53 no_modes (stm 57 (assign 0 (bin Add (var 1) (var 1)) None []) ∷ []) 69 ∷ [];
}

both_break-refused : first_false (program_obligations both_break) ≡ Some (record { rule = V9; thread = Some 0; place = 36; detail = Number 1 })
both_break-refused = refl

-- Held locks along the text --------------------------------------------------------------------------------------

-- var n: low; lock l nowrite n; thread a { skip; lock l; while n <= 3 { if n == 2 { skip; } else { } n := n + 1; }
-- unlock l; } thread b { lock l; n := 0; unlock l; }
abbrev counts_under_lock : Program
counts_under_lock = record {
  version = 1;
  vars = variable 110 4 low ∷ [];
  locks = lock_of 17 (0 ∷ []) ∷ [];
  threads =
      thread_of 97 37 no_modes (
      stm 41 skip
      ∷ stm 47 (lock 0)
      ∷ stm 55 (loop (bin Le (var 0) (const 3)) no_state (block_of (
      stm 70 (branch (bin Eq (var 0) (const 2)) (block_of (stm 82 skip ∷ [])) (block_of []) no_state)
      ∷ stm 99 (assign 0 (bin Add (var 0) (const 1)) None []) ∷ [])))
      ∷ stm 113 (unlock 0) ∷ []) 123
      ∷ thread_of 98 132 no_modes (stm 136 (lock 0) ∷ stm 144 (assign 0 (const 0) None []) ∷ stm 152 (unlock 0) ∷ []) 162 ∷ [];
}

counts_under_lock-accepted : IsAccepted counts_under_lock
counts_under_lock-accepted = refl

counts_under_lock-counts : counts counts_under_lock ≡ record { statements = 10; entailments = 4 }
counts_under_lock-counts = refl

before_lock : held_at counts_under_lock 0 47 ≡ false ∷ []
before_lock = refl

at_loop : held_at counts_under_lock 0 55 ≡ true ∷ []
at_loop = refl

in_branch : held_at counts_under_lock 0 82 ≡ true ∷ []
in_branch = refl

in_loop : held_at counts_under_lock 0 99 ≡ true ∷ []
in_loop = refl

before_unlock : held_at counts_under_lock 0 113 ≡ true ∷ []
before_unlock = refl

of_the_other : held_at counts_under_lock 1 136 ≡ false ∷ []
of_the_other = refl

-- no statement of the thread stands there
elsewhere : held_at counts_under_lock 1 47 ≡ []
elsewhere = refl

-- the first thread is in front of the addition, and the second waits for the lock
abbrev waiting : Run
waiting = after (plain counts_under_lock) (1 ∷ []) (0 ∷ 0 ∷ 0 ∷ 0 ∷ 1 ∷ 0 ∷ 0 ∷ [])

waiting-held : held_in_front_of counts_under_lock 0 (items_of waiting 0) ≡ true ∷ []
waiting-held = refl

waiting-locks : AreHeldBy waiting.holders 0 (true ∷ [])
waiting-locks zero = refl
waiting-locks (suc l) = refl

waiting-disciplined : IsDisciplinedAt counts_under_lock waiting 0
waiting-disciplined = record {
  locks = waiting-locks;
  evaluates = λ e h.
      let same : bin Add (var 0) (const 1) ≡ e = cc in
      subst (IsEvaluable (plain counts_under_lock) waiting.holders 0) same
      (record { narrow = omega arith; one_unstable = λ i j d lt inside. absurd (omega arith) });
  spares = λ u x inside d stable. refl;
}

-- version 2; var n: low; lock l nowrite n; thread t { lock l; output n + n; unlock l; }
abbrev speaks_under_lock : Program
speaks_under_lock = record {
  version = 2;
  vars = variable 110 15 low ∷ [];
  locks = lock_of 28 (0 ∷ []) ∷ [];
  threads =
      thread_of 116 48 no_modes (stm 52 (lock 0) ∷ stm 60 (output (bin Add (var 0) (var 0))) ∷ stm 74 (unlock 0) ∷ []) 84 ∷ [];
}

speaks_under_lock-accepted : IsAccepted speaks_under_lock
speaks_under_lock-accepted = refl

speaks_under_lock-counts : counts speaks_under_lock ≡ record { statements = 3; entailments = 1 }
speaks_under_lock-counts = refl

at_output : held_at speaks_under_lock 0 60 ≡ true ∷ []
at_output = refl

-- the thread is in front of an output that is pending
abbrev speaking : Run
speaking = after (plain speaks_under_lock) (2 ∷ []) (0 ∷ 0 ∷ [])

speaking-items : items_of speaking 0 ≡ emit 60 4 ∷ run 74 (code.unlock 0) ∷ []
speaking-items = refl

speaking-held : held_in_front_of speaks_under_lock 0 (items_of speaking 0) ≡ true ∷ []
speaking-held = refl

-- Programs that aren't disciplined -------------------------------------------------------------------------------

-- A thread ends with a lock: lock l; thread t { lock l; }
abbrev keeps_lock : Program
keeps_lock = record { version = 1; vars = []; locks = lock_of 5 [] ∷ []; threads = thread_of 116 15 no_modes (stm 19 (lock 0) ∷ []) 27 ∷ [] }

keeps_lock-undisciplined : ¬ IsDisciplined keeps_lock
keeps_lock-undisciplined k =
    let e : false ≡ true = (k [] (record { complete = refl; words = tt }) (0 ∷ []) (omega arith, tt) 0 (omega arith)).locks 0 in cc

-- The text doesn't say who holds the lock: lock l; thread t { if 0 { lock l; } else { } skip; }
abbrev locks_in_branch : Program
locks_in_branch = record {
  version = 1;
  vars = [];
  locks = lock_of 5 [] ∷ [];
  threads = thread_of 116 15 no_modes (stm 19 (branch (const 0) (block_of (stm 26 (lock 0) ∷ [])) (block_of []) no_state) ∷ stm 45 skip ∷ []) 51 ∷ [];
}

locks_in_branch-undisciplined : ¬ IsDisciplined locks_in_branch
locks_in_branch-undisciplined k =
    let e : true ≡ false = (k [] (record { complete = refl; words = tt }) (0 ∷ 0 ∷ []) (omega arith, (omega arith, tt)) 0 (omega arith)).locks 0 in cc

-- A thread writes what another holds: var x: high; lock l nowrite x; thread a { lock l; } thread b { x := 1; }
abbrev writes_locked : Program
writes_locked = record {
  version = 1;
  vars = variable 120 4 high ∷ [];
  locks = lock_of 18 (0 ∷ []) ∷ [];
  threads = thread_of 97 38 no_modes (stm 42 (lock 0) ∷ []) 50 ∷ thread_of 98 59 no_modes (stm 63 (assign 0 (const 1) None []) ∷ []) 71 ∷ [];
}

writes_locked-undisciplined : ¬ IsDisciplined writes_locked
writes_locked-undisciplined k =
    let at = k (0 ∷ []) (record { complete = refl; words = (omega arith, tt) }) (0 ∷ 1 ∷ []) (omega arith, (omega arith, tt)) 1 (omega arith) in
    let e : ◌≡◌ {A = ℕ} 1 0 = at.spares 0 0 (omega arith) (λ i. cc) (inr (0, refl, refl)) in cc

-- Others may write both that are read: var x: high; var y: high; thread t { x := x + y; }
abbrev reads_two : Program
reads_two = record {
  version = 1;
  vars = variable 120 4 high ∷ variable 121 17 high ∷ [];
  locks = [];
  threads = thread_of 116 33 no_modes (stm 37 (assign 0 (bin Add (var 0) (var 1)) None []) ∷ []) 48 ∷ [];
}

reads_two-unstable : (x : ℕ) → ¬ IsStableNow (plain reads_two) [] 0 x
reads_two-unstable x (inl a) = let e : false ≡ true = a in cc
reads_two-unstable x (inr (l, e, u)) = cc

reads_two-undisciplined : ¬ IsDisciplined reads_two
reads_two-undisciplined k =
    let at = k (0 ∷ 0 ∷ []) (record { complete = refl; words = (omega arith, (omega arith, tt)) }) [] tt 0 (omega arith) in
    (at.evaluates (bin Add (var 0) (var 1)) refl).one_unstable 0 1 0 (omega arith) (omega arith) (reads_two-unstable 0) (reads_two-unstable 1)

-- The same of an output: version 2; var x: high; var y: high; thread t { output x + y; }
abbrev puts_two : Program
puts_two = record {
  version = 2;
  vars = variable 120 15 high ∷ variable 121 28 high ∷ [];
  locks = [];
  threads = thread_of 116 44 no_modes (stm 48 (output (bin Add (var 0) (var 1))) ∷ []) 62 ∷ [];
}

puts_two-unstable : (x : ℕ) → ¬ IsStableNow (plain puts_two) [] 0 x
puts_two-unstable x (inl a) = let e : false ≡ true = a in cc
puts_two-unstable x (inr (l, e, u)) = cc

puts_two-undisciplined : ¬ IsDisciplined puts_two
puts_two-undisciplined k =
    let at = k (0 ∷ 0 ∷ []) (record { complete = refl; words = (omega arith, (omega arith, tt)) }) [] tt 0 (omega arith) in
    (at.evaluates (bin Add (var 0) (var 1)) refl).one_unstable 0 1 0 (omega arith) (omega arith) (puts_two-unstable 0) (puts_two-unstable 1)

-- An expression needs too many registers: var x: low; thread t { x := 1 + (1 + (1 + (1 + (1 + (1 + (1 + 1)))))); }
abbrev wide : Term
wide = one_plus (one_plus (one_plus (one_plus (one_plus (one_plus (one_plus (const 1)))))))

abbrev reads_wide : Program
reads_wide = record {
  version = 1;
  vars = variable 120 4 low ∷ [];
  locks = [];
  threads = thread_of 116 19 no_modes (stm 23 (assign 0 wide None []) ∷ []) 71 ∷ [];
}

reads_wide-undisciplined : ¬ IsDisciplined reads_wide
reads_wide-undisciplined k =
    let at = k (0 ∷ []) (record { complete = refl; words = (omega arith, tt) }) [] tt 0 (omega arith) in
    let e : 8 ≤ 7 = (at.evaluates wide refl).narrow in
    omega arith
