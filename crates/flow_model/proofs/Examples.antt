-- Small programs whose runs are known, by computation, and facts that a wrong definition would break.
use Rattle.std.proofs.Common.{◌≡◌, ℕ, zero, suc, IsTrue, List, [], ◌∷◌, Option, Some, None, refl, inl, inr, arith, if◌then◌else◌, ◌↔◌, true, false, ◌^◌, ◌<◌}
use Rattle.cov_expr.specs.Term.{Term, const, var, bin, value, is_set}
use Rattle.cov_expr.specs.Entailment.{Holds}
use Rattle.cov_expr.specs.Words.{IsSchedule}
use Rattle.cov_expr.specs.declared.expr.Op.TheVariants.{Add, Eq, Le}
use Rattle.cov_ast.specs.Syntax.{low, high, when, Class, Var}
use Rattle.cov_ast.specs.Declarations.{no_modes, assumes_hide, controls, is_control, is_plain_low, under, invariant_of}
use Rattle.cov_ast.specs.Plain.{skip, assign, lock, unlock, branch, loop, output, Cmds, none, next, Plain, PlainThread}
use Rattle.flow_model.specs.Source.{Item, Run, run, put, test, emit, after, stayed, stays_at, begin, items_of, step, first_place, Holders, holder, local}
use Rattle.flow_model.specs.Holdings.{IsHiddenNow, IsStableNow, IsWritableNow}
use Rattle.flow_model.specs.Agreement.{StatesAgree, MemoriesAgree, AreFitStarts, AreAlike, SameAt, IsLow}
use Rattle.flow_model.specs.Secure.{IsSecure}
use Rattle.flow_model.specs.Game.{Move, own, outside, opening, MeetsAssumptions, IsLawful, IsSecureThread}
use Rattle.flow_model.specs.FirstDifference.{first_bad_start, first_difference}
use Rattle.flow_model.specs.declared.agreement.Differ.TheVariants as differ
use Rattle.flow_model.specs.declared.start.BadStart.TheVariants as bad

abbrev variable : ℕ → ℕ → Class → Var
variable letter at class = record { name = letter ∷ []; at = at; class = class }

abbrev thread_named : ℕ → Cmds → PlainThread
thread_named letter body = record { name = letter ∷ []; modes = no_modes; body = body }

-- Two threads and a lock: var n: low; lock l nowrite n;
-- thread a { lock l; n := 1; unlock l; } thread b { lock l; n := 2; unlock l; } ----------------------------------

abbrev two_threads : Plain
two_threads = record {
  vars = variable 110 4 low ∷ [];
  locks = record { name = 108 ∷ []; at = 17; nowrite = 0 ∷ []; hide = []; inv = None } ∷ [];
  threads =
      thread_named 97 (next 41 (lock 0) (next 49 (assign 0 (const 1)) (next 57 (unlock 0) none)))
      ∷ thread_named 98 (next 80 (lock 0) (next 88 (assign 0 (const 2)) (next 96 (unlock 0) none))) ∷ [];
}

-- the second thread waits twice for the lock, and the first stands in front of its store
abbrev waits : List ℕ
waits = 0 ∷ 1 ∷ 1 ∷ 0 ∷ 1 ∷ []

waits-memory : (after two_threads (0 ∷ []) waits).memory ≡ 0 ∷ []
waits-memory = refl

waits-holders : (after two_threads (0 ∷ []) waits).holders ≡ Some 0 ∷ []
waits-holders = refl

waits-first : first_place (items_of (after two_threads (0 ∷ []) waits) 0) ≡ Some 49
waits-first = refl

waits-second : first_place (items_of (after two_threads (0 ∷ []) waits) 1) ≡ Some 80
waits-second = refl

waits-stayed : stayed two_threads (0 ∷ []) waits ≡ 3
waits-stayed = refl

-- no step
unmoved-memory : (after two_threads (7 ∷ []) []).memory ≡ 7 ∷ []
unmoved-memory = refl

unmoved-holders : (after two_threads (7 ∷ []) []).holders ≡ None ∷ []
unmoved-holders = refl

unmoved-first : first_place (items_of (after two_threads (7 ∷ []) []) 0) ≡ Some 41
unmoved-first = refl

unmoved-second : first_place (items_of (after two_threads (7 ∷ []) []) 1) ≡ Some 80
unmoved-second = refl

unmoved-stayed : stayed two_threads (7 ∷ []) [] ≡ 0
unmoved-stayed = refl

-- after how many steps an expression holds, if it does
abbrev reached : Term → Run → List ℕ → Option ℕ
reached e s [] = if is_set (value e s.memory) then Some 0 else None
reached e s (t ∷ ts) = if is_set (value e s.memory) then Some 0 else elim (reached e (step s t) ts) [ None ↦ None | Some n ↦ Some (suc n) ]

reached_one : reached (bin Eq (var 0) (const 1)) (begin two_threads (0 ∷ [])) (0 ∷ 0 ∷ 0 ∷ 0 ∷ []) ≡ Some 3
reached_one = refl

never_nine : reached (bin Eq (var 0) (const 9)) (begin two_threads (0 ∷ [])) (0 ∷ 0 ∷ 0 ∷ 0 ∷ []) ≡ None
never_nine = refl

after_three-holders : (after two_threads (0 ∷ []) (0 ∷ 0 ∷ 0 ∷ [])).holders ≡ Some 0 ∷ []
after_three-holders = refl

after_three-stayed : stayed two_threads (0 ∷ []) (0 ∷ 0 ∷ 0 ∷ []) ≡ 0
after_three-stayed = refl

after_three-place : first_place (items_of (after two_threads (0 ∷ []) (0 ∷ 0 ∷ 0 ∷ [])) 0) ≡ Some 57
after_three-place = refl

after_four : (after two_threads (0 ∷ []) (0 ∷ 0 ∷ 0 ∷ 0 ∷ [])).holders ≡ None ∷ []
after_four = refl

after_four-memory : (after two_threads (0 ∷ []) (0 ∷ 0 ∷ 0 ∷ 0 ∷ [])).memory ≡ 1 ∷ []
after_four-memory = refl

after_four-second : first_place (items_of (after two_threads (0 ∷ []) (0 ∷ 0 ∷ 0 ∷ 0 ∷ [])) 1) ≡ Some 80
after_four-second = refl

after_four-stayed : stayed two_threads (0 ∷ []) (0 ∷ 0 ∷ 0 ∷ 0 ∷ []) ≡ 0
after_four-stayed = refl

after_four-done : first_place (items_of (after two_threads (0 ∷ []) (0 ∷ 0 ∷ 0 ∷ 0 ∷ [])) 0) ≡ None
after_four-done = refl

-- A leak: var a: low; var s: high; thread t { a := s; } ---------------------------------------------------------

abbrev leak : Plain
leak = record {
  vars = variable 97 4 low ∷ variable 115 16 high ∷ [];
  locks = [];
  threads = thread_named 116 (next 36 (assign 0 (var 1)) none) ∷ [];
}

-- The evaluation shows nothing,
evaluated-left : (after leak (0 ∷ 0 ∷ []) (0 ∷ [])).memory ≡ 0 ∷ 0 ∷ []
evaluated-left = refl

evaluated-right : (after leak (0 ∷ 1 ∷ []) (0 ∷ [])).memory ≡ 0 ∷ 1 ∷ []
evaluated-right = refl

evaluated-place : first_place (items_of (after leak (0 ∷ 1 ∷ []) (0 ∷ [])) 0) ≡ Some 36
evaluated-place = refl

-- no variable of it is a control
leak-controls : (c : ℕ) → IsTrue (is_control leak c) → ⊥
leak-controls c h = cc

only_first_low : (m1 m2 : List ℕ) → SameAt m1 m2 0 → (x : ℕ) → IsLow leak m1 x → SameAt m1 m2 x
only_first_low m1 m2 e zero is_low = e
only_first_low m1 m2 e (suc zero) is_low = absurd (is_low refl)
only_first_low m1 m2 e (suc (suc x)) is_low = absurd (is_low refl)

evaluated_alike : (t : ℕ) → AreAlike (items_of (after leak (0 ∷ 0 ∷ []) (0 ∷ [])) t) (items_of (after leak (0 ∷ 1 ∷ []) (0 ∷ [])) t)
evaluated_alike zero = refl
evaluated_alike (suc t) = refl

-- the words of the pending stores differ, and the states agree
evaluated : StatesAgree leak (after leak (0 ∷ 0 ∷ []) (0 ∷ [])) (after leak (0 ∷ 1 ∷ []) (0 ∷ []))
evaluated = record {
  memories = record {
    holders = refl;
    controls = λ c h. absurd (leak-controls c h);
    visible = λ x is_low shown. only_first_low (0 ∷ 0 ∷ []) (0 ∷ 1 ∷ []) refl x is_low;
  };
  outputs = refl;
  threads = evaluated_alike;
}

leak-fit : AreFitStarts leak (0 ∷ 0 ∷ []) (0 ∷ 1 ∷ [])
leak-fit = record {
  low = only_first_low (0 ∷ 0 ∷ []) (0 ∷ 1 ∷ []) refl;
  left = λ l h. cc;
  right = λ l h. cc;
}

nobody_hides : (t : ℕ) → IsTrue (assumes_hide leak t 0) → ⊥
nobody_hides zero h = cc
nobody_hides (suc t) h = cc

not_hidden : ¬ IsHiddenNow leak [] 0
not_hidden (inl (l, (t, e), h)) = cc
not_hidden (inr (t, h)) = nobody_hides t h

-- and after the store the two states don't agree.
stored : ¬ StatesAgree leak (after leak (0 ∷ 0 ∷ []) (0 ∷ 0 ∷ [])) (after leak (0 ∷ 1 ∷ []) (0 ∷ 0 ∷ []))
stored a =
    let e : ◌≡◌ {A = ℕ} 0 1 = a.memories.visible 0 (λ h. cc) not_hidden in
    cc

-- So the program isn't secure,
leak_is_insecure : ¬ IsSecure leak
leak_is_insecure secure =
    stored (secure (0 ∷ 0 ∷ []) (0 ∷ 1 ∷ []) (record { complete = refl; words = (omega arith, (omega arith, tt)) }) (record { complete = refl; words = (omega arith, (omega arith, tt)) })
    leak-fit (0 ∷ 0 ∷ []) (omega arith, (omega arith, tt)))

-- and a program without declarations is.
abbrev empty : Plain
empty = record { vars = []; locks = []; threads = [] }

no_steps : (schedule : List ℕ) → IsSchedule 0 schedule → schedule ≡ []
no_steps [] h = refl
no_steps (t ∷ ts) h = absurd (omega (arith, h.0))

empty_is_secure : IsSecure empty
empty_is_secure m1 m2 first second fit schedule entries =
    rw (no_steps schedule entries) (record {
      memories = record { holders = refl; controls = λ c h. cc; visible = λ x is_low shown. absurd (is_low refl) };
      outputs = refl;
      threads = λ t. refl;
    })

-- A control that isn't low makes a program without threads insecure: var h: high; var b: low when h == 0;
abbrev uncontrolled : Plain
uncontrolled = record { vars = variable 104 4 high ∷ variable 98 17 (when (bin Eq (var 0) (const 0))) ∷ []; locks = []; threads = [] }

uncontrolled_low : (m2 : List ℕ) (x : ℕ) → IsLow uncontrolled (1 ∷ 0 ∷ []) x → SameAt (1 ∷ 0 ∷ []) m2 x
uncontrolled_low m2 zero is_low = absurd (is_low refl)
uncontrolled_low m2 (suc zero) is_low = absurd (is_low refl)
uncontrolled_low m2 (suc (suc x)) is_low = absurd (is_low refl)

uncontrolled-fit : AreFitStarts uncontrolled (1 ∷ 0 ∷ []) (2 ∷ 0 ∷ [])
uncontrolled-fit = record { low = uncontrolled_low (2 ∷ 0 ∷ []); left = λ l h. cc; right = λ l h. cc }

uncontrolled_is_insecure : ¬ IsSecure uncontrolled
uncontrolled_is_insecure secure =
    let agree = secure (1 ∷ 0 ∷ []) (2 ∷ 0 ∷ []) (record { complete = refl; words = (omega arith, (omega arith, tt)) })
    (record { complete = refl; words = (omega arith, (omega arith, tt)) }) uncontrolled-fit [] tt in
    let e : ◌≡◌ {A = ℕ} 1 2 = agree.memories.controls 0 refl in
    cc

-- The word of a pending test counts.
tests_differ : ¬ AreAlike (test 0 1 none none ∷ []) (test 0 2 none none ∷ [])
tests_differ h = cc

-- A sum that wraps: var x: low; thread t { x := 4294967295 + 1; } -------------------------------------------------

abbrev wraps : Plain
wraps = record {
  vars = variable 120 4 low ∷ [];
  locks = [];
  threads = thread_named 116 (next 23 (assign 0 (bin Add (const 4294967295) (const 1))) none) ∷ [];
}

wrapped : (after wraps (9 ∷ []) (0 ∷ 0 ∷ [])).memory ≡ 0 ∷ []
wrapped = refl

wrapped-done : first_place (items_of (after wraps (9 ∷ []) (0 ∷ 0 ∷ [])) 0) ≡ None
wrapped-done = refl

wrapped-stayed : stayed wraps (9 ∷ []) (0 ∷ 0 ∷ []) ≡ 0
wrapped-stayed = refl

-- A lock that its holder takes again, and that another thread tries to free: lock l;
-- thread a { lock l; lock l; } thread b { unlock l; } ------------------------------------------------------------

abbrev locked_twice : Plain
locked_twice = record {
  vars = [];
  locks = record { name = 108 ∷ []; at = 5; nowrite = []; hide = []; inv = None } ∷ [];
  threads = thread_named 97 (next 19 (lock 0) (next 27 (lock 0) none)) ∷ thread_named 98 (next 47 (unlock 0) none) ∷ [];
}

locked_twice-stayed : stayed locked_twice [] (0 ∷ 0 ∷ 1 ∷ 0 ∷ 1 ∷ []) ≡ 4
locked_twice-stayed = refl

locked_twice-holders : (after locked_twice [] (0 ∷ 0 ∷ 1 ∷ 0 ∷ 1 ∷ [])).holders ≡ Some 0 ∷ []
locked_twice-holders = refl

-- A branch and a loop: var x: low; thread t { if 0 { skip; } else { x := 5; } } thread u { while x == 0 { x := 1; } } --

abbrev branches : Plain
branches = record {
  vars = variable 120 4 low ∷ [];
  locks = [];
  threads =
      thread_named 116 (next 23 (branch (const 0) (next 30 skip none) (next 45 (assign 0 (const 5)) none)) none)
      ∷ thread_named 117 (next 67 (loop (bin Eq (var 0) (const 0)) (next 82 (assign 0 (const 1)) none)) none) ∷ [];
}

branch-second : (after branches (0 ∷ []) (0 ∷ 0 ∷ 0 ∷ 0 ∷ [])).memory ≡ 5 ∷ []
branch-second = refl

branch-done : first_place (items_of (after branches (0 ∷ []) (0 ∷ 0 ∷ 0 ∷ 0 ∷ [])) 0) ≡ None
branch-done = refl

-- two steps for the guard, two for the assignment, two for the guard again
loop-last : first_place (items_of (after branches (0 ∷ []) (1 ∷ 1 ∷ 1 ∷ 1 ∷ 1 ∷ [])) 1) ≡ Some 67
loop-last = refl

loop-done : first_place (items_of (after branches (0 ∷ []) (1 ∷ 1 ∷ 1 ∷ 1 ∷ 1 ∷ 1 ∷ [])) 1) ≡ None
loop-done = refl

-- A buffer whose class a control says, under a lock: var mode: low; var buf: low when mode == 0;
-- lock l hide mode, buf inv mode <= 1; two threads, of which the second assumes nothing ---------------------------

abbrev buffer : Plain
buffer = record {
  vars = variable 109 4 low ∷ variable 98 19 (when (bin Eq (var 0) (const 0))) ∷ [];
  locks = record { name = 108 ∷ []; at = 49; nowrite = []; hide = 0 ∷ 1 ∷ []; inv = Some (bin Le (var 0) (const 1)) } ∷ [];
  threads = thread_named 119 none ∷ thread_named 114 none ∷ [];
}

abbrev held : Holders
held = Some 0 ∷ []

abbrev free : Holders
free = None ∷ []

buffer-control : controls buffer 0 1 ≡ is_plain_low buffer 0
buffer-control = refl

buffer-not_plain : IsTrue (is_plain_low buffer 1) → ⊥
buffer-not_plain h = cc

hidden_while_held : IsHiddenNow buffer held 1
hidden_while_held = inl (0, (0, refl), refl)

nobody_assumes : (t : ℕ) → IsTrue (assumes_hide buffer t 1) → ⊥
nobody_assumes zero h = cc
nobody_assumes (suc zero) h = cc
nobody_assumes (suc (suc t)) h = cc

stable_for_holder : IsStableNow buffer held 0 1
stable_for_holder = inr (0, refl, refl)

holder_alone : (l : ℕ) → IsTrue (under buffer l 1) → holder held l ≡ Some 0
holder_alone zero h = refl
holder_alone (suc l) h = cc

writable_for_holder : IsWritableNow buffer held 0 1
writable_for_holder = record { allowed = refl; held = holder_alone }

not_writable_for_other : ¬ IsWritableNow buffer held 1 1
not_writable_for_other w =
    let e : ◌≡◌ {A = Option ℕ} (Some 0) (Some 1) = w.held 0 refl in
    cc

-- A control that is hidden counts all the same.
hidden_control_counts : ¬ MemoriesAgree buffer (0 ∷ 0 ∷ []) held (1 ∷ 0 ∷ []) held
hidden_control_counts agree =
    let e : ◌≡◌ {A = ℕ} 0 1 = agree.controls 0 refl in
    cc

-- A start that breaks the invariant isn't fit.
invariant_counts : ¬ AreFitStarts buffer (2 ∷ 0 ∷ []) (2 ∷ 0 ∷ [])
invariant_counts fit = fit.left 0 refl

-- A variable that is low where the fit starts differ makes them unfit, hidden or not.
low_counts : ¬ AreFitStarts buffer (0 ∷ 0 ∷ []) (0 ∷ 1 ∷ [])
low_counts fit =
    let e : ◌≡◌ {A = ℕ} 0 1 = fit.low 1 (λ h. cc) in
    cc

-- The first difference: a lock before each variable, and a hidden variable where it is a control.
lock_first : first_difference buffer (0 ∷ 0 ∷ []) free (1 ∷ 0 ∷ []) held ≡ Some (differ.Lock 0)
lock_first = refl

control_while_hidden : first_difference buffer (0 ∷ 0 ∷ []) held (1 ∷ 5 ∷ []) held ≡ Some (differ.Var 0)
control_while_hidden = refl

hidden_by_a_lock : first_difference buffer (0 ∷ 0 ∷ []) held (0 ∷ 5 ∷ []) held ≡ None
hidden_by_a_lock = refl

low_while_free : first_difference buffer (0 ∷ 0 ∷ []) free (0 ∷ 5 ∷ []) free ≡ Some (differ.Var 1)
low_while_free = refl

high_while_free : first_difference buffer (1 ∷ 0 ∷ []) free (1 ∷ 5 ∷ []) free ≡ None
high_while_free = refl

-- What makes starts unfit: a variable before each lock, and a hidden variable too.
fit_start : first_bad_start buffer (1 ∷ 0 ∷ []) (1 ∷ 5 ∷ []) ≡ None
fit_start = refl

low_start : first_bad_start buffer (0 ∷ 0 ∷ []) (0 ∷ 5 ∷ []) ≡ Some (bad.Var 1)
low_start = refl

broken_start : first_bad_start buffer (2 ∷ 0 ∷ []) (2 ∷ 0 ∷ []) ≡ Some (bad.Lock 0)
broken_start = refl

var_before_lock : first_bad_start buffer (1 ∷ 0 ∷ []) (2 ∷ 0 ∷ []) ≡ Some (bad.Var 0)
var_before_lock = refl

-- What a thread assumes hidden isn't compared, but by starts: var x: low; thread t assume hide x { }
abbrev hiding : Plain
hiding = record {
  vars = variable 120 4 low ∷ [];
  locks = [];
  threads =
      record {
        name = 116 ∷ [];
        modes = record { assume_nowrite = []; assume_hide = 0 ∷ []; guarantee_nowrite = []; guarantee_hide = [] };
        body = none;
      } ∷ [];
}

hidden_by_assumption : first_difference hiding (0 ∷ []) [] (1 ∷ []) [] ≡ None
hidden_by_assumption = refl

hidden_at_start : first_bad_start hiding (0 ∷ []) (1 ∷ []) ≡ Some (bad.Var 0)
hidden_at_start = refl

-- The game of one thread: the leak loses it, ---------------------------------------------------------------------

leak_loses : ¬ IsSecureThread leak 0
leak_loses secure =
    let lost = secure (0 ∷ 0 ∷ []) (0 ∷ 1 ∷ []) (record { complete = refl; words = (omega arith, (omega arith, tt)) }) (record { complete = refl; words = (omega arith, (omega arith, tt)) })
    leak-fit (own ∷ []) (tt, tt) in
    let e : ◌≡◌ {A = ℕ} 0 1 = lost.memories.visible 0 (λ h. cc) not_hidden in
    cc

-- and so does a thread that writes what it guarantees not to: var x: low; thread t guarantee nowrite x { x := 1; }
abbrev unkept : Plain
unkept = record {
  vars = variable 120 4 low ∷ [];
  locks = [];
  threads =
      record {
        name = 116 ∷ [];
        modes = record { assume_nowrite = []; assume_hide = []; guarantee_nowrite = 0 ∷ []; guarantee_hide = [] };
        body = next 43 (assign 0 (const 1)) none;
      } ∷ [];
}

unkept-fit : AreFitStarts unkept (0 ∷ []) (0 ∷ [])
unkept-fit = record { low = λ x low. refl; left = λ l h. cc; right = λ l h. cc }

unkept_loses : ¬ IsSecureThread unkept 0
unkept_loses secure =
    let lost = secure (0 ∷ []) (0 ∷ []) (record { complete = refl; words = (omega arith, tt) }) (record { complete = refl; words = (omega arith, tt) }) unkept-fit
    (own ∷ []) (tt, tt) in
    let e : ◌≡◌ {A = ℕ} 1 0 = lost.left.kept 0 (λ w. let no : true ≡ false = w.allowed in cc) in
    cc

-- What another thread may do while it holds a lock: var k: high; var a: low; lock l nowrite k inv k == 0;
-- thread t { a := k; } thread u { } -------------------------------------------------------------------------------

abbrev guarded : Plain
guarded = record {
  vars = variable 107 4 high ∷ variable 97 17 low ∷ [];
  locks = record { name = 108 ∷ []; at = 30; nowrite = 0 ∷ []; hide = []; inv = Some (bin Eq (var 0) (const 0)) } ∷ [];
  threads = thread_named 116 (next 66 (assign 1 (var 0)) none) ∷ thread_named 117 none ∷ [];
}

abbrev held_by_other : Holders
held_by_other = Some 1 ∷ []

guarded_low : (m1 m2 : List ℕ) → SameAt m1 m2 1 → (x : ℕ) → IsLow guarded m1 x → SameAt m1 m2 x
guarded_low m1 m2 e zero is_low = absurd (is_low refl)
guarded_low m1 m2 e (suc zero) is_low = e
guarded_low m1 m2 e (suc (suc x)) is_low = absurd (is_low refl)

guarded_invariants : (m : List ℕ) → Holds (invariant_of guarded 0) m → (l : ℕ) → Holds (invariant_of guarded l) m
guarded_invariants m h zero = h
guarded_invariants m h (suc l) = λ e. cc

guarded-fit : AreFitStarts guarded (0 ∷ 0 ∷ []) (0 ∷ 0 ∷ [])
guarded-fit = record {
  low = λ x low. refl;
  left = guarded_invariants (0 ∷ 0 ∷ []) (λ e. cc);
  right = guarded_invariants (0 ∷ 0 ∷ []) (λ e. cc);
}

-- no lock is the thread's, before or after
not_own : (l : ℕ) → (holder held_by_other l ≡ Some 0) ↔ (holder free l ≡ Some 0)
not_own zero = (λ e. cc, λ e. cc)
not_own (suc l) = (λ e. cc, λ e. cc)

free_alone : (m : List ℕ) (l : ℕ) → holder held_by_other l ≡ None → Holds (invariant_of guarded l) m
free_alone m zero e = cc
free_alone m (suc l) e = λ z. cc

nothing_stable : (x : ℕ) → IsStableNow guarded free 0 x → ⊥
nothing_stable x (inl h) = cc
nothing_stable x (inr (zero, e, h)) = cc
nothing_stable x (inr (suc l, e, h)) = cc

guarded_control : (c : ℕ) → IsTrue (is_control guarded c) → SameAt (5 ∷ 0 ∷ []) (6 ∷ 0 ∷ []) c
guarded_control c h = cc

guarded_shown : ¬ IsHiddenNow guarded held_by_other 1
guarded_shown (inl (zero, held, h)) = cc
guarded_shown (inl (suc l, held, h)) = cc
guarded_shown (inr (zero, h)) = cc
guarded_shown (inr (suc zero, h)) = cc
guarded_shown (inr (suc (suc t), h)) = cc

-- the other takes the lock and gives k a secret
abbrev other_writes : Move
other_writes = outside (5 ∷ 0 ∷ []) held_by_other [] (6 ∷ 0 ∷ []) held_by_other []

leaves : (items : List Item) (k : ℕ) → k < 2 ^ 32 → MeetsAssumptions guarded 0 (local (0 ∷ 0 ∷ []) free [] items) (k ∷ 0 ∷ []) held_by_other []
leaves items k word = record {
  memory = record { complete = refl; words = (word, (omega arith, tt)) };
  holders = refl;
  outputs = tt;
  held = not_own;
  stable = λ x h. absurd (nothing_stable x h);
}

other_is_lawful : IsLawful guarded 0 (opening guarded 0 (0 ∷ 0 ∷ []) (0 ∷ 0 ∷ [])) other_writes
other_is_lawful = record {
  left = leaves _ 5 (omega arith);
  right = leaves _ 6 (omega arith);
  memories = record {
    holders = refl;
    controls = λ c h. guarded_control c h;
    visible = λ x low shown. guarded_low (5 ∷ 0 ∷ []) (6 ∷ 0 ∷ []) refl x low;
  };
  outputs = refl;
  free_left = free_alone (5 ∷ 0 ∷ []);
  free_right = free_alone (6 ∷ 0 ∷ []);
}

-- The invariant doesn't help a thread that doesn't hold the lock: it evaluates k then, and stores.
guarded_loses : ¬ IsSecureThread guarded 0
guarded_loses secure =
    let lost = secure (0 ∷ 0 ∷ []) (0 ∷ 0 ∷ []) (record { complete = refl; words = (omega arith, (omega arith, tt)) }) (record { complete = refl; words = (omega arith, (omega arith, tt)) })
    guarded-fit (own ∷ other_writes ∷ []) ((tt, other_is_lawful), tt) in
    let e : ◌≡◌ {A = ℕ} 5 6 = lost.memories.visible 1 (λ h. cc) guarded_shown in
    cc

-- A variable that the thread assumes is left alone: var x: low; thread t assume nowrite x { }
abbrev assuming : Plain
assuming = record {
  vars = variable 120 4 low ∷ [];
  locks = [];
  threads =
      record {
        name = 116 ∷ [];
        modes = record { assume_nowrite = 0 ∷ []; assume_hide = []; guarantee_nowrite = []; guarantee_hide = [] };
        body = none;
      } ∷ [];
}

no_write_to_assumed : ¬ IsLawful assuming 0 (opening assuming 0 (0 ∷ []) (0 ∷ [])) (outside (1 ∷ []) [] [] (1 ∷ []) [] [])
no_write_to_assumed lawful =
    let e : ◌≡◌ {A = ℕ} 1 0 = lawful.left.stable 0 (inl refl) in
    cc

-- What is put out: version 2; var a: low; var s: high; thread t { output a; output s; } ---------------------------

abbrev puts_out : Plain
puts_out = record {
  vars = variable 97 15 low ∷ variable 115 27 high ∷ [];
  locks = [];
  threads = thread_named 116 (next 47 (output (var 0)) (next 57 (output (var 1)) none)) ∷ [];
}

-- the first step evaluates,
evaluates-outputs : (after puts_out (3 ∷ 5 ∷ []) (0 ∷ [])).outputs ≡ []
evaluates-outputs = refl

evaluates-items : items_of (after puts_out (3 ∷ 5 ∷ []) (0 ∷ [])) 0 ≡ emit 47 3 ∷ run 57 (output (var 1)) ∷ []
evaluates-items = refl

evaluates-place : first_place (items_of (after puts_out (3 ∷ 5 ∷ []) (0 ∷ [])) 0) ≡ Some 47
evaluates-place = refl

-- and the second puts the word at the end.
puts_out-first : (after puts_out (3 ∷ 5 ∷ []) (0 ∷ 0 ∷ [])).outputs ≡ 3 ∷ []
puts_out-first = refl

puts_out-both : (after puts_out (3 ∷ 5 ∷ []) (0 ∷ 0 ∷ 0 ∷ 0 ∷ [])).outputs ≡ 3 ∷ 5 ∷ []
puts_out-both = refl

puts_out-memory : (after puts_out (3 ∷ 5 ∷ []) (0 ∷ 0 ∷ 0 ∷ 0 ∷ [])).memory ≡ 3 ∷ 5 ∷ []
puts_out-memory = refl

puts_out-done : first_place (items_of (after puts_out (3 ∷ 5 ∷ []) (0 ∷ 0 ∷ 0 ∷ 0 ∷ [])) 0) ≡ None
puts_out-done = refl

puts_out-stayed : stayed puts_out (3 ∷ 5 ∷ []) (0 ∷ 0 ∷ 0 ∷ 0 ∷ 0 ∷ []) ≡ 0
puts_out-stayed = refl

output_moves : stays_at 0 [] (run 47 (output (var 0)) ∷ []) ≡ false
output_moves = refl

pending_output_moves : stays_at 0 [] (emit 47 3 ∷ []) ≡ false
pending_output_moves = refl

-- The word of a pending output doesn't count, that of its place does,
pending_outputs_alike : AreAlike (emit 57 0 ∷ []) (emit 57 1 ∷ [])
pending_outputs_alike = refl

places_differ : ¬ AreAlike (emit 47 0 ∷ []) (emit 57 0 ∷ [])
places_differ h = cc

output_is_no_store : (x : ℕ) → ¬ AreAlike (emit 47 0 ∷ []) (put 47 x 0 ∷ [])
output_is_no_store x h = cc

spill_low : (m1 m2 : List ℕ) → SameAt m1 m2 0 → (x : ℕ) → IsLow puts_out m1 x → SameAt m1 m2 x
spill_low m1 m2 e zero is_low = e
spill_low m1 m2 e (suc zero) is_low = absurd (is_low refl)
spill_low m1 m2 e (suc (suc x)) is_low = absurd (is_low refl)

spill_control : (c : ℕ) → IsTrue (is_control puts_out c) → ⊥
spill_control c h = cc

spill-fit : AreFitStarts puts_out (0 ∷ 0 ∷ []) (0 ∷ 1 ∷ [])
spill-fit = record {
  low = spill_low (0 ∷ 0 ∷ []) (0 ∷ 1 ∷ []) refl;
  left = λ l h. cc;
  right = λ l h. cc;
}

pending_alike : (t : ℕ)
    → AreAlike (items_of (after puts_out (0 ∷ 0 ∷ []) (0 ∷ 0 ∷ 0 ∷ [])) t) (items_of (after puts_out (0 ∷ 1 ∷ []) (0 ∷ 0 ∷ 0 ∷ [])) t)
pending_alike zero = refl
pending_alike (suc t) = refl

-- so the states agree while the secret is pending,
pending : StatesAgree puts_out (after puts_out (0 ∷ 0 ∷ []) (0 ∷ 0 ∷ 0 ∷ [])) (after puts_out (0 ∷ 1 ∷ []) (0 ∷ 0 ∷ 0 ∷ []))
pending = record {
  memories = record {
    holders = refl;
    controls = λ c h. absurd (spill_control c h);
    visible = λ x is_low shown. spill_low (0 ∷ 0 ∷ []) (0 ∷ 1 ∷ []) refl x is_low;
  };
  outputs = refl;
  threads = pending_alike;
}

-- and no longer once it is put out.
spilled : ¬ StatesAgree puts_out (after puts_out (0 ∷ 0 ∷ []) (0 ∷ 0 ∷ 0 ∷ 0 ∷ [])) (after puts_out (0 ∷ 1 ∷ []) (0 ∷ 0 ∷ 0 ∷ 0 ∷ []))
spilled a =
    let e : ◌≡◌ {A = List ℕ} (0 ∷ 0 ∷ []) (0 ∷ 1 ∷ []) = a.outputs in
    cc

spill_is_insecure : ¬ IsSecure puts_out
spill_is_insecure secure =
    spilled (secure (0 ∷ 0 ∷ []) (0 ∷ 1 ∷ []) (record { complete = refl; words = (omega arith, (omega arith, tt)) }) (record { complete = refl; words = (omega arith, (omega arith, tt)) })
    spill-fit (0 ∷ 0 ∷ 0 ∷ 0 ∷ []) (omega arith, (omega arith, (omega arith, (omega arith, tt)))))

-- The thread loses its game,
spill_loses : ¬ IsSecureThread puts_out 0
spill_loses secure =
    let lost = secure (0 ∷ 0 ∷ []) (0 ∷ 1 ∷ []) (record { complete = refl; words = (omega arith, (omega arith, tt)) }) (record { complete = refl; words = (omega arith, (omega arith, tt)) })
    spill-fit (own ∷ own ∷ own ∷ []) (((tt, tt), tt), tt) in
    let e : ◌≡◌ {A = List ℕ} (0 ∷ 0 ∷ []) (0 ∷ 1 ∷ []) = lost.outputs in
    cc

-- and others put out the same in both copies.
no_different_outputs : ¬ IsLawful assuming 0 (opening assuming 0 (0 ∷ []) (0 ∷ [])) (outside (0 ∷ []) [] (1 ∷ []) (0 ∷ []) [] (2 ∷ []))
no_different_outputs lawful =
    let e : ◌≡◌ {A = List ℕ} (1 ∷ []) (2 ∷ []) = lawful.outputs in
    cc
