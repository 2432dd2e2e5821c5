-- Programs of which the verdict is known, by computation: the first obligation of a thread that fails, or how many
-- statements and entailments it has. Places are those of the text above each program.
use Rattle.std.proofs.Common.{◌≡◌, ℕ, zero, suc, List, [], ◌∷◌, Option, Some, None, refl, map}
use Rattle.std.specs.List.{range_with_len}
use Rattle.cov_expr.specs.declared.expr.Op.TheVariants.{Add, Eq, Lt, Le}
use Rattle.cov_expr.specs.declared.expr.TheConstants.{HOLE}
use Rattle.cov_expr.specs.Term.{Term, const, var, neg, bin}
use Rattle.cov_ast.specs.Syntax.{Class, low, high, when, Var, Lock, Modes, State, Cert, Proof, Stm, skip, assign, lock, unlock, branch, loop, note, Block, done, Thread, Program}
use Rattle.cov_ast.specs.Syntax as by
use Rattle.cov_ast.specs.Declarations.{no_modes}
use Rattle.cov_ast.specs.Plain.{no_state}
use Rattle.cov_ast.specs.View.{Placed, block_of}
use Rattle.cov_ast.specs.Obligations.{first_false}
use Rattle.cov_ast.specs.declared.refusal.Rule.{Rule}
use Rattle.cov_ast.specs.declared.refusal.Rule.TheVariants.{V1, V2, V3, V4, V5, V6, V7, V8, V9, V10, V11, V12, V13, V14, V15, V16}
use Rattle.cov_ast.specs.declared.refusal.Detail.{Detail}
use Rattle.cov_ast.specs.declared.refusal.Detail.TheVariants.{Nothing, One, Number}
use Rattle.cov_ast.specs.declared.refusal.Refusal.{Refusal}
use Rattle.typing_law.specs.ThreadObligations.{thread_obligations}
use Rattle.typing_law.specs.Counts.{counts}

abbrev pub variable : List ℕ → ℕ → Class → Var
variable name at class = record { name = name; at = at; class = class }

abbrev pub lock_of : List ℕ → ℕ → (nowrite hide : List ℕ) → Option Term → Lock
lock_of name at nowrite hide inv = record { name = name; at = at; nowrite = nowrite; hide = hide; inv = inv }

abbrev pub thread_of : List ℕ → ℕ → Modes → Block → ℕ → Thread
thread_of name at modes body end = record { name = name; at = at; modes = modes; body = body; end = end }

abbrev pub stm : ℕ → Stm → List Proof → Placed
stm at s proofs = record { at = at; stm = s; proofs = proofs }

abbrev pub proof : ℕ → Cert → Proof
proof number cert = record { number = number; cert = cert }

abbrev refusal : Rule → (t place : ℕ) → Detail → Refusal
refusal rule t place detail = record { rule = rule; thread = Some t; place = place; detail = detail }

abbrev pub refused : Rule → (t place : ℕ) → Detail → Option Refusal
refused rule t place detail = Some (refusal rule t place detail)

abbrev pub says : List Term → List (ℕ × Term) → State
says preds types = record { preds = preds; types = types }

abbrev pub modes_of : (assume_nowrite assume_hide guarantee_nowrite guarantee_hide : List ℕ) → Modes
modes_of an ah gn gh = record { assume_nowrite = an; assume_hide = ah; guarantee_nowrite = gn; guarantee_hide = gh }

-- under so many `!`
abbrev negated : ℕ → Term → Term
negated zero e = e
negated (suc n) e = neg (negated n e)

abbrev pub one_plus : Term → Term
one_plus e = bin Add (const 1) e

-- the first variable is 0
abbrev pub is_zero : Term
is_zero = bin Eq (var 0) (const 0)

-- have [1 == 0] (rev 1 [_ == 0] (hyp 2)) (clash 3)
abbrev raising : Cert
raising = by.have (bin Eq (const 1) (const 0)) (by.rev 1 (bin Eq (var HOLE) (const 0)) (by.hyp 2)) (by.clash 3)

-- var a: low; var s: high; thread t { s := a; }
abbrev stores_low : Program
stores_low = record {
  version = 1;
  vars = variable (97 ∷ []) 4 low ∷ variable (115 ∷ []) 16 high ∷ [];
  locks = [];
  threads = thread_of (116 ∷ []) 32 no_modes (block_of (stm 36 (assign 1 (var 0) None []) [] ∷ [])) 44 ∷ [];
}

stores_low-accepted : first_false (thread_obligations stores_low 0) ≡ None
stores_low-accepted = refl

stores_low-counts : counts stores_low 0 ≡ record { statements = 1; entailments = 1 }
stores_low-counts = refl

-- var a: low; var s: high; thread t { a := s; }
abbrev pub stores_high : Program
stores_high = record {
  version = 1;
  vars = variable (97 ∷ []) 4 low ∷ variable (115 ∷ []) 16 high ∷ [];
  locks = [];
  threads = thread_of (116 ∷ []) 32 no_modes (block_of (stm 36 (assign 0 (var 1) None []) [] ∷ [])) 44 ∷ [];
}

stores_high-refused : first_false (thread_obligations stores_high 0) ≡ refused V9 0 36 (Number 1)
stores_high-refused = refl

-- var mode: low; var buf: low when mode == 0; var key: high; lock l hide mode, buf; thread w { lock l; buf := key; mode
-- := 1; unlock l by { 1: have [1 == 0] (rev 1 [_ == 0] (hyp 2)) (clash 3) }; }
abbrev pub raises : Program
raises = record {
  version = 1;
  vars =
      variable (109 ∷ 111 ∷ 100 ∷ 101 ∷ []) 4 low
      ∷ variable (98 ∷ 117 ∷ 102 ∷ []) 19 (when is_zero)
      ∷ variable (107 ∷ 101 ∷ 121 ∷ []) 48 high ∷ [];
  locks = lock_of (108 ∷ []) 64 [] (0 ∷ 1 ∷ []) None ∷ [];
  threads =
      thread_of (119 ∷ []) 89 no_modes (block_of (
      stm 93 (lock 0) []
      ∷ stm 101 (assign 1 (var 2) None []) []
      ∷ stm 113 (assign 0 (const 1) None []) []
      ∷ stm 124 (unlock 0) (proof 1 raising ∷ []) ∷ [])) 193 ∷ [];
}

raises-accepted : first_false (thread_obligations raises 0) ≡ None
raises-accepted = refl

raises-counts : counts raises 0 ≡ record { statements = 4; entailments = 2 }
raises-counts = refl

-- var mode: low; var buf: low when mode == 0; var key: high; lock l hide mode, buf; thread w { lock l; buf := key; mode
-- := 1; unlock l; }
abbrev pub raises_unproved : Program
raises_unproved = record {
  version = 1;
  vars =
      variable (109 ∷ 111 ∷ 100 ∷ 101 ∷ []) 4 low
      ∷ variable (98 ∷ 117 ∷ 102 ∷ []) 19 (when is_zero)
      ∷ variable (107 ∷ 101 ∷ 121 ∷ []) 48 high ∷ [];
  locks = lock_of (108 ∷ []) 64 [] (0 ∷ 1 ∷ []) None ∷ [];
  threads =
      thread_of (119 ∷ []) 89 no_modes (block_of (
      stm 93 (lock 0) []
      ∷ stm 101 (assign 1 (var 2) None []) []
      ∷ stm 113 (assign 0 (const 1) None []) []
      ∷ stm 124 (unlock 0) [] ∷ [])) 134 ∷ [];
}

raises_unproved-refused : first_false (thread_obligations raises_unproved 0) ≡ refused V9 0 124 (Number 1)
raises_unproved-refused = refl

-- var mode: low; var buf: low when mode == 0; var key: high; lock l nowrite mode, buf; thread w { lock l; mode := 1; buf
-- := key by { 1: have [1 == 0] (rev 1 [_ == 0] (hyp 2)) (clash 3) }; mode := 0; unlock l; }
abbrev pub lowers : Program
lowers = record {
  version = 1;
  vars =
      variable (109 ∷ 111 ∷ 100 ∷ 101 ∷ []) 4 low
      ∷ variable (98 ∷ 117 ∷ 102 ∷ []) 19 (when is_zero)
      ∷ variable (107 ∷ 101 ∷ 121 ∷ []) 48 high ∷ [];
  locks = lock_of (108 ∷ []) 64 (0 ∷ 1 ∷ []) [] None ∷ [];
  threads =
      thread_of (119 ∷ []) 92 no_modes (block_of (
      stm 96 (lock 0) []
      ∷ stm 104 (assign 0 (const 1) None []) []
      ∷ stm 115 (assign 1 (var 2) None []) (proof 1 raising ∷ [])
      ∷ stm 186 (assign 0 (const 0) None []) []
      ∷ stm 197 (unlock 0) [] ∷ [])) 207 ∷ [];
}

lowers-refused : first_false (thread_obligations lowers 0) ≡ refused V9 0 186 (Number 2)
lowers-refused = refl

-- var mode: low; var buf: low when mode == 0; var tmp: high; var net: low; lock l hide mode, buf; thread r assume hide
-- tmp { lock l; if mode == 0 { tmp := buf as 1; } else { tmp := 0; } join { ; buf: mode == 0, tmp: 1 } unlock l; net :=
-- tmp; }
abbrev reads : Program
reads = record {
  version = 1;
  vars =
      variable (109 ∷ 111 ∷ 100 ∷ 101 ∷ []) 4 low
      ∷ variable (98 ∷ 117 ∷ 102 ∷ []) 19 (when is_zero)
      ∷ variable (116 ∷ 109 ∷ 112 ∷ []) 48 high
      ∷ variable (110 ∷ 101 ∷ 116 ∷ []) 63 low ∷ [];
  locks = lock_of (108 ∷ []) 78 [] (0 ∷ 1 ∷ []) None ∷ [];
  threads =
      thread_of (114 ∷ []) 103 (modes_of [] (2 ∷ []) [] []) (block_of (
      stm 123 (lock 0) []
      ∷ stm 131 (branch is_zero (block_of (stm 146 (assign 2 (var 1) (Some (const 1)) []) [] ∷ []))
      (block_of (stm 172 (assign 2 (const 0) None []) [] ∷ [])) (says [] ((1, is_zero) ∷ (2, const 1) ∷ []))) []
      ∷ stm 218 (unlock 0) []
      ∷ stm 228 (assign 3 (var 2) None []) [] ∷ [])) 240 ∷ [];
}

reads-accepted : first_false (thread_obligations reads 0) ≡ None
reads-accepted = refl

reads-counts : counts reads 0 ≡ record { statements = 6; entailments = 8 }
reads-counts = refl

-- var key: high; thread t { if key { skip; } else { skip; } }
abbrev branches_on_high : Program
branches_on_high = record {
  version = 1;
  vars = variable (107 ∷ 101 ∷ 121 ∷ []) 4 high ∷ [];
  locks = [];
  threads =
      thread_of (116 ∷ []) 22 no_modes (block_of (
      stm 26 (branch (var 0) (block_of (stm 35 skip [] ∷ [])) (block_of (stm 50 skip [] ∷ [])) no_state) [] ∷ [])) 58 ∷ [];
}

branches_on_high-refused : first_false (thread_obligations branches_on_high 0) ≡ refused V9 0 26 (Number 1)
branches_on_high-refused = refl

-- var a: high; var buf: high; lock l hide buf; thread t { a := buf; }
abbrev reads_hidden : Program
reads_hidden = record {
  version = 1;
  vars = variable (97 ∷ []) 4 high ∷ variable (98 ∷ 117 ∷ 102 ∷ []) 17 high ∷ [];
  locks = lock_of (108 ∷ []) 33 [] (1 ∷ []) None ∷ [];
  threads = thread_of (116 ∷ []) 52 no_modes (block_of (stm 56 (assign 0 (var 1) None []) [] ∷ [])) 66 ∷ [];
}

reads_hidden-refused : first_false (thread_obligations reads_hidden 0) ≡ refused V1 0 56 (One (98 ∷ 117 ∷ 102 ∷ []))
reads_hidden-refused = refl

-- var buf: high; lock l hide buf; thread t { buf := 0; }
abbrev writes_hidden : Program
writes_hidden = record {
  version = 1;
  vars = variable (98 ∷ 117 ∷ 102 ∷ []) 4 high ∷ [];
  locks = lock_of (108 ∷ []) 20 [] (0 ∷ []) None ∷ [];
  threads = thread_of (116 ∷ []) 39 no_modes (block_of (stm 43 (assign 0 (const 0) None []) [] ∷ [])) 53 ∷ [];
}

writes_hidden-refused : first_false (thread_obligations writes_hidden 0) ≡ refused V2 0 43 (One (98 ∷ 117 ∷ 102 ∷ []))
writes_hidden-refused = refl

-- var x: low; var y: low; var z: low; thread t { x := y + z; }
abbrev reads_two : Program
reads_two = record {
  version = 1;
  vars = variable (120 ∷ []) 4 low ∷ variable (121 ∷ []) 16 low ∷ variable (122 ∷ []) 28 low ∷ [];
  locks = [];
  threads = thread_of (116 ∷ []) 43 no_modes (block_of (stm 47 (assign 0 (bin Add (var 1) (var 2)) None []) [] ∷ [])) 59 ∷ [];
}

reads_two-refused : first_false (thread_obligations reads_two 0) ≡ refused V3 0 47 Nothing
reads_two-refused = refl

-- var x: low; var y: low; var z: low; thread t { x := y + y; }
abbrev reads_twice : Program
reads_twice = record {
  version = 1;
  vars = variable (120 ∷ []) 4 low ∷ variable (121 ∷ []) 16 low ∷ variable (122 ∷ []) 28 low ∷ [];
  locks = [];
  threads = thread_of (116 ∷ []) 43 no_modes (block_of (stm 47 (assign 0 (bin Add (var 1) (var 1)) None []) [] ∷ [])) 59 ∷ [];
}

reads_twice-refused : first_false (thread_obligations reads_twice 0) ≡ refused V3 0 47 Nothing
reads_twice-refused = refl

-- var n: low; lock l nowrite n inv n <= 3; thread t { lock l; n := n + 1; unlock l; }
abbrev breaks_invariant : Program
breaks_invariant = record {
  version = 1;
  vars = variable (110 ∷ []) 4 low ∷ [];
  locks = lock_of (108 ∷ []) 17 (0 ∷ []) [] (Some (bin Le (var 0) (const 3))) ∷ [];
  threads =
      thread_of (116 ∷ []) 48 no_modes (block_of (
      stm 52 (lock 0) []
      ∷ stm 60 (assign 0 (bin Add (var 0) (const 1)) None []) []
      ∷ stm 72 (unlock 0) [] ∷ [])) 82 ∷ [];
}

breaks_invariant-refused : first_false (thread_obligations breaks_invariant 0) ≡ refused V9 0 72 (Number 1)
breaks_invariant-refused = refl

-- var n: low; var tmp: low; lock l nowrite n inv n <= 3; thread t assume hide tmp { lock l; if n <= 2 { tmp := n; note {
-- tmp <= 2 } by { 1: fwd 3 [_ <= 2] (hyp 2) }; n := tmp + 1; } else { } join { n <= 3 } by { 2: fwd 2 [_ <= 3] range }
-- unlock l; }
abbrev counts_to_three : Program
counts_to_three = record {
  version = 1;
  vars = variable (110 ∷ []) 4 low ∷ variable (116 ∷ 109 ∷ 112 ∷ []) 16 low ∷ [];
  locks = lock_of (108 ∷ []) 31 (0 ∷ []) [] (Some (bin Le (var 0) (const 3))) ∷ [];
  threads =
      thread_of (116 ∷ []) 62 (modes_of [] (1 ∷ []) [] []) (block_of (
      stm 82 (lock 0) []
      ∷ stm 90 (branch (bin Le (var 0) (const 2)) (block_of (
      stm 102 (assign 1 (var 0) None []) []
      ∷ stm 112 (note (says (bin Le (var 1) (const 2) ∷ []) [])) (proof 1 (by.fwd 3 (bin Le (var HOLE) (const 2)) (by.hyp 2)) ∷ [])
      ∷ stm 164 (assign 0 (bin Add (var 1) (const 1)) None []) [] ∷ []))
      done (says (bin Le (var 0) (const 3) ∷ []) [])) (proof 2 (by.fwd 2 (bin Le (var HOLE) (const 3)) by.range) ∷ [])
      ∷ stm 236 (unlock 0) [] ∷ [])) 246 ∷ [];
}

counts_to_three-accepted : first_false (thread_obligations counts_to_three 0) ≡ None
counts_to_three-accepted = refl

counts_to_three-counts : counts counts_to_three 0 ≡ record { statements = 6; entailments = 6 }
counts_to_three-counts = refl

-- var n: low; lock l nowrite n; thread a { lock l; n := 1; unlock l; } thread b { lock l; n := 2; unlock l; }
abbrev two_threads : Program
two_threads = record {
  version = 1;
  vars = variable (110 ∷ []) 4 low ∷ [];
  locks = lock_of (108 ∷ []) 17 (0 ∷ []) [] None ∷ [];
  threads =
      thread_of (97 ∷ []) 37 no_modes (block_of (stm 41 (lock 0) [] ∷ stm 49 (assign 0 (const 1) None []) [] ∷ stm 57 (unlock 0) [] ∷ [])) 67
      ∷ thread_of (98 ∷ []) 76 no_modes (block_of (stm 80 (lock 0) [] ∷ stm 88 (assign 0 (const 2) None []) [] ∷ stm 96 (unlock 0) [] ∷ [])) 106 ∷ [];
}

two_threads-accepted-0 : first_false (thread_obligations two_threads 0) ≡ None
two_threads-accepted-0 = refl

two_threads-counts-0 : counts two_threads 0 ≡ record { statements = 3; entailments = 1 }
two_threads-counts-0 = refl

two_threads-accepted-1 : first_false (thread_obligations two_threads 1) ≡ None
two_threads-accepted-1 = refl

two_threads-counts-1 : counts two_threads 1 ≡ record { statements = 3; entailments = 1 }
two_threads-counts-1 = refl

-- var mode: low; var buf: low when mode == 0; var key: high; var tmp: high; var net: low; lock l hide mode, buf; thread
-- w guarantee hide tmp { lock l; buf := key; mode := 1; unlock l by { 1: have [1 == 0] (rev 1 [_ == 0] (hyp 2)) (clash
-- 3) }; } thread r assume hide tmp { lock l; if mode == 0 { tmp := buf as 1; } else { tmp := 0; } join { ; buf: mode ==
-- 0, tmp: 1 } unlock l; net := tmp; }
abbrev writer_and_reader : Program
writer_and_reader = record {
  version = 1;
  vars =
      variable (109 ∷ 111 ∷ 100 ∷ 101 ∷ []) 4 low
      ∷ variable (98 ∷ 117 ∷ 102 ∷ []) 19 (when is_zero)
      ∷ variable (107 ∷ 101 ∷ 121 ∷ []) 48 high
      ∷ variable (116 ∷ 109 ∷ 112 ∷ []) 63 high
      ∷ variable (110 ∷ 101 ∷ 116 ∷ []) 78 low ∷ [];
  locks = lock_of (108 ∷ []) 93 [] (0 ∷ 1 ∷ []) None ∷ [];
  threads =
      thread_of (119 ∷ []) 118 (modes_of [] [] [] (3 ∷ [])) (block_of (
      stm 141 (lock 0) []
      ∷ stm 149 (assign 1 (var 2) None []) []
      ∷ stm 161 (assign 0 (const 1) None []) []
      ∷ stm 172 (unlock 0) (proof 1 raising ∷ []) ∷ [])) 241
      ∷ thread_of (114 ∷ []) 250 (modes_of [] (3 ∷ []) [] []) (block_of (
      stm 270 (lock 0) []
      ∷ stm 278 (branch is_zero (block_of (stm 293 (assign 3 (var 1) (Some (const 1)) []) [] ∷ []))
      (block_of (stm 319 (assign 3 (const 0) None []) [] ∷ [])) (says [] ((1, is_zero) ∷ (3, const 1) ∷ []))) []
      ∷ stm 365 (unlock 0) []
      ∷ stm 375 (assign 4 (var 3) None []) [] ∷ [])) 387 ∷ [];
}

writer_and_reader-accepted-0 : first_false (thread_obligations writer_and_reader 0) ≡ None
writer_and_reader-accepted-0 = refl

writer_and_reader-counts-0 : counts writer_and_reader 0 ≡ record { statements = 4; entailments = 2 }
writer_and_reader-counts-0 = refl

writer_and_reader-accepted-1 : first_false (thread_obligations writer_and_reader 1) ≡ None
writer_and_reader-accepted-1 = refl

writer_and_reader-counts-1 : counts writer_and_reader 1 ≡ record { statements = 6; entailments = 8 }
writer_and_reader-counts-1 = refl

-- var a: low; thread t { a := 4294967295; }
abbrev stores_number : Program
stores_number = record {
  version = 1;
  vars = variable (97 ∷ []) 4 low ∷ [];
  locks = [];
  threads = thread_of (116 ∷ []) 19 no_modes (block_of (stm 23 (assign 0 (const 4294967295) None []) [] ∷ [])) 40 ∷ [];
}

stores_number-accepted : first_false (thread_obligations stores_number 0) ≡ None
stores_number-accepted = refl

stores_number-counts : counts stores_number 0 ≡ record { statements = 1; entailments = 1 }
stores_number-counts = refl

-- var x: low; thread t { x := 1 + (1 + (1 + (1 + (1 + (1 + 1))))); }
abbrev nests_deep : Program
nests_deep = record {
  version = 1;
  vars = variable (120 ∷ []) 4 low ∷ [];
  locks = [];
  threads =
      thread_of (116 ∷ []) 19 no_modes (block_of (
      stm 23 (assign 0 (one_plus (one_plus (one_plus (one_plus (one_plus (one_plus (const 1))))))) None []) [] ∷ [])) 65 ∷ [];
}

nests_deep-accepted : first_false (thread_obligations nests_deep 0) ≡ None
nests_deep-accepted = refl

nests_deep-counts : counts nests_deep 0 ≡ record { statements = 1; entailments = 1 }
nests_deep-counts = refl

-- var x: low; thread t { x := 1 + (1 + (1 + (1 + (1 + (1 + (1 + 1)))))); }
abbrev nests_too_deep : Program
nests_too_deep = record {
  version = 1;
  vars = variable (120 ∷ []) 4 low ∷ [];
  locks = [];
  threads =
      thread_of (116 ∷ []) 19 no_modes (block_of (
      stm 23 (assign 0 (one_plus (one_plus (one_plus (one_plus (one_plus (one_plus (one_plus (const 1)))))))) None []) [] ∷ [])) 71 ∷ [];
}

nests_too_deep-refused : first_false (thread_obligations nests_too_deep 0) ≡ refused V10 0 23 Nothing
nests_too_deep-refused = refl

-- lock l; thread t { lock l; }
abbrev keeps_lock : Program
keeps_lock = record {
  version = 1;
  vars = [];
  locks = lock_of (108 ∷ []) 5 [] [] None ∷ [];
  threads = thread_of (116 ∷ []) 15 no_modes (block_of (stm 19 (lock 0) [] ∷ [])) 27 ∷ [];
}

keeps_lock-refused : first_false (thread_obligations keeps_lock 0) ≡ refused V11 0 27 (One (108 ∷ []))
keeps_lock-refused = refl

-- var n: low; thread t assume nowrite n { n := 0; while 1 { n := n + 1; } }
abbrev counts_up : Program
counts_up = record {
  version = 1;
  vars = variable (110 ∷ []) 4 low ∷ [];
  locks = [];
  threads =
      thread_of (116 ∷ []) 19 (modes_of (0 ∷ []) [] [] []) (block_of (
      stm 40 (assign 0 (const 0) None []) []
      ∷ stm 48 (loop (const 1) no_state (block_of (stm 58 (assign 0 (bin Add (var 0) (const 1)) None []) [] ∷ []))) [] ∷ [])) 72 ∷ [];
}

counts_up-accepted : first_false (thread_obligations counts_up 0) ≡ None
counts_up-accepted = refl

counts_up-counts : counts counts_up 0 ≡ record { statements = 3; entailments = 3 }
counts_up-counts = refl

-- lock l; thread t { lock l; lock l; unlock l; }
abbrev locks_twice : Program
locks_twice = record {
  version = 1;
  vars = [];
  locks = lock_of (108 ∷ []) 5 [] [] None ∷ [];
  threads = thread_of (116 ∷ []) 15 no_modes (block_of (stm 19 (lock 0) [] ∷ stm 27 (lock 0) [] ∷ stm 35 (unlock 0) [] ∷ [])) 45 ∷ [];
}

locks_twice-refused : first_false (thread_obligations locks_twice 0) ≡ refused V6 0 27 (One (108 ∷ []))
locks_twice-refused = refl

-- lock l; thread t { unlock l; }
abbrev unlocks_free : Program
unlocks_free = record {
  version = 1;
  vars = [];
  locks = lock_of (108 ∷ []) 5 [] [] None ∷ [];
  threads = thread_of (116 ∷ []) 15 no_modes (block_of (stm 19 (unlock 0) [] ∷ [])) 29 ∷ [];
}

unlocks_free-refused : first_false (thread_obligations unlocks_free 0) ≡ refused V7 0 19 (One (108 ∷ []))
unlocks_free-refused = refl

-- var x: low; var y: low; thread t { x := y as y; }
abbrev type_over_unstable : Program
type_over_unstable = record {
  version = 1;
  vars = variable (120 ∷ []) 4 low ∷ variable (121 ∷ []) 16 low ∷ [];
  locks = [];
  threads = thread_of (116 ∷ []) 31 no_modes (block_of (stm 35 (assign 0 (var 1) (Some (var 1)) []) [] ∷ [])) 48 ∷ [];
}

type_over_unstable-refused : first_false (thread_obligations type_over_unstable 0) ≡ refused V4 0 35 Nothing
type_over_unstable-refused = refl

-- var c: low; var b: low when c == 0; var d: low; thread t { c := d; }
abbrev control_from_unstable : Program
control_from_unstable = record {
  version = 1;
  vars = variable (99 ∷ []) 4 low ∷ variable (98 ∷ []) 16 (when is_zero) ∷ variable (100 ∷ []) 40 low ∷ [];
  locks = [];
  threads = thread_of (116 ∷ []) 55 no_modes (block_of (stm 59 (assign 0 (var 2) None []) [] ∷ [])) 67 ∷ [];
}

control_from_unstable-refused : first_false (thread_obligations control_from_unstable 0) ≡ refused V5 0 59 (One (100 ∷ []))
control_from_unstable-refused = refl

-- var x: low; thread t { note { x == 0 }; }
abbrev notes_unstable : Program
notes_unstable = record {
  version = 1;
  vars = variable (120 ∷ []) 4 low ∷ [];
  locks = [];
  threads = thread_of (116 ∷ []) 19 no_modes (block_of (stm 23 (note (says (is_zero ∷ []) [])) [] ∷ [])) 40 ∷ [];
}

notes_unstable-refused : first_false (thread_obligations notes_unstable 0) ≡ refused V12 0 23 Nothing
notes_unstable-refused = refl

-- var x: low; thread t { note { ; x: 1 }; }
abbrev types_untracked : Program
types_untracked = record {
  version = 1;
  vars = variable (120 ∷ []) 4 low ∷ [];
  locks = [];
  threads = thread_of (116 ∷ []) 19 no_modes (block_of (stm 23 (note (says [] ((0, const 1) ∷ []))) [] ∷ [])) 40 ∷ [];
}

types_untracked-refused : first_false (thread_obligations types_untracked 0) ≡ refused V14 0 23 (One (120 ∷ []))
types_untracked-refused = refl

-- thread t { note {} by { 1: auto }; }
abbrev proves_nothing : Program
proves_nothing = record {
  version = 1;
  vars = [];
  locks = [];
  threads = thread_of (116 ∷ []) 7 no_modes (block_of (stm 11 (note no_state) (proof 1 by.auto ∷ []) ∷ [])) 35 ∷ [];
}

proves_nothing-refused : first_false (thread_obligations proves_nothing 0) ≡ refused V13 0 11 (Number 1)
proves_nothing-refused = refl

-- var x: low; thread t { note { 1, 1 } by { 1: auto, 2: auto, 2: auto, 1: auto }; }
abbrev repeats_numbers : Program
repeats_numbers = record {
  version = 1;
  vars = variable (120 ∷ []) 4 low ∷ [];
  locks = [];
  threads =
      thread_of (116 ∷ []) 19 no_modes (block_of (
      stm 23 (note (says (const 1 ∷ const 1 ∷ []) [])) (proof 1 by.auto ∷ proof 2 by.auto ∷ proof 2 by.auto ∷ proof 1 by.auto ∷ []) ∷ [])) 80 ∷ [];
}

repeats_numbers-refused : first_false (thread_obligations repeats_numbers 0) ≡ refused V13 0 23 (Number 1)
repeats_numbers-refused = refl

-- lock l; thread t { if 1 { lock l; } else { } }
abbrev takes_in_one_branch : Program
takes_in_one_branch = record {
  version = 1;
  vars = [];
  locks = lock_of (108 ∷ []) 5 [] [] None ∷ [];
  threads =
      thread_of (116 ∷ []) 15 no_modes (block_of (stm 19 (branch (const 1) (block_of (stm 26 (lock 0) [] ∷ [])) done no_state) [] ∷ [])) 45 ∷ [];
}

takes_in_one_branch-refused : first_false (thread_obligations takes_in_one_branch 0) ≡ refused V8 0 19 Nothing
takes_in_one_branch-refused = refl

-- var x: low; thread t assume nowrite x { note { 1, 2, 3, 4, 5, 6, 7, 8, 9, 10, 11, 12, 13, 14, 15, 16, 17, 18, 19, 20,
-- 21, 22, 23, 24, 25, 26, 27, 28, 29, 30, 31, 32, 33, 34, 35, 36, 37, 38, 39, 40, 41, 42, 43, 44, 45, 46, 47, 48, 49,
-- 50, 51, 52, 53, 54, 55, 56, 57, 58, 59, 60, 61, 62, 63 }; if x { } else { } }
abbrev many_predicates : Program
many_predicates = record {
  version = 1;
  vars = variable (120 ∷ []) 4 low ∷ [];
  locks = [];
  threads =
      thread_of (116 ∷ []) 19 (modes_of (0 ∷ []) [] [] []) (block_of (
      stm 40 (note (says (map const (range_with_len 1 63)) [])) []
      ∷ stm 292 (branch (var 0) done done no_state) [] ∷ [])) 310 ∷ [];
}

many_predicates-accepted : first_false (thread_obligations many_predicates 0) ≡ None
many_predicates-accepted = refl

many_predicates-counts : counts many_predicates 0 ≡ record { statements = 2; entailments = 64 }
many_predicates-counts = refl

-- var x: low; thread t assume nowrite x { note { 1, 2, 3, 4, 5, 6, 7, 8, 9, 10, 11, 12, 13, 14, 15, 16, 17, 18, 19, 20,
-- 21, 22, 23, 24, 25, 26, 27, 28, 29, 30, 31, 32, 33, 34, 35, 36, 37, 38, 39, 40, 41, 42, 43, 44, 45, 46, 47, 48, 49,
-- 50, 51, 52, 53, 54, 55, 56, 57, 58, 59, 60, 61, 62, 63, 64 }; if x { } else { } }
abbrev too_many_predicates : Program
too_many_predicates = record {
  version = 1;
  vars = variable (120 ∷ []) 4 low ∷ [];
  locks = [];
  threads =
      thread_of (116 ∷ []) 19 (modes_of (0 ∷ []) [] [] []) (block_of (
      stm 40 (note (says (map const (range_with_len 1 64)) [])) []
      ∷ stm 296 (branch (var 0) done done no_state) [] ∷ [])) 314 ∷ [];
}

too_many_predicates-refused : first_false (thread_obligations too_many_predicates 0) ≡ refused V15 0 296 Nothing
too_many_predicates-refused = refl

-- var c: low; var b: low when c == 0; thread t assume nowrite c assume hide b { c := 0 retype b as c == 5; note { ; b: c
-- == 5 }; }
abbrev new_type : Program
new_type = record {
  version = 1;
  vars = variable (99 ∷ []) 4 low ∷ variable (98 ∷ []) 16 (when is_zero) ∷ [];
  locks = [];
  threads =
      thread_of (116 ∷ []) 43 (modes_of (0 ∷ []) (1 ∷ []) [] []) (block_of (
      stm 78 (assign 0 (const 0) None ((1, bin Eq (var 0) (const 5)) ∷ [])) []
      ∷ stm 105 (note (says [] ((1, bin Eq (var 0) (const 5)) ∷ []))) [] ∷ [])) 127 ∷ [];
}

new_type-accepted : first_false (thread_obligations new_type 0) ≡ None
new_type-accepted = refl

new_type-counts : counts new_type 0 ≡ record { statements = 2; entailments = 3 }
new_type-counts = refl

-- var c: low; var b: low when c == 0; thread t assume nowrite c assume hide b { c := 0; note { ; b: c == 5 }; }
abbrev type_lost : Program
type_lost = record {
  version = 1;
  vars = variable (99 ∷ []) 4 low ∷ variable (98 ∷ []) 16 (when is_zero) ∷ [];
  locks = [];
  threads =
      thread_of (116 ∷ []) 43 (modes_of (0 ∷ []) (1 ∷ []) [] []) (block_of (
      stm 78 (assign 0 (const 0) None []) []
      ∷ stm 86 (note (says [] ((1, bin Eq (var 0) (const 5)) ∷ []))) [] ∷ [])) 108 ∷ [];
}

type_lost-refused : first_false (thread_obligations type_lost 0) ≡ refused V9 0 86 (Number 1)
type_lost-refused = refl

-- var x: high; var z: high; thread t assume nowrite x, z { x := 0 retype z as 1; }
abbrev types_without_control : Program
types_without_control = record {
  version = 1;
  vars = variable (120 ∷ []) 4 high ∷ variable (122 ∷ []) 17 high ∷ [];
  locks = [];
  threads =
      thread_of (116 ∷ []) 33 (modes_of (0 ∷ 1 ∷ []) [] [] []) (block_of (stm 57 (assign 0 (const 0) None ((1, const 1) ∷ [])) [] ∷ [])) 79 ∷ [];
}

types_without_control-refused : first_false (thread_obligations types_without_control 0) ≡ refused V14 0 57 (One (122 ∷ []))
types_without_control-refused = refl

-- var c: low; var b: low when c == 0; thread t assume nowrite c assume hide b { c := 0 retype b as 1 retype b as 1; }
abbrev types_twice : Program
types_twice = record {
  version = 1;
  vars = variable (99 ∷ []) 4 low ∷ variable (98 ∷ []) 16 (when is_zero) ∷ [];
  locks = [];
  threads =
      thread_of (116 ∷ []) 43 (modes_of (0 ∷ []) (1 ∷ []) [] []) (block_of (stm 78 (assign 0 (const 0) None ((1, const 1) ∷ (1, const 1) ∷ [])) [] ∷ [])) 114 ∷ [];
}

types_twice-refused : first_false (thread_obligations types_twice 0) ≡ refused V14 0 78 (One (98 ∷ []))
types_twice-refused = refl

-- var n: low; thread t assume nowrite n { n := 0; while n < 3 inv { ; n: 1 } { n := n + 1; } }
abbrev keeps_type : Program
keeps_type = record {
  version = 1;
  vars = variable (110 ∷ []) 4 low ∷ [];
  locks = [];
  threads =
      thread_of (116 ∷ []) 19 (modes_of (0 ∷ []) [] [] []) (block_of (
      stm 40 (assign 0 (const 0) None []) []
      ∷ stm 48 (loop (bin Lt (var 0) (const 3)) (says [] ((0, const 1) ∷ [])) (block_of (stm 77 (assign 0 (bin Add (var 0) (const 1)) None []) [] ∷ []))) [] ∷ [])) 91 ∷ [];
}

keeps_type-accepted : first_false (thread_obligations keeps_type 0) ≡ None
keeps_type-accepted = refl

keeps_type-counts : counts keeps_type 0 ≡ record { statements = 3; entailments = 5 }
keeps_type-counts = refl

-- var n: low; thread t assume nowrite n { n := 0; while n < 3 inv { n <= 3 ; n: 1 } { n := n + 1; } }
abbrev unproved_loop : Program
unproved_loop = record {
  version = 1;
  vars = variable (110 ∷ []) 4 low ∷ [];
  locks = [];
  threads =
      thread_of (116 ∷ []) 19 (modes_of (0 ∷ []) [] [] []) (block_of (
      stm 40 (assign 0 (const 0) None []) []
      ∷ stm 48 (loop (bin Lt (var 0) (const 3)) (says (bin Le (var 0) (const 3) ∷ []) ((0, const 1) ∷ [])) (block_of (stm 84 (assign 0 (bin Add (var 0) (const 1)) None []) [] ∷ []))) [] ∷ [])) 98 ∷ [];
}

unproved_loop-refused : first_false (thread_obligations unproved_loop 0) ≡ refused V9 0 48 (Number 1)
unproved_loop-refused = refl

-- var n: low; var s: high; lock l nowrite n hide s inv n <= 3; thread t { lock l; unlock l by { 2: hyp 2, 1: hyp 1 }; }
abbrev gives_invariant : Program
gives_invariant = record {
  version = 1;
  vars = variable (110 ∷ []) 4 low ∷ variable (115 ∷ []) 16 high ∷ [];
  locks = lock_of (108 ∷ []) 30 (0 ∷ []) (1 ∷ []) (Some (bin Le (var 0) (const 3))) ∷ [];
  threads =
      thread_of (116 ∷ []) 68 no_modes (block_of (stm 72 (lock 0) [] ∷ stm 80 (unlock 0) (proof 2 (by.hyp 2) ∷ proof 1 (by.hyp 1) ∷ []) ∷ [])) 116 ∷ [];
}

gives_invariant-accepted : first_false (thread_obligations gives_invariant 0) ≡ None
gives_invariant-accepted = refl

gives_invariant-counts : counts gives_invariant 0 ≡ record { statements = 2; entailments = 2 }
gives_invariant-counts = refl

-- var n: low; var s: high; lock l nowrite n hide s inv n <= 3; thread t { lock l; unlock l by { 2: hyp 1, 1: hyp 1 }; }
abbrev gives_secret : Program
gives_secret = record {
  version = 1;
  vars = variable (110 ∷ []) 4 low ∷ variable (115 ∷ []) 16 high ∷ [];
  locks = lock_of (108 ∷ []) 30 (0 ∷ []) (1 ∷ []) (Some (bin Le (var 0) (const 3))) ∷ [];
  threads =
      thread_of (116 ∷ []) 68 no_modes (block_of (stm 72 (lock 0) [] ∷ stm 80 (unlock 0) (proof 2 (by.hyp 1) ∷ proof 1 (by.hyp 1) ∷ []) ∷ [])) 116 ∷ [];
}

gives_secret-refused : first_false (thread_obligations gives_secret 0) ≡ refused V9 0 80 (Number 2)
gives_secret-refused = refl

-- var m: low; var b: low when m == 0; var k: high; var x: high; var o: low; lock l hide m, b; thread w guarantee hide x
-- { lock l; b := k; m := 1; unlock l by { 1: have [1 == 0] (rev 1 [_ == 0] (hyp 2)) (clash 3) }; lock l; b := 0; m := 0;
-- unlock l; } thread r assume hide x { lock l; if m == 0 { x := b as 1; } else { x := 0; } join { ; b: m == 0, x: 1 }
-- unlock l; o := x; }
abbrev big : Program
big = record {
  version = 1;
  vars =
      variable (109 ∷ []) 4 low
      ∷ variable (98 ∷ []) 16 (when is_zero)
      ∷ variable (107 ∷ []) 40 high
      ∷ variable (120 ∷ []) 53 high
      ∷ variable (111 ∷ []) 66 low ∷ [];
  locks = lock_of (108 ∷ []) 79 [] (0 ∷ 1 ∷ []) None ∷ [];
  threads =
      thread_of (119 ∷ []) 99 (modes_of [] [] [] (3 ∷ [])) (block_of (
      stm 122 (lock 0) []
      ∷ stm 132 (assign 1 (var 2) None []) []
      ∷ stm 142 (assign 0 (const 1) None []) []
      ∷ stm 152 (unlock 0) (proof 1 raising ∷ [])
      ∷ stm 223 (lock 0) []
      ∷ stm 233 (assign 1 (const 0) None []) []
      ∷ stm 243 (assign 0 (const 0) None []) []
      ∷ stm 253 (unlock 0) [] ∷ [])) 263
      ∷ thread_of (114 ∷ []) 272 (modes_of [] (3 ∷ []) [] []) (block_of (
      stm 292 (lock 0) []
      ∷ stm 302 (branch is_zero (block_of (stm 318 (assign 3 (var 1) (Some (const 1)) []) [] ∷ []))
      (block_of (stm 346 (assign 3 (const 0) None []) [] ∷ [])) (says [] ((1, is_zero) ∷ (3, const 1) ∷ []))) []
      ∷ stm 387 (unlock 0) []
      ∷ stm 399 (assign 4 (var 3) None []) [] ∷ [])) 407 ∷ [];
}

big-accepted-0 : first_false (thread_obligations big 0) ≡ None
big-accepted-0 = refl

big-counts-0 : counts big 0 ≡ record { statements = 8; entailments = 4 }
big-counts-0 = refl

big-accepted-1 : first_false (thread_obligations big 1) ≡ None
big-accepted-1 = refl

big-counts-1 : counts big 1 ≡ record { statements = 6; entailments = 8 }
big-counts-1 = refl

-- a guard of so many nodes, and a note where it doesn't hold
abbrev long_guard : ℕ → Program
long_guard negations = record {
  version = 1;
  vars = variable (120 ∷ []) 4 low ∷ [];
  locks = [];
  threads =
      thread_of (116 ∷ []) 19 (modes_of (0 ∷ []) [] [] []) (block_of (
      stm 40 (branch (negated negations (var 0)) done (block_of (stm 60 (note (says (const 1 ∷ []) [])) [] ∷ [])) no_state) [] ∷ [])) 80 ∷ [];
}

long_guard-accepted : first_false (thread_obligations (long_guard 998) 0) ≡ None
long_guard-accepted = refl

-- a hypothesis of the note has 1,001 nodes
long_guard-refused : first_false (thread_obligations (long_guard 999) 0) ≡ refused V16 0 60 Nothing
long_guard-refused = refl

-- thread t { skip; }, of which the tree has a proof that no text can give
abbrev skips_with_proof : Program
skips_with_proof = record {
  version = 1;
  vars = [];
  locks = [];
  threads = thread_of (116 ∷ []) 7 no_modes (block_of (stm 11 skip (proof 1 by.auto ∷ []) ∷ [])) 17 ∷ [];
}

skips_with_proof-refused : first_false (thread_obligations skips_with_proof 0) ≡ refused V13 0 11 (Number 1)
skips_with_proof-refused = refl
