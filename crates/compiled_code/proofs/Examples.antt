-- Small programs of which the code and its runs are known, by computation, and codes that aren't good.
use Rattle.std.proofs.Common.{◌≡◌, ◌≤◌, ◌<◌, ℕ, zero, suc, List, [], ◌∷◌, length, get_or, replicate, true, Some, None, refl, sym, ap, subst, arith}
use Rattle.std.proofs.lemmas.List.{get_or-replicate, length-replicate}
use Rattle.cov_expr.specs.declared.expr.Op.TheVariants.{Add, Sub, Eq}
use Rattle.cov_expr.specs.Term.{Term, const, var, bin}
use Rattle.cov_expr.specs.Words.{AreWords, IsMemory, IsSchedule}
use Rattle.cov_ast.specs.Declarations.{no_modes, thread_at}
use Rattle.cov_ast.specs.Plain.{plain, no_state}
use Rattle.cov_ast.specs.Syntax.{Class, low, high, when, Var, Lock, Modes, Stm, skip, assign, lock, unlock, branch, loop, output, Thread, Program}
use Rattle.cov_ast.specs.View.{Placed, block_of}
use Rattle.flow_model.specs.Source.{after, stayed}
use Rattle.regalloc.specs.Plan.{Plan, frees, room}
use Rattle.compiled_code.specs.Compiled.{line, compiled, expr_instrs}
use Rattle.compiled_code.specs.LoadBound.{loads_of, IsSmall, MeetsLoadBound}
use Rattle.compiled_code.specs.Matches.{AreRegisters, Matches}
use Rattle.compiled_code.proofs.Cores.{exec}
use Rattle.risc_machine.specs.Machine.{code_after, lifted, lines_of}
use Rattle.risc_machine.specs.declared.parts.Instr.TheVariants.{Load, Store, Jump, Jz, Nop, MovC, MovR, Bin, Acquire, Release, Out}
use Rattle.risc_machine.specs.declared.parts.Line.{Line}
use Rattle.risc_machine.specs.declared.parts.Parts.{Parts}

abbrev variable : ℕ → Class → Var
variable letter class = record { name = letter ∷ []; at = 0; class = class }

abbrev lock_of : (nowrite hide : List ℕ) → Lock
lock_of nowrite hide = record { name = 108 ∷ []; at = 0; nowrite = nowrite; hide = hide; inv = None }

abbrev thread_of : ℕ → Modes → List Placed → Thread
thread_of letter modes body = record { name = letter ∷ []; at = 0; modes = modes; body = block_of body; end = 0 }

abbrev stm : ℕ → Stm → Placed
stm at s = record { at = at; stm = s; proofs = [] }

abbrev put : ℕ → (x : ℕ) → Term → Placed
put at x e = stm at (assign x e None [])

abbrev assumes_unwritten : List ℕ → Modes
assumes_unwritten xs = record no_modes { assume_nowrite = xs }

-- all registers of so many threads are 0
abbrev zeros : ℕ → List (List ℕ)
zeros n = replicate n (replicate 8 0)

-- 0, 1, 0, 1, ..
abbrev in_turn : ℕ → List ℕ
in_turn zero = []
in_turn (suc n) = 0 ∷ 1 ∷ in_turn n

-- Variables that are loaded once ---------------------------------------------------------------------------------

-- var a: low; var b: low; thread t assume nowrite a { b := a; b := a; }
abbrev twice : Program
twice = record {
  version = 1;
  vars = variable 97 low ∷ variable 98 low ∷ [];
  locks = [];
  threads = thread_of 116 (assumes_unwritten (0 ∷ [])) (put 1 1 (var 0) ∷ put 2 1 (var 0) ∷ []) ∷ [];
}

twice_lines : lines_of (compiled twice) 0 ≡ line 1 (Load 1 0) ∷ line 0 (MovR 0 1) ∷ line 1 (Store 1 0) ∷ line 2 (Store 1 1) ∷ []
unfolding frees room
twice_lines = refl

twice_loads : loads_of 0 (lines_of (compiled twice) 0) ≡ 1
unfolding frees room
twice_loads = refl

twice_run : (code_after (compiled twice) (5 ∷ 0 ∷ []) (zeros 1) (replicate 40 0)).memory ≡ 5 ∷ 5 ∷ []
unfolding frees room
twice_run = refl

twice_done : (code_after (compiled twice) (5 ∷ 0 ∷ []) (zeros 1) (replicate 40 0)).positions ≡ 4 ∷ []
unfolding frees room
twice_done = refl

-- var n: low; var o: low; lock l nowrite n; thread t { lock l; o := n; o := n; unlock l; }
abbrev read_twice : Program
read_twice = record {
  version = 1;
  vars = variable 110 low ∷ variable 111 low ∷ [];
  locks = lock_of (0 ∷ []) [] ∷ [];
  threads = thread_of 116 no_modes (stm 1 (lock 0) ∷ put 2 1 (var 0) ∷ put 3 1 (var 0) ∷ stm 4 (unlock 0) ∷ []) ∷ [];
}

read_twice_lines : lines_of (compiled read_twice) 0
    ≡ line 1 (Acquire 0) ∷ line 1 (Load 1 0) ∷ line 0 (MovR 0 1) ∷ line 1 (Store 1 0) ∷ line 2 (Store 1 1) ∷ line 1 (Release 0) ∷ []
unfolding frees room
read_twice_lines = refl

read_twice_loads : loads_of 0 (lines_of (compiled read_twice) 0) ≡ 1
unfolding frees room
read_twice_loads = refl

-- A value that is stored is kept: lock l; n := n + 1; o := n; n := n + 1; unlock l; with n under the lock.
abbrev stored_and_read : Program
stored_and_read = record {
  version = 1;
  vars = variable 110 low ∷ variable 111 low ∷ [];
  locks = lock_of (0 ∷ []) [] ∷ [];
  threads =
      thread_of 116 no_modes (
      stm 1 (lock 0) ∷ put 2 0 (bin Add (var 0) (const 1)) ∷ put 3 1 (var 0) ∷ put 4 0 (bin Add (var 0) (const 1)) ∷ stm 5 (unlock 0) ∷ []
      ) ∷ [];
}

stored_and_read_loads : loads_of 0 (lines_of (compiled stored_and_read) 0) ≡ 1
unfolding frees room
stored_and_read_loads = refl

stored_and_read_run : (code_after (compiled stored_and_read) (5 ∷ 0 ∷ []) (zeros 1) (replicate 40 0)).memory ≡ 7 ∷ 6 ∷ []
unfolding frees room
stored_and_read_run = refl

-- Of two variables that are kept, one is assigned to the other: the value is copied, so that neither is loaded again.
-- var a: low; var b: low; var z: low; thread t assume nowrite a, b { z := a; z := b; a := b; z := a; z := b; }
abbrev copied : Program
copied = record {
  version = 1;
  vars = variable 97 low ∷ variable 98 low ∷ variable 122 low ∷ [];
  locks = [];
  threads =
      thread_of 116 (assumes_unwritten (0 ∷ 1 ∷ [])) (put 1 2 (var 0) ∷ put 2 2 (var 1) ∷ put 3 0 (var 1) ∷ put 4 2 (var 0) ∷ put 5 2 (var 1) ∷ []) ∷ [];
}

copied_lines : lines_of (compiled copied) 0
    ≡ line 1 (Load 1 0) ∷ line 0 (MovR 0 1) ∷ line 1 (Store 2 0) ∷ line 1 (Load 2 1) ∷ line 0 (MovR 0 2) ∷ line 1 (Store 2 0)
    ∷ line 1 (MovR 0 2) ∷ line 1 (Store 0 0) ∷ line 2 (Store 2 0) ∷ line 2 (Store 2 2) ∷ []
unfolding frees room
copied_lines = refl

-- Four variables a, b, c, d that are assumed, an unstable u, and expressions of width 3: a isn't loaded, b, c and d once.
abbrev four : Program
four = record {
  version = 1;
  vars = variable 97 low ∷ variable 98 low ∷ variable 99 low ∷ variable 100 low ∷ variable 117 low ∷ [];
  locks = [];
  threads =
      thread_of 116 (assumes_unwritten (0 ∷ 1 ∷ 2 ∷ 3 ∷ [])) (
      put 1 0 (bin Add (var 1) (bin Add (var 2) (var 3)))
      ∷ put 2 4 (bin Add (bin Add (var 0) (var 4)) (bin Add (bin Add (var 1) (var 2)) (var 3)))
      ∷ put 3 1 (bin Add (var 0) (bin Add (var 4) (var 2)))
      ∷ put 4 3 (var 1)
      ∷ put 5 4 (bin Add (bin Add (var 0) (var 1)) (bin Add (var 2) (var 3)))
      ∷ []
      ) ∷ [];
}

four_loads : loads_of 0 (lines_of (compiled four) 0) ∷ loads_of 1 (lines_of (compiled four) 0) ∷ loads_of 2 (lines_of (compiled four) 0)
    ∷ loads_of 3 (lines_of (compiled four) 0) ∷ loads_of 4 (lines_of (compiled four) 0) ∷ [] ≡ 0 ∷ 1 ∷ 1 ∷ 1 ∷ 2 ∷ []
unfolding frees room
four_loads = refl

-- v0 + (v1 + (.. + v6)): width 7
abbrev wide : Term
wide = bin Add (var 0) (bin Add (var 1) (bin Add (var 2) (bin Add (var 3) (bin Add (var 4) (bin Add (var 5) (var 6))))))

-- r0 to r6 keep variables 0 to 6
abbrev full : Plan
full = Some 0 ∷ Some 1 ∷ Some 2 ∷ Some 3 ∷ Some 4 ∷ Some 5 ∷ Some 6 ∷ None ∷ []

-- There, all is given up, and each variable is loaded as a part.
wide_code : expr_instrs (λ x. true) full wide
    ≡ Load 0 0 ∷ Load 1 1 ∷ Load 2 2 ∷ Load 3 3 ∷ Load 4 4 ∷ Load 5 5 ∷ Load 6 6
    ∷ Bin Add 5 6 ∷ Bin Add 4 5 ∷ Bin Add 3 4 ∷ Bin Add 2 3 ∷ Bin Add 1 2 ∷ Bin Add 0 1 ∷ []
unfolding frees room
wide_code = refl

wide_run : get_or (exec (replicate 8 9) (1 ∷ 2 ∷ 3 ∷ 4 ∷ 5 ∷ 6 ∷ 7 ∷ []) (expr_instrs (λ x. true) full wide)) 0 0 ≡ 28
unfolding frees room
wide_run = refl

-- Two parts take r5 and r6.
narrow_code : expr_instrs (λ x. true) full (bin Add (var 0) (var 6)) ≡ MovR 5 0 ∷ Load 6 6 ∷ Bin Add 5 6 ∷ []
unfolding frees room
narrow_code = refl

-- Branches, loops and outputs ------------------------------------------------------------------------------------

-- A guard in a register is tested by one instruction; a loop begins with nothing kept. var a: low; var o: low; var n: low;
-- thread t assume nowrite a, n { o := a; if a { n := a; } else { n := 2; } while n { n := n - 1; } o := n; }
abbrev guarded : Program
guarded = record {
  version = 1;
  vars = variable 97 low ∷ variable 111 low ∷ variable 110 low ∷ [];
  locks = [];
  threads =
      thread_of 116 (assumes_unwritten (0 ∷ 2 ∷ [])) (
      put 1 1 (var 0)
      ∷ stm 2 (branch (var 0) (block_of (put 3 2 (var 0) ∷ [])) (block_of (put 4 2 (const 2) ∷ [])) no_state)
      ∷ stm 5 (loop (var 2) no_state (block_of (put 6 2 (bin Sub (var 2) (const 1)) ∷ [])))
      ∷ put 7 1 (var 2)
      ∷ []
      ) ∷ [];
}

guarded_lines : lines_of (compiled guarded) 0
    ≡ line 1 (Load 1 0) ∷ line 0 (MovR 0 1) ∷ line 1 (Store 1 0)
    ∷ line 2 (Jz 1 7) ∷ line 1 (MovR 0 1) ∷ line 1 (Store 2 0) ∷ line 0 (Jump 9) ∷ line 1 (MovC 0 2) ∷ line 1 (Store 2 0)
    ∷ line 1 (Load 1 2) ∷ line 0 (MovR 0 1) ∷ line 1 (Jz 0 17)
    ∷ line 1 (MovR 0 1) ∷ line 0 (MovC 2 1) ∷ line 0 (Bin Sub 0 2) ∷ line 1 (Store 2 0) ∷ line 0 (Jump 9)
    ∷ line 2 (Store 1 1) ∷ []
unfolding frees room
guarded_lines = refl

guarded_run : (code_after (compiled guarded) (3 ∷ 9 ∷ 0 ∷ []) (zeros 1) (replicate 60 0)).memory ≡ 3 ∷ 0 ∷ 0 ∷ []
unfolding frees room
guarded_run = refl

guarded_source : (after (plain guarded) (3 ∷ 9 ∷ 0 ∷ []) (lifted (compiled guarded) (3 ∷ 9 ∷ 0 ∷ []) (zeros 1) (replicate 60 0))).memory ≡ 3 ∷ 0 ∷ 0 ∷ []
unfolding frees room
guarded_source = refl

-- version 2; var a: low; var b: low; thread t assume nowrite a { output a; output b + a; }
abbrev says : Program
says = record {
  version = 2;
  vars = variable 97 low ∷ variable 98 low ∷ [];
  locks = [];
  threads = thread_of 116 (assumes_unwritten (0 ∷ [])) (stm 1 (output (var 0)) ∷ stm 2 (output (bin Add (var 1) (var 0))) ∷ []) ∷ [];
}

says_lines : lines_of (compiled says) 0
    ≡ line 1 (Load 1 0) ∷ line 0 (MovR 0 1) ∷ line 1 (Out 0) ∷ line 1 (Load 7 1) ∷ line 0 (MovR 0 7) ∷ line 0 (MovR 2 1) ∷ line 0 (Bin Add 0 2) ∷ line 1 (Out 0) ∷ []
unfolding frees room
says_lines = refl

says_run : (code_after (compiled says) (3 ∷ 4 ∷ []) (zeros 1) (replicate 20 0)).outputs ≡ 3 ∷ 7 ∷ []
unfolding frees room
says_run = refl

-- Several threads ------------------------------------------------------------------------------------------------

-- var n: low; lock l nowrite n; thread a { lock l; n := 1; unlock l; } thread b { lock l; n := 2; unlock l; }
abbrev two_threads : Program
two_threads = record {
  version = 1;
  vars = variable 110 low ∷ [];
  locks = lock_of (0 ∷ []) [] ∷ [];
  threads =
      thread_of 97 no_modes (stm 1 (lock 0) ∷ put 2 0 (const 1) ∷ stm 3 (unlock 0) ∷ [])
      ∷ thread_of 98 no_modes (stm 4 (lock 0) ∷ put 5 0 (const 2) ∷ stm 6 (unlock 0) ∷ []) ∷ [];
}

two_threads_run : (code_after (compiled two_threads) (0 ∷ []) (zeros 2) (replicate 20 0)).memory ≡ 1 ∷ []
unfolding frees room
two_threads_run = refl

two_threads_free : (code_after (compiled two_threads) (0 ∷ []) (zeros 2) (replicate 20 0)).holders ≡ None ∷ []
unfolding frees room
two_threads_free = refl

two_threads_ends : (code_after (compiled two_threads) (0 ∷ []) (zeros 2) (replicate 20 0)).positions ≡ 4 ∷ 0 ∷ []
unfolding frees room
two_threads_ends = refl

-- A secret under a lock, and a reader. var m: low; var b: low when m == 0; var k: high; var t: high; var n: low;
-- lock l hide m, b; thread w guarantee hide t { lock l; b := k; m := 1; unlock l; }
-- thread r assume hide t { lock l; if m == 0 { t := b; } else { t := 0; } unlock l; n := t; }
abbrev written : List Placed
written = stm 1 (lock 0) ∷ put 2 1 (var 2) ∷ put 3 0 (const 1) ∷ stm 4 (unlock 0) ∷ []

abbrev wiped : List Placed
wiped = stm 5 (lock 0) ∷ put 6 1 (const 0) ∷ put 7 0 (const 0) ∷ stm 8 (unlock 0) ∷ []

abbrev read : List Placed
read =
    stm 1 (lock 0)
    ∷ stm 2 (branch (bin Eq (var 0) (const 0)) (block_of (put 3 3 (var 1) ∷ [])) (block_of (put 4 3 (const 0) ∷ [])) no_state)
    ∷ stm 5 (unlock 0)
    ∷ put 6 4 (var 3)
    ∷ []

abbrev shared_secret : (writer : List Placed) → Program
shared_secret writer = record {
  version = 1;
  vars = variable 109 low ∷ variable 98 (when (bin Eq (var 0) (const 0))) ∷ variable 107 high ∷ variable 116 high ∷ variable 110 low ∷ [];
  locks = lock_of [] (0 ∷ 1 ∷ []) ∷ [];
  threads =
      thread_of 119 (record no_modes { guarantee_hide = 3 ∷ [] }) writer
      ∷ thread_of 114 (record no_modes { assume_hide = 3 ∷ [] }) read ∷ [];
}

secret_left : (code_after (compiled (shared_secret written)) (0 ∷ 0 ∷ 5 ∷ 0 ∷ 0 ∷ []) (zeros 2) (in_turn 50)).memory ≡ 1 ∷ 5 ∷ 5 ∷ 0 ∷ 0 ∷ []
unfolding frees room
secret_left = refl

secret_right : (code_after (compiled (shared_secret written)) (0 ∷ 0 ∷ 9 ∷ 0 ∷ 0 ∷ []) (zeros 2) (in_turn 50)).memory ≡ 1 ∷ 9 ∷ 9 ∷ 0 ∷ 0 ∷ []
unfolding frees room
secret_right = refl

secret_ends : (code_after (compiled (shared_secret written)) (0 ∷ 0 ∷ 5 ∷ 0 ∷ 0 ∷ []) (zeros 2) (in_turn 50)).positions
    ≡ length (lines_of (compiled (shared_secret written)) 0) ∷ length (lines_of (compiled (shared_secret written)) 1) ∷ []
unfolding frees room
secret_ends = refl

secret_free : (code_after (compiled (shared_secret written)) (0 ∷ 0 ∷ 5 ∷ 0 ∷ 0 ∷ []) (zeros 2) (in_turn 50)).holders ≡ None ∷ []
unfolding frees room
secret_free = refl

-- The writer wipes it again: the source stays ten times, and source and code end with the same words.
abbrev wiped_secret : Program
wiped_secret = shared_secret (stm 1 (lock 0) ∷ put 2 1 (var 2) ∷ put 3 0 (const 1) ∷ stm 4 (unlock 0) ∷ wiped)

wiped_source : (after (plain wiped_secret) (0 ∷ 0 ∷ 2 ∷ 0 ∷ 0 ∷ []) (in_turn 50)).memory ≡ 0 ∷ 0 ∷ 2 ∷ 0 ∷ 0 ∷ []
wiped_source = refl

wiped_stayed : stayed (plain wiped_secret) (0 ∷ 0 ∷ 2 ∷ 0 ∷ 0 ∷ []) (in_turn 50) ≡ 10
wiped_stayed = refl

wiped_left : (code_after (compiled wiped_secret) (0 ∷ 0 ∷ 1 ∷ 0 ∷ 0 ∷ []) (zeros 2) (in_turn 50)).memory ≡ 0 ∷ 0 ∷ 1 ∷ 0 ∷ 0 ∷ []
unfolding frees room
wiped_left = refl

wiped_right : (code_after (compiled wiped_secret) (0 ∷ 0 ∷ 2 ∷ 0 ∷ 0 ∷ []) (zeros 2) (in_turn 50)).memory ≡ 0 ∷ 0 ∷ 2 ∷ 0 ∷ 0 ∷ []
unfolding frees room
wiped_right = refl

-- Codes that don't match -----------------------------------------------------------------------------------------

are_registers : (n : ℕ) → AreRegisters n (zeros n)
are_registers n = record {
  complete = length-replicate n (replicate 8 0);
  eight = λ t d inside.
      subst (λ row. (length row ≡ 8) × AreWords row) (sym (get_or-replicate n t (replicate 8 0) d (subst (λ k. t < k) (length-replicate n (replicate 8 0)) inside)))
      (refl, (omega arith, (omega arith, (omega arith, (omega arith, (omega arith, (omega arith, (omega arith, (omega arith, tt)))))))));
}

abbrev one_code : (letter : ℕ) → List Line → Parts
one_code letter lines = record { version = 1; vars = []; locks = []; threads = record { name = letter ∷ []; lines = lines } ∷ [] }

-- thread t { skip; }
abbrev skips : Program
skips = record { version = 1; vars = []; locks = []; threads = thread_of 116 no_modes (stm 1 skip ∷ []) ∷ [] }

skips_lines : lines_of (compiled skips) 0 ≡ line 1 Nop ∷ []
skips_lines = refl

-- code without a line ends before its source
no_lines_fail : Matches skips (one_code 116 []) → ⊥
no_lines_fail k =
    let e = (k.runs [] (zeros 1) [] (record { complete = refl; words = tt }) (are_registers 1) tt).ended 0 refl in
    cc

-- code that jumps to itself never makes a step of its source
spinning_fails : Matches skips (one_code 116 (line 0 (Jump 0) ∷ [])) → ⊥
spinning_fails k =
    let e : 1 ≤ 0 = (k.runs [] (zeros 1) [] (record { complete = refl; words = tt }) (are_registers 1) tt).progress 0 (0 ∷ []) (omega arith, tt) refl (λ e. cc) in
    omega arith

-- An unstable variable that is loaded behind the instruction that stands for the evaluation: another thread may store between.
-- var a: low; var b: low; thread t { b := a; } thread u { a := 1; }
abbrev raced : Program
raced = record {
  version = 1;
  vars = variable 97 low ∷ variable 98 low ∷ [];
  locks = [];
  threads = thread_of 116 no_modes (put 1 1 (var 0) ∷ []) ∷ thread_of 117 no_modes (put 2 0 (const 1) ∷ []) ∷ [];
}

abbrev late : Parts
late = record {
  version = 1;
  vars = (97 ∷ []) ∷ (98 ∷ []) ∷ [];
  locks = [];
  threads =
      record { name = 116 ∷ []; lines = line 1 Nop ∷ line 0 (Load 0 0) ∷ line 1 (Store 1 0) ∷ [] }
      ∷ record { name = 117 ∷ []; lines = line 1 (MovC 0 1) ∷ line 1 (Store 0 0) ∷ [] } ∷ [];
}

raced_lines : lines_of (compiled raced) 0 ≡ line 1 (Load 7 0) ∷ line 0 (MovR 0 7) ∷ line 1 (Store 1 0) ∷ []
unfolding frees room
raced_lines = refl

late_fails : Matches raced late → ⊥
late_fails k =
    let m : IsMemory 2 (0 ∷ 0 ∷ []) = record { complete = refl; words = (omega arith, (omega arith, tt)) } in
    let s : List ℕ = 0 ∷ 1 ∷ 1 ∷ 0 ∷ 0 ∷ [] in
    let h : IsSchedule 2 s = (omega arith, (omega arith, (omega arith, (omega arith, (omega arith, tt))))) in
    let e : ◌≡◌ {A = ℕ} 1 0 = ap (λ m. get_or m 1 0) (k.runs (0 ∷ 0 ∷ []) (zeros 2) s m (are_registers 2) h).memory in
    cc

-- A register of a lock's variable that is used behind the release of the lock: the lock of `read_twice`, and
-- thread a { lock l; o := n; unlock l; o := n; } thread b { lock l; n := 1; unlock l; }
abbrev read_after : Program
read_after = record {
  version = 1;
  vars = variable 110 low ∷ variable 111 low ∷ [];
  locks = lock_of (0 ∷ []) [] ∷ [];
  threads =
      thread_of 97 no_modes (stm 1 (lock 0) ∷ put 2 1 (var 0) ∷ stm 3 (unlock 0) ∷ put 4 1 (var 0) ∷ [])
      ∷ thread_of 98 no_modes (stm 5 (lock 0) ∷ put 6 0 (const 1) ∷ stm 7 (unlock 0) ∷ []) ∷ [];
}

abbrev stale : Parts
stale = record {
  version = 1;
  vars = (110 ∷ []) ∷ (111 ∷ []) ∷ [];
  locks = (108 ∷ []) ∷ [];
  threads =
      record { name = 97 ∷ []; lines = line 1 (Acquire 0) ∷ line 1 (Load 0 0) ∷ line 1 (Store 1 0) ∷ line 1 (Release 0) ∷ line 2 (Store 1 0) ∷ [] }
      ∷ record { name = 98 ∷ []; lines = line 1 (Acquire 0) ∷ line 1 (MovC 0 1) ∷ line 1 (Store 0 0) ∷ line 1 (Release 0) ∷ [] } ∷ [];
}

stale_fails : Matches read_after stale → ⊥
stale_fails k =
    let m : IsMemory 2 (0 ∷ 0 ∷ []) = record { complete = refl; words = (omega arith, (omega arith, tt)) } in
    let s : List ℕ = 0 ∷ 0 ∷ 0 ∷ 0 ∷ 1 ∷ 1 ∷ 1 ∷ 1 ∷ 0 ∷ [] in
    let h : IsSchedule 2 s = (omega arith, (omega arith, (omega arith, (omega arith, (omega arith, (omega arith, (omega arith, (omega arith, (omega arith, tt))))))))) in
    let e : ◌≡◌ {A = ℕ} 0 1 = ap (λ m. get_or m 1 0) (k.runs (0 ∷ 0 ∷ []) (zeros 2) s m (are_registers 2) h).memory in
    cc

-- Codes that load too often --------------------------------------------------------------------------------------

twice_small : IsSmall (plain twice) 0 (thread_at (plain twice) 0).body
twice_small = record { straight = (refl, (refl, tt)); narrow = (omega arith, (omega arith, tt)); four = omega arith }

-- the code of `twice` that loads a variable for each use
abbrev loads_each_time : Parts
loads_each_time = record {
  version = 1;
  vars = (97 ∷ []) ∷ (98 ∷ []) ∷ [];
  locks = [];
  threads = record { name = 116 ∷ []; lines = line 1 (Load 0 0) ∷ line 1 (Store 1 0) ∷ line 1 (Load 0 0) ∷ line 1 (Store 1 0) ∷ [] } ∷ [];
}

loads_each_time_fails : MeetsLoadBound (plain twice) loads_each_time → ⊥
loads_each_time_fails k = let n : 2 ≤ 1 = (k 0 (omega arith) twice_small).assumed 0 refl in omega arith

-- A store of weight 2 to a variable that is stable leaves it without a register, or its source: the code of `copied` then loads one again.
abbrev forgets : Parts
forgets = record {
  version = 1;
  vars = (97 ∷ []) ∷ (98 ∷ []) ∷ (122 ∷ []) ∷ [];
  locks = [];
  threads =
      record {
        name = 116 ∷ [];
        lines = line 1 (Load 1 0) ∷ line 0 (MovR 0 1) ∷ line 1 (Store 2 0) ∷ line 1 (Load 2 1) ∷ line 0 (MovR 0 2) ∷ line 1 (Store 2 0)
            ∷ line 2 (Store 0 2) ∷ line 1 (Load 1 0) ∷ line 1 (Store 2 1) ∷ line 2 (Store 2 2) ∷ [];
      } ∷ [];
}

copied_small : IsSmall (plain copied) 0 (thread_at (plain copied) 0).body
copied_small = record { straight = (refl, (refl, (refl, (refl, (refl, tt))))); narrow = (omega arith, (omega arith, (omega arith, (omega arith, (omega arith, tt))))); four = omega arith }

forgets_fails : MeetsLoadBound (plain copied) forgets → ⊥
forgets_fails k = let n : 2 ≤ 1 = (k 0 (omega arith) copied_small).assumed 0 refl in omega arith
