-- Examples: small texts and what their names mean, by computation.
use Rattle.std.proofs.Common.{◌≡◌, ℕ, List, [], ◌∷◌, true, false, Option, Some, None, refl}
use Rattle.cov_expr.specs.Term.{const, var, bin}
use Rattle.cov_expr.specs.declared.expr.Op.TheVariants.{Eq}
use Rattle.cov_expr.specs.declared.expr.TheConstants.{HOLE}
use Rattle.cov_ast.specs.Syntax.{Class, low, high, when, Var, Lock, Block, done, more, Proof, Thread, Parsed, Stm}
use Rattle.cov_ast.specs.Syntax as s
use Rattle.cov_ast.specs.Declarations.{no_modes}
use Rattle.cov_ast.specs.Obligations.{first_false, declared_obligation}
use Rattle.cov_ast.specs.declared.parsed.NameUse.{NameUse}
use Rattle.cov_ast.specs.declared.refusal.Refusal.{Refusal}
use Rattle.cov_ast.specs.declared.refusal.Rule.TheVariants.{W1, W2}
use Rattle.cov_ast.specs.declared.refusal.Detail.TheVariants.{One}
use Rattle.policy_class.specs.Resolved.{name_obligations, resolved}

-- names of one letter
abbrev variable : ℕ → ℕ → Class → Var
variable letter at class = record { name = letter ∷ []; at = at; class = class }

abbrev lock_named : ℕ → ℕ → (nowrite : List ℕ) → Lock
lock_named letter at nowrite = record { name = letter ∷ []; at = at; nowrite = nowrite; hide = []; inv = None }

abbrev thread_named : ℕ → ℕ → Block → ℕ → Thread
thread_named letter at body end = record { name = letter ∷ []; at = at; modes = no_modes; body = body; end = end }

abbrev used : ℕ → ℕ → NameUse
used name at = record { name = name; lock = false; at = at }

abbrev used_lock : ℕ → ℕ → NameUse
used_lock name at = record { name = name; lock = true; at = at }

abbrev w1 : ℕ → ℕ → Option Refusal
w1 at letter = Some (declared_obligation W1 at (One (letter ∷ [])) false).refusal

abbrev w2 : ℕ → ℕ → Option Refusal
w2 at letter = Some (declared_obligation W2 at (One (letter ∷ [])) false).refusal

-- Refusals -----------------------------------------------------------------------------------------------------

-- var a: low; var a: low;
twice : Parsed
twice = record { version = 1; names = (97 ∷ []) ∷ []; uses = []; vars = variable 97 4 low ∷ variable 97 16 low ∷ []; locks = []; threads = [] }

twice-refused : first_false (name_obligations twice) ≡ w1 16 97
unfolding twice
twice-refused = refl

-- var t: low; thread t { a := 1; }
thread_too : Parsed
thread_too = record {
  version = 1;
  names = (116 ∷ []) ∷ (97 ∷ []) ∷ [];
  uses = used 1 23 ∷ [];
  vars = variable 116 4 low ∷ [];
  locks = [];
  threads = thread_named 116 19 (more 23 (s.assign 1 (const 1) None []) [] done) 31 ∷ [];
}

-- a second name comes before a use
thread_too-refused : first_false (name_obligations thread_too) ≡ w1 19 116
unfolding thread_too
thread_too-refused = refl

-- thread t { a := 1; }
undeclared : Parsed
undeclared = record {
  version = 1;
  names = (116 ∷ []) ∷ (97 ∷ []) ∷ [];
  uses = used 1 11 ∷ [];
  vars = [];
  locks = [];
  threads = thread_named 116 7 (more 11 (s.assign 1 (const 1) None []) [] done) 19 ∷ [];
}

undeclared-refused : first_false (name_obligations undeclared) ≡ w2 11 97
unfolding undeclared
undeclared-refused = refl

-- lock l; thread t { l := 1; }
lock_assigned : Parsed
lock_assigned = record {
  version = 1;
  names = (108 ∷ []) ∷ (116 ∷ []) ∷ [];
  uses = used 0 19 ∷ [];
  vars = [];
  locks = lock_named 108 5 [] ∷ [];
  threads = thread_named 116 15 (more 19 (s.assign 0 (const 1) None []) [] done) 27 ∷ [];
}

lock_assigned-refused : first_false (name_obligations lock_assigned) ≡ w2 19 108
unfolding lock_assigned
lock_assigned-refused = refl

-- var a: low; thread t { lock a; }
variable_locked : Parsed
variable_locked = record {
  version = 1;
  names = (97 ∷ []) ∷ (116 ∷ []) ∷ [];
  uses = used_lock 0 28 ∷ [];
  vars = variable 97 4 low ∷ [];
  locks = [];
  threads = thread_named 116 19 (more 23 (s.lock 0) [] done) 31 ∷ [];
}

variable_locked-refused : first_false (name_obligations variable_locked) ≡ w2 28 97
unfolding variable_locked
variable_locked-refused = refl

-- Names that are in order --------------------------------------------------------------------------------------

-- var b: low when a == 0; var c: low; var a: low; lock l nowrite b;
-- thread t { lock l; b := a by { 1: fwd 1 [_ == a] auto }; unlock l; }
abbrev text_by : (a lock_number : ℕ) → Parsed
text_by a lock_number = record {
  version = 1;
  names = (98 ∷ []) ∷ (97 ∷ []) ∷ (99 ∷ []) ∷ (108 ∷ []) ∷ (116 ∷ []) ∷ [];
  uses = used 1 16 ∷ used 0 63 ∷ used_lock 3 82 ∷ used 0 85 ∷ used 1 90 ∷ used 1 112 ∷ used_lock 3 130 ∷ [];
  vars = variable 98 4 (when (bin Eq (var a) (const 0))) ∷ variable 99 28 low ∷ variable 97 40 low ∷ [];
  locks = lock_named 108 53 (0 ∷ []) ∷ [];
  threads =
      thread_named 116 73
      (more 77 (s.lock lock_number) []
      (more 85 (s.assign 0 (var a) None []) (record { number = 1; cert = s.fwd 1 (bin Eq (var HOLE) (var a)) s.auto } ∷ [])
      (more 123 (s.unlock lock_number) [] done)))
      133 ∷ [];
}

in_order : first_false (name_obligations (text_by 1 3)) ≡ None
in_order = refl

-- the second name is the third variable, the fourth is the first lock, and the hole stays
in_order-vars : (resolved (text_by 1 3)).vars ≡ (text_by 2 0).vars
in_order-vars = refl

in_order-locks : (resolved (text_by 1 3)).locks ≡ (text_by 2 0).locks
in_order-locks = refl

in_order-threads : (resolved (text_by 1 3)).threads ≡ (text_by 2 0).threads
in_order-threads = refl
