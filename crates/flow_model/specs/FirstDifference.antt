-- The first lock or variable in which two memories with holders don't agree, the first variable or lock that makes two
-- memories unfit to start from, and on what two states of a machine differ.
use Rattle.std.specs.Prelude.{◌≡◌, ◌≢◌, ℕ, ◌==◌, ◌&&◌, ◌||◌, List, ◌∷◌, length, map, get_or, Bool, true, false, not, is_some, option_map}
use Rattle.std.specs.Prelude.{Option, Some, None}
use Rattle.std.specs.List.{find, list_any, range_with_len}
use Rattle.cov_expr.specs.Term.{Term, value, is_set}
use Rattle.cov_expr.specs.Trees.{has_number}
use Rattle.cov_ast.specs.Syntax.{Lock}
use Rattle.cov_ast.specs.Declarations.{class_of, invariant_of, is_control}
use Rattle.cov_ast.specs.Plain.{Plain}
use Rattle.flow_model.specs.Agreement.{Shared, IsFirstApart}
use Rattle.flow_model.specs.declared.agreement.Differ.{Differ}
use Rattle.flow_model.specs.declared.agreement.Differ.TheVariants as differ
use Rattle.flow_model.specs.declared.start.BadStart.{BadStart}
use Rattle.flow_model.specs.declared.start.BadStart.TheVariants as bad
use Rattle.flow_model.specs.declared.machine.Holder.{Holder}
use Rattle.flow_model.specs.Source.{Holders, holder}

-- the holder that a value of the code says
abbrev pub held_by : Holder → Option ℕ
held_by h = h.0

abbrev pub holders_of : List Holder → Holders
holders_of hs = map held_by hs

-- Tests --------------------------------------------------------------------------------------------------------

abbrev pub same_holder : Option ℕ → Option ℕ → Bool
same_holder None None = true
same_holder (Some t) (Some u) = t == u
same_holder _ _ = false

abbrev pub same_word : (m1 m2 : List ℕ) → ℕ → Bool
same_word m1 m2 x = get_or m1 x 0 == get_or m2 x 0

abbrev pub is_true_in : Term → (m : List ℕ) → Bool
is_true_in e m = is_set (value e m)

-- whether the class of the variable holds
abbrev pub is_low_in : Plain → (m : List ℕ) → ℕ → Bool
is_low_in p m x = is_true_in (class_of p x) m

-- whether one of these locks that has a holder hides the variable
abbrev pub hidden_by : Holders → List Lock → ℕ → Bool
hidden_by (h ∷ hs) (l ∷ ls) x = (is_some h && has_number l.hide x) || hidden_by hs ls x
hidden_by _ _ x = false

-- whether a lock that is held hides the variable, or some thread assumes that no other reads or writes it
abbrev pub is_hidden : Plain → Holders → ℕ → Bool
is_hidden p h x = hidden_by h p.locks x || list_any (λ t. has_number t.modes.assume_hide x) p.threads

-- whether memories that agree have the same word of the variable: it is a control, or low and not hidden
abbrev pub is_compared : Plain → (m : List ℕ) → Holders → ℕ → Bool
is_compared p m h x = is_control p x || (is_low_in p m x && not (is_hidden p h x))

abbrev pub holders_differ : (h1 h2 : Holders) → ℕ → Bool
holders_differ h1 h2 l = not (same_holder (holder h1 l) (holder h2 l))

-- whether the words of a variable differ that is compared
abbrev pub is_apart : Plain → (m1 : List ℕ) → (h1 : Holders) → (m2 : List ℕ) → ℕ → Bool
is_apart p m1 h1 m2 x = not (same_word m1 m2 x) && is_compared p m1 h1 x

-- whether the words of a variable differ that is low in the first memory
abbrev pub is_low_apart : Plain → (m1 m2 : List ℕ) → ℕ → Bool
is_low_apart p m1 m2 x = not (same_word m1 m2 x) && is_low_in p m1 x

-- whether the invariant of the lock doesn't hold in both memories
abbrev pub is_broken : Plain → (m1 m2 : List ℕ) → ℕ → Bool
is_broken p m1 m2 l = not (is_true_in (invariant_of p l) m1 && is_true_in (invariant_of p l) m2)

-- The first difference -----------------------------------------------------------------------------------------

abbrev pub first_var : Plain → (ℕ → Bool) → Option ℕ
first_var p test = find test (range_with_len 0 (length p.vars))

abbrev pub first_lock : Plain → (ℕ → Bool) → Option ℕ
first_lock p test = find test (range_with_len 0 (length p.locks))

abbrev pub lock_or_var : (lock var : Option ℕ) → Option Differ
lock_or_var (Some l) x = Some (differ.Lock l)
lock_or_var None x = option_map differ.Var x

-- The first lock whose holders differ, or else the first variable that is compared and whose words differ.
abbrev pub first_difference : Plain → (m1 : List ℕ) → (h1 : Holders) → (m2 : List ℕ) → (h2 : Holders) → Option Differ
first_difference p m1 h1 m2 h2 = lock_or_var (first_lock p (holders_differ h1 h2)) (first_var p (is_apart p m1 h1 m2))

abbrev pub var_or_lock : (var lock : Option ℕ) → Option BadStart
var_or_lock (Some x) l = Some (bad.Var x)
var_or_lock None l = option_map bad.Lock l

-- The first variable that is low in the first memory, hidden or not, and whose words differ, or else the first lock whose
-- invariant doesn't hold in both.
abbrev pub first_bad_start : Plain → (m1 m2 : List ℕ) → Option BadStart
first_bad_start p m1 m2 = var_or_lock (first_var p (is_low_apart p m1 m2)) (first_lock p (is_broken p m1 m2))

-- On what two states differ ------------------------------------------------------------------------------------

module _ {State : Type 0} (shared : State → Shared) (IsAlike : State → State → ℕ → Type 0) where
  -- the first lock or variable in which the memories of two states don't agree
  abbrev pub memory_difference : Plain → (s1 s2 : State) → Option Differ
  memory_difference p s1 s2 = first_difference p (shared s1).memory (shared s1).holders (shared s2).memory (shared s2).holders

  -- It is the first lock, else the first variable, else the outputs, else the first thread.
  abbrev pub DiffersIn : Plain → (s1 s2 : State) → Differ → Type 0
  DiffersIn p s1 s2 (differ.Lock l) = memory_difference p s1 s2 ≡ Some (differ.Lock l)
  DiffersIn p s1 s2 (differ.Var x) = memory_difference p s1 s2 ≡ Some (differ.Var x)
  DiffersIn p s1 s2 differ.Output = (memory_difference p s1 s2 ≡ None) × ((shared s1).outputs ≢ (shared s2).outputs)
  DiffersIn p s1 s2 (differ.Thread t) =
      (memory_difference p s1 s2 ≡ None) × ((shared s1).outputs ≡ (shared s2).outputs) × IsFirstApart IsAlike s1 s2 (length p.threads) t
