-- What a program declares, by number: the class of a variable, what a lock stands for, the modes of a thread.
use Rattle.std.specs.Prelude.{ℕ, ◌||◌, List, [], get_or, Bool, true, false}
use Rattle.std.specs.Prelude.{Option, Some, None}
use Rattle.std.specs.List.{list_any}
use Rattle.cov_expr.specs.Term.{Term, const}
use Rattle.cov_expr.specs.Trees.{has_number, mentions}
use Rattle.cov_ast.specs.Syntax.{Class, low, high, when, Var, Lock, Modes}
use Rattle.cov_ast.specs.Plain.{Plain, PlainThread, class_term, none}

-- Declarations by number ---------------------------------------------------------------------------------------

-- Past the end of the declarations stand a high variable, a lock of no variable, and a thread without modes.
abbrev pub no_var : Var
no_var = record { name = []; at = 0; class = high }

abbrev pub no_lock : Lock
no_lock = record { name = []; at = 0; nowrite = []; hide = []; inv = None }

abbrev pub no_modes : Modes
no_modes = record { assume_nowrite = []; assume_hide = []; guarantee_nowrite = []; guarantee_hide = [] }

abbrev pub no_thread : PlainThread
no_thread = record { name = []; modes = no_modes; body = none }

abbrev pub var_at : Plain → ℕ → Var
var_at p x = get_or p.vars x no_var

abbrev pub name_of : Plain → ℕ → List ℕ
name_of p x = (var_at p x).name

abbrev pub lock_at : Plain → ℕ → Lock
lock_at p l = get_or p.locks l no_lock

abbrev pub thread_at : Plain → ℕ → PlainThread
thread_at p t = get_or p.threads t no_thread

abbrev pub modes_of : Plain → ℕ → Modes
modes_of p t = (thread_at p t).modes

-- the class of a variable as an expression
abbrev pub class_of : Plain → ℕ → Term
class_of p x = class_term (var_at p x).class

-- a lock without an invariant has one that always holds
abbrev pub invariant_term : Option Term → Term
invariant_term None = const 1
invariant_term (Some e) = e

abbrev pub invariant_of : Plain → ℕ → Term
invariant_of p l = invariant_term (lock_at p l).inv

-- Whether a lock stands for a variable, and what a thread's modes say of it --------------------------------------

abbrev pub hides : Plain → (l x : ℕ) → Bool
hides p l x = has_number (lock_at p l).hide x

-- whether a variable stands in a list of a lock
abbrev pub lists : Lock → (x : ℕ) → Bool
lists l x = has_number l.nowrite x || has_number l.hide x

abbrev pub under : Plain → (l x : ℕ) → Bool
under p l x = lists (lock_at p l) x

abbrev pub assumes_hide : Plain → (t x : ℕ) → Bool
assumes_hide p t x = has_number (modes_of p t).assume_hide x

-- whether a variable stands in a list of what is assumed
abbrev pub have_assumed : Modes → (x : ℕ) → Bool
have_assumed m x = has_number m.assume_nowrite x || has_number m.assume_hide x

abbrev pub assumes : Plain → (t x : ℕ) → Bool
assumes p t x = have_assumed (modes_of p t) x

-- whether a variable stands in a list of what is guaranteed
abbrev pub have_guaranteed : Modes → (x : ℕ) → Bool
have_guaranteed m x = has_number m.guarantee_nowrite x || has_number m.guarantee_hide x

abbrev pub guarantees : Plain → (t x : ℕ) → Bool
guarantees p t x = have_guaranteed (modes_of p t) x

abbrev pub guarantees_hide : Plain → (t x : ℕ) → Bool
guarantees_hide p t x = has_number (modes_of p t).guarantee_hide x

-- Controls -----------------------------------------------------------------------------------------------------

-- whether the class of x mentions c
abbrev pub controls : Plain → (c x : ℕ) → Bool
controls p c x = mentions (class_of p x) c

-- whether the class of some variable mentions c
abbrev pub is_control : Plain → (c : ℕ) → Bool
is_control p c = list_any (λ v. mentions (class_term v.class) c) p.vars

-- whether a class is written `low`
abbrev pub is_low : Class → Bool
is_low low = true
is_low high = false
is_low (when e) = false

abbrev pub is_plain_low : Plain → (x : ℕ) → Bool
is_plain_low p x = is_low (var_at p x).class
