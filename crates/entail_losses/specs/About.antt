-- Which statements say something of a variable: those that store to it, or may give a predicate that mentions it, and those that take a lock that it is under.
use Rattle.std.specs.Prelude.{ℕ, ◌==◌, ◌||◌, List, [], ◌∷◌, Bool, false, Option, Some, None}
use Rattle.std.specs.List.{list_any}
use Rattle.cov_expr.specs.Term.{Term}
use Rattle.cov_expr.specs.Trees.{mentions}
use Rattle.cov_ast.specs.Declarations.{lists, lock_at}
use Rattle.cov_ast.specs.Plain.{Plain}
use Rattle.cov_ast.specs.Syntax.{Lock, Stm, Block}
use Rattle.statement_parts.specs.Parts.{collected, collected_in, Parts, preds_of, Store}

-- whether one of some predicates mentions a variable
abbrev pub is_mentioned : (es : List Term) → (x : ℕ) → Bool
is_mentioned es x = list_any (λ e. mentions e x) es

-- whether an expression does, if there is one
abbrev pub is_in : Option Term → (x : ℕ) → Bool
is_in None x = false
is_in (Some e) x = mentions e x

-- whether a lock lists it, or has such an invariant
abbrev pub is_lock_about : Lock → (x : ℕ) → Bool
is_lock_about k x = lists k x || is_in k.inv x

-- whether a store is one to it, or of a value that mentions it
abbrev pub is_store_about : Option Store → (x : ℕ) → Bool
is_store_about None x = false
is_store_about (Some k) x = k.variable == x || mentions k.value x

-- the parts of a statement, and then of those in its blocks
abbrev pub all_parts : Stm → List Parts
all_parts s = collected (λ ps. ps ∷ []) s

abbrev pub all_parts_in : Block → List Parts
all_parts_in b = collected_in (λ ps. ps ∷ []) b

-- of a program, of a variable
module _ (p : Plain) (x : ℕ) where
  -- whether a lock that is taken is one about it
  abbrev pub is_taken_about : (taken : Option ℕ) → Bool
  is_taken_about None = false
  is_taken_about (Some l) = is_lock_about (lock_at p l) x

  -- a statement by its own parts: what it stores, its guard, the lock that it takes, and what it states
  abbrev pub is_own_about : Parts → Bool
  is_own_about ps = is_store_about ps.store x || is_in ps.guard x || is_taken_about ps.taken || is_mentioned (preds_of ps.state) x

  -- a statement, also by those in its blocks
  abbrev pub is_statement_about : Stm → Bool
  is_statement_about s = list_any is_own_about (all_parts s)

  -- one of a block
  abbrev pub is_block_about : Block → Bool
  is_block_about b = list_any is_own_about (all_parts_in b)
