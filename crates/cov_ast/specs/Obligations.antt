-- Obligations: what has to hold of a program, in the order in which it is tried.
use Rattle.std.specs.Prelude.{◌≡◌, ℕ, List, [], ◌∷◌, Bool, if◌then◌else◌, Option, Some, None, Result, Ok, Err}
use Rattle.std.specs.List.{list_all}
use Rattle.cov_expr.specs.Trees.{add_new}
use Rattle.cov_ast.specs.declared.refusal.Rule.{Rule}
use Rattle.cov_ast.specs.declared.refusal.Detail.{Detail}
use Rattle.cov_ast.specs.declared.refusal.Refusal.{Refusal}
use Rattle.cov_ast.specs.declared.refusal.CheckFault.{CheckFault}
use Rattle.cov_ast.specs.declared.refusal.CheckFault.TheVariants.{Refused, NoMemory}

-- one obligation: whether it holds, and what is refused where it doesn't
pub record Obligation : Type 0 where
  pub refusal : Refusal
  pub holds : Bool

-- an obligation of declarations, which belongs to no thread
abbrev pub declared_obligation : Rule → (place : ℕ) → Detail → Bool → Obligation
declared_obligation rule place detail holds = record { refusal = record { rule = rule; thread = None; place = place; detail = detail }; holds = holds }

abbrev pub all_hold : List Obligation → Bool
all_hold obligations = list_all (λ e. e.holds) obligations

-- the first obligation that doesn't hold
abbrev pub first_false : List Obligation → Option Refusal
first_false [] = None
first_false (e ∷ es) = if e.holds then first_false es else Some e.refusal

-- The answer is that all hold, or else the refusal of the first obligation that doesn't, unless memory ran out.
abbrev pub Decides : List Obligation → Result (Unit {0}) CheckFault → Type 0
Decides obligations (Ok done) = first_false obligations ≡ None
Decides obligations (Err (Refused refusal)) = first_false obligations ≡ Some refusal
Decides obligations (Err NoMemory) = Unit {0}

-- numbers, each once, by first occurrence
abbrev pub distinct : List ℕ → List ℕ
distinct xs = add_new [] xs
