-- The expressions of a statement that rules speak of: what it evaluates, and the predicates and the types that it states.
use Rattle.std.specs.Prelude.{ℕ, List, ◌∷◌, map, Option, Some, None}
use Rattle.cov_expr.specs.Term.{Term}
use Rattle.statement_parts.specs.Parts.{evaluated, listed_types, parts, preds_of, untyped, written_type}
use Rattle.cov_ast.specs.Syntax.{Stm}

abbrev pub evaluated_expression : Stm → Option Term
evaluated_expression s = evaluated (parts s)

-- the predicates that it states: a branch at its end, a loop at its head, a note at its place
abbrev pub stated_predicates : Stm → List Term
stated_predicates s = preds_of (parts s).state

abbrev pub type_terms : List (ℕ × Term) → List Term
type_terms types = map (λ r. r.1) types

-- in front of types, the one that is written for a value, if one is
abbrev pub with_written : Option Term → List Term → List Term
with_written None qs = qs
with_written (Some q) qs = q ∷ qs

-- the types that it states or writes, in the order of the rules
abbrev pub stated_types : Stm → List Term
stated_types s = with_written (written_type (parts s).store) (type_terms (listed_types (parts s).store (parts s).state))

-- the value for which no type is written, so that it has one made of the classes and the types of its variables
abbrev pub untyped_value : Stm → Option Term
untyped_value s = untyped (parts s).store
