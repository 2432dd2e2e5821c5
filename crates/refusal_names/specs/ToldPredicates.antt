-- V12: what its line tells of.
use Rattle.std.specs.Prelude.{◌≡◌, ℕ, List, ◌∷◌, ◌++◌, Bool, true, false}
use Rattle.std.specs.List.{list_all}
use Rattle.cov_expr.specs.Term.{Term}
use Rattle.cov_expr.specs.Trees.{has_number, occurrences}
use Rattle.cov_ast.specs.Plain.{plain}
use Rattle.cov_ast.specs.Syntax.{Program}
use Rattle.mode_state.specs.Sets.{is_stable}
use Rattle.point_law.specs.Point.{is_over_stable}
use Rattle.text_parts.specs.VariableNames.{variable_names}
use Rattle.refusal_names.specs.NameLines.{predicate_text}
use Rattle.refusal_names.specs.UnstableVariables.{TellsWhyUnstable}

-- Of a thread of a program that holds these locks, and predicates: a text tells of the first that isn't over stable variables, with a
-- variable of it that isn't stable, and why.
pub record TellsOfPredicate (p : Program) (bytes : List ℕ) (t : ℕ) (held : List Bool) (preds : List Term) (text : List ℕ) : Type 0 where
  pub before : List Term
  pub predicate : Term
  pub after : List Term
  pub is : preds ≡ before ++ predicate ∷ after
  pub first : list_all (is_over_stable (plain p) t held) before ≡ true
  pub x : ℕ
  pub occurs : has_number (occurrences predicate) x ≡ true
  pub unstable : is_stable (plain p) t held x ≡ false
  pub cause : List ℕ
  pub why : TellsWhyUnstable p bytes t held x cause
  pub told : text ≡ predicate_text (variable_names p.vars) predicate x ++ cause
