-- Where a predicate isn't over stable variables, the line of V12 tells of the first.
use Rattle.std.proofs.Common.{◌≡◌, ℕ, List, length, Bool, false, Option, ap, ◌∙◌, All}
use Rattle.std.specs.List.{list_all}
use Rattle.cov_expr.specs.Term.{Term}
use Rattle.cov_expr.specs.Words.{HasVarsBelow}
use Rattle.cov_ast.specs.Plain.{plain}
use Rattle.cov_ast.specs.Syntax.{Program}
use Rattle.mode_state.specs.Sets.{is_stable}
use Rattle.point_law.specs.Point.{is_over_stable}
use Rattle.statement_paths.specs.VariableSets.{stable}
use Rattle.text_parts.specs.VariableNames.{variable_names}
use Rattle.refusal_names.proofs.OutsideSets.{first_failing}
use Rattle.refusal_names.proofs.UnstableLaws as unstable_laws
use Rattle.refusal_names.specs.NameLines.{predicate_line}
use Rattle.refusal_names.specs.OutsideVariables.{first_with_outside}
use Rattle.refusal_names.specs.ToldPredicates.{TellsOfPredicate}
use Rattle.refusal_names.specs.UnstableVariables.{unstable_line}

module _ (p : Program) (bytes : List ℕ) (t : ℕ) (held : List Bool) where
  abbrev line_by : Option (Term × ℕ) → List ℕ
  line_by first = predicate_line (variable_names p.vars) (unstable_line (variable_names p.vars) bytes p.locks held) first

  pub told : (preds : List Term) → All (λ e. HasVarsBelow e (length p.vars)) preds → list_all (is_over_stable (plain p) t held) preds ≡ false
      → (text : List ℕ) → text ≡ line_by (first_with_outside (stable (plain p) t held) preds) → TellsOfPredicate p bytes t held preds text
  told preds below broken text is =
      let f = first_failing (length p.vars) (is_stable (plain p) t held) preds below broken in
      record {
        before = f.before;
        predicate = f.e;
        after = f.after;
        is = f.is;
        first = f.first;
        x = f.x;
        occurs = f.occurs;
        unstable = f.fails;
        cause = unstable_line (variable_names p.vars) bytes p.locks held f.x;
        why = unstable_laws.told p bytes t f.x held f.fails;
        told = is ∙ ap line_by f.first_found;
      }
