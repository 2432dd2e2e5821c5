-- Where a type isn't over stable controls, the line of V4 tells of the first.
use Rattle.std.proofs.Common.{◌≡◌, ◌⊎◌, ℕ, ◌<◌, ◌&&◌, List, length, Bool, true, false, Option, refl, sym, ap, subst, ◌∙◌, All, inl, inr}
use Rattle.std.specs.List.{list_all}
use Rattle.cov_expr.specs.Term.{Term}
use Rattle.cov_expr.specs.Words.{HasVarsBelow}
use Rattle.cov_ast.specs.Declarations.{is_control}
use Rattle.cov_ast.specs.Plain.{plain}
use Rattle.cov_ast.specs.Syntax.{Program}
use Rattle.cov_ast.specs.Tables.{has}
use Rattle.cov_ast.proofs.TableLaws.{table_at}
use Rattle.mode_state.specs.Sets.{is_stable}
use Rattle.point_law.specs.Point.{controls_of, is_over_controls}
use Rattle.text_parts.specs.VariableNames.{variable_names}
use Rattle.refusal_names.proofs.OutsideSets.{first_failing, FirstFailing}
use Rattle.refusal_names.proofs.UnstableLaws as unstable_laws
use Rattle.refusal_names.specs.NameLines.{control_cause, type_line}
use Rattle.refusal_names.specs.OutsideVariables.{first_with_outside}
use Rattle.refusal_names.specs.StableSets.{stable_controls}
use Rattle.refusal_names.specs.ToldTypes.{IsOfOther, IsOfUnstableControl, TellsOfType}
use Rattle.refusal_names.specs.UnstableVariables.{unstable_line, TellsWhyUnstable}

-- of two that don't both hold, where the second does, the first doesn't
first_fails : (a b : Bool) → (a && b) ≡ false → b ≡ true → a ≡ false
first_fails false b h e = refl
first_fails true b h e = sym e ∙ h

module _ (p : Program) (bytes : List ℕ) (t : ℕ) (held : List Bool) where
  abbrev cause : ℕ → List ℕ
  cause x = unstable_line (variable_names p.vars) bytes p.locks held x

  abbrev passes : ℕ → Bool
  passes x = is_stable (plain p) t held x && is_control (plain p) x

  -- why a variable may not be in a type, by whether it is a control
  why : (x : ℕ) → x < length p.vars → passes x ≡ false → (b : Bool) → is_control (plain p) x ≡ b
      → IsOfUnstableControl p bytes t held x (control_cause cause (has (controls_of (plain p)) x) x) ⊎ IsOfOther p bytes t held x (control_cause cause (has (controls_of (plain p)) x) x)
  why x inside fails true control =
      let marked : has (controls_of (plain p)) x ≡ true = table_at (length p.vars) (is_control (plain p)) x inside ∙ control in
      let unstable = first_fails (is_stable (plain p) t held x) (is_control (plain p) x) fails control in
      inl (record {
        control = control;
        unstable = unstable;
        why = subst (λ b. TellsWhyUnstable p bytes t held x (control_cause cause b x)) (sym marked) (unstable_laws.told p bytes t x held unstable);
      })
  why x inside fails false other =
      let marked : has (controls_of (plain p)) x ≡ false = table_at (length p.vars) (is_control (plain p)) x inside ∙ other in
      inr (record { other = other; nothing = ap (λ b. control_cause cause b x) marked })

  abbrev pub line_by : Option (Term × ℕ) → List ℕ
  line_by found = type_line (variable_names p.vars) cause (controls_of (plain p)) found

  by_failing : (types : List Term) → FirstFailing (length p.vars) passes types
      → TellsOfType p bytes t held types (line_by (first_with_outside (stable_controls (plain p) t held) types))
  by_failing types f = record {
    before = f.before;
    type = f.e;
    after = f.after;
    is = f.is;
    first = f.first;
    x = f.x;
    occurs = f.occurs;
    cause = control_cause cause (has (controls_of (plain p)) f.x) f.x;
    why = why f.x f.inside f.fails (is_control (plain p) f.x) refl;
    told = ap line_by f.first_found;
  }

  pub told : (types : List Term) → All (λ e. HasVarsBelow e (length p.vars)) types → list_all (is_over_controls (plain p) t held) types ≡ false
      → TellsOfType p bytes t held types (line_by (first_with_outside (stable_controls (plain p) t held) types))
  told types below broken = by_failing types (first_failing (length p.vars) passes types below broken)
