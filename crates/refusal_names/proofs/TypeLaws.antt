-- Where V14 forbids to give a type to a variable, the line tells why.
use Rattle.std.proofs.Common.{◌≡◌, ◌⊎◌, ℕ, ◌<◌, List, length, Bool, true, false, not, ◌&&◌, if◌then◌else◌, Some, true≢false, refl, sym, ap, subst, ◌∙◌, inl, inr}
use Rattle.cov_expr.specs.Trees.{has_number}
use Rattle.cov_ast.specs.Declarations.{is_control, name_of}
use Rattle.cov_ast.specs.NameTables.{find_name}
use Rattle.cov_ast.specs.Plain.{plain}
use Rattle.cov_ast.specs.Syntax.{Program, Stm}
use Rattle.cov_ast.specs.WellFormed.{IsWellFormed}
use Rattle.cov_ast.proofs.TableLaws.{table_at}
use Rattle.point_law.specs.Point.{controls_of, is_tracked}
use Rattle.statement_paths.specs.VariableSets.{stable}
use Rattle.mode_state.specs.Sets.{is_stable}
use Rattle.text_parts.specs.VariableNames.{variable_names}
use Rattle.refusal_names.proofs.FoundNames.{variable_found}
use Rattle.refusal_names.proofs.UnstableLaws as unstable_laws
use Rattle.refusal_names.specs.GivenTypes.{assigned_text, control_text, line_of_any, listed_text, retype_line, stable_line, type_line, untracked_text, IsOfAssigned, TellsWhyUntyped}
use Rattle.refusal_names.specs.UnstableVariables.{unstable_line}

listed_by : (s c l : Bool) → ((s && not c) && not l) ≡ false → s ≡ true → c ≡ false → l ≡ true
listed_by true false true h is_stable other = refl
listed_by true false false h is_stable other = absurd (true≢false h)
listed_by true true l h is_stable other = absurd (true≢false other)
listed_by false c l h is_stable other = absurd (true≢false (sym is_stable))

module _ (p : Program) (bytes : List ℕ) (t : ℕ) (held : List Bool) (before : List ℕ) (z : ℕ) (inside : z < length p.vars) where
  abbrev the_line : List ℕ
  the_line = type_line (variable_names p.vars) (unstable_line (variable_names p.vars) bytes p.locks held) (stable (plain p) t held) (controls_of (plain p)) z

  by_control : (b : Bool) → is_control (plain p) z ≡ b
      → the_line ≡ (if b then control_text (variable_names p.vars) z
      else stable_line (variable_names p.vars) (unstable_line (variable_names p.vars) bytes p.locks held) (stable (plain p) t held) z)
  by_control b is =
      ap (λ c. if c then control_text (variable_names p.vars) z
      else stable_line (variable_names p.vars) (unstable_line (variable_names p.vars) bytes p.locks held) (stable (plain p) t held) z)
      (table_at (length p.vars) (is_control (plain p)) z inside ∙ is)

  by_stable : (b : Bool) → is_stable (plain p) t held z ≡ b
      → stable_line (variable_names p.vars) (unstable_line (variable_names p.vars) bytes p.locks held) (stable (plain p) t held) z
      ≡ (if b then listed_text (variable_names p.vars) z else untracked_text (variable_names p.vars) (unstable_line (variable_names p.vars) bytes p.locks held) z)
  by_stable b is =
      ap (λ c. if c then listed_text (variable_names p.vars) z else untracked_text (variable_names p.vars) (unstable_line (variable_names p.vars) bytes p.locks held) z)
      (table_at (length p.vars) (is_stable (plain p) t held) z inside ∙ is)

  by_both : (is_tracked (plain p) t held z && not (has_number before z)) ≡ false → (c s : Bool) → is_control (plain p) z ≡ c → is_stable (plain p) t held z ≡ s
      → TellsWhyUntyped p bytes t held before z the_line
  by_both broken true s control is = inl (record { control = control; told = by_control true control })
  by_both broken false false other unstable = inr (inl (record {
    unstable = unstable;
    cause = unstable_line (variable_names p.vars) bytes p.locks held z;
    why = unstable_laws.told p bytes t z held unstable;
    told = by_control false other ∙ by_stable false unstable;
  }))
  by_both broken false true other is = inr (inr (record {
    listed = listed_by (is_stable (plain p) t held z) (is_control (plain p) z) (has_number before z) broken is other;
    told = by_control false other ∙ by_stable true is;
  }))

  pub untyped : (is_tracked (plain p) t held z && not (has_number before z)) ≡ false → TellsWhyUntyped p bytes t held before z the_line
  untyped broken = by_both broken (is_control (plain p) z) (is_stable (plain p) t held z) refl refl

  -- where a variable is assigned
  by_assigned : (x : ℕ) → x < length p.vars → ((is_control (plain p) x && is_tracked (plain p) t held z) && not (has_number before z)) ≡ false
      → (b : Bool) → is_control (plain p) x ≡ b
      → (text : List ℕ) → text ≡ (if b then the_line else assigned_text (variable_names p.vars) x) → IsOfAssigned p x text ⊎ TellsWhyUntyped p bytes t held before z text
  by_assigned x there broken false is text told = inl (record { other = is; told = told })
  by_assigned x there broken true is text told =
      inr (subst (TellsWhyUntyped p bytes t held before z) (sym told)
      (untyped (sym (ap (λ b. (b && is_tracked (plain p) t held z) && not (has_number before z)) is) ∙ broken)))

  pub unretyped : (x : ℕ) → x < length p.vars → ((is_control (plain p) x && is_tracked (plain p) t held z) && not (has_number before z)) ≡ false
      → (text : List ℕ)
      → text ≡ retype_line (variable_names p.vars) (unstable_line (variable_names p.vars) bytes p.locks held) (stable (plain p) t held) (controls_of (plain p)) x z
      → IsOfAssigned p x text ⊎ TellsWhyUntyped p bytes t held before z text
  unretyped x there broken text told =
      by_assigned x there broken (is_control (plain p) x) refl text
      (told ∙ ap (λ b. if b then the_line else assigned_text (variable_names p.vars) x) (table_at (length p.vars) (is_control (plain p)) x there))

-- by the variable's name
module _ (p : Program) (formed : IsWellFormed p) (bytes : List ℕ) (t : ℕ) (held : List Bool) (z : ℕ) (inside : z < length p.vars) (s : Stm) where
  pub by_name : line_of_any (variable_names p.vars) (unstable_line (variable_names p.vars) bytes p.locks held) (stable (plain p) t held) (controls_of (plain p)) s
      (find_name (variable_names p.vars) (name_of (plain p) z))
      ≡ line_of_any (variable_names p.vars) (unstable_line (variable_names p.vars) bytes p.locks held) (stable (plain p) t held) (controls_of (plain p)) s (Some z)
  by_name =
      ap (λ o. line_of_any (variable_names p.vars) (unstable_line (variable_names p.vars) bytes p.locks held) (stable (plain p) t held) (controls_of (plain p)) s o)
      (variable_found p.vars p.locks p.threads z formed.names_differ inside)
