-- Where an expression has two occurrences of variables that aren't stable, the line of V3 tells of the first two.
use Rattle.std.proofs.Common.{◌≡◌, ℕ, ◌≤◌, nat_le, List, [], ◌∷◌, ◌++◌, length, Bool, false, not, if◌then◌else◌, Option, Some, count_by, sym, ap, subst, ◌∙◌, arith, inl, inr}
use Rattle.std.proofs.lemmas.Bool.{cases_eq, eq-eqb, ne_eqb}
use Rattle.cov_expr.specs.Term.{Term}
use Rattle.cov_expr.specs.Trees.{occurrences}
use Rattle.cov_expr.specs.Words.{HasVarsBelow}
use Rattle.cov_ast.specs.Plain.{plain}
use Rattle.cov_ast.specs.Syntax.{Program}
use Rattle.mode_state.specs.Sets.{is_stable}
use Rattle.statement_paths.specs.VariableSets.{stable}
use Rattle.text_parts.specs.VariableNames.{variable_names}
use Rattle.refusal_names.proofs.OutsideSets.{next_failing, occurrences_below, NextFailing}
use Rattle.refusal_names.proofs.UnstableLaws as unstable_laws
use Rattle.refusal_names.specs.NameLines.{other_cause, read_line, reads_line}
use Rattle.refusal_names.specs.ToldReads.{TellsOfReads, TellsOfSecond}
use Rattle.refusal_names.specs.UnstableVariables.{unstable_line, TellsWhyUnstable}

module _ (p : Program) (bytes : List ℕ) (t : ℕ) (held : List Bool) where
  abbrev cause : ℕ → List ℕ
  cause x = unstable_line (variable_names p.vars) bytes p.locks held x

  second : (x y : ℕ) → is_stable (plain p) t held y ≡ false → TellsOfSecond p bytes t held x y (other_cause cause x y)
  second x y unstable = elim (cases_eq x y) [
    | inl e ↦ inl (e, ap (λ b. if b then [] else cause y) (eq-eqb x y e))
    | inr ne ↦ (let told = ap (λ b. if b then [] else cause y) (ne_eqb x y ne) in
        inr (ne, subst (TellsWhyUnstable p bytes t held y) (sym told) (unstable_laws.told p bytes t y held unstable)))
  ]

  -- by the first of the occurrences that isn't stable, and the next
  by_two : (e : Term) (a : NextFailing (length p.vars) (is_stable (plain p) t held) (occurrences e)) → NextFailing (length p.vars) (is_stable (plain p) t held) a.rest
      → TellsOfReads p bytes t held e (reads_line (variable_names p.vars) cause (stable (plain p) t held) (Some e))
  by_two e a b = record {
    before = a.before;
    x = a.x;
    between = b.before;
    y = b.x;
    after = b.rest;
    is = a.is ∙ ap (λ l. a.before ++ a.x ∷ l) b.is;
    first = a.first;
    unstable = a.fails;
    next = b.first;
    second_unstable = b.fails;
    cause = cause a.x;
    why = unstable_laws.told p bytes t a.x held a.fails;
    second_cause = other_cause cause a.x b.x;
    why_second = second a.x b.x b.fails;
    told = ap (λ xs. read_line (variable_names p.vars) cause xs) a.next_found ∙ ap (λ xs. read_line (variable_names p.vars) cause (a.x ∷ xs)) b.next_found;
  }

  by_first : (e : Term) (a : NextFailing (length p.vars) (is_stable (plain p) t held) (occurrences e))
      → 2 ≤ count_by (λ x. not (is_stable (plain p) t held x)) (occurrences e)
      → TellsOfReads p bytes t held e (reads_line (variable_names p.vars) cause (stable (plain p) t held) (Some e))
  by_first e a two = by_two e a (next_failing (length p.vars) (is_stable (plain p) t held) a.rest a.below (omega (arith, two, a.fewer)))

  pub told : (e : Term) → HasVarsBelow e (length p.vars) → nat_le (count_by (λ x. not (is_stable (plain p) t held x)) (occurrences e)) 1 ≡ false
      → (o : Option Term) → o ≡ Some e → TellsOfReads p bytes t held e (reads_line (variable_names p.vars) cause (stable (plain p) t held) o)
  told e below broken o is =
      let many = count_by (λ x. not (is_stable (plain p) t held x)) (occurrences e) in
      let two : 2 ≤ many = grind (arith, broken) in
      subst (λ q. TellsOfReads p bytes t held e (reads_line (variable_names p.vars) cause (stable (plain p) t held) q)) (sym is)
      (by_first e (next_failing (length p.vars) (is_stable (plain p) t held) (occurrences e) (occurrences_below (length p.vars) e below) (omega (arith, two))) two)
