-- Obligations that aren't about certificates.
use Rattle.std.proofs.Common.{◌≡◌, ℕ, List, [], ◌∷◌, ◌++◌, map, Bool, true, false, not, ◌&&◌, if◌then◌else◌, refl, ap, ◌∙◌}
use Rattle.cov_expr.specs.Term.{Term}
use Rattle.cov_expr.specs.Trees.{vars}
use Rattle.cov_ast.specs.Declarations.{is_control}
use Rattle.cov_ast.specs.Obligations.{Obligation}
use Rattle.cov_ast.specs.Plain.{Plain}
use Rattle.cov_ast.specs.Syntax.{State}
use Rattle.cov_ast.specs.declared.refusal.Rule.TheVariants.{V5}
use Rattle.mode_state.specs.Sets.{is_stable}
use Rattle.point_law.specs.Point.{Point, is_tracked}
use Rattle.typing_law.specs.ThreadEntailments.{is_about_certificates}
use Rattle.typing_law.specs.ThreadObligations.{flat, guard_obligations, narrow, of_var, one_unstable, over_stable, reads, state_obligations, type_obligations}
use Rattle.typing_rules.specs.Keeping.{are_others}
use Rattle.typing_rules.specs.Inside.Walking.{value_parts}
use Rattle.typing_rules.proofs.Reaching.{others-append}

-- Parts --------------------------------------------------------------------------------------------------------------

others_mapped : {X : Type 0} (f : X → Obligation) (xs : List X) → ((x : X) → is_about_certificates (f x).refusal.rule ≡ false) → are_others (map f xs) ≡ true
others_mapped f [] h = refl
others_mapped f (x ∷ xs) h = ap (λ b. not b && are_others (map f xs)) (h x) ∙ others_mapped f xs h

module _ (p : Plain) (t at : ℕ) where
  others_reads : (held : List Bool) (e : Term) → are_others (reads p t at held e) ≡ true
  others_reads held e = others_mapped _ (vars e) (λ x. refl)

  pub others_guard : (held : List Bool) (e : Term) → are_others (guard_obligations p t at held e) ≡ true
  others_guard held e =
      others-append (reads p t at held e ++ one_unstable p t at held e) (narrow p t at e)
      (others-append (reads p t at held e) (one_unstable p t at held e) (others_reads held e) refl) refl

  others_types : (test : ℕ → Bool) (held : List Bool) (before : List ℕ) (types : List (ℕ × Term))
      → are_others (type_obligations p t at test held before types) ≡ true
  others_types test held before [] = refl
  others_types test held before (r ∷ rs) = others_types test held (r.0 ∷ before) rs

  pub others_state : (held : List Bool) (j : State) → are_others (state_obligations p t at held j) ≡ true
  others_state held j =
      others-append (map (over_stable p t at held) j.preds) (type_obligations p t at (is_tracked p t held) held [] j.types)
      (others_mapped (over_stable p t at held) j.preds (λ e. refl)) (others_types (is_tracked p t held) held [] j.types)

  others_stable : (held : List Bool) (control : Bool) (e : Term)
      → are_others (if control then map (of_var p t at V5 (is_stable p t held)) (vars e) else []) ≡ true
  others_stable held true e = others_mapped _ (vars e) (λ x. refl)
  others_stable held false e = refl

  pub others_value : (a : Point) (x : ℕ) (e q : Term) (retypes : List (ℕ × Term)) → are_others (flat (value_parts p t at a x e q retypes)) ≡ true
  others_value a x e q retypes =
      let stable = if is_control p x then map (of_var p t at V5 (is_stable p t a.held)) (vars e) else [] in
      let types = type_obligations p t at (λ z. is_control p x && is_tracked p t a.held z) a.held [] retypes in
      others-append (reads p t at a.held e) _ (others_reads a.held e)
      (others-append stable (types ++ []) (others_stable a.held (is_control p x) e)
      (others-append types [] (others_types (λ z. is_control p x && is_tracked p t a.held z) a.held [] retypes) refl))
