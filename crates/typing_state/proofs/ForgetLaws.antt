-- Laws of types that are kept or replaced by what is known without more.
use Rattle.std.proofs.Common.{◌≡◌, ℕ, ◌<◌, ◌∙◌, List, Bool, true, false, not, get_or, length, is_some, refl, sym, ap, Option, Some, None, option_map, if◌then◌else◌}
use Rattle.std.proofs.lemmas.Bool.{not-false, not-true}
use Rattle.cov_expr.specs.Term.{Term}
use Rattle.cov_expr.specs.Trees.{mentions}
use Rattle.cov_ast.specs.Plain.{Plain}
use Rattle.mode_state.specs.Sets.{Sets, modes_at}
use Rattle.point_law.specs.After.{forgotten_type, kept_type}
use Rattle.point_law.specs.Point.{default_type, is_over_stable, is_tracked}
use Rattle.typing_state.specs.Groups.{is_free}
use Rattle.typing_state.specs.Inside.Forgotten.{AreFit, IsInRange, is_left_out, is_passed, left, stays}
use Rattle.typing_state.specs.Inside.Tells.{passes}
use Rattle.typing_state.specs.declared.forget.Forgotten.{Forgotten}
use Rattle.typing_state.specs.declared.forget.Forgotten.TheVariants.{Every, Mentioning, Unstable}
use Rattle.typing_state.proofs.LockLaws.{passed_keeps}

-- a type that passes the test is kept
passed : (test : Term → Bool) (known : Term) (q : Option Term) → passes test q ≡ true → q ≡ option_map (λ g. if test g then g else known) q
passed test known None e = refl
passed test known (Some g) e = ap (λ b. Some (if b then g else known)) (sym e)

failed : (test : Term → Bool) (known : Term) (q : Option Term) → passes test q ≡ false → Some known ≡ option_map (λ g. if test g then g else known) q
failed test known None e = cc
failed test known (Some g) e = ap (λ b. Some (if b then g else known)) (sym e)

-- a type in the place of another
replaced : (known : Term) (q : Option Term) → is_some q ≡ true → Some known ≡ option_map (λ g. known) q
replaced known None e = cc
replaced known (Some g) e = refl

-- a type that doesn't mention the variable isn't forgotten
forgotten_keeps : (p : Plain) (t : ℕ) (held : List Bool) (x z : ℕ) (q : Option Term) → is_free x q ≡ true → option_map (forgotten_type p t held x z) q ≡ q
forgotten_keeps p t held x z None h = refl
forgotten_keeps p t held x z (Some g) h = at (mentions g x) h
  where
    at : (b : Bool) → not b ≡ true → Some (if b then default_type p t held z else g) ≡ Some g
    at true e = cc
    at false e = refl

-- one that does is replaced
forgotten_is : (known : Term) (x : ℕ) (q : Option Term) → is_free x q ≡ false → Some known ≡ option_map (λ g. if mentions g x then known else g) q
forgotten_is known x None h = cc
forgotten_is known x (Some g) h = at (mentions g x) h
  where
    at : (b : Bool) → not b ≡ false → Some known ≡ Some (if b then known else g)
    at true e = refl
    at false e = cc

-- By which types are forgotten -------------------------------------------------------------------------------------

module _ (p : Plain) (t : ℕ) (held : List Bool) where
  pub left_none : (which : Forgotten) (z : ℕ) (q : Option Term) → is_left_out p t held which z ≡ true → None ≡ left p t held which z q
  left_none Every z q out = cc
  left_none (Mentioning x) z q out = cc
  left_none (Unstable l) z q out = ap (λ b. if b then option_map (kept_type p t held z) q else None) (sym (not-true (is_tracked p t held z) out))

  pub left_same : (which : Forgotten) (z : ℕ) (q : Option Term) → is_left_out p t held which z ≡ false → stays p t held which q ≡ true → q ≡ left p t held which z q
  left_same Every z None has e = refl
  left_same Every z (Some g) has e = cc
  left_same (Mentioning x) z q has e = sym (forgotten_keeps p t held x z q e)
  left_same (Unstable l) z q has e =
      passed (is_over_stable p t held) (default_type p t held z) q e
      ∙ ap (λ b. if b then option_map (kept_type p t held z) q else None) (sym (not-false (is_tracked p t held z) has))

  pub left_known : (which : Forgotten) (z : ℕ) (q : Option Term) → is_left_out p t held which z ≡ false → stays p t held which q ≡ false
      → Some (default_type p t held z) ≡ left p t held which z q
  left_known Every z q has e = replaced (default_type p t held z) q (not-false (is_some q) e)
  left_known (Mentioning x) z q has e = forgotten_is (default_type p t held z) x q e
  left_known (Unstable l) z q has e =
      failed (is_over_stable p t held) (default_type p t held z) q e
      ∙ ap (λ b. if b then option_map (kept_type p t held z) q else None) (sym (not-false (is_tracked p t held z) has))

  -- a variable that the walk passes over keeps what it had
  pub left_passed : (s : Sets) (which : Forgotten) (k : ℕ) (qs now : List (Option Term)) → s ≡ modes_at p t held → IsInRange (length p.locks) which → k < length p.vars
      → AreFit p t held which qs → get_or now k None ≡ get_or qs k None → is_passed s which k (get_or now k None) ≡ true
      → left p t held which k (get_or qs k None) ≡ get_or qs k None
  left_passed s Every k qs now modes range lt fit same pass = cc
  left_passed s (Mentioning x) k qs now modes range lt fit same pass = forgotten_keeps p t held x k (get_or qs k None) (ap (is_free x) (sym same) ∙ pass)
  left_passed s (Unstable l) k qs now modes range lt fit same pass = passed_keeps p t held s l k qs now modes range lt fit same pass
