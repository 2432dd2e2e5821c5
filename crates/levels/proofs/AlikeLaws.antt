-- Where markers and classes are alike for two observers, they are shown the same.
use Rattle.std.proofs.Common.{◌≡◌, ℕ, suc, ◌==◌, List, [], ◌∷◌, map, Bool, true, false, cond, Some, refl, ap₂}
use Rattle.std.specs.Prelude.{find}
use Rattle.cov_ast.specs.Syntax.{Class, Program, Var}
use Rattle.level_text.specs.Lattice.{LevelClass, Levels}
use Rattle.levels.specs.Inside.Alike.{HaveClassesAlike, HaveMarksAlike}
use Rattle.levels.specs.Projection.{class_or, marked_thread, shown, shown_vars}

module _ (one two : List Bool) where
  class_alike : (cs : List (ℕ × LevelClass)) → HaveClassesAlike one two cs → (x : ℕ) (own : Class)
      → class_or one (find (λ c. c.0 == x) cs) own ≡ class_or two (find (λ c. c.0 == x) cs) own
  class_alike [] h x own = refl
  class_alike (c ∷ cs) h x own = go (c.0 == x) (class_alike cs h.1 x own)
    where
      go : (b : Bool) → class_or one (find (λ c. c.0 == x) cs) own ≡ class_or two (find (λ c. c.0 == x) cs) own
          → class_or one (cond b (Some c) (find (λ c. c.0 == x) cs)) own ≡ class_or two (cond b (Some c) (find (λ c. c.0 == x) cs)) own
      go true rest = h.0
      go false rest = rest

  module _ (l : Levels) (classes : HaveClassesAlike one two l.classes) where
    vars_alike : (vs : List Var) (x : ℕ) → shown_vars one l x vs ≡ shown_vars two l x vs
    vars_alike [] x = refl
    vars_alike (v ∷ vs) x =
        ap₂ (λ class rest. let w : Var = record { name = v.name; at = v.at; class = class } in w ∷ rest) (class_alike l.classes classes x v.class) (vars_alike vs (suc x))

    pub shown_alike : (p : Program) → HaveMarksAlike one two l.names p.vars → shown one l p ≡ shown two l p
    shown_alike p marks =
        ap₂ (λ vars ms. let q : Program = record { version = p.version; vars = vars; locks = p.locks; threads = map (marked_thread ms) p.threads } in q)
        (vars_alike p.vars 0) marks
