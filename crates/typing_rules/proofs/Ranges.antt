-- The types of a point are over variables of the program, and stay so.
use Rattle.std.proofs.Common.{◌≡◌, ℕ, suc, ◌==◌, ◌&&◌, not, List, [], ◌∷◌, ◌++◌, length, map, filter, get_or, Bool, cond, Option, Some, None, unwrap_or, sym, subst, arith, inl, inr, zero-add}
use Rattle.std.specs.List.{flat_map}
use Rattle.std.proofs.lemmas.Bool.{cases_lt}
use Rattle.std.proofs.lemmas.List.{get_or_past, length-map}
use Rattle.std.proofs.lemmas.List.FromFn.{get_or-map-range_with_len, length-map-range_with_len}
use Rattle.cov_expr.specs.Term.{Term, const, bin}
use Rattle.cov_expr.specs.Trees.{conjuncts, has_term, mentions, vars}
use Rattle.cov_expr.specs.Words.{HasVarsBelow}
use Rattle.cov_expr.specs.declared.expr.Op.TheVariants.{Both}
use Rattle.cov_ast.specs.Declarations.{class_of, is_control, no_var, under}
use Rattle.cov_ast.specs.Plain.{Plain, class_term, plain}
use Rattle.cov_ast.specs.Syntax.{State, Stm, assign, branch, loop, note, Block, done, more}
use Rattle.cov_ast.specs.View as view
use Rattle.cov_ast.specs.WellFormed.{AreTypesInRange, IsBlockInRange, IsStmInRange, IsTypeInRange, IsWellFormed}
use Rattle.cov_ast.specs.declared.decl.Program as decl
use Rattle.cov_ast.proofs.WellFormedLaws.{class_at}
use Rattle.mode_state.specs.Sets.{is_hidden}
use Rattle.point_law.specs.After.{after_assign, assigned_type, forgotten_type, kept_type, listed_or, locked_type, meet, noted, start, start_type, unlocked_type, updated, with_guard}
use Rattle.point_law.specs.Point.{Point, default_type, is_over_stable, is_tracked, ty, ty_var, type_at, vars_of}
use Rattle.point_law.specs.Terms.{distinct_terms, is_one, joined, joined_from, with_term, with_terms, without_ones}
use Rattle.typing_law.specs.Blocks.{after_block, after_stm, value_type}
use Rattle.typing_law.proofs.Soundness.Conditions.{EachType}
use Rattle.typing_law.proofs.Soundness.Lists.{listed_is, retyped_is, updated_is}
use Rattle.typing_law.proofs.Soundness.Static.{cond_is}
use Rattle.typing_rules.specs.Inside.Walking.{HasTypesBelow}

-- Expressions ----------------------------------------------------------------------------------------------------

abbrev EachBelow : ℕ → List Term → Type 0
EachBelow n [] = Unit {0}
EachBelow n (e ∷ es) = HasVarsBelow e n × EachBelow n es

module _ (n : ℕ) where
  append_below : (es fs : List Term) → EachBelow n es → EachBelow n fs → EachBelow n (es ++ fs)
  append_below [] fs h k = k
  append_below (e ∷ es) fs h k = (h.0, append_below es fs h.1 k)

  parts_below : (e : Term) → HasVarsBelow e n → EachBelow n (conjuncts e)
  parts_below (bin Both a b) h = append_below (conjuncts a) (conjuncts b) (parts_below a h.0) (parts_below b h.1)
  parts_below _ h = (h, tt)

  filter_below : (test : Term → Bool) (es : List Term) → EachBelow n es → EachBelow n (filter test es)
  filter_below test [] h = tt
  filter_below test (e ∷ es) h =
      let rest = filter_below test es h.1 in
      cond_is (EachBelow n) (test e) (e ∷ filter test es) (filter test es) (λ _. (h.0, rest)) (λ _. rest)

  with_below : (es fs : List Term) → EachBelow n es → EachBelow n fs → EachBelow n (with_terms es fs)
  with_below es [] h k = h
  with_below es (f ∷ fs) h k =
      with_below (with_term es f) fs
      (cond_is (EachBelow n) (has_term es f) es (es ++ f ∷ []) (λ _. h) (λ _. append_below es (f ∷ []) h (k.0, tt))) k.1

  joined_from_below : (e : Term) (fs : List Term) → HasVarsBelow e n → EachBelow n fs → HasVarsBelow (joined_from e fs) n
  joined_from_below e [] h k = h
  joined_from_below e (f ∷ fs) h k = joined_from_below (bin Both e f) fs (h, k.0) k.1

  joined_below : (es : List Term) → EachBelow n es → HasVarsBelow (joined es) n
  joined_below [] h = tt
  joined_below (e ∷ es) h = joined_from_below e es h.0 h.1

  all_below : (f : ℕ → List Term) (xs : List ℕ) → ((x : ℕ) → EachBelow n (f x)) → EachBelow n (flat_map f xs)
  all_below f [] h = tt
  all_below f (x ∷ xs) h = append_below (f x) (flat_map f xs) (h x) (all_below f xs h)

  -- the listed types of a state
  types_below : (m z : ℕ) (rs : List (ℕ × Term)) → AreTypesInRange n m rs → EachType rs (λ y r. y ≡ z → HasVarsBelow r n)
  types_below m z [] all = tt
  types_below m z (r ∷ rs) all = (λ _. (all 0 r (omega arith)).1, types_below m z rs (λ k d lt. all (suc k) d (omega arith)))

-- Points ---------------------------------------------------------------------------------------------------------

-- each class of a program is over its variables
abbrev HasClassesBelow : Plain → ℕ → Type 0
HasClassesBelow p n = (x : ℕ) → HasVarsBelow (class_of p x) n

pub classes_below : (p : decl.Program) → IsWellFormed (view.program p) → (x : ℕ) → HasVarsBelow (class_of (plain (view.program p)) x) (length p.vars)
classes_below p fine x = elim (cases_lt x (length p.vars)) [
  | inl lt ↦ class_at p fine x lt
  | inr past ↦ subst (λ v. HasVarsBelow (class_term v.class) (length p.vars))
      (sym (get_or_past (map view.var p.vars) x no_var (omega (arith, length-map p.vars view.var, past)))) tt
]

module _ (p : Plain) (t n m : ℕ) (classes : HasClassesBelow p n) where
  ty_var_below : (a : Point) → HasTypesBelow a n → (x : ℕ) → HasVarsBelow (ty_var p t a x) n
  ty_var_below a h x =
      cond_is (λ q. HasVarsBelow q n) (is_control p x) (const 1) (cond (is_tracked p t a.held x) (type_at a x) (class_of p x)) (λ _. tt)
      (λ _. cond_is (λ q. HasVarsBelow q n) (is_tracked p t a.held x) (type_at a x) (class_of p x) (λ _. h x) (λ _. classes x))

  ty_below : (a : Point) → HasTypesBelow a n → (e : Term) → HasVarsBelow (ty p t a e) n
  ty_below a h e =
      let es = flat_map (λ x. conjuncts (ty_var p t a x)) (vars e) in
      joined_below n (distinct_terms (without_ones es))
      (with_below n [] (without_ones es) tt
      (filter_below n (λ e. not (is_one e)) es (all_below n (λ x. conjuncts (ty_var p t a x)) (vars e) (λ x. parts_below n (ty_var p t a x) (ty_var_below a h x)))))

  pub value_below : (a : Point) → HasTypesBelow a n → (q : Option Term) → IsTypeInRange n m q → (e : Term) → HasVarsBelow (value_type p t a q e) n
  value_below a h None r e = ty_below a h e
  value_below a h (Some q) r e = r

  default_below : (held : List Bool) (z : ℕ) → HasVarsBelow (default_type p t held z) n
  default_below held z = cond_is (λ q. HasVarsBelow q n) (is_hidden p t held z) (const 0) (class_of p z) (λ _. tt) (λ _. classes z)

  listed_below : (rs : List (ℕ × Term)) → AreTypesInRange n m rs → (z : ℕ) (q : Term) → HasVarsBelow q n → HasVarsBelow (listed_or rs z q) n
  listed_below rs r z q h = listed_is (λ q. HasVarsBelow q n) rs z q (types_below n m z rs r) h

  pub start_below : HasTypesBelow (start p t) n
  start_below z =
      let held = (start p t).held in
      let types = map (start_type p t held) (vars_of p) in
      elim (cases_lt z (length p.vars)) [
        | inl lt ↦ subst (λ q. HasVarsBelow (unwrap_or q (const 0)) n) (sym (get_or-map-range_with_len (start_type p t held) 0 (length p.vars) z z None lt (zero-add z)))
            (cond_is (λ q. HasVarsBelow (unwrap_or q (const 0)) n) (is_tracked p t held z) (Some (class_of p z)) None (λ _. classes z) (λ _. tt))
        | inr past ↦ subst (λ q. HasVarsBelow (unwrap_or q (const 0)) n)
            (sym (get_or_past types z None (omega (arith, length-map-range_with_len (start_type p t held) 0 (length p.vars), past)))) tt
      ]

  assign_below : (a : Point) → HasTypesBelow a n → (x : ℕ) (e q : Term) (rs : List (ℕ × Term)) → HasVarsBelow q n → AreTypesInRange n m rs
      → HasTypesBelow (after_assign p t a x e q rs) n
  assign_below a h x e q rs k r z =
      let g = type_at a z in
      let forgotten = forgotten_type p t a.held x z g in
      retyped_is (λ q. HasVarsBelow q n) (assigned_type p t a.held x q rs) a.types z tt
      (cond_is (λ q. HasVarsBelow q n) (is_control p x) (listed_or rs z forgotten) (cond (x == z) q g)
      (λ _. listed_below rs r z forgotten
      (cond_is (λ q. HasVarsBelow q n) (mentions g x) (default_type p t a.held z) g (λ _. default_below a.held z) (λ _. h z)))
      (λ _. cond_is (λ q. HasVarsBelow q n) (x == z) q g (λ _. k) (λ _. h z)))

  pub meet_below : (a : Point) (j : State) → AreTypesInRange n m j.types → HasTypesBelow (meet p t a j) n
  meet_below a j r z =
      retyped_is (λ q. HasVarsBelow q n) (λ z q. listed_or j.types z (default_type p t a.held z)) a.types z tt
      (listed_below j.types r z (default_type p t a.held z) (default_below a.held z))

  -- with the locks that are taken, and with those that are left
  taken_below : (a : Point) → HasTypesBelow a n → (l z : ℕ) → HasVarsBelow (unwrap_or (get_or (updated (locked_type p l) a.types) z None) (const 0)) n
  taken_below a h l z =
      updated_is (λ q. HasVarsBelow (unwrap_or q (const 0)) n) (locked_type p l) a.types z tt
      (cond_is (λ q. HasVarsBelow (unwrap_or q (const 0)) n) (under p l z && not (is_control p z)) (Some (class_of p z)) (get_or a.types z None)
      (λ _. classes z) (λ _. h z))

  kept_below : (held : List Bool) (z : ℕ) (o : Option Term) → HasVarsBelow (unwrap_or o (const 0)) n
      → HasVarsBelow (unwrap_or (unlocked_type p t held z o) (const 0)) n
  kept_below held z None h = cond_is (λ q. HasVarsBelow (unwrap_or q (const 0)) n) (is_tracked p t held z) None None (λ _. tt) (λ _. tt)
  kept_below held z (Some q) h =
      cond_is (λ q. HasVarsBelow (unwrap_or q (const 0)) n) (is_tracked p t held z) (Some (kept_type p t held z q)) None
      (λ _. cond_is (λ q. HasVarsBelow q n) (is_over_stable p t held q) q (default_type p t held z) (λ _. h) (λ _. default_below held z)) (λ _. tt)

  left_below : (a : Point) → HasTypesBelow a n → (held : List Bool) (z : ℕ)
      → HasVarsBelow (unwrap_or (get_or (updated (unlocked_type p t held) a.types) z None) (const 0)) n
  left_below a h held z =
      updated_is (λ q. HasVarsBelow (unwrap_or q (const 0)) n) (unlocked_type p t held) a.types z tt (kept_below held z (get_or a.types z None) (h z))

  note_below : (a : Point) → HasTypesBelow a n → (j : State) → AreTypesInRange n m j.types → HasTypesBelow (noted a j) n
  note_below a h j r z = retyped_is (λ q. HasVarsBelow q n) (listed_or j.types) a.types z tt (listed_below j.types r z (type_at a z) (h z))

  pub stm_below : (s : Stm) (a : Point) → IsStmInRange n m s → HasTypesBelow a n → HasTypesBelow (after_stm p t s a) n
  stm_below (assign x e q retypes) a r h = assign_below a h x e (value_type p t a q e) retypes (value_below a h q r.2 e) r.3
  stm_below (branch e yes_block no_block join) a r h = meet_below (after_block p t yes_block (with_guard p t a e)) join r.3.types
  stm_below (loop e inv b) a r h = meet_below a inv r.1.types
  stm_below (note j) a r h = note_below a h j r.types
  stm_below _ a r h = λ z. first_of (search h, search taken_below, search left_below)

  pub block_below : (b : Block) (a : Point) → IsBlockInRange n m b → HasTypesBelow a n → HasTypesBelow (after_block p t b a) n
  block_below done a r h = h
  block_below (more at s proofs b) a r h = block_below b (after_stm p t s a) r.2 (stm_below s a r.0 h)
