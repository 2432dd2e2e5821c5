-- What stands outside of the set of the numbers that pass a test, of numbers below a bound.
use Rattle.std.proofs.Common.{◌≡◌, ℕ, ◌+◌, ◌<◌, ◌≤◌, ◌==◌, ◌&&◌, ◌||◌, List, [], ◌∷◌, ◌++◌, Bool, true, false, not, cond, if◌then◌else◌, Option, Some, None, count_by, true≢false, refl, sym, ap, subst, ◌∙◌, arith, zero-add, All}
use Rattle.std.specs.List.{list_all}
use Rattle.std.specs.Option.{option_or}
use Rattle.std.proofs.Math.Bool.{or-true}
use Rattle.std.proofs.lemmas.Bool.{eq-eqb}
use Rattle.std.proofs.lemmas.List.Elements.{All-head, All-tail}
use Rattle.std.proofs.lemmas.List.Sums.{sum_by-append}
use Rattle.cov_expr.specs.Term.{Term, const, var, neg, bin}
use Rattle.cov_expr.specs.Trees.{add_new, has_number, occurrences, vars}
use Rattle.cov_expr.specs.Words.{HasVarsBelow}
use Rattle.cov_ast.specs.Tables.{first_outside, has, table}
use Rattle.cov_ast.proofs.ObligationLaws.{outside_below}
use Rattle.cov_ast.proofs.TableLaws.{outside_append, table_at}
use Rattle.point_law.specs.Terms.{each_variable}
use Rattle.refusal_names.specs.OutsideVariables.{all_outside, first_with_outside, found_or, outside}

-- Numbers below a bound ----------------------------------------------------------------------------------------

abbrev pub AreBelow : (n : ℕ) → List ℕ → Type 0
AreBelow n [] = Unit {0}
AreBelow n (x ∷ xs) = (x < n) × AreBelow n xs

below_both : (n : ℕ) (xs ys : List ℕ) → AreBelow n xs → AreBelow n ys → AreBelow n (xs ++ ys)
below_both n [] ys h k = k
below_both n (x ∷ xs) ys h k = (h.0, below_both n xs ys h.1 k)

-- those of an expression
pub occurrences_below : (n : ℕ) (e : Term) → HasVarsBelow e n → AreBelow n (occurrences e)
occurrences_below n (const k) h = tt
occurrences_below n (var x) h = (h, tt)
occurrences_below n (neg e) h = occurrences_below n e h
occurrences_below n (bin op a b) h = below_both n (occurrences a) (occurrences b) (occurrences_below n a h.0) (occurrences_below n b h.1)

-- a number that is added, unless it is there
one_more_below : (n : ℕ) (xs : List ℕ) (y : ℕ) → AreBelow n xs → y < n → (b : Bool) → AreBelow n (if b then xs else xs ++ y ∷ [])
one_more_below n xs y h k true = h
one_more_below n xs y h k false = below_both n xs (y ∷ []) h (k, tt)

new_below : (n : ℕ) (xs ys : List ℕ) → AreBelow n xs → AreBelow n ys → AreBelow n (add_new xs ys)
new_below n xs [] h k = h
new_below n xs (y ∷ ys) h k = new_below n (if has_number xs y then xs else xs ++ y ∷ []) ys (one_more_below n xs y h k.0 (has_number xs y)) k.1

-- each once
pub vars_below : (n : ℕ) (e : Term) → HasVarsBelow e n → AreBelow n (vars e)
vars_below n e h = new_below n [] (occurrences e) tt (occurrences_below n e h)

-- The first number outside -------------------------------------------------------------------------------------

module _ (marks : List Bool) where
  -- what is found outside of a set occurs, and isn't in the set
  pub found : (xs : List ℕ) (x : ℕ) → first_outside marks xs ≡ Some x → (has_number xs x ≡ true) × (has marks x ≡ false)
  found [] x e = let no : ⊥ = cc in absurd no
  found (y ∷ ys) x e = go (λ k. found ys x k) (has marks y) refl e
    where
      go : (first_outside marks ys ≡ Some x → (has_number ys x ≡ true) × (has marks x ≡ false)) → (b : Bool) → has marks y ≡ b
          → cond b (first_outside marks ys) (Some y) ≡ Some x → (has_number (y ∷ ys) x ≡ true) × (has marks x ≡ false)
      go rest true is e = let r = rest e in (ap (λ h. y == x || h) r.0 ∙ or-true (y == x), r.1)
      go rest false is e =
          let same : y ≡ x = cc in
          (ap (λ b. b || has_number ys x) (eq-eqb y x same), subst (λ z. has marks z ≡ false) same is)

none_of_both : (o q : Option ℕ) → option_or o q ≡ None → (o ≡ None) × (q ≡ None)
none_of_both None q h = (refl, h)
none_of_both (Some x) q h = let no : ⊥ = cc in absurd no

none_of : (o q : Option ℕ) → o ≡ None → q ≡ None → option_or o q ≡ None
none_of None q h k = k
none_of (Some x) q h k = let no : ⊥ = cc in absurd no

module _ (n : ℕ) (f : ℕ → Bool) where
  in_set : (x : ℕ) → (b : Bool) → has (table n f) x ≡ b → ◌≡◌ {A = Option ℕ} (cond b None (Some x)) None → has (table n f) x ≡ true
  in_set x true is e = is
  in_set x false is e = let no : ⊥ = cc in absurd no

  -- where nothing is found outside, each variable passes
  pub passes : (e : Term) → HasVarsBelow e n → first_outside (table n f) (occurrences e) ≡ None → each_variable f e ≡ true
  passes (const k) below none = refl
  passes (var x) below none = sym (table_at n f x below) ∙ in_set x (has (table n f) x) refl none
  passes (neg e) below none = passes e below none
  passes (bin op a b) below none =
      let both = none_of_both (first_outside (table n f) (occurrences a)) (first_outside (table n f) (occurrences b))
      (sym (outside_append (table n f) (occurrences a) (occurrences b)) ∙ none) in
      ap (λ v. v && each_variable f b) (passes a below.0 both.0) ∙ passes b below.1 both.1

  -- what is found is below the bound, and doesn't pass
  pub found_fails : (e : Term) → HasVarsBelow e n → (x : ℕ) → outside (table n f) e ≡ Some x → (x < n) × (has_number (occurrences e) x ≡ true) × (f x ≡ false)
  found_fails e below x some =
      let it = found (table n f) (occurrences e) x some in
      let inside : x < n = outside_below n (table n f) e x below (sym some) in
      (inside, it.0, sym (table_at n f x inside) ∙ it.1)

  -- Expressions ------------------------------------------------------------------------------------------------

  -- The first of expressions of which a variable doesn't pass.
  pub record FirstFailing (es : List Term) : Type 0 where
    pub before : List Term
    pub e : Term
    pub after : List Term
    pub is : es ≡ before ++ e ∷ after
    pub first : list_all (each_variable f) before ≡ true
    pub x : ℕ
    pub inside : x < n
    pub occurs : has_number (occurrences e) x ≡ true
    pub fails : f x ≡ false
    pub first_found : first_with_outside (table n f) es ≡ Some (e, x)

  by_first : (e : Term) (es : List Term) → HasVarsBelow e n → (each_variable f e && list_all (each_variable f) es) ≡ false
      → (list_all (each_variable f) es ≡ false → FirstFailing es) → (o : Option ℕ) → outside (table n f) e ≡ o → FirstFailing (e ∷ es)
  by_first e es below broken rest None none =
      let over : each_variable f e ≡ true = passes e below none in
      let r = rest (sym (ap (λ b. b && list_all (each_variable f) es) over) ∙ broken) in
      record {
        before = e ∷ r.before;
        e = r.e;
        after = r.after;
        is = ap (λ l. e ∷ l) r.is;
        first = ap (λ b. b && list_all (each_variable f) r.before) over ∙ r.first;
        x = r.x;
        inside = r.inside;
        occurs = r.occurs;
        fails = r.fails;
        first_found = ap (λ o. found_or e o (first_with_outside (table n f) es)) none ∙ r.first_found;
      }
  by_first e es below broken rest (Some x) some =
      let it = found_fails e below x some in
      record {
        before = [];
        e = e;
        after = es;
        is = refl;
        first = refl;
        x = x;
        inside = it.0;
        occurs = it.1;
        fails = it.2;
        first_found = ap (λ o. found_or e o (first_with_outside (table n f) es)) some;
      }

  pub first_failing : (es : List Term) → All (λ e. HasVarsBelow e n) es → list_all (each_variable f) es ≡ false → FirstFailing es
  first_failing [] below broken = absurd (true≢false broken)
  first_failing (e ∷ es) below broken =
      by_first e es (All-head (λ d. HasVarsBelow d n) e es below) broken
      (λ left. first_failing es (All-tail (λ d. HasVarsBelow d n) e es below) left)
      (outside (table n f) e) refl

  -- Several numbers --------------------------------------------------------------------------------------------

  abbrev pub fails_count : List ℕ → ℕ
  fails_count xs = count_by (λ x. not (f x)) xs

  counted : (x : ℕ) (xs : List ℕ) → fails_count (x ∷ xs) ≡ cond (not (f x)) 1 0 + fails_count xs
  counted x xs = sum_by-append (λ y. cond (not (f y)) 1 0) (x ∷ []) xs ∙ ap (λ k. k + fails_count xs) (zero-add (cond (not (f x)) 1 0))

  -- The first of numbers that doesn't pass, and what stands behind it.
  pub record NextFailing (xs : List ℕ) : Type 0 where
    pub before : List ℕ
    pub x : ℕ
    pub rest : List ℕ
    pub is : xs ≡ before ++ x ∷ rest
    pub first : list_all f before ≡ true
    pub fails : f x ≡ false
    pub below : AreBelow n rest
    pub fewer : fails_count xs ≡ 1 + fails_count rest
    pub next_found : all_outside (table n f) xs ≡ x ∷ all_outside (table n f) rest

  by_next : (y : ℕ) (ys : List ℕ) → AreBelow n (y ∷ ys) → 1 ≤ fails_count (y ∷ ys) → (1 ≤ fails_count ys → NextFailing ys) → (b : Bool) → f y ≡ b → NextFailing (y ∷ ys)
  by_next y ys below many rest true is =
      let same : fails_count (y ∷ ys) ≡ fails_count ys = counted y ys ∙ ap (λ b. cond (not b) 1 0 + fails_count ys) is ∙ zero-add (fails_count ys) in
      let r = rest (omega (arith, many, same)) in
      record {
        before = y ∷ r.before;
        x = r.x;
        rest = r.rest;
        is = ap (λ l. y ∷ l) r.is;
        first = ap (λ b. b && list_all f r.before) is ∙ r.first;
        fails = r.fails;
        below = r.below;
        fewer = same ∙ r.fewer;
        next_found =
            ap (λ b. if b then all_outside (table n f) ys else y ∷ all_outside (table n f) ys) (table_at n f y below.0 ∙ is) ∙ r.next_found;
      }
  by_next y ys below many rest false is = record {
    before = [];
    x = y;
    rest = ys;
    is = refl;
    first = refl;
    fails = is;
    below = below.1;
    fewer = counted y ys ∙ ap (λ b. cond (not b) 1 0 + fails_count ys) is;
    next_found = ap (λ b. if b then all_outside (table n f) ys else y ∷ all_outside (table n f) ys) (table_at n f y below.0 ∙ is);
  }

  pub next_failing : (xs : List ℕ) → AreBelow n xs → 1 ≤ fails_count xs → NextFailing xs
  next_failing [] below many = let no : ⊥ = omega (arith, many) in absurd no
  next_failing (y ∷ ys) below many = by_next y ys below many (λ m. next_failing ys below.1 m) (f y) refl
