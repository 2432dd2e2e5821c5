-- Where something has too many nodes at an assignment or an output, the line of V16 tells of it.
use Rattle.std.proofs.Common.{◌≡◌, ◌⊎◌, ℕ, zero, suc, ◌+◌, ◌<◌, ◌≤◌, ◌==◌, ◌&&◌, ◌||◌, List, [], ◌∷◌, ◌++◌, map, filter, length, get_or, Bool, true, false, not, cond, if◌then◌else◌, Option, Some, None, option_map, unwrap_or, true≢false, refl, sym, ap, subst, ◌∙◌, arith, inl, inr}
use Rattle.std.specs.List.{list_all, range_with_len}
use Rattle.std.specs.Option.{option_or}
use Rattle.std.proofs.lemmas.Bool.{and_from, and_parts, or_parts}
use Rattle.std.proofs.lemmas.List.Folds.{list_all-append}
use Rattle.cov_expr.specs.Term.{Term, const, var, neg, bin}
use Rattle.cov_expr.specs.Trees as tree
use Rattle.cov_expr.specs.Trees.{mentions, nodes}
use Rattle.cov_ast.specs.Declarations.{class_of, is_control, no_var}
use Rattle.cov_ast.specs.Plain.{class_term, plain}
use Rattle.cov_ast.specs.Syntax.{Program, Var}
use Rattle.cov_ast.specs.Tables.{has}
use Rattle.cov_ast.proofs.TableLaws.{table_at}
use Rattle.mode_state.specs.Sets.{is_hidden}
use Rattle.point_law.specs.After.{after_assign, assigned_type, forgotten_type, listed_or, updated_from}
use Rattle.point_law.specs.Point.{default_type, has_small_types, is_tracked, ty, ty_var, type_at, Point}
use Rattle.point_law.specs.Terms.{is_small, is_small_type, listed}
use Rattle.statement_paths.specs.Paths.{Step}
use Rattle.statement_paths.specs.VariableSets.{hidden}
use Rattle.typing_law.specs.Blocks.{value_type}
use Rattle.typing_law.specs.Entailments.{Entailment, assign_entailments, controlled_follows, controlled_values, from_one_more, guard_follows, is_small_entailment, retype_follows, shown_controlled, shown_value, written_type}
use Rattle.typing_law.proofs.Soundness.Static.{control_of}
use Rattle.text_parts.specs.VariableNames.{variable_names}
use Rattle.refusal_names.specs.LargeTerms.{assigned_or, is_large, is_large_with, large_class, large_retype, last_made, made_by, made_or, value_text}
use Rattle.refusal_names.specs.SpokenParts.{type_terms, with_written}
use Rattle.refusal_names.specs.ToldLarge.{IsOfClass, IsOfMade, IsOfRetype, IsOfValue, IsSmallSoFar, TellsOfLarge}

-- Small and large ----------------------------------------------------------------------------------------------

large_is : (e : Term) → is_large e ≡ true → is_small e ≡ false
large_is e h = grind (arith, h)

pub small_is : (e : Term) → is_large e ≡ false → is_small e ≡ true
small_is e h = grind (arith, h)

-- what doesn't mention a variable stays as it is
unmentioned : (e : Term) (x : ℕ) (part : Term) → mentions e x ≡ false → tree.subst e x part ≡ e
unmentioned (const k) x part h = refl
unmentioned (var y) x part h = ap (λ b. if b then part else var y) h
unmentioned (neg e) x part h = ap neg (unmentioned e x part h)
unmentioned (bin op a b) x part h =
    let both = or_parts (mentions a x) (mentions b x) h in
    (λ i. bin op (unmentioned a x part both.0 i) (unmentioned b x part both.1 i))

-- where an expression isn't too large with a value, whether it mentions the variable or not
small_with : (x : ℕ) (value e : Term) → is_small e ≡ true → (b : Bool) → mentions e x ≡ b → (b && is_large (tree.subst e x value)) ≡ false
    → is_small (tree.subst e x value) ≡ true
small_with x value e small true mentioned h = small_is (tree.subst e x value) h
small_with x value e small false mentioned h = ap is_small (unmentioned e x value mentioned) ∙ small

-- What is found ------------------------------------------------------------------------------------------------

module _ (marks : List Bool) (x : ℕ) (value : Term) where
  abbrev is_found : ℕ → Var → Bool
  is_found y v = not (has marks y) && is_large_with x value (class_term v.class)

  -- The first of variables from a number on whose class is too large with the value.
  record FoundClass (n : ℕ) (vs : List Var) : Type 0 where
    pub i : ℕ
    pub inside : i < length vs
    pub holds : is_found (n + i) (get_or vs i no_var) ≡ true
    pub is : large_class marks x value n vs ≡ Some (n + i)

  -- There is none.
  record NoClass (n : ℕ) (vs : List Var) : Type 0 where
    pub none : large_class marks x value n vs ≡ None
    pub each : (i : ℕ) → i < length vs → is_found (n + i) (get_or vs i no_var) ≡ false

  by_class : (n : ℕ) (v : Var) (vs : List Var) → NoClass (suc n) vs ⊎ FoundClass (suc n) vs → (b : Bool) → is_found n v ≡ b → NoClass n (v ∷ vs) ⊎ FoundClass n (v ∷ vs)
  by_class n v vs rest true is =
      let here : n ≡ n + 0 = omega arith in
      inr (record {
        i = zero;
        inside = omega arith;
        holds = ap (λ m. is_found m v) (sym here) ∙ is;
        is = ap (λ b. if b then Some n else large_class marks x value (suc n) vs) is ∙ ap (λ m. Some m) here;
      })
  by_class n v vs (inr f) false is =
      let further : suc n + f.i ≡ n + suc f.i = omega arith in
      inr (record {
        i = suc f.i;
        inside = omega (arith, f.inside);
        holds = ap (λ m. is_found m (get_or vs f.i no_var)) (sym further) ∙ f.holds;
        is = ap (λ b. if b then Some n else large_class marks x value (suc n) vs) is ∙ f.is ∙ ap (λ m. Some m) further;
      })
  by_class n v vs (inl free) false is = inl (record {
    none = ap (λ b. if b then Some n else large_class marks x value (suc n) vs) is ∙ free.none;
    each = each;
  })
    where
      each : (i : ℕ) → i < length (v ∷ vs) → is_found (n + i) (get_or (v ∷ vs) i no_var) ≡ false
      each zero inside = ap (λ m. is_found m v) (let e : n + 0 ≡ n = omega arith in e) ∙ is
      each (suc i) inside =
          ap (λ m. is_found m (get_or vs i no_var)) (let e : n + suc i ≡ suc n + i = omega arith in e) ∙ free.each i (omega (arith, inside))

  class_found : (n : ℕ) (vs : List Var) → NoClass n vs ⊎ FoundClass n vs
  class_found n [] = inl (record { none = refl; each = λ i inside. absurd (let no : ⊥ = omega (arith, inside) in no) })
  class_found n (v ∷ vs) = by_class n v vs (class_found (suc n) vs) (is_found n v) refl

  -- The first of types that is too large with the value.
  record FoundRetype (rs : List (ℕ × Term)) : Type 0 where
    pub before : List (ℕ × Term)
    pub r : ℕ × Term
    pub after : List (ℕ × Term)
    pub split : rs ≡ before ++ r ∷ after
    pub holds : is_large_with x value r.1 ≡ true
    pub is : large_retype x value rs ≡ Some r.0

  record NoRetype (rs : List (ℕ × Term)) : Type 0 where
    pub none : large_retype x value rs ≡ None
    pub each : list_all (λ r. not (is_large_with x value r.1)) rs ≡ true

  by_retype : (r : ℕ × Term) (rs : List (ℕ × Term)) → NoRetype rs ⊎ FoundRetype rs → (b : Bool) → is_large_with x value r.1 ≡ b → NoRetype (r ∷ rs) ⊎ FoundRetype (r ∷ rs)
  by_retype r rs rest true is = inr (record {
    before = [];
    r = r;
    after = rs;
    split = refl;
    holds = is;
    is = ap (λ b. if b then Some r.0 else large_retype x value rs) is;
  })
  by_retype r rs (inr f) false is = inr (record {
    before = r ∷ f.before;
    r = f.r;
    after = f.after;
    split = ap (λ l. r ∷ l) f.split;
    holds = f.holds;
    is = ap (λ b. if b then Some r.0 else large_retype x value rs) is ∙ f.is;
  })
  by_retype r rs (inl free) false is = inl (record {
    none = ap (λ b. if b then Some r.0 else large_retype x value rs) is ∙ free.none;
    each = ap (λ b. not b && list_all (λ r. not (is_large_with x value r.1)) rs) is ∙ free.each;
  })

  retype_found : (rs : List (ℕ × Term)) → NoRetype rs ⊎ FoundRetype rs
  retype_found [] = inl (record { none = refl; each = refl })
  retype_found (r ∷ rs) = by_retype r rs (retype_found rs) (is_large_with x value r.1) refl

-- The last step that makes something too large.
record FoundMade (steps : List Step) : Type 0 where
  pub front : List Step
  pub step : Step
  pub back : List Step
  pub split : steps ≡ front ++ step ∷ back
  pub made : ℕ × List ℕ
  pub makes : made_by step ≡ Some made
  pub last : last_made back ≡ None
  pub is : last_made steps ≡ Some made

by_made : (s : Step) (ss : List Step) → (last_made ss ≡ None) ⊎ FoundMade ss → (o : Option (ℕ × List ℕ)) → made_by s ≡ o → (last_made (s ∷ ss) ≡ None) ⊎ FoundMade (s ∷ ss)
by_made s ss (inr f) o is = inr (record {
  front = s ∷ f.front;
  step = f.step;
  back = f.back;
  split = ap (λ l. s ∷ l) f.split;
  made = f.made;
  makes = f.makes;
  last = f.last;
  is = ap (λ l. option_or l (made_by s)) f.is;
})
by_made s ss (inl none) None is = inl (ap (λ l. option_or l (made_by s)) none ∙ is)
by_made s ss (inl none) (Some m) is = inr (record {
  front = [];
  step = s;
  back = ss;
  split = refl;
  made = m;
  makes = is;
  last = none;
  is = ap (λ l. option_or l (made_by s)) none ∙ is;
})

made_found : (steps : List Step) → (last_made steps ≡ None) ⊎ FoundMade steps
made_found [] = inl refl
made_found (s ∷ ss) = by_made s ss (made_found ss) (made_by s) refl

made_told : (bytes : List ℕ) (steps : List Step) (later : List ℕ) → FoundMade steps → IsOfMade bytes steps (made_or bytes (last_made steps) later)
made_told bytes steps later f = record {
  front = f.front;
  step = f.step;
  back = f.back;
  is = f.split;
  made = f.made;
  makes = f.makes;
  last = f.last;
  told = ap (λ m. made_or bytes m later) f.is;
}

-- What is small ------------------------------------------------------------------------------------------------

all_both : (ds es : List Term) → list_all is_small ds ≡ true → list_all is_small es ≡ true → list_all is_small (ds ++ es) ≡ true
all_both ds es h k = list_all-append is_small ds es ∙ and_from (list_all is_small ds) (list_all is_small es) h k

-- an entailment from small predicates and a small expression more, with a small goal
small_entailment : (preds : List Term) (e goal : Term) → list_all is_small preds ≡ true → is_small e ≡ true → is_small goal ≡ true
    → is_small_entailment (from_one_more preds e goal) ≡ true
small_entailment preds e goal h k g =
    and_from (list_all is_small (preds ++ e ∷ [])) (is_small goal) (all_both preds (e ∷ []) h (and_from (is_small e) true k refl)) g

-- a type that a list of small ones has, or a small one
small_listed : (z : ℕ) (q : Term) (ts : List (ℕ × Term)) → list_all is_small (type_terms ts) ≡ true → is_small q ≡ true → is_small (listed_or ts z q) ≡ true
small_listed z q [] h k = k
small_listed z q (t ∷ ts) h k =
    let both = and_parts (is_small t.1) (list_all is_small (type_terms ts)) h in
    by_rest (listed ts z) (small_listed z q ts both.1 k) both.0 (t.0 == z)
  where
    by_rest : (o : Option Term) → is_small (unwrap_or o q) ≡ true → is_small t.1 ≡ true → (b : Bool) → is_small (unwrap_or (option_or o (if b then Some t.1 else None)) q) ≡ true
    by_rest (Some r) rest first b = rest
    by_rest None rest first true = first
    by_rest None rest first false = rest

-- of a list of types, each at most small
small_at : (types : List (Option Term)) (y : ℕ) → list_all is_small_type types ≡ true → is_small (unwrap_or (get_or types y None) (const 0)) ≡ true
small_at [] y h = refl
small_at (q ∷ types) zero h = of_type q (and_parts (is_small_type q) (list_all is_small_type types) h).0
  where
    of_type : (q : Option Term) → is_small_type q ≡ true → is_small (unwrap_or q (const 0)) ≡ true
    of_type None h = refl
    of_type (Some g) h = h
small_at (q ∷ types) (suc y) h = small_at types y (and_parts (is_small_type q) (list_all is_small_type types) h).1

-- types that are replaced by small ones
small_updated : (change : ℕ → Term → Term) → ((z : ℕ) (g : Term) → is_small g ≡ true → is_small (change z g) ≡ true) → (n : ℕ) (types : List (Option Term))
    → list_all is_small_type types ≡ true → list_all is_small_type (updated_from n (λ z q. option_map (change z) q) types) ≡ true
small_updated change keeps n [] h = refl
small_updated change keeps n (q ∷ types) h =
    let both = and_parts (is_small_type q) (list_all is_small_type types) h in
    and_from (is_small_type (option_map (change n) q)) (list_all is_small_type (updated_from (suc n) (λ z r. option_map (change z) r) types))
    (of_type q both.0) (small_updated change keeps (suc n) types both.1)
  where
    of_type : (q : Option Term) → is_small_type q ≡ true → is_small_type (option_map (change n) q) ≡ true
    of_type None h = refl
    of_type (Some g) h = keeps n g h

module _ (p : Program) (t : ℕ) (a : Point) (classes : (y : ℕ) → is_small (class_of (plain p) y) ≡ true) (types : has_small_types a ≡ true) where
  small_default : (z : ℕ) → is_small (default_type (plain p) t a.held z) ≡ true
  small_default z = by_test (is_hidden (plain p) t a.held z)
    where
      by_test : (b : Bool) → is_small (if b then const 0 else class_of (plain p) z) ≡ true
      by_test true = refl
      by_test false = classes z

  small_ty_var : (y : ℕ) → is_small (ty_var (plain p) t a y) ≡ true
  small_ty_var y = by_tests (is_control (plain p) y) (is_tracked (plain p) t a.held y)
    where
      by_tests : (b c : Bool) → is_small (if b then const 1 else (if c then type_at a y else class_of (plain p) y)) ≡ true
      by_tests true c = refl
      by_tests false true = small_at a.types y types
      by_tests false false = classes y

  module _ (x : ℕ) (e : Term) (q : Option Term) (retypes : List (ℕ × Term)) (stated : list_all is_small (with_written q (type_terms retypes)) ≡ true)
      (value : is_small (ty (plain p) t a e) ≡ true) where
    small_parts : (q : Option Term) → list_all is_small (with_written q (type_terms retypes)) ≡ true
        → (is_small (value_type (plain p) t a q e) ≡ true) × (list_all is_small (type_terms retypes) ≡ true)
    small_parts None h = (value, h)
    small_parts (Some r) h = and_parts (is_small r) (list_all is_small (type_terms retypes)) h

    small_value : is_small (value_type (plain p) t a q e) ≡ true
    small_value = (small_parts q stated).0

    small_retypes : list_all is_small (type_terms retypes) ≡ true
    small_retypes = (small_parts q stated).1

    small_change : (z : ℕ) (g : Term) → is_small g ≡ true → is_small (assigned_type (plain p) t a.held x (value_type (plain p) t a q e) retypes z g) ≡ true
    small_change z g h = by_control (is_control (plain p) x)
      where
        forgotten : (b : Bool) → is_small (if b then default_type (plain p) t a.held z else g) ≡ true
        forgotten true = small_default z
        forgotten false = h

        other : (b : Bool) → is_small (if b then value_type (plain p) t a q e else g) ≡ true
        other true = small_value
        other false = h

        by_control : (b : Bool) → is_small (if b then listed_or retypes z (forgotten_type (plain p) t a.held x z g) else (if x == z then value_type (plain p) t a q e else g)) ≡ true
        by_control true = small_listed z (forgotten_type (plain p) t a.held x z g) retypes small_retypes (forgotten (mentions g x))
        by_control false = other (x == z)

    small_after : has_small_types (after_assign (plain p) t a x e (value_type (plain p) t a q e) retypes) ≡ true
    small_after = small_updated (assigned_type (plain p) t a.held x (value_type (plain p) t a q e) retypes) small_change 0 a.types types

    module _ (preds : list_all is_small a.preds ≡ true) where
      small_written : (q : Option Term) → list_all is_small (with_written q (type_terms retypes)) ≡ true → list_all is_small_entailment (written_type (plain p) t a e q) ≡ true
      small_written None h = refl
      small_written (Some r) h =
          let small = (and_parts (is_small r) (list_all is_small (type_terms retypes)) h).0 in
          and_from (is_small_entailment (from_one_more a.preds r (ty (plain p) t a e))) true (small_entailment a.preds r (ty (plain p) t a e) preds small value) refl

      small_shown : list_all is_small_entailment (shown_value (plain p) t a x (value_type (plain p) t a q e)) ≡ true
      small_shown = by_test (is_control (plain p) x || not (is_hidden (plain p) t a.held x))
        where
          asked : is_small_entailment (from_one_more a.preds (class_of (plain p) x) (value_type (plain p) t a q e)) ≡ true
          asked = small_entailment a.preds (class_of (plain p) x) (value_type (plain p) t a q e) preds (classes x) small_value

          by_test : (b : Bool) → list_all is_small_entailment (if b then from_one_more a.preds (class_of (plain p) x) (value_type (plain p) t a q e) ∷ [] else []) ≡ true
          by_test true = and_from (is_small_entailment (from_one_more a.preds (class_of (plain p) x) (value_type (plain p) t a q e))) true asked refl
          by_test false = refl

      -- of the retypes, none too large
      small_retyped : (rs : List (ℕ × Term)) → list_all is_small (type_terms rs) ≡ true → list_all (λ r. not (is_large_with x e r.1)) rs ≡ true
          → list_all is_small_entailment (map (retype_follows (plain p) t a x e) rs) ≡ true
      small_retyped [] h none = refl
      small_retyped (r ∷ rs) h none =
          let small = and_parts (is_small r.1) (list_all is_small (type_terms rs)) h in
          let each = and_parts (not (is_large_with x e r.1)) (list_all (λ r. not (is_large_with x e r.1)) rs) none in
          and_from (is_small_entailment (retype_follows (plain p) t a x e r)) (list_all is_small_entailment (map (retype_follows (plain p) t a x e) rs))
          (small_entailment a.preds (tree.subst r.1 x e) (type_at a r.0) preds (small_with x e r.1 small.0 (mentions r.1 x) refl (not_true (is_large_with x e r.1) each.0)) (small_at a.types r.0 types))
          (small_retyped rs small.1 each.1)
        where
          not_true : (b : Bool) → not b ≡ true → b ≡ false
          not_true false h = refl
          not_true true h = absurd (true≢false (sym h))

      -- of the variables from a number on of which x is a control, where none that isn't hidden has too large a class
      small_controlled : (none : NoClass (hidden (plain p) t a.held) x e 0 p.vars) → (n k : ℕ) → n + k ≤ length p.vars
          → list_all is_small_entailment (map (controlled_follows (plain p) t a x e) (filter (λ y. mentions (class_of (plain p) y) x && not (is_hidden (plain p) t a.held y)) (range_with_len n k)))
          ≡ true
      small_controlled none n zero below = refl
      small_controlled none n (suc k) below =
          by_test (small_controlled none (n + 1) k (omega (arith, below))) (mentions (class_of (plain p) n) x) (is_hidden (plain p) t a.held n) refl refl
        where
          rest : List ℕ
          rest = filter (λ y. mentions (class_of (plain p) y) x && not (is_hidden (plain p) t a.held y)) (range_with_len (n + 1) k)

          inside : n < length p.vars
          inside = omega (arith, below)

          not_large : mentions (class_of (plain p) n) x ≡ true → is_hidden (plain p) t a.held n ≡ false → is_small (tree.subst (class_of (plain p) n) x e) ≡ true
          not_large mentioned shown =
              let at : 0 + n ≡ n = omega arith in
              let marked : has (hidden (plain p) t a.held) n ≡ false = table_at (length p.vars) (is_hidden (plain p) t a.held) n inside ∙ shown in
              let free = ap (λ m. not (has (hidden (plain p) t a.held) m) && is_large_with x e (class_of (plain p) n)) (sym at) ∙ none.each n inside in
              let small = sym (ap (λ b. not b && is_large_with x e (class_of (plain p) n)) marked) ∙ free in
              small_with x e (class_of (plain p) n) (classes n) (mentions (class_of (plain p) n) x) refl small

          by_test : list_all is_small_entailment (map (controlled_follows (plain p) t a x e) rest) ≡ true → (b c : Bool) → mentions (class_of (plain p) n) x ≡ b
              → is_hidden (plain p) t a.held n ≡ c
              → list_all is_small_entailment (map (controlled_follows (plain p) t a x e) (cond (b && not c) (n ∷ rest) rest)) ≡ true
          by_test later true false mentioned shown =
              and_from (is_small_entailment (controlled_follows (plain p) t a x e n)) (list_all is_small_entailment (map (controlled_follows (plain p) t a x e) rest))
              (small_entailment a.preds (tree.subst (class_of (plain p) n) x e) (ty_var (plain p) t a n) preds (not_large mentioned shown) (small_ty_var n)) later
          by_test later true true mentioned shown = later
          by_test later false c mentioned shown = later

      small_all : NoClass (hidden (plain p) t a.held) x e 0 p.vars → list_all (λ r. not (is_large_with x e r.1)) retypes ≡ true
          → list_all is_small_entailment (assign_entailments (plain p) t a x e q retypes) ≡ true
      small_all none no_retype =
          let w = written_type (plain p) t a e q in
          let s = shown_value (plain p) t a x (value_type (plain p) t a q e) in
          let c = controlled_values (plain p) t a x e in
          let r = map (retype_follows (plain p) t a x e) retypes in
          let controlled = small_controlled none 0 (length p.vars) (omega arith) in
          both (w ++ s ++ c) r (both (w ++ s) c (both w s (small_written q stated) small_shown) (by_control (is_control (plain p) x) controlled)) (small_retyped retypes small_retypes no_retype)
        where
          both : (fs gs : List Entailment) → list_all is_small_entailment fs ≡ true → list_all is_small_entailment gs ≡ true → list_all is_small_entailment (fs ++ gs) ≡ true
          both fs gs h k = list_all-append is_small_entailment fs gs ∙ and_from (list_all is_small_entailment fs) (list_all is_small_entailment gs) h k

          by_control : (b : Bool) → list_all is_small_entailment (map (controlled_follows (plain p) t a x e) (shown_controlled (plain p) t a x)) ≡ true
              → list_all is_small_entailment (if b then map (controlled_follows (plain p) t a x e) (shown_controlled (plain p) t a x) else []) ≡ true
          by_control true h = h
          by_control false h = refl

-- The line -----------------------------------------------------------------------------------------------------

module _ (p : Program) (bytes : List ℕ) (t : ℕ) (steps : List Step) (a : Point) (so_far : IsSmallSoFar p steps a) where
  -- an output, where no step makes anything too large
  output_value : (e : Term) → last_made steps ≡ None
      → (list_all is_small_entailment (guard_follows (plain p) t a e ∷ []) && list_all has_small_types (a ∷ [])) ≡ false
      → (b : Bool) → is_small (ty (plain p) t a e) ≡ b → IsOfValue p t a e (made_or bytes (last_made steps) value_text)
  output_value e none broken false is = record { large = is; told = ap (λ m. made_or bytes m value_text) none }
  output_value e none broken true is =
      let asked = and_from (list_all is_small a.preds) (is_small (ty (plain p) t a e)) (so_far.preds none) is in
      absurd (true≢false
      (sym (and_from (list_all is_small_entailment (guard_follows (plain p) t a e ∷ [])) (list_all has_small_types (a ∷ []))
      (and_from (is_small_entailment (guard_follows (plain p) t a e)) true asked refl) (and_from (has_small_types a) true so_far.types refl))
      ∙ broken))

  pub output_told : (e : Term) → (list_all is_small_entailment (guard_follows (plain p) t a e ∷ []) && list_all has_small_types (a ∷ [])) ≡ false
      → IsOfMade bytes steps (made_or bytes (last_made steps) value_text) ⊎ IsOfValue p t a e (made_or bytes (last_made steps) value_text)
  output_told e broken = by_steps (made_found steps)
    where
      by_steps : (last_made steps ≡ None) ⊎ FoundMade steps
          → IsOfMade bytes steps (made_or bytes (last_made steps) value_text) ⊎ IsOfValue p t a e (made_or bytes (last_made steps) value_text)
      by_steps (inr f) = inl (made_told bytes steps value_text f)
      by_steps (inl none) = inr (output_value e none broken (is_small (ty (plain p) t a e)) refl)

  module _ (x : ℕ) (e : Term) (q : Option Term) (retypes : List (ℕ × Term)) (stated : list_all is_small (with_written q (type_terms retypes)) ≡ true)
      (broken : (list_all is_small_entailment (assign_entailments (plain p) t a x e q retypes)
      && list_all has_small_types (after_assign (plain p) t a x e (value_type (plain p) t a q e) retypes ∷ [])) ≡ false) where
    abbrev line : (class retype : Option ℕ) → List ℕ
    line class retype = assigned_or (variable_names p.vars) x class retype (made_or bytes (last_made steps) value_text)

    abbrev the_class : Option ℕ
    the_class = large_class (hidden (plain p) t a.held) x e 0 p.vars

    abbrev the_retype : Option ℕ
    the_retype = large_retype x e retypes

    of_class : (retype : Option ℕ) → FoundClass (hidden (plain p) t a.held) x e 0 p.vars → IsOfClass p t a e x (line the_class retype)
    of_class retype f =
        let at : 0 + f.i ≡ f.i = omega arith in
        let parts = and_parts (not (has (hidden (plain p) t a.held) (0 + f.i))) (is_large_with x e (class_of (plain p) f.i)) f.holds in
        let both = and_parts (mentions (class_of (plain p) f.i) x) (is_large (tree.subst (class_of (plain p) f.i) x e)) parts.1 in
        record {
          y = f.i;
          declared = f.inside;
          shown =
              sym (table_at (length p.vars) (is_hidden (plain p) t a.held) f.i f.inside) ∙ ap (has (hidden (plain p) t a.held)) (sym at)
              ∙ not_true (has (hidden (plain p) t a.held) (0 + f.i)) parts.0;
          control = control_of (plain p) f.i x both.0;
          mentioned = both.0;
          large = large_is (tree.subst (class_of (plain p) f.i) x e) both.1;
          told = ap (λ o. line o retype) (f.is ∙ ap (λ m. Some m) at);
        }
      where
        not_true : (b : Bool) → not b ≡ true → b ≡ false
        not_true false h = refl
        not_true true h = absurd (true≢false (sym h))

    of_retype : the_class ≡ None → FoundRetype (hidden (plain p) t a.held) x e retypes → IsOfRetype p t a e x retypes (line the_class the_retype)
    of_retype none f = record {
      before = f.before;
      r = f.r;
      after = f.after;
      is = f.split;
      large = large_is (tree.subst f.r.1 x e) (and_parts (mentions f.r.1 x) (is_large (tree.subst f.r.1 x e)) f.holds).1;
      told = ap (λ o. line o the_retype) none ∙ ap (λ o. line None o) f.is;
    }

    of_value : NoClass (hidden (plain p) t a.held) x e 0 p.vars → NoRetype (hidden (plain p) t a.held) x e retypes → last_made steps ≡ None
        → (b : Bool) → is_small (ty (plain p) t a e) ≡ b → IsOfValue p t a e (made_or bytes (last_made steps) value_text)
    of_value no_class no_retype none false is = record { large = is; told = ap (λ m. made_or bytes m value_text) none }
    of_value no_class no_retype none true is =
        let entailments = small_all p t a so_far.classes so_far.types x e q retypes stated is (so_far.preds none) no_class no_retype.each in
        let after = small_after p t a so_far.classes so_far.types x e q retypes stated is in
        let point = after_assign (plain p) t a x e (value_type (plain p) t a q e) retypes in
        absurd (true≢false
        (sym (and_from (list_all is_small_entailment (assign_entailments (plain p) t a x e q retypes)) (list_all has_small_types (point ∷ [])) entailments
        (and_from (has_small_types point) true after refl))
        ∙ broken))

    by_steps : NoClass (hidden (plain p) t a.held) x e 0 p.vars → NoRetype (hidden (plain p) t a.held) x e retypes → (last_made steps ≡ None) ⊎ FoundMade steps
        → IsOfMade bytes steps (made_or bytes (last_made steps) value_text) ⊎ IsOfValue p t a e (made_or bytes (last_made steps) value_text)
    by_steps no_class no_retype (inr f) = inl (made_told bytes steps value_text f)
    by_steps no_class no_retype (inl none) = inr (of_value no_class no_retype none (is_small (ty (plain p) t a e)) refl)

    by_retypes : NoClass (hidden (plain p) t a.held) x e 0 p.vars → NoRetype (hidden (plain p) t a.held) x e retypes ⊎ FoundRetype (hidden (plain p) t a.held) x e retypes
        → TellsOfLarge p t a e x bytes steps retypes (line the_class the_retype)
    by_retypes no_class (inr f) = inr (inl (of_retype no_class.none f))
    by_retypes no_class (inl no_retype) =
        let same : line the_class the_retype ≡ made_or bytes (last_made steps) value_text = ap (λ o. line o the_retype) no_class.none ∙ ap (λ o. line None o) no_retype.none in
        subst (TellsOfLarge p t a e x bytes steps retypes) (sym same) (inr (inr (by_steps no_class no_retype (made_found steps))))

    by_classes : NoClass (hidden (plain p) t a.held) x e 0 p.vars ⊎ FoundClass (hidden (plain p) t a.held) x e 0 p.vars
        → TellsOfLarge p t a e x bytes steps retypes (line the_class the_retype)
    by_classes (inr f) = inl (of_class the_retype f)
    by_classes (inl no_class) = by_retypes no_class (retype_found (hidden (plain p) t a.held) x e retypes)

    pub assigned_told : TellsOfLarge p t a e x bytes steps retypes (line the_class the_retype)
    assigned_told = by_classes (class_found (hidden (plain p) t a.held) x e 0 p.vars)
