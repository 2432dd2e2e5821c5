-- Laws of lists of obligations: the first false one of parts, of lists without repeats, and at a step of a loop.
use Rattle.std.proofs.Common.{◌≡◌, ℕ, ◌+◌, ◌<◌, ◌==◌, List, [], ◌∷◌, ◌++◌, Bool, true, false, ◌&&◌, IsTrue, length, map, get_or, drop, refl, sym, ap, ◌∙◌, Option, Some, None, Result, Ok, Err, inl, inr, cond, append_assoc, subst}
use Rattle.std.specs.List.{flat_map}
use Rattle.std.specs.Option.{option_or}
use Rattle.std.proofs.lemmas.List.{append-nil, at_drop_more}
use Rattle.std.proofs.lemmas.List.Concat.{flat_map-append, flat_map_single}
use Rattle.std.proofs.lemmas.Bool.{and_parts, eqb-true, or_cases}
use Rattle.std.proofs.lemmas.List.Folds.{list_all-append}
use Rattle.cov_expr.specs.Term.{Term, const, var, neg, bin}
use Rattle.cov_expr.specs.Trees.{add_new, has_number, occurrences, vars}
use Rattle.cov_expr.specs.Words.{HasVarsBelow}
use Rattle.cov_ast.specs.Tables.{table, has, first_outside}
use Rattle.cov_ast.specs.Obligations.{Obligation, all_hold, first_false, Decides, distinct}
use Rattle.cov_ast.specs.declared.refusal.CheckFault.{CheckFault}
use Rattle.cov_ast.specs.declared.refusal.CheckFault.TheVariants.{Refused, NoMemory}
use Rattle.cov_ast.specs.declared.refusal.Refusal.{Refusal}
use Rattle.cov_ast.proofs.TableLaws.{table_at}

pub first_false-append : (a b : List Obligation) → first_false (a ++ b) ≡ option_or (first_false a) (first_false b)
first_false-append [] b = refl
first_false-append (e ∷ es) b =
    elim e.holds as (λ h. cond h (first_false (es ++ b)) (Some e.refusal) ≡ option_or (cond h (first_false es) (Some e.refusal)) (first_false b))
    [ true ↦ first_false-append es b | false ↦ refl ]

-- behind obligations that hold
pub append_held : (a b : List Obligation) → first_false a ≡ None → first_false (a ++ b) ≡ first_false b
append_held a b h = first_false-append a b ∙ ap (λ o. option_or o (first_false b)) h

-- Answers ------------------------------------------------------------------------------------------------------

pub same_decided : (a b : List Obligation) (r : Result (Unit {0}) CheckFault) → first_false a ≡ first_false b → Decides a r → Decides b r
same_decided a b (Ok done) e h = sym e ∙ h
same_decided a b (Err (Refused refusal)) e h = sym e ∙ h
same_decided a b (Err NoMemory) e h = tt

-- what refuses a first part refuses the whole
pub append_refused : (a b : List Obligation) (fault : CheckFault) → Decides a (Err fault) → Decides (a ++ b) (Err fault)
append_refused a b (Refused refusal) h = first_false-append a b ∙ ap (λ o. option_or o (first_false b)) h
append_refused a b NoMemory h = tt

-- where a first part holds, the rest decides
pub append_decided : (a b : List Obligation) (r : Result (Unit {0}) CheckFault) → first_false a ≡ None → Decides b r → Decides (a ++ b) r
append_decided a b r e h = same_decided b (a ++ b) r (sym (append_held a b e)) h

-- Loops: F gives the obligations of what is left of a list, g those of its first item, and G those of the rest. The
-- first false one of what is left is that of the whole.
module _ {X : Type 0} (F G : List X → List Obligation) (g whole : List Obligation) (xs : List X) (i : ℕ) (x : X) (inside : i < length xs) (is : x ≡ get_or xs i x)
    (splits : (ys : List X) → F (x ∷ ys) ≡ g ++ G ys) (kept : first_false (F (drop i xs)) ≡ first_false whole) where
  at : F (drop i xs) ≡ g ++ G (drop (i + 1) xs)
  at = at_drop_more F xs i x inside ∙ ap (λ y. F (y ∷ drop (i + 1) xs)) (sym is) ∙ splits (drop (i + 1) xs)

  pub loop_refused : (fault : CheckFault) → Decides g (Err fault) → Decides whole (Err fault)
  loop_refused fault h =
      same_decided (g ++ G (drop (i + 1) xs)) whole (Err fault) (sym (ap first_false at) ∙ kept) (append_refused g (G (drop (i + 1) xs)) fault h)

  pub loop_more : first_false g ≡ None → first_false (G (drop (i + 1) xs)) ≡ first_false whole
  loop_more h = sym (append_held g (G (drop (i + 1) xs)) h) ∙ sym (ap first_false at) ∙ kept

-- Lists without repeats ----------------------------------------------------------------------------------------

module _ (g : ℕ → List Obligation) where
  first_of : List ℕ → Option Refusal
  first_of xs = first_false (flat_map g xs)

  first_of-append : (xs ys : List ℕ) → first_of (xs ++ ys) ≡ option_or (first_of xs) (first_of ys)
  unfolding first_of
  first_of-append xs ys = ap first_false (flat_map-append g xs ys) ∙ first_false-append (flat_map g xs) (flat_map g ys)

  first_of-cons : (x : ℕ) (xs : List ℕ) → first_of (x ∷ xs) ≡ option_or (first_false (g x)) (first_of xs)
  unfolding first_of
  first_of-cons x xs = first_false-append (g x) (flat_map g xs)

  or_none : {A : Type 0} → (o q : Option A) → option_or o q ≡ None → (o ≡ None) × (q ≡ None)
  or_none None q h = (refl, h)
  or_none (Some x) q h = cc

  -- a number whose obligations are among some that hold
  among : (xs : List ℕ) (y : ℕ) → has_number xs y ≡ true → first_of xs ≡ None → first_false (g y) ≡ None
  among [] y h n = cc
  among (x ∷ xs) y h n =
      let parts = or_none (first_false (g x)) (first_of xs) (sym (first_of-cons x xs) ∙ n) in
      elim (or_cases (x == y) (has_number xs y) h) [
        | inl e ↦ ap (λ z. first_false (g z)) (sym (eqb-true x y e)) ∙ parts.0
        | inr e ↦ among xs y e parts.1
      ]

  absorbed : (o p q : Option Refusal) → (o ≡ None → p ≡ None) → option_or o (option_or p q) ≡ option_or o q
  absorbed None p q h = ap (λ z. option_or z q) (h refl)
  absorbed (Some r) p q h = refl

  repeats : (xs : List ℕ) (y : ℕ) (ys : List ℕ) → has_number xs y ≡ true → first_of (xs ++ y ∷ ys) ≡ first_of (xs ++ ys)
  repeats xs y ys h =
      first_of-append xs (y ∷ ys) ∙ ap (option_or (first_of xs)) (first_of-cons y ys)
      ∙ absorbed (first_of xs) (first_false (g y)) (first_of ys) (among xs y h) ∙ sym (first_of-append xs ys)

  added : (xs ys : List ℕ) → first_of (add_new xs ys) ≡ first_of (xs ++ ys)
  added xs [] = ap first_of (sym (append-nil xs))
  added xs (y ∷ ys) = go (λ zs. added zs ys) (has_number xs y) refl
    where
      go : ((zs : List ℕ) → first_of (add_new zs ys) ≡ first_of (zs ++ ys)) → (b : Bool) → has_number xs y ≡ b
          → first_of (add_new (cond b xs (xs ++ y ∷ [])) ys) ≡ first_of (xs ++ y ∷ ys)
      go rest true h = rest xs ∙ sym (repeats xs y ys h)
      go rest false h = rest (xs ++ y ∷ []) ∙ ap first_of (append_assoc xs (y ∷ []) ys)

  -- the first false one is among the first occurrences
  pub distinct_same : (xs : List ℕ) → first_false (flat_map g (distinct xs)) ≡ first_false (flat_map g xs)
  unfolding first_of
  distinct_same xs = added [] xs

pub distinct_map_same : (f : ℕ → Obligation) (xs : List ℕ) → first_false (map f (distinct xs)) ≡ first_false (map f xs)
distinct_map_same f xs =
    ap first_false (sym (flat_map_single f (distinct xs))) ∙ distinct_same (λ x. f x ∷ []) xs ∙ ap first_false (flat_map_single f xs)

-- Variables of an expression -----------------------------------------------------------------------------------

abbrev AreBelow : ℕ → List ℕ → Type 0
AreBelow n [] = Unit {0}
AreBelow n (x ∷ xs) = (x < n) × AreBelow n xs

below-append : (n : ℕ) (xs ys : List ℕ) → AreBelow n xs → AreBelow n ys → AreBelow n (xs ++ ys)
below-append n [] ys h k = k
below-append n (x ∷ xs) ys h k = (h.0, below-append n xs ys h.1 k)

occurrences_below : (e : Term) (n : ℕ) → HasVarsBelow e n → AreBelow n (occurrences e)
occurrences_below (const k) n h = tt
occurrences_below (var x) n h = (h, tt)
occurrences_below (neg e) n h = occurrences_below e n h
occurrences_below (bin op a b) n h = below-append n (occurrences a) (occurrences b) (occurrences_below a n h.0) (occurrences_below b n h.1)

-- what is found is a variable of the expression
outside_among : (n : ℕ) (marks : List Bool) (xs : List ℕ) (y : ℕ) → AreBelow n xs → first_outside marks xs ≡ Some y → y < n
outside_among n marks [] y h e = cc
outside_among n marks (x ∷ xs) y h e = go (λ k. outside_among n marks xs y h.1 k) (has marks x) e
  where
    go : (first_outside marks xs ≡ Some y → y < n) → (b : Bool) → cond b (first_outside marks xs) (Some x) ≡ Some y → y < n
    go rest true e = rest e
    go rest false e = let at : x ≡ y = cc in subst (λ z. z < n) at h.0

pub outside_below : (n : ℕ) (marks : List Bool) (e : Term) (y : ℕ) → HasVarsBelow e n → Some y ≡ first_outside marks (occurrences e) → y < n
outside_below n marks e y h found = outside_among n marks (occurrences e) y (occurrences_below e n h) (sym found)

-- the refusal, if any, of the first that is found
abbrev pub refused_at : (ℕ → Refusal) → Option ℕ → Option Refusal
refused_at r None = None
refused_at r (Some x) = Some (r x)

module _ (marks : List Bool) (r : ℕ → Refusal) where
  marked_in : (xs : List ℕ) → first_false (map (λ x. record { refusal = r x; holds = has marks x }) xs) ≡ refused_at r (first_outside marks xs)
  marked_in [] = refl
  marked_in (x ∷ xs) =
      elim (has marks x) as (λ b. cond b (first_false (map (λ x. record { refusal = r x; holds = has marks x }) xs)) (Some (r x)) ≡ refused_at r (cond b (first_outside marks xs) (Some x)))
      [ true ↦ marked_in xs | false ↦ refl ]

  -- the obligations that the variables of an expression are in a set, against the first occurrence outside it
  pub marked_found : (e seen : Term) → e ≡ seen
      → first_false (map (λ x. record { refusal = r x; holds = has marks x }) (vars e)) ≡ refused_at r (first_outside marks (occurrences seen))
  marked_found e seen same =
      distinct_map_same (λ x. record { refusal = r x; holds = has marks x }) (occurrences e) ∙ marked_in (occurrences e)
      ∙ ap (λ t. refused_at r (first_outside marks (occurrences t))) same

module _ (n : ℕ) (test : ℕ → Bool) (r : ℕ → Refusal) where
  obligation : ℕ → Obligation
  obligation x = record { refusal = r x; holds = test x }

  found_in : (xs : List ℕ) → AreBelow n xs → first_false (map obligation xs) ≡ refused_at r (first_outside (table n test) xs)
  unfolding obligation
  found_in [] h = refl
  found_in (x ∷ xs) h =
      ap (λ b. cond b (first_false (map obligation xs)) (Some (r x))) (sym (table_at n test x h.0)) ∙ go (found_in xs h.1) (has (table n test) x)
    where
      go : first_false (map obligation xs) ≡ refused_at r (first_outside (table n test) xs) → (b : Bool)
          → cond b (first_false (map obligation xs)) (Some (r x)) ≡ refused_at r (cond b (first_outside (table n test) xs) (Some x))
      go rest true = rest
      go rest false = refl

  -- the obligations of the variables of an expression, against the first occurrence outside a set
  pub vars_found : (e : Term) → HasVarsBelow e n
      → first_false (map (λ x. record { refusal = r x; holds = test x }) (vars e)) ≡ refused_at r (first_outside (table n test) (occurrences e))
  unfolding obligation
  vars_found e h = distinct_map_same obligation (occurrences e) ∙ found_in (occurrences e) (occurrences_below e n h)

  module _ (marks : List Bool) (made : marks ≡ table n test) (e seen : Term) (same : e ≡ seen) (below : HasVarsBelow e n) where
    found_seen : first_false (map (λ x. record { refusal = r x; holds = test x }) (vars e)) ≡ refused_at r (first_outside marks (occurrences seen))
    found_seen = vars_found e below ∙ (λ i. refused_at r (first_outside (sym made i) (occurrences (same i))))

    -- no variable is outside the set
    pub vars_held : None ≡ first_outside marks (occurrences seen) → first_false (map (λ x. record { refusal = r x; holds = test x }) (vars e)) ≡ None
    vars_held none = found_seen ∙ sym (ap (refused_at r) none)

    -- the first that is outside
    pub vars_refused : (c : ℕ) → Some c ≡ first_outside marks (occurrences seen) → first_false (map (λ x. record { refusal = r x; holds = test x }) (vars e)) ≡ Some (r c)
    vars_refused c some = found_seen ∙ sym (ap (refused_at r) some)

    pub outside_in_range : (c : ℕ) → Some c ≡ first_outside marks (occurrences seen) → c < n
    outside_in_range c some = outside_below n marks e c below (some ∙ ap (λ t. first_outside marks (occurrences t)) (sym same))

-- All obligations ----------------------------------------------------------------------------------------------

pub none_refused : (es : List Obligation) → first_false es ≡ None → IsTrue (all_hold es)
none_refused [] h = refl
none_refused (e ∷ es) h = go (none_refused es) e.holds h
  where
    go : (first_false es ≡ None → IsTrue (all_hold es)) → (b : Bool) → cond b (first_false es) (Some e.refusal) ≡ None → IsTrue (b && all_hold es)
    go rest true h = rest h
    go rest false h = cc

pub both_hold : (a b : List Obligation) → IsTrue (all_hold (a ++ b)) → IsTrue (all_hold a) × IsTrue (all_hold b)
both_hold a b h = and_parts (all_hold a) (all_hold b) (sym (list_all-append (λ e. e.holds) a b) ∙ h)
