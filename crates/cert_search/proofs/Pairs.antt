-- Two facts that hypotheses give: where neither makes a leaf valid alone, both do so only where one has to do with the other.
use Rattle.std.proofs.Common.{◌≡◌, ℕ, zero, suc, ◌==◌, ◌+◌, ◌-◌, ◌<◌, ◌≤◌, length, map, get_or, List, [], ◌∷◌, ◌++◌, take, drop, slice_get, Bool, true, false, not, ◌&&◌, ◌||◌, Option, Some, None, option_map, is_some, refl, sym, ◌∙◌, ap, subst, arith, inl, inr}
use Rattle.std.specs.List.{list_any, list_all}
use Rattle.std.proofs.lemmas.Bool.{or_parts, and_cases, and_right}
use Rattle.std.proofs.lemmas.List.{take-append-drop, drop-map, take_all, length-drop}
use Rattle.std.proofs.lemmas.Option.{slice_get-map, slice_get_read}
use Rattle.std.proofs.lemmas.List.Folds.{list_any-append}
use Rattle.cov_expr.specs.declared.expr.Op.TheVariants.{Eq}
use Rattle.cov_expr.specs.Term.{Term, const, var, neg, bin}
use Rattle.cov_expr.specs.Trees.{conjuncts, mentions}
use Rattle.cov_expr.specs.Words.{HasWords}
use Rattle.cov_ast.specs.Syntax.{Cert}
use Rattle.cov_ast.specs.Syntax as by
use Rattle.entail_range.specs.declared.interval.Bound.{Bound}
use Rattle.entail_range.specs.declared.interval.Bound.TheVariants.{Within}
use Rattle.entail_range.specs.Inside.Index.{IsFit}
use Rattle.entail_range.specs.Intervals.{all, combined, negated as flipped}
use Rattle.entail_range.specs.Range.{limited, bound, range_valid}
use Rattle.entail_range.proofs.Sound.{limited_append}
use Rattle.entail_cert.specs.Valid.{is_true, is_false, is_known, is_all_known, is_plain, is_range, is_ring, is_reflexive, operands}
use Rattle.entail_cert.specs.WordTests.{is_of_words}
use Rattle.entail_cert.proofs.Truth.{words_of}
use Rattle.cert_search.specs.Inside.Relevance.{is_bound, is_compared, touches, denies, are_opposite, interact}
use Rattle.entail_cert.specs.Axioms.{numbered}
use Rattle.cert_search.specs.Classes.{is_within, opened, definition_in, is_in_class}
use Rattle.cert_search.specs.Inside.Replaced.{replaced}
use Rattle.cert_search.specs.Searching.{only_where, leaf_where, contradiction, leaf, is_sound_template, by_lemma, step, search}
use Rattle.cert_search.proofs.Choices.{none_some, first_none}
use Rattle.cert_search.proofs.Complete.{lemma_found, search_complete}
use Rattle.cert_search.proofs.Irrelevant.{or_false, false_of_both, limited_by_none, fit_limited, fit_combined, fit_negated, fit_bound, not_compared, range_irrelevant, all_irrelevant, conflict, contradiction_flag, any_false, where_none, none_flag, flag_none, any_swapped}

module _ (hyps xs ys : List Term) where
  -- Bounds: where the facts in the middle bound nothing
  module _ (none : list_any is_bound xs ≡ false) where
    limited_middle : (e : Term) (b : Bound) → IsFit b → limited ((hyps ++ xs) ++ ys) e b ≡ limited (hyps ++ ys) e b
    limited_middle e b fit =
        limited_append (hyps ++ xs) ys e b
        ∙ ap (λ b. limited ys e b) (limited_append hyps xs e b ∙ limited_by_none xs e (limited hyps e b) none (fit_limited hyps e b fit))
        ∙ sym (limited_append hyps ys e b)

    bound_middle : (e : Term) → HasWords e → bound ((hyps ++ xs) ++ ys) e ≡ bound (hyps ++ ys) e
    bound_middle (const k) w = limited_middle (const k) (Within k k) (omega arith, omega arith)
    bound_middle (var x) w = limited_middle (var x) all (omega arith, omega arith)
    bound_middle (neg a) w = rw (bound_middle a w) (limited_middle (neg a) (flipped (bound (hyps ++ ys) a)) (fit_negated (bound (hyps ++ ys) a)))
    bound_middle (bin op a b) w =
        rw (bound_middle a w.0, bound_middle b w.1)
        (limited_middle (bin op a b) (combined op (bound (hyps ++ ys) a) (bound (hyps ++ ys) b))
        (fit_combined op (bound (hyps ++ ys) a) (bound (hyps ++ ys) b) (fit_bound (hyps ++ ys) a w.0) (fit_bound (hyps ++ ys) b w.1)))

    range_middle : (goal : Term) → HasWords goal → range_valid ((hyps ++ xs) ++ ys) goal ≡ range_valid (hyps ++ ys) goal
    range_middle (const k) w = refl
    range_middle (var x) w = refl
    range_middle (neg a) w = refl
    range_middle (bin op a b) w = rw (bound_middle a w.0, bound_middle b w.1) refl

  -- Known conjuncts: where the facts in the middle have none of the goal's
  known_middle : (e : Term) → is_known xs e ≡ false → is_known ((hyps ++ xs) ++ ys) e ≡ is_known (hyps ++ ys) e
  known_middle e h =
      list_any-append _ (hyps ++ xs) ys
      ∙ ap (λ b. b || is_known ys e) (list_any-append _ hyps xs ∙ rw h (or_false (is_known hyps e)))
      ∙ sym (list_any-append _ hyps ys)

  all_middle : (es : List Term) → list_any (is_known xs) es ≡ false
      → list_all (λ e. is_true e || is_known ((hyps ++ xs) ++ ys) e) es ≡ list_all (λ e. is_true e || is_known (hyps ++ ys) e) es
  all_middle [] h = refl
  all_middle (e ∷ es) h =
      let p = or_parts (is_known xs e) (list_any (is_known xs) es) h in
      rw (known_middle e p.0, all_middle es p.1) refl

  plain_pair : (goal : Term) → (touches xs goal && touches ys goal) ≡ false → is_plain (hyps ++ xs) goal ≡ false → is_plain (hyps ++ ys) goal ≡ false
      → is_plain ((hyps ++ xs) ++ ys) goal ≡ false
  plain_pair goal t a b =
      let p = or_parts (list_any is_false (hyps ++ xs)) (is_all_known (hyps ++ xs) goal) a in
      let q = or_parts (list_any is_false (hyps ++ ys)) (is_all_known (hyps ++ ys) goal) b in
      let f = or_parts (list_any is_false hyps) (list_any is_false ys) (sym (list_any-append is_false hyps ys) ∙ q.0) in
      let no_false : list_any is_false ((hyps ++ xs) ++ ys) ≡ false =
      list_any-append is_false (hyps ++ xs) ys ∙ false_of_both (list_any is_false (hyps ++ xs)) (list_any is_false ys) p.0 f.1 in
      let unknown : is_all_known ((hyps ++ xs) ++ ys) goal ≡ false =
      elim (and_cases (touches xs goal) (touches ys goal) t) [
        | inl c ↦ all_middle (conjuncts goal) c ∙ q.1
        | inr c ↦ all_irrelevant (hyps ++ xs) ys (conjuncts goal) c ∙ p.1
      ] in
      false_of_both (list_any is_false ((hyps ++ xs) ++ ys)) (is_all_known ((hyps ++ xs) ++ ys) goal) no_false unknown

  range_pair : (goal : Term) → (is_compared goal && list_any is_bound xs && list_any is_bound ys) ≡ false → is_range (hyps ++ xs) goal ≡ false
      → is_range (hyps ++ ys) goal ≡ false → is_range ((hyps ++ xs) ++ ys) goal ≡ false
  range_pair goal t a b =
      elim (and_cases (is_compared goal && list_any is_bound xs) (list_any is_bound ys) t) [
        | inr c ↦ range_irrelevant (hyps ++ xs) ys goal (and_right (is_compared goal) (list_any is_bound ys) c) a
        | inl c ↦ elim (and_cases (is_compared goal) (list_any is_bound xs) c) [
          | inl d ↦ rw (not_compared ((hyps ++ xs) ++ ys) goal d) refl
          | inr d ↦ at d (is_of_words goal) refl
        ]
      ]
    where
      at : list_any is_bound xs ≡ false → (w : Bool) → is_of_words goal ≡ w → is_range ((hyps ++ xs) ++ ys) goal ≡ false
      at d false i = and_right (range_valid ((hyps ++ xs) ++ ys) goal) (is_of_words goal) i
      at d true i = rw (range_middle d goal (words_of goal i)) b

-- Contradictions
join : (a c hs : List Term) → conflict a hs ≡ false → conflict c hs ≡ false → conflict (a ++ c) hs ≡ false
join a c [] h k = refl
join a c (e ∷ hs) h k =
    let s = or_parts (list_any (denies e) a) (conflict a hs) h in
    let t = or_parts (list_any (denies e) c) (conflict c hs) k in
    false_of_both (list_any (denies e) (a ++ c)) (conflict (a ++ c) hs)
    (list_any-append (denies e) a c ∙ false_of_both (list_any (denies e) a) (list_any (denies e) c) s.0 t.0) (join a c hs s.1 t.1)

parts : (a c hs : List Term) → conflict (a ++ c) hs ≡ false → (conflict a hs ≡ false) × (conflict c hs ≡ false)
parts a c [] h = (refl, refl)
parts a c (e ∷ hs) h =
    let s = or_parts (list_any (denies e) (a ++ c)) (conflict (a ++ c) hs) h in
    let t = or_parts (list_any (denies e) a) (list_any (denies e) c) (sym (list_any-append (denies e) a c) ∙ s.0) in
    let r = parts a c hs s.1 in
    (false_of_both (list_any (denies e) a) (conflict a hs) t.0 r.0, false_of_both (list_any (denies e) c) (conflict c hs) t.1 r.1)

module _ (hyps xs ys : List Term) (first : conflict (hyps ++ xs) (hyps ++ xs) ≡ false) (second : conflict (hyps ++ ys) (hyps ++ ys) ≡ false)
    (apart : list_any (λ y. list_any (are_opposite y) xs) ys ≡ false) where
  of_second : (conflict (hyps ++ ys) hyps ≡ false) × (conflict (hyps ++ ys) ys ≡ false)
  of_second =
      or_parts (conflict (hyps ++ ys) hyps) (conflict (hyps ++ ys) ys) (sym (list_any-append (λ h. list_any (denies h) (hyps ++ ys)) hyps ys) ∙ second)

  xs_of_ys : conflict xs ys ≡ false
  xs_of_ys =
      any_false (λ y. list_any (denies y) xs) (λ y. list_any (are_opposite y) xs) ys
      (λ y. any_false (denies y) (are_opposite y) xs (λ x e. (or_parts (denies y x) (denies x y) e).0)) apart

  ys_of_xs : conflict ys xs ≡ false
  ys_of_xs =
      any_swapped denies xs ys
      (any_false (λ y. list_any (λ x. denies x y) xs) (λ y. list_any (are_opposite y) xs) ys
      (λ y. any_false (λ x. denies x y) (are_opposite y) xs (λ x e. (or_parts (denies y x) (denies x y) e).1)) apart)

  pub conflict_pair : conflict ((hyps ++ xs) ++ ys) ((hyps ++ xs) ++ ys) ≡ false
  conflict_pair =
      let before : conflict ys (hyps ++ xs) ≡ false =
      list_any-append (λ h. list_any (denies h) ys) hyps xs
      ∙ false_of_both (conflict ys hyps) (conflict ys xs) (parts hyps ys hyps of_second.0).1 ys_of_xs in
      let within = parts hyps ys ys of_second.1 in
      list_any-append (λ h. list_any (denies h) ((hyps ++ xs) ++ ys)) (hyps ++ xs) ys
      ∙ false_of_both (conflict ((hyps ++ xs) ++ ys) (hyps ++ xs)) (conflict ((hyps ++ xs) ++ ys) ys)
      (join (hyps ++ xs) ys (hyps ++ xs) first before)
      (join (hyps ++ xs) ys ys (join hyps xs ys within.0 xs_of_ys) within.1)

-- Where no leaf is valid with either of two lists of facts, and these have nothing to do with each other, none is valid with both.
pub leaf_pair : (hyps xs ys : List Term) (goal : Term) → leaf (hyps ++ xs) goal ≡ None → leaf (hyps ++ ys) goal ≡ None → interact xs ys goal ≡ false
    → leaf ((hyps ++ xs) ++ ys) goal ≡ None
leaf_pair hyps xs ys goal h k m =
    let a = first_none (leaf_where (is_plain (hyps ++ xs) goal) by.auto) _ h in
    let b = first_none (leaf_where (is_reflexive (operands Eq goal)) by.reflexive) _ a.1 in
    let c = first_none (leaf_where (is_range (hyps ++ xs) goal) by.range) _ b.1 in
    let d = first_none (leaf_where (is_ring goal) by.ring) (contradiction (hyps ++ xs) 1 (hyps ++ xs)) c.1 in
    let a' = first_none (leaf_where (is_plain (hyps ++ ys) goal) by.auto) _ k in
    let b' = first_none (leaf_where (is_reflexive (operands Eq goal)) by.reflexive) _ a'.1 in
    let c' = first_none (leaf_where (is_range (hyps ++ ys) goal) by.range) _ b'.1 in
    let d' = first_none (leaf_where (is_ring goal) by.ring) (contradiction (hyps ++ ys) 1 (hyps ++ ys)) c'.1 in
    let p = or_parts ((touches xs goal && touches ys goal) || (is_compared goal && list_any is_bound xs && list_any is_bound ys)) (list_any (λ y. list_any (are_opposite y) xs) ys) m in
    let q = or_parts (touches xs goal && touches ys goal) (is_compared goal && list_any is_bound xs && list_any is_bound ys) p.0 in
    let plain = plain_pair hyps xs ys goal q.0 (where_none (is_plain (hyps ++ xs) goal) by.auto a.0) (where_none (is_plain (hyps ++ ys) goal) by.auto a'.0) in
    let range = range_pair hyps xs ys goal q.1 (where_none (is_range (hyps ++ xs) goal) by.range c.0) (where_none (is_range (hyps ++ ys) goal) by.range c'.0) in
    let reflexive = where_none (is_reflexive (operands Eq goal)) by.reflexive b.0 in
    let ring = where_none (is_ring goal) by.ring d.0 in
    let free = sym (contradiction_flag (hyps ++ xs) 1 (hyps ++ xs)) ∙ none_flag (contradiction (hyps ++ xs) 1 (hyps ++ xs)) d.1 in
    let free' = sym (contradiction_flag (hyps ++ ys) 1 (hyps ++ ys)) ∙ none_flag (contradiction (hyps ++ ys) 1 (hyps ++ ys)) d'.1 in
    let last : contradiction ((hyps ++ xs) ++ ys) 1 ((hyps ++ xs) ++ ys) ≡ None =
    flag_none (contradiction ((hyps ++ xs) ++ ys) 1 ((hyps ++ xs) ++ ys))
    (contradiction_flag ((hyps ++ xs) ++ ys) 1 ((hyps ++ xs) ++ ys) ∙ conflict_pair hyps xs ys free free' p.1) in
    rw (plain, reflexive, range, ring) last

kept_false : (a b : Bool) → (a && b) ≡ false → (a && (b || false)) ≡ false
kept_false true b h = or_false b ∙ h
kept_false false b h = h

pub replaced_apart : (xs : List Term) (f goal : Term) (a b c d e g : Bool) → a ≡ touches xs goal → b ≡ touches (f ∷ []) goal → c ≡ is_compared goal
    → d ≡ list_any is_bound xs → e ≡ is_bound f → g ≡ list_any (are_opposite f) xs → ((a && b) || (c && d && e) || g) ≡ false → interact xs (f ∷ []) goal ≡ false
replaced_apart xs f goal a b c d e g p q r s t u h =
    let i = or_parts ((a && b) || (c && d && e)) g h in
    let j = or_parts (a && b) (c && d && e) i.0 in
    let k : (touches xs goal && touches (f ∷ []) goal) ≡ false = rw (← p, ← q) j.0 in
    let l : (is_compared goal && list_any is_bound xs && is_bound f) ≡ false = rw (← r, ← s, ← t) j.1 in
    false_of_both ((touches xs goal && touches (f ∷ []) goal) || (is_compared goal && list_any is_bound xs && list_any is_bound (f ∷ [])))
    (list_any (λ y. list_any (are_opposite y) xs) (f ∷ []))
    (false_of_both (touches xs goal && touches (f ∷ []) goal) (is_compared goal && list_any is_bound xs && list_any is_bound (f ∷ [])) k
    (kept_false (is_compared goal && list_any is_bound xs) (is_bound f) l))
    (or_false (list_any (are_opposite f) xs) ∙ (sym u ∙ i.1))

-- Pairs of hypotheses that were tried --------------------------------------------------------------------------

slice_front : (l : List Term) (n k : ℕ) (h : Term) → slice_get l k ≡ Some h → k < n → slice_get (take n l) k ≡ Some h
slice_front [] n k h e b = none_some (slice_get (take n []) k ≡ Some h) h e
slice_front (y ∷ l) zero k h e b = absurd (omega arith)
slice_front (y ∷ l) (suc n) zero h e b = e
slice_front (y ∷ l) (suc n) (suc k) h e b = slice_front l n k h e (omega arith)

numbered_front : (l : List Term) (n i : ℕ) (h : Term) → numbered l i ≡ Some h → i ≤ n → numbered (take n l) i ≡ Some h
numbered_front l n zero h e b = e
numbered_front l n (suc k) h e b = slice_front l n k h e (omega arith)

lemma_none : (hyps : List Term) (goal : Term) (i j : ℕ) (g h : Term) (q : ℕ × Term) → search 1 hyps goal ≡ None → numbered hyps i ≡ Some g
    → definition_in (Some g) ≡ Some q → numbered hyps j ≡ Some h → by_lemma (search 0) hyps goal i q.0 q.1 j h ≡ None
lemma_none hyps goal i j g h q s n d m = flag_none (by_lemma (search 0) hyps goal i q.0 q.1 j h) (at (is_some (by_lemma (search 0) hyps goal i q.0 q.1 j h)) refl)
  where
    at : (b : Bool) → is_some (by_lemma (search 0) hyps goal i q.0 q.1 j h) ≡ b → is_some (by_lemma (search 0) hyps goal i q.0 q.1 j h) ≡ false
    at false k = k
    at true k =
        let found : is_some (step (search 0) hyps goal) ≡ true = lemma_found (search 0) (is_in_class 0) (search_complete 0) hyps goal i j g h q n d m k in
        let none : is_some (step (search 0) hyps goal) ≡ false =
        none_flag (step (search 0) hyps goal) (first_none (search 0 hyps goal) (step (search 0) hyps goal) s).1 in
        let c : true ≡ false = sym found ∙ none in
        cc

mapped_none : (f : Cert → Cert) (o : Option Cert) → option_map f o ≡ None → o ≡ None
mapped_none f None h = refl
mapped_none f (Some c) h = none_some (Some c ≡ None) (f c) (sym h)

wheres : (t w : Bool) (f : Cert → Cert) (a b : Option Cert) → only_where t (only_where w (option_map f a)) ≡ None → (a ≡ None → b ≡ None)
    → only_where t (only_where w (option_map f b)) ≡ None
wheres true true f a b h k = rw (k (mapped_none f a h)) refl
wheres true false f a b h k = refl
wheres false w f a b h k = refl

pub pair_apart : (hyps : List Term) (n : ℕ) (goal : Term) (i x : ℕ) (e : Term) (j : ℕ) (h : Term) → leaf hyps goal ≡ None → search 1 (take n hyps) goal ≡ None
    → definition_in (numbered hyps i) ≡ Some (x, e) → numbered hyps j ≡ Some h → i ≤ n → j ≤ n → interact (drop n hyps) (replaced h x e ∷ []) goal ≡ false
    → by_lemma (search 0) hyps goal i x e j h ≡ None
pair_apart hyps n goal i x e j h l s d m p q apart = at (numbered hyps i) refl
  where
    together : leaf (take n hyps ++ replaced h x e ∷ []) goal ≡ None → leaf (hyps ++ replaced h x e ∷ []) goal ≡ None
    together k =
        let all : take n hyps ++ drop n hyps ≡ hyps = take-append-drop n hyps in
        rw all at (leaf_pair (take n hyps) (drop n hyps) (replaced h x e ∷ []) goal (rw all l) k apart)

    at : (o : Option Term) → numbered hyps i ≡ o → by_lemma (search 0) hyps goal i x e j h ≡ None
    at None r = none_some (by_lemma (search 0) hyps goal i x e j h ≡ None) (x, e) (rw r at d)
    at (Some g) r =
        let before : by_lemma (search 0) (take n hyps) goal i x e j h ≡ None =
        lemma_none (take n hyps) goal i j g h (x, e) s (numbered_front hyps n i g r p) (rw r at d) (numbered_front hyps n j h m q) in
        wheres (not (i == j) && mentions h x && is_sound_template (opened h x) x h) (is_within (replaced h x e)) (by.have (replaced h x e) (by.rev i (opened h x) (by.hyp j)))
        (leaf (take n hyps ++ replaced h x e ∷ []) goal) (leaf (hyps ++ replaced h x e ∷ []) goal) before together

pub lemma_at : (d : ℕ) (hyps : List Term) (goal : Term) (i x : ℕ) (e : Term) (j : ℕ) (h : Term) → d ≡ 0 → by_lemma (search 0) hyps goal i x e j h ≡ None
    → by_lemma (search d) hyps goal i x e j h ≡ None
lemma_at d hyps goal i x e j h z n = rw z n

pub pair_lent : {X : Type 0} (f : X → Term) (xs : List X) (n : ℕ) (goal : Term) (i x : ℕ) (e : Term) (j : ℕ) (h : Term) → leaf (map f xs) goal ≡ None
    → (0 < n → search 1 (take n (map f xs)) goal ≡ None) → definition_in (numbered (map f xs) i) ≡ Some (x, e) → numbered (map f xs) j ≡ Some h
    → (0 < n) × ((i ≤ n) × (j ≤ n)) → interact (map f (take (length xs - n) (drop n xs))) (replaced h x e ∷ []) goal ≡ false
    → by_lemma (search 0) (map f xs) goal i x e j h ≡ None
pair_lent f xs n goal i x e j h l s d m old apart =
    let rest : take (length xs - n) (drop n xs) ≡ drop n xs = take_all (length xs - n) (drop n xs) (omega (arith, length-drop n xs)) in
    let k : interact (map f (drop n xs)) (replaced h x e ∷ []) goal ≡ false = (rw rest at apart) in
    pair_apart (map f xs) n goal i x e j h l (s old.0) d m old.1.0 old.1.1 (rw drop-map k)

-- the item at an index has the number behind it
pub numbered_item : {X : Type 0} (f : X → Term) (xs : List X) (i n : ℕ) (x : X) → i < length xs → x ≡ get_or xs i x → n ≡ i + 1 → numbered (map f xs) n ≡ Some (f x)
numbered_item f xs i n x b is e =
    let at : slice_get (map f xs) i ≡ Some (f x) = slice_get-map f xs i ∙ ap (λ o. option_map f o) (slice_get_read xs (length xs) i x refl b is) in
    let k : suc i ≡ n = omega arith in
    subst (λ n. numbered (map f xs) n ≡ Some (f x)) k at
