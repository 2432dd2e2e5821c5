-- Hypotheses more that don't matter make no leaf valid.
use Rattle.std.proofs.Common.{◌≡◌, ℕ, suc, ◌+◌, ◌-◌, ◌*◌, ◌≤◌, nat_le, List, [], ◌∷◌, ◌++◌, take, drop, map, length, Bool, true, false, ◌&&◌, ◌||◌, Option, Some, None, option_map, is_some, refl, sym, ◌∙◌, arith, inl, inr, if◌then◌else◌}
use Rattle.std.specs.List.{list_any, list_all}
use Rattle.std.proofs.lemmas.Bool.{leb-true, or_parts, and_cases, and_right}
use Rattle.std.proofs.lemmas.List.{take-append-drop, drop-map, take_all, length-drop}
use Rattle.std.proofs.lemmas.List.Folds.{list_any-append}
use Rattle.std.proofs.Math.Nat.{mul-le-mul}
use Rattle.cov_expr.specs.declared.expr.Op.{Op}
use Rattle.cov_expr.specs.declared.expr.Op.TheVariants.{Add, Sub, Mul, And, Or, Xor, Eq, Ne, Lt, Le, Both, Either}
use Rattle.cov_expr.specs.Term.{Term, const, var, neg, bin}
use Rattle.cov_expr.specs.Trees.{same, conjuncts}
use Rattle.cov_expr.specs.Words.{HasWords}
use Rattle.entail_range.specs.declared.interval.Bound.{Bound}
use Rattle.entail_range.specs.declared.interval.Bound.TheVariants.{Empty, Within}
use Rattle.entail_range.specs.Inside.Index.{IsFit}
use Rattle.entail_range.specs.Intervals.{all, cut, combined, combined_within, negated as flipped, greatest}
use Rattle.entail_range.specs.Range.{number_beside, compared, given, limited, bound, range_valid}
use Rattle.entail_range.proofs.Buckets.{fit_cut, cut_all}
use Rattle.entail_range.proofs.Sound.{limited_append}
use Rattle.cov_expr.proofs.Trees.{same_is, same_refl}
use Rattle.cov_ast.specs.Syntax.{Cert}
use Rattle.cov_ast.specs.Syntax as by
use Rattle.entail_cert.specs.Valid.{is_true, is_false, is_known, is_all_known, is_plain, is_range, is_ring, is_reflexive, operands, negated}
use Rattle.entail_cert.specs.WordTests.{is_of_words}
use Rattle.entail_cert.proofs.Truth.{words_of}
use Rattle.cert_search.specs.Searching.{first_of, leaf_where, number_of, denied_by, contradiction, leaf}
use Rattle.cert_search.proofs.Choices.{none_some, first_none}
use Rattle.cert_search.specs.Inside.Relevance.{is_bounding, is_number, is_bound, is_compared, touches, denies, are_opposite, is_opposed, matters}

pub touches_both : (more : List Term) (a b : Term) → touches more (bin Both a b) ≡ (touches more a || touches more b)
touches_both more a b = list_any-append (is_known more) (conjuncts a) (conjuncts b)

pub or_false : (b : Bool) → (b || false) ≡ b
or_false true = refl
or_false false = refl

pub false_of_both : (a b : Bool) → a ≡ false → b ≡ false → (a || b) ≡ false
false_of_both true b h k = h
false_of_both false b h k = k

-- Bounds -------------------------------------------------------------------------------------------------------

unbounded : (side other e : Term) → is_number other ≡ false → number_beside side other e ≡ None
unbounded side (const k) e h = let c : true ≡ false = h in cc
unbounded side (var x) e h = refl
unbounded side (neg a) e h = refl
unbounded side (bin op a b) e h = refl

given_all : (h e : Term) → is_bound h ≡ false → given h e ≡ all
given_all (const k) e i = refl
given_all (var x) e i = refl
given_all (neg a) e i = refl
given_all (bin op a b) e i = at op i
  where
    neither : (is_number a || is_number b) ≡ false → (number_beside a b e ≡ None) × (number_beside b a e ≡ None)
    neither i = let p = or_parts (is_number a) (is_number b) i in (unbounded a b e p.1, unbounded b a e p.0)

    at : (o : Op) → (is_bounding o && (is_number a || is_number b)) ≡ false → compared o a b e ≡ all
    at Le i = let n = neither i in rw (n.0, n.1) refl
    at Lt i = let n = neither i in rw (n.0, n.1) refl
    at Eq i = let n = neither i in rw n.0 refl
    at Add i = refl
    at Sub i = refl
    at Mul i = refl
    at And i = refl
    at Or i = refl
    at Xor i = refl
    at Ne i = refl
    at Both i = refl
    at Either i = refl

pub limited_by_none : (more : List Term) (e : Term) (b : Bound) → list_any is_bound more ≡ false → IsFit b → limited more e b ≡ b
limited_by_none [] e b i fit = refl
limited_by_none (h ∷ more) e b i fit =
    let p = or_parts (is_bound h) (list_any is_bound more) i in
    let c : cut b (given h e) ≡ b = rw (given_all h e p.0) (cut_all b fit) in
    rw c (limited_by_none more e b p.1 fit)

pub fit_limited : (hyps : List Term) (e : Term) (b : Bound) → IsFit b → IsFit (limited hyps e b)
fit_limited [] e b h = h
fit_limited (g ∷ hyps) e b h = fit_limited hyps e (cut b (given g e)) (fit_cut b (given g e) h)

fit_if : (t : Bool) (b : Bound) → (t ≡ true → IsFit b) → IsFit (if t then b else all)
fit_if true b h = h refl
fit_if false b h = (omega arith, omega arith)

fit_within : (op : Op) (la ha lb hb : ℕ) → la ≤ ha → ha ≤ 4294967295 → lb ≤ hb → hb ≤ 4294967295 → IsFit (combined_within op la ha lb hb)
fit_within Add la ha lb hb p q r s =
    fit_if (nat_le (ha + hb) greatest) (Within (la + lb) (ha + hb)) (λ t. (omega arith, leb-true (ha + hb) greatest t))
fit_within Sub la ha lb hb p q r s = fit_if (nat_le hb la) (Within (la - hb) (ha - lb)) (λ t. (omega arith, omega arith))
fit_within Mul la ha lb hb p q r s =
    fit_if (nat_le (ha * hb) greatest) (Within (la * lb) (ha * hb)) (λ t. (mul-le-mul p r, leb-true (ha * hb) greatest t))
fit_within And la ha lb hb p q r s = (omega arith, omega arith)
fit_within Or la ha lb hb p q r s = (omega arith, omega arith)
fit_within Xor la ha lb hb p q r s = (omega arith, omega arith)
fit_within Eq la ha lb hb p q r s = (omega arith, omega arith)
fit_within Ne la ha lb hb p q r s = (omega arith, omega arith)
fit_within Lt la ha lb hb p q r s = (omega arith, omega arith)
fit_within Le la ha lb hb p q r s = (omega arith, omega arith)
fit_within Both la ha lb hb p q r s = (omega arith, omega arith)
fit_within Either la ha lb hb p q r s = (omega arith, omega arith)

pub fit_combined : (op : Op) (b c : Bound) → IsFit b → IsFit c → IsFit (combined op b c)
fit_combined op Empty c h k = (tt, tt)
fit_combined op (Within la ha) Empty h k = (tt, tt)
fit_combined op (Within la ha) (Within lb hb) h k = fit_within op la ha lb hb h.0 h.1 k.0 k.1

pub fit_negated : (b : Bound) → IsFit (flipped b)
fit_negated Empty = (tt, tt)
fit_negated (Within low high) = (omega arith, omega arith)

pub fit_bound : (hyps : List Term) (e : Term) → HasWords e → IsFit (bound hyps e)
fit_bound hyps (const k) w = fit_limited hyps (const k) (Within k k) (omega arith, omega arith)
fit_bound hyps (var x) w = fit_limited hyps (var x) all (omega arith, omega arith)
fit_bound hyps (neg a) w = fit_limited hyps (neg a) (flipped (bound hyps a)) (fit_negated (bound hyps a))
fit_bound hyps (bin op a b) w =
    fit_limited hyps (bin op a b) (combined op (bound hyps a) (bound hyps b))
    (fit_combined op (bound hyps a) (bound hyps b) (fit_bound hyps a w.0) (fit_bound hyps b w.1))

module _ (first more : List Term) (none : list_any is_bound more ≡ false) where
  limited_same : (e : Term) (b : Bound) → IsFit b → limited (first ++ more) e b ≡ limited first e b
  limited_same e b fit = limited_append first more e b ∙ limited_by_none more e (limited first e b) none (fit_limited first e b fit)

  bound_same : (e : Term) → HasWords e → bound (first ++ more) e ≡ bound first e
  bound_same (const k) w = limited_same (const k) (Within k k) (omega arith, omega arith)
  bound_same (var x) w = limited_same (var x) all (omega arith, omega arith)
  bound_same (neg a) w = rw (bound_same a w) (limited_same (neg a) (flipped (bound first a)) (fit_negated (bound first a)))
  bound_same (bin op a b) w =
      rw (bound_same a w.0, bound_same b w.1)
      (limited_same (bin op a b) (combined op (bound first a) (bound first b))
      (fit_combined op (bound first a) (bound first b) (fit_bound first a w.0) (fit_bound first b w.1)))

  range_same : (goal : Term) → HasWords goal → range_valid (first ++ more) goal ≡ range_valid first goal
  range_same (const k) w = refl
  range_same (var x) w = refl
  range_same (neg a) w = refl
  range_same (bin op a b) w = rw (bound_same a w.0, bound_same b w.1) refl

pub not_compared : (hyps : List Term) (goal : Term) → is_compared goal ≡ false → range_valid hyps goal ≡ false
not_compared hyps (const k) h = refl
not_compared hyps (var x) h = refl
not_compared hyps (neg a) h = refl
not_compared hyps (bin op a b) h = rw h refl

pub range_irrelevant : (first more : List Term) (goal : Term) → (is_compared goal && list_any is_bound more) ≡ false → is_range first goal ≡ false
    → is_range (first ++ more) goal ≡ false
range_irrelevant first more goal m none = at (is_of_words goal) refl
  where
    at : (b : Bool) → is_of_words goal ≡ b → is_range (first ++ more) goal ≡ false
    at false i = and_right (range_valid (first ++ more) goal) (is_of_words goal) i
    at true i =
        elim (and_cases (is_compared goal) (list_any is_bound more) m) [
          | inl c ↦ rw (not_compared (first ++ more) goal c) refl
          | inr c ↦ rw (range_same first more c goal (words_of goal i)) none
        ]

-- Known conjuncts ----------------------------------------------------------------------------------------------

pub all_irrelevant : (first more es : List Term) → list_any (is_known more) es ≡ false
    → list_all (λ e. is_true e || is_known (first ++ more) e) es ≡ list_all (λ e. is_true e || is_known first e) es
all_irrelevant first more [] h = refl
all_irrelevant first more (e ∷ es) h =
    let p = or_parts (is_known more e) (list_any (is_known more) es) h in
    let k : is_known (first ++ more) e ≡ is_known first e = known e p.0 in
    rw (k, all_irrelevant first more es p.1) refl
  where
    known : (e : Term) → is_known more e ≡ false → is_known (first ++ more) e ≡ is_known first e
    known e h = list_any-append _ first more ∙ rw h (or_false (is_known first e))

pub plain_irrelevant : (first more : List Term) (goal : Term) → list_any is_false more ≡ false → touches more goal ≡ false → is_plain first goal ≡ false
    → is_plain (first ++ more) goal ≡ false
plain_irrelevant first more goal f t none =
    let p = or_parts (list_any is_false first) (is_all_known first goal) none in
    let a : list_any is_false (first ++ more) ≡ false = list_any-append is_false first more ∙ false_of_both (list_any is_false first) (list_any is_false more) p.0 f in
    let b : is_all_known (first ++ more) goal ≡ false = all_irrelevant first more (conjuncts goal) t ∙ p.1 in
    false_of_both (list_any is_false (first ++ more)) (is_all_known (first ++ more) goal) a b

-- Contradictions -----------------------------------------------------------------------------------------------

pub same_swap : (a b : Term) → same a b ≡ same b a
same_swap a b = at (same a b) (same b a) refl refl
  where
    at : (s t : Bool) → same a b ≡ s → same b a ≡ t → same a b ≡ same b a
    at true true i j = i ∙ sym j
    at false false i j = i ∙ sym j
    at true false i j = let k : false ≡ true = sym j ∙ (rw (same_is a b i) (same_refl b)) in cc
    at false true i j = let k : false ≡ true = sym i ∙ (rw (same_is b a j) (same_refl a)) in cc

module _ {A : Type 0} where
  pub any_false : (p q : A → Bool) (ys : List A) → ((y : A) → q y ≡ false → p y ≡ false) → list_any q ys ≡ false → list_any p ys ≡ false
  any_false p q [] h e = refl
  any_false p q (y ∷ ys) h e =
      let s = or_parts (q y) (list_any q ys) e in
      false_of_both (p y) (list_any p ys) (h y s.0) (any_false p q ys h s.1)

  pub any_swapped : (p : A → A → Bool) (xs ys : List A) → list_any (λ y. list_any (λ x. p x y) xs) ys ≡ false → list_any (λ x. list_any (p x) ys) xs ≡ false
  any_swapped p [] ys e = refl
  any_swapped p (x ∷ xs) ys e =
      false_of_both (list_any (p x) ys) (list_any (λ x. list_any (p x) ys) xs)
      (any_false (p x) (λ y. p x y || list_any (λ x. p x y) xs) ys (λ y h. (or_parts (p x y) (list_any (λ x. p x y) xs) h).0) e)
      (any_swapped p xs ys (any_false (λ y. list_any (λ x. p x y) xs) (λ y. p x y || list_any (λ x. p x y) xs) ys (λ y h. (or_parts (p x y) (list_any (λ x. p x y) xs) h).1) e))

abbrev pub conflict : List Term → List Term → Bool
conflict hyps hs = list_any (λ h. list_any (denies h) hyps) hs

if_flag : (b : Bool) (n : ℕ) (o : Option ℕ) (r : Bool) → is_some o ≡ r → is_some (if b then Some n else o) ≡ (b || r)
if_flag true n o r h = refl
if_flag false n o r h = h

number_denied : (n : ℕ) (hs : List Term) (a : Term) → is_some (number_of hs n a) ≡ list_any (λ k. same a k) hs
number_denied n [] a = refl
number_denied n (h ∷ hs) a =
    rw (same_swap a h) (if_flag (same h a) n (number_of hs (suc n) a) (list_any (λ k. same a k) hs) (number_denied (suc n) hs a))

none_denied : (hs : List Term) → list_any (λ (k : Term). false) hs ≡ false
none_denied [] = refl
none_denied (h ∷ hs) = none_denied hs

denied_flag : (hyps : List Term) (h : Term) → is_some (denied_by hyps (negated h)) ≡ list_any (denies h) hyps
denied_flag hyps (neg a) = number_denied 1 hyps a
denied_flag hyps (const k) = sym (none_denied hyps)
denied_flag hyps (var x) = sym (none_denied hyps)
denied_flag hyps (bin op a b) = sym (none_denied hyps)

first_flag : (a b : Option Cert) → is_some (first_of a b) ≡ (is_some a || is_some b)
first_flag (Some c) b = refl
first_flag None b = refl

mapped_flag : {A : Type 0} (f : A → Cert) (o : Option A) → is_some (option_map f o) ≡ is_some o
mapped_flag f (Some c) = refl
mapped_flag f None = refl

pub contradiction_flag : (hyps : List Term) (n : ℕ) (hs : List Term) → is_some (contradiction hyps n hs) ≡ conflict hyps hs
contradiction_flag hyps n [] = refl
contradiction_flag hyps n (h ∷ hs) =
    first_flag (option_map (λ i. by.absurdity i n) (denied_by hyps (negated h))) (contradiction hyps (suc n) hs)
    ∙ rw (mapped_flag (λ i. by.absurdity i n) (denied_by hyps (negated h)), denied_flag hyps h, contradiction_flag hyps (suc n) hs) refl

conflict_irrelevant : (first more : List Term) → is_opposed (first ++ more) more ≡ false → conflict first first ≡ false → conflict (first ++ more) (first ++ more) ≡ false
conflict_irrelevant first more opposed none =
    list_any-append (λ h. list_any (denies h) (first ++ more)) first more
    ∙ false_of_both (conflict (first ++ more) first) (conflict (first ++ more) more) front back
  where
    split : (h : Term) → list_any (denies h) first ≡ false → list_any (denies h) more ≡ false → list_any (denies h) (first ++ more) ≡ false
    split h a b = list_any-append (denies h) first more ∙ false_of_both (list_any (denies h) first) (list_any (denies h) more) a b

    back : conflict (first ++ more) more ≡ false
    back =
        any_false (λ h. list_any (denies h) (first ++ more)) (λ h. list_any (are_opposite h) (first ++ more)) more
        (λ h. any_false (denies h) (are_opposite h) (first ++ more) (λ k e. (or_parts (denies h k) (denies k h) e).0)) opposed

    across : list_any (λ k. list_any (λ h. denies h k) first) more ≡ false
    across =
        any_false (λ k. list_any (λ h. denies h k) first) (λ k. list_any (are_opposite k) (first ++ more)) more
        (λ k e. any_false (λ h. denies h k) (are_opposite k) first (λ h i. (or_parts (denies k h) (denies h k) i).1)
        (or_parts (list_any (are_opposite k) first) (list_any (are_opposite k) more) (sym (list_any-append (are_opposite k) first more) ∙ e)).0) opposed

    either : (h : Term) (hs : List Term) → conflict first hs ≡ false → list_any (λ h. list_any (denies h) more) hs ≡ false → conflict (first ++ more) hs ≡ false
    either h [] a b = refl
    either h (k ∷ hs) a b =
        let s = or_parts (list_any (denies k) first) (conflict first hs) a in
        let t = or_parts (list_any (denies k) more) (list_any (λ h. list_any (denies h) more) hs) b in
        false_of_both (list_any (denies k) (first ++ more)) (conflict (first ++ more) hs) (split k s.0 t.0) (either h hs s.1 t.1)

    front : conflict (first ++ more) first ≡ false
    front = either (const 0) first none (any_swapped denies first more across)

-- Leaves -------------------------------------------------------------------------------------------------------

pub where_none : (b : Bool) (c : Cert) → leaf_where b c ≡ None → b ≡ false
where_none true c h = none_some (true ≡ false) c (sym h)
where_none false c h = refl

pub none_flag : (o : Option Cert) → o ≡ None → is_some o ≡ false
none_flag o h = rw h refl

pub flag_none : (o : Option Cert) → is_some o ≡ false → o ≡ None
flag_none None h = refl
flag_none (Some c) h = let e : true ≡ false = h in cc

-- Where no leaf is valid for the first hypotheses, and those behind them don't matter, none is valid for all.
pub leaf_irrelevant : (first more : List Term) (goal : Term) → leaf first goal ≡ None → matters (first ++ more) more goal ≡ false → leaf (first ++ more) goal ≡ None
leaf_irrelevant first more goal h m =
    let a = first_none (leaf_where (is_plain first goal) by.auto) _ h in
    let b = first_none (leaf_where (is_reflexive (operands Eq goal)) by.reflexive) _ a.1 in
    let c = first_none (leaf_where (is_range first goal) by.range) _ b.1 in
    let d = first_none (leaf_where (is_ring goal) by.ring) (contradiction first 1 first) c.1 in
    let p = or_parts (list_any is_false more || touches more goal || (is_compared goal && list_any is_bound more)) (is_opposed (first ++ more) more) m in
    let q = or_parts (list_any is_false more || touches more goal) (is_compared goal && list_any is_bound more) p.0 in
    let r = or_parts (list_any is_false more) (touches more goal) q.0 in
    let plain = plain_irrelevant first more goal r.0 r.1 (where_none (is_plain first goal) by.auto a.0) in
    let range = range_irrelevant first more goal q.1 (where_none (is_range first goal) by.range c.0) in
    let reflexive = where_none (is_reflexive (operands Eq goal)) by.reflexive b.0 in
    let ring = where_none (is_ring goal) by.ring d.0 in
    let free : conflict first first ≡ false = sym (contradiction_flag first 1 first) ∙ none_flag (contradiction first 1 first) d.1 in
    let last : contradiction (first ++ more) 1 (first ++ more) ≡ None =
    flag_none (contradiction (first ++ more) 1 (first ++ more))
    (contradiction_flag (first ++ more) 1 (first ++ more) ∙ conflict_irrelevant first more p.1 free) in
    rw (plain, reflexive, range, ring) last

-- The same of hypotheses and their first so many.
pub leaf_after_irrelevant : (hyps : List Term) (n : ℕ) (goal : Term) → leaf (take n hyps) goal ≡ None → matters hyps (drop n hyps) goal ≡ false → leaf hyps goal ≡ None
leaf_after_irrelevant hyps n goal h m =
    let e : take n hyps ++ drop n hyps ≡ hyps = take-append-drop n hyps in
    rw e at (leaf_irrelevant (take n hyps) (drop n hyps) goal h (rw e m))

pub lent_irrelevant : {X : Type 0} (f : X → Term) (xs : List X) (n : ℕ) (goal : Term) (r : Bool) → leaf (take n (map f xs)) goal ≡ None
    → r ≡ matters (map f xs) (map f (take (length xs - n) (drop n xs))) goal → r ≡ false → leaf (map f xs) goal ≡ None
lent_irrelevant f xs n goal r h m i =
    let e : take (length xs - n) (drop n xs) ≡ drop n xs = take_all (length xs - n) (drop n xs) (omega (arith, length-drop n xs)) in
    let j : matters (map f xs) (map f (drop n xs)) goal ≡ false = sym (rw e at m) ∙ i in
    leaf_after_irrelevant (map f xs) n goal h (rw drop-map j)
