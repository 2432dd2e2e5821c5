-- Laws of entailments that are added one after another, and of entailments that aren't small.
use Rattle.std.proofs.Common.{◌≡◌, ℕ, zero, suc, ◌+◌, ◌-◌, ◌<◌, ◌≤◌, ◌&&◌, not, List, [], ◌∷◌, ◌++◌, length, get_or, drop, map, Bool, true, false, refl, sym, ap, ◌∙◌, arith, if◌then◌else◌, inl, inr, append_assoc}
use Rattle.std.specs.Prelude.{filter}
use Rattle.std.specs.List.{list_all, range_with_len}
use Rattle.std.proofs.lemmas.Bool.{and_left, and_right, not-true, lt-leb, cases_eq, false≢true}
use Rattle.std.proofs.lemmas.List.FromFn.{filter_of_map_range_with_len_more}
use Rattle.std.proofs.lemmas.List.{map-append, map-id, at_drop_more, at_drop_all, append-nil}
use Rattle.std.proofs.lemmas.List.Folds.{list_all-append, list_all-map, list_all_at}
use Rattle.cov_expr.specs.declared.limits.TheConstants.{MOST_NODES}
use Rattle.cov_expr.specs.Term.{Term}
use Rattle.cov_expr.specs.Trees.{mentions, nodes}
use Rattle.cov_ast.specs.Declarations.{class_of}
use Rattle.cov_ast.specs.Plain.{Plain}
use Rattle.mode_state.specs.Sets.{is_hidden}
use Rattle.point_law.specs.Point.{Point}
use Rattle.typing_law.specs.Entailments.{Entailment, is_small_entailment, from_one_more}
use Rattle.typing_rules.specs.Listed.{entailment_of, entailments_of, is_shown_controlled}
use Rattle.point_law.specs.Terms.{is_small}
use Rattle.typing_rules.specs.declared.asked.Entailment as rust

-- One entailment more ------------------------------------------------------------------------------------------------

pub added_one : (preds : List Term) (old new : List rust.Entailment) (c : rust.Entailment) (g : Entailment) → new ≡ old ++ c ∷ [] → entailment_of preds c ≡ g
    → entailments_of preds new ≡ entailments_of preds old ++ g ∷ []
added_one preds old new c g added made =
    ap (entailments_of preds) added ∙ map-append (entailment_of preds) old (c ∷ []) ∙ ap (λ h. entailments_of preds old ++ h ∷ []) made

-- entailments that are added where a condition holds
pub added_if : (b : Bool) (es fs gs : List Entailment) → b ≡ true → fs ≡ es ++ gs → fs ≡ es ++ (if b then gs else [])
added_if b es fs gs is added = added ∙ ap (λ c. es ++ (if c then gs else [])) (sym is)

pub added_none : (b : Bool) (es gs : List Entailment) → b ≡ false → es ≡ es ++ (if b then gs else [])
added_none b es gs is = sym (append-nil es) ∙ ap (λ c. es ++ (if c then gs else [])) (sym is)

-- Where v reads the items of a list and f says what is asked of each: an entailment was added for the first of what is left.
pub listed_more : {X Y : Type 0} (f : Y → Entailment) (v : X → Y) (old new : List Entailment) (xs : List X) (i : ℕ) (x : X) (whole : List Entailment)
    → i < length xs → x ≡ get_or xs i x → new ≡ old ++ f (v x) ∷ [] → old ++ map f (map v (drop i xs)) ≡ whole
    → new ++ map f (map v (drop (i + 1) xs)) ≡ whole
listed_more f v old new xs i x whole inside is added kept =
    let rest = map f (map v (drop (i + 1) xs)) in
    ap (λ es. es ++ rest) added ∙ append_assoc old (f (v x) ∷ []) rest ∙ ap (λ y. old ++ (f (v y) ∷ rest)) is
    ∙ sym (at_drop_more (λ ys. old ++ map f (map v ys)) xs i x inside) ∙ kept

pub listed_all : {X Y : Type 0} (f : Y → Entailment) (v : X → Y) (old : List Entailment) (xs : List X) (i : ℕ) (whole : List Entailment)
    → length xs ≤ i → old ++ map f (map v (drop i xs)) ≡ whole → old ≡ whole
listed_all f v old xs i whole past kept = sym (append-nil old) ∙ sym (at_drop_all (λ ys. old ++ map f (map v ys)) xs i past) ∙ kept

-- the same of what passes a test
pub passed_more : (f : ℕ → Entailment) (test : ℕ → Bool) (old new : List Entailment) (xs : List ℕ) (i d : ℕ) (whole : List Entailment)
    → i < length xs → new ≡ old ++ (if test (get_or xs i d) then f (get_or xs i d) ∷ [] else [])
    → old ++ map f (filter test (drop i xs)) ≡ whole → new ++ map f (filter test (drop (i + 1) xs)) ≡ whole
passed_more f test old new xs i d whole inside added kept =
    let x = get_or xs i d in
    let rest = drop (i + 1) xs in
    ap (λ es. es ++ map f (filter test rest)) added ∙ front (test x) old x rest
    ∙ sym (at_drop_more (λ ys. old ++ map f (filter test ys)) xs i d inside) ∙ kept
  where
    front : (b : Bool) (old : List Entailment) (x : ℕ) (rest : List ℕ)
        → (old ++ (if b then f x ∷ [] else [])) ++ map f (filter test rest) ≡ old ++ map f (if b then x ∷ filter test rest else filter test rest)
    front true old x rest = append_assoc old (f x ∷ []) (map f (filter test rest))
    front false old x rest = ap (λ es. es ++ map f (filter test rest)) (append-nil old)

pub passed_all : (f : ℕ → Entailment) (test : ℕ → Bool) (old : List Entailment) (xs : List ℕ) (i : ℕ) (whole : List Entailment)
    → length xs ≤ i → old ++ map f (filter test (drop i xs)) ≡ whole → old ≡ whole
passed_all f test old xs i whole past kept = sym (append-nil old) ∙ sym (at_drop_all (λ ys. old ++ map f (filter test ys)) xs i past) ∙ kept

-- one more number of a range
passed_range : (test : ℕ → Bool) (n : ℕ) → filter test (range_with_len 0 (n + 1)) ≡ filter test (range_with_len 0 n) ++ (if test n then n ∷ [] else [])
passed_range test n =
    sym (ap (filter test) (map-id (range_with_len 0 (n + 1)))) ∙ filter_of_map_range_with_len_more test (λ k. k) 0 n n (omega arith)
    ∙ ap (λ xs. filter test xs ++ (if test n then n ∷ [] else [])) (map-id (range_with_len 0 n))

pub range_more : (f : ℕ → Entailment) (test : ℕ → Bool) (first old new : List Entailment) (n : ℕ)
    → old ≡ first ++ map f (filter test (range_with_len 0 n)) → new ≡ old ++ (if test n then f n ∷ [] else [])
    → new ≡ first ++ map f (filter test (range_with_len 0 (n + 1)))
range_more f test first old new n kept added =
    let before = filter test (range_with_len 0 n) in
    added ∙ ap (λ es. es ++ (if test n then f n ∷ [] else [])) kept ∙ append_assoc first (map f before) (if test n then f n ∷ [] else [])
    ∙ ap (λ es. first ++ (map f before ++ es)) (sym (each (test n)))
    ∙ ap (λ es. first ++ es) (sym (map-append f before (if test n then n ∷ [] else [])))
    ∙ ap (λ xs. first ++ map f xs) (sym (passed_range test n))
  where
    each : (b : Bool) → map f (if b then n ∷ [] else []) ≡ (if b then f n ∷ [] else [])
    each true = refl
    each false = refl

-- numbers that don't pass a test are passed over
pub range_passed : (test : ℕ → Bool) (a b : ℕ) → a ≤ b → ((k : ℕ) → a ≤ k → k < b → test k ≡ false) → filter test (range_with_len 0 a) ≡ filter test (range_with_len 0 b)
range_passed test a b le none = up (b - a) b none (omega arith)
  where
    up : (n m : ℕ) → ((k : ℕ) → a ≤ k → k < m → test k ≡ false) → m ≡ a + n → filter test (range_with_len 0 a) ≡ filter test (range_with_len 0 m)
    up zero m none is = ap (λ i. filter test (range_with_len 0 i)) (omega (arith, is))
    up (suc n) m none is =
        let last = a + n in
        up n last (λ k low high. none k low (omega (arith, is))) refl ∙ sym (append-nil (filter test (range_with_len 0 last)))
        ∙ ap (λ c. filter test (range_with_len 0 last) ++ (if c then last ∷ [] else [])) (sym (none last (omega arith) (omega (arith, is))))
        ∙ sym (passed_range test last) ∙ ap (λ i. filter test (range_with_len 0 i)) (omega (arith, is))

-- Variables that a control decides of ------------------------------------------------------------------------------

module _ (p : Plain) (t : ℕ) (a : Point) (x y : ℕ) where
  pub undecided : not (mentions (class_of p y) x) ≡ true → is_shown_controlled p t a x y ≡ false
  undecided h = and_left (mentions (class_of p y) x) (not (is_hidden p t a.held y)) (not-true (mentions (class_of p y) x) h)

  pub unseen : is_hidden p t a.held y ≡ true → is_shown_controlled p t a x y ≡ false
  unseen h = and_right (mentions (class_of p y) x) (not (is_hidden p t a.held y)) (ap not h)

  pub decided : (class : Term) → class ≡ class_of p y → mentions class x ≡ true → is_hidden p t a.held y ≡ false → is_shown_controlled p t a x y ≡ true
  decided class is h k = λ i. (ap (λ q. mentions q x) (sym is) ∙ h) i && not (k i)

-- Entailments that aren't small -----------------------------------------------------------------------------------

pub large : (e : Term) → MOST_NODES < nodes e → is_small e ≡ false
large e h = lt-leb (nodes e) MOST_NODES h

-- the hypothesis that comes behind the predicates
pub large_more : (preds : List Term) (e goal : Term) → is_small e ≡ false → is_small_entailment (from_one_more preds e goal) ≡ false
large_more preds e goal h =
    and_left (list_all is_small (preds ++ e ∷ [])) (is_small goal)
    (list_all-append is_small preds (e ∷ []) ∙ and_right (list_all is_small preds) (is_small e && true) (and_left (is_small e) true h))

pub large_goal : (hyps : List Term) (goal : Term) → is_small goal ≡ false → (list_all is_small hyps && is_small goal) ≡ false
large_goal hyps goal h = and_right (list_all is_small hyps) (is_small goal) h

-- one of several
pub large_behind : (before after : List Entailment) → list_all is_small_entailment after ≡ false → list_all is_small_entailment (before ++ after) ≡ false
large_behind before after h =
    list_all-append is_small_entailment before after ∙ and_right (list_all is_small_entailment before) (list_all is_small_entailment after) h

pub large_before : (before after : List Entailment) → list_all is_small_entailment before ≡ false → list_all is_small_entailment (before ++ after) ≡ false
large_before before after h =
    list_all-append is_small_entailment before after ∙ and_left (list_all is_small_entailment before) (list_all is_small_entailment after) h

-- one of those that are asked of the items of a list
pub large_at : {X Y : Type 0} (f : Y → Entailment) (v : X → Y) (xs : List X) (i : ℕ) (x : X) → i < length xs → x ≡ get_or xs i x
    → is_small_entailment (f (v x)) ≡ false → list_all is_small_entailment (map f (map v xs)) ≡ false
large_at f v xs i x inside is h =
    list_all-map is_small_entailment f (map v xs) ∙ list_all-map (λ y. is_small_entailment (f y)) v xs
    ∙ list_all_at (λ y. is_small_entailment (f (v y))) xs i x inside (ap (λ y. is_small_entailment (f (v y))) (sym is) ∙ h)

pub large_alone : (g : Entailment) → is_small_entailment g ≡ false → list_all is_small_entailment (g ∷ []) ≡ false
large_alone g h = and_left (is_small_entailment g) true h

pub large_if : (b : Bool) (gs : List Entailment) → b ≡ true → list_all is_small_entailment gs ≡ false
    → list_all is_small_entailment (if b then gs else []) ≡ false
large_if b gs is h = ap (λ c. list_all is_small_entailment (if c then gs else [])) is ∙ h

-- one of those of a range of numbers
pub large_between : (f : ℕ → Entailment) (test : ℕ → Bool) (a n y : ℕ) → a ≤ y → y < a + n
    → list_all is_small_entailment (if test y then f y ∷ [] else []) ≡ false → list_all is_small_entailment (map f (filter test (range_with_len a n))) ≡ false
large_between f test a zero y low high h = absurd (omega arith)
large_between f test a (suc n) y low high h = elim (cases_eq a y) [
  | inl e ↦ here (test a) (ap (λ z. list_all is_small_entailment (if test z then f z ∷ [] else [])) e ∙ h)
  | inr ne ↦ later (test a) (large_between f test (a + 1) n y (omega arith) (omega arith) h)
]
  where
    here : (b : Bool) → list_all is_small_entailment (if b then f a ∷ [] else []) ≡ false
        → list_all is_small_entailment (map f (if b then a ∷ filter test (range_with_len (a + 1) n) else filter test (range_with_len (a + 1) n))) ≡ false
    here true k = large_before (f a ∷ []) (map f (filter test (range_with_len (a + 1) n))) k
    here false k = absurd (false≢true (sym k))

    later : (b : Bool) → list_all is_small_entailment (map f (filter test (range_with_len (a + 1) n))) ≡ false
        → list_all is_small_entailment (map f (if b then a ∷ filter test (range_with_len (a + 1) n) else filter test (range_with_len (a + 1) n))) ≡ false
    later true k = large_behind (f a ∷ []) (map f (filter test (range_with_len (a + 1) n))) k
    later false k = k
