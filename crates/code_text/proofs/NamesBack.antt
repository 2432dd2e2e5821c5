-- Where no name is repeated, each name is read as its number.
use Rattle.std.proofs.Common.{◌≡◌, ℕ, ◌+◌, ◌<◌, ◌||◌, zero, suc, List, [], ◌∷◌, ◌++◌, length, get_or, refl, ap, sym, ◌∙◌, arith, Bool, true, false, if◌then◌else◌, Some, None}
use Rattle.std.proofs.Math.Bool.{or-false}
use Rattle.std.proofs.lemmas.List.Folds.{list_any-append}
use Rattle.std.proofs.lemmas.Slice.Eq.{bytes_eq-Decides}
use Rattle.std.specs.List.{list_any}
use Rattle.std.specs.Str.{bytes_eq}
use Rattle.risc_machine.specs.Faults.{repeated}
use Rattle.code_text.specs.Inside.ListingReading.{id_from, id_of}
use Rattle.code_text.specs.Listing.{name}

-- each name is read as its number
abbrev pub AreExact : List (List ℕ) → Type 0
AreExact names = (x : ℕ) → x < length names → id_of names (name names x) ≡ Some x

fresh : (before : List (List ℕ)) (n : List ℕ) (ns : List (List ℕ)) → repeated before (n ∷ ns) ≡ None → (list_any (bytes_eq n) before ≡ false) × (repeated (before ++ n ∷ []) ns ≡ None)
fresh before n ns h = by (list_any (bytes_eq n) before) refl h
  where
    by : (b : Bool) → list_any (bytes_eq n) before ≡ b → (if b then Some n else repeated (before ++ n ∷ []) ns) ≡ None → (list_any (bytes_eq n) before ≡ false) × (repeated (before ++ n ∷ []) ns ≡ None)
    by true e h = absurd cc
    by false e h = (e, h)

-- a name that is none of two lists is none of each
unlisted : (n : List ℕ) (ms ns : List (List ℕ)) → list_any (bytes_eq n) (ms ++ ns) ≡ false → (list_any (bytes_eq n) ms ≡ false) × (list_any (bytes_eq n) ns ≡ false)
unlisted n ms ns h = by (list_any (bytes_eq n) ms) (sym (list_any-append (bytes_eq n) ms ns) ∙ h)
  where
    by : (b : Bool) → (b || list_any (bytes_eq n) ns) ≡ false → (b ≡ false) × (list_any (bytes_eq n) ns ≡ false)
    by true e = absurd cc
    by false e = (refl, e)

-- a name behind others is none of them
apart : (before ns : List (List ℕ)) (k : ℕ) → repeated before ns ≡ None → k < length ns → list_any (bytes_eq (get_or ns k [])) before ≡ false
apart before [] k h inside = absurd (omega (arith, inside))
apart before (n ∷ ns) zero h inside = (fresh before n ns h).0
apart before (n ∷ ns) (suc k) h inside =
    let later = apart (before ++ n ∷ []) ns k (fresh before n ns h).1 (omega (arith, inside)) in
    (unlisted (get_or ns k []) before (n ∷ []) later).0

last_apart : (before : List (List ℕ)) (n : List ℕ) (ns : List (List ℕ)) (k : ℕ) → repeated (before ++ n ∷ []) ns ≡ None → k < length ns → bytes_eq (get_or ns k []) n ≡ false
last_apart before n ns k h inside =
    let all = apart (before ++ n ∷ []) ns k h inside in
    let last = (unlisted (get_or ns k []) before (n ∷ []) all).1 in
    sym (or-false (bytes_eq (get_or ns k []) n)) ∙ last

exact_from : (i : ℕ) (before ns : List (List ℕ)) (x : ℕ) → repeated before ns ≡ None → x < length ns → id_from i ns (get_or ns x []) ≡ Some (i + x)
exact_from i before [] x h inside = absurd (omega (arith, inside))
exact_from i before (n ∷ ns) zero h inside =
    ap (λ c. if c then Some i else id_from (i + 1) ns n) ((bytes_eq-Decides n n).1 refl) ∙ ap Some (let e : i ≡ i + zero = omega arith in e)
exact_from i before (n ∷ ns) (suc x) h inside =
    let rest = (fresh before n ns h).1 in
    ap (λ c. if c then Some i else id_from (i + 1) ns (get_or ns x [])) (last_apart before n ns x rest (omega (arith, inside)))
    ∙ exact_from (i + 1) (before ++ n ∷ []) ns x rest (omega (arith, inside)) ∙ ap Some (let e : (i + 1) + x ≡ i + suc x = omega arith in e)

pub exact : (before names : List (List ℕ)) → repeated before names ≡ None → AreExact names
exact before names h x inside = exact_from 0 before names x h inside ∙ ap Some (let e : 0 + x ≡ x = omega arith in e)
