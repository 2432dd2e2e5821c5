-- Names that become known one after another.
use Rattle.std.proofs.Common.{◌≡◌, ℕ, suc, ◌+◌, ◌<◌, ◌≤◌, List, [], ◌∷◌, ◌++◌, length, take, drop, get_or, refl, ap, sym, ◌∙◌, subst, arith, append_assoc, add-one, drop-cons, Bool, true, false, ◌||◌, cond, Some, None}
use Rattle.std.proofs.lemmas.Bool.{or_right}
use Rattle.std.proofs.lemmas.List.Folds.{list_any-append}
use Rattle.std.proofs.lemmas.Slice.Eq.{bytes_eq-Decides}
use Rattle.std.specs.List.{list_any}
use Rattle.std.specs.Str.{bytes_eq}
use Rattle.std.proofs.lemmas.List.{append-nil, take_all, drop_all, take_more, length-map, get_or-map}
use Rattle.indexmap.specs.IndexSet.{IndexSet, contains, Updates}
use Rattle.risc_machine.specs.Faults.{repeated, thread_names}
use Rattle.risc_machine.specs.declared.parts.ThreadCode.{ThreadCode}
use Rattle.risc_machine.proofs.FaultLaws.{repeated_goes, repeated_stops}
use Rattle.object_code.specs.Inside.Known.{AreKnown}

or_none : (b c : Bool) → c ≡ false → (b || c) ≡ b
or_none true c h = refl
or_none false c h = h

module _ {S : Type 0} where
  -- a name more
  known_more : (known next : IndexSet (List ℕ) S) (names : List (List ℕ)) (n : List ℕ) → AreKnown known names → Updates bytes_eq known next n true → AreKnown next (names ++ n ∷ [])
  known_more known next names n are u f = u.0 f ∙ by (bytes_eq n f) (bytes_eq f n) refl refl ∙ sym (list_any-append (bytes_eq f) names (n ∷ []))
    where
      by : (b c : Bool) → bytes_eq n f ≡ b → bytes_eq f n ≡ c → cond b true (contains bytes_eq known f) ≡ (list_any (bytes_eq f) names || (bytes_eq f n || false))
      by true true e g = sym (ap (λ c. list_any (bytes_eq f) names || (c || false)) g ∙ or_right (list_any (bytes_eq f) names) true refl)
      by false false e g = are f ∙ sym (or_none (list_any (bytes_eq f) names) (bytes_eq f n || false) (ap (λ c. c || false) g))
      by true false e g = let no = sym ((bytes_eq-Decides f n).1 (sym ((bytes_eq-Decides n f).0 e))) ∙ g in absurd (cc (no))
      by false true e g = let no = sym ((bytes_eq-Decides n f).1 (sym ((bytes_eq-Decides f n).0 g))) ∙ e in absurd (cc (no))

  -- What was passed of names is known, and what is found behind it is what is found at all.
  pub record IsPassed (set : IndexSet (List ℕ) S) (before names : List (List ℕ)) (i : ℕ) : Type 0 where
    pub known : AreKnown set (before ++ take i names)
    pub same : repeated (before ++ take i names) (drop i names) ≡ repeated before names

  module _ (r : IndexSet (List ℕ) S) (before names : List (List ℕ)) where
    pub passes_none : AreKnown r before → IsPassed r before names 0
    passes_none h = record { known = subst (AreKnown r) (sym (append-nil before)) h; same = ap (λ b. repeated b names) (append-nil before) }

    module _ (i : ℕ) (n : List ℕ) (inside : i < length names) (is : n ≡ get_or names i n) (h : IsPassed r before names i) where
      front : drop i names ≡ n ∷ drop (i + 1) names
      front = drop-cons names i n inside ∙ ap (λ m. m ∷ drop (suc i) names) (sym is) ∙ ap (λ k. n ∷ drop k names) (sym (add-one i))

      longer : (before ++ take i names) ++ n ∷ [] ≡ before ++ take (i + 1) names
      longer = append_assoc before (take i names) (n ∷ []) ∙ ap (λ x. before ++ x) (sym (take_more names i n inside ∙ ap (λ m. take i names ++ m ∷ []) (sym is)))

      pub passes : (next : IndexSet (List ℕ) S) → contains bytes_eq r n ≡ false → Updates bytes_eq r next n true → IsPassed next before names (i + 1)
      passes next new u = record {
        known = subst (AreKnown next) longer (known_more r next (before ++ take i names) n h.known u);
        same = sym (ap (λ b. repeated b (drop (i + 1) names)) longer) ∙ sym (repeated_goes (before ++ take i names) n (drop (i + 1) names) (sym (h.known n) ∙ new))
            ∙ ap (repeated (before ++ take i names)) (sym front) ∙ h.same;
      }

      pub stops_at : contains bytes_eq r n ≡ true → Some n ≡ repeated before names
      stops_at old = sym (repeated_stops (before ++ take i names) n (drop (i + 1) names) (sym (h.known n) ∙ old)) ∙ ap (repeated (before ++ take i names)) (sym front) ∙ h.same

    pub passed_all : (i : ℕ) → length names ≤ i → IsPassed r before names i → None ≡ repeated before names
    passed_all i past h = ap (repeated (before ++ take i names)) (sym (drop_all i names past)) ∙ h.same

    pub known_all : (i : ℕ) → length names ≤ i → IsPassed r before names i → AreKnown r (before ++ names)
    known_all i past h = subst (λ x. AreKnown r (before ++ x)) (take_all i names past) h.known

-- the name of a thread, among those of all
pub thread_inside : (threads : List ThreadCode) (i : ℕ) → i < length threads → i < length (thread_names threads)
thread_inside threads i inside = omega (arith, length-map threads (λ t. t.name), inside)

pub thread_name : (threads : List ThreadCode) (i : ℕ) (t : ThreadCode) → i < length threads → t ≡ get_or threads i t → t.name ≡ get_or (thread_names threads) i t.name
thread_name threads i t inside is = ap (λ t. t.name) is ∙ sym (get_or-map (λ t. t.name) threads i t t.name inside)
