-- Names that are looked up.
use Rattle.std.proofs.Common.{◌≡◌, ℕ, ◌+◌, ◌<◌, List, [], ◌∷◌, ◌++◌, length, get_or, set, replicate, All, refl, ap, sym, ◌∙◌, subst, arith, Bool, true, false, not, ◌||◌, if◌then◌else◌, Option, Some, None, inl, inr, MatchOption, Result, Ok, Err, OnErr, cond, append_assoc}
use Rattle.std.specs.Option.{option_or}
use Rattle.std.proofs.lemmas.Bool.{cases_lt, ltb-true}
use Rattle.std.proofs.Math.ListN.{get_or-append}
use Rattle.std.proofs.lemmas.List.Elements.{All-nil, All-append, All-set}
use Rattle.std.proofs.lemmas.List.Folds.{list_any-append}
use Rattle.std.proofs.lemmas.List.{append-nil, get_or_default, get_or_past, map-append, same_from_push}
use Rattle.std.proofs.lemmas.Slice.Eq.{bytes_eq-Decides}
use Rattle.std.specs.List.{list_any}
use Rattle.std.specs.Map.{lookup}
use Rattle.std.specs.Str.{bytes_eq}
use Rattle.cov_expr.specs.Names.{IsName}
use Rattle.indexmap.specs.IndexMap.{IndexMap, get, Updates, IsEmpty, IsUnchanged}
use Rattle.indexmap.specs.IndexSet.{contains, Updates as SetUpdates, IsEmpty as SetIsEmpty}
use Rattle.risc_machine.specs.Faults.{repeated, names_of, thread_names}
use Rattle.risc_machine.specs.declared.parts.Line.{Line}
use Rattle.risc_machine.specs.declared.parts.Parts.{Parts}
use Rattle.risc_machine.specs.declared.parts.ThreadCode.{ThreadCode}
use Rattle.risc_machine.proofs.FaultLaws.{repeated-append}
use Rattle.code_text.specs.Inside.Lookup.{IsIndexOf, IsGuess, AreGuesses, IsRegisterOf}
use Rattle.code_text.specs.declared.names.Register.{Register}
use Rattle.code_text.specs.Inside.ListingReading.{id_from, id_of, with_line}
use Rattle.code_text.proofs.Every.{all_from, every_copy}
use Rattle.code_text.proofs.FieldLaws.{id_is}
use Rattle.code_text.proofs.RangeLaws.{id_ranges}

id_append : (i : ℕ) (names : List (List ℕ)) (n f : List ℕ) → id_from i (names ++ n ∷ []) f ≡ option_or (id_from i names f) (if bytes_eq f n then Some (i + length names) else None)
id_append i [] n f = ap (λ k. if bytes_eq f n then Some k else None) (let e : i ≡ i + 0 = omega arith in e)
id_append i (m ∷ ns) n f = by (bytes_eq f m) (id_append (i + 1) ns n f ∙ ap (λ k. option_or (id_from (i + 1) ns f) (if bytes_eq f n then Some k else None)) (let e : (i + 1) + length ns ≡ i + length (m ∷ ns) = omega arith in e))
  where
    by : (b : Bool) → id_from (i + 1) (ns ++ n ∷ []) f ≡ option_or (id_from (i + 1) ns f) (if bytes_eq f n then Some (i + length (m ∷ ns)) else None)
        → (if b then Some i else id_from (i + 1) (ns ++ n ∷ []) f) ≡ option_or (if b then Some i else id_from (i + 1) ns f) (if bytes_eq f n then Some (i + length (m ∷ ns)) else None)
    by true rest = refl
    by false rest = rest

pub id_more : (names : List (List ℕ)) (n f : List ℕ) → id_of (names ++ n ∷ []) f ≡ option_or (id_of names f) (if bytes_eq f n then Some (length names) else None)
id_more names n f = id_append 0 names n f ∙ ap (λ k. option_or (id_of names f) (if bytes_eq f n then Some k else None)) (let e : 0 + length names ≡ length names = omega arith in e)

same_test : (f n : List ℕ) → bytes_eq f n ≡ bytes_eq n f
same_test f n = by (bytes_eq f n) (bytes_eq n f) refl refl
  where
    by : (b c : Bool) → bytes_eq f n ≡ b → bytes_eq n f ≡ c → b ≡ c
    by true true g h = refl
    by false false g h = refl
    by true false g h = let e : true ≡ false = sym ((bytes_eq-Decides n f).1 (sym ((bytes_eq-Decides f n).0 g))) ∙ h in cc e
    by false true g h = let e : true ≡ false = sym ((bytes_eq-Decides f n).1 (sym ((bytes_eq-Decides n f).0 h))) ∙ g in cc e

first_none : {A : Type 0} (x : Option A) → option_or x None ≡ x
first_none None = refl
first_none (Some a) = refl

-- what holds in any case
pub on_err : {T E P : Type 0} (r : Result T E) → P → OnErr r P
on_err (Ok x) h = tt
on_err (Err e) h = h

-- Numbers of names ----------------------------------------------------------------------------------------------------------

module _ {S : Type 0} where
  -- what doesn't change the entries
  pub still_indexed : (index next : IndexMap (List ℕ) ℕ S) (names : List (List ℕ)) → IsUnchanged index next → IsIndexOf index names → IsIndexOf next names
  still_indexed index next names e is = record { are_names = is.are_names; ids = λ f. ap (lookup (bytes_eq f)) e ∙ is.ids f }

  pub none_indexed : (index : IndexMap (List ℕ) ℕ S) → IsEmpty index → IsIndexOf index []
  none_indexed index e = record { are_names = All-nil IsName; ids = λ f. ap (lookup (bytes_eq f)) e }

  module _ (index : IndexMap (List ℕ) ℕ S) (names : List (List ℕ)) (n : List ℕ) (is : IsIndexOf index names) (named : IsName n) where
    all_named : All IsName (names ++ n ∷ [])
    all_named = All-append IsName names (n ∷ []) is.are_names (all_from IsName (n ∷ []) (named, tt))

    -- a name that isn't there yet
    pub indexed_new : (next : IndexMap (List ℕ) ℕ S) → None ≡ get bytes_eq index n → Updates bytes_eq index next n (Some (length names)) → IsIndexOf next (names ++ n ∷ [])
    indexed_new next none u = record { are_names = all_named; ids = λ f. u.0 f ∙ by f (bytes_eq n f) refl ∙ sym (id_more names n f) }
      where
        by : (f : List ℕ) (b : Bool) → bytes_eq n f ≡ b → cond b (Some (length names)) (get bytes_eq index f) ≡ option_or (id_of names f) (if bytes_eq f n then Some (length names) else None)
        by f true e =
            let same : n ≡ f = (bytes_eq-Decides n f).0 e in
            let absent : id_of names f ≡ None = sym (is.ids f) ∙ ap (get bytes_eq index) (sym same) ∙ sym none in
            sym (ap (λ o. option_or o (if bytes_eq f n then Some (length names) else None)) absent ∙ ap (λ c. if c then Some (length names) else None) (same_test f n ∙ e))
        by f false e =
            is.ids f ∙ sym (ap (λ c. option_or (id_of names f) (if c then Some (length names) else None)) (same_test f n ∙ e) ∙ first_none (id_of names f))

    -- a name that is there keeps its id
    pub indexed_old : (k : ℕ) → Some k ≡ get bytes_eq index n → IsIndexOf index (names ++ n ∷ [])
    indexed_old there some = record { are_names = all_named; ids = λ f. is.ids f ∙ by f (bytes_eq f n) refl (id_of names f) refl ∙ sym (id_more names n f) }
      where
        by : (f : List ℕ) (b : Bool) → bytes_eq f n ≡ b → (o : Option ℕ) → id_of names f ≡ o → o ≡ option_or o (if b then Some (length names) else None)
        by f b e (Some k) is_k = refl
        by f false e None is_k = refl
        by f true e None is_k = let g : Some there ≡ None = some ∙ is.ids n ∙ ap (id_of names) (sym ((bytes_eq-Decides f n).0 e)) ∙ is_k in absurd cc

-- the id of a name that was declared before, and of one that wasn't
pub id_old : (names : List (List ℕ)) (n : List ℕ) (k : ℕ) → id_of names n ≡ Some k → id_of (names ++ n ∷ []) n ≡ Some k
id_old names n k e = id_more names n n ∙ ap (λ o. option_or o (if bytes_eq n n then Some (length names) else None)) e

pub id_new : (names : List (List ℕ)) (n : List ℕ) → id_of names n ≡ None → id_of (names ++ n ∷ []) n ≡ Some (length names)
id_new names n e = id_more names n n ∙ ap (λ o. option_or o (if bytes_eq n n then Some (length names) else None)) e ∙ ap (λ b. if b then Some (length names) else None) ((bytes_eq-Decides n n).1 refl)

-- Guesses ----------------------------------------------------------------------------------------------------------

pub none_guessed : (count : ℕ) → AreGuesses (replicate count None) []
none_guessed count = all_from (IsGuess []) (replicate count None) (every_copy (IsGuess []) count None (λ id e. absurd cc))

-- a guess stays one behind a name more
still_guess : (names : List (List ℕ)) (n : List ℕ) (g : Option ℕ) → IsGuess names g → IsGuess (names ++ n ∷ []) g
still_guess names n g is id e =
    let first = is id e in
    let inside = ltb-true id (length names) (id_ranges names (get_or names id []) id first) in
    ap (id_of (names ++ n ∷ [])) (get_or-append names (n ∷ []) [] id inside)
    ∙ id_more names n (get_or names id [])
    ∙ ap (λ o. option_or o (if bytes_eq (get_or names id []) n then Some (length names) else None)) first

module _ (names : List (List ℕ)) (guesses : List (Option ℕ)) (all : AreGuesses guesses names) where
  guess_first : (i id : ℕ) → get_or guesses i None ≡ Some id → id_of names (get_or names id []) ≡ Some id
  guess_first i id e = elim (cases_lt i (length guesses)) [
    | inl inside ↦ all i None inside id e
    | inr past ↦ (let none : None ≡ Some id = sym (get_or_past guesses i None past) ∙ e in absurd cc)
  ]

  pub guess_within : (i id : ℕ) → get_or guesses i None ≡ Some id → id < length names
  guess_within i id e = ltb-true id (length names) (id_ranges names (get_or names id []) id (guess_first i id e))

  -- the guess for a name that stands there is right
  pub guess_right : (i id : ℕ) (f : List ℕ) → get_or guesses i None ≡ Some id → f ≡ get_or names id f → Some id ≡ id_of names f
  guess_right i id f e is = sym (ap (id_of names) (is ∙ get_or_default names id f [] (guess_within i id e)) ∙ guess_first i id e)

  pub guesses_more : (n : List ℕ) (i id : ℕ) → Some id ≡ id_of (names ++ n ∷ []) n → AreGuesses (set guesses i (Some id)) (names ++ n ∷ [])
  guesses_more n i id first = All-set (IsGuess (names ++ n ∷ [])) guesses i (Some id) here (λ k d inside. still_guess names n (get_or guesses k d) (all k d inside))
    where
      here : IsGuess (names ++ n ∷ []) (Some id)
      here other e =
          let same : id ≡ other = cc in
          ap (id_of (names ++ n ∷ [])) (sym (id_is (names ++ n ∷ []) n other (sym first ∙ e))) ∙ sym first ∙ e

-- a field that is no name has no id
pub unnamed : (names : List (List ℕ)) (f : List ℕ) → All IsName names → (IsName f → ⊥) → id_of names f ≡ None
unnamed names f all other = by (id_of names f) refl
  where
    by : (o : Option ℕ) → id_of names f ≡ o → o ≡ None
    by None e = refl
    by (Some x) e = absurd (other (subst IsName (sym (id_is names f x e)) (all x [] (ltb-true x (length names) (id_ranges names f x e)))))

-- the names without one that was just added
pub popped : (last : Option (List ℕ)) (longer names rest : List (List ℕ)) (n : List ℕ) → longer ≡ names ++ n ∷ [] → MatchOption last ((longer ≡ []) × (rest ≡ [])) (λ l. longer ≡ rest ++ l ∷ []) → names ≡ rest
popped None longer names rest n e h = none names (sym e ∙ h.0)
  where
    none : (ns : List (List ℕ)) → ns ++ n ∷ [] ≡ [] → names ≡ rest
    none [] g = absurd cc
    none (m ∷ ns) g = absurd cc
popped (Some l) longer names rest n e h = (same_from_push names rest n l (sym e ∙ h)).0

-- Repeated names --------------------------------------------------------------------------------------------------

or_true : (b : Bool) → (b || (true || false)) ≡ true
or_true true = refl
or_true false = refl

or_false : (b : Bool) → (b || (false || false)) ≡ b
or_false true = refl
or_false false = refl

pub none_registered : (r : Register) → SetIsEmpty r.known → r.repeated ≡ None → IsRegisterOf r []
none_registered r e none = record { known = λ f. ap (list_any (bytes_eq f)) e; first = none }

new_or_not : (b is_new : Bool) (n : List ℕ) → is_new ≡ not b → (if is_new then None else Some n) ≡ (if b then Some n else None)
new_or_not true is_new n e = ap (λ c. if c then None else Some n) e
new_or_not false is_new n e = ap (λ c. if c then None else Some n) e

-- a name more
pub registered : (r next : Register) (names : List (List ℕ)) (n : List ℕ) (is_new : Bool) → IsRegisterOf r names → is_new ≡ not (contains bytes_eq r.known n) → SetUpdates bytes_eq r.known next.known n true
    → next.repeated ≡ option_or r.repeated (if is_new then None else Some n) → IsRegisterOf next (names ++ n ∷ [])
registered r next names n is_new is new u e = record {
  known = λ f. u.0 f ∙ by f (bytes_eq n f) refl ∙ sym (list_any-append (bytes_eq f) names (n ∷ []));
  first = e ∙ ap (option_or r.repeated) (new_or_not (contains bytes_eq r.known n) is_new n new)
      ∙ ap (λ o. option_or o (if contains bytes_eq r.known n then Some n else None)) is.first ∙ ap (λ b. option_or (repeated [] names) (if b then Some n else None)) (is.known n)
      ∙ sym (repeated-append [] names (n ∷ []));
}
  where
    by : (f : List ℕ) (b : Bool) → bytes_eq n f ≡ b → cond b true (contains bytes_eq r.known f) ≡ (list_any (bytes_eq f) names || (bytes_eq f n || false))
    by f true e = sym (ap (λ c. list_any (bytes_eq f) names || (c || false)) (same_test f n ∙ e) ∙ or_true (list_any (bytes_eq f) names))
    by f false e = is.known f ∙ sym (ap (λ c. list_any (bytes_eq f) names || (c || false)) (same_test f n ∙ e) ∙ or_false (list_any (bytes_eq f) names))

-- The names of all kinds ------------------------------------------------------------------------------------------

module _ (p : Parts) (n : List ℕ) where
  pub names_var : p.locks ≡ [] → p.threads ≡ [] → names_of (record p { vars = p.vars ++ n ∷ [] }) ≡ names_of p ++ n ∷ []
  names_var e f = alone (p.vars ++ n ∷ []) ∙ ap (λ ns. ns ++ n ∷ []) (sym (alone p.vars))
    where
      alone : (vars : List (List ℕ)) → (vars ++ p.locks) ++ thread_names p.threads ≡ vars
      alone vars = ap (λ ls. (vars ++ ls) ++ thread_names p.threads) e ∙ ap (λ ts. (vars ++ []) ++ thread_names ts) f ∙ append-nil (vars ++ []) ∙ append-nil vars

  pub names_lock : p.threads ≡ [] → names_of (record p { locks = p.locks ++ n ∷ [] }) ≡ names_of p ++ n ∷ []
  names_lock f =
      alone (p.locks ++ n ∷ []) ∙ sym (append_assoc p.vars p.locks (n ∷ [])) ∙ ap (λ ns. ns ++ n ∷ []) (sym (alone p.locks))
    where
      alone : (locks : List (List ℕ)) → (p.vars ++ locks) ++ thread_names p.threads ≡ p.vars ++ locks
      alone locks = ap (λ ts. (p.vars ++ locks) ++ thread_names ts) f ∙ append-nil (p.vars ++ locks)

  pub names_thread : names_of (record p { threads = p.threads ++ record { name = n; lines = [] } ∷ [] }) ≡ names_of p ++ n ∷ []
  names_thread =
      ap (λ ns. (p.vars ++ p.locks) ++ ns) (map-append (λ t. t.name) p.threads (record { name = n; lines = [] } ∷ []))
      ∙ sym (append_assoc (p.vars ++ p.locks) (thread_names p.threads) (n ∷ []))

same_threads : (ts : List ThreadCode) (l : Line) → thread_names (with_line ts l) ≡ thread_names ts
same_threads [] l = refl
same_threads (t ∷ []) l = refl
same_threads (t ∷ u ∷ ts) l = ap (λ ns. t.name ∷ ns) (same_threads (u ∷ ts) l)

pub names_line : (p : Parts) (l : Line) → names_of (record p { threads = with_line p.threads l }) ≡ names_of p
names_line p l = ap (λ ns. (p.vars ++ p.locks) ++ ns) (same_threads p.threads l)
