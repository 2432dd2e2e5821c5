-- Walks that put certificates among proofs, in place.
use Rattle.std.proofs.Common.{◌≡◌, ℕ, zero, suc, ◌+◌, ◌==◌, ◌<◌, ◌≤◌, List, [], ◌∷◌, ◌++◌, length, map, take, drop, set, get_or, refl, ap, sym, ◌∙◌, arith, add-one, append-nil, Bool, true, false, cond, Some, None}
use Rattle.std.proofs.lemmas.List.{drop_all, take_all}
use Rattle.cov_ast.specs.Syntax.{Cert, Proof, Thread, more}
use Rattle.cov_ast.specs.View.{Placed, block_of}
use Rattle.annotate.specs.Inside.Putting.{put_in_stmt, with_chosen}
use Rattle.annotate.specs.WithCertificates.{chosen_for, for_others, proof_of, put_in, put_in_stm, put_in_thread, put_in_threads, with_certs}

-- Items that are changed one after another ---------------------------------------------------------------------

module _ {X Y : Type 0} (v : X → Y) (f : Y → Y) where
  -- those before an index are changed, the others are still to be
  abbrev pub mixed : ℕ → List X → List Y
  mixed i xs = map v (take i xs) ++ map f (map v (drop i xs))

  next : (xs : List X) (i : ℕ) (d y : X) → i < length xs → v y ≡ f (v (get_or xs i d)) → mixed (suc i) (set xs i y) ≡ mixed i xs
  next [] i d y inside is = absurd (omega (arith, inside))
  next (x ∷ xs) zero d y inside is = λ j. is j ∷ map f (map v xs)
  next (x ∷ xs) (suc i) d y inside is = ap (◌∷◌ (v x)) (next xs i d y (omega (arith, inside)) is)

  pub changed_more : (old xs : List X) (i : ℕ) (d y : X) → i < length xs → v y ≡ f (v (get_or xs i d)) → mixed i xs ≡ map f (map v old)
      → mixed (i + 1) (set xs i y) ≡ map f (map v old)
  changed_more old xs i d y inside is h = ap (λ n. mixed n (set xs i y)) (add-one i) ∙ next xs i d y inside is ∙ h

  pub changed_all : (old xs : List X) (i : ℕ) → length xs ≤ i → mixed i xs ≡ map f (map v old) → map v xs ≡ map f (map v old)
  changed_all old xs i past h =
      sym (append-nil (map v xs)) ∙ (λ j. map v (sym (take_all i xs past) j) ++ map f (map v (sym (drop_all i xs past) j))) ∙ h

-- Blocks and threads -------------------------------------------------------------------------------------------

pub block_put_in : (chosen : (place : ℕ) → List (ℕ × Cert)) (ss : List Placed) → block_of (map (put_in_stmt chosen) ss) ≡ put_in chosen (block_of ss)
block_put_in chosen [] = refl
block_put_in chosen (s ∷ ss) = ap (more s.at (put_in_stm chosen s.stm) (with_certs (chosen s.at) s.proofs)) (block_put_in chosen ss)

-- threads before a number have what is chosen, those from there on are still to have it
abbrev pub threads_mixed : (chosen : (t place : ℕ) → List (ℕ × Cert)) → ℕ → List Thread → List Thread
threads_mixed chosen t hs = take t hs ++ put_in_threads chosen t (drop t hs)

thread_next : (chosen : (t place : ℕ) → List (ℕ × Cert)) (k t : ℕ) (hs : List Thread) (d h : Thread) → t < length hs → h ≡ put_in_thread (chosen k) (get_or hs t d)
    → take (suc t) (set hs t h) ++ put_in_threads chosen (suc k) (drop (suc t) (set hs t h)) ≡ take t hs ++ put_in_threads chosen k (drop t hs)
thread_next chosen k t [] d h inside is = absurd (omega (arith, inside))
thread_next chosen k zero (x ∷ xs) d h inside is = λ j. is j ∷ put_in_threads chosen (suc k) xs
thread_next chosen k (suc t) (x ∷ xs) d h inside is = ap (λ hs. x ∷ hs) (thread_next chosen k t xs d h (omega (arith, inside)) is)

pub threads_more : (chosen : (t place : ℕ) → List (ℕ × Cert)) (t : ℕ) (hs : List Thread) (d h : Thread) → t < length hs → h ≡ put_in_thread (chosen t) (get_or hs t d)
    → threads_mixed chosen (t + 1) (set hs t h) ≡ threads_mixed chosen t hs
threads_more chosen t hs d h inside is = ap (λ n. threads_mixed chosen n (set hs t h)) (add-one t) ∙ thread_next chosen t t hs d h inside is

pub threads_all : (chosen : (t place : ℕ) → List (ℕ × Cert)) (t : ℕ) (hs : List Thread) → length hs ≤ t → hs ≡ threads_mixed chosen t hs
threads_all chosen t hs past =
    sym (append-nil hs) ∙ (λ j. sym (take_all t hs past) j ++ put_in_threads chosen t (sym (drop_all t hs past) j))

-- Proofs -------------------------------------------------------------------------------------------------------

-- proofs before an index have what is chosen, and what is left is for those from there on
abbrev pub proofs_mixed : List (ℕ × Cert) → ℕ → List Proof → List Proof
proofs_mixed rest i qs = take i qs ++ with_certs rest (drop i qs)

proof_next : (rest left : List (ℕ × Cert)) (i : ℕ) (qs : List Proof) (d q : Proof) → i < length qs → q ≡ with_chosen rest (get_or qs i d)
    → left ≡ for_others (get_or qs i d).number rest → proofs_mixed left (suc i) (set qs i q) ≡ proofs_mixed rest i qs
proof_next rest left i [] d q inside is others = absurd (omega (arith, inside))
proof_next rest left zero (x ∷ xs) d q inside is others = λ j. is j ∷ with_certs (others j) xs
proof_next rest left (suc i) (x ∷ xs) d q inside is others = ap (λ qs. x ∷ qs) (proof_next rest left i xs d q (omega (arith, inside)) is others)

pub proofs_more : (rest left : List (ℕ × Cert)) (i : ℕ) (qs : List Proof) (d q : Proof) → i < length qs → q ≡ with_chosen rest (get_or qs i d)
    → left ≡ for_others (get_or qs i d).number rest → proofs_mixed left (i + 1) (set qs i q) ≡ proofs_mixed rest i qs
proofs_more rest left i qs d q inside is others = ap (λ n. proofs_mixed left n (set qs i q)) (add-one i) ∙ proof_next rest left i qs d q inside is others

pub proofs_all : (rest : List (ℕ × Cert)) (i : ℕ) (qs : List Proof) → length qs ≤ i → qs ++ map proof_of rest ≡ proofs_mixed rest i qs
proofs_all rest i qs past = λ j. sym (take_all i qs past) j ++ with_certs rest (sym (drop_all i qs past) j)

-- where nothing is chosen for a number, all of it is for others
pub none_for : (rest : List (ℕ × Cert)) (n : ℕ) → chosen_for rest n ≡ None → for_others n rest ≡ rest
none_for [] n h = refl
none_for (c ∷ cs) n h = go (c.0 == n) h (none_for cs n)
  where
    go : (b : Bool) → cond b (Some c.1) (chosen_for cs n) ≡ None → (chosen_for cs n ≡ None → for_others n cs ≡ cs) → cond b (for_others n cs) (c ∷ for_others n cs) ≡ c ∷ cs
    go true k rest = cc
    go false k rest = ap (λ ds. c ∷ ds) (rest k)
