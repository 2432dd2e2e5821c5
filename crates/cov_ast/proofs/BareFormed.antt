-- A well formed program is well formed without its annotations: it has the same declarations, and of the places and the
-- counted things of each thread a part.
use Rattle.std.proofs.Common.{◌≡◌, ◌⊎◌, inl, inr, ℕ, ◌+◌, ◌≤◌, ◌<◌, ◌==◌, ◌||◌, List, [], ◌∷◌, ◌++◌, length, map, Bool, true, false, not, refl, sym, ap, subst, arith, IsTrue, None}
use Rattle.std.specs.List.{list_any}
use Rattle.std.specs.Str.{bytes_eq}
use Rattle.std.proofs.lemmas.List.{length-map}
use Rattle.std.proofs.lemmas.List.Elements.{All-nil, All-map}
use Rattle.std.proofs.lemmas.Bool.{and_from}
use Rattle.cov_expr.specs.Term.{Term}
use Rattle.cov_expr.specs.Words.{HasWords}
use Rattle.cov_expr.proofs.Tests.{left_true, right_true}
use Rattle.cov_ast.specs.Syntax.{Var, Lock, Proof, Stm, Block, done, more, Thread, Program}
use Rattle.cov_ast.specs.Syntax as annotated
use Rattle.cov_ast.specs.Plain.{no_state, with_statement, bare_kind, bare_block, bare_thread, bare}
use Rattle.cov_ast.specs.WellFormed.{IsStateInRange, IsCertInRange, IsExprInRange, IsStmInRange, IsBlockInRange, IsThreadInRange, CertHasWords, StateHasWords, StmHasWords, BlockHasWords, IsBodyFine, IsSilent, IsSilentStm, IsWellFormed, are_distinct, places, places_within, stm_size, block_size}

-- Parts of lists -----------------------------------------------------------------------------------------------

-- a first list is a second one, of which some items may be left out
abbrev IsPart : List ℕ → List ℕ → Type 0
IsPart [] ys = Unit {0}
IsPart (x ∷ xs) [] = ⊥
IsPart (x ∷ xs) (y ∷ ys) = ((x ≡ y) × IsPart xs ys) ⊎ IsPart (x ∷ xs) ys

part_later : (xs : List ℕ) (y : ℕ) (ys : List ℕ) → IsPart xs ys → IsPart xs (y ∷ ys)
part_later [] y ys h = tt
part_later (x ∷ xs) y ys h = inr h

part_behind : (bs cs ds : List ℕ) → IsPart cs ds → IsPart cs (bs ++ ds)
part_behind [] cs ds h = h
part_behind (b ∷ bs) cs ds h = part_later cs b (bs ++ ds) (part_behind bs cs ds h)

part_append : (xs ys cs ds : List ℕ) → IsPart xs ys → IsPart cs ds → IsPart (xs ++ cs) (ys ++ ds)
part_append [] ys cs ds h k = part_behind ys cs ds k
part_append (x ∷ xs) [] cs ds h k = absurd h
part_append (x ∷ xs) (y ∷ ys) cs ds (inl h) k = inl (h.0, part_append xs ys cs ds h.1 k)
part_append (x ∷ xs) (y ∷ ys) cs ds (inr h) k = inr (part_append (x ∷ xs) ys cs ds h k)

neither : (a b : Bool) → not a ≡ true → not b ≡ true → not (a || b) ≡ true
neither true b h k = h
neither false b h k = k

not_first : (a b : Bool) → not (a || b) ≡ true → not a ≡ true
not_first true b h = h
not_first false b h = refl

not_second : (a b : Bool) → not (a || b) ≡ true → not b ≡ true
not_second true b h = let e : false ≡ true = h in cc
not_second false b h = h

-- what equals no item of a list equals none of its part
part_none : (x : ℕ) (xs ys : List ℕ) → IsPart xs ys → not (list_any (◌==◌ x) ys) ≡ true → not (list_any (◌==◌ x) xs) ≡ true
part_none x [] ys h k = refl
part_none x (z ∷ xs) [] h k = absurd h
part_none x (z ∷ xs) (y ∷ ys) (inl h) k =
    neither (x == z) (list_any (◌==◌ x) xs)
    (subst (λ w. not (x == w) ≡ true) (sym h.0) (not_first (x == y) (list_any (◌==◌ x) ys) k))
    (part_none x xs ys h.1 (not_second (x == y) (list_any (◌==◌ x) ys) k))
part_none x (z ∷ xs) (y ∷ ys) (inr h) k = part_none x (z ∷ xs) ys h (not_second (x == y) (list_any (◌==◌ x) ys) k)

part_distinct : (xs ys : List ℕ) → IsPart xs ys → are_distinct (◌==◌) ys ≡ true → are_distinct (◌==◌) xs ≡ true
part_distinct [] ys h k = refl
part_distinct (x ∷ xs) [] h k = absurd h
part_distinct (x ∷ xs) (y ∷ ys) (inl h) k =
    and_from (not (list_any (◌==◌ x) xs)) (are_distinct (◌==◌) xs)
    (part_none x xs ys h.1 (subst (λ z. not (list_any (◌==◌ z) ys) ≡ true) (sym h.0) (left_true (not (list_any (◌==◌ y) ys)) (are_distinct (◌==◌) ys) k)))
    (part_distinct xs ys h.1 (right_true (not (list_any (◌==◌ y) ys)) (are_distinct (◌==◌) ys) k))
part_distinct (x ∷ xs) (y ∷ ys) (inr h) k = part_distinct (x ∷ xs) ys h (right_true (not (list_any (◌==◌ y) ys)) (are_distinct (◌==◌) ys) k)

-- Places -------------------------------------------------------------------------------------------------------

mutual
  stm_places : (s : Stm) (at : ℕ) (rest whole : Block) → IsPart (places rest) (places whole)
      → IsPart (places (with_statement at (bare_kind s) rest)) (at ∷ places_within s ++ places whole)
  stm_places (annotated.branch e a b state) at rest whole h =
      inl (
        refl,
        part_append (places (bare_block a) ++ places (bare_block b)) (places a ++ places b) (places rest) (places whole)
            (part_append (places (bare_block a)) (places a) (places (bare_block b)) (places b) (block_places a) (block_places b)) h,
      )
  stm_places (annotated.loop e state b) at rest whole h =
      inl (refl, part_append (places (bare_block b)) (places b) (places rest) (places whole) (block_places b) h)
  stm_places (annotated.note state) at rest whole h = part_later (places rest) at (places whole) h
  stm_places _ at rest whole h = inl (refl, h)

  block_places : (b : Block) → IsPart (places (bare_block b)) (places b)
  block_places done = tt
  block_places (more at s proofs b) = stm_places s at (bare_block b) b (block_places b)

-- Sizes --------------------------------------------------------------------------------------------------------

mutual
  stm_smaller : (s : Stm) (at : ℕ) (rest whole : Block) → block_size rest ≤ block_size whole
      → block_size (with_statement at (bare_kind s) rest) ≤ 1 + stm_size s + block_size whole
  stm_smaller (annotated.branch e a b state) at rest whole h = omega (arith, h, block_smaller a, block_smaller b)
  stm_smaller (annotated.loop e state b) at rest whole h = omega (arith, h, block_smaller b)
  stm_smaller _ at rest whole h = omega (arith, h)

  block_smaller : (b : Block) → block_size (bare_block b) ≤ block_size b
  block_smaller done = omega arith
  block_smaller (more at s proofs b) = stm_smaller s at (bare_block b) b (block_smaller b)

body_fine : (b : Block) → IsBodyFine b → IsBodyFine (bare_block b)
body_fine b fine = record {
  places_differ = part_distinct (places (bare_block b)) (places b) (block_places b) fine.places_differ;
  small = let less = block_smaller b in let small = fine.small in omega (arith, less, small);
}

-- Ids ----------------------------------------------------------------------------------------------------------

module _ (vars locks : ℕ) where
  no_state_in_range : IsStateInRange vars locks no_state
  no_state_in_range = record { preds = All-nil (IsExprInRange vars locks); types = All-nil _ }

  bare_next : (at : ℕ) (s : Stm) (rest : Block) → IsStmInRange vars locks s → IsBlockInRange vars locks rest → IsBlockInRange vars locks (more at s [] rest)
  bare_next at s rest h k = (h, All-nil (λ (p : Proof). IsCertInRange vars locks p.cert), k)

  mutual
    stm_ids : (s : Stm) (at : ℕ) (rest : Block) → IsStmInRange vars locks s → IsBlockInRange vars locks rest → IsBlockInRange vars locks (with_statement at (bare_kind s) rest)
    stm_ids (annotated.assign x e q retypes) at rest h k =
        bare_next at (annotated.assign x e None []) rest (h.0, h.1, tt, All-nil (λ (t : ℕ × Term). (t.0 < vars) × IsExprInRange vars locks t.1)) k
    stm_ids (annotated.branch e a b state) at rest h k =
        bare_next at (annotated.branch e (bare_block a) (bare_block b) no_state) rest (h.0, block_ids a h.1, block_ids b h.2, no_state_in_range) k
    stm_ids (annotated.loop e state b) at rest h k =
        bare_next at (annotated.loop e no_state (bare_block b)) rest (h.0, no_state_in_range, block_ids b h.2) k
    stm_ids (annotated.note state) at rest h k = k
    stm_ids s at rest h k = bare_next at s rest h k

    block_ids : (b : Block) → IsBlockInRange vars locks b → IsBlockInRange vars locks (bare_block b)
    block_ids done h = tt
    block_ids (more at s proofs b) h = stm_ids s at (bare_block b) h.0 (block_ids b h.2)

  thread_ids : (t : Thread) → IsThreadInRange vars locks t → IsThreadInRange vars locks (bare_thread t)
  thread_ids t h = record { modes = h.modes; body = block_ids t.body h.body }

-- Words --------------------------------------------------------------------------------------------------------

no_state_of_words : StateHasWords no_state
no_state_of_words = record { preds = All-nil HasWords; types = All-nil (λ (t : ℕ × Term). HasWords t.1) }

next_of_words : (at : ℕ) (s : Stm) (rest : Block) → StmHasWords s → BlockHasWords rest → BlockHasWords (more at s [] rest)
next_of_words at s rest h k = (h, All-nil (λ (p : Proof). CertHasWords p.cert), k)

mutual
  stm_words : (s : Stm) (at : ℕ) (rest : Block) → StmHasWords s → BlockHasWords rest → BlockHasWords (with_statement at (bare_kind s) rest)
  stm_words (annotated.assign x e q retypes) at rest h k =
      next_of_words at (annotated.assign x e None []) rest (h.0, tt, All-nil (λ (t : ℕ × Term). HasWords t.1)) k
  stm_words (annotated.branch e a b state) at rest h k =
      next_of_words at (annotated.branch e (bare_block a) (bare_block b) no_state) rest (h.0, block_words a h.1, block_words b h.2, no_state_of_words) k
  stm_words (annotated.loop e state b) at rest h k =
      next_of_words at (annotated.loop e no_state (bare_block b)) rest (h.0, no_state_of_words, block_words b h.2) k
  stm_words (annotated.note state) at rest h k = k
  stm_words s at rest h k = next_of_words at s rest h k

  block_words : (b : Block) → BlockHasWords b → BlockHasWords (bare_block b)
  block_words done h = tt
  block_words (more at s proofs b) h = stm_words s at (bare_block b) h.0 (block_words b h.2)

-- Versions -----------------------------------------------------------------------------------------------------

mutual
  stm_silent : (s : Stm) (at : ℕ) (rest : Block) → IsSilentStm s → IsSilent rest → IsSilent (with_statement at (bare_kind s) rest)
  stm_silent (annotated.branch e a b state) at rest h k = ((block_silent a h.0, block_silent b h.1), k)
  stm_silent (annotated.loop e state b) at rest h k = (block_silent b h, k)
  stm_silent (annotated.note state) at rest h k = k
  stm_silent (annotated.output e) at rest h k = absurd h
  stm_silent _ at rest h k = (h, k)

  block_silent : (b : Block) → IsSilent b → IsSilent (bare_block b)
  block_silent done h = tt
  block_silent (more at s proofs b) h = stm_silent s at (bare_block b) h.0 (block_silent b h.1)

-- Programs -----------------------------------------------------------------------------------------------------

same_names : (ts : List Thread) → map (λ t. t.name) (map bare_thread ts) ≡ map (λ t. t.name) ts
same_names [] = refl
same_names (t ∷ ts) = ap (◌∷◌ t.name) (same_names ts)

-- a program is as well formed without its annotations as it is with them
bare_is_formed : (p : Program) → IsWellFormed p → IsWellFormed (bare p)
bare_is_formed p fine = record {
  ids = record {
    classes = fine.ids.classes;
    of_locks = fine.ids.of_locks;
    of_threads = All-map (IsThreadInRange (length p.vars) (length p.locks)) bare_thread p.threads
        (λ i d inside. thread_ids (length p.vars) (length p.locks) _ (fine.ids.of_threads i d inside));
  };
  words = record {
    classes = fine.words.classes;
    invariants = fine.words.invariants;
    bodies = All-map (λ (t : Thread). BlockHasWords t.body) bare_thread p.threads (λ i d inside. block_words _ (fine.words.bodies i d inside));
  };
  names_differ = subst (λ names. IsTrue (are_distinct bytes_eq (map (λ v. v.name) p.vars ++ map (λ l. l.name) p.locks ++ names))) (sym (same_names p.threads)) fine.names_differ;
  limits = record {
    variables = fine.limits.variables;
    declared_locks = fine.limits.declared_locks;
    declared_threads = subst (λ n. n ≤ 16) (sym (length-map p.threads bare_thread)) fine.limits.declared_threads;
  };
  bodies = All-map (λ (t : Thread). IsBodyFine t.body) bare_thread p.threads (λ i d inside. body_fine _ (fine.bodies i d inside));
  version = record {
    known = fine.version.known;
    silent = λ first. All-map (λ (t : Thread). IsSilent t.body) bare_thread p.threads (λ i d inside. block_silent _ (fine.version.silent first i d inside));
  };
}

-- the same, by what stands in the program that was made
pub bare_formed : (p : Program) (version : ℕ) (vars : List Var) (locks : List Lock) (threads : List Thread)
    → version ≡ p.version → vars ≡ p.vars → locks ≡ p.locks → threads ≡ map bare_thread p.threads → IsWellFormed p
    → IsWellFormed (record { version = version; vars = vars; locks = locks; threads = threads })
bare_formed p version vars locks threads d e f g fine = subst IsWellFormed (sym is) (bare_is_formed p fine)
  where
    is : (record { version = version; vars = vars; locks = locks; threads = threads }) ≡ bare p
    is = λ i. record { version = d i; vars = e i; locks = f i; threads = g i }
