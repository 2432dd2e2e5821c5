-- The annotated program of a well formed one is well formed.
use Rattle.std.proofs.Common.{◌≡◌, ℕ, suc, ◌+◌, ◌<◌, ◌≤◌, ◌==◌, List, [], ◌∷◌, ◌++◌, length, map, refl, sym, ap, subst, All, IsTrue}
use Rattle.std.specs.Str.{bytes_eq}
use Rattle.std.proofs.lemmas.List.Elements.{All-cons, All-contains, All-head, All-nil, All-tail, All-weaker}
use Rattle.cov_expr.specs.declared.limits.TheConstants.{MOST_THREADS}
use Rattle.cov_expr.specs.Trees.{nodes}
use Rattle.cov_ast.specs.Syntax.{Cert, Stm, branch, loop, Block, done, more, Thread, Program, Parsed}
use Rattle.cov_ast.specs.WellFormed.{are_distinct, block_size, BlockHasWords, CertHasWords, IsBlockInRange, IsBodyFine, IsCertInRange, IsSilent, IsSilentStm, IsStmInRange, IsThreadInRange, IsWellFormed, most_size, places, places_within, stm_size, state_size, StmHasWords}
use Rattle.policy_class.specs.Resolved.{lock_id, resolved, resolved_lock, resolved_variable, var_id}
use Rattle.typing_law.specs.ThreadEntailments.{PlacedEntailment, thread_entailments}
use Rattle.cert_search.proofs.Sound.{search_sound}
use Rattle.annotate.specs.Annotated.{annotated, choices, IsChoice, IsOfWordsBelow}
use Rattle.annotate.specs.WithCertificates.{put_in, put_in_program, put_in_stm, put_in_thread, put_in_threads}
use Rattle.annotate.proofs.PutLaws.{proofs_have}
use Rattle.annotate.proofs.ChoiceLaws.{choices_are}
use Rattle.annotate.proofs.CertsInRange.{all_below, all_words, below_of, class_in_range, IsCertInRangeOfWords, words_of}
use Rattle.annotate.proofs.PointsInRange.{entailments_in_range, Every, IsPlacedInRangeOfWords}

-- Choices ------------------------------------------------------------------------------------------------------

module _ (p : Program) (formed : IsWellFormed p) (t : ℕ) where
  all_placed : (gs : List PlacedEntailment) → Every (IsPlacedInRangeOfWords p formed t) gs → All (IsPlacedInRangeOfWords p formed t) gs
  all_placed [] h = All-nil (IsPlacedInRangeOfWords p formed t)
  all_placed (g ∷ gs) h = All-cons (IsPlacedInRangeOfWords p formed t) g gs h.0 (all_placed gs h.1)

  pub listed_in_range : All (λ g. IsOfWordsBelow (length p.vars) g.entailment) (thread_entailments p t)
  listed_in_range =
      let n = length p.vars in
      All-weaker (IsPlacedInRangeOfWords p formed t) (λ g. IsOfWordsBelow n g.entailment)
      (λ g f. record {
        hyps_below = all_below n g.entailment.hyps f.0;
        hyp_words = all_words n g.entailment.hyps f.0;
        goal_below = below_of n g.entailment.goal f.1;
        goal_words = words_of n g.entailment.goal f.1;
      })
      (thread_entailments p t) (all_placed (thread_entailments p t) (entailments_in_range p formed t))

module _ (depth : ℕ) (p : Program) (formed : IsWellFormed p) (t : ℕ) where
  choice_in_range : (x : ℕ) (c : ℕ × Cert) → IsChoice depth p t x c → IsCertInRangeOfWords (length p.vars) (length p.locks) c.1
  choice_in_range x c h =
      let g = h.of in
      let f : IsPlacedInRangeOfWords p formed t g =
      All-contains (IsPlacedInRangeOfWords p formed t) (thread_entailments p t) g (all_placed p formed t (thread_entailments p t) (entailments_in_range p formed t)) h.listed in
      class_in_range (length p.vars) (length p.locks) depth g.entailment.hyps g.entailment.goal c.1 f.0 f.1
      (search_sound depth g.entailment.hyps g.entailment.goal c.1 h.found).passes

  pub choices_in_range : (x : ℕ) → All (λ c. IsCertInRange (length p.vars) (length p.locks) c.1) (choices depth p t x)
  choices_in_range x = λ k d lt. (choice_in_range x _ (choices_are depth p t x k d lt)).0

  pub choices_have_words : (x : ℕ) → All (λ c. CertHasWords c.1) (choices depth p t x)
  choices_have_words x = λ k d lt. (choice_in_range x _ (choices_are depth p t x k d lt)).1

-- Blocks -------------------------------------------------------------------------------------------------------

module _ (chosen : ℕ → List (ℕ × Cert)) where
  module _ (n l : ℕ) (inside : (x : ℕ) → All (λ c. IsCertInRange n l c.1) (chosen x)) where
    mutual
      stm_in_range : (c : Stm) → IsStmInRange n l c → IsStmInRange n l (put_in_stm chosen c)
      stm_in_range (branch e a b join) r = (r.0, block_in_range a r.1, block_in_range b r.2, r.3)
      stm_in_range (loop e inv b) r = (r.0, r.1, block_in_range b r.2)
      stm_in_range _ r = r

      pub block_in_range : (b : Block) → IsBlockInRange n l b → IsBlockInRange n l (put_in chosen b)
      block_in_range done r = r
      block_in_range (more at c proofs b) r = (stm_in_range c r.0, proofs_have (IsCertInRange n l) (chosen at) proofs (inside at) r.1, block_in_range b r.2)

  module _ (words : (x : ℕ) → All (λ c. CertHasWords c.1) (chosen x)) where
    mutual
      stm_has_words : (c : Stm) → StmHasWords c → StmHasWords (put_in_stm chosen c)
      stm_has_words (branch e a b join) r = (r.0, block_has_words a r.1, block_has_words b r.2, r.3)
      stm_has_words (loop e inv b) r = (r.0, r.1, block_has_words b r.2)
      stm_has_words _ r = r

      block_has_words : (b : Block) → BlockHasWords b → BlockHasWords (put_in chosen b)
      block_has_words done r = r
      block_has_words (more at c proofs b) r = (stm_has_words c r.0, proofs_have CertHasWords (chosen at) proofs (words at) r.1, block_has_words b r.2)

  mutual
    within_same : (c : Stm) → places_within (put_in_stm chosen c) ≡ places_within c
    within_same (branch e a b join) = λ i. places_same a i ++ places_same b i
    within_same (loop e inv b) = places_same b
    within_same _ = refl

    places_same : (b : Block) → places (put_in chosen b) ≡ places b
    places_same done = refl
    places_same (more at c proofs b) = λ i. at ∷ within_same c i ++ places_same b i

  mutual
    stm_size_same : (c : Stm) → stm_size (put_in_stm chosen c) ≡ stm_size c
    stm_size_same (branch e a b join) = λ i. nodes e + size_same a i + size_same b i + state_size join
    stm_size_same (loop e inv b) = λ i. nodes e + state_size inv + size_same b i
    stm_size_same _ = refl

    size_same : (b : Block) → block_size (put_in chosen b) ≡ block_size b
    size_same done = refl
    size_same (more at c proofs b) = λ i. 1 + stm_size_same c i + size_same b i

  mutual
    stm_silent : (c : Stm) → IsSilentStm c → IsSilentStm (put_in_stm chosen c)
    stm_silent (branch e a b join) r = (block_silent a r.0, block_silent b r.1)
    stm_silent (loop e inv b) r = block_silent b r
    stm_silent _ r = r

    pub block_silent : (b : Block) → IsSilent b → IsSilent (put_in chosen b)
    block_silent done r = r
    block_silent (more at c proofs b) r = (stm_silent c r.0, block_silent b r.1)

  pub body_fine : (b : Block) → IsBodyFine b → IsBodyFine (put_in chosen b)
  body_fine b f = record {
    places_differ = subst (λ xs. IsTrue (are_distinct (◌==◌) xs)) (sym (places_same b)) f.places_differ;
    small = subst (λ n. n < most_size) (sym (size_same b)) f.small;
  }

-- Programs -----------------------------------------------------------------------------------------------------

module _ (chosen : (t place : ℕ) → List (ℕ × Cert)) where
  -- what is so of each thread before is so of each thread after
  pub each_thread : (P Q : Thread → Type 0) → ((t : ℕ) (h : Thread) → P h → Q (put_in_thread (chosen t) h)) → (t : ℕ) (hs : List Thread) → All P hs → All Q (put_in_threads chosen t hs)
  each_thread P Q step t [] h = All-nil Q
  each_thread P Q step t (x ∷ hs) h =
      All-cons Q (put_in_thread (chosen t) x) (put_in_threads chosen (suc t) hs) (step t x (All-head P x hs h))
      (each_thread P Q step (suc t) hs (All-tail P x hs h))

  thread_names_same : (t : ℕ) (hs : List Thread) → map (λ h. h.name) (put_in_threads chosen t hs) ≡ map (λ h. h.name) hs
  thread_names_same t [] = refl
  thread_names_same t (h ∷ hs) = ap (λ ns. h.name ∷ ns) (thread_names_same (suc t) hs)

  pub threads_length_same : (t : ℕ) (hs : List Thread) → length (put_in_threads chosen t hs) ≡ length hs
  threads_length_same t [] = refl
  threads_length_same t (h ∷ hs) = ap (λ n. suc n) (threads_length_same (suc t) hs)

  pub program_formed : (p : Program) → ((t x : ℕ) → All (λ c. IsCertInRange (length p.vars) (length p.locks) c.1) (chosen t x))
      → ((t x : ℕ) → All (λ c. CertHasWords c.1) (chosen t x)) → IsWellFormed p → IsWellFormed (put_in_program chosen p)
  program_formed p inside words f =
      let n = length p.vars in
      let l = length p.locks in
      record {
        ids = record {
          classes = f.ids.classes;
          of_locks = f.ids.of_locks;
          of_threads = each_thread (IsThreadInRange n l) (IsThreadInRange n l)
              (λ t h r. record { modes = r.modes; body = block_in_range (chosen t) n l (inside t) h.body r.body }) 0 p.threads f.ids.of_threads;
        };
        words = record {
          classes = f.words.classes;
          invariants = f.words.invariants;
          bodies = each_thread (λ h. BlockHasWords h.body) (λ h. BlockHasWords h.body) (λ t h r. block_has_words (chosen t) (words t) h.body r) 0 p.threads f.words.bodies;
        };
        names_differ = subst (λ ns. IsTrue (are_distinct bytes_eq (map (λ v. v.name) p.vars ++ map (λ k. k.name) p.locks ++ ns))) (sym (thread_names_same 0 p.threads)) f.names_differ;
        limits = record {
          variables = f.limits.variables;
          declared_locks = f.limits.declared_locks;
          declared_threads = subst (λ m. m ≤ MOST_THREADS) (sym (threads_length_same 0 p.threads)) f.limits.declared_threads;
        };
        bodies = each_thread (λ h. IsBodyFine h.body) (λ h. IsBodyFine h.body) (λ t h r. body_fine (chosen t) h.body r) 0 p.threads f.bodies;
        version = record {
          known = f.version.known;
          silent = λ e. each_thread (λ h. IsSilent h.body) (λ h. IsSilent h.body) (λ t h r. block_silent (chosen t) h.body r) 0 p.threads (f.version.silent e);
        };
      }

pub annotated_formed : (depth : ℕ) (p : Program) → IsWellFormed p → IsWellFormed (annotated depth p)
annotated_formed depth p f = program_formed (choices depth p) p (λ t x. choices_in_range depth p f t x) (λ t x. choices_have_words depth p f t x) f

length_map : {X Y : Type 0} (f : X → Y) (xs : List X) → length (map f xs) ≡ length xs
length_map f [] = refl
length_map f (x ∷ xs) = ap (λ n. suc n) (length_map f xs)

-- by the declarations of a text
pub choices_below : (depth : ℕ) (p : Parsed) → IsWellFormed (resolved p) → (t place : ℕ)
    → All (λ c. IsCertInRange (length p.vars) (length p.locks) c.1) (choices depth (resolved p) t place)
choices_below depth p formed t place =
    subst (λ m. All (λ c. IsCertInRange m (length p.locks) c.1) (choices depth (resolved p) t place)) (length_map (resolved_variable (var_id p) (lock_id p)) p.vars)
    (subst (λ k. All (λ c. IsCertInRange (length (resolved p).vars) k c.1) (choices depth (resolved p) t place)) (length_map (resolved_lock (var_id p) (lock_id p)) p.locks)
    (choices_in_range depth (resolved p) formed t place))
