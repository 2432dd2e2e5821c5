-- What an observer is shown of a well formed program is well formed: ids stay in range, expressions are of words, and names, places
-- and sizes stay.
use Rattle.std.proofs.Common.{◌≡◌, ◌⊎◌, ℕ, suc, zero, ◌+◌, ◌<◌, ◌==◌, List, [], ◌∷◌, ◌++◌, length, map, get_or, Bool, true, false, cond, refl, subst, sym, ap, ap₂, ◌∙◌, arith, Option, Some, None, All}
use Rattle.std.specs.Prelude.{option_map, sum_by, find, position}
use Rattle.std.specs.Option.{IfSome}
use Rattle.std.specs.Str.{bytes_eq}
use Rattle.std.proofs.lemmas.List.{length-map}
use Rattle.std.proofs.lemmas.List.Sums.{sum_by-cons}
use Rattle.std.proofs.lemmas.List.Elements.{All-map, All-weaker, All-nil, All-cons, All-head, All-tail}
use Rattle.cov_expr.specs.Term.{Term, const, var, neg, bin, flag}
use Rattle.cov_expr.specs.Trees.{nodes}
use Rattle.cov_expr.specs.Words.{IsWord, HasVarsBelow, HasWords}
use Rattle.cov_expr.specs.declared.expr.TheConstants.{HOLE}
use Rattle.cov_ast.specs.Syntax.{Class, low, high, Var, State, Cert, Proof, Stm, Block, done, more, Thread, Program}
use Rattle.cov_ast.specs.Syntax as s
use Rattle.cov_ast.specs.Plain.{class_term}
use Rattle.cov_ast.specs.Tables.{has}
use Rattle.cov_ast.specs.WellFormed.{IsTemplateBelow, AreTypesInRange, IsStateInRange, IsCertInRange, IsTypeInRange, IsStmInRange, IsBlockInRange, IsThreadInRange, AreIdsInRange, CertHasWords, TypesHaveWords, StateHasWords, TypeHasWords, StmHasWords, BlockHasWords, are_distinct, places_within, places, types_size, state_size, type_size, stm_size, block_size, most_size, IsBodyFine, IsSilent, IsSilentStm, IsWellFormed}
use Rattle.level_text.specs.Lattice as lattice
use Rattle.level_text.specs.Lattice.{Levels, LevelClass}
use Rattle.level_text.specs.Lattice.{AreLevels, IsClassWithin}
use Rattle.levels.specs.Projection.{mark_of, marks_of, number_or, marked_term, marked_type, marked_state, marked_cert, marked_proof, marked_stm, marked_block, marked_thread, shown_class, class_or, listed, shown_var, shown_vars, shown}

-- Lists ---------------------------------------------------------------------------------------------------------

mapped : {X Y : Type 0} (P : Y → Type 0) (Q : X → Type 0) (f : X → Y) → ((x : X) → Q x → P (f x)) → (xs : List X) → All Q xs → All P (map f xs)
mapped P Q f h xs all = All-map P f xs (All-weaker Q (λ x. P (f x)) h xs all)

-- sums over lists that are made item by item
sums_same : {X Y : Type 0} (e : X → ℕ) (f : Y → ℕ) (g : X → Y) → ((x : X) → f (g x) ≡ e x) → (xs : List X) → sum_by f (map g xs) ≡ sum_by e xs
sums_same e f g h [] = refl
sums_same e f g h (x ∷ xs) = sum_by-cons f (g x) (map g xs) ∙ ap₂ (λ a b. a + b) (h x) (sums_same e f g h xs) ∙ sym (sum_by-cons e x xs)

found : {X : Type 0} (P : X → Type 0) (p : X → Bool) (xs : List X) → All P xs → IfSome (find p xs) P
found P p [] all = tt
found P p (x ∷ xs) all = elim (p x) as (λ b. IfSome (cond b (Some x) (find p xs)) P) [ true ↦ All-head P x xs all | false ↦ found P p xs (All-tail P x xs all) ]

-- Marks ---------------------------------------------------------------------------------------------------------

flag_word : (b : Bool) → IsWord (flag b)
flag_word true = omega arith
flag_word false = omega arith

-- a number that stands for a variable is a word
abbrev IsMark : Option ℕ → Type 0
IsMark None = Unit {0}
IsMark (Some k) = IsWord k

mark_is : (seen : List Bool) (o : Option ℕ) → IsMark (option_map (λ b. flag (has seen b)) o)
mark_is seen None = tt
mark_is seen (Some b) = flag_word (has seen b)

marks_are : (seen : List Bool) (names : List (List ℕ)) (vars : List Var) (x : ℕ) → IsMark (get_or (map (mark_of seen names) vars) x None)
marks_are seen names [] x = tt
marks_are seen names (v ∷ vs) zero = mark_is seen (position (bytes_eq v.name) names)
marks_are seen names (v ∷ vs) (suc x) = marks_are seen names vs x

-- Annotations ---------------------------------------------------------------------------------------------------

module _ (marks : List (Option ℕ)) where
  number_nodes : (o : Option ℕ) (x : ℕ) → nodes (number_or o (var x)) ≡ 1
  number_nodes None x = refl
  number_nodes (Some k) x = refl

  nodes_same : (e : Term) → nodes (marked_term marks e) ≡ nodes e
  nodes_same (const k) = refl
  nodes_same (var x) = number_nodes (get_or marks x None) x
  nodes_same (neg e) = ap (λ n. n + 1) (nodes_same e)
  nodes_same (bin op a b) = ap₂ (λ m n. m + n + 1) (nodes_same a) (nodes_same b)

  types_same : (ts : List (ℕ × Term)) → types_size (map (marked_type marks) ts) ≡ types_size ts
  types_same ts = sums_same (λ t. nodes t.1 + 1) (λ t. nodes t.1 + 1) (marked_type marks) (λ t. ap (λ n. n + 1) (nodes_same t.1)) ts

  state_same : (j : State) → state_size (marked_state marks j) ≡ state_size j
  state_same j = ap₂ (λ a b. a + b) (sums_same (λ e. nodes e + 1) (λ e. nodes e + 1) (marked_term marks) (λ e. ap (λ n. n + 1) (nodes_same e)) j.preds) (types_same j.types)

  type_same : (q : Option Term) → type_size (option_map (marked_term marks) q) ≡ type_size q
  type_same None = refl
  type_same (Some e) = nodes_same e

  mutual
    within_same : (c : Stm) → places_within (marked_stm marks c) ≡ places_within c
    within_same (s.branch e a b join) = ap₂ (λ xs ys. xs ++ ys) (places_same a) (places_same b)
    within_same (s.loop e inv b) = places_same b
    within_same _ = refl

    pub places_same : (b : Block) → places (marked_block marks b) ≡ places b
    places_same done = refl
    places_same (more at c proofs b) = ap₂ (λ xs ys. at ∷ xs ++ ys) (within_same c) (places_same b)

  mutual
    stm_same : (c : Stm) → stm_size (marked_stm marks c) ≡ stm_size c
    stm_same (s.assign x e q retypes) = λ i. nodes e + type_same q i + types_same retypes i
    stm_same (s.branch e a b join) = λ i. nodes e + block_same a i + block_same b i + state_same join i
    stm_same (s.loop e inv b) = λ i. nodes e + state_same inv i + block_same b i
    stm_same (s.note j) = state_same j
    stm_same _ = refl

    block_same : (b : Block) → block_size (marked_block marks b) ≡ block_size b
    block_same done = refl
    block_same (more at c proofs b) = ap₂ (λ m n. 1 + m + n) (stm_same c) (block_same b)

  mutual
    stm_silent : (c : Stm) → IsSilentStm c → IsSilentStm (marked_stm marks c)
    stm_silent (s.branch e a b join) h = (block_silent a h.0, block_silent b h.1)
    stm_silent (s.loop e inv b) h = block_silent b h
    stm_silent _ h = h

    block_silent : (b : Block) → IsSilent b → IsSilent (marked_block marks b)
    block_silent done h = h
    block_silent (more at c proofs b) h = (stm_silent c h.0, block_silent b h.1)

  body_fine : (b : Block) → IsBodyFine b → IsBodyFine (marked_block marks b)
  body_fine b h = record {
    places_differ = ap (are_distinct (◌==◌)) (places_same b) ∙ h.places_differ;
    small = subst (λ n. n < most_size) (sym (block_same b)) h.small;
  }

  -- Ids

  module _ (vars locks : ℕ) where
    number_below : (o : Option ℕ) (x : ℕ) → x < vars → HasVarsBelow (number_or o (var x)) vars
    number_below None x h = h
    number_below (Some k) x h = tt

    of_term : (e : Term) → HasVarsBelow e vars → HasVarsBelow (marked_term marks e) vars
    of_term (const k) h = tt
    of_term (var x) h = number_below (get_or marks x None) x h
    of_term (neg e) h = of_term e h
    of_term (bin op a b) h = (of_term a h.0, of_term b h.1)

    number_template : (o : Option ℕ) (x : ℕ) → (x < vars) ⊎ (x ≡ HOLE) → IsTemplateBelow (number_or o (var x)) vars
    number_template None x h = h
    number_template (Some k) x h = tt

    of_template : (e : Term) → IsTemplateBelow e vars → IsTemplateBelow (marked_term marks e) vars
    of_template (const k) h = tt
    of_template (var x) h = number_template (get_or marks x None) x h
    of_template (neg e) h = of_template e h
    of_template (bin op a b) h = (of_template a h.0, of_template b h.1)

    of_terms : (es : List Term) → All (λ e. HasVarsBelow e vars) es → All (λ e. HasVarsBelow e vars) (map (marked_term marks) es)
    of_terms es h = mapped (λ e. HasVarsBelow e vars) (λ e. HasVarsBelow e vars) (marked_term marks) of_term es h

    abbrev IsTypeBelow : ℕ × Term → Type 0
    IsTypeBelow t = (t.0 < vars) × HasVarsBelow t.1 vars

    of_types : (ts : List (ℕ × Term)) → AreTypesInRange vars locks ts → AreTypesInRange vars locks (map (marked_type marks) ts)
    of_types ts h = mapped IsTypeBelow IsTypeBelow (marked_type marks) (λ t k. (k.0, of_term t.1 k.1)) ts h

    of_option : (q : Option Term) → IsTypeInRange vars locks q → IsTypeInRange vars locks (option_map (marked_term marks) q)
    of_option None h = tt
    of_option (Some e) h = of_term e h

    of_state : (j : State) → IsStateInRange vars locks j → IsStateInRange vars locks (marked_state marks j)
    of_state j h = record { preds = of_terms j.preds h.preds; types = of_types j.types h.types }

    of_cert : (c : Cert) → IsCertInRange vars locks c → IsCertInRange vars locks (marked_cert marks c)
    of_cert s.auto h = tt
    of_cert (s.hyp i) h = tt
    of_cert s.calc h = tt
    of_cert (s.clash i) h = tt
    of_cert (s.and c d) h = (of_cert c h.0, of_cert d h.1)
    of_cert (s.left c) h = of_cert c h
    of_cert (s.right c) h = of_cert c h
    of_cert (s.unpack i c) h = of_cert c h
    of_cert (s.cases i c d) h = (of_cert c h.0, of_cert d h.1)
    of_cert (s.split e c d) h = (of_term e h.0, of_cert c h.1, of_cert d h.2)
    of_cert (s.have e c d) h = (of_term e h.0, of_cert c h.1, of_cert d h.2)
    of_cert (s.absurdity i j) h = tt
    of_cert (s.negation c) h = of_cert c h
    of_cert (s.contra c) h = of_cert c h
    of_cert s.reflexive h = tt
    of_cert (s.fwd i e c) h = (of_template e h.0, of_cert c h.1)
    of_cert (s.rev i e c) h = (of_template e h.0, of_cert c h.1)
    of_cert (s.instance k es c) h = (of_terms es h.0, of_cert c h.1)
    of_cert s.ring h = tt
    of_cert s.range h = tt

    of_proofs : (ps : List Proof) → All (λ p. IsCertInRange vars locks p.cert) ps → All (λ p. IsCertInRange vars locks p.cert) (map (marked_proof marks) ps)
    of_proofs ps h = mapped (λ p. IsCertInRange vars locks p.cert) (λ p. IsCertInRange vars locks p.cert) (marked_proof marks) (λ p k. of_cert p.cert k) ps h

    mutual
      of_stm : (c : Stm) → IsStmInRange vars locks c → IsStmInRange vars locks (marked_stm marks c)
      of_stm (s.assign x e q retypes) h = (h.0, h.1, of_option q h.2, of_types retypes h.3)
      of_stm (s.branch e a b join) h = (h.0, of_block a h.1, of_block b h.2, of_state join h.3)
      of_stm (s.loop e inv b) h = (h.0, of_state inv h.1, of_block b h.2)
      of_stm (s.note j) h = of_state j h
      of_stm _ h = h

      of_block : (b : Block) → IsBlockInRange vars locks b → IsBlockInRange vars locks (marked_block marks b)
      of_block done h = tt
      of_block (more at c proofs b) h = (of_stm c h.0, of_proofs proofs h.1, of_block b h.2)

    of_thread : (t : Thread) → IsThreadInRange vars locks t → IsThreadInRange vars locks (marked_thread marks t)
    of_thread t h = record { modes = h.modes; body = of_block t.body h.body }

  -- Words

  module _ (fine : (x : ℕ) → IsMark (get_or marks x None)) where
    number_word : (o : Option ℕ) (x : ℕ) → IsMark o → IsWord x → HasWords (number_or o (var x))
    number_word None x m h = h
    number_word (Some k) x m h = m

    word_term : (e : Term) → HasWords e → HasWords (marked_term marks e)
    word_term (const k) h = h
    word_term (var x) h = number_word (get_or marks x None) x (fine x) h
    word_term (neg e) h = word_term e h
    word_term (bin op a b) h = (word_term a h.0, word_term b h.1)

    word_terms : (es : List Term) → All HasWords es → All HasWords (map (marked_term marks) es)
    word_terms es h = mapped HasWords HasWords (marked_term marks) word_term es h

    word_types : (ts : List (ℕ × Term)) → TypesHaveWords ts → TypesHaveWords (map (marked_type marks) ts)
    word_types ts h = mapped (λ t. HasWords t.1) (λ t. HasWords t.1) (marked_type marks) (λ t k. word_term t.1 k) ts h

    word_option : (q : Option Term) → TypeHasWords q → TypeHasWords (option_map (marked_term marks) q)
    word_option None h = tt
    word_option (Some e) h = word_term e h

    word_state : (j : State) → StateHasWords j → StateHasWords (marked_state marks j)
    word_state j h = record { preds = word_terms j.preds h.preds; types = word_types j.types h.types }

    word_cert : (c : Cert) → CertHasWords c → CertHasWords (marked_cert marks c)
    word_cert s.auto h = tt
    word_cert (s.hyp i) h = tt
    word_cert s.calc h = tt
    word_cert (s.clash i) h = tt
    word_cert (s.and c d) h = (word_cert c h.0, word_cert d h.1)
    word_cert (s.left c) h = word_cert c h
    word_cert (s.right c) h = word_cert c h
    word_cert (s.unpack i c) h = word_cert c h
    word_cert (s.cases i c d) h = (word_cert c h.0, word_cert d h.1)
    word_cert (s.split e c d) h = (word_term e h.0, word_cert c h.1, word_cert d h.2)
    word_cert (s.have e c d) h = (word_term e h.0, word_cert c h.1, word_cert d h.2)
    word_cert (s.absurdity i j) h = tt
    word_cert (s.negation c) h = word_cert c h
    word_cert (s.contra c) h = word_cert c h
    word_cert s.reflexive h = tt
    word_cert (s.fwd i e c) h = (word_term e h.0, word_cert c h.1)
    word_cert (s.rev i e c) h = (word_term e h.0, word_cert c h.1)
    word_cert (s.instance k es c) h = (word_terms es h.0, word_cert c h.1)
    word_cert s.ring h = tt
    word_cert s.range h = tt

    word_proofs : (ps : List Proof) → All (λ p. CertHasWords p.cert) ps → All (λ p. CertHasWords p.cert) (map (marked_proof marks) ps)
    word_proofs ps h = mapped (λ p. CertHasWords p.cert) (λ p. CertHasWords p.cert) (marked_proof marks) (λ p k. word_cert p.cert k) ps h

    mutual
      word_stm : (c : Stm) → StmHasWords c → StmHasWords (marked_stm marks c)
      word_stm (s.assign x e q retypes) h = (h.0, word_option q h.1, word_types retypes h.2)
      word_stm (s.branch e a b join) h = (h.0, word_block a h.1, word_block b h.2, word_state join h.3)
      word_stm (s.loop e inv b) h = (h.0, word_state inv h.1, word_block b h.2)
      word_stm (s.note j) h = word_state j h
      word_stm _ h = h

      word_block : (b : Block) → BlockHasWords b → BlockHasWords (marked_block marks b)
      word_block done h = tt
      word_block (more at c proofs b) h = (word_stm c h.0, word_proofs proofs h.1, word_block b h.2)

  -- Threads

  thread_names : (ts : List Thread) → map (λ t. t.name) (map (marked_thread marks) ts) ≡ map (λ t. t.name) ts
  thread_names [] = refl
  thread_names (t ∷ ts) = ap (λ ns. t.name ∷ ns) (thread_names ts)

-- Variables -----------------------------------------------------------------------------------------------------

module _ (seen : List Bool) (l : Levels) where
  vars_long : (x : ℕ) (vs : List Var) → length (shown_vars seen l x vs) ≡ length vs
  vars_long x [] = refl
  vars_long x (v ∷ vs) = ap suc (vars_long (suc x) vs)

  var_names : (x : ℕ) (vs : List Var) → map (λ v. v.name) (shown_vars seen l x vs) ≡ map (λ v. v.name) vs
  var_names x [] = refl
  var_names x (v ∷ vs) = ap (λ ns. v.name ∷ ns) (var_names (suc x) vs)

  if_below : (b : Bool) (n : ℕ) → HasVarsBelow (class_term (cond b low high)) n
  if_below true n = tt
  if_below false n = tt

  if_words : (b : Bool) → HasWords (class_term (cond b low high))
  if_words true = omega arith
  if_words false = omega arith

  class_below : (count n : ℕ) (c : LevelClass) → IsClassWithin count n c → HasVarsBelow (class_term (shown_class seen c)) n
  class_below count n (lattice.at_level b) h = if_below (has seen b) n
  class_below count n (lattice.either_level e b c) h = ((h.0, tt), (h.0, tt))

  class_words : (count n : ℕ) (c : LevelClass) → IsClassWithin count n c → HasWords (class_term (shown_class seen c))
  class_words count n (lattice.at_level b) h = if_words (has seen b)
  class_words count n (lattice.either_level e b c) h = ((h.1, flag_word (has seen b)), (h.1, flag_word (has seen c)))

  or_below : (count n : ℕ) (o : Option (ℕ × LevelClass)) (own : Class) → IfSome o (λ c. IsClassWithin count n c.1) → HasVarsBelow (class_term own) n → HasVarsBelow (class_term (class_or seen o own)) n
  or_below count n None own h k = k
  or_below count n (Some c) own h k = class_below count n c.1 h

  or_words : (count n : ℕ) (o : Option (ℕ × LevelClass)) (own : Class) → IfSome o (λ c. IsClassWithin count n c.1) → HasWords (class_term own) → HasWords (class_term (class_or seen o own))
  or_words count n None own h k = k
  or_words count n (Some c) own h k = class_words count n c.1 h

  module _ (n : ℕ) (h : AreLevels n l) where
    listed_fine : (x : ℕ) → IfSome (listed l x) (λ c. IsClassWithin (length l.names) n c.1)
    listed_fine x = found (λ c. IsClassWithin (length l.names) n c.1) (λ c. c.0 == x) l.classes h.of_levels

    vars_below : (x : ℕ) (vs : List Var) → All (λ v. HasVarsBelow (class_term v.class) n) vs → All (λ v. HasVarsBelow (class_term v.class) n) (shown_vars seen l x vs)
    vars_below x [] all = All-nil (λ (v : Var). HasVarsBelow (class_term v.class) n)
    vars_below x (v ∷ vs) all =
        let P : Var → Type 0 = λ w. HasVarsBelow (class_term w.class) n in
        All-cons P (shown_var seen l x v) (shown_vars seen l (suc x) vs) (or_below (length l.names) n (listed l x) v.class (listed_fine x) (All-head P v vs all)) (vars_below (suc x) vs (All-tail P v vs all))

    vars_words : (x : ℕ) (vs : List Var) → All (λ v. HasWords (class_term v.class)) vs → All (λ v. HasWords (class_term v.class)) (shown_vars seen l x vs)
    vars_words x [] all = All-nil (λ (v : Var). HasWords (class_term v.class))
    vars_words x (v ∷ vs) all =
        let P : Var → Type 0 = λ w. HasWords (class_term w.class) in
        All-cons P (shown_var seen l x v) (shown_vars seen l (suc x) vs) (or_words (length l.names) n (listed l x) v.class (listed_fine x) (All-head P v vs all)) (vars_words (suc x) vs (All-tail P v vs all))

-- Programs ------------------------------------------------------------------------------------------------------

pub shown_formed : (seen : List Bool) (l : Levels) (p : Program) → AreLevels (length p.vars) l → IsWellFormed p → IsWellFormed (shown seen l p)
shown_formed seen l p h fine =
    let marks = marks_of seen l p.vars in
    let n = length p.vars in
    let k = length p.locks in
    let vs = shown_vars seen l 0 p.vars in
    let ts = map (marked_thread marks) p.threads in
    let long : length vs ≡ n = vars_long seen l 0 p.vars in
    record {
      ids =
          subst (λ m. AreIdsInRange m k vs p.locks ts) (sym long) (record {
            classes = vars_below seen l n h 0 p.vars fine.ids.classes;
            of_locks = fine.ids.of_locks;
            of_threads = mapped (IsThreadInRange n k) (IsThreadInRange n k) (marked_thread marks) (of_thread marks n k) p.threads fine.ids.of_threads;
          });
      words = record {
        classes = vars_words seen l n h 0 p.vars fine.words.classes;
        invariants = fine.words.invariants;
        bodies = mapped (λ t. BlockHasWords t.body) (λ t. BlockHasWords t.body) (marked_thread marks) (λ t b. word_block marks (marks_are seen l.names p.vars) t.body b) p.threads fine.words.bodies;
      };
      names_differ =
          (λ i. are_distinct bytes_eq (var_names seen l 0 p.vars i ++ map (λ m. m.name) p.locks ++ thread_names marks p.threads i)) ∙ fine.names_differ;
      limits = record {
        variables = let few = fine.limits.variables in omega (arith, long, few);
        declared_locks = fine.limits.declared_locks;
        declared_threads = let few = fine.limits.declared_threads in omega (arith, length-map p.threads (marked_thread marks), few);
      };
      bodies = mapped (λ t. IsBodyFine t.body) (λ t. IsBodyFine t.body) (marked_thread marks) (λ t b. body_fine marks t.body b) p.threads fine.bodies;
      version = record {
        known = fine.version.known;
        silent = λ e. mapped (λ t. IsSilent t.body) (λ t. IsSilent t.body) (marked_thread marks) (λ t b. block_silent marks t.body b) p.threads (fine.version.silent e);
      };
    }
