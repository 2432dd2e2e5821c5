-- What observers are shown of a program has the same counts for each: classes for two observers mention the same variables, and
-- annotations have the same parts.
use Rattle.std.proofs.Common.{rules, ◌≡◌, ℕ, zero, suc, ◌+◌, List, [], ◌∷◌, ◌++◌, length, map, get_or, Bool, true, false, not, ◌&&◌, ◌||◌, if◌then◌else◌, cond, Option, Some, None, refl, sym, ap, ap₂, ◌∙◌, arith, length-append}
use Rattle.std.proofs.lemmas.List.{length-map}
use Rattle.std.specs.Prelude.{filter, option_map, option_to_list, sum_by}
use Rattle.std.specs.List.{list_any, range_with_len}
use Rattle.std.proofs.lemmas.List.Elements.{filter_agree}
use Rattle.std.proofs.lemmas.List.Sums.{sum_by-cons}
use Rattle.cov_expr.specs.Term.{Term, neg}
use Rattle.cov_expr.specs.Trees.{has_number, mentions}
use Rattle.cov_ast.specs.Syntax.{Class, low, high, Var, Lock, State, Proof, Stm, Block, done, more, Thread, Program}
use Rattle.cov_ast.specs.Syntax as s
use Rattle.cov_ast.specs.Plain.{Plain, plain, plain_thread, class_term}
use Rattle.cov_ast.specs.Declarations.{class_of, is_control, lock_at, modes_of, hides, assumes_hide, no_var}
use Rattle.cov_ast.specs.Declarations as declarations
use Rattle.cov_ast.specs.Tables.{has}
use Rattle.cov_ast.specs.WellFormed.{places}
use Rattle.mode_state.specs.Sets.{is_hidden}
use Rattle.mode_compat.specs.Compatible.{numbered, no_thread, threads_of}
use Rattle.point_law.specs.Point.{Point, vars_of}
use Rattle.point_law.specs.After.{start, with_guard, meet}
use Rattle.typing_law.specs.Blocks.{after_stm, after_block, value_type}
use Rattle.typing_law.specs.Counts.{entailment_count}
use Rattle.typing_law.specs.Counts as thread
use Rattle.typing_law.specs.Entailments.{Entailment, written_type, shown_value, shown_controlled, controlled_follows, controlled_values, retype_follows, assign_entailments, state_follows, guard_follows, from_preds, from_one_more, type_follows}
use Rattle.typing_law.specs.ThreadEntailments.{placed_from}
use Rattle.typing_law.specs.ThreadObligations.{flat, stm_parts, block_obligations, thread_obligations, end_obligation, end_point}
use Rattle.typing_law.proofs.Counting.{count_append, count_branch, count_loop, count_more, placed_length, stm_counted}
use Rattle.typing_law.specs.Verdicts.{counts}
use Rattle.level_text.specs.Lattice as lattice
use Rattle.level_text.specs.Lattice.{Levels, LevelClass}
use Rattle.levels.specs.Order.{seen_by}
use Rattle.levels.specs.Projection.{marks_of, marked_term, marked_type, marked_state, marked_proof, marked_stm, marked_block, marked_thread, shown_class, class_or, listed, shown_vars, shown, projected}
use Rattle.levels.proofs.ShownFormed.{places_same}

-- Lists ---------------------------------------------------------------------------------------------------------

-- lists under equal conditions
long_if : {X : Type 0} (b c : Bool) (xs ys : List X) → b ≡ c → length xs ≡ length ys → length (if b then xs else []) ≡ length (if c then ys else [])
long_if b c xs ys e h =
    ap (λ d. length (if d then xs else [])) e ∙ elim c as (λ d. length (if d then xs else []) ≡ length (if d then ys else [])) [ true ↦ h | false ↦ refl ]

long_mapped : {X Y Z : Type 0} (f : X → Z) (g : Y → Z) (xs : List X) (ys : List Y) → length xs ≡ length ys → length (map f xs) ≡ length (map g ys)
long_mapped f g xs ys h = length-map xs f ∙ h ∙ sym (length-map ys g)

long_appended : {X : Type 0} (us vs ws xs : List X) → length us ≡ length ws → length vs ≡ length xs → length (us ++ vs) ≡ length (ws ++ xs)
long_appended us vs ws xs h k = length-append us vs ∙ ap₂ (λ m n. m + n) h k ∙ sym (length-append ws xs)

long_placed : (at : ℕ) (gs hs : List Entailment) → length gs ≡ length hs → length (placed_from at 1 gs) ≡ length (placed_from at 1 hs)
long_placed at gs hs h = placed_length at 1 gs ∙ h ∙ sym (placed_length at 1 hs)

get_or_mapped : {X : Type 0} (f : X → X) (d : X) → f d ≡ d → (xs : List X) (i : ℕ) → get_or (map f xs) i d ≡ f (get_or xs i d)
get_or_mapped f d e [] i = sym e
get_or_mapped f d e (x ∷ xs) zero = refl
get_or_mapped f d e (x ∷ xs) (suc i) = get_or_mapped f d e xs i

-- Blocks --------------------------------------------------------------------------------------------------------

-- Two programs with the same locks, of which classes mention the same and a thread has the same hidden.
record AreAlike (p q : Plain) (t : ℕ) : Type 0 where
  controls : (x : ℕ) → is_control p x ≡ is_control q x
  mentioned : (y x : ℕ) → mentions (class_of p y) x ≡ mentions (class_of q y) x
  hidden : (held : List Bool) (x : ℕ) → is_hidden p t held x ≡ is_hidden q t held x
  locks : p.locks ≡ q.locks
  vars : length p.vars ≡ length q.vars

module _ (p q : Plain) (t : ℕ) (alike : AreAlike p q t) (m n : List (Option ℕ)) where
  long_state : (a c : Point) (j : State) → length (state_follows a (marked_state m j)) ≡ length (state_follows c (marked_state n j))
  long_state a c j =
      length-append (map (from_preds a.preds) (map (marked_term m) j.preds)) (map (type_follows a) (map (marked_type m) j.types))
      ∙ ap₂ (λ x y. x + y)
      (long_mapped (from_preds a.preds) (from_preds c.preds) (map (marked_term m) j.preds) (map (marked_term n) j.preds) (long_mapped (marked_term m) (marked_term n) j.preds j.preds refl))
      (long_mapped (type_follows a) (type_follows c) (map (marked_type m) j.types) (map (marked_type n) j.types) (long_mapped (marked_type m) (marked_type n) j.types j.types refl))
      ∙ sym (length-append (map (from_preds c.preds) (map (marked_term n) j.preds)) (map (type_follows c) (map (marked_type n) j.types)))

  hidden_same : (a c : Point) → a.held ≡ c.held → (x : ℕ) → not (is_hidden p t a.held x) ≡ not (is_hidden q t c.held x)
  hidden_same a c h x = ap not (ap (λ held. is_hidden p t held x) h ∙ alike.hidden c.held x)

  long_written : (a c : Point) (e : Term) (y : Option Term) → length (written_type p t a e (option_map (marked_term m) y)) ≡ length (written_type q t c e (option_map (marked_term n) y))
  long_written a c e None = refl
  long_written a c e (Some y) = refl

  long_shown : (a c : Point) → a.held ≡ c.held → (x : ℕ) (g h : Term) → length (shown_value p t a x g) ≡ length (shown_value q t c x h)
  long_shown a c e x g h =
      long_if (is_control p x || not (is_hidden p t a.held x)) (is_control q x || not (is_hidden q t c.held x)) (from_one_more a.preds (class_of p x) g ∷ []) (from_one_more c.preds (class_of q x) h ∷ [])
      (ap₂ (λ b d. b || d) (alike.controls x) (hidden_same a c e x)) refl

  controlled_same : (a c : Point) → a.held ≡ c.held → (x : ℕ) → shown_controlled p t a x ≡ shown_controlled q t c x
  controlled_same a c e x =
      filter_agree (λ y. mentions (class_of p y) x && not (is_hidden p t a.held y)) (λ y. mentions (class_of q y) x && not (is_hidden q t c.held y))
      (λ y. ap₂ (λ b d. b && d) (alike.mentioned y x) (hidden_same a c e y)) (vars_of p)
      ∙ ap (λ k. filter (λ y. mentions (class_of q y) x && not (is_hidden q t c.held y)) (range_with_len 0 k)) alike.vars

  long_controlled : (a c : Point) → a.held ≡ c.held → (x : ℕ) (e : Term) → length (controlled_values p t a x e) ≡ length (controlled_values q t c x e)
  long_controlled a c h x e =
      long_if (is_control p x) (is_control q x) (map (controlled_follows p t a x e) (shown_controlled p t a x)) (map (controlled_follows q t c x e) (shown_controlled q t c x))
      (alike.controls x) (long_mapped (controlled_follows p t a x e) (controlled_follows q t c x e) (shown_controlled p t a x) (shown_controlled q t c x) (ap length (controlled_same a c h x)))

  long_assign : (a c : Point) → a.held ≡ c.held → (x : ℕ) (e : Term) (y : Option Term) (rs : List (ℕ × Term))
      → length (assign_entailments p t a x e (option_map (marked_term m) y) (map (marked_type m) rs)) ≡ length (assign_entailments q t c x e (option_map (marked_term n) y) (map (marked_type n) rs))
  long_assign a c h x e y rs =
      let g = value_type p t a (option_map (marked_term m) y) e in
      let k = value_type q t c (option_map (marked_term n) y) e in
      let one = long_written a c e y in
      let two = long_shown a c h x g k in
      let three = long_controlled a c h x e in
      let four = long_mapped (retype_follows p t a x e) (retype_follows q t c x e) (map (marked_type m) rs) (map (marked_type n) rs) (long_mapped (marked_type m) (marked_type n) rs rs refl) in
      length-append (written_type p t a e (option_map (marked_term m) y) ++ shown_value p t a x g ++ controlled_values p t a x e) (map (retype_follows p t a x e) (map (marked_type m) rs))
      ∙ ap₂ (λ u v. u + v)
      (length-append (written_type p t a e (option_map (marked_term m) y) ++ shown_value p t a x g) (controlled_values p t a x e)
      ∙ ap₂ (λ u v. u + v) (length-append (written_type p t a e (option_map (marked_term m) y)) (shown_value p t a x g) ∙ ap₂ (λ u v. u + v) one two ∙ sym (length-append (written_type q t c e (option_map (marked_term n) y)) (shown_value q t c x k))) three
      ∙ sym (length-append (written_type q t c e (option_map (marked_term n) y) ++ shown_value q t c x k) (controlled_values q t c x e)))
      four
      ∙ sym (length-append (written_type q t c e (option_map (marked_term n) y) ++ shown_value q t c x k ++ controlled_values q t c x e) (map (retype_follows q t c x e) (map (marked_type n) rs)))

  lock_same : (l : ℕ) → lock_at p l ≡ lock_at q l
  lock_same l = ap (λ ls. get_or ls l declarations.no_lock) alike.locks

  -- what a lock stands for and hides
  long_invariant : (l : ℕ) → length (option_to_list (lock_at p l).inv) ≡ length (option_to_list (lock_at q l).inv)
  long_invariant l = ap (λ k. length (option_to_list k.inv)) (lock_same l)

  long_hidden : (l : ℕ) → length (filter (λ x. not (is_control p x)) (lock_at p l).hide) ≡ length (filter (λ x. not (is_control q x)) (lock_at q l).hide)
  long_hidden l =
      ap length (filter_agree (λ x. not (is_control p x)) (λ x. not (is_control q x)) (λ x. ap not (alike.controls x)) (lock_at p l).hide)
      ∙ ap (λ k. length (filter (λ x. not (is_control q x)) k.hide)) (lock_same l)

  long_two : (a b c d : Point) (j : State) → length (state_follows a (marked_state m j) ++ state_follows b (marked_state m j)) ≡ length (state_follows c (marked_state n j) ++ state_follows d (marked_state n j))
  long_two a b c d j =
      length-append (state_follows a (marked_state m j)) (state_follows b (marked_state m j)) ∙ ap₂ (λ u v. u + v) (long_state a c j) (long_state b d j)
      ∙ sym (length-append (state_follows c (marked_state n j)) (state_follows d (marked_state n j)))

  long_head : (a c : Point) (e f : Entailment) (j : State) → length (state_follows a (marked_state m j) ++ e ∷ []) ≡ length (state_follows c (marked_state n j) ++ f ∷ [])
  long_head a c e f j =
      length-append (state_follows a (marked_state m j)) (e ∷ []) ∙ ap (λ u. u + 1) (long_state a c j) ∙ sym (length-append (state_follows c (marked_state n j)) (f ∷ []))

  abbrev SameStm : Stm → (at : ℕ) → List Proof → (a c : Point) → Type 0
  SameStm x at ps a c =
      (entailment_count (flat (stm_parts p t (marked_stm m x) at (map (marked_proof m) ps) a)) ≡ entailment_count (flat (stm_parts q t (marked_stm n x) at (map (marked_proof n) ps) c)))
      × ((after_stm p t (marked_stm m x) a).held ≡ (after_stm q t (marked_stm n x) c).held)

  abbrev SameBlock : Block → (a c : Point) → Type 0
  SameBlock b a c =
      (entailment_count (block_obligations p t (marked_block m b) a) ≡ entailment_count (block_obligations q t (marked_block n b) c))
      × ((after_block p t (marked_block m b) a).held ≡ (after_block q t (marked_block n b) c).held)

  mutual
    stm_same : (x : Stm) (at : ℕ) (ps : List Proof) (a c : Point) → a.held ≡ c.held → SameStm x at ps a c
    stm_same (s.branch e x y j) at ps a c h =
        let yes = block_same x (with_guard p t a e) (with_guard q t c e) h in
        let no = block_same y (with_guard p t a (neg e)) (with_guard q t c (neg e)) h in
        let ends = long_two (after_block p t (marked_block m x) (with_guard p t a e)) (after_block p t (marked_block m y) (with_guard p t a (neg e))) (after_block q t (marked_block n x) (with_guard q t c e)) (after_block q t (marked_block n y) (with_guard q t c (neg e))) j in (
          count_branch p t at (map (marked_proof m) ps) a e (marked_block m x) (marked_block m y) (marked_state m j)
              ∙ (λ i. 1 + yes.0 i + no.0 i + ends i)
              ∙ sym (count_branch q t at (map (marked_proof n) ps) c e (marked_block n x) (marked_block n y) (marked_state n j)),
          yes.1,
        )
    stm_same (s.loop e j b) at ps a c h =
        let head = meet p t a (marked_state m j) in
        let other = meet q t c (marked_state n j) in
        let body = block_same b (with_guard p t head e) (with_guard q t other e) h in
        let first = long_head a c (guard_follows p t head e) (guard_follows q t other e) j in
        let last = long_state (after_block p t (marked_block m b) (with_guard p t head e)) (after_block q t (marked_block n b) (with_guard q t other e)) j in (
          count_loop p t at (map (marked_proof m) ps) a e (marked_state m j) (marked_block m b)
              ∙ (λ i. first i + body.0 i + last i)
              ∙ sym (count_loop q t at (map (marked_proof n) ps) c e (marked_state n j) (marked_block n b)),
          h,
        )
    stm_same x at ps a c h = (
      stm_counted p t (marked_stm m x) at (map (marked_proof m) ps) a ∙ search (rules, h, long_placed at, long_appended, long_mapped, long_state, long_assign, long_invariant, long_hidden)
          ∙ sym (stm_counted q t (marked_stm n x) at (map (marked_proof n) ps) c),
      cc,
    )

    block_same : (b : Block) (a c : Point) → a.held ≡ c.held → SameBlock b a c
    block_same done a c h = (refl, h)
    block_same (more at x ps b) a c h =
        let here = stm_same x at ps a c h in
        let rest = block_same b (after_stm p t (marked_stm m x) a) (after_stm q t (marked_stm n x) c) here.1 in (
          count_more p t at (marked_stm m x) (map (marked_proof m) ps) (marked_block m b) a
              ∙ (λ i. here.0 i + rest.0 i)
              ∙ sym (count_more q t at (marked_stm n x) (map (marked_proof n) ps) (marked_block n b) c),
          rest.1,
        )

-- Programs ------------------------------------------------------------------------------------------------------

module _ (l : Levels) (one two : List Bool) where
  class_mentions : (c : LevelClass) (x : ℕ) → mentions (class_term (shown_class one c)) x ≡ mentions (class_term (shown_class two c)) x
  class_mentions (lattice.at_level b) x = by (has one b) (has two b)
    where
      by : (d e : Bool) → mentions (class_term (cond d low high)) x ≡ mentions (class_term (cond e low high)) x
      by true true = refl
      by true false = refl
      by false true = refl
      by false false = refl
  class_mentions (lattice.either_level e b c) x = refl

  or_mentions : (o : Option (ℕ × LevelClass)) (own : Class) (x : ℕ) → mentions (class_term (class_or one o own)) x ≡ mentions (class_term (class_or two o own)) x
  or_mentions None own x = refl
  or_mentions (Some c) own x = class_mentions c.1 x

  vars_mention : (vs : List Var) (k y x : ℕ) → mentions (class_term (get_or (shown_vars one l k vs) y no_var).class) x ≡ mentions (class_term (get_or (shown_vars two l k vs) y no_var).class) x
  vars_mention [] k y x = refl
  vars_mention (v ∷ vs) k zero x = or_mentions (listed l k) v.class x
  vars_mention (v ∷ vs) k (suc y) x = vars_mention vs (suc k) y x

  any_mentions : (vs : List Var) (k x : ℕ) → list_any (λ v. mentions (class_term v.class) x) (shown_vars one l k vs) ≡ list_any (λ v. mentions (class_term v.class) x) (shown_vars two l k vs)
  any_mentions [] k x = refl
  any_mentions (v ∷ vs) k x = ap₂ (λ b c. b || c) (or_mentions (listed l k) v.class x) (any_mentions vs (suc k) x)

  vars_long : (vs : List Var) (k : ℕ) → length (shown_vars one l k vs) ≡ length (shown_vars two l k vs)
  vars_long [] k = refl
  vars_long (v ∷ vs) k = ap suc (vars_long vs (suc k))

  modes_same : (m n : List (Option ℕ)) (ts : List Thread) (t : ℕ)
      → (get_or (map plain_thread (map (marked_thread m) ts)) t declarations.no_thread).modes ≡ (get_or (map plain_thread (map (marked_thread n) ts)) t declarations.no_thread).modes
  modes_same m n [] t = refl
  modes_same m n (x ∷ ts) zero = refl
  modes_same m n (x ∷ ts) (suc t) = modes_same m n ts t

  module _ (p : Program) (t : ℕ) where
    abbrev first : Program
    first = shown one l p

    abbrev second : Program
    second = shown two l p

    abbrev m : List (Option ℕ)
    m = marks_of one l p.vars

    abbrev n : List (Option ℕ)
    n = marks_of two l p.vars

    are_alike : AreAlike (plain first) (plain second) t
    are_alike = record {
      controls = λ x. any_mentions p.vars 0 x;
      mentioned = λ y x. vars_mention p.vars 0 y x;
      hidden = λ held x. ap (λ ms. has_number ms.assume_hide x || list_any (λ k. has held k && has_number (get_or p.locks k declarations.no_lock).hide x) (range_with_len 0 (length p.locks))) (modes_same m n p.threads t);
      locks = refl;
      vars = vars_long p.vars 0;
    }

    body_is : (o : List (Option ℕ)) → get_or (map (marked_thread o) p.threads) t no_thread ≡ marked_thread o (get_or p.threads t no_thread)
    body_is o = get_or_mapped (marked_thread o) no_thread refl p.threads t

    abbrev of_body : Program → Thread → ℕ
    of_body q h = entailment_count (block_obligations (plain q) t h.body (start (plain q) t))

    of_thread : (q : Program) → entailment_count (thread_obligations q t) ≡ of_body q (numbered q t)
    of_thread q =
        let os = block_obligations (plain q) t (numbered q t).body (start (plain q) t) in
        let last = end_obligation (plain q) t (numbered q t).end (end_point q t).held in
        let none : entailment_count (last ∷ []) ≡ 0 = refl in
        omega (arith, count_append os (last ∷ []), none)

    pub entailments_same : entailment_count (thread_obligations first t) ≡ entailment_count (thread_obligations second t)
    entailments_same =
        of_thread first ∙ ap (of_body first) (body_is m)
        ∙ (block_same (plain first) (plain second) t are_alike m n (get_or p.threads t no_thread).body (start (plain first) t) (start (plain second) t) refl).0
        ∙ sym (of_thread second ∙ ap (of_body second) (body_is n))

    pub statements_same : (thread.counts first t).statements ≡ (thread.counts second t).statements
    statements_same =
        let body = (get_or p.threads t no_thread).body in
        ap (λ h. length (places h.body)) (body_is m) ∙ ap length (places_same m body) ∙ sym (ap (λ h. length (places h.body)) (body_is n) ∙ ap length (places_same n body))

sum_same : {X : Type 0} (f g : X → ℕ) → ((x : X) → f x ≡ g x) → (xs : List X) → sum_by f xs ≡ sum_by g xs
sum_same f g h [] = refl
sum_same f g h (x ∷ xs) = sum_by-cons f x xs ∙ ap₂ (λ a b. a + b) (h x) (sum_same f g h xs) ∙ sym (sum_by-cons g x xs)

pub shown_counts : (l : Levels) (one two : List Bool) (p : Program) → counts (shown one l p) ≡ counts (shown two l p)
shown_counts l one two p =
    let same : threads_of (shown one l p) ≡ threads_of (shown two l p) =
    ap (range_with_len 0) (long_mapped (marked_thread (marks_of one l p.vars)) (marked_thread (marks_of two l p.vars)) p.threads p.threads refl) in
    let statements =
    sum_same (λ t. (thread.counts (shown one l p) t).statements) (λ t. (thread.counts (shown two l p) t).statements) (statements_same l one two p) (threads_of (shown one l p))
    ∙ ap (sum_by (λ t. (thread.counts (shown two l p) t).statements)) same in
    let entailments =
    sum_same (λ t. (thread.counts (shown one l p) t).entailments) (λ t. (thread.counts (shown two l p) t).entailments) (entailments_same l one two p) (threads_of (shown one l p))
    ∙ ap (sum_by (λ t. (thread.counts (shown two l p) t).entailments)) same in
    λ i. record { statements = statements i; entailments = entailments i }

pub counts_same : (l : Levels) (p : Program) (a b : ℕ) → counts (projected l a p) ≡ counts (projected l b p)
counts_same l p a b = shown_counts l (seen_by l a) (seen_by l b) p
