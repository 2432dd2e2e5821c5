-- The load bound of whole bodies.
use Rattle.std.proofs.Common.{◌≡◌, ◌⊎◌, ℕ, ◌+◌, ◌<◌, ◌≤◌, ◌==◌, ◌&&◌, not, List, [], ◌∷◌, ◌++◌, length, filter, Bool, true, false, cond, if◌then◌else◌, Option, Some, None, refl, sym, ◌∙◌, ap, subst, arith, IsTrue, inl, inr, ⊎_elim, eq-eqb, eqb-true}
use Rattle.std.specs.List.{AllByRecursion, count_by, flat_map}
use Rattle.std.specs.Option.{option_map_or}
use Rattle.std.proofs.lemmas.Bool.{or_left, or_right, or_cases, false_from_ne_true, both_ways}
use Rattle.std.proofs.lemmas.List.{get_or-replicate}
use Rattle.std.proofs.lemmas.List.Recursion.{is_count_by}
use Rattle.cov_expr.specs.Term.{Term}
use Rattle.cov_expr.specs.Trees.{add_new, has_number, mentions, occurrences, width}
use Rattle.cov_expr.proofs.Trees.{has_number-append}
use Rattle.cov_ast.specs.Declarations.{assumes, under}
use Rattle.cov_ast.specs.LocksAlong.{Located, located, locks_after, no_locks}
use Rattle.cov_ast.specs.Plain.{Cmd, assign, branch, loop, output, Cmds, none, next, Plain}
use Rattle.cov_ast.specs.Tables.{has}
use Rattle.mode_compat.specs.Declared.{IsDeclared}
use Rattle.mode_state.specs.Sets.{is_stable}
use Rattle.regalloc.specs.Plan.{Plan, start, frees}
use Rattle.statement_parts.specs.PlainParts.{parts}
use Rattle.compiled_code.specs.Compiled.{line, weigh, expr_plan, expr_register, expr_instrs, direct, store_from, eval_lines, eval_plan, eval_register, use_weight, store_plan, cmd_plan, cmd_lines, block_lines}
use Rattle.compiled_code.specs.LoadBound.{is_straight, is_lock_of, Assignment, assigned, statements, assignments, stable_uses, IsSmall, HasFewLoads}
use Rattle.compiled_code.proofs.Loads.{IsIn, Has, Fit, three_free, fit_start, fit_below, stored_has, credit, credit_small, credit_less, loads, loads_are, loads_append, loads_weigh, expr_few, store_fit, store_more}
use Rattle.compiled_code.proofs.Plans.{reg_low, reg_free}
use Rattle.compiled_code.proofs.Stable.{declared_lock, stable_some, stable_by, Settled, settled}
use Rattle.risc_machine.specs.declared.parts.Instr.TheVariants.{Store}
use Rattle.risc_machine.specs.declared.parts.Line.{Line}

-- Lists -----------------------------------------------------------------------------------------------------------

module _ (z : ℕ) where
  filtered_in : (st : ℕ → Bool) (xs : List ℕ) → IsIn xs z → IsTrue (st z) → IsIn (filter st xs) z
  filtered_in st [] h s = h
  filtered_in st (x ∷ xs) h s = go (st x) refl (filtered_in st xs) (or_cases (x == z) (has_number xs z) h)
    where
      go : (b : Bool) → st x ≡ b → (IsIn xs z → IsTrue (st z) → IsIn (filter st xs) z) → IsTrue (x == z) ⊎ IsIn xs z → IsIn (cond b (x ∷ filter st xs) (filter st xs)) z
      go true e f (inl k) = or_left (x == z) _ k
      go true e f (inr k) = or_right (x == z) _ (f k s)
      go false e f (inl k) = absurd (both_ways (st x) e (subst (λ z. IsTrue (st z)) (sym (eqb-true x z k)) s))
      go false e f (inr k) = f k s

  in_left : (a b : List ℕ) → IsIn a z → IsIn (a ++ b) z
  in_left a b h = has_number-append a b z ∙ or_left (has_number a z) (has_number b z) h

  in_right : (a b : List ℕ) → IsIn b z → IsIn (a ++ b) z
  in_right a b h = has_number-append a b z ∙ or_right (has_number a z) (has_number b z) h

  one_more : (xs : List ℕ) (y : ℕ) → IsIn xs z ⊎ IsTrue (y == z) → (b : Bool) → has_number xs y ≡ b → IsIn (if b then xs else xs ++ y ∷ []) z
  one_more xs y (inl h) true e = h
  one_more xs y (inr h) true e = subst (IsIn xs) (eqb-true y z h) e
  one_more xs y (inl h) false e = in_left xs (y ∷ []) h
  one_more xs y (inr h) false e = in_right xs (y ∷ []) (or_left (y == z) false h)

  still_added : (ys xs : List ℕ) → IsIn xs z ⊎ IsIn ys z → IsIn (add_new xs ys) z
  still_added [] xs (inl h) = h
  still_added [] xs (inr h) = absurd (let c : false ≡ true = h in cc)
  still_added (y ∷ ys) xs (inl h) = still_added ys (if has_number xs y then xs else xs ++ y ∷ []) (inl (one_more xs y (inl h) (has_number xs y) refl))
  still_added (y ∷ ys) xs (inr h) =
      ⊎_elim (λ k. still_added ys (if has_number xs y then xs else xs ++ y ∷ []) (inl (one_more xs y (inr k) (has_number xs y) refl)))
      (λ k. still_added ys (if has_number xs y then xs else xs ++ y ∷ []) (inr k)) (or_cases (y == z) (has_number ys z) h)

-- how many items pass a test, by recursion
abbrev counted : {X : Type 0} → (X → Bool) → List X → ℕ
counted test [] = 0
counted test (x ∷ xs) = cond (test x) 1 0 + counted test xs

counted_is : {X : Type 0} (test : X → Bool) (xs : List X) → counted test xs ≡ count_by test xs
counted_is test xs = is_count_by (counted test) test refl (λ x xs. one_more_or_none (test x) (counted test xs)) xs
  where
    one_more_or_none : (b : Bool) (n : ℕ) → cond b 1 0 + n ≡ cond b (1 + n) n
    one_more_or_none true n = refl
    one_more_or_none false n = omega arith

counted_append : {X : Type 0} (test : X → Bool) (xs ys : List X) → counted test (xs ++ ys) ≡ counted test xs + counted test ys
counted_append test [] ys = omega arith
counted_append test (x ∷ xs) ys = let k = counted_append test xs ys in omega arith

counted_same : {X : Type 0} (f g : X → Bool) → ((x : X) → f x ≡ g x) → (xs : List X) → counted f xs ≡ counted g xs
counted_same f g same [] = refl
counted_same f g same (x ∷ xs) = ap (λ b. cond b 1 0 + counted f xs) (same x) ∙ ap (λ n. cond (g x) 1 0 + n) (counted_same f g same xs)

counted_none : {X : Type 0} (test : X → Bool) → ((x : X) → test x ≡ false) → (xs : List X) → counted test xs ≡ 0
counted_none test f [] = refl
counted_none test f (x ∷ xs) = ap (λ b. cond b 1 0 + counted test xs) (f x) ∙ (let k = counted_none test f xs in omega arith)

-- the assignments among statements
abbrev assignments_of : List Located → List Assignment
assignments_of ss = flat_map (λ s. assigned s.held s.cmd) ss

module _ (p : Plain) (t : ℕ) where
  -- Statements ----------------------------------------------------------------------------------------------------

  -- The loads of x that statements allow, one each: an assignment that reads x where it isn't stable, and where a lock is taken that x is under.
  abbrev reads_unstable : ℕ → Assignment → Bool
  reads_unstable x a = mentions a.value x && not (is_stable p t a.held x)

  abbrev takes_over : ℕ → Cmd → Bool
  takes_over x c = option_map_or (λ l. under p l x) (parts c).taken false

  abbrev allowed : ℕ → List Bool → Cmd → ℕ
  allowed x H c = counted (reads_unstable x) (assigned H c) + cond (takes_over x c) 1 0

  abbrev all_allowed : ℕ → List Located → ℕ
  all_allowed x ss = counted (reads_unstable x) (assignments_of ss) + counted (λ s. takes_over x s.cmd) ss

  -- what a stable variable is read or written by
  abbrev uses : Assignment → List ℕ
  uses a = filter (is_stable p t a.held) (a.variable ∷ occurrences a.value)

  module _ (S : List ℕ) (few : length S ≤ 4) where
    -- one assignment: its loads, and what the plan owes after it
    record AssignFew (P Q : Plan) (H : List Bool) (e : Term) (ls : List Line) : Type 0 where
      fit : Fit S Q
      counts : (x : ℕ) → loads x ls + credit (is_stable p t H) Q x ≤ cond (mentions e x && not (is_stable p t H x)) 1 0 + credit (is_stable p t H) P x

    assign_few : (y : ℕ) (e : Term) (H : List Bool) (P : Plan) (i : ℕ) → width e ≤ 3 → Fit S P → ((z : ℕ) → IsIn (y ∷ occurrences e) z → IsTrue (is_stable p t H z) → IsIn S z)
        → AssignFew P (cmd_plan p t (assign y e) H P) H e (cmd_lines p t (assign y e) H P i)
    assign_few y e H P i h f g = go (store_from (is_stable p t H) P y e) refl
      where
        -- a value that is in a register already is stored to an unstable variable
        unstable : (s : ℕ) → store_from (is_stable p t H) P y e ≡ Some s → is_stable p t H y ≡ false
        unstable s k = by (is_stable p t H y) k
          where
            by : (b : Bool) → (if b then None else direct (is_stable p t H) P e) ≡ Some s → b ≡ false
            by true k = absurd cc
            by false k = refl

        go : (o : Option ℕ) → store_from (is_stable p t H) P y e ≡ o
            → AssignFew P (store_plan (is_stable p t H y) (eval_plan (is_stable p t H) P e o) y (eval_register (is_stable p t H) P e o)) H e
            (eval_lines (is_stable p t H) P e o ++ (line (use_weight o) (Store y (eval_register (is_stable p t H) P e o)) ∷ []))
        go None k =
            let n = expr_few S few (is_stable p t H) P e h f (λ z i s. g z (or_right (y == z) _ i) s) in
            let Q = expr_plan (is_stable p t H) P e in
            let r = expr_register (is_stable p t H) P e in
            let one : 0 < length (frees Q) = let a = three_free S Q n.fit few in omega arith in
            record {
              fit = store_fit S few (is_stable p t H) Q y r n.fit (reg_low Q 0 one) (is_stable p t H y) (λ s. g y (or_left _ _ (eq-eqb y y refl)) s);
              counts = λ x.
                  let a = loads_append x (weigh (expr_instrs (is_stable p t H) P e)) (line 1 (Store y r) ∷ []) in
                  let b = loads_weigh x (expr_instrs (is_stable p t H) P e) in
                  let c = n.counts x in
                  let d = credit_less (is_stable p t H) (is_stable p t H) Q (store_plan (is_stable p t H y) Q y r) x (λ s. s)
                  (λ s k. store_more S few (is_stable p t H) Q y r x n.fit (reg_low Q 0 one) (reg_free Q 0 one) (is_stable p t H y) refl s k) in
                  omega arith;
            }
        go (Some s) k =
            let u = unstable s k in
            record {
              fit = subst (λ b. Fit S (store_plan b P y s)) (sym u) (store_fit S few (is_stable p t H) P y 0 f (omega arith) false (λ c. absurd (let d : false ≡ true = c in cc)));
              counts = λ x.
                  let d = credit_less (is_stable p t H) (is_stable p t H) P (store_plan (is_stable p t H y) P y s) x (λ s. s)
                  (λ st m. subst (λ b. Has (store_plan b P y s) x) (sym u) (stored_has P y x (λ e. absurd (both_ways (is_stable p t H y) u (ap (is_stable p t H) (sym e) ∙ st))) m)) in
                  omega arith;
            }

    -- a statement that evaluates nothing leaves no more to load than before, but for a variable under a lock that it takes
    settled_less : (c : Cmd) (H : List Bool) (P : Plan) (x : ℕ) → Settled p t c H P
        → credit (is_stable p t (locks_after c H)) (cmd_plan p t c H P) x ≤ cond (takes_over x c) 1 0 + credit (is_stable p t H) P x
    settled_less c H P x w = go (takes_over x c) refl
      where
        go : (b : Bool) → takes_over x c ≡ b → credit (is_stable p t (locks_after c H)) (cmd_plan p t c H P) x ≤ cond b 1 0 + credit (is_stable p t H) P x
        go true e = let a = credit_small (is_stable p t (locks_after c H)) (cmd_plan p t c H P) x in omega arith
        go false e =
            let a = credit_less (is_stable p t H) (is_stable p t (locks_after c H)) P (cmd_plan p t c H P) x (λ s. w.before x e s) (λ s k. (k.0, w.keeps k.0 x k.1 s)) in
            omega arith

    -- assignments of a small body, whose stable variables are in S
    abbrev AreSmall : List Assignment → Type 0
    AreSmall [] = Unit {0}
    AreSmall (a ∷ rest) = (width a.value ≤ 3) × ((z : ℕ) → IsIn (a.variable ∷ occurrences a.value) z → IsTrue (is_stable p t a.held z) → IsIn S z) × AreSmall rest

    small_parts : (xs ys : List Assignment) → AreSmall (xs ++ ys) → AreSmall xs × AreSmall ys
    small_parts [] ys k = (tt, k)
    small_parts (a ∷ xs) ys k = let both = small_parts xs ys k.2 in ((k.0, k.1, both.0), both.1)

    all_small : (xs : List Assignment) → AllByRecursion (λ a. width a.value ≤ 3) xs → ((z : ℕ) → IsIn (flat_map uses xs) z → IsIn S z) → AreSmall xs
    all_small [] n g = tt
    all_small (a ∷ xs) n g = (
      n.0,
      (λ z k u. g z (in_left z (uses a) (flat_map uses xs) (filtered_in z (is_stable p t a.held) (a.variable ∷ occurrences a.value) k u))),
      all_small xs n.1 (λ z k. g z (in_right z (uses a) (flat_map uses xs) k)),
    )

    -- one statement: its loads, and what the plan owes after it
    record CmdFew (c : Cmd) (H : List Bool) (P : Plan) (i : ℕ) : Type 0 where
      fit : Fit S (cmd_plan p t c H P)
      counts : (x : ℕ)
          → loads x (cmd_lines p t c H P i) + credit (is_stable p t (locks_after c H)) (cmd_plan p t c H P) x ≤ allowed x H c + credit (is_stable p t H) P x

    few_cmd : (c : Cmd) (H : List Bool) (P : Plan) (i : ℕ) → IsTrue (is_straight c) → AreSmall (assigned H c) → Fit S P → CmdFew c H P i
    few_cmd (assign y e) H P i s k f =
        let a = assign_few y e H P i k.0 f k.1 in
        record { fit = a.fit; counts = λ x. let n = a.counts x in omega arith }
    few_cmd (branch e a b) H P i s k f = absurd (let c : false ≡ true = s in cc)
    few_cmd (loop e a) H P i s k f = absurd (let c : false ≡ true = s in cc)
    few_cmd (output e) H P i s k f = absurd (let c : false ≡ true = s in cc)
    few_cmd c H P i s k f =
        let w = settled p t c H P refl in
        record {
          fit = fit_below S P (cmd_plan p t c H P) f (w.long ∙ f.long) (λ j y e. w.kept j y e);
          counts = λ x. let n = settled_less c H P x w in omega arith;
        }

    few_block : (c : Cmds) (H : List Bool) (P : Plan) (i : ℕ) → AllByRecursion (λ s. IsTrue (is_straight s.cmd)) (located c H) → AreSmall (assignments_of (located c H))
        → Fit S P → (x : ℕ) → loads x (block_lines p t c H P i) ≤ all_allowed x (located c H) + credit (is_stable p t H) P x
    few_block none H P i s k f x = omega arith
    few_block (next at c cs) H P i s k f x =
        let ls = cmd_lines p t c H P i in
        let K = locks_after c H in
        let Q = cmd_plan p t c H P in
        let small = small_parts (assigned H c) (assignments_of (located cs K)) k in
        let a = few_cmd c H P i s.0 small.0 f in
        let b = few_block cs K Q (i + length ls) s.1 small.1 a.fit x in
        let l = loads_append x ls (block_lines p t cs K Q (i + length ls)) in
        let n = counted_append (reads_unstable x) (assigned H c) (assignments_of (located cs K)) in
        let m = a.counts x in
        omega arith

  -- The two counts of the bound -----------------------------------------------------------------------------------

  module _ (d : IsDeclared p) where
    allowed_none : (x : ℕ) (ss : List Located) → IsTrue (assumes p t x) → all_allowed x ss ≡ 0
    allowed_none x ss a =
        let n = counted_none (reads_unstable x) (λ b. none_of (mentions b.value x) (is_stable p t b.held x) (or_left _ _ a)) (assignments_of ss) in
        let m = counted_none (λ s. takes_over x s.cmd) (λ s. over_none (parts s.cmd).taken) ss in
        omega arith
      where
        none_of : (b s : Bool) → s ≡ true → (b && not s) ≡ false
        none_of true s e = ap not e
        none_of false s e = refl

        over_none : (o : Option ℕ) → option_map_or (λ l. under p l x) o false ≡ false
        over_none None = refl
        over_none (Some l) = false_from_ne_true (under p l x) (λ u. absurd (both_ways (assumes p t x) (d.not_assumed l x t u) a))

    module _ (l x : ℕ) (u : IsTrue (under p l x)) where
      same_lock : (j : ℕ) → under p j x ≡ (j == l)
      same_lock j = go (j == l) refl
        where
          go : (b : Bool) → (j == l) ≡ b → under p j x ≡ b
          go true e = subst (λ j. under p j x ≡ true) (sym (eqb-true j l e)) u
          go false e = false_from_ne_true (under p j x) (λ k. absurd (both_ways (j == l) e (eq-eqb j l (d.one_lock x j l k u))))

      stable_is : (H : List Bool) → is_stable p t H x ≡ has H l
      stable_is H = go (has H l) refl
        where
          go : (b : Bool) → has H l ≡ b → is_stable p t H x ≡ b
          go true e = stable_by p t H l x e u
          go false e =
              false_from_ne_true (is_stable p t H x)
              (λ s. ⊎_elim (λ a. absurd (both_ways (assumes p t x) (d.not_assumed l x t u) a)) (λ r. absurd (both_ways (has H l) e (subst (λ j. has H j ≡ true) (d.one_lock x r.0 l r.2 u) r.1))) (stable_some p t H x s))

      takes : List Located → ℕ
      takes ss = counted (λ s. is_lock_of l s.cmd) ss

      reads : List Located → ℕ
      reads ss = counted (λ a. mentions a.value x && not (has a.held l)) (assignments_of ss)

      allowed_are : (ss : List Located) → all_allowed x ss ≡ takes ss + reads ss
      unfolding takes reads
      allowed_are ss =
          let n = counted_same (λ s. takes_over x s.cmd) (λ s. is_lock_of l s.cmd) (λ s. over_is (parts s.cmd).taken) ss in
          let m = counted_same (reads_unstable x) (λ a. mentions a.value x && not (has a.held l)) (λ a. ap (λ b. mentions a.value x && not b) (stable_is a.held)) (assignments_of ss) in
          omega arith
        where
          over_is : (o : Option ℕ) → option_map_or (λ j. under p j x) o false ≡ option_map_or (λ j. j == l) o false
          over_is None = refl
          over_is (Some j) = same_lock j

    few_loads : (c : Cmds) → IsSmall p t c → (x : ℕ)
        → loads x (block_lines p t c (no_locks p) start 0) ≤ all_allowed x (statements p c) + credit (is_stable p t (no_locks p)) start x
    few_loads c k x =
        let S = add_new [] (stable_uses p t c) in
        few_block S k.four c (no_locks p) start 0 k.straight
        (all_small S k.four (assignments p c) k.narrow (λ z i. still_added z (stable_uses p t c) [] (inr i)))
        (fit_start S) x

    pub few_body : (c : Cmds) → IsSmall p t c → HasFewLoads p t c (block_lines p t c (no_locks p) start 0)
    unfolding takes reads
    few_body c k = record {
      assumed = λ x a.
          let b = few_loads c k x in
          let n = allowed_none x (statements p c) a in
          let s = credit_small (is_stable p t (no_locks p)) start x in
          let e = loads_are x (block_lines p t c (no_locks p) start 0) in
          omega arith;
      locked = λ l x u.
          let b = few_loads c k x in
          let n = allowed_are l x u (statements p c) in
          let m = counted_is (λ s. is_lock_of l s.cmd) (statements p c) in
          let r = counted_is (λ a. mentions a.value x && not (has a.held l)) (assignments p c) in
          let s : credit (is_stable p t (no_locks p)) start x ≡ 0 = ap (λ b. cond b 1 0) (stable_is l x u (no_locks p) ∙ get_or-replicate (length p.locks) l false false (declared_lock p t l x u)) in
          let e = loads_are x (block_lines p t c (no_locks p) start 0) in
          omega arith;
    }
