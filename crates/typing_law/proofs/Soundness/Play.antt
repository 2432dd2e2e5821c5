-- The game of a typed thread: what holds where its copies stand.
use Rattle.std.proofs.Common.{◌≡◌, ◌↔◌, ℕ, zero, suc, List, [], ◌∷◌, ◌++◌, length, set, map, Bool, true, false, replicate, Option, Some, None, refl, sym, ◌∙◌, ap, ap₂, subst, IsTrue, inl, inr, get_or-set_other}
use Rattle.std.proofs.Math.Decide.{ℕ_discrete}
use Rattle.cov_expr.specs.Entailment.{Holds, AllHold}
use Rattle.cov_expr.specs.Term.{Term, value}
use Rattle.cov_expr.specs.Trees.{mentions}
use Rattle.cov_expr.specs.Words.{IsMemory, IsWord, HasWords}
use Rattle.cov_expr.proofs.Values.{value_mentioned, value_word}
use Rattle.cov_ast.specs.Declarations.{thread_at}
use Rattle.cov_ast.specs.Plain.{Cmd, assign, branch, loop, output, Cmds, none, next, ◌then_all◌, Plain}
use Rattle.flow_model.specs.Source.{Item, run, put, test, emit, Holders, Outputs, holder, Local, local, items_then, after_cmd, is_held_by}
use Rattle.flow_model.specs.Holdings.{IsStableNow, IsWritableNow}
use Rattle.flow_model.specs.Agreement.{AreFitStarts, SameAt, AreAlike, shape}
use Rattle.flow_model.specs.Game.{AreLawful, after_moves, opening, IsSecureThread, Copies, Move, own, outside, after_move, IsLawfulOutside, MeetsGuarantees, IsSecureMove}
use Rattle.flow_model.proofs.Holders.{held_is, is_held}
use Rattle.point_law.specs.Point.{Point, type_at}
use Rattle.typing_law.proofs.Soundness.Fits.{World, AllStable, AllOver, Settled, Fits, stored, with_holders, saying, Pending, ChangesOwn, Turned, waits, proceeds, AssignOk, GuardOk, Typed, TypedItems, typed_then, typed_append}

pub same_truth : (a b : Bool) → (IsTrue a → IsTrue b) → (IsTrue b → IsTrue a) → a ≡ b
same_truth true b h k = sym (h refl)
same_truth false true h k = k refl
same_truth false false h k = refl

-- a lock that one holder has where another has it
same_held : (o q : Option ℕ) (t : ℕ) → (o ≡ Some t) ↔ (q ≡ Some t) → is_held_by q t ≡ is_held_by o t
same_held o q t k = same_truth (is_held_by q t) (is_held_by o t) (λ e. is_held o t (k.1 (held_is q t e))) (λ e. is_held q t (k.0 (held_is o t e)))

pub holds_same : (e : Term) (m n : List ℕ) → ((y : ℕ) → IsTrue (mentions e y) → SameAt m n y) → Holds e m → Holds e n
holds_same e m n h k = λ z. k (value_mentioned e m n h ∙ z)

-- the copies with these items
pub copies : World → List Item → List Item → Copies
copies w is js = record { left = local w.left w.holders w.outputs is; right = local w.right w.holders w.outputs js }

both_copies : {l k r q : Local} → l ≡ k → r ≡ q → ◌≡◌ {A = Copies} (record { left = l; right = r }) (record { left = k; right = q })
both_copies e i = ap₂ (λ (l r : Local). let q : Copies = record { left = l; right = r } in q) e i

abbrev pub world : List ℕ → List ℕ → Holders → Outputs → World
world m1 m2 h o = record { left = m1; right = m2; holders = h; outputs = o }

module _ (p : Plain) (t : ℕ) where
  -- Where the copies stand in the game: in front of statements,
  record Ready (q : Copies) : Type 0 where
    w : World
    a : Point
    is : List Item
    fits : Fits p t a w
    typed : TypedItems p t is a
    stands : q ≡ copies w is is

  -- in front of a store that is pending,
  record Storing (q : Copies) : Type 0 where
    w : World
    a : Point
    b : Point
    at : ℕ
    x : ℕ
    e : Term
    v1 : ℕ
    v2 : ℕ
    is : List Item
    fits : Fits p t a w
    ok : AssignOk p t x e a b
    pending : Pending p t e ok.q w v1 v2
    typed : TypedItems p t is b
    stands : q ≡ copies w (put at x v1 ∷ is) (put at x v2 ∷ is)

  -- in front of an output that is pending, with the same word in both,
  record Emitting (q : Copies) : Type 0 where
    w : World
    a : Point
    at : ℕ
    v : ℕ
    is : List Item
    fits : Fits p t a w
    word : IsWord v
    typed : TypedItems p t is a
    stands : q ≡ copies w (emit at v ∷ is) (emit at v ∷ is)

  -- or in front of a test that is pending.
  record Testing (q : Copies) : Type 0 where
    w : World
    a : Point
    yes_point : Point
    no_point : Point
    at : ℕ
    e : Term
    v : ℕ
    c : Cmds
    d : Cmds
    is : List Item
    fits : Fits p t a w
    ok : GuardOk p t e a yes_point no_point
    value1 : AllStable p t w.holders e → v ≡ value e w.left
    value2 : AllStable p t w.holders e → v ≡ value e w.right
    typed_yes : TypedItems p t (items_then c is) yes_point
    typed_no : TypedItems p t (items_then d is) no_point
    stands : q ≡ copies w (test at v c d ∷ is) (test at v c d ∷ is)

  data Stage (q : Copies) : Type 0 where
    ready : Ready q → Stage q
    storing : Storing q → Stage q
    emitting : Emitting q → Stage q
    testing : Testing q → Stage q

  -- An outside move ---------------------------------------------------------------------------------------------

  module _ (w : World) (m1 : List ℕ) (h1 : Holders) (o1 : Outputs) (m2 : List ℕ) (h2 : Holders) (o2 : Outputs) (is js : List Item)
      (k : IsLawfulOutside p t (copies w is js) m1 h1 o1 m2 h2 o2) where
    still_held : (l : ℕ) → (holder h1 l ≡ Some t) ↔ (holder w.holders l ≡ Some t)
    unfolding copies
    still_held l = k.left.held l

    stable_before : (x : ℕ) → IsStableNow p h1 t x → IsStableNow p w.holders t x
    stable_before x (inl a) = inl a
    stable_before x (inr (l, e, u)) = inr (l, (still_held l).0 e, u)

    stable_after : (x : ℕ) → IsStableNow p w.holders t x → IsStableNow p h1 t x
    stable_after x (inl a) = inl a
    stable_after x (inr (l, e, u)) = inr (l, (still_held l).1 e, u)

    kept1 : (x : ℕ) → IsStableNow p w.holders t x → SameAt m1 w.left x
    unfolding copies
    kept1 x s = k.left.stable x s

    kept2 : (x : ℕ) → IsStableNow p w.holders t x → SameAt m2 w.right x
    unfolding copies
    kept2 x s = k.right.stable x s

    all_hold1 : (es : List Term) → AllOver p t w.holders es → AllHold es w.left → AllHold es m1
    all_hold1 [] o a = tt
    all_hold1 (e ∷ es) o a = (holds_same e w.left m1 (λ y n. sym (kept1 y (o.0 y n))) a.0, all_hold1 es o.1 a.1)

    all_hold2 : (es : List Term) → AllOver p t w.holders es → AllHold es w.right → AllHold es m2
    all_hold2 [] o a = tt
    all_hold2 (e ∷ es) o a = (holds_same e w.right m2 (λ y n. sym (kept2 y (o.0 y n))) a.0, all_hold2 es o.1 a.1)

    all_over : (es : List Term) → AllOver p t w.holders es → AllOver p t h1 es
    all_over [] o = tt
    all_over (e ∷ es) o = ((λ y n. stable_after y (o.0 y n)), all_over es o.1)

    moved_settled : Settled p t (world m1 m2 h1 o1)
    moved_settled = record {
      memory1 = k.left.memory;
      memory2 = k.right.memory;
      locks = k.left.holders;
      agree = record { holders = refl; controls = k.memories.controls; visible = k.memories.visible };
      free1 = k.free_left;
      free2 = λ l n. k.free_right l (ap (λ (h : Holders). holder h l) (sym k.memories.holders) ∙ n);
    }

    moved_fits : (a : Point) → Fits p t a w → Fits p t a (world m1 m2 h1 o1)
    moved_fits a f = record {
      settled = moved_settled;
      sized = f.sized;
      held = λ l. f.held l ∙ same_held (holder h1 l) (holder w.holders l) t (still_held l);
      preds1 = all_hold1 a.preds f.over f.preds1;
      preds2 = all_hold2 a.preds f.over f.preds2;
      over = all_over a.preds f.over;
      types = λ x s n g o. let s' = stable_before x s in
          kept1 x s' ∙ f.types x s' n g (holds_same (type_at a x) m1 w.left (λ y i. kept1 y (f.types_over x s' n y i).0) o) ∙ sym (kept2 x s');
      types_over = λ x s n y i. let r = f.types_over x (stable_before x s) n y i in (stable_after y r.0, r.1);
    }

    same_value1 : (e : Term) → AllStable p t h1 e → value e w.left ≡ value e m1
    same_value1 e s = value_mentioned e w.left m1 (λ y n. sym (kept1 y (stable_before y (s y n))))

    same_value2 : (e : Term) → AllStable p t h1 e → value e w.right ≡ value e m2
    same_value2 e s = value_mentioned e w.right m2 (λ y n. sym (kept2 y (stable_before y (s y n))))

    all_stable_before : (e : Term) → AllStable p t h1 e → AllStable p t w.holders e
    all_stable_before e s y n = stable_before y (s y n)

    moved_pending : (e q : Term) (v1 v2 : ℕ) → AllStable p t w.holders q → Pending p t e q w v1 v2 → Pending p t e q (world m1 m2 h1 o1) v1 v2
    moved_pending e q v1 v2 o g = record {
      word1 = g.word1;
      word2 = g.word2;
      same = λ z. g.same (holds_same q m1 w.left (λ y n. kept1 y (o y n)) z);
      value1 = λ s. g.value1 (all_stable_before e s) ∙ same_value1 e s;
      value2 = λ s. g.value2 (all_stable_before e s) ∙ same_value2 e s;
    }

    moved_stands : after_move t (outside m1 h1 o1 m2 h2 o2) (copies w is js) ≡ copies (world m1 m2 h1 o1) is js
    unfolding copies
    moved_stands =
        ap₂ (λ (h : Holders) (o : Outputs). let q : Copies = record { left = local m1 h1 o1 is; right = local m2 h o js } in q) (sym k.memories.holders) (sym k.outputs)

  after_outside : (q : Copies) (m1 : List ℕ) (h1 : Holders) (o1 : Outputs) (m2 : List ℕ) (h2 : Holders) (o2 : Outputs) → IsLawfulOutside p t q m1 h1 o1 m2 h2 o2 → Stage q
      → Stage (after_move t (outside m1 h1 o1 m2 h2 o2) q)
  after_outside q m1 h1 o1 m2 h2 o2 k (ready r) =
      let k' = rw r.stands at k in
      ready (record {
        w = world m1 m2 h1 o1;
        a = r.a;
        is = r.is;
        fits = moved_fits r.w m1 h1 o1 m2 h2 o2 r.is r.is k' r.a r.fits;
        typed = r.typed;
        stands = ap (after_move t (outside m1 h1 o1 m2 h2 o2)) r.stands ∙ moved_stands r.w m1 h1 o1 m2 h2 o2 r.is r.is k';
      })
  after_outside q m1 h1 o1 m2 h2 o2 k (storing r) =
      let is = put r.at r.x r.v1 ∷ r.is in
      let js = put r.at r.x r.v2 ∷ r.is in
      let k' = rw r.stands at k in
      storing (record {
        w = world m1 m2 h1 o1;
        a = r.a;
        b = r.b;
        at = r.at;
        x = r.x;
        e = r.e;
        v1 = r.v1;
        v2 = r.v2;
        is = r.is;
        fits = moved_fits r.w m1 h1 o1 m2 h2 o2 is js k' r.a r.fits;
        ok = r.ok;
        pending = moved_pending r.w m1 h1 o1 m2 h2 o2 is js k' r.e r.ok.q r.v1 r.v2 (r.ok.q_stable r.w r.fits) r.pending;
        typed = r.typed;
        stands = ap (after_move t (outside m1 h1 o1 m2 h2 o2)) r.stands ∙ moved_stands r.w m1 h1 o1 m2 h2 o2 is js k';
      })
  after_outside q m1 h1 o1 m2 h2 o2 k (emitting r) =
      let is = emit r.at r.v ∷ r.is in
      let k' = rw r.stands at k in
      emitting (record {
        w = world m1 m2 h1 o1;
        a = r.a;
        at = r.at;
        v = r.v;
        is = r.is;
        fits = moved_fits r.w m1 h1 o1 m2 h2 o2 is is k' r.a r.fits;
        word = r.word;
        typed = r.typed;
        stands = ap (after_move t (outside m1 h1 o1 m2 h2 o2)) r.stands ∙ moved_stands r.w m1 h1 o1 m2 h2 o2 is is k';
      })
  after_outside q m1 h1 o1 m2 h2 o2 k (testing r) =
      let is = test r.at r.v r.c r.d ∷ r.is in
      let k' = rw r.stands at k in
      testing (record {
        w = world m1 m2 h1 o1;
        a = r.a;
        yes_point = r.yes_point;
        no_point = r.no_point;
        at = r.at;
        e = r.e;
        v = r.v;
        c = r.c;
        d = r.d;
        is = r.is;
        fits = moved_fits r.w m1 h1 o1 m2 h2 o2 is is k' r.a r.fits;
        ok = r.ok;
        value1 = λ s. r.value1 (all_stable_before r.w m1 h1 o1 m2 h2 o2 is is k' r.e s) ∙ same_value1 r.w m1 h1 o1 m2 h2 o2 is is k' r.e s;
        value2 = λ s. r.value2 (all_stable_before r.w m1 h1 o1 m2 h2 o2 is is k' r.e s) ∙ same_value2 r.w m1 h1 o1 m2 h2 o2 is is k' r.e s;
        typed_yes = r.typed_yes;
        typed_no = r.typed_no;
        stands = ap (after_move t (outside m1 h1 o1 m2 h2 o2)) r.stands ∙ moved_stands r.w m1 h1 o1 m2 h2 o2 is is k';
      })

  -- An own move -------------------------------------------------------------------------------------------------

  -- what an own move has to give
  abbrev Outcome : Copies → Copies → Type 0
  Outcome q r = IsSecureMove p t q r × Stage r

  owes_of : (w w' : World) (is js is' js' : List Item) → Settled p t w' → AreAlike is' js'
      → MeetsGuarantees p t (local w.left w.holders w.outputs is) (local w'.left w'.holders w'.outputs is')
      → MeetsGuarantees p t (local w.right w.holders w.outputs js) (local w'.right w'.holders w'.outputs js') → IsSecureMove p t (copies w is js) (copies w' is' js')
  unfolding copies
  owes_of w w' is js is' js' s a k1 k2 = record { items = a; memories = s.agree; outputs = refl; free_left = s.free1; free_right = s.free2; left = k1; right = k2 }

  pub quiet : (m : List ℕ) (h : Holders) (o : Outputs) (is js : List Item) → MeetsGuarantees p t (local m h o is) (local m h o js)
  quiet m h o is js = record { kept = λ x n. refl; held = λ l. inl refl; said = inl refl }

  -- memory, holders and outputs stay
  still : (w : World) (is js is' js' : List Item) → Settled p t w → AreAlike is' js' → Stage (copies w is' js')
      → Outcome (copies w is js) (copies w is' js')
  still w is js is' js' s a g = (owes_of w w is js is' js' s a (quiet w.left w.holders w.outputs is is') (quiet w.right w.holders w.outputs js js'), g)

  stage_ready : (w : World) (a : Point) (is : List Item) → Fits p t a w → TypedItems p t is a → Stage (copies w is is)
  stage_ready w a is f k = ready (record { w = w; a = a; is = is; fits = f; typed = k; stands = refl })

  turning : (m : List ℕ) (h k : Holders) (said : Outputs) (is js : List Item) → ChangesOwn t h k → MeetsGuarantees p t (local m h said is) (local m k said js)
  turning m h k said is js e = record { kept = λ x n. refl; held = e; said = inl refl }

  stored_at : (m : List ℕ) (h : Holders) (x v y : ℕ) → IsWritableNow p h t x → ¬ IsWritableNow p h t y → Dec (y ≡ x) → SameAt (set m x v) m y
  stored_at m h x v y k n (yes e) = absurd (n (subst (IsWritableNow p h t) (sym e) k))
  stored_at m h x v y k n (no d) = get_or-set_other m x y v 0 d

  pub storing_one : (m : List ℕ) (h : Holders) (o : Outputs) (x v : ℕ) (is js : List Item) → IsWritableNow p h t x
      → MeetsGuarantees p t (local m h o is) (local (set m x v) h o js)
  storing_one m h o x v is js k = record { kept = λ y n. stored_at m h x v y k n (ℕ_discrete y x); held = λ l. inl refl; said = inl refl }

  emitting_one : (m : List ℕ) (h : Holders) (o : Outputs) (v : ℕ) (is js : List Item) → IsWord v → MeetsGuarantees p t (local m h o is) (local m h (o ++ v ∷ []) js)
  emitting_one m h o v is js n = record { kept = λ x n. refl; held = λ l. inl refl; said = inr (v, n, refl) }

  -- a statement that evaluates nothing
  own_turn : (w : World) (a b : Point) (at : ℕ) (c : Cmd) (is : List Item) → Fits p t a w → TypedItems p t (run at c ∷ is) a
      → Turned t c w.holders (λ h. Fits p t b (with_holders p t w h)) → TypedItems p t is b
      → Outcome (copies w (run at c ∷ is) (run at c ∷ is))
      (record { left = after_cmd t w.left w.holders w.outputs at c is; right = after_cmd t w.right w.holders w.outputs at c is })
  unfolding copies
  own_turn w a b at c is f here (waits same) k =
      subst (Outcome (copies w (run at c ∷ is) (run at c ∷ is))) (sym (both_copies (same w.left w.outputs at is) (same w.right w.outputs at is)))
      (still w (run at c ∷ is) (run at c ∷ is) (run at c ∷ is) (run at c ∷ is) f.settled refl (stage_ready w a (run at c ∷ is) f here))
  own_turn w a b at c is f here (proceeds h same own_alone f') k =
      let w' = with_holders p t w h in
      subst (Outcome (copies w (run at c ∷ is) (run at c ∷ is))) (sym (both_copies (same w.left w.outputs at is) (same w.right w.outputs at is))) (
        owes_of w w' (run at c ∷ is) (run at c ∷ is) is is f'.settled refl (turning w.left w.holders h w.outputs (run at c ∷ is) is own_alone)
            (turning w.right w.holders h w.outputs (run at c ∷ is) is own_alone),
        stage_ready w' b is f' k,
      )

  stage_testing : (w : World) (a b c : Point) (at : ℕ) (e : Term) (x y : Cmds) (is : List Item) → Fits p t a w → GuardOk p t e a b c
      → TypedItems p t (items_then x is) b → TypedItems p t (items_then y is) c
      → Stage (copies w (test at (value e w.left) x y ∷ is) (test at (value e w.right) x y ∷ is))
  unfolding copies
  stage_testing w a b c at e x y is f ok k n =
      testing (record {
        w = w;
        a = a;
        yes_point = b;
        no_point = c;
        at = at;
        e = e;
        v = value e w.left;
        c = x;
        d = y;
        is = is;
        fits = f;
        ok = ok;
        value1 = λ s. refl;
        value2 = λ s. ok.same w f;
        typed_yes = k;
        typed_no = n;
        stands = ap (λ (v : ℕ).
            let q : Copies = record {
              left = local w.left w.holders w.outputs (test at (value e w.left) x y ∷ is);
              right = local w.right w.holders w.outputs (test at v x y ∷ is);
            } in
            q) (sym (ok.same w f));
      })

  stage_emitting : (w : World) (a : Point) (at : ℕ) (e : Term) (is : List Item) → HasWords e → Fits p t a w → value e w.left ≡ value e w.right → TypedItems p t is a
      → Stage (copies w (emit at (value e w.left) ∷ is) (emit at (value e w.right) ∷ is))
  unfolding copies
  stage_emitting w a at e is n f same k =
      emitting (record {
        w = w;
        a = a;
        at = at;
        v = value e w.left;
        is = is;
        fits = f;
        word = value_word e w.left n f.settled.memory1.words;
        typed = k;
        stands = ap (λ (v : ℕ).
            let q : Copies = record {
              left = local w.left w.holders w.outputs (emit at (value e w.left) ∷ is);
              right = local w.right w.holders w.outputs (emit at v ∷ is);
            } in
            q) (sym same);
      })

  own_ready : (w : World) (a : Point) (is : List Item) → Fits p t a w → TypedItems p t is a
      → Outcome (copies w is is) (after_move t own (copies w is is))
  unfolding copies
  own_ready w a [] f k = still w [] [] [] [] f.settled refl (stage_ready w a [] f tt)
  own_ready w a (run at (assign x e) ∷ is) f k =
      let ok = k.1 in
      still w _ _ (put at x (value e w.left) ∷ is) (put at x (value e w.right) ∷ is) f.settled refl
      (storing (record {
        w = w;
        a = a;
        b = k.0;
        at = at;
        x = x;
        e = e;
        v1 = value e w.left;
        v2 = value e w.right;
        is = is;
        fits = f;
        ok = ok;
        pending = record {
          word1 = value_word e w.left ok.words f.settled.memory1.words;
          word2 = value_word e w.right ok.words f.settled.memory2.words;
          same = ok.evaluated w f;
          value1 = λ s. refl;
          value2 = λ s. refl;
        };
        typed = k.2;
        stands = refl;
      }))
  own_ready w a (run at (branch e x y) ∷ is) f k =
      let c = k.1 in
      still w _ _ (test at (value e w.left) x y ∷ is) (test at (value e w.right) x y ∷ is) f.settled
      (ap (λ (v : ℕ). test at v x y ∷ map shape is) (c.2.same w f))
      (stage_testing w a c.0 c.1 at e x y is f c.2 (typed_then p t x is c.0 k.0 c.3 k.2) (typed_then p t y is c.1 k.0 c.4 k.2))
  own_ready w a (run at (loop e x) ∷ is) f k =
      let c = k.1 in
      let again : Cmds = next at (loop e x) none in
      let f' = c.2 w f in
      still w _ _ (test at (value e w.left) (◌then_all◌ x again) none ∷ is) (test at (value e w.right) (◌then_all◌ x again) none ∷ is) f.settled
      (ap (λ (v : ℕ). test at v (◌then_all◌ x again) none ∷ map shape is) (c.3.same w f'))
      (stage_testing w c.0 c.1 k.0 at e (◌then_all◌ x again) none is f' c.3
      (typed_then p t (◌then_all◌ x again) is c.1 k.0
      (typed_append p t x again c.1 c.0 k.0 c.4 (k.0, (c.0, c.1, (λ w g. g), c.3, c.4), (λ w g. g))) k.2)
      k.2)
  own_ready w a (run at (output e) ∷ is) f k =
      let ok = k.1 in
      still w _ _ (emit at (value e w.left) ∷ is) (emit at (value e w.right) ∷ is) f.settled refl
      (stage_emitting w k.0 at e is ok.words (ok.after w f) (ok.same w f) k.2)
  own_ready w a (run at c ∷ is) f k = own_turn w a k.0 at c is f k (k.1.turned w f) k.2
  own_ready w a (put at x v ∷ is) f k = absurd k.1
  own_ready w a (test at v x y ∷ is) f k = absurd k.1
  own_ready w a (emit at v ∷ is) f k = absurd k.1

  own_test : (w : World) (a b c : Point) (at : ℕ) (e : Term) (x y : Cmds) (is : List Item) → Fits p t a w → GuardOk p t e a b c
      → TypedItems p t (items_then x is) b → TypedItems p t (items_then y is) c
      → (v : ℕ) → (AllStable p t w.holders e → v ≡ value e w.left) → (AllStable p t w.holders e → v ≡ value e w.right)
      → Outcome (copies w (test at v x y ∷ is) (test at v x y ∷ is)) (after_move t own (copies w (test at v x y ∷ is) (test at v x y ∷ is)))
  unfolding copies
  own_test w a b c at e x y is f ok k n zero e1 e2 =
      let f' = ok.other w f (λ s. (sym (e1 s), sym (e2 s))) in
      still w _ _ (items_then y is) (items_then y is) f.settled refl (stage_ready w c (items_then y is) f' n)
  own_test w a b c at e x y is f ok k n (suc v) e1 e2 =
      let f' = ok.taken w f (λ s. ((λ z. let d : suc v ≡ 0 = e1 s ∙ z in cc), (λ z. let d : suc v ≡ 0 = e2 s ∙ z in cc))) in
      still w _ _ (items_then x is) (items_then x is) f.settled refl (stage_ready w b (items_then x is) f' k)

  own_store : (w : World) (a b : Point) (at x : ℕ) (e : Term) (v1 v2 : ℕ) (is : List Item) → Fits p t a w → (ok : AssignOk p t x e a b)
      → Pending p t e ok.q w v1 v2 → TypedItems p t is b
      → Outcome (copies w (put at x v1 ∷ is) (put at x v2 ∷ is)) (after_move t own (copies w (put at x v1 ∷ is) (put at x v2 ∷ is)))
  unfolding copies
  own_store w a b at x e v1 v2 is f ok g k =
      let f' = ok.after_store w v1 v2 f g in (
        owes_of w (stored p t w x v1 v2) (put at x v1 ∷ is) (put at x v2 ∷ is) is is f'.settled refl
            (storing_one w.left w.holders w.outputs x v1 (put at x v1 ∷ is) is (ok.writable w f))
            (storing_one w.right w.holders w.outputs x v2 (put at x v2 ∷ is) is (ok.writable w f)),
        stage_ready (stored p t w x v1 v2) b is f' k,
      )

  -- a point says nothing of outputs
  saying_fits : (w : World) (a : Point) (v : ℕ) → Fits p t a w → Fits p t a (saying p t w v)
  saying_fits w a v f = record {
    settled = record {
      memory1 = f.settled.memory1;
      memory2 = f.settled.memory2;
      locks = f.settled.locks;
      agree = f.settled.agree;
      free1 = f.settled.free1;
      free2 = f.settled.free2;
    };
    sized = f.sized;
    held = f.held;
    preds1 = f.preds1;
    preds2 = f.preds2;
    over = f.over;
    types = f.types;
    types_over = f.types_over;
  }

  own_emit : (w : World) (a : Point) (at v : ℕ) (is : List Item) → Fits p t a w → IsWord v → TypedItems p t is a
      → Outcome (copies w (emit at v ∷ is) (emit at v ∷ is)) (after_move t own (copies w (emit at v ∷ is) (emit at v ∷ is)))
  unfolding copies
  own_emit w a at v is f n k =
      let f' = saying_fits w a v f in (
        owes_of w (saying p t w v) (emit at v ∷ is) (emit at v ∷ is) is is f'.settled refl
            (emitting_one w.left w.holders w.outputs v (emit at v ∷ is) is n)
            (emitting_one w.right w.holders w.outputs v (emit at v ∷ is) is n),
        stage_ready (saying p t w v) a is f' k,
      )

  after_own : (q : Copies) → Stage q → Outcome q (after_move t own q)
  after_own q (ready r) = subst (λ q. Outcome q (after_move t own q)) (sym r.stands) (own_ready r.w r.a r.is r.fits r.typed)
  after_own q (storing r) =
      subst (λ q. Outcome q (after_move t own q)) (sym r.stands) (own_store r.w r.a r.b r.at r.x r.e r.v1 r.v2 r.is r.fits r.ok r.pending r.typed)
  after_own q (emitting r) = subst (λ q. Outcome q (after_move t own q)) (sym r.stands) (own_emit r.w r.a r.at r.v r.is r.fits r.word r.typed)
  after_own q (testing r) =
      subst (λ q. Outcome q (after_move t own q)) (sym r.stands)
      (own_test r.w r.a r.yes_point r.no_point r.at r.e r.c r.d r.is r.fits r.ok r.typed_yes r.typed_no r.v r.value1 r.value2)

  -- The whole game ----------------------------------------------------------------------------------------------

  after_all : (q : Copies) → Stage q → (ms : List Move) → AreLawful p t ms q → Stage (after_moves t ms q)
  after_all q g [] k = g
  after_all q g (own ∷ ms) k = (after_own (after_moves t ms q) (after_all q g ms k.0)).1
  after_all q g (outside m1 h1 o1 m2 h2 o2 ∷ ms) k = after_outside (after_moves t ms q) m1 h1 o1 m2 h2 o2 k.1 (after_all q g ms k.0)

  -- what a start must meet: the first point fits each fit start
  pub secure_of : (a b : Point) → Typed p t (thread_at p t).body a b
      → ((m1 m2 : List ℕ) → IsMemory (length p.vars) m1 → IsMemory (length p.vars) m2 → AreFitStarts p m1 m2
      → Fits p t a (world m1 m2 (replicate (length p.locks) None) []))
      → IsSecureThread p t
  unfolding copies
  secure_of a b k start m1 m2 i1 i2 st ms l = (after_own (after_moves t ms q) (after_all q g ms l)).0
    where
      q : Copies
      q = opening p t m1 m2

      g : Stage q
      g = stage_ready (world m1 m2 (replicate (length p.locks) None) []) a (items_then (thread_at p t).body []) (start m1 m2 i1 i2 st)
          (typed_then p t (thread_at p t).body [] a b k tt)
