-- A thread whose statements have true obligations is secure.
use Rattle.std.proofs.Common.{◌≡◌, ℕ, zero, suc, ◌<◌, ◌≤◌, List, [], ◌∷◌, ◌++◌, length, map, replicate, Bool, true, false, Option, Some, None, refl, sym, ◌∙◌, ap, subst, arith, IsTrue, inl, inr, unwrap_or, cond, length-set}
use Rattle.std.proofs.lemmas.Bool.{cases_lt}
use Rattle.std.proofs.lemmas.List.{get_or_past, length-replicate}
use Rattle.std.proofs.lemmas.List.FromFn.{get_or-map-range_with_len, length-map-range_with_len}
use Rattle.cov_expr.specs.Entailment.{Holds}
use Rattle.cov_expr.specs.Term.{Term, const, neg}
use Rattle.cov_expr.specs.Words.{IsMemory}
use Rattle.cov_expr.proofs.Tests.{each_below}
use Rattle.cov_ast.specs.Declarations.{class_of, thread_at}
use Rattle.cov_ast.specs.Plain.{Plain, Cmds, plain_stm, plain_block}
use Rattle.cov_ast.specs.Syntax.{Proof, Stm, branch, loop, Block, done, more}
use Rattle.cov_ast.specs.Tables.{has}
use Rattle.cov_ast.specs.WellFormed.{IsStmInRange, IsBlockInRange, StmHasWords, BlockHasWords}
use Rattle.flow_model.specs.Source.{Holders, holder, is_held_by}
use Rattle.flow_model.specs.Agreement.{AreFitStarts, SameAt}
use Rattle.flow_model.specs.Game.{IsSecureThread}
use Rattle.mode_compat.specs.Declared.{IsDeclared}
use Rattle.mode_compat.specs.HeldSets.{AreHeldBy}
use Rattle.point_law.specs.Point.{Point, is_tracked, vars_of, type_at}
use Rattle.point_law.specs.After.{start, with_guard, meet}
use Rattle.typing_law.specs.Blocks.{after_stm, after_block}
use Rattle.typing_law.specs.Entailments.{guard_follows, state_follows}
use Rattle.typing_law.specs.ThreadObligations.{flat, agree, same_held, stm_parts, block_obligations}
use Rattle.typing_law.proofs.Soundness.Fits.{Fits, Weaker, Typed, OverStableControls}
use Rattle.typing_law.proofs.Soundness.Play.{world, secure_of}
use Rattle.typing_law.proofs.Soundness.FromObligations.{AllTrue, AllParts, ProofsHaveWords, parts, true_left, true_right, all_follow, follow_left, follow_right, guard_of, state_gives, state_over}
use Rattle.typing_law.proofs.Soundness.Static.{class_over, class_of_control, cond_is}
use Rattle.typing_law.proofs.Soundness.Exprs.{one_holds, not_const_zero}
use Rattle.typing_law.proofs.Soundness.Others.{met, guard_ok, alone_ok}

pub agreed : (a b : Bool) → IsTrue (agree a b) → a ≡ b
agreed true b h = sym h
agreed false true h = h
agreed false false h = refl

held_alike : (p : Plain) (H K : List Bool) → length H ≡ length p.locks → length K ≡ length p.locks → IsTrue (same_held p H K) → (l : ℕ)
    → has H l ≡ has K l
held_alike p H K h k same l = elim (cases_lt l (length p.locks)) [
  | inl lt ↦ agreed (has H l) (has K l) (each_below (λ l. agree (has H l) (has K l)) 0 (length p.locks) l (omega arith) (omega arith) same)
  | inr past ↦ get_or_past H l false (omega (arith, h)) ∙ sym (get_or_past K l false (omega (arith, k)))
]

module _ (p : Plain) (t : ℕ) where
  -- A statement keeps how many locks are told of.
  mutual
    pub stm_sized : (s : Stm) (a : Point) → length (after_stm p t s a).held ≡ length a.held
    stm_sized (branch e yes_block no_block join) a = block_sized yes_block (with_guard p t a e)
    stm_sized _ a = omega (arith, length-set {A = Bool})

    pub block_sized : (b : Block) (a : Point) → length (after_block p t b a).held ≡ length a.held
    block_sized done a = refl
    block_sized (more at s proofs b) a = block_sized b (after_stm p t s a) ∙ stm_sized s a

module _ (p : Plain) (d : IsDeclared p) (t : ℕ) (t_in : t < length p.threads) where
  mutual
    -- a statement in front of a typed rest
    typed_stm : (s : Stm) (at : ℕ) (proofs : List Proof) (rest : Cmds) (a b : Point) → length a.held ≡ length p.locks
        → IsStmInRange (length p.vars) (length p.locks) s → StmHasWords s → ProofsHaveWords proofs → AllParts (stm_parts p t s at proofs a)
        → Typed p t rest (after_stm p t s a) b → Typed p t (plain_stm s at rest) a b
    typed_stm (branch e yes_block no_block join) at proofs rest a b n r w c h k =
        let yes = with_guard p t a e in
        let no = with_guard p t a (neg e) in
        let yes_end = after_block p t yes_block yes in
        let no_end = after_block p t no_block no in
        let yes_sized = block_sized p t yes_block yes ∙ n in
        let no_sized = block_sized p t no_block no ∙ n in
        let behind = h.1.1.1.1.1.1 in
        let over = state_over p t at yes_end.held join behind.1.0 in
        let gs = state_follows yes_end join in
        let hs = state_follows no_end join in
        let all = all_follow p t at proofs 2 (gs ++ hs) c behind.1.1.1.0 in (
          meet p t yes_end join,
          (
            yes,
            no,
            guard_ok p d t t_in a e (guard_of p t at a e h.0 (all_follow p t at proofs 1 (guard_follows p t a e ∷ []) c h.1.1.1.0).0),
            typed_block yes_block yes (meet p t yes_end join) n r.1 w.1 h.1.1.1.1.0
                (met p d t t_in yes_end yes_end join yes_sized (λ l. refl) over (state_gives yes_end join (follow_left gs hs all))),
            typed_block no_block no (meet p t yes_end join) n r.2 w.2 h.1.1.1.1.1.0
                (met p d t t_in no_end yes_end join yes_sized (held_alike p yes_end.held no_end.held yes_sized no_sized behind.0.0) over
                (state_gives no_end join (follow_right gs hs all))),
          ),
          k,
        )
    typed_stm (loop e inv body) at proofs rest a b n r w c h k =
        let head = meet p t a inv in
        let yes = with_guard p t head e in
        let body_end = after_block p t body yes in
        let sized = block_sized p t body yes ∙ n in
        let over = state_over p t at a.held inv h.0 in
        let gs = state_follows a inv in
        let hs = guard_follows p t head e ∷ [] in
        let all = all_follow p t at proofs 1 (gs ++ hs) c h.1.1.1.1.0 in
        let inside = h.1.1.1.1.1 in
        let again = state_gives body_end inv (all_follow p t at proofs (suc (length (gs ++ hs))) (state_follows body_end inv) c inside.1.1.1.0) in (
          with_guard p t head (neg e),
          (
            head,
            yes,
            met p d t t_in a a inv n (λ l. refl) over (state_gives a inv (follow_left gs hs all)),
            guard_ok p d t t_in head e (guard_of p t at head e h.1.0 (follow_right gs hs all).0),
            typed_block body yes head n r.2 w.2 inside.0
                (met p d t t_in body_end a inv n (λ l. sym (held_alike p body_end.held a.held sized n inside.1.0.0 l)) over again),
          ),
          k,
        )
    typed_stm s at proofs rest a b n r w c h k = alone_ok p d t t_in s refl at proofs rest a b r w c h k

    typed_block : (c : Block) (a b : Point) → length a.held ≡ length p.locks → IsBlockInRange (length p.vars) (length p.locks) c → BlockHasWords c
        → AllTrue (block_obligations p t c a) → Weaker p t (after_block p t c a) b → Typed p t (plain_block c) a b
    typed_block done a b n r w h k = k
    typed_block (more at s proofs c) a b n r w h k =
        let ps = stm_parts p t s at proofs a in
        let rest = block_obligations p t c (after_stm p t s a) in
        typed_stm s at proofs (plain_block c) a b n r.0 w.0 w.1 (parts ps (true_left (flat ps) rest h))
        (typed_block c (after_stm p t s a) b (stm_sized p t s a ∙ n) r.2 w.2 (true_right (flat ps) rest h) k)

-- Starts -------------------------------------------------------------------------------------------------------

none_held : (n l : ℕ) → holder (replicate n None) l ≡ None
none_held zero l = refl
none_held (suc n) zero = refl
none_held (suc n) (suc l) = none_held n l

none_marked : (n l : ℕ) → has (replicate n false) l ≡ false
none_marked zero l = refl
none_marked (suc n) zero = refl
none_marked (suc n) (suc l) = none_marked n l

-- the type of a variable at the start, if it has one
start_type : (p : Plain) (t x : ℕ) (Q : Term → Type 0) → Q (const 0) → Q (class_of p x) → Q (type_at (start p t) x)
start_type p t x Q none given = elim (cases_lt x (length p.vars)) [
  | inl lt ↦ subst (λ o. Q (unwrap_or o (const 0))) (sym (get_or-map-range_with_len first 0 (length p.vars) x x None lt (omega arith)))
      (cond_is (λ o. Q (unwrap_or o (const 0))) (is_tracked p t (replicate (length p.locks) false) x) (Some (class_of p x)) None
      (λ _. given) (λ _. none))
  | inr past ↦ let after : length (map first (vars_of p)) ≤ x = omega (arith, length-map-range_with_len first 0 (length p.vars)) in
      subst (λ o. Q (unwrap_or o (const 0))) (sym (get_or_past (map first (vars_of p)) x None after)) none
]
  where
    first : ℕ → Option Term
    first y = cond (is_tracked p t (replicate (length p.locks) false) y) (Some (class_of p y)) None

module _ (p : Plain) (d : IsDeclared p) (t : ℕ) (t_in : t < length p.threads) (m1 m2 : List ℕ) (i1 : IsMemory (length p.vars) m1)
    (i2 : IsMemory (length p.vars) m2) (st : AreFitStarts p m1 m2) where
  h : Holders
  h = replicate (length p.locks) None

  nothing_held : AreHeldBy h t (replicate (length p.locks) false)
  unfolding h
  nothing_held l = none_marked (length p.locks) l ∙ sym (ap (λ (o : Option ℕ). is_held_by o t) (none_held (length p.locks) l))

  start_fits : Fits p t (start p t) (world m1 m2 (replicate (length p.locks) None) [])
  unfolding h
  start_fits = record {
    settled = record {
      memory1 = i1;
      memory2 = i2;
      locks = length-replicate (length p.locks) None;
      agree = record {
        holders = refl;
        controls = λ c k. st.low c (subst (λ e. Holds e m1) (sym (class_of_control p d c k)) (one_holds m1));
        visible = λ x k _. st.low x k;
      };
      free1 = λ l _. st.left l;
      free2 = λ l _. st.right l;
    };
    sized = length-replicate (length p.locks) false;
    held = nothing_held;
    preds1 = tt;
    preds2 = tt;
    over = tt;
    types = λ x s n o. start_type p t x (λ r. Holds r m1 → SameAt m1 m2 x) (λ k. absurd (not_const_zero m1 k)) (λ k. st.low x k);
    types_over = λ x s n.
        start_type p t x (λ r. OverStableControls p t h r) (λ y u. cc)
        (λ y u. class_over p d t t_in h (replicate (length p.locks) false) nothing_held x s y u);
  }

pub thread_secure : (p : Plain) → IsDeclared p → (t : ℕ) → t < length p.threads → (body : Block) → (thread_at p t).body ≡ plain_block body
    → IsBlockInRange (length p.vars) (length p.locks) body → BlockHasWords body → AllTrue (block_obligations p t body (start p t)) → IsSecureThread p t
thread_secure p d t t_in body e r w h =
    secure_of p t (start p t) (after_block p t body (start p t))
    (subst (λ c. Typed p t c (start p t) (after_block p t body (start p t))) (sym e)
    (typed_block p d t t_in body (start p t) (after_block p t body (start p t)) (length-replicate (length p.locks) false) r w h (λ w f. f)))
    (λ m1 m2 i1 i2 st. start_fits p d t t_in m1 m2 i1 i2 st)
