-- What is refused of a thread shows its number, and a detail of the kind that goes with the rule.
use Rattle.std.proofs.Common.{◌≡◌, ℕ, suc, List, [], ◌∷◌, ◌++◌, map, rules, Bool, true, false, cond, IsTrue, refl, sym, ◌∙◌, ap, Option, Some, None}
use Rattle.std.specs.Prelude.{is_none}
use Rattle.cov_expr.specs.Term.{Term}
use Rattle.cov_expr.specs.Trees.{vars}
use Rattle.cov_ast.specs.Obligations.{Obligation, first_false}
use Rattle.cov_ast.specs.Plain.{Plain, plain}
use Rattle.cov_ast.specs.Syntax.{State, Proof, Stm, branch, loop, Block, done, more, Program}
use Rattle.cov_ast.specs.declared.refusal.Refusal.{Refusal}
use Rattle.cov_ast.specs.declared.refusal.Rule.TheVariants.{V11}
use Rattle.mode_compat.specs.Compatible.{numbered}
use Rattle.point_law.specs.Point.{Point, is_tracked}
use Rattle.point_law.specs.After.{start}
use Rattle.typing_law.specs.Blocks.{after_stm}
use Rattle.typing_law.specs.Entailments.{Entailment}
use Rattle.typing_law.specs.ThreadObligations.{flat, over_stable, reads, one_unstable, narrow, guard_obligations, type_obligations, state_obligations, proved, numbers, stm_parts, block_obligations, first_held, lock_detail, end_obligation, end_point, thread_obligations}
use Rattle.thread_swap.specs.Judges.{goes_with}

-- of a thread: its number, and where it doesn't hold, what goes with its rule
abbrev IsShown : ℕ → Obligation → Type 0
IsShown t e = (e.refusal.thread ≡ Some t) × (e.holds ≡ false → IsTrue (goes_with e.refusal.rule e.refusal.detail))

abbrev AreShown : ℕ → List Obligation → Type 0
AreShown t [] = Unit {0}
AreShown t (e ∷ es) = IsShown t e × AreShown t es

abbrev AllShown : ℕ → List (List Obligation) → Type 0
AllShown t [] = Unit {0}
AllShown t (es ∷ ess) = AreShown t es × AllShown t ess

module _ (t : ℕ) where
  append_shown : (a b : List Obligation) → AreShown t a → AreShown t b → AreShown t (a ++ b)
  append_shown [] b h k = k
  append_shown (e ∷ es) b h k = (h.0, append_shown es b h.1 k)

  flat_shown : (ess : List (List Obligation)) → AllShown t ess → AreShown t (flat ess)
  flat_shown [] h = tt
  flat_shown (es ∷ ess) h = append_shown es (flat ess) h.0 (flat_shown ess h.1)

  map_shown : {X : Type 0} (f : X → Obligation) (xs : List X) → ((x : X) → IsShown t (f x)) → AreShown t (map f xs)
  map_shown f [] h = tt
  map_shown f (x ∷ xs) h = (h x, map_shown f xs h)

  if_shown : (b : Bool) (es : List Obligation) → AreShown t es → AreShown t (cond b es [])
  if_shown true es h = h
  if_shown false es h = tt

  first_shown : (es : List Obligation) → AreShown t es → (r : Refusal) → first_false es ≡ Some r
      → (r.thread ≡ Some t) × IsTrue (goes_with r.rule r.detail)
  first_shown [] h r e = cc
  first_shown (e ∷ es) h r f = go (λ k. first_shown es h.1 r k) e.holds refl f
    where
      go : (first_false es ≡ Some r → (r.thread ≡ Some t) × IsTrue (goes_with r.rule r.detail)) → (b : Bool) → e.holds ≡ b
          → cond b (first_false es) (Some e.refusal) ≡ Some r → (r.thread ≡ Some t) × IsTrue (goes_with r.rule r.detail)
      go rest true is f = rest f
      go rest false is f =
          let same : e.refusal ≡ r = cc in
          (sym (ap (λ q. q.thread) same) ∙ h.0.0, sym (ap (λ q. goes_with q.rule q.detail) same) ∙ h.0.1 is)

module _ (p : Plain) (t at : ℕ) where
  reads_shown : (held : List Bool) (e : Term) → AreShown t (reads p t at held e)
  reads_shown held e = map_shown t _ (vars e) (λ x. (refl, λ h. refl))

  guard_shown : (held : List Bool) (e : Term) → AreShown t (guard_obligations p t at held e)
  guard_shown held e =
      append_shown t (reads p t at held e ++ one_unstable p t at held e) (narrow p t at e)
      (append_shown t (reads p t at held e) (one_unstable p t at held e) (reads_shown held e) ((refl, λ h. refl), tt))
      ((refl, λ h. refl), tt)

  types_shown : (test : ℕ → Bool) (held : List Bool) (before : List ℕ) (types : List (ℕ × Term))
      → AreShown t (type_obligations p t at test held before types)
  types_shown test held before [] = tt
  types_shown test held before (r ∷ rs) = ((refl, λ h. refl), ((refl, λ h. refl), types_shown test held (r.0 ∷ before) rs))

  state_shown : (held : List Bool) (j : State) → AreShown t (state_obligations p t at held j)
  state_shown held j =
      append_shown t (map (over_stable p t at held) j.preds) (type_obligations p t at (is_tracked p t held) held [] j.types)
      (map_shown t (over_stable p t at held) j.preds (λ e. (refl, λ h. refl))) (types_shown (is_tracked p t held) held [] j.types)

  proved_shown : (proofs : List Proof) (n : ℕ) (gs : List Entailment) → AreShown t (proved p t at proofs n gs)
  proved_shown proofs n [] = tt
  proved_shown proofs n (g ∷ gs) = ((refl, λ h. refl), proved_shown proofs (suc n) gs)

  numbers_shown : (count : ℕ) (proofs : List Proof) → AreShown t (numbers p t at count proofs)
  numbers_shown count proofs = map_shown t _ proofs (λ q. (refl, λ h. refl))

module _ (p : Plain) (t : ℕ) where
  mutual
    parts_shown : (s : Stm) (at : ℕ) (proofs : List Proof) (a : Point) → AllShown t (stm_parts p t s at proofs a)
    parts_shown (branch e yes_block no_block j) at proofs a =
        search (rules, guard_shown p t at, state_shown p t at, proved_shown p t at, numbers_shown p t at, block_shown yes_block, block_shown no_block)
    parts_shown (loop e j b) at proofs a = search (rules, guard_shown p t at, state_shown p t at, proved_shown p t at, numbers_shown p t at, block_shown b)
    parts_shown _ at proofs a =
        search (rules, reads_shown p t at, guard_shown p t at, types_shown p t at, state_shown p t at, proved_shown p t at, numbers_shown p t at, if_shown t, map_shown t)

    block_shown : (b : Block) (a : Point) → AreShown t (block_obligations p t b a)
    block_shown done a = tt
    block_shown (more at s proofs b) a =
        append_shown t (flat (stm_parts p t s at proofs a)) (block_obligations p t b (after_stm p t s a))
        (flat_shown t (stm_parts p t s at proofs a) (parts_shown s at proofs a)) (block_shown b (after_stm p t s a))

  end_shown : (place : ℕ) (held : List Bool) → IsShown t (end_obligation p t place held)
  end_shown place held = (refl, go (first_held p held))
    where
      go : (o : Option ℕ) → is_none o ≡ false → IsTrue (goes_with V11 (lock_detail p o))
      go None h = absurd (let c : true ≡ false = h in cc)
      go (Some l) h = refl

pub refused_is_lawful : (p : Program) (t : ℕ) (r : Refusal) → first_false (thread_obligations p t) ≡ Some r
    → (r.thread ≡ Some t) × IsTrue (goes_with r.rule r.detail)
refused_is_lawful p t r e =
    let body = block_obligations (plain p) t (numbered p t).body (start (plain p) t) in
    let end = end_obligation (plain p) t (numbered p t).end (end_point p t).held in
    first_shown t (thread_obligations p t)
    (append_shown t body (end ∷ []) (block_shown (plain p) t (numbered p t).body (start (plain p) t))
    (end_shown (plain p) t (numbered p t).end (end_point p t).held, tt)) r e
