-- Where the places of a thread's statements differ, each place leads to the point before its statement.
use Rattle.std.proofs.Common.{◌≡◌, ℕ, ◌<◌, ◌==◌, not, List, [], ◌∷◌, ◌++◌, length, map, Bool, false, Some, refl, sym, ◌∙◌, ap, subst, IsTrue, cond, eq-eqb, eqb-true}
use Rattle.std.specs.Prelude.{find}
use Rattle.std.specs.List.{list_any}
use Rattle.std.proofs.lemmas.Bool.{and_parts, or_left, or_right, not-true, false_from_ne_true, true≢false}
use Rattle.std.proofs.lemmas.List.{map-append}
use Rattle.cov_expr.specs.Term.{neg}
use Rattle.cov_ast.specs.Plain.{Plain, plain}
use Rattle.cov_ast.specs.Syntax.{Stm, branch, loop, Block, done, more, Program}
use Rattle.cov_ast.specs.WellFormed.{are_distinct, places, places_within, IsWellFormed}
use Rattle.mode_compat.specs.Compatible.{numbered, no_thread}
use Rattle.point_law.specs.Point.{Point}
use Rattle.point_law.specs.After.{start, with_guard, meet}
use Rattle.typing_law.specs.Blocks.{after_stm}
use Rattle.typing_law.specs.Disciplined.{points_within, points, points_of, held_before, held_at}
use Rattle.typing_law.proofs.Placed.{AreFound}

abbrev places_of : List (ℕ × Point) → List ℕ
places_of rs = map (λ r. r.0) rs

-- points have the places of the statements
module _ (p : Plain) (t : ℕ) where
  mutual
    stm_places : (s : Stm) (a : Point) → places_of (points_within p t s a) ≡ places_within s
    stm_places (branch e yes_block no_block join) a =
        let yes = with_guard p t a e in
        let no = with_guard p t a (neg e) in
        map-append (λ r. r.0) (points p t yes_block yes) (points p t no_block no)
        ∙ (λ i. block_places yes_block yes i ++ block_places no_block no i)
    stm_places (loop e inv b) a = block_places b (with_guard p t (meet p t a inv) e)
    stm_places _ a = refl

    block_places : (b : Block) (a : Point) → places_of (points p t b a) ≡ places b
    block_places done a = refl
    block_places (more at s proofs b) a =
        ap (λ xs. at ∷ xs)
        (map-append (λ r. r.0) (points_within p t s a) (points p t b (after_stm p t s a))
        ∙ (λ i. stm_places s a i ++ block_places b (after_stm p t s a) i))

abbrev IsPlace : List (ℕ × Point) → ℕ → Type 0
IsPlace rs x = IsTrue (list_any (λ y. x == y) (places_of rs))

-- what is found in the whole list is found in each rest of it
found_in : (f : ℕ → List Bool) (rs : List (ℕ × Point)) → IsTrue (are_distinct (◌==◌) (places_of rs))
    → ((x : ℕ) → IsPlace rs x → f x ≡ held_before (find (λ r. r.0 == x) rs)) → AreFound f rs
found_in f [] d h = tt
found_in f (r ∷ rs) d h =
    let both = and_parts (not (list_any (λ y. r.0 == y) (places_of rs))) (are_distinct (◌==◌) (places_of rs)) d in
    let apart : (x : ℕ) → IsPlace rs x → (r.0 == x) ≡ false = λ x i. false_from_ne_true (r.0 == x)
    (λ e. true≢false (sym (subst (λ y. IsPlace rs y) (sym (eqb-true r.0 x e)) i) ∙ not-true _ both.0)) in (
      h r.0 (or_left _ _ (eq-eqb r.0 r.0 refl)) ∙ ap (λ b. held_before (cond b (Some r) (find (λ q. q.0 == r.0) rs))) (eq-eqb r.0 r.0 refl),
      found_in f rs both.1
          (λ x i. h x (or_right (x == r.0) _ i) ∙ ap (λ b. held_before (cond b (Some r) (find (λ q. q.0 == x) rs))) (apart x i)),
    )

pub places_found : (p : Program) → IsWellFormed p → (t : ℕ) → t < length p.threads → AreFound (held_at p t) (points_of p t)
places_found p formed t inside =
    let body = (numbered p t).body in
    let same = block_places (plain p) t body (start (plain p) t) in
    found_in (held_at p t) (points_of p t)
    (subst (λ xs. IsTrue (are_distinct (◌==◌) xs)) (sym same) (formed.bodies t no_thread inside).places_differ) (λ x i. refl)
