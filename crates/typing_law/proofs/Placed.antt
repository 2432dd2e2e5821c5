-- What the statements of a thread keep, with the locks that are held before each and after it: statements without
-- annotations, each with the held locks of its place.
use Rattle.std.proofs.Common.{◌≡◌, ℕ, not, nat_le, List, [], ◌∷◌, ◌++◌, length, Bool, true, false, refl, sym, ◌∙◌, subst, arith, IsTrue, count_by}
use Rattle.std.specs.Prelude.{IfSome}
use Rattle.std.proofs.lemmas.Bool.{and_parts}
use Rattle.std.proofs.lemmas.List.{ext_get_or}
use Rattle.cov_expr.specs.Term.{Term, neg}
use Rattle.cov_expr.specs.Trees.{occurrences, width}
use Rattle.cov_expr.proofs.Tests.{each_below}
use Rattle.cov_ast.specs.Obligations.{Obligation, all_hold}
use Rattle.cov_ast.specs.Plain.{Cmd, Cmds, Plain, plain_stm, plain_block}
use Rattle.cov_ast.specs.LocksAlong.{locks_after}
use Rattle.cov_ast.specs.Syntax.{Proof, Stm, assign, branch, loop, note, output, Block, done, more}
use Rattle.cov_ast.specs.Tables.{has}
use Rattle.cov_ast.specs.WellFormed.{IsStmInRange, IsBlockInRange}
use Rattle.cov_ast.proofs.ObligationLaws.{both_hold}
use Rattle.statement_parts.specs.PlainParts.{Inside, nothing, turns, either, parts, made_inside, made}
use Rattle.mode_state.specs.Sets.{is_stable, may_write}
use Rattle.point_law.specs.Point.{Point}
use Rattle.point_law.specs.After.{with_guard, meet}
use Rattle.typing_law.specs.Blocks.{after_stm, after_block}
use Rattle.typing_law.specs.ThreadObligations.{flat, agree, same_held, reads, one_unstable, narrow, assign_parts, stm_parts, block_obligations}
use Rattle.typing_law.proofs.Soundness.Sound.{agreed, stm_sized, block_sized}
use Rattle.typing_law.specs.Disciplined.{points_within, points}

module _ (p : Plain) (t : ℕ) where
  -- what the rules ask of an expression that is evaluated
  pub record Reads (held : List Bool) (e : Term) : Type 0 where
    pub narrow : IsTrue (nat_le (width e) 7)
    pub one_unstable : IsTrue (nat_le (count_by (λ x. not (is_stable p t held x)) (occurrences e)) 1)

  module _ (at_place : ℕ → List Bool) where
    -- From the locks that are held before a statement to those that are held after it, by what is so of its blocks; `behind` are those
    -- after one without any.
    abbrev pub PlacedInside : (behind : List Bool) → Inside (List Bool → List Bool → Type 0) → (before after : List Bool) → Type 0
    PlacedInside behind nothing H K = behind ≡ K
    PlacedInside behind (turns e Body) H K = Body H H × (H ≡ K)
    PlacedInside behind (either e First Second) H K = First H K × Second H K

    -- what it assigns it may write, and what it evaluates is as the rules ask
    pub record PlacedBy (c : Cmd) (blocks : Inside (List Bool → List Bool → Type 0)) (H K : List Bool) : Type 0 where
      pub writes : IfSome (parts c).assigned (λ x. IsTrue (may_write p t H x))
      pub reads : IfSome (parts c).evaluated (Reads H)
      pub inside : PlacedInside (locks_after c H) blocks H K

    abbrev placed_first : (at : ℕ) → Cmd → Inside (List Bool → List Bool → Type 0) → (Rest : List Bool → List Bool → Type 0)
        → (before after : List Bool) → Type 0
    placed_first at c inside Rest H K = (M : List Bool) × (at_place at ≡ H) × PlacedBy c inside H M × Rest M K

    abbrev pub PlacedCmd : Cmd → (before after : List Bool) → Type 0
    PlacedCmd c H K = PlacedBy c (made_inside (λ H K. H ≡ K) placed_first c) H K

    abbrev pub Placed : Cmds → (before after : List Bool) → Type 0
    Placed c = made (λ H K. H ≡ K) placed_first c

-- Obligations ----------------------------------------------------------------------------------------------------

abbrev AllHold : List (List Obligation) → Type 0
AllHold [] = Unit {0}
AllHold (es ∷ ess) = IsTrue (all_hold es) × AllHold ess

all_parts : (ess : List (List Obligation)) → IsTrue (all_hold (flat ess)) → AllHold ess
all_parts [] h = tt
all_parts (es ∷ ess) h = let both = both_hold es (flat ess) h in (both.0, all_parts ess both.1)

one_holds : (e : Obligation) → IsTrue (all_hold (e ∷ [])) → IsTrue e.holds
one_holds e h = (and_parts e.holds true h).0

-- Held locks -----------------------------------------------------------------------------------------------------

-- where the same locks are held, the lists are the same
same_lists : (p : Plain) (H K : List Bool) → length H ≡ length p.locks → length K ≡ length p.locks → IsTrue (same_held p H K) → H ≡ K
same_lists p H K h k same =
    ext_get_or false H K (h ∙ sym k)
    (λ l lt. agreed (has H l) (has K l) (each_below (λ l. agree (has H l) (has K l)) 0 (length p.locks) l (omega arith) (omega (arith, lt, h)) same))

-- Points ---------------------------------------------------------------------------------------------------------

-- the place of each point has its held locks
module _ (at_place : ℕ → List Bool) where
  abbrev pub AreFound : List (ℕ × Point) → Type 0
  AreFound [] = Unit {0}
  AreFound (r ∷ rs) = (at_place r.0 ≡ r.1.held) × AreFound rs

  found_left : (rs qs : List (ℕ × Point)) → AreFound (rs ++ qs) → AreFound rs
  found_left [] qs h = tt
  found_left (r ∷ rs) qs h = (h.0, found_left rs qs h.1)

  found_right : (rs qs : List (ℕ × Point)) → AreFound (rs ++ qs) → AreFound qs
  found_right [] qs h = h
  found_right (r ∷ rs) qs h = found_right rs qs h.1

module _ (p : Plain) (t : ℕ) where
  module _ (at_place : ℕ → List Bool) where
    guard_reads : (at : ℕ) (H : List Bool) (e : Term)
        → IsTrue (all_hold (reads p t at H e ++ one_unstable p t at H e ++ narrow p t at e)) → Reads p t H e
    guard_reads at H e h =
        let first = both_hold (reads p t at H e ++ one_unstable p t at H e) (narrow p t at e) h in
        let second = both_hold (reads p t at H e) (one_unstable p t at H e) first.0 in
        record { narrow = (and_parts (nat_le (width e) 7) true first.1).0; one_unstable = (and_parts _ true second.1).0 }

    mutual
      -- a statement in front of others
      placed_stm : (s : Stm) (at : ℕ) (proofs : List Proof) (rest : Cmds) (a : Point) (K : List Bool)
          → length a.held ≡ length p.locks → IsStmInRange (length p.vars) (length p.locks) s
          → IsTrue (all_hold (flat (stm_parts p t s at proofs a))) → at_place at ≡ a.held → AreFound at_place (points_within p t s a)
          → Placed p t at_place rest (after_stm p t s a).held K → Placed p t at_place (plain_stm s at rest) a.held K
      placed_stm (assign x v q retypes) at proofs rest a K n r h e f k =
          let hs = all_parts (assign_parts p t at a x v q retypes proofs) h in
          let fine : Reads p t a.held v = record { narrow = (and_parts _ true hs.1.1.1.0).0; one_unstable = (and_parts _ true hs.1.1.0).0 } in
          (a.held, e, record { writes = (and_parts (may_write p t a.held x) true hs.1.0).0; reads = fine; inside = refl }, k)
      placed_stm (branch g yes_block no_block join) at proofs rest a K n r h e f k =
          let yes = with_guard p t a g in
          let no = with_guard p t a (neg g) in
          let yes_held = (after_block p t yes_block yes).held in
          let no_held = (after_block p t no_block no).held in
          let hs = all_parts (stm_parts p t (branch g yes_block no_block join) at proofs a) h in
          let same = same_lists p yes_held no_held (block_sized p t yes_block yes ∙ n) (block_sized p t no_block no ∙ n) (and_parts _ true hs.1.1.1.1.1.1.0).0 in
          let first = placed_block yes_block yes n r.1 hs.1.1.1.1.0 (found_left at_place (points p t yes_block yes) (points p t no_block no) f) in
          let second = placed_block no_block no n r.2 hs.1.1.1.1.1.0 (found_right at_place (points p t yes_block yes) (points p t no_block no) f) in (
            yes_held,
            e,
            record {
              writes = tt;
              reads = guard_reads at a.held g hs.0;
              inside = (first, subst (λ M. Placed p t at_place (plain_block no_block) a.held M) (sym same) second);
            },
            k,
          )
      placed_stm (loop g inv b) at proofs rest a K n r h e f k =
          let from = with_guard p t (meet p t a inv) g in
          let hs = all_parts (stm_parts p t (loop g inv b) at proofs a) h in
          let same = same_lists p (after_block p t b from).held a.held (block_sized p t b from ∙ n) n (and_parts _ true hs.1.1.1.1.1.1.0).0 in
          let body = subst (λ M. Placed p t at_place (plain_block b) a.held M) same (placed_block b from n r.2 hs.1.1.1.1.1.0 f) in
          (a.held, e, record { writes = tt; reads = guard_reads at a.held g hs.1.0; inside = (body, refl) }, k)
      placed_stm (note j) at proofs rest a K n r h e f k = k
      placed_stm (output g) at proofs rest a K n r h e f k =
          let hs = all_parts (stm_parts p t (output g) at proofs a) h in
          (a.held, e, record { writes = tt; reads = guard_reads at a.held g hs.0; inside = refl }, k)
      placed_stm s at proofs rest a K n r h e f k = ((after_stm p t s a).held, e, record { writes = tt; reads = tt; inside = refl }, k)

      pub placed_block : (b : Block) (a : Point) → length a.held ≡ length p.locks → IsBlockInRange (length p.vars) (length p.locks) b
          → IsTrue (all_hold (block_obligations p t b a)) → AreFound at_place (points p t b a)
          → Placed p t at_place (plain_block b) a.held (after_block p t b a).held
      placed_block done a n r h f = refl
      placed_block (more at s proofs b) a n r h f =
          let both = both_hold (flat (stm_parts p t s at proofs a)) (block_obligations p t b (after_stm p t s a)) h in
          placed_stm s at proofs (plain_block b) a (after_block p t b (after_stm p t s a)).held n r.0 both.0 f.0
          (found_left at_place (points_within p t s a) (points p t b (after_stm p t s a)) f.1)
          (placed_block b (after_stm p t s a) (stm_sized p t s a ∙ n) r.2 both.1 (found_right at_place (points_within p t s a) (points p t b (after_stm p t s a)) f.1))
