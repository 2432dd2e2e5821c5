-- The entailments of a thread: what has to follow, at which statement and by which number there, and how far they are
-- reached. None of it depends on a certificate.
use Rattle.std.specs.Prelude.{ℕ, suc, ◌==◌, ◌&&◌, ◌||◌, List, [], ◌∷◌, ◌++◌, length, take, map, filter, Bool, true, false, if◌then◌else◌, Option, Some, None}
use Rattle.cov_expr.specs.Term.{neg}
use Rattle.cov_expr.specs.View.{term}
use Rattle.cov_ast.specs.Syntax.{Proof, Stm, skip, assign, lock, unlock, branch, loop, note, output, Block, done, more, Program}
use Rattle.cov_ast.specs.Obligations.{Obligation}
use Rattle.cov_ast.specs.Plain.{Plain, plain}
use Rattle.cov_ast.specs.declared.refusal.Rule.{Rule}
use Rattle.cov_ast.specs.declared.refusal.Rule.TheVariants.{W1, W2, W3, W4, W5, W6, W7, W8, W9, V1, V2, V3, V4, V5, V6, V7, V8, V9, V10, V11, V12, V13, V14, V15, V16}
use Rattle.cov_ast.specs.declared.refusal.Detail.TheVariants.{Number}
use Rattle.statement_parts.specs.Parts.{Inside, with_inside, made_inside, made}
use Rattle.mode_compat.specs.Compatible.{numbered}
use Rattle.point_law.specs.Point.{Point}
use Rattle.point_law.specs.After.{start, with_guard, meet}
use Rattle.typing_law.specs.Blocks.{after_stm, after_block}
use Rattle.typing_law.specs.Counts.{entailment_count, is_entailment}
use Rattle.typing_law.specs.Entailments.{Entailment, is_proved, state_follows, guard_follows, assign_entailments, unlock_entailments}
use Rattle.typing_law.specs.ThreadObligations.{thread_obligation, thread_obligations}
use Rattle.typing_law.specs.declared.entail.Entail.{Entail}

-- an entailment, with the place of its statement and its number among those of the statement
pub record PlacedEntailment : Type 0 where
  pub place : ℕ
  pub number : ℕ
  pub entailment : Entailment

-- entailments of a statement, numbered from a number on
abbrev pub placed_from : (place n : ℕ) → List Entailment → List PlacedEntailment
placed_from place n [] = []
placed_from place n (g ∷ gs) = record { place = place; number = n; entailment = g } ∷ placed_from place (suc n) gs

-- Statements and blocks ------------------------------------------------------------------------------------------

module _ (p : Plain) (t : ℕ) where
  abbrev mutual
    -- those of a statement and of the blocks in it, in the order of its obligations
    pub stm_entailments : Stm → (at : ℕ) → Point → List PlacedEntailment
    stm_entailments skip at a = []
    stm_entailments (assign x e q retypes) at a = placed_from at 1 (assign_entailments p t a x e q retypes)
    stm_entailments (lock l) at a = []
    stm_entailments (unlock l) at a = placed_from at 1 (unlock_entailments p t a l)
    stm_entailments (branch e yes_block no_block join) at a =
        let yes_start = with_guard p t a e in
        let no_start = with_guard p t a (neg e) in
        let gs = guard_follows p t a e ∷ [] in
        let hs = state_follows (after_block p t yes_block yes_start) join ++ state_follows (after_block p t no_block no_start) join in
        placed_from at 1 gs ++ (block_entailments yes_block yes_start ++ (block_entailments no_block no_start ++ placed_from at (suc (length gs)) hs))
    stm_entailments (loop e inv b) at a =
        let head = meet p t a inv in
        let body_start = with_guard p t head e in
        let gs = state_follows a inv ++ guard_follows p t head e ∷ [] in
        let hs = state_follows (after_block p t b body_start) inv in
        placed_from at 1 gs ++ (block_entailments b body_start ++ placed_from at (suc (length gs)) hs)
    stm_entailments (note j) at a = placed_from at 1 (state_follows a j)
    stm_entailments (output e) at a = placed_from at 1 (guard_follows p t a e ∷ [])

    pub block_entailments : Block → Point → List PlacedEntailment
    block_entailments done a = []
    block_entailments (more at s proofs b) a = stm_entailments s at a ++ block_entailments b (after_stm p t s a)

-- How far they are reached ---------------------------------------------------------------------------------------

-- whether a rule is about certificates: which one an entailment has (V9), and by which number it is given (V13)
abbrev pub is_about_certificates : Rule → Bool
is_about_certificates W1 = false
is_about_certificates W2 = false
is_about_certificates W3 = false
is_about_certificates W4 = false
is_about_certificates W5 = false
is_about_certificates W6 = false
is_about_certificates W7 = false
is_about_certificates W8 = false
is_about_certificates W9 = false
is_about_certificates V1 = false
is_about_certificates V2 = false
is_about_certificates V3 = false
is_about_certificates V4 = false
is_about_certificates V5 = false
is_about_certificates V6 = false
is_about_certificates V7 = false
is_about_certificates V8 = false
is_about_certificates V9 = true
is_about_certificates V10 = false
is_about_certificates V11 = false
is_about_certificates V12 = false
is_about_certificates V13 = true
is_about_certificates V14 = false
is_about_certificates V15 = false
is_about_certificates V16 = false

-- whether an obligation holds, or is about certificates
abbrev pub is_passed : Obligation → Bool
is_passed e = e.holds || is_about_certificates e.refusal.rule

-- the obligations up to the first that isn't about certificates and doesn't hold
abbrev pub reached : List Obligation → List Obligation
reached [] = []
reached (e ∷ es) = if is_passed e then e ∷ reached es else []

-- of entailments, those whose obligations are reached: as many as these ask that something follows
abbrev pub reached_entailments : List Obligation → List PlacedEntailment → List PlacedEntailment
reached_entailments obligations entailments = take (entailment_count (reached obligations)) entailments

-- Threads --------------------------------------------------------------------------------------------------------

-- every entailment of a thread, in the order of its obligations
abbrev pub all_entailments : Program → (t : ℕ) → List PlacedEntailment
all_entailments p t = block_entailments (plain p) t (numbered p t).body (start (plain p) t)

-- The entailments of a thread up to the first of its obligations that doesn't hold, where those about certificates don't
-- count.
abbrev pub thread_entailments : Program → (t : ℕ) → List PlacedEntailment
thread_entailments p t = reached_entailments (thread_obligations p t) (all_entailments p t)

-- Their certificates ---------------------------------------------------------------------------------------------

abbrev pub proofs_in_front : (at : ℕ) → Stm → List Proof → Inside (List (ℕ × List Proof)) → (rest : List (ℕ × List Proof)) → List (ℕ × List Proof)
proofs_in_front at s proofs inside rest = (at, proofs) ∷ with_inside [] inside ++ rest

-- the proofs of nested statements, each with the place of its statement
abbrev pub proofs_within : Stm → List (ℕ × List Proof)
proofs_within s = with_inside [] (made_inside [] proofs_in_front s)

-- the proofs of statements and of those in them, each with the place of its statement
abbrev pub placed_proofs : Block → List (ℕ × List Proof)
placed_proofs b = made [] proofs_in_front b

-- the first at a place, or none
abbrev pub proofs_among : List (ℕ × List Proof) → (place : ℕ) → List Proof
proofs_among [] place = []
proofs_among (q ∷ qs) place = if q.0 == place then q.1 else proofs_among qs place

-- the proofs of the statement at a place
abbrev pub proofs_at : Block → (place : ℕ) → List Proof
proofs_at body place = proofs_among (placed_proofs body) place

-- whether an entailment of a body is proved: the first certificate that the statement at its place gives for its number, else `auto`, is valid
abbrev pub is_proved_in : Block → PlacedEntailment → Bool
is_proved_in body g = is_proved (proofs_at body g.place) g.number g.entailment

-- V9 of an entailment of a body: it is proved
abbrev pub entailment_obligation : (t : ℕ) → Block → PlacedEntailment → Obligation
entailment_obligation t body g = thread_obligation t g.place V9 (Number g.number) (is_proved_in body g)

-- of obligations, those of V9
abbrev pub entailment_obligations : List Obligation → List Obligation
entailment_obligations obligations = filter (λ e. is_entailment e.refusal.rule) obligations

-- the first of entailments with this number of the statement at this place
abbrev pub entailment_among : List PlacedEntailment → (place number : ℕ) → Option PlacedEntailment
entailment_among [] place number = None
entailment_among (g ∷ gs) place number = if g.place == place && g.number == number then Some g else entailment_among gs place number

-- what the code keeps of one
abbrev pub view_entail : Entail → PlacedEntailment
view_entail e = record { place = e.place; number = e.number; entailment = record { hyps = map term e.hyps; goal = term e.goal } }
