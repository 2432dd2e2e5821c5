-- What a store forgot would be known at the point, did a note behind what gives the whole list it, and the states since.
use Rattle.std.proofs.Common.{◌≡◌, ℕ, List, [], ◌∷◌, ◌++◌, Bool, true, false, inl, inr, refl, sym, ◌∙◌, ap, subst, Contains, true≢false}
use Rattle.std.proofs.lemmas.Bool.{cases_Bool, or_cases}
use Rattle.cov_expr.proofs.Trees.{same_is}
use Rattle.cov_expr.specs.declared.expr.Op.TheVariants.{Eq}
use Rattle.cov_expr.specs.Term.{Term, bin}
use Rattle.cov_expr.specs.Trees.{has_conjunct, same}
use Rattle.cov_ast.specs.LocksAlong.{no_locks}
use Rattle.cov_ast.specs.Plain.{Plain}
use Rattle.cov_ast.specs.Syntax.{note}
use Rattle.cov_ast.specs.Tables.{has}
use Rattle.entail_losses.proofs.ForgottenLaws.{part_is_given}
use Rattle.entail_losses.proofs.FoundLaws.{not_among}
use Rattle.entail_losses.proofs.KnownLaws.{IsKept, held_joined, held_step, held_steps, stays}
use Rattle.typing_points.proofs.PointLaws.{appended}
use Rattle.entail_losses.proofs.StableLaws.{stable_along}
use Rattle.entail_losses.proofs.StepLaws.{Knows, each_more, gives, in_distinct}
use Rattle.entail_losses.specs.Forgotten.{ForgottenPart, forgotten_parts, untouched_along}
use Rattle.entail_losses.specs.LeftOut.{LeftOut, gives_nothing, is_own, search_along, untouched_by}
use Rattle.entail_origins.specs.Origins.{given, given_by}
use Rattle.typing_points.specs.Points.{after_step, after_steps, point_after_steps}
use Rattle.entail_losses.specs.WouldBeKept.{WouldBeKept}
use Rattle.entail_losses.specs.WouldBeKnown.{listing}
use Rattle.entail_origins.specs.declared.hypothesis_origin.HypothesisSource.{HypothesisSource}
use Rattle.entail_origins.specs.declared.hypothesis_origin.HypothesisSource.TheVariants as by
use Rattle.mode_state.specs.Sets.{is_stable}
use Rattle.point_law.specs.After.{start}
use Rattle.point_law.specs.Point.{is_over_stable}
use Rattle.point_law.specs.Terms.{each_variable}
use Rattle.statement_paths.specs.LocksHeld.{held_along}
use Rattle.statement_paths.specs.Paths.{Step, passed}
use Rattle.statement_paths.specs.VariableSets.{stable, stable_after_steps}

-- What gives no equation -----------------------------------------------------------------------------------------

nothing_is_own : (source : HypothesisSource) (e : Term) → gives_nothing source e ≡ true → is_own e ≡ true
nothing_is_own by.Assigned e h = h
nothing_is_own _ e h = absurd (true≢false (sym h))

-- an equation is its only part
own_part : (e c : Term) → is_own e ≡ true → has_conjunct e c ≡ true → e ≡ c
own_part (bin Eq a b) c own part = elim (or_cases (same (bin Eq a b) c) false part) [
  | inl first ↦ same_is (bin Eq a b) c first
  | inr none ↦ absurd (true≢false (sym none))
]
own_part _ c own part = absurd (true≢false (sym own))

-- what has a part over kept variables, and isn't over such itself, is given
gives_some : (source : HypothesisSource) (whole part : Term) (kept : List Bool) → has_conjunct whole part ≡ true → each_variable (has kept) part ≡ true
    → each_variable (has kept) whole ≡ false → gives_nothing source whole ≡ false
gives_some source whole part kept is_part over not_kept = elim (cases_Bool (gives_nothing source whole)) [
  | inl nothing ↦
      let same_term : whole ≡ part = own_part whole part (nothing_is_own source whole nothing) is_part in
      absurd (true≢false (sym over ∙ sym (ap (each_variable (has kept)) same_term) ∙ not_kept))
  | inr some ↦ some
]

-- Variables ------------------------------------------------------------------------------------------------------

pub same_kept : (p : Plain) (hypotheses : List Term) (marks : List Bool) (ss : List Step) → (search_along p hypotheses marks ss).kept ≡ untouched_along p true marks ss
same_kept p hypotheses marks [] = refl
same_kept p hypotheses marks (s ∷ ss) = ap (untouched_by p true s) (same_kept p hypotheses marks ss)

-- The law --------------------------------------------------------------------------------------------------------

pub would_be_kept : (p : Plain) (t : ℕ) (steps : List Step) (hypotheses : List Term) (left_out : List LeftOut) (f : ForgottenPart)
    → Contains (forgotten_parts hypotheses left_out p (stable_after_steps p t steps) steps) f → WouldBeKept p t steps hypotheses f
would_be_kept p t steps hypotheses left_out f k =
    let found = part_is_given hypotheses left_out p (stable_after_steps p t steps) steps f k in
    let front = found.front in
    let step = found.step in
    let back = found.back in
    let new = found.new in
    let whole = new.whole in
    let part = new.part in
    let before = point_after_steps p t front in
    let next = after_step p t step before in
    let held : held_along steps (no_locks p) ≡ held_along back next.held
    = ap (λ ss. held_along ss (no_locks p)) found.parts ∙ held_joined p t front (step ∷ back) (no_locks p)
    ∙ ap (held_along (step ∷ back)) (held_steps p t front (start p t)) ∙ ap (held_along back) (held_step p t step before) in
    let marks = stable p t (held_along back next.held) in
    let over : each_variable (has (untouched_along p true marks back)) f.part ≡ true
    = subst (λ locks. each_variable (has (untouched_along p true (stable p t locks) back)) f.part ≡ true) held part.missing.over in
    let over_stable : is_over_stable p t next.held whole.term ≡ true
    = each_more (has (untouched_along p false marks back)) (is_stable p t next.held) (stable_along p t false back next.held) whole.term
    (subst (λ locks. each_variable (has (untouched_along p false (stable p t locks) back)) whole.term ≡ true) held new.is_steady) in
    let some : gives_nothing whole.source whole.term ≡ false
    = gives_some whole.source whole.term f.part (untouched_along p true (stable_after_steps p t steps) back) part.is_part part.missing.over new.not_kept in
    let kept : IsKept p t hypotheses next.held back f.part
    = subst (λ set. each_variable (has set) f.part ≡ true) (sym (same_kept p hypotheses marks back)) over in
    let there : Knows p t next whole.term = gives p t step before whole new.gives some over_stable in
    record {
      unknown = not_among hypotheses f.part part.missing.unknown;
      front = front;
      step = step;
      back = back;
      parts = found.parts;
      placed = ap (λ o. o.at) part.same_origin;
      whole = whole.term;
      is_part = part.is_part;
      gives = subst (λ source. Contains (given_by p step) (given source whole.term)) (ap (λ o. o.source) part.same_origin) new.gives;
      whole_known = subst (λ a. Knows p t a whole.term) (sym (appended p t front (step ∷ []) (start p t))) there;
      first = part.same_state;
      stays = λ at j listed so_far rest same.
          let noted = after_step p t (passed at (note j)) next in
          let end : point_after_steps p t ((front ++ step ∷ passed at (note j) ∷ []) ++ listing f.part so_far) ≡ after_steps p t (listing f.part so_far) noted
          = appended p t (front ++ step ∷ passed at (note j) ∷ []) (listing f.part so_far) (start p t)
          ∙ ap (after_steps p t (listing f.part so_far)) (appended p t front (step ∷ passed at (note j) ∷ []) (start p t)) in
          subst (λ a. Knows p t a f.part) (sym end)
          (stays p t hypotheses so_far rest noted f.part (subst (λ ss. IsKept p t hypotheses noted.held ss f.part) same kept) (in_distinct j.preds f.part listed));
    }
