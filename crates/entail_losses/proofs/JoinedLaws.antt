-- What both blocks of a branch still give is known at their ends, and would be known at the point, did the join list it, and each state since.
use Rattle.std.proofs.Common.{◌≡◌, ℕ, List, [], ◌∷◌, ◌++◌, length, map, Bool, true, false, Option, Some, None, ◌⊎◌, inl, inr, refl, sym, ◌∙◌, ap, subst, if◌then◌else◌, Contains, true≢false, arith}
use Rattle.std.specs.Prelude.{◌&&◌, not, nat_lt, is_some}
use Rattle.std.proofs.lemmas.Bool.{not-true, or_cases}
use Rattle.std.proofs.lemmas.List.Elements.{Contains-append_left, Contains-append_right, Contains-push, Contains-push_cases}
use Rattle.cov_expr.proofs.Tests.{left_true, right_true}
use Rattle.cov_expr.proofs.Trees.{same_is}
use Rattle.cov_expr.specs.Term.{Term}
use Rattle.cov_expr.specs.Trees.{has_term, is_closed, same}
use Rattle.cov_ast.specs.LocksAlong.{no_locks}
use Rattle.cov_ast.specs.Plain.{Plain, plain_block}
use Rattle.cov_ast.specs.Syntax.{State, Block, done, more, skip, branch}
use Rattle.cov_ast.specs.Tables.{has}
use Rattle.entail_losses.specs.Forgotten.{untouched_along}
use Rattle.entail_losses.specs.Joined.{StillGiven, from_join, given_at, is_still_given, is_unjoined, still_given, still_terms, unjoined, with_joined, with_one_given, with_one_unjoined, with_still_given, with_still_of_step, with_unjoined}
use Rattle.entail_losses.specs.LeftOut.{LeftOut, gives_nothing, is_known, state_of_step, states_of, states_of_steps, untouched_by}
use Rattle.entail_losses.specs.WouldBeJoined.{WouldBeJoined}
use Rattle.entail_losses.specs.WouldBeKnown.{first_state, listing, step_with}
use Rattle.entail_losses.specs.declared.joined_found.TheConstants.{MOST_LEFT_OUT}
use Rattle.entail_losses.specs.declared.joined_given.TheConstants.{MOST_GIVEN}
use Rattle.entail_losses.specs.declared.left_out_states.StateAt.{StateAt}
use Rattle.entail_losses.specs.declared.left_out_states.States.{States}
use Rattle.entail_losses.proofs.FoundLaws.{not_among}
use Rattle.entail_losses.proofs.KeptLaws.{same_kept}
use Rattle.entail_losses.proofs.KnownLaws.{IsKept, held_joined, held_listing, held_step, held_steps, none_first, stays, unstated}
use Rattle.entail_losses.proofs.StableLaws.{past_step, stable_along}
use Rattle.entail_losses.proofs.StepLaws.{Knows, at_end, each_more, gives, in_distinct, keeps}
use Rattle.entail_origins.specs.Origins.{Given, given_by}
use Rattle.typing_points.specs.Points.{after_step, after_steps, point_after_steps}
use Rattle.typing_points.proofs.PointLaws.{appended}
use Rattle.mode_state.specs.Sets.{is_stable}
use Rattle.point_law.specs.After.{start}
use Rattle.point_law.specs.Point.{Point, is_over_stable}
use Rattle.point_law.specs.Terms.{each_variable}
use Rattle.statement_paths.specs.LocksHeld.{held_after, held_along, held_at_end, held_past}
use Rattle.statement_paths.specs.Paths.{Step, passed, place_of, passed_all, to_first_end, to_second_end}
use Rattle.statement_paths.specs.VariableSets.{stable, stable_after_steps}
use Rattle.statement_paths.proofs.PlainLaws.{after_the_first}

-- What steps still give ----------------------------------------------------------------------------------------

-- one of these, which is over kept variables
pub record IsStillGiven (kept : List Bool) (gs : List Given) (o : StillGiven) : Type 0 where
  pub from : Given
  pub given : Contains gs from
  pub gives_some : gives_nothing from.source from.term ≡ false
  pub over : each_variable (has kept) from.term ≡ true
  pub same : from.term ≡ o.term

module _ (kept : List Bool) (at : ℕ) where
  one_given : (g : Given) (found : List StillGiven) → is_still_given kept g found ≡ true → IsStillGiven kept (g ∷ []) (given_at at g)
  one_given g found h =
      let few = nat_lt (length found) MOST_GIVEN in
      let some = not (gives_nothing g.source g.term) in
      let over = each_variable (has kept) g.term in
      record {
        from = g;
        given = Contains-push [] g;
        gives_some = not-true (gives_nothing g.source g.term) (right_true few some (left_true (few && some) over h));
        over = right_true (few && some) over h;
        same = refl;
      }

  in_one : (g : Given) (found : List StillGiven) (o : StillGiven) → Contains (with_one_given kept at g found) o → Contains found o ⊎ IsStillGiven kept (g ∷ []) o
  in_one g found o k = by_case (is_still_given kept g found) refl k
    where
      by_case : (b : Bool) → is_still_given kept g found ≡ b → Contains (if b then found ++ given_at at g ∷ [] else found) o → Contains found o ⊎ IsStillGiven kept (g ∷ []) o
      by_case true is h = elim (Contains-push_cases found (given_at at g) o h) [
        | inl old ↦ inl old
        | inr same ↦ inr (subst (IsStillGiven kept (g ∷ [])) same (one_given g found is))
      ]
      by_case false is h = inl h

  wider : (gs hs : List Given) (o : StillGiven) → ((g : Given) → Contains gs g → Contains hs g) → IsStillGiven kept gs o → IsStillGiven kept hs o
  wider gs hs o includes new = record { from = new.from; given = includes new.from new.given; gives_some = new.gives_some; over = new.over; same = new.same }

  in_all : (gs : List Given) (found : List StillGiven) (o : StillGiven) → Contains (with_still_given kept at gs found) o → Contains found o ⊎ IsStillGiven kept gs o
  in_all [] found o k = inl k
  in_all (g ∷ gs) found o k =
      elim (in_all gs (with_one_given kept at g found) o k) [
        | inl so_far ↦ elim (in_one g found o so_far) [
          | inl old ↦ inl old
          | inr new ↦ inr (wider (g ∷ []) (g ∷ gs) o (λ h. Contains-append_left (g ∷ []) gs h) new)
        ]
        | inr later ↦ inr (wider gs (g ∷ gs) o (λ h. Contains-append_right (g ∷ []) gs h) later)
      ]

-- Known at the end ---------------------------------------------------------------------------------------------

module _ (p : Plain) (t : ℕ) where
  -- what steps leave of a set was in it
  left_of : (ss : List Step) (kept : List Bool) (x : ℕ) → has (untouched_along p true kept ss) x ≡ true → has kept x ≡ true
  left_of [] kept x h = h
  left_of (s ∷ ss) kept x h = left_of ss kept x (past_step p t x true s (no_locks p) (untouched_along p true kept ss) h).0

  -- each variable of a set is stable at the end of steps
  abbrev AreStable : (kept : List Bool) → List Step → (held : List Bool) → Type 0
  AreStable kept ss held = (x : ℕ) → has kept x ≡ true → is_stable p t (held_along ss held) x ≡ true

  -- what steps leave of it is stable in front of them
  stable_under : (ss : List Step) (held kept : List Bool) → AreStable kept ss held → (x : ℕ) → has (untouched_along p true kept ss) x ≡ true → is_stable p t held x ≡ true
  stable_under [] held kept are x h = are x h
  stable_under (s ∷ ss) held kept are x h =
      let one = past_step p t x true s held (untouched_along p true kept ss) h in
      sym one.1 ∙ stable_under ss (held_after s held) kept are x one.0

  are_behind : (s : Step) (ss : List Step) (kept : List Bool) (a : Point) → AreStable kept (s ∷ ss) a.held → AreStable kept ss (after_step p t s a).held
  are_behind s ss kept a are x h = subst (λ held. is_stable p t (held_along ss held) x ≡ true) (held_step p t s a) (are x h)

  -- what is known in front of steps without states, which leave its variables, is known behind them
  stay : (ss : List Step) (a : Point) (kept : List Bool) → AreStable kept ss a.held → (e : Term) → first_state ss ≡ None
      → each_variable (has (untouched_along p true kept ss)) e ≡ true → Knows p t a e → Knows p t (after_steps p t ss a) e
  stay [] a kept are e none over k = k
  stay (s ∷ ss) a kept are e none over k =
      let both = none_first (state_of_step s) (first_state ss) none in
      let rest = untouched_along p true kept ss in
      let next = after_step p t s a in
      let later : each_variable (has rest) e ≡ true = each_more (has (untouched_by p true s rest)) (has rest) (λ x h. (past_step p t x true s a.held rest h).0) e over in
      let over_stable : is_over_stable p t next.held e ≡ true
      = each_more (has rest) (is_stable p t next.held) (stable_under ss next.held kept (are_behind s ss kept a are)) e later in
      let there : Knows p t next e = subst (λ step. Knows p t (after_step p t step a) e) (unstated e s both.0) (keeps p t s a e rest over over_stable k) in
      stay ss next kept (are_behind s ss kept a are) e both.1 later there

  -- a predicate over kept variables, which is known at the end of steps where these are stable there
  record IsKnownAtEnd (ss : List Step) (kept : List Bool) (e : Term) : Type 0 where
    over : each_variable (has kept) e ≡ true
    known : (a : Point) → AreStable kept ss a.held → Knows p t (after_steps p t ss a) e

  still_known : (ss : List Step) (kept : List Bool) (o : StillGiven) → Contains (still_given p kept ss) o → IsKnownAtEnd ss kept o.term
  still_known [] kept o k = let inside = k.1 in absurd (omega arith)
  still_known (s ∷ ss) kept o k = by_state (λ h. behind (still_known ss kept o h)) (first_state ss) refl k
    where
      behind : IsKnownAtEnd ss kept o.term → IsKnownAtEnd (s ∷ ss) kept o.term
      behind end = record { over = end.over; known = λ a are. end.known (after_step p t s a) (are_behind s ss kept a are) }

      here : first_state ss ≡ None → IsStillGiven (untouched_along p true kept ss) (given_by p s) o → IsKnownAtEnd (s ∷ ss) kept o.term
      here none new =
          let rest = untouched_along p true kept ss in
          record {
            over = each_more (has rest) (has kept) (left_of ss kept) o.term (subst (λ e. each_variable (has rest) e ≡ true) new.same new.over);
            known = λ a are.
                let next = after_step p t s a in
                let over_stable : is_over_stable p t next.held new.from.term ≡ true
                = each_more (has rest) (is_stable p t next.held) (stable_under ss next.held kept (are_behind s ss kept a are)) new.from.term new.over in
                let first : Knows p t next new.from.term = gives p t s a new.from new.given new.gives_some over_stable in
                subst (λ e. Knows p t (after_steps p t ss next) e) new.same (stay ss next kept (are_behind s ss kept a are) new.from.term none new.over first);
          }

      by_state : (Contains (still_given p kept ss) o → IsKnownAtEnd (s ∷ ss) kept o.term) → (x : Option StateAt) → first_state ss ≡ x
          → Contains (with_still_of_step p (untouched_along p true kept ss) s (is_some x) (still_given p kept ss)) o → IsKnownAtEnd (s ∷ ss) kept o.term
      by_state before (Some state) is h = before h
      by_state before None is h = elim (in_all (untouched_along p true kept ss) (place_of s) (given_by p s) (still_given p kept ss) o h) [
        | inl old ↦ before old
        | inr new ↦ here is new
      ]

-- What a join leaves out ---------------------------------------------------------------------------------------

-- one of those that the first block still gives, which the second gives too, and which the join doesn't list
pub record IsUnjoined (hypotheses second listed : List Term) (states : States) (gs : List StillGiven) (o : LeftOut) : Type 0 where
  pub from : StillGiven
  pub given : Contains gs from
  pub same : from.term ≡ o.term
  pub names : states_of o ≡ states
  pub in_second : has_term second o.term ≡ true
  pub unlisted : has_term listed o.term ≡ false
  pub unknown : is_known hypotheses o.term ≡ false

module _ (hypotheses second listed : List Term) (states : States) where
  abbrev New : List StillGiven → LeftOut → Type 0
  New gs o = IsUnjoined hypotheses second listed states gs o

  one_unjoined : (g : StillGiven) (found : List LeftOut) → is_unjoined hypotheses second listed found g.term ≡ true → New (g ∷ []) (unjoined states g)
  one_unjoined g found h =
      let few = nat_lt (length found) MOST_LEFT_OUT in
      let not_closed = not (is_closed g.term) in
      let there = has_term second g.term in
      let unlisted = not (has_term listed g.term) in
      let unknown = not (is_known hypotheses g.term) in
      let another = not (has_term (map (λ o. o.term) found) g.term) in
      let five = left_true (few && not_closed && there && unlisted && unknown) another h in
      let four = left_true (few && not_closed && there && unlisted) unknown five in
      let three = left_true (few && not_closed && there) unlisted four in
      record {
        from = g;
        given = Contains-push [] g;
        same = refl;
        names = refl;
        in_second = right_true (few && not_closed) there three;
        unlisted = not-true (has_term listed g.term) (right_true (few && not_closed && there) unlisted four);
        unknown = not-true (is_known hypotheses g.term) (right_true (few && not_closed && there && unlisted) unknown five);
      }

  in_one_unjoined : (g : StillGiven) (found : List LeftOut) (o : LeftOut) → Contains (with_one_unjoined hypotheses second listed states g found) o → Contains found o ⊎ New (g ∷ []) o
  in_one_unjoined g found o k = by_case (is_unjoined hypotheses second listed found g.term) refl k
    where
      by_case : (b : Bool) → is_unjoined hypotheses second listed found g.term ≡ b → Contains (if b then found ++ unjoined states g ∷ [] else found) o
          → Contains found o ⊎ New (g ∷ []) o
      by_case true is h = elim (Contains-push_cases found (unjoined states g) o h) [
        | inl old ↦ inl old
        | inr same ↦ inr (subst (New (g ∷ [])) same (one_unjoined g found is))
      ]
      by_case false is h = inl h

  wider_unjoined : (gs hs : List StillGiven) (o : LeftOut) → ((g : StillGiven) → Contains gs g → Contains hs g) → New gs o → New hs o
  wider_unjoined gs hs o includes new = record {
    from = new.from;
    given = includes new.from new.given;
    same = new.same;
    names = new.names;
    in_second = new.in_second;
    unlisted = new.unlisted;
    unknown = new.unknown;
  }

  in_unjoined : (gs : List StillGiven) (found : List LeftOut) (o : LeftOut) → Contains (with_unjoined hypotheses second listed states gs found) o → Contains found o ⊎ New gs o
  in_unjoined [] found o k = inl k
  in_unjoined (g ∷ gs) found o k =
      elim (in_unjoined gs (with_one_unjoined hypotheses second listed states g found) o k) [
        | inl so_far ↦ elim (in_one_unjoined g found o so_far) [
          | inl old ↦ inl old
          | inr new ↦ inr (wider_unjoined (g ∷ []) (g ∷ gs) o (λ h. Contains-append_left (g ∷ []) gs h) new)
        ]
        | inr later ↦ inr (wider_unjoined gs (g ∷ gs) o (λ h. Contains-append_right (g ∷ []) gs h) later)
      ]

-- one that has a term
record HasGiven (gs : List StillGiven) (e : Term) : Type 0 where
  from : StillGiven
  given : Contains gs from
  same : from.term ≡ e

term_given : (gs : List StillGiven) (e : Term) → has_term (map (λ g. g.term) gs) e ≡ true → HasGiven gs e
term_given [] e h = absurd (true≢false (sym h))
term_given (g ∷ gs) e h = elim (or_cases (same g.term e) (has_term (map (λ g. g.term) gs) e) h) [
  | inl first ↦ record { from = g; given = Contains-append_left (g ∷ []) gs g (Contains-push [] g); same = same_is g.term e first }
  | inr later ↦
      let rest = term_given gs e later in
      record { from = rest.from; given = Contains-append_right (g ∷ []) gs rest.from rest.given; same = rest.same }
]

-- Several steps ------------------------------------------------------------------------------------------------

module _ (p : Plain) (hypotheses : List Term) (marks : List Bool) where
  -- the join of a branch among the steps left it out
  pub record IsByJoin (ss : List Step) (o : LeftOut) : Type 0 where
    pub front : List Step
    pub at : ℕ
    pub guard : Term
    pub first : Block
    pub second : Block
    pub join : State
    pub back : List Step
    pub parts : ss ≡ front ++ passed at (branch guard first second join) ∷ back
    pub new : let kept = untouched_along p true marks back in
        IsUnjoined hypotheses (still_terms p kept (to_second_end at (branch guard first second join))) join.preds (from_join at (states_of_steps back))
        (still_given p kept (to_first_end at (branch guard first second join))) o

  longer : (s : Step) (ss : List Step) (o : LeftOut) → IsByJoin ss o → IsByJoin (s ∷ ss) o
  longer s ss o found = record {
    front = s ∷ found.front;
    at = found.at;
    guard = found.guard;
    first = found.first;
    second = found.second;
    join = found.join;
    back = found.back;
    parts = ap (λ rest. s ∷ rest) found.parts;
    new = found.new;
  }

  module _ (told : List LeftOut) where
    further : (s : Step) (ss : List Step) (o : LeftOut) → Contains told o ⊎ IsByJoin ss o → Contains told o ⊎ IsByJoin (s ∷ ss) o
    further s ss o (inl old) = inl old
    further s ss o (inr found) = inr (longer s ss o found)

    pub by_join : (ss : List Step) (o : LeftOut) → Contains (with_joined hypotheses p told marks ss) o → Contains told o ⊎ IsByJoin ss o
    by_join [] o k = inl k
    by_join (passed at (branch guard first second join) ∷ ss) o k =
        let kept = untouched_along p true marks ss in
        let whole = branch guard first second join in
        elim (in_unjoined hypotheses (still_terms p kept (to_second_end at whole)) join.preds (from_join at (states_of_steps ss)) (still_given p kept (to_first_end at whole))
        (with_joined hypotheses p told marks ss) o k) [
          | inl old ↦ further (passed at whole) ss o (by_join ss o old)
          | inr new ↦ inr (record { front = []; at = at; guard = guard; first = first; second = second; join = join; back = ss; parts = refl; new = new })
        ]
    by_join (passed at skip ∷ ss) o k = further (passed at skip) ss o (by_join ss o k)
    by_join (s ∷ ss) o k = further s ss o (by_join ss o k)

-- The locks at the end of a block --------------------------------------------------------------------------------

along_block : (b : Block) (held : List Bool) → held_along (passed_all b) held ≡ held_at_end b held
along_block done held = refl
along_block (more at s proofs rest) held = along_block rest (held_past s held) ∙ sym (after_the_first s at (plain_block rest) held)

-- The law --------------------------------------------------------------------------------------------------------

module _ (p : Plain) (t : ℕ) (steps : List Step) (hypotheses : List Term) (o : LeftOut) where
  joined_known : IsByJoin p hypotheses (stable_after_steps p t steps) steps o → WouldBeJoined p t steps hypotheses o
  joined_known found =
      let front = found.front in
      let back = found.back in
      let whole = branch found.guard found.first found.second found.join in
      let step = passed found.at whole in
      let new = found.new in
      let e = o.term in
      let before = point_after_steps p t front in
      let next = after_step p t step before in
      let marks = stable_after_steps p t steps in
      let kept = untouched_along p true marks back in
      let in_front : held_along front (no_locks p) ≡ before.held = held_steps p t front (start p t) in
      let held : held_along steps (no_locks p) ≡ held_along back next.held
      = ap (λ ss. held_along ss (no_locks p)) found.parts ∙ held_joined p t front (step ∷ back) (no_locks p)
      ∙ ap (held_along (step ∷ back)) in_front ∙ ap (held_along back) (held_step p t step before) in
      let are_kept : (x : ℕ) → has kept x ≡ true → is_stable p t next.held x ≡ true
      = λ x h. stable_along p t true back next.held x (subst (λ locks. has (untouched_along p true (stable p t locks) back) x ≡ true) held h) in
      let first_held : next.held ≡ held_along (to_first_end found.at whole) before.held = sym (held_step p t step before) ∙ sym (along_block found.first before.held) in
      let first = still_known p t (to_first_end found.at whole) kept new.from new.given in
      let other = term_given (still_given p kept (to_second_end found.at whole)) e new.in_second in
      let second = still_known p t (to_second_end found.at whole) kept other.from other.given in
      let over : each_variable (has kept) e ≡ true = subst (λ f. each_variable (has kept) f ≡ true) new.same first.over in
      let listed = step_with e step in
      let noted = after_step p t listed before in
      let there : IsKept p t hypotheses noted.held back e
      = subst (λ locks. IsKept p t hypotheses locks back e) (sym (held_listing p t e step before))
      (subst (λ set. each_variable (has set) e ≡ true) (sym (same_kept p hypotheses (stable p t (held_along back next.held)) back))
      (subst (λ locks. each_variable (has (untouched_along p true (stable p t locks) back)) e ≡ true) held over)) in
      record {
        unknown = not_among hypotheses e new.unknown;
        front = front;
        at = found.at;
        guard = found.guard;
        first = found.first;
        second = found.second;
        join = found.join;
        back = back;
        parts = found.parts;
        state = ap (λ s. s.first) new.names;
        last = ap (λ s. s.last) new.names;
        unlisted = new.unlisted;
        at_first_end =
            subst (λ a. Knows p t a e) (sym (appended p t front (to_first_end found.at whole) (start p t)))
            (subst (λ f. Knows p t (after_steps p t (to_first_end found.at whole) before) f) new.same
            (first.known before (λ x h. subst (λ locks. is_stable p t locks x ≡ true) first_held (are_kept x h))));
        at_second_end = λ same_locks.
            let second_held : next.held ≡ held_along (to_second_end found.at whole) before.held
            = sym (held_step p t step before)
            ∙ subst (λ locks. held_at_end found.first locks ≡ held_at_end found.second locks) in_front same_locks
            ∙ sym (along_block found.second before.held) in
            subst (λ a. Knows p t a e) (sym (appended p t front (to_second_end found.at whole) (start p t)))
            (subst (λ f. Knows p t (after_steps p t (to_second_end found.at whole) before) f) other.same
            (second.known before (λ x h. subst (λ locks. is_stable p t locks x ≡ true) second_held (are_kept x h))));
        stays = λ so_far rest same.
            let end : point_after_steps p t ((front ++ listed ∷ []) ++ listing e so_far) ≡ after_steps p t (listing e so_far) noted
            = appended p t (front ++ listed ∷ []) (listing e so_far) (start p t)
            ∙ ap (after_steps p t (listing e so_far)) (appended p t front (listed ∷ []) (start p t)) in
            subst (λ a. Knows p t a e) (sym end)
            (stays p t hypotheses so_far rest noted e (subst (λ ss. IsKept p t hypotheses noted.held ss e) same there)
            (in_distinct (found.join.preds ++ e ∷ []) e (at_end found.join.preds e)));
      }

pub would_be_joined : (p : Plain) (t : ℕ) (steps : List Step) (hypotheses : List Term) (told : List LeftOut) (o : LeftOut)
    → Contains (with_joined hypotheses p told (stable_after_steps p t steps) steps) o → Contains told o ⊎ WouldBeJoined p t steps hypotheses o
would_be_joined p t steps hypotheses told o k = elim (by_join p hypotheses (stable_after_steps p t steps) told steps o k) [
  | inl old ↦ inl old
  | inr found ↦ inr (joined_known p t steps hypotheses o found)
]
