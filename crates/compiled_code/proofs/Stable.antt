-- What is stable behind a statement, and what the plan keeps there.
use Rattle.std.proofs.Common.{◌≡◌, ◌⊎◌, ℕ, zero, suc, ◌<◌, ◌≤◌, ◌&&◌, List, [], ◌∷◌, length, get_or, set, Bool, true, false, Some, None, refl, sym, ◌∙◌, ap, subst, arith, IsTrue, inl, inr, ⊎_elim, get_or-set_other}
use Rattle.std.specs.List.{list_any}
use Rattle.std.specs.Option.{option_map_or}
use Rattle.std.proofs.lemmas.Bool.{or_left, or_right, or_cases, and_parts, and_from, cases_lt, both_ways}
use Rattle.std.proofs.lemmas.List.{length-map, get_or_past}
use Rattle.cov_expr.proofs.Tests.{passing}
use Rattle.cov_ast.specs.Declarations.{assumes, lists, no_lock, under}
use Rattle.cov_ast.specs.LocksAlong.{locks_after}
use Rattle.cov_ast.specs.Plain.{Cmd, assign, branch, loop, output, Plain}
use Rattle.cov_ast.specs.Tables.{has}
use Rattle.mode_state.specs.Sets.{is_stable, locks_of}
use Rattle.mode_state.proofs.HeldLaws.{any_from}
use Rattle.regalloc.specs.Plan.{Plan, restrict}
use Rattle.statement_parts.specs.PlainParts.{parts}
use Rattle.compiled_code.specs.Compiled.{cmd_plan}
use Rattle.compiled_code.proofs.Plans.{restricted_is, restrict_keeps}

-- Locks -----------------------------------------------------------------------------------------------------------

cleared : (H : List Bool) (l j : ℕ) → has (set H l false) j ≡ true → has H j ≡ true
cleared [] l j h = h
cleared (b ∷ H) zero zero h = absurd (let c : false ≡ true = h in cc)
cleared (b ∷ H) zero (suc j) h = h
cleared (b ∷ H) (suc l) zero h = h
cleared (b ∷ H) (suc l) (suc j) h = cleared H l j h

still_held : (H : List Bool) (l j : ℕ) → has H j ≡ true → has (set H l true) j ≡ true
still_held [] l j h = h
still_held (b ∷ H) zero zero h = refl
still_held (b ∷ H) zero (suc j) h = h
still_held (b ∷ H) (suc l) zero h = h
still_held (b ∷ H) (suc l) (suc j) h = still_held H l j h

-- Variables -------------------------------------------------------------------------------------------------------

module _ (p : Plain) (t : ℕ) where
  pub declared_lock : (l x : ℕ) → under p l x ≡ true → l < length p.locks
  declared_lock l x h = go (cases_lt l (length p.locks))
    where
      go : (l < length p.locks) ⊎ (length p.locks ≤ l) → l < length p.locks
      go (inl lt) = lt
      go (inr past) = absurd (let c : false ≡ true = sym (ap (λ k. lists k x) (get_or_past p.locks l no_lock past)) ∙ h in cc)

  pub stable_some : (H : List Bool) (x : ℕ) → is_stable p t H x ≡ true → IsTrue (assumes p t x) ⊎ ((l : ℕ) × (has H l ≡ true) × (under p l x ≡ true))
  stable_some H x h =
      ⊎_elim (λ a. inl a)
      (λ a. let k = passing (λ l. has H l && under p l x) 0 (length p.locks) a in let both = and_parts (has H k.0) (under p k.0 x) k.1 in inr (k.0, both.0, both.1))
      (or_cases (assumes p t x) (list_any (λ l. has H l && under p l x) (locks_of p)) h)

  pub stable_by : (H : List Bool) (l x : ℕ) → has H l ≡ true → under p l x ≡ true → is_stable p t H x ≡ true
  stable_by H l x h u =
      let inside = declared_lock l x u in
      or_right (assumes p t x) _ (any_from (λ l. has H l && under p l x) 0 (length p.locks) l (omega arith) (omega arith) (and_from (has H l) (under p l x) h u))

  stable_before : (H : List Bool) (l x : ℕ) → under p l x ≡ false → is_stable p t (set H l true) x ≡ true → is_stable p t H x ≡ true
  stable_before H l x n h =
      ⊎_elim (λ a. or_left (assumes p t x) _ a)
      (λ k. stable_by H k.0 x (sym (get_or-set_other H l k.0 true false (λ e. absurd (both_ways (under p l x) n (subst (λ j. under p j x ≡ true) e k.2)))) ∙ k.1) k.2)
      (stable_some (set H l true) x h)

  stable_cleared : (H : List Bool) (l x : ℕ) → is_stable p t (set H l false) x ≡ true → is_stable p t H x ≡ true
  stable_cleared H l x h =
      ⊎_elim (λ a. or_left (assumes p t x) _ a) (λ k. stable_by H k.0 x (cleared H l k.0 k.1) k.2) (stable_some (set H l false) x h)

  still_stable : (H : List Bool) (l x : ℕ) → is_stable p t H x ≡ true → is_stable p t (set H l true) x ≡ true
  still_stable H l x h =
      ⊎_elim (λ a. or_left (assumes p t x) _ a) (λ k. stable_by (set H l true) k.0 x (still_held H l k.0 k.1) k.2) (stable_some H x h)

  -- Statements that evaluate nothing ------------------------------------------------------------------------------

  restricted_long : (H : List Bool) (P : Plan) → length (restrict (is_stable p t H) P) ≡ length P
  restricted_long H P = length-map P _

  restricted_kept : (H : List Bool) (P : Plan) (j y : ℕ) → get_or (restrict (is_stable p t H) P) j None ≡ Some y → get_or P j None ≡ Some y
  restricted_kept H P j y e = (restricted_is (is_stable p t H) P j y e).0

  restricted_stable : (H : List Bool) (P : Plan) (j y : ℕ) → get_or (restrict (is_stable p t H) P) j None ≡ Some y → is_stable p t H y ≡ true
  restricted_stable H P j y e = (restricted_is (is_stable p t H) P j y e).1

  -- The plan keeps what it kept and what is stable behind the statement; that was stable before it unless it is under a lock that is taken.
  pub record Settled (c : Cmd) (H : List Bool) (P : Plan) : Type 0 where
    pub long : length (cmd_plan p t c H P) ≡ length P
    pub kept : (j y : ℕ) → get_or (cmd_plan p t c H P) j None ≡ Some y → get_or P j None ≡ Some y
    pub stays : (j y : ℕ) → get_or (cmd_plan p t c H P) j None ≡ Some y → is_stable p t H y ≡ true → is_stable p t (locks_after c H) y ≡ true
    pub keeps : (j y : ℕ) → get_or P j None ≡ Some y → is_stable p t (locks_after c H) y ≡ true → get_or (cmd_plan p t c H P) j None ≡ Some y
    pub before : (x : ℕ) → option_map_or (λ l. under p l x) (parts c).taken false ≡ false → is_stable p t (locks_after c H) x ≡ true → is_stable p t H x ≡ true

  pub settled : (c : Cmd) (H : List Bool) (P : Plan) → (parts c).evaluated ≡ None → Settled c H P
  settled (assign x e) H P n = absurd cc
  settled (branch e a b) H P n = absurd cc
  settled (loop e a) H P n = absurd cc
  settled (output e) H P n = absurd cc
  settled c H P n = record {
    long = first_of (assumption, search restricted_long);
    kept = λ j y e. first_of (assumption, search restricted_kept);
    stays = λ j y e s. first_of (assumption, search still_stable, search restricted_stable);
    keeps = λ j y e s. first_of (assumption, search restrict_keeps);
    before = λ x u s. first_of (assumption, search stable_before, search stable_cleared);
  }
