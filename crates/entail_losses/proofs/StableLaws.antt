-- Variables that are stable at a point, and that no step to it touches, are stable in front of these steps too.
use Rattle.std.proofs.Common.{◌≡◌, ℕ, ◌==◌, List, [], ◌∷◌, ◌++◌, Option, Some, None, Bool, true, false, length, refl, sym, ◌∙◌, ap, arith, set, inl, inr, true≢false}
use Rattle.std.specs.Prelude.{◌&&◌, ◌||◌}
use Rattle.std.specs.List.{list_any}
use Rattle.std.proofs.Math.Bool.{and-false}
use Rattle.std.proofs.lemmas.Bool.{cases_eq, cases_lt, ne_eqb}
use Rattle.std.proofs.lemmas.List.{get_or-set_same, get_or-set_other, get_or_past, length-set}
use Rattle.cov_expr.specs.Term.{Term}
use Rattle.cov_expr.proofs.Trees.{has_number-append}
use Rattle.cov_expr.specs.Trees.{has_number}
use Rattle.cov_ast.proofs.TableLaws.{table_at, table_length}
use Rattle.cov_ast.specs.Declarations.{assumes, lock_at, under}
use Rattle.cov_ast.specs.Plain.{Plain, plain_block}
use Rattle.cov_ast.specs.Syntax.{Stm, branch, loop, Block, done, more}
use Rattle.cov_ast.specs.Tables.{has, table}
use Rattle.statement_parts.specs.Parts.{Parts, parts}
use Rattle.statement_paths.specs.LocksHeld.{held_after, held_along, held_at_end, held_past}
use Rattle.statement_paths.proofs.PlainLaws.{after_the_first}
use Rattle.statement_paths.specs.VariableSets.{stable}
use Rattle.mode_state.specs.Sets.{is_stable, locks_of}
use Rattle.statement_paths.specs.Paths.{Step, passed, yes, no, head}
use Rattle.entail_losses.specs.Forgotten.{untouched_along}
use Rattle.entail_losses.specs.LeftOut.{all_under, own_touched, search_along, stored_by, touched, touched_in, untouched_by, without_all}

-- Sets ---------------------------------------------------------------------------------------------------------

pub gone : (marks : List Bool) (z : ℕ) → has (set marks z false) z ≡ false
gone marks z = elim (cases_lt z (length marks)) [
  | inl inside ↦ get_or-set_same marks z false false inside
  | inr past ↦ get_or_past (set marks z false) z false (omega (arith, length-set marks z false, past))
]

-- what is in a set without a number was in it, and is another
pub another : (marks : List Bool) (z x : ℕ) → has (set marks z false) x ≡ true → (has marks x ≡ true) × ((z == x) ≡ false)
another marks z x h = elim (cases_eq x z) [
  | inl e ↦ absurd (true≢false (sym h ∙ ap (has (set marks z false)) e ∙ gone marks z))
  | inr ne ↦ (sym (get_or-set_other marks z x false false ne) ∙ h, ne_eqb z x (λ e. ne (sym e)))
]

-- a set without the numbers of two lists
pub without_both : (xs ys : List ℕ) (marks : List Bool) → without_all marks (xs ++ ys) ≡ without_all (without_all marks xs) ys
without_both [] ys marks = refl
without_both (x ∷ xs) ys marks = without_both xs ys (set marks x false)

-- what is left without all, where numbers are taken out one list after the other
pub without_in_turn : (old mid new : List Bool) (all xs ys : List ℕ) → all ≡ xs ++ ys → mid ≡ without_all old xs → new ≡ without_all mid ys → new ≡ without_all old all
without_in_turn old mid new all xs ys parts first second =
    second ∙ ap (λ m. without_all m ys) first ∙ sym (without_both xs ys old) ∙ ap (without_all old) (sym parts)

-- and where some of the rest are
pub without_more : (start now next : List Bool) (all xs ys zs : List ℕ) → without_all now zs ≡ without_all start all → zs ≡ xs ++ ys → next ≡ without_all now xs
    → without_all next ys ≡ without_all start all
without_more start now next all xs ys zs so_far cut out =
    ap (λ m. without_all m ys) out ∙ sym (without_both xs ys now) ∙ ap (without_all now) (sym cut) ∙ so_far

none_of : (xs : List ℕ) (marks : List Bool) (x : ℕ) → has (without_all marks xs) x ≡ true → (has marks x ≡ true) × (has_number xs x ≡ false)
none_of [] marks x h = (h, refl)
none_of (z ∷ zs) marks x h =
    let rest = none_of zs (set marks z false) x h in
    let first = another marks z x rest.0 in
    (first.0, λ i. first.1 i || rest.1 i)

-- where a number is in none of two lists, it is in neither
neither_part : (xs ys : List ℕ) (x : ℕ) → has_number (xs ++ ys) x ≡ false → (has_number xs x ≡ false) × (has_number ys x ≡ false)
neither_part xs ys x h = parts_of (has_number xs x) (has_number ys x) (sym (has_number-append xs ys x) ∙ h)
  where
    parts_of : (b c : Bool) → (b || c) ≡ false → (b ≡ false) × (c ≡ false)
    parts_of true c k = absurd (true≢false k)
    parts_of false c k = (refl, k)

pub in_table : (n : ℕ) (f : ℕ → Bool) (x : ℕ) → has (table n f) x ≡ true → f x ≡ true
in_table n f x h = elim (cases_lt x n) [
  | inl inside ↦ sym (table_at n f x inside) ∙ h
  | inr past ↦ absurd (true≢false (sym h ∙ get_or_past (table n f) x false (omega (arith, table_length n f, past))))
]

-- Statements and steps that don't touch a variable ---------------------------------------------------------------

module _ (p : Plain) (t x : ℕ) where
  -- a lock that isn't over the variable changes nothing
  other_lock : (held : List Bool) (l : ℕ) (v : Bool) → under p l x ≡ false → is_stable p t (set held l v) x ≡ is_stable p t held x
  other_lock held l v none = λ i. assumes p t x || list_any (λ k. same k i) (locks_of p)
    where
      neither : (k : ℕ) → under p k x ≡ false → (has (set held l v) k && under p k x) ≡ (has held k && under p k x)
      neither k e =
          ap (λ b. has (set held l v) k && b) e ∙ and-false (has (set held l v) k)
          ∙ sym (ap (λ b. has held k && b) e ∙ and-false (has held k))

      same : (k : ℕ) → (has (set held l v) k && under p k x) ≡ (has held k && under p k x)
      same k = elim (cases_eq k l) [
        | inl e ↦ neither k (ap (λ m. under p m x) e ∙ none)
        | inr ne ↦ ap (λ b. b && under p k x) (get_or-set_other held l k v false ne)
      ]

  -- the locks that are held where one is taken, or given back, if there is one
  abbrev held_with : Option ℕ → (v : Bool) → (held : List Bool) → List Bool
  held_with None v held = held
  held_with (Some l) v held = set held l v

  same_with : (o : Option ℕ) (v : Bool) (held : List Bool) → has_number (all_under p o) x ≡ false → is_stable p t (held_with o v held) x ≡ is_stable p t held x
  same_with None v held none = refl
  same_with (Some l) v held none = other_lock held l v (sym (has_number-append (lock_at p l).nowrite (lock_at p l).hide x) ∙ none)

  -- Where stores count, or don't.
  module _ (stores : Bool) where
    -- behind what a statement with these parts takes and gives back, where they don't touch the variable
    own : (ps : Parts) (held : List Bool) → has_number (own_touched p stores ps) x ≡ false
        → is_stable p t (held_with ps.returned false (held_with ps.taken true held)) x ≡ is_stable p t held x
    own ps held none =
        let locks = neither_part (stored_by stores ps.store) (all_under p ps.taken ++ all_under p ps.returned) x none in
        let both = neither_part (all_under p ps.taken) (all_under p ps.returned) x locks.1 in
        same_with ps.returned false (held_with ps.taken true held) both.1 ∙ same_with ps.taken true held both.0

    mutual
      -- where a statement doesn't touch the variable, it is stable behind just where it was stable in front
      past : (s : Stm) (held : List Bool) → has_number (touched p stores s) x ≡ false → is_stable p t (held_past s held) x ≡ is_stable p t held x
      past (branch e a b join) held none = past_block a held (neither_part (touched_in p stores a) (touched_in p stores b) x none).0
      past (loop e inv b) held none = refl
      past s held none = own (parts s) held none

      past_block : (b : Block) (held : List Bool) → has_number (touched_in p stores b) x ≡ false → is_stable p t (held_at_end b held) x ≡ is_stable p t held x
      past_block done held none = refl
      past_block (more at s proofs rest) held none =
          let both = neither_part (touched p stores s) (touched_in p stores rest) x none in
          ap (λ after. is_stable p t after x) (after_the_first s at (plain_block rest) held) ∙ past_block rest (held_past s held) both.1 ∙ past s held both.0

    -- Where the variable is left in a set, it was in it, and it is stable behind just where it was stable in front.
    abbrev Leaves : (held after : List Bool) → (marks left : List Bool) → Type 0
    Leaves held after marks left = has left x ≡ true → (has marks x ≡ true) × (is_stable p t after x ≡ is_stable p t held x)

    pub past_step : (s : Step) (held marks : List Bool) → Leaves held (held_after s held) marks (untouched_by p stores s marks)
    past_step (passed at s) held marks = λ h. let out = none_of (touched p stores s) marks x h in (out.0, past s held out.1)
    past_step (yes at e) held marks = λ h. (h, refl)
    past_step (no at e) held marks = λ h. (h, refl)
    past_step (head at inv) held marks = λ h. (h, refl)

-- Several steps ------------------------------------------------------------------------------------------------

-- what steps leave of the variables that are stable behind them is stable in front
pub stable_along : (p : Plain) (t : ℕ) (stores : Bool) (ss : List Step) (held : List Bool) (x : ℕ)
    → has (untouched_along p stores (stable p t (held_along ss held)) ss) x ≡ true → is_stable p t held x ≡ true
stable_along p t stores [] held x h = in_table (length p.vars) (is_stable p t held) x h
stable_along p t stores (s ∷ ss) held x h =
    let one = past_step p t x stores s held (untouched_along p stores (stable p t (held_along ss (held_after s held))) ss) h in
    sym one.1 ∙ stable_along p t stores ss (held_after s held) x one.0

module _ (p : Plain) (t : ℕ) (hypotheses : List Term) where
  -- the variables that steps keep of those that are stable behind them
  abbrev pub kept_of : (held : List Bool) → List Step → (back : List Step) → List Bool
  kept_of held steps back = (search_along p hypotheses (stable p t (held_along steps held)) back).kept

  pub stable_in_front : (ss : List Step) (held : List Bool) (x : ℕ) → has (kept_of held ss ss) x ≡ true → is_stable p t held x ≡ true
  stable_in_front [] held x h = in_table (length p.vars) (is_stable p t held) x h
  stable_in_front (s ∷ ss) held x h =
      let one = past_step p t x true s held (kept_of (held_after s held) ss ss) h in
      sym one.1 ∙ stable_in_front ss (held_after s held) x one.0

  -- what is kept with one step more is kept
  pub kept_before : (s : Step) (ss : List Step) (held : List Bool) (x : ℕ) → has (kept_of held (s ∷ ss) (s ∷ ss)) x ≡ true → has (kept_of (held_after s held) ss ss) x ≡ true
  kept_before s ss held x h = (past_step p t x true s held (kept_of (held_after s held) ss ss) h).0
