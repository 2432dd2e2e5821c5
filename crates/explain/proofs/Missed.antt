-- A place that no run of a thread comes to: where blocks that are cut off are passed over, no statement stands there.
use Rattle.std.proofs.Common.{◌≡◌, ◌≢◌, ℕ, ◌<◌, ◌≤◌, ◌==◌, List, [], ◌∷◌, length, get_or, set, length-set, get_or-set_same, get_or-set_other, Bool, true, false, if◌then◌else◌, Option, Some, None, refl, sym, ap, subst, ◌∙◌, arith, ◌⊎◌, inl, inr}
use Rattle.std.proofs.Math.Decide.{ℕ_discrete}
use Rattle.std.proofs.lemmas.Bool.{and_parts, eqb-true, cases_lt}
use Rattle.std.proofs.lemmas.List.{get_or_past}
use Rattle.cov_expr.specs.Term.{Term, value, is_set}
use Rattle.cov_expr.specs.Trees.{is_closed}
use Rattle.cov_expr.proofs.Values.{value-closed}
use Rattle.cov_ast.specs.Plain.{Cmd, branch, loop, Cmds, none, next, ◌then_all◌}
use Rattle.flow_model.specs.Source.{Item, run, put, test, emit, Holders, Outputs, Local, Run, items_then, after_cmd, turn, items_of, first_place, step, run_from}
use Rattle.explain.specs.NeverReached.{is_closed_true, is_endless}
use Rattle.statement_parts.specs.PlainParts.{either, Inside, made, made_inside, nothing, turns}
use Rattle.explain.specs.Unused.{is_closed_false}

-- Guards -------------------------------------------------------------------------------------------------------

-- a guard that is set in some memory isn't 0 in every one
not_always_false : (e : Term) (m : List ℕ) → is_set (value e m) ≡ true → is_closed_false e ≡ false
not_always_false e m h = by (is_closed_false e) refl
  where
    by : (b : Bool) → is_closed_false e ≡ b → is_closed_false e ≡ false
    by false k = k
    by true k =
        let parts = and_parts (is_closed e) (value e [] == 0) k in
        let zero_there : value e m ≡ 0 = value-closed e m [] parts.0 ∙ eqb-true (value e []) 0 parts.1 in
        let never : false ≡ true = sym (ap is_set zero_there) ∙ h in
        cc

-- a guard that isn't set in some memory is 0 in some
not_always_true : (e : Term) (m : List ℕ) → is_set (value e m) ≡ false → is_closed_true e ≡ false
not_always_true e m h = by (is_closed_true e) refl
  where
    by : (b : Bool) → is_closed_true e ≡ b → is_closed_true e ≡ false
    by false k = k
    by true k =
        let parts = and_parts (is_closed e) (is_set (value e [])) k in
        let never : false ≡ true = sym h ∙ ap is_set (value-closed e m [] parts.0) ∙ parts.1 in
        cc

-- Blocks that are cut off --------------------------------------------------------------------------------------

-- nothing is asked of what is cut off
abbrev pub Unless : Bool → Type 0 → Type 0
Unless true A = Unit {0}
Unless false A = A

pub unless : {A : Type 0} (u : Bool) → A → Unless u A
unless true h = tt
unless false h = h

-- whether the end of a block is cut off
abbrev pub ends_cut : (u : Bool) → Cmds → Bool
ends_cut u none = u
ends_cut u (next at c rest) = if u then true else ends_cut (is_endless c) rest

module _ (x : ℕ) where
  -- of the blocks inside a statement, by what is asked of each where it is cut off, or isn't
  abbrev MissesInside : Inside ((is_cut_off : Bool) → Type 0) → Type 0
  MissesInside nothing = Unit {0}
  MissesInside (turns e b) = b (is_closed_false e)
  MissesInside (either e a b) = a (is_closed_false e) × b (is_closed_true e)

  abbrev MissesNone : (u : Bool) → Type 0
  MissesNone u = Unit {0}

  abbrev MissesFirst : (at : ℕ) → Cmd → Inside (Bool → Type 0) → (rest : Bool → Type 0) → (u : Bool) → Type 0
  MissesFirst at c inside rest u = Unless u ((x ≢ at) × (MissesInside inside × rest (is_endless c)))

  abbrev pub Misses : Cmd → Type 0
  Misses c = MissesInside (made_inside MissesNone MissesFirst c)

  -- no statement of a block, which is cut off or isn't, stands at the place
  abbrev pub MissesAll : (u : Bool) → Cmds → Type 0
  MissesAll u b = made MissesNone MissesFirst b u

  -- the same of what remains of a thread: an item in front of others
  abbrev pub ItemAhead : Item → (behind : Bool → Type 0) → Type 0
  ItemAhead (run at c) behind = (x ≢ at) × (Misses c × behind (is_endless c))
  ItemAhead (put at y word) behind = (x ≢ at) × behind false
  ItemAhead (test at word yes_block no_block) behind =
      (x ≢ at) × (MissesAll false (if is_set word then yes_block else no_block) × behind (ends_cut false (if is_set word then yes_block else no_block)))
  ItemAhead (emit at word) behind = (x ≢ at) × behind false

  abbrev pub ItemsMissed : (u : Bool) → List Item → Type 0
  ItemsMissed u [] = Unit {0}
  ItemsMissed u (i ∷ rest) = Unless u (ItemAhead i (λ v. ItemsMissed v rest))

  abbrev ItemMissed : Item → List Item → Type 0
  ItemMissed i rest = ItemAhead i (λ v. ItemsMissed v rest)

  pub all_cut : (b : Cmds) → MissesAll true b
  all_cut none = tt
  all_cut (next at c rest) = tt

  items_cut : (is : List Item) → ItemsMissed true is
  items_cut [] = tt
  items_cut (i ∷ rest) = tt

  -- what is missed where nothing is cut off is missed in any case
  less_all : (u : Bool) (b : Cmds) → MissesAll false b → MissesAll u b
  less_all true b h = all_cut b
  less_all false b h = h

  less_items : (u : Bool) (is : List Item) → ItemsMissed false is → ItemsMissed u is
  less_items true is h = items_cut is
  less_items false is h = h

  -- a block in front of items
  then_items : (u : Bool) (b : Cmds) (rest : List Item) → MissesAll u b → ItemsMissed (ends_cut u b) rest → ItemsMissed u (items_then b rest)
  then_items u none rest h k = k
  then_items true (next at c b) rest h k = tt
  then_items false (next at c b) rest h k = (h.0, (h.1.0, then_items (is_endless c) b rest h.1.1 k))

  -- a block in front of another
  then_block : (u : Bool) (a b : Cmds) → MissesAll u a → MissesAll (ends_cut u a) b → MissesAll u (◌then_all◌ a b)
  then_block u none b h k = k
  then_block true (next at c a) b h k = tt
  then_block false (next at c a) b h k = (h.0, (h.1.0, then_block (is_endless c) a b h.1.1 k))

  ends_true : (b : Cmds) → ends_cut true b ≡ true
  ends_true none = refl
  ends_true (next at c rest) = refl

  ends_both : (u : Bool) (a b : Cmds) → ends_cut u (◌then_all◌ a b) ≡ ends_cut (ends_cut u a) b
  ends_both u none b = refl
  ends_both true (next at c a) b = sym (ends_true b)
  ends_both false (next at c a) b = ends_both (is_endless c) a b

  -- Steps ------------------------------------------------------------------------------------------------------

  -- one turn of a loop, and the loop again
  again : (at : ℕ) (e : Term) (b : Cmds) (rest : List Item) → x ≢ at → MissesAll false b → ItemsMissed (is_closed_true e) rest
      → MissesAll false (◌then_all◌ b (next at (loop e b) none)) × ItemsMissed (ends_cut false (◌then_all◌ b (next at (loop e b) none))) rest
  again at e b rest d h k = (
    then_block false b (next at (loop e b) none) h (less_all (ends_cut false b) (next at (loop e b) none) (d, (less_all (is_closed_false e) b h, tt))),
    subst (λ u. ItemsMissed u rest) (sym (ends_both false b (next at (loop e b) none))) (behind (ends_cut false b)),
  )
    where
      behind : (u : Bool) → ItemsMissed (ends_cut u (next at (loop e b) none)) rest
      behind true = items_cut rest
      behind false = k

  branch_test : (w : ℕ) (m : List ℕ) (e : Term) (a b : Cmds) (rest : List Item) → w ≡ value e m
      → MissesAll (is_closed_false e) a → MissesAll (is_closed_true e) b → ItemsMissed false rest → (s : Bool) → is_set w ≡ s
      → MissesAll false (if s then a else b) × ItemsMissed (ends_cut false (if s then a else b)) rest
  branch_test w m e a b rest is h k r true set_there =
      (subst (λ u. MissesAll u a) (not_always_false e m (sym (ap is_set is) ∙ set_there)) h, less_items (ends_cut false a) rest r)
  branch_test w m e a b rest is h k r false set_there =
      (subst (λ u. MissesAll u b) (not_always_true e m (sym (ap is_set is) ∙ set_there)) k, less_items (ends_cut false b) rest r)

  loop_test : (w : ℕ) (m : List ℕ) (at : ℕ) (e : Term) (b : Cmds) (rest : List Item) → w ≡ value e m → x ≢ at
      → MissesAll (is_closed_false e) b → ItemsMissed (is_closed_true e) rest → (s : Bool) → is_set w ≡ s
      → MissesAll false (if s then ◌then_all◌ b (next at (loop e b) none) else none)
      × ItemsMissed (ends_cut false (if s then ◌then_all◌ b (next at (loop e b) none) else none)) rest
  loop_test w m at e b rest is d h r true set_there =
      again at e b rest d (subst (λ u. MissesAll u b) (not_always_false e m (sym (ap is_set is) ∙ set_there)) h) r
  loop_test w m at e b rest is d h r false set_there = (tt, subst (λ u. ItemsMissed u rest) (not_always_true e m (sym (ap is_set is) ∙ set_there)) r)

  cmd_step : (t : ℕ) (m : List ℕ) (h : Holders) (o : Outputs) (at : ℕ) (c : Cmd) (rest : List Item) → ItemMissed (run at c) rest
      → ItemsMissed false (after_cmd t m h o at c rest).items
  cmd_step t m h o at (branch e a b) rest k = (k.0, branch_test (value e m) m e a b rest refl k.1.0.0 k.1.0.1 k.1.1 (is_set (value e m)) refl)
  cmd_step t m h o at (loop e b) rest k = (k.0, loop_test (value e m) m at e b rest refl k.0 k.1.0 k.1.1 (is_set (value e m)) refl)
  -- of others the rest is left, behind a store or an output that is pending, or the statement again, in front of which the thread stays
  cmd_step t m h o at _ rest k = first_of (assumption, grind arith)

  turn_misses : (t : ℕ) (m : List ℕ) (h : Holders) (o : Outputs) (is : List Item) → ItemsMissed false is → ItemsMissed false (turn t m h o is).items
  turn_misses t m h o [] k = tt
  turn_misses t m h o (run at c ∷ rest) k = cmd_step t m h o at c rest k
  turn_misses t m h o (put at y word ∷ rest) k = k.1
  turn_misses t m h o (test at word a b ∷ rest) k = then_items false (if is_set word then a else b) rest k.1.0 k.1.1
  turn_misses t m h o (emit at word ∷ rest) k = k.1

  -- Runs -------------------------------------------------------------------------------------------------------

  step_misses : (t : ℕ) (s : Run) (u : ℕ) → ItemsMissed false (items_of s t) → ItemsMissed false (items_of (step s u) t)
  step_misses t s u k = at_thread (ℕ_discrete t u)
    where
      turned : ℕ → Local
      turned v = turn v s.memory s.holders s.outputs (items_of s v)

      own_turn : ItemsMissed false (turned t).items
      own_turn = turn_misses t s.memory s.holders s.outputs (items_of s t) k

      own : (t < length s.items) ⊎ (length s.items ≤ t) → ItemsMissed false (get_or (set s.items t (turned t).items) t [])
      own (inl inside) = subst (ItemsMissed false) (sym (get_or-set_same s.items t (turned t).items [] inside)) own_turn
      own (inr past) =
          let long = length-set s.items t (turned t).items in
          subst (ItemsMissed false) (sym (get_or_past (set s.items t (turned t).items) t [] (omega (arith, long, past)))) tt

      at_thread : Dec (t ≡ u) → ItemsMissed false (items_of (step s u) t)
      at_thread (yes e) = subst (λ v. ItemsMissed false (get_or (set s.items v (turned v).items) t [])) e (own (cases_lt t (length s.items)))
      at_thread (no d) = subst (ItemsMissed false) (sym (get_or-set_other s.items u t (turned u).items [] d)) k

  run_misses : (t : ℕ) (schedule : List ℕ) (s : Run) → ItemsMissed false (items_of s t) → ItemsMissed false (items_of (run_from s schedule) t)
  run_misses t [] s k = k
  run_misses t (u ∷ us) s k = run_misses t us (step s u) (step_misses t s u k)

  first_misses : (is : List Item) → ItemsMissed false is → first_place is ≢ Some x
  first_misses [] k = λ e. let never : ◌≡◌ {A = Option ℕ} None (Some x) = e in cc
  first_misses (run at c ∷ rest) k = λ e. k.0 (let same : Some at ≡ Some x = e in cc)
  first_misses (put at y word ∷ rest) k = λ e. k.0 (let same : Some at ≡ Some x = e in cc)
  first_misses (test at word a b ∷ rest) k = λ e. k.0 (let same : Some at ≡ Some x = e in cc)
  first_misses (emit at word ∷ rest) k = λ e. k.0 (let same : Some at ≡ Some x = e in cc)

  pub thread_misses : (body : Cmds) (s : Run) (t : ℕ) (schedule : List ℕ) → MissesAll false body → items_of s t ≡ items_then body []
      → first_place (items_of (run_from s schedule) t) ≢ Some x
  thread_misses body s t schedule h is =
      first_misses (items_of (run_from s schedule) t) (run_misses t schedule s (subst (ItemsMissed false) (sym is) (then_items false body [] h tt)))
