-- The type of a variable is set by the step that its origin names, and changed by the one that its last change does.
use Rattle.std.proofs.Common.{◌≡◌, ◌≤◌, ◌<◌, ℕ, zero, suc, ◌+◌, ◌==◌, List, [], ◌∷◌, ◌++◌, Bool, true, false, Option, Some, None, is_some, refl, sym, ◌∙◌, ap, subst, arith, append_assoc, length, get_or, if◌then◌else◌, option_map, unwrap_or, ◌⊎◌, inl, inr}
use Rattle.std.specs.Prelude.{◌||◌, ◌&&◌, not, option_and_then, set}
use Rattle.std.specs.Option.{option_or}
use Rattle.std.proofs.lemmas.Bool.{cases_Bool, cases_lt}
use Rattle.std.proofs.lemmas.List.{append-nil, get_or_past, length-append}
use Rattle.std.proofs.lemmas.List.Elements.{All-nil, All-push}
use Rattle.std.proofs.lemmas.List.FromFn.{get_or-map-range_with_len, length-map-range_with_len}
use Rattle.std.proofs.Math.ListN.{get_or-map}
use Rattle.cov_expr.proofs.Trees.{same_is, same_refl}
use Rattle.cov_expr.specs.Term.{Term}
use Rattle.cov_expr.specs.Trees.{mentions}
use Rattle.cov_ast.proofs.TableLaws.{table_at, table_length}
use Rattle.cov_ast.specs.Declarations.{class_of, is_control, lists, no_lock, under}
use Rattle.cov_ast.specs.Plain.{Plain}
use Rattle.cov_ast.specs.Syntax.{State, assign, lock, branch, loop, note}
use Rattle.cov_ast.specs.Tables.{has}
use Rattle.point_law.specs.Point.{controls_of}
use Rattle.statement_parts.specs.Parts.{parts}
use Rattle.statement_paths.specs.Paths.{Step, passed, yes, no, head, place_of}
use Rattle.typing_law.specs.Blocks.{after_block, value_type}
use Rattle.typing_points.proofs.OfTheRules.{Is, step_is, then_is}
use Rattle.typing_points.proofs.PointLaws.{appended}
use Rattle.typing_points.specs.Points as points
use Rattle.typing_points.specs.Points.{point_after_steps}
use Rattle.typing_points.specs.PointsBehind.{behind_step}
use Rattle.point_law.specs.After.{start, start_type, with_guard, updated, updated_from, retyped, listed_or, locked_type, assigned_type, forgotten_type, kept_type, unlocked_type}
use Rattle.point_law.specs.Point.{Point, default_type, given_type, is_over_stable, is_tracked}
use Rattle.point_law.specs.Terms.{listed}
use Rattle.entail_origins.specs.TypeChanges.{change_after_step, change_after_steps, change_at, changed_by, changed_where, is_same_type, seen, type_there, unless_set, where_other, with_change}
use Rattle.entail_origins.specs.TypeOrigins.{is_listed, locks_over, origin_after_step, origin_after_steps, set_by, set_by_assignment, set_by_state, set_by_types, where_true, with_source}
use Rattle.entail_origins.specs.TypesFromOrigins.{Changed, IsFrom, IsTold, TellsOfType, type_by_source, type_by_source_in, type_after_steps}
use Rattle.entail_origins.specs.declared.type_origin.By.{By}
use Rattle.entail_origins.specs.declared.type_origin.By.TheVariants as by
use Rattle.entail_origins.specs.declared.type_origin.Later.{Later}
use Rattle.entail_origins.specs.declared.type_origin.TypeChange.{TypeChange}
use Rattle.entail_origins.specs.declared.type_origin.TypeChange.TheVariants as change
use Rattle.entail_origins.specs.declared.type_origin.TypeOrigin.{TypeOrigin}
use Rattle.entail_origins.specs.declared.type_origin.TypeSource.{TypeSource}
use Rattle.entail_origins.specs.declared.type_origin.TypeSource.TheVariants as source

-- Conditions ---------------------------------------------------------------------------------------------------

-- where nothing comes of a condition it fails
fails : {A : Type 0} (b : Bool) (x : A) → where_true b x ≡ None → b ≡ false
fails true x h = let c : ◌≡◌ {A = Option _} (Some x) None = h in cc
fails false x h = refl

-- where something comes of it, it holds
holds : {A : Type 0} (b : Bool) (x y : A) → where_true b x ≡ Some y → (b ≡ true) × (x ≡ y)
holds true x y h = (refl, ap (λ o. unwrap_or o x) h)
holds false x y h = let c : ◌≡◌ {A = Option _} None (Some y) = h in cc

no_type : {A : Type 0} → is_some {T = Term} None ≡ true → A
no_type h = let c : ◌≡◌ {A = Bool} false true = h in cc

-- Types by number of their variable ----------------------------------------------------------------------------

kept_from : (n : ℕ) (f : ℕ → Option Term → Option Term) (qs : List (Option Term)) (k j : ℕ) → j ≡ n + k → ((q : Option Term) → f j q ≡ q)
    → get_or (updated_from n f qs) k None ≡ get_or qs k None
kept_from n f [] k j e h = refl
kept_from n f (q ∷ qs) zero j e h = let same : n ≡ j = omega arith in ap (λ i. f i q) same ∙ h q
kept_from n f (q ∷ qs) (suc k) j e h = kept_from (suc n) f qs k j (omega arith) h

-- a change that does nothing to a variable leaves its type
kept : (f : ℕ → Option Term → Option Term) (qs : List (Option Term)) (z : ℕ) → ((q : Option Term) → f z q ≡ q) → get_or (updated f qs) z None ≡ get_or qs z None
kept f qs z h = kept_from 0 f qs z z (omega arith) h

mapped : (f : Term → Term) (q : Option Term) → ((g : Term) → f g ≡ g) → option_map f q ≡ q
mapped f None h = refl
mapped f (Some g) h = ap Some (h g)

kept_retyped : (f : ℕ → Term → Term) (qs : List (Option Term)) (z : ℕ) → ((g : Term) → f z g ≡ g) → get_or (retyped f qs) z None ≡ get_or qs z None
kept_retyped f qs z h = kept (λ x q. option_map (f x) q) qs z (λ q. mapped (f z) q h)

updated_from_where : (n : ℕ) (f : ℕ → Option Term → Option Term) (qs : List (Option Term)) (k j : ℕ) → j ≡ n + k
    → is_some (get_or (updated_from n f qs) k None) ≡ true → get_or (updated_from n f qs) k None ≡ f j (get_or qs k None)
updated_from_where n f [] k j e h = no_type h
updated_from_where n f (q ∷ qs) zero j e h = let same : n ≡ j = omega arith in ap (λ i. f i q) same
updated_from_where n f (q ∷ qs) (suc k) j e h = updated_from_where (suc n) f qs k j (omega arith) h

-- where there is a type behind a change, the change gives it
updated_where : (f : ℕ → Option Term → Option Term) (qs : List (Option Term)) (z : ℕ)
    → is_some (get_or (updated f qs) z None) ≡ true → get_or (updated f qs) z None ≡ f z (get_or qs z None)
updated_where f qs z h = updated_from_where 0 f qs z z (omega arith) h

mapped_to : (f : Term → Term) (q : Option Term) (r : Term) → ((g : Term) → f g ≡ r) → is_some (option_map f q) ≡ true → option_map f q ≡ Some r
mapped_to f None r h k = no_type k
mapped_to f (Some g) r h k = ap Some (h g)

retyped_to : (f : ℕ → Term → Term) (qs : List (Option Term)) (z : ℕ) (r : Term) → ((g : Term) → f z g ≡ r)
    → is_some (get_or (retyped f qs) z None) ≡ true → get_or (retyped f qs) z None ≡ Some r
retyped_to f qs z r h some =
    let same = updated_where (λ x q. option_map (f x) q) qs z some in
    same ∙ mapped_to (f z) (get_or qs z None) r h (sym (ap is_some same) ∙ some)

-- what isn't listed has no type there
not_listed : (types : List (ℕ × Term)) (z : ℕ) → is_listed types z ≡ false → listed types z ≡ None
not_listed [] z h = refl
not_listed (r ∷ rs) z h = by_case (λ k. not_listed rs z k) (r.0 == z) h
  where
    by_case : (is_listed rs z ≡ false → listed rs z ≡ None) → (b : Bool) → (b || is_listed rs z) ≡ false → option_or (listed rs z) (if b then Some r.1 else None) ≡ None
    by_case rest true k = let c : ◌≡◌ {A = Bool} true false = k in cc
    by_case rest false k = ap (λ o. option_or o None) (rest k)

kept_listed : (types : List (ℕ × Term)) (z : ℕ) (g : Term) → is_listed types z ≡ false → listed_or types z g ≡ g
kept_listed types z g h = ap (λ o. unwrap_or o g) (not_listed types z h)

-- what is listed has one
abbrev IsThere : Option Term → Type 0
IsThere o = (r : Term) × (o ≡ Some r)

is_there : (types : List (ℕ × Term)) (z : ℕ) → is_listed types z ≡ true → IsThere (listed types z)
is_there [] z h = let c : ◌≡◌ {A = Bool} false true = h in cc
is_there (r ∷ rs) z h = by_case (λ k. is_there rs z k) (r.0 == z) h
  where
    first : (o : Option Term) → IsThere (option_or o (Some r.1))
    first None = (r.1, refl)
    first (Some q) = (q, refl)

    by_case : (is_listed rs z ≡ true → IsThere (listed rs z)) → (b : Bool) → (b || is_listed rs z) ≡ true
        → IsThere (option_or (listed rs z) (if b then Some r.1 else None))
    by_case rest true k = first (listed rs z)
    by_case rest false k = let found = rest k in (found.0, ap (λ o. option_or o None) found.1)

retyped_listed : (f : ℕ → Term → Term) (types : List (ℕ × Term)) (other : Term → Term) (qs : List (Option Term)) (z : ℕ) → is_listed types z ≡ true
    → ((g : Term) → f z g ≡ listed_or types z (other g)) → is_some (get_or (retyped f qs) z None) ≡ true → get_or (retyped f qs) z None ≡ listed types z
retyped_listed f types other qs z there h some =
    let found = is_there types z there in
    retyped_to f qs z found.0 (λ g. h g ∙ ap (λ o. unwrap_or o (other g)) found.1) some ∙ sym found.1

-- Types at two points ------------------------------------------------------------------------------------------

same_type_is : (q r : Option Term) → is_same_type q r ≡ true → r ≡ q
same_type_is None None h = refl
same_type_is None (Some r) h = let c : ◌≡◌ {A = Bool} false true = h in cc
same_type_is (Some q) None h = let c : ◌≡◌ {A = Bool} false true = h in cc
same_type_is (Some q) (Some r) h = ap Some (sym (same_is q r h))

same_type_refl : (q : Option Term) → is_same_type q q ≡ true
same_type_refl None = refl
same_type_refl (Some q) = same_refl q

-- where no change is seen the types are one
not_other : (q r : Option Term) → where_other q r ≡ None → r ≡ q
not_other q r h = each (is_same_type q r) refl h
  where
    each : (b : Bool) → is_same_type q r ≡ b → (if b then None else Some true) ≡ None → r ≡ q
    each true e k = same_type_is q r e
    each false e k = let c : ◌≡◌ {A = Option Bool} (Some true) None = k in cc

-- and where one is they aren't
is_other : (q r : Option Term) → where_other q r ≡ Some true → ¬ (r ≡ q)
is_other q r h e =
    let none : where_other q r ≡ None = ap (λ s. where_other q s) e ∙ ap (λ b. if b then None else Some true) (same_type_refl q) in
    let c : ◌≡◌ {A = Option Bool} None (Some true) = sym none ∙ h in cc

not_changed : (z : ℕ) (a b : Option Point) (front behind : Point) → Is front a → Is behind b → seen (type_there z a) (type_there z b) ≡ None
    → given_type behind z ≡ given_type front z
not_changed z None b front behind h k none = let c : ◌≡◌ {A = Option Bool} (Some false) None = none in cc
not_changed z (Some x) None front behind h k none = let c : ◌≡◌ {A = Option Bool} (Some false) None = none in cc
not_changed z (Some x) (Some y) front behind h k none =
    ap (λ c. given_type c z) (sym k) ∙ not_other (given_type x z) (given_type y z) none ∙ ap (λ c. given_type c z) h

is_changed : (z : ℕ) (a b : Option Point) (front behind : Point) → Is front a → Is behind b → seen (type_there z a) (type_there z b) ≡ Some true
    → ¬ (given_type behind z ≡ given_type front z)
is_changed z None b front behind h k some e = let c : ◌≡◌ {A = Option Bool} (Some false) (Some true) = some in cc
is_changed z (Some x) None front behind h k some e = let c : ◌≡◌ {A = Option Bool} (Some false) (Some true) = some in cc
is_changed z (Some x) (Some y) front behind h k some e =
    is_other (given_type x z) (given_type y z) some (ap (λ c. given_type c z) k ∙ e ∙ ap (λ c. given_type c z) (sym h))

-- a type that is forgotten under a condition, and is another then
forgot : (b : Bool) (g d : Term) (front behind : Option Term) → front ≡ Some g → behind ≡ Some (if b then d else g) → ¬ (behind ≡ front) → behind ≡ Some d
forgot true g d front behind was is other = is
forgot false g d front behind was is other = absurd (other (is ∙ sym was))

-- the same of one that is kept under a condition
not_kept : (b : Bool) (g d : Term) (front behind : Option Term) → front ≡ Some g → behind ≡ Some (if b then g else d) → ¬ (behind ≡ front) → behind ≡ Some d
not_kept true g d front behind was is other = absurd (other (is ∙ sym was))
not_kept false g d front behind was is other = is

module _ (p : Plain) (t z : ℕ) (declared : (x : ℕ) → length p.vars ≤ x → is_control p x ≡ false) (no_control : is_control p z ≡ false) where
  abbrev cs : List Bool
  cs = controls_of p

  abbrev ls : List Bool
  ls = locks_over p z

  is_under : (l : ℕ) → has ls l ≡ under p l z
  is_under l = get_or-map (λ k. lists k z) p.locks l no_lock

  -- what isn't in the set of the controls is none
  is_none : (x : ℕ) → has cs x ≡ false → is_control p x ≡ false
  is_none x h = by_case (cases_lt x (length p.vars))
    where
      by_case : (x < length p.vars) ⊎ (length p.vars ≤ x) → is_control p x ≡ false
      by_case (inl inside) = sym (table_at (length p.vars) (is_control p) x inside) ∙ h
      by_case (inr past) = declared x past

  is_one : (x : ℕ) → has cs x ≡ true → is_control p x ≡ true
  is_one x h = by_case (cases_lt x (length p.vars))
    where
      by_case : (x < length p.vars) ⊎ (length p.vars ≤ x) → is_control p x ≡ true
      by_case (inl inside) = sym (table_at (length p.vars) (is_control p) x inside) ∙ h
      by_case (inr past) =
          let none : has cs x ≡ false = get_or_past cs x false (omega (arith, table_length (length p.vars) (is_control p), past)) in
          let c : ◌≡◌ {A = Bool} false true = sym none ∙ h in cc

  -- One step ---------------------------------------------------------------------------------------------------

  assigned : (held : List Bool) (x : ℕ) (q : Term) (retypes : List (ℕ × Term)) (g : Term) → is_control p x ≡ false → (x == z) ≡ false
      → assigned_type p t held x q retypes z g ≡ g
  assigned held x q retypes g plain other =
      ap (λ b. if b then listed_or retypes z (forgotten_type p t held x z g) else (if x == z then q else g)) plain ∙ ap (λ b. if b then q else g) other

  other_assigned : (x : ℕ) (retypes : List (ℕ × Term)) → has cs x ≡ false → set_by_assignment cs z x retypes ≡ None → (x == z) ≡ false
  other_assigned x retypes plain h =
      fails (x == z) source.Stored (sym (ap (λ b. if b then set_by_types z by.Retype retypes else where_true (x == z) source.Stored) plain) ∙ h)

  -- the locks that are held behind where one is given back, if one is, and the types there
  abbrev held_behind : (returned : Option ℕ) → Point → List Bool
  held_behind None a = a.held
  held_behind (Some l) a = set a.held l false

  abbrev types_behind : (returned : Option ℕ) → Point → List (Option Term)
  types_behind None a = a.types
  types_behind (Some l) a = updated (unlocked_type p t (held_behind (Some l) a)) a.types

  unreturned : (returned : Option ℕ) (a : Point) → changed_where cs None returned ≡ None → get_or (types_behind returned a) z None ≡ get_or a.types z None
  unreturned None a k = refl
  unreturned (Some l) a k = let c : ◌≡◌ {A = Option TypeChange} (Some (change.Returned l)) None = k in cc

  -- what neither sets a type nor may forget it leaves it
  unset : (s : Step) (a : Point) → set_by cs ls z s ≡ None → changed_by cs s ≡ None → given_type (points.after_step p t s a) z ≡ given_type a z
  unset (passed at (assign x e q retypes)) a h k =
      let plain : has cs x ≡ false = fails (has cs x) (change.ControlStored x) k in
      kept_retyped (assigned_type p t a.held x (value_type p t a q e) retypes) a.types z
      (λ g. assigned a.held x (value_type p t a q e) retypes g (is_none x plain) (other_assigned x retypes plain h))
  unset (passed at (lock l)) a h k =
      kept (locked_type p l) a.types z
      (λ q. ap (λ b. if b && not (is_control p z) then Some (class_of p z) else q) (sym (is_under l) ∙ fails (has ls l) (source.Taken l) h))
  unset (passed at (branch e yes_block no_block join)) a h k = let c : ◌≡◌ {A = Option TypeSource} (Some (set_by_state z by.Join join)) None = h in cc
  unset (passed at (loop e inv b)) a h k = let c : ◌≡◌ {A = Option TypeSource} (Some (set_by_state z by.LoopState inv)) None = h in cc
  unset (passed at (note j)) a h k =
      kept_retyped (listed_or j.types) a.types z (λ g. kept_listed j.types z g (fails (is_listed j.types z) (source.Listed by.Noted) h))
  unset (passed at s) a h k = unreturned (parts s).returned a k
  unset (yes at e) a h k = refl
  unset (no at e) a h k = refl
  unset (head at inv) a h k = let c : ◌≡◌ {A = Option TypeSource} (Some (set_by_state z by.LoopState inv)) None = h in cc

  abbrev Gives : Step → Point → TypeSource → Type 0
  Gives s a source = given_type (points.after_step p t s a) z ≡ type_by_source_in p t z s a source

  by_state : (by : By) (j : State) (held : List Bool) (stored : Option Term) (qs : List (Option Term)) (b : Bool) → is_listed j.types z ≡ b
      → is_some (get_or (retyped (λ x q. listed_or j.types x (default_type p t held x)) qs) z None) ≡ true
      → get_or (retyped (λ x q. listed_or j.types x (default_type p t held x)) qs) z None
      ≡ type_by_source p t z stored j.types held (if b then source.Listed by else source.Unlisted by)
  by_state by j held stored qs true there some =
      retyped_listed (λ x q. listed_or j.types x (default_type p t held x)) j.types (λ g. default_type p t held z) qs z there (λ g. refl) some
  by_state by j held stored qs false other some =
      retyped_to (λ x q. listed_or j.types x (default_type p t held x)) qs z (default_type p t held z) (λ g. kept_listed j.types z (default_type p t held z) other) some

  by_assignment : (at x : ℕ) (e : Term) (q : Option Term) (retypes : List (ℕ × Term)) (a : Point) (k : TypeSource) → set_by_assignment cs z x retypes ≡ Some k
      → is_some (given_type (points.after_step p t (passed at (assign x e q retypes)) a) z) ≡ true → Gives (passed at (assign x e q retypes)) a k
  by_assignment at x e q retypes a k h some = by_case (cases_Bool (has cs x))
    where
      which : (b : Bool) → has cs x ≡ b → (if b then set_by_types z by.Retype retypes else where_true (x == z) source.Stored) ≡ Some k
      which b is = sym (ap (λ c. if c then set_by_types z by.Retype retypes else where_true (x == z) source.Stored) is) ∙ h

      at_control : (b : Bool) → is_control p x ≡ b → (g : Term)
          → assigned_type p t a.held x (value_type p t a q e) retypes z g
          ≡ (if b then listed_or retypes z (forgotten_type p t a.held x z g) else (if x == z then value_type p t a q e else g))
      at_control b is g = ap (λ c. if c then listed_or retypes z (forgotten_type p t a.held x z g) else (if x == z then value_type p t a q e else g)) is

      by_case : (has cs x ≡ true) ⊎ (has cs x ≡ false) → Gives (passed at (assign x e q retypes)) a k
      by_case (inl control) =
          let m = holds (is_listed retypes z) (source.Listed by.Retype) k (which true control) in
          subst (Gives (passed at (assign x e q retypes)) a) m.1
          (retyped_listed (assigned_type p t a.held x (value_type p t a q e) retypes) retypes (λ g. forgotten_type p t a.held x z g) a.types z m.0 (at_control true (is_one x control)) some)
      by_case (inr plain) =
          let m = holds (x == z) source.Stored k (which false plain) in
          subst (Gives (passed at (assign x e q retypes)) a) m.1
          (retyped_to (assigned_type p t a.held x (value_type p t a q e) retypes) a.types z (value_type p t a q e)
          (λ g. at_control false (is_none x plain) g ∙ ap (λ b. if b then value_type p t a q e else g) m.0) some)

  -- what sets a type gives it
  gives : (s : Step) (a : Point) (k : TypeSource) → set_by cs ls z s ≡ Some k → is_some (given_type (points.after_step p t s a) z) ≡ true → Gives s a k
  gives (passed at (assign x e q retypes)) a k h some = by_assignment at x e q retypes a k h some
  gives (passed at (lock l)) a k h some =
      let m = holds (has ls l) (source.Taken l) k h in
      subst (Gives (passed at (lock l)) a) m.1
      (updated_where (locked_type p l) a.types z some
      ∙ ap (λ b. if b && not (is_control p z) then Some (class_of p z) else get_or a.types z None) (sym (is_under l) ∙ m.0)
      ∙ ap (λ b. if true && not b then Some (class_of p z) else get_or a.types z None) no_control)
  gives (passed at (branch e yes_block no_block join)) a k h some =
      let end = after_block p t yes_block (with_guard p t a e) in
      subst (Gives (passed at (branch e yes_block no_block join)) a) (ap (λ o. unwrap_or o (set_by_state z by.Join join)) h)
      (by_state by.Join join end.held None end.types (is_listed join.types z) refl some)
  gives (passed at (loop e inv b)) a k h some =
      subst (Gives (passed at (loop e inv b)) a) (ap (λ o. unwrap_or o (set_by_state z by.LoopState inv)) h)
      (by_state by.LoopState inv a.held None a.types (is_listed inv.types z) refl some)
  gives (passed at (note j)) a k h some =
      let m = holds (is_listed j.types z) (source.Listed by.Noted) k h in
      subst (Gives (passed at (note j)) a) m.1 (retyped_listed (listed_or j.types) j.types (λ g. g) a.types z m.0 (λ g. refl) some)
  gives (head at inv) a k h some =
      subst (Gives (head at inv) a) (ap (λ o. unwrap_or o (set_by_state z by.LoopState inv)) h)
      (by_state by.LoopState inv a.held None a.types (is_listed inv.types z) refl some)
  gives _ a k h some = let c : ◌≡◌ {A = Option TypeSource} None (Some k) = h in cc

  -- What forgets a type -----------------------------------------------------------------------------------------

  abbrev Becomes : Step → Point → Type 0
  Becomes s a = given_type (points.after_step p t s a) z ≡ Some (default_type p t (points.after_step p t s a).held z)

  abbrev Differs : Step → Point → Type 0
  Differs s a = ¬ (given_type (points.after_step p t s a) z ≡ given_type a z)

  by_store : (at x : ℕ) (e : Term) (q : Option Term) (retypes : List (ℕ × Term)) (a : Point) → has cs x ≡ true
      → set_by_assignment cs z x retypes ≡ None → is_some (given_type (points.after_step p t (passed at (assign x e q retypes)) a) z) ≡ true
      → Differs (passed at (assign x e q retypes)) a → Becomes (passed at (assign x e q retypes)) a
  by_store at x e q retypes a control sets some other = by_front (get_or a.types z None) refl
    where
      others : is_listed retypes z ≡ false
      others =
          fails (is_listed retypes z) (source.Listed by.Retype)
          (sym (ap (λ b. if b then set_by_types z by.Retype retypes else where_true (x == z) source.Stored) control) ∙ sets)

      forgets : (g : Term) → assigned_type p t a.held x (value_type p t a q e) retypes z g ≡ forgotten_type p t a.held x z g
      forgets g =
          ap (λ b. if b then listed_or retypes z (forgotten_type p t a.held x z g) else (if x == z then value_type p t a q e else g)) (is_one x control)
          ∙ kept_listed retypes z (forgotten_type p t a.held x z g) others

      changed : get_or (retyped (assigned_type p t a.held x (value_type p t a q e) retypes) a.types) z None
          ≡ option_map (assigned_type p t a.held x (value_type p t a q e) retypes z) (get_or a.types z None)
      changed = updated_where (λ y r. option_map (assigned_type p t a.held x (value_type p t a q e) retypes y) r) a.types z some

      by_front : (o : Option Term) → get_or a.types z None ≡ o → Becomes (passed at (assign x e q retypes)) a
      by_front None was = no_type (sym (ap is_some (changed ∙ ap (λ o. option_map (assigned_type p t a.held x (value_type p t a q e) retypes z) o) was)) ∙ some)
      by_front (Some g) was =
          forgot (mentions g x) g (default_type p t a.held z) (get_or a.types z None)
          (get_or (retyped (assigned_type p t a.held x (value_type p t a q e) retypes) a.types) z None) was
          (changed ∙ ap (λ o. option_map (assigned_type p t a.held x (value_type p t a q e) retypes z) o) was ∙ ap Some (forgets g)) other

  by_return : (returned : Option ℕ) (a : Point) (y : TypeChange) → changed_where cs None returned ≡ Some y → is_some (get_or (types_behind returned a) z None) ≡ true
      → ¬ (get_or (types_behind returned a) z None ≡ get_or a.types z None)
      → get_or (types_behind returned a) z None ≡ Some (default_type p t (held_behind returned a) z)
  by_return None a y k some other = let c : ◌≡◌ {A = Option TypeChange} None (Some y) = k in cc
  by_return (Some l) a y k some other = by_tracked (is_tracked p t held z) (updated_where (unlocked_type p t held) a.types z some)
    where
      held : List Bool
      held = set a.held l false

      behind : Option Term
      behind = get_or (updated (unlocked_type p t held) a.types) z None

      by_front : (o : Option Term) → get_or a.types z None ≡ o → behind ≡ option_map (kept_type p t held z) o → behind ≡ Some (default_type p t held z)
      by_front None was is = no_type (sym (ap is_some is) ∙ some)
      by_front (Some g) was is = not_kept (is_over_stable p t held g) g (default_type p t held z) (get_or a.types z None) behind was is other

      by_tracked : (b : Bool) → behind ≡ (if b then option_map (kept_type p t held z) (get_or a.types z None) else None) → behind ≡ Some (default_type p t held z)
      by_tracked true is = by_front (get_or a.types z None) refl is
      by_tracked false is = no_type (sym (ap is_some is) ∙ some)

  -- what may forget a type, and by which it is another, did forget it
  becomes : (s : Step) (a : Point) (y : TypeChange) → set_by cs ls z s ≡ None → changed_by cs s ≡ Some y → is_some (given_type (points.after_step p t s a) z) ≡ true
      → Differs s a → Becomes s a
  becomes (passed at (assign x e q retypes)) a y h k some other = by_store at x e q retypes a (holds (has cs x) (change.ControlStored x) y k).0 h some other
  becomes (passed at (lock l)) a y h k some other = let c : ◌≡◌ {A = Option TypeChange} None (Some y) = k in cc
  becomes (passed at (branch e yes_block no_block join)) a y h k some other = let c : ◌≡◌ {A = Option TypeChange} None (Some y) = k in cc
  becomes (passed at (loop e inv b)) a y h k some other = let c : ◌≡◌ {A = Option TypeChange} None (Some y) = k in cc
  becomes (passed at (note j)) a y h k some other = let c : ◌≡◌ {A = Option TypeChange} None (Some y) = k in cc
  becomes (passed at s) a y h k some other = by_return (parts s).returned a y k some other
  becomes _ a y h k some other = let c : ◌≡◌ {A = Option TypeChange} None (Some y) = k in cc

  -- a type at the start is the class
  at_start : is_some (type_after_steps p t z []) ≡ true → type_after_steps p t z [] ≡ Some (class_of p z)
  at_start some = by_case (cases_lt z (length p.vars))
    where
      tracked : (b : Bool) → is_some (if b then Some (class_of p z) else None) ≡ true → (if b then Some (class_of p z) else None) ≡ Some (class_of p z)
      tracked true k = refl
      tracked false k = no_type k

      by_case : (z < length p.vars) ⊎ (length p.vars ≤ z) → type_after_steps p t z [] ≡ Some (class_of p z)
      by_case (inl inside) =
          let at : type_after_steps p t z [] ≡ start_type p t (start p t).held z
          = get_or-map-range_with_len (start_type p t (start p t).held) 0 (length p.vars) z z None inside (omega arith) in
          at ∙ tracked (is_tracked p t (start p t).held z) (sym (ap is_some at) ∙ some)
      by_case (inr past) =
          let none : type_after_steps p t z [] ≡ None
          = get_or_past (start p t).types z None (omega (arith, length-map-range_with_len (start_type p t (start p t).held) 0 (length p.vars), past)) in
          no_type (sym (ap is_some none) ∙ some)

  -- Several steps ----------------------------------------------------------------------------------------------

  longer : (done : List Step) (s : Step) (o : Option TypeOrigin) → IsFrom p t z done o → set_by cs ls z s ≡ None
      → type_after_steps p t z (done ++ s ∷ []) ≡ type_after_steps p t z done → IsFrom p t z (done ++ s ∷ []) o
  longer done s None from sets same = same ∙ from
  longer done s (Some o) from sets same = record {
    front = from.front;
    step = from.step;
    back = from.back ++ s ∷ [];
    parts = ap (λ ss. ss ++ s ∷ []) from.parts ∙ append_assoc from.front (from.step ∷ from.back) (s ∷ []);
    counted = from.counted;
    placed = from.placed;
    last = All-push (λ r. set_by cs ls z r ≡ None) from.back s from.last sets;
    sets = from.sets;
    says = same ∙ from.says;
  }

  told_longer : (done : List Step) (s : Step) (o : Option TypeOrigin) (l : Option Later) → set_by cs ls z s ≡ None
      → type_after_steps p t z (done ++ s ∷ []) ≡ type_after_steps p t z done → IsTold p t z done o l → IsTold p t z (done ++ s ∷ []) o l
  told_longer done s o None sets same told = λ some. longer done s o (told (sym (ap is_some same) ∙ some)) sets same
  told_longer done s o (Some c) sets same told = λ known some.
      let k = told known (sym (ap is_some same) ∙ some) in
      record {
        front = k.front;
        step = k.step;
        back = k.back ++ s ∷ [];
        parts = ap (λ ss. ss ++ s ∷ []) k.parts ∙ append_assoc k.front (k.step ∷ k.back) (s ∷ []);
        counted = k.counted;
        placed = k.placed;
        by = k.by;
        last = All-push (λ r. set_by cs ls z r ≡ None) (k.step ∷ k.back) s k.last sets;
        differs = k.differs;
        becomes = same ∙ k.becomes;
      }

  abbrev IsAt : List Step → Option Point → Type 0
  IsAt done a = Is (point_after_steps p t done) a

  abbrev behind : Step → Option Point → Option Point
  behind s a = option_and_then (behind_step p t s) a

  module _ (done : List Step) (s : Step) where
    last : point_after_steps p t (done ++ s ∷ []) ≡ points.after_step p t s (point_after_steps p t done)
    last = appended p t done (s ∷ []) (start p t)

    passed_to : (a : Option Point) → IsAt done a → Is (points.after_step p t s (point_after_steps p t done)) (behind s a)
    passed_to a h = then_is p t a (point_after_steps p t done) (behind_step p t s) (points.after_step p t s) h (step_is p t s)

    further_at : (a : Option Point) → IsAt done a → IsAt (done ++ s ∷ []) (behind s a)
    further_at a h = subst (λ x. Is x (behind s a)) (sym last) (passed_to a h)

    new_type : type_after_steps p t z (done ++ s ∷ []) ≡ given_type (points.after_step p t s (point_after_steps p t done)) z
    new_type = ap (λ a. given_type a z) last

    new_change : (y : TypeChange) → set_by cs ls z s ≡ None → changed_by cs s ≡ Some y → Differs s (point_after_steps p t done)
        → is_some (type_after_steps p t z (done ++ s ∷ [])) ≡ true → Changed p t z (done ++ s ∷ []) (change_at (length done + 1) (place_of s) y true)
    new_change y sets is other some = record {
      front = done;
      step = s;
      back = [];
      parts = refl;
      counted = refl;
      placed = refl;
      by = is;
      last = All-push (λ r. set_by cs ls z r ≡ None) [] s (All-nil (λ r. set_by cs ls z r ≡ None)) sets;
      differs = λ e. other (sym new_type ∙ e);
      becomes =
          new_type ∙ becomes s (point_after_steps p t done) y sets is (sym (ap is_some new_type) ∙ some) other
          ∙ ap (λ a. Some (default_type p t a.held z)) (sym last);
    }

    new_origin : (x : TypeSource) → set_by cs ls z s ≡ Some x → IsTold p t z (done ++ s ∷ []) (with_source (length done) (place_of s) (Some x) None) None
    new_origin x e = λ some. record {
      front = done;
      step = s;
      back = [];
      parts = refl;
      counted = refl;
      placed = refl;
      last = All-nil (λ r. set_by cs ls z r ≡ None);
      sets = e;
      says = new_type ∙ gives s (point_after_steps p t done) x e (sym (ap is_some new_type) ∙ some);
    }

    one_step : (a : Option Point) (o : Option TypeOrigin) (l : Option Later) → IsAt done a → IsTold p t z done o l
        → IsTold p t z (done ++ s ∷ []) (origin_after_step cs ls z (length done) s o) (change_after_step p t cs ls z (length done + 1) s a (behind s a) l)
    one_step a o l at told = by_source (set_by cs ls z s) refl
      where
        by_seen : set_by cs ls z s ≡ None → (y : TypeChange) → changed_by cs s ≡ Some y → (k : Option Bool) → seen (type_there z a) (type_there z (behind s a)) ≡ k
            → IsTold p t z (done ++ s ∷ []) o (with_change (length done + 1) (place_of s) (Some y) k l)
        by_seen e y is None k =
            told_longer done s o l e
            (new_type ∙ not_changed z a (behind s a) (point_after_steps p t done) (points.after_step p t s (point_after_steps p t done)) at (passed_to a at) k) told
        by_seen e y is (Some true) k = λ known some.
            new_change y e is
            (is_changed z a (behind s a) (point_after_steps p t done) (points.after_step p t s (point_after_steps p t done)) at (passed_to a at) k) some
        by_seen e y is (Some false) k = λ known some. let c : ◌≡◌ {A = Bool} false true = known in cc

        by_change : set_by cs ls z s ≡ None → (y : Option TypeChange) → changed_by cs s ≡ y
            → IsTold p t z (done ++ s ∷ []) o (with_change (length done + 1) (place_of s) y (seen (type_there z a) (type_there z (behind s a))) l)
        by_change e None is = told_longer done s o l e (new_type ∙ unset s (point_after_steps p t done) e is) told
        by_change e (Some y) is = by_seen e y is (seen (type_there z a) (type_there z (behind s a))) refl

        by_source : (x : Option TypeSource) → set_by cs ls z s ≡ x
            → IsTold p t z (done ++ s ∷ []) (with_source (length done) (place_of s) x o)
            (unless_set x (with_change (length done + 1) (place_of s) (changed_by cs s) (seen (type_there z a) (type_there z (behind s a))) l))
        by_source None e = by_change e (changed_by cs s) refl
        by_source (Some x) e = new_origin x e

  along : (index : ℕ) (done rest : List Step) (a : Option Point) (o : Option TypeOrigin) (l : Option Later) → length done ≡ index → IsAt done a
      → IsTold p t z done o l → IsTold p t z (done ++ rest) (origin_after_steps cs ls z index rest o) (change_after_steps p t cs ls z index a rest l)
  along index done [] a o l counted at told = subst (λ ss. IsTold p t z ss o l) (sym (append-nil done)) told
  along index done (s ∷ rest) a o l counted at told =
      let o2 = origin_after_step cs ls z index s o in
      let l2 = change_after_step p t cs ls z (index + 1) s a (behind s a) l in
      subst (λ ss. IsTold p t z ss (origin_after_steps cs ls z (index + 1) rest o2) (change_after_steps p t cs ls z (index + 1) (behind s a) rest l2)) (append_assoc done (s ∷ []) rest)
      (along (index + 1) (done ++ s ∷ []) rest (behind s a) o2 l2 (length-append done (s ∷ []) ∙ ap (λ n. n + 1) counted) (further_at done s a at)
      (subst (λ n. IsTold p t z (done ++ s ∷ []) (origin_after_step cs ls z n s o) (change_after_step p t cs ls z (n + 1) s a (behind s a) l)) counted (one_step done s a o l at told)))

  pub tells : (ss : List Step) → TellsOfType p t z ss
  tells ss = along 0 [] ss (Some (start p t)) None None refl refl (λ some. at_start some)
