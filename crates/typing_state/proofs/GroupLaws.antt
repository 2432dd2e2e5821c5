-- Laws of the variables that types mention, one by one and in groups.
use Rattle.std.proofs.Common.{◌≡◌, ◌≢◌, ℕ, ◌*◌, ◌/◌, ◌<◌, ◌≤◌, List, [], ◌∷◌, ◌++◌, Bool, true, false, not, ◌||◌, length, get_or, set, replicate, sym, ap, refl, ◌∙◌, arith, inl, inr, Option, Some, None}
use Rattle.std.proofs.lemmas.Bool.{cases_eq, cases_lt, or_parts}
use Rattle.std.proofs.lemmas.List.{get_or-set_same, get_or-set_other, get_or_append_left, get_or_push, get_or_past, length-append, length-set}
use Rattle.cov_expr.specs.Term.{Term}
use Rattle.cov_expr.specs.Trees.{has_number, mentions, occurrences}
use Rattle.cov_expr.proofs.Trees.{occurs}
use Rattle.cov_expr.proofs.Values.{closed_mentions}
use Rattle.cov_ast.specs.Tables.{has, table, with_all}
use Rattle.cov_ast.proofs.TableLaws.{table_same, with_all_none}
use Rattle.typing_state.specs.Groups.{AreGrouped, is_free}
use Rattle.point_law.specs.Terms.{is_closed_type}
use Rattle.typing_state.specs.Next.{AreDone}

pub all_mentioned : (n : ℕ) (e : Term) → with_all (replicate n false) (occurrences e) ≡ table n (mentions e)
all_mentioned n e = with_all_none n (occurrences e) ∙ table_same n (has_number (occurrences e)) (mentions e) (λ x lt. occurs e x)

-- a type that mentions nothing doesn't mention a variable
pub closed_free : (x : ℕ) (q : Option Term) → is_closed_type q ≡ true → is_free x q ≡ true
closed_free x None h = refl
closed_free x (Some q) h = ap not (closed_mentions q x h)

-- Groups -------------------------------------------------------------------------------------------------------

-- a set in the place of another, which has all that the other has
pub put_keeps : (old : List (List Bool)) (group : ℕ) (marked : List Bool) → ((x : ℕ) → has marked x ≡ false → has (get_or old group []) x ≡ false)
    → (g x : ℕ) → has (get_or (set old group marked) g []) x ≡ false → has (get_or old g []) x ≡ false
put_keeps old group marked more g x away = elim (cases_eq g group) [
  | inl e ↦ elim (cases_lt group (length old)) [
    | inl lt ↦ ap (λ i. has (get_or old i []) x) e
        ∙ more x (sym (ap (λ m. has m x) (get_or-set_same old group marked [] lt)) ∙ ap (λ i. has (get_or (set old group marked) i []) x) (sym e) ∙ away)
    | inr past ↦ ap (λ m. has m x) (get_or_past old g [] (omega (arith, e)))
  ]
  | inr ne ↦ sym (ap (λ m. has m x) (get_or-set_other old group g marked [] ne)) ∙ away
]

-- what is joined to a set leaves what it has
pub joined_more : (old marked : List Bool) (more : ℕ → Bool) → length old ≡ 256 → ((x : ℕ) → x < 256 → has marked x ≡ (has old x || more x))
    → (x : ℕ) → has marked x ≡ false → has old x ≡ false
joined_more old marked more long is x away = elim (cases_lt x 256) [
  | inl lt ↦ (or_parts (has old x) (more x) (sym (is x lt) ∙ away)).0
  | inr past ↦ get_or_past old x false (omega (arith, long))
]

module _ (old new : List (List Bool)) (types : List (Option Term)) (grouped : AreGrouped old types)
    (kept : (g x : ℕ) → has (get_or new g []) x ≡ false → has (get_or old g []) x ≡ false) where
  -- a further variable of a set is no harm
  pub grouped_more : AreGrouped new types
  grouped_more k x small below away = grouped k x small below (kept (k / 16) x away)

  module _ (index : ℕ) (q : Option Term) (free : (x : ℕ) → index < 256 → x < 256 → has (get_or new (index / 16) []) x ≡ false → is_free x q ≡ true) where
    -- a type is put in the place of another
    pub grouped_set : AreGrouped new (set types index q)
    grouped_set k x small below away = elim (cases_eq k index) [
      | inl e ↦ elim (cases_lt index (length types)) [
        | inl lt ↦ ap (λ i. is_free x (get_or (set types index q) i None)) e ∙ ap (is_free x) (get_or-set_same types index q None lt)
            ∙ free x (omega (arith, e)) below (ap (λ i. has (get_or new (i / 16) []) x) (sym e) ∙ away)
        | inr past ↦ ap (is_free x) (get_or_past (set types index q) k None (omega (arith, e, length-set types index q)))
      ]
      | inr ne ↦ ap (is_free x) (get_or-set_other types index k q None ne) ∙ grouped k x small below (kept (k / 16) x away)
    ]

    -- one more type
    pub grouped_push : index ≡ length types → AreGrouped new (types ++ q ∷ [])
    grouped_push last k x small below away = elim (cases_lt k (length types)) [
      | inl lt ↦ ap (is_free x) (get_or_append_left types (q ∷ []) None k lt) ∙ grouped k x small below (kept (k / 16) x away)
      | inr le ↦ elim (cases_eq k index) [
        | inl e ↦ ap (is_free x) (get_or_push types q None k (sym (e ∙ last))) ∙ free x (omega (arith, e)) below (ap (λ i. has (get_or new (i / 16) []) x) (sym e) ∙ away)
        | inr ne ↦ ap (is_free x) (get_or_past (types ++ q ∷ []) k None (let other : k ≢ length types = λ is. ne (is ∙ sym last) in omega (arith, length-append types (q ∷ []))))
      ]
    ]

-- Walks over groups --------------------------------------------------------------------------------------------

-- the types of groups whose sets lack a variable
pub groups_free : (groups : List (List Bool)) (types : List (Option Term)) → AreGrouped groups types → (x z next : ℕ) → x < 256
    → ((g : ℕ) → z / 16 ≤ g → g < next → has (get_or groups g []) x ≡ false)
    → (k : ℕ) → z ≤ k → k < next * 16 → k < 256 → is_free x (get_or types k None) ≡ true
groups_free groups types grouped x z next below lack k le lt small = grouped k x small below (lack (k / 16) (omega arith) (omega arith))

module _ (types : List (Option Term)) (x from start : ℕ) (begun : from ≤ start) (so_far : (k : ℕ) → from ≤ k → k < start → k < 256 → is_free x (get_or types k None) ≡ true) where
  -- no type before the next that mentions a variable mentions this one
  pub walk_to : (z : ℕ) → AreDone (λ k. is_closed_type (get_or types k None)) start 256 (Some z)
      → (z < 256) × (from ≤ z) × ((k : ℕ) → from ≤ k → k < z → is_free x (get_or types k None) ≡ true)
  walk_to z next = (
    next.0,
    omega (arith, next.1),
    λ k le lt. let small : z < 256 = next.0 in elim (cases_lt k start) [
      | inl before ↦ so_far k le before (omega arith)
      | inr at ↦ closed_free x (get_or types k None) (next.2 k at lt)
    ],
  )

  -- nor do those that are passed over then
  pub walk_past : (z past : ℕ) → AreDone (λ k. is_closed_type (get_or types k None)) start 256 (Some z)
      → ((k : ℕ) → z ≤ k → k < past → k < 256 → is_free x (get_or types k None) ≡ true)
      → (k : ℕ) → from ≤ k → k < past → k < 256 → is_free x (get_or types k None) ≡ true
  walk_past z past next free k le lt small = elim (cases_lt k z) [
    | inl before ↦ (walk_to z next).2 k le before
    | inr at ↦ free k at lt small
  ]

  pub walk_end : AreDone (λ k. is_closed_type (get_or types k None)) start 256 None → (k : ℕ) → from ≤ k → k < 256 → is_free x (get_or types k None) ≡ true
  walk_end none k le small = elim (cases_lt k start) [
    | inl before ↦ so_far k le before small
    | inr at ↦ closed_free x (get_or types k None) (none k at small)
  ]
