-- The id of a name among variables and among locks, from its number among all declared names.
use Rattle.std.proofs.Common.{append-nil, drop, slice_get, Some, inl, inr, ◌≡◌, ℕ, ◌+◌, ◌-◌, ◌<◌, ◌≤◌, List, [], ◌∷◌, ◌++◌, true, false, length, map, get_or, refl, sym, ap, ◌∙◌, arith, subst, append_assoc, All}
use Rattle.std.specs.List.{position_or_len}
use Rattle.std.specs.Str.{bytes_eq}
use Rattle.std.proofs.lemmas.Bool.{cases_lt}
use Rattle.std.proofs.lemmas.List.{get_or-map, get_or_past, length-map, at_drop_more, drop_all}
use Rattle.std.proofs.lemmas.Option.{get_or_from_slice_get}
use Rattle.std.proofs.lemmas.List.Folds.{list_any-append}
use Rattle.std.proofs.lemmas.List.Elements.{All-head, All-tail}
use Rattle.cov_expr.specs.Names.{IsName}
use Rattle.cov_ast.specs.declared.parsed.Parsed.{Parsed}
use Rattle.cov_ast.specs.Ready.{IsReady}
use Rattle.cov_ast.specs.View as view
use Rattle.cov_ast.specs.WellFormed.{are_distinct}
use Rattle.policy_class.specs.Inside.DeclaredNames.{IsTableOf}
use Rattle.policy_class.specs.declared.ids.Ids.{Ids}
use Rattle.policy_class.specs.Inside.Ids.{AreIdsOf}
use Rattle.policy_class.specs.Resolved.{is_among, var_names, lock_names}
use Rattle.policy_class.proofs.NameLaws.{or_parts, apart}
use Rattle.policy_class.proofs.PositionLaws.{absent, among_first, position_inside, position_outside, position_behind}

-- Counts -------------------------------------------------------------------------------------------------------

var_count : (p : Parsed) → length (var_names (view.parsed p)) ≡ length p.vars
var_count p = length-map (map view.var p.vars) (λ v. v.name) ∙ length-map p.vars view.var

lock_count : (p : Parsed) → length (lock_names (view.parsed p)) ≡ length p.locks
lock_count p = length-map (map view.lock p.locks) (λ l. l.name) ∙ length-map p.locks view.lock

-- Columns ------------------------------------------------------------------------------------------------------

-- one more id in a column
pub column_more : (f : List ℕ → ℕ) (made new : List ℕ) (names : List (List ℕ)) (id : ℕ) (name : List ℕ) (of_name : ℕ)
    → id < length names → slice_get names id ≡ Some name → new ≡ made ++ of_name ∷ [] → of_name ≡ f name
    → new ++ map f (drop (id + 1) names) ≡ made ++ map f (drop id names)
column_more f made new names id name of_name inside is pushed same =
    let rest = map f (drop (id + 1) names) in
    ap (λ ns. ns ++ rest) pushed ∙ append_assoc made (of_name ∷ []) rest
    ∙ (λ j. made ++ same j ∷ rest)
    ∙ ap (λ n. made ++ f n ∷ rest) (sym (get_or_from_slice_get names id name name is))
    ∙ sym (ap (λ ns. made ++ ns) (at_drop_more (λ ys. map f ys) names id name inside))

pub column_made : (f : List ℕ → ℕ) (made : List ℕ) (names : List (List ℕ)) (id : ℕ) → length names ≤ id
    → made ++ map f (drop id names) ≡ map f names → made ≡ map f names
column_made f made names id past kept = sym (append-nil made) ∙ ap (λ ns. made ++ map f ns) (sym (drop_all id names past)) ∙ kept

-- what a column of ids has at a number, and past the last name
column_at : (names declared : List (List ℕ)) (column : List ℕ) (count : ℕ) → column ≡ map (λ name. position_or_len (bytes_eq name) declared) names
    → count ≡ length declared → is_among declared [] ≡ false
    → (id : ℕ) → get_or column id count ≡ position_or_len (bytes_eq (get_or names id [])) declared
column_at names declared column count made counted none id =
    let f = λ (name : List ℕ). position_or_len (bytes_eq name) declared in
    ap (λ ns. get_or ns id count) made ∙ elim (cases_lt id (length names)) [
      | inl lt ↦ get_or-map f names id [] count lt
      | inr le ↦
          get_or_past (map f names) id count (omega (arith, length-map names f))
          ∙ counted ∙ sym (absent (bytes_eq []) declared none) ∙ sym (ap f (get_or_past names id [] le))
    ]

-- Ids -------------------------------------------------------------------------------------------------------

module _ (p : Parsed) (table : List (List ℕ)) (h : IsTableOf (view.parsed p) table) where
  vs : List (List ℕ)
  vs = var_names (view.parsed p)

  ls : List (List ℕ)
  ls = lock_names (view.parsed p)

  ts : List (List ℕ)
  ts = map (λ t. t.name) (map view.thread p.threads)

  split : table ≡ vs ++ (ls ++ ts)
  unfolding vs ls ts
  split = h.names ∙ append_assoc vs ls ts

  -- an empty text is no name
  none_empty : (names : List (List ℕ)) → All IsName names → is_among names [] ≡ false
  none_empty [] all = refl
  none_empty ([] ∷ names) all = absurd (omega (arith, (All-head IsName [] names all).some))
  none_empty ((b ∷ bs) ∷ names) all = none_empty names (All-tail IsName (b ∷ bs) names all)

  no_empty : (is_among vs [] ≡ false) × (is_among ls [] ≡ false)
  unfolding vs ls ts
  no_empty =
      let none = sym (ap (λ names. is_among names []) split) ∙ none_empty table h.texts in
      let parts = or_parts (is_among vs []) (is_among (ls ++ ts) []) (sym (list_any-append (bytes_eq []) vs (ls ++ ts)) ∙ none) in
      (parts.0, (or_parts (is_among ls []) (is_among ts []) (sym (list_any-append (bytes_eq []) ls ts) ∙ parts.1)).0)

  module _ (name : List ℕ) (number : ℕ) (is : number ≡ position_or_len (bytes_eq name) table) where
    at : number ≡ position_or_len (bytes_eq name) (vs ++ (ls ++ ts))
    at = is ∙ ap (position_or_len (bytes_eq name)) split

    pub var_inside : number < length p.vars → number ≡ position_or_len (bytes_eq name) (var_names (view.parsed p))
    unfolding vs
    var_inside lt = at ∙ position_inside (bytes_eq name) vs (ls ++ ts) (omega (arith, at, var_count p))

    pub var_outside : length p.vars ≤ number → length p.vars ≡ position_or_len (bytes_eq name) (var_names (view.parsed p))
    unfolding vs
    var_outside le = sym (var_count p) ∙ position_outside (bytes_eq name) vs (ls ++ ts) (omega (arith, at, var_count p))

    -- a name of a variable is none of a lock
    pub lock_before : number < length p.vars → length p.locks ≡ position_or_len (bytes_eq name) (lock_names (view.parsed p))
    unfolding vs ls
    lock_before lt =
        let among : is_among vs name ≡ true = among_first (bytes_eq name) vs (ls ++ ts) (omega (arith, at, var_count p)) in
        let none = apart vs (ls ++ ts) name (ap (are_distinct bytes_eq) (sym split) ∙ h.differ) among in
        sym (lock_count p)
        ∙ sym (absent (bytes_eq name) ls (or_parts (is_among ls name) (is_among ts name) (sym (list_any-append (bytes_eq name) ls ts) ∙ none)).0)

    behind_vars : length p.vars ≤ number → number - length p.vars ≡ position_or_len (bytes_eq name) (ls ++ ts)
    unfolding vs
    behind_vars le = omega (arith, at, var_count p, position_behind (bytes_eq name) vs (ls ++ ts) (omega (arith, at, var_count p)))

    pub lock_inside : length p.vars ≤ number → number - length p.vars < length p.locks
        → number - length p.vars ≡ position_or_len (bytes_eq name) (lock_names (view.parsed p))
    unfolding ls
    lock_inside le lt = behind_vars le ∙ position_inside (bytes_eq name) ls ts (omega (arith, behind_vars le, lock_count p))

    pub lock_outside : length p.vars ≤ number → length p.locks ≤ number - length p.vars
        → length p.locks ≡ position_or_len (bytes_eq name) (lock_names (view.parsed p))
    unfolding ls
    lock_outside le past = sym (lock_count p) ∙ position_outside (bytes_eq name) ls ts (omega (arith, behind_vars le, lock_count p))

  -- the ids of the names of the text
  pub are_ids : (t : Ids) → t.vars ≡ map (λ name. position_or_len (bytes_eq name) (var_names (view.parsed p))) p.names
      → t.locks ≡ map (λ name. position_or_len (bytes_eq name) (lock_names (view.parsed p))) p.names
      → t.var_count ≡ length p.vars → t.lock_count ≡ length p.locks → AreIdsOf (view.parsed p) t
  unfolding vs ls
  are_ids t variables locks vars_counted locks_counted = record {
    variables = column_at p.names vs t.vars t.var_count variables (vars_counted ∙ sym (var_count p)) no_empty.0;
    locks = column_at p.names ls t.locks t.lock_count locks (locks_counted ∙ sym (lock_count p)) no_empty.1;
    var_count = vars_counted ∙ sym (length-map p.vars view.var);
    lock_count = locks_counted ∙ sym (length-map p.locks view.lock);
  }
