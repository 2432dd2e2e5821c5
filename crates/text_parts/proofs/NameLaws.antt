-- Names that differ, put into a table one behind the other.
use Rattle.std.proofs.Common.{◌≡◌, ℕ, ◌+◌, ◌<◌, List, [], ◌∷◌, ◌++◌, length, map, drop, get_or, true, false, if◌then◌else◌, refl, sym, ◌∙◌, ap, subst, append_assoc}
use Rattle.std.specs.Prelude.{◌||◌, not}
use Rattle.std.specs.List.{list_any}
use Rattle.std.specs.Str.{bytes_eq}
use Rattle.std.proofs.lemmas.Bool.{and_parts, and_from, not-true, or_parts}
use Rattle.std.proofs.lemmas.Cmp.{nat_list_eq_equiv}
use Rattle.std.proofs.lemmas.List.{at_drop_more}
use Rattle.std.proofs.lemmas.List.Folds.{list_any-append}
use Rattle.cov_ast.specs.NameTables.{with_name}
use Rattle.cov_ast.specs.View as view
use Rattle.cov_ast.specs.WellFormed.{are_distinct}
use Rattle.cov_ast.specs.declared.decl.VarDecl.{VarDecl}
use Rattle.text_parts.specs.Inside.{AreNew}
use Rattle.text_parts.specs.VariableNames.{variable_names}

-- Distinct names -------------------------------------------------------------------------------------------------

-- none of the names is one of those before
abbrev AreApart : (before names : List (List ℕ)) → Type 0
AreApart before [] = Unit {0}
AreApart before (n ∷ ns) = (list_any (bytes_eq n) before ≡ false) × AreApart before ns

apart_more : (before ns : List (List ℕ)) (n : List ℕ) → AreApart before ns → list_any (bytes_eq n) ns ≡ false → AreApart (before ++ n ∷ []) ns
apart_more before [] n h k = tt
apart_more before (m ∷ ns) n h k =
    let parts = or_parts (bytes_eq n m) (list_any (bytes_eq n) ns) k in (
      list_any-append (bytes_eq m) before (n ∷ [])
          ∙ ap (λ b. b || list_any (bytes_eq m) (n ∷ [])) h.0
          ∙ ap (λ b. b || false) (nat_list_eq_equiv.symm m n ∙ parts.0),
      apart_more before ns n h.1 parts.1,
    )

apart_none : (ns : List (List ℕ)) → AreApart [] ns
apart_none [] = tt
apart_none (n ∷ ns) = (refl, apart_none ns)

new_from : (before ns : List (List ℕ)) → AreApart before ns → are_distinct bytes_eq ns ≡ true → AreNew before ns
new_from before [] h d = tt
new_from before (n ∷ ns) h d =
    let both = and_parts (not (list_any (bytes_eq n) ns)) (are_distinct bytes_eq ns) d in
    (h.0, new_from (before ++ n ∷ []) ns (apart_more before ns n h.1 (not-true (list_any (bytes_eq n) ns) both.0)) both.1)

pub distinct_front : (ns ms : List (List ℕ)) → are_distinct bytes_eq (ns ++ ms) ≡ true → are_distinct bytes_eq ns ≡ true
distinct_front [] ms h = refl
distinct_front (n ∷ ns) ms h =
    let both = and_parts (not (list_any (bytes_eq n) (ns ++ ms))) (are_distinct bytes_eq (ns ++ ms)) h in
    let apart = or_parts (list_any (bytes_eq n) ns) (list_any (bytes_eq n) ms) (sym (list_any-append (bytes_eq n) ns ms) ∙ not-true (list_any (bytes_eq n) (ns ++ ms)) both.0) in
    and_from (not (list_any (bytes_eq n) ns)) (are_distinct bytes_eq ns) (ap not apart.0) (distinct_front ns ms both.1)

pub all_new : (ns : List (List ℕ)) → are_distinct bytes_eq ns ≡ true → AreNew [] ns
all_new ns h = new_from [] ns (apart_none ns) h

-- A step of the loop ---------------------------------------------------------------------------------------------

module _ (vars : List VarDecl) (i : ℕ) (v : VarDecl) (inside : i < length vars) (is : v ≡ get_or vars i v) where
  from_next : variable_names (map view.var (drop i vars)) ≡ v.name ∷ variable_names (map view.var (drop (i + 1) vars))
  from_next =
      at_drop_more (λ ys. variable_names (map view.var ys)) vars i v inside
      ∙ ap (λ y. variable_names (map view.var (y ∷ drop (i + 1) vars))) (sym is)

  module _ (names next : List (List ℕ)) (new : AreNew names (variable_names (map view.var (drop i vars)))) (added : next ≡ with_name names v.name) where
    parts : AreNew names (v.name ∷ variable_names (map view.var (drop (i + 1) vars)))
    parts = subst (AreNew names) from_next new

    added_last : next ≡ names ++ v.name ∷ []
    added_last = added ∙ ap (λ b. if b then names else names ++ v.name ∷ []) parts.0

    pub names_kept : names ++ variable_names (map view.var (drop i vars)) ≡ variable_names (map view.var vars)
        → next ++ variable_names (map view.var (drop (i + 1) vars)) ≡ variable_names (map view.var vars)
    names_kept h =
        let rest = variable_names (map view.var (drop (i + 1) vars)) in
        ap (λ ns. ns ++ rest) added_last ∙ append_assoc names (v.name ∷ []) rest ∙ ap (λ ns. names ++ ns) (sym from_next) ∙ h

    pub new_kept : AreNew next (variable_names (map view.var (drop (i + 1) vars)))
    new_kept = subst (λ ns. AreNew ns (variable_names (map view.var (drop (i + 1) vars)))) (sym added_last) parts.1
