-- A name that stands in a table of distinct names.
use Rattle.std.proofs.Common.{◌≡◌, ◌++◌, ◌∷◌, [], ℕ, List, Some, slice_get, get_or, sym, ap, ◌∙◌, if◌then◌else◌, arith}
use Rattle.std.specs.List.{IsDistinct}
use Rattle.std.specs.Str.{bytes_eq}
use Rattle.std.proofs.lemmas.Cmp.{nat_list_eq_equiv}
use Rattle.std.proofs.lemmas.Option.{slice_get_within, get_or_from_slice_get}
use Rattle.std.proofs.lemmas.List.Sums.{position_or_len_is}
use Rattle.std.proofs.lemmas.Map.Keys.{apart_from_distinct, any_passes_from_place}
use Rattle.cov_ast.specs.NameTables.{number_of, with_name}

pub number_there : (names : List (List ℕ)) (name : List ℕ) (id : ℕ) → IsDistinct bytes_eq names → slice_get names id ≡ Some name → number_of names name ≡ id
number_there names name id d h =
    let inside = slice_get_within names id name h in
    let here : get_or names id name ≡ name = get_or_from_slice_get names id name name h in
    position_or_len_is (bytes_eq name) names id name (omega arith)
    (λ k below. nat_list_eq_equiv.symm name (get_or names k name) ∙ ap (bytes_eq (get_or names k name)) (sym here) ∙ apart_from_distinct bytes_eq names k id name d below inside)
    (λ within. ap (bytes_eq name) here ∙ nat_list_eq_equiv.refl name)

pub names_stay : (names : List (List ℕ)) (name : List ℕ) (id : ℕ) → slice_get names id ≡ Some name → with_name names name ≡ names
names_stay names name id h =
    ap (λ there. if there then names else names ++ name ∷ []) (any_passes_from_place (bytes_eq name) names id name h (nat_list_eq_equiv.refl name))
