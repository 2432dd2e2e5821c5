-- Laws of the names in reports.
use Rattle.std.proofs.Common.{◌≡◌, ℕ, List, [], map, get_or, Some, option_map, slice_get, ap, ◌∙◌}
use Rattle.std.proofs.lemmas.Option.{get_or_from_slice_get, slice_get-map}

-- the name of a declaration that is there
pub declared_name : {A B : Type 0} (seen : A → B) (name : B → List ℕ) (xs : List A) (n : ℕ) (found : A) → slice_get xs n ≡ Some found
    → get_or (map name (map seen xs)) n [] ≡ name (seen found)
declared_name seen name xs n found at =
    get_or_from_slice_get (map name (map seen xs)) n (name (seen found)) []
    (slice_get-map name (map seen xs) n ∙ ap (option_map name) (slice_get-map seen xs n ∙ ap (option_map seen) at))
