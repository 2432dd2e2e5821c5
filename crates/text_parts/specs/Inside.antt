-- Words of private contracts: names that aren't in a table yet.
use Rattle.std.specs.Prelude.{◌≡◌, ℕ, List, [], ◌∷◌, ◌++◌, false}
use Rattle.std.specs.List.{list_any}
use Rattle.std.specs.Str.{bytes_eq}

-- Each of the names is neither one of those before nor one that stands in front of it.
abbrev pub AreNew : (before names : List (List ℕ)) → Type 0
AreNew before [] = Unit {0}
AreNew before (n ∷ ns) = (list_any (bytes_eq n) before ≡ false) × AreNew (before ++ n ∷ []) ns
