-- Lines of reports.
use Rattle.std.specs.Prelude.{ℕ, List, ◌++◌, codes, decimal}

-- a line with a number
abbrev pub number_line : (kind : List ℕ) → ℕ → List ℕ
number_line kind n = kind ++ decimal n ++ codes "\n"
