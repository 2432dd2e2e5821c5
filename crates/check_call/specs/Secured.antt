-- The first half of the headline: what it says of a file that it is accepted.
use Rattle.std.specs.Prelude.{◌≡◌, ℕ, List, [], ◌∷◌, codes, Some}
use Rattle.cov_grammar.specs.PlacedTrees as trees
use Rattle.cov_io.specs.Shelves.{File, held}
use Rattle.cov_text.specs.Text.{program_of}
use Rattle.flow_model.specs.Secure.{IsSecure}
use Rattle.call_judge.specs.Meaning.{AreNamesInOrder, meaning}
use Rattle.call_inputs.specs.Programs.{SpellsTree}

-- A file that is checked holds a program that is secure: from any two fit starts, under every schedule, its two runs agree
-- after each step, on the public output too.
abbrev pub HoldsSecure : List File → (words : List (List ℕ)) → Type 0
HoldsSecure files words =
    (name : List ℕ) → words ≡ codes "check" ∷ name ∷ []
    → (bytes : List ℕ) × (held files name ≡ Some bytes) × (tree : trees.Program) × SpellsTree bytes tree
    × AreNamesInOrder (program_of bytes tree) × IsSecure (meaning (program_of bytes tree))
