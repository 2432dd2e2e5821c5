-- What is told of a call.
use Rattle.std.specs.Prelude.{ℕ, List, [], ◌++◌, codes, if◌then◌else◌}
use Rattle.std.specs.Str.{bytes_eq}

-- Nothing where the call shows what it has to; else its case, its words, what it has to show and what it shows.
abbrev pub told : (case words due found : List ℕ) → List ℕ
told case words due found =
    if bytes_eq found due then [] else
    codes "//// " ++ case ++ codes ": " ++ words ++ codes "\nhas to show\n" ++ due ++ codes "and shows\n" ++ found
