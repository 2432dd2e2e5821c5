-- What is warned of in a program and its text.
use Rattle.std.specs.Prelude.{ℕ, nat_lt, List, [], ◌∷◌, ◌++◌, flat_map, if◌then◌else◌}
use Rattle.cov_ast.specs.Plain.{Plain, PlainThread}
use Rattle.explain.specs.HiddenText.{text_warnings}
use Rattle.explain.specs.NeverReached.{of_thread}
use Rattle.explain.specs.Unused.{of_declarations}
use Rattle.explain.specs.declared.warning.Cause.TheVariants.{NoThread}
use Rattle.explain.specs.declared.warning.Warning.{Warning}

-- of a program without threads that, at the head of its text
abbrev pub of_count : List PlainThread → List Warning
of_count [] = record { place = 0; cause = NoThread } ∷ []
of_count (t ∷ ts) = []

-- what is warned of in a program: that it has no thread, in its declarations, and then in the statements of its threads
abbrev pub of_program : Plain → List Warning
of_program p = of_count p.threads ++ of_declarations p ++ flat_map of_thread p.threads

-- of warnings in order, those in front of a place, and the rest
abbrev pub warnings_before : (place : ℕ) → List Warning → List Warning
warnings_before place [] = []
warnings_before place (w ∷ ws) = if nat_lt w.place place then w ∷ warnings_before place ws else []

abbrev pub warnings_from : (place : ℕ) → List Warning → List Warning
warnings_from place [] = []
warnings_from place (w ∷ ws) = if nat_lt w.place place then warnings_from place ws else w ∷ ws

-- the warnings of two lists, each in the order of the places, in that order
abbrev pub merged_by_place : (first second : List Warning) → List Warning
merged_by_place [] second = second
merged_by_place (w ∷ ws) second = warnings_before w.place second ++ w ∷ merged_by_place ws (warnings_from w.place second)

-- what is warned of in a program and in the bytes that spell it, in the order of the places
abbrev pub warnings : Plain → (bytes : List ℕ) → List Warning
warnings p bytes = merged_by_place (of_program p) (text_warnings bytes)
