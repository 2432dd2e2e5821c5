-- Parts of predicates that no store touches, where one touches the whole, as lines of text, with whether one alone would help. Expressions are spelled
-- canonically.
use Rattle.std.specs.Prelude.{ℕ, List, [], ◌∷◌, ◌++◌, Bool, false, codes, if◌then◌else◌, Option, Some, None}
use Rattle.cov_expr.specs.Term.{Term}
use Rattle.cov_ast.specs.Plain.{Plain}
use Rattle.cov_print.specs.Spelling.{Names, whole}
use Rattle.entail_losses.specs.Forgotten.{ForgottenPart}
use Rattle.entail_origins.specs.Remarks.{origin_text}
use Rattle.entail_losses.specs.StateWords.{kind_text, line_part}
use Rattle.entail_origins.specs.declared.hypothesis_origin.Origin.{Origin}
use Rattle.entail_losses.specs.declared.left_out_states.StateAt.{StateAt}

-- what stands in front of a part
abbrev pub label : (helps : Bool) → List ℕ
label helps = if helps then codes "  would help:   " else codes "  forgotten:    "

-- the part
abbrev pub part_text : Names → (helps : Bool) → Term → List ℕ
part_text names helps e = label helps ++ whole names e

-- what gives the whole, and in which line
abbrev pub whole_text : Plain → (bytes : List ℕ) → Origin → List ℕ
whole_text p bytes o = codes "   (part of the " ++ origin_text p bytes o ++ codes ")"

-- which states have to list the part, beside a note, and the end of a line of text
abbrev pub states_text : (bytes : List ℕ) → Option StateAt → List ℕ
states_text bytes None = codes "\n"
states_text bytes (Some s) = codes ", and each state since, such as the " ++ kind_text s.kind ++ line_part bytes s.at

-- why the whole isn't known, and what would keep the part
abbrev pub advice : (bytes : List ℕ) → Option StateAt → List ℕ
advice bytes s = codes ": a store since to another variable of it forgets the whole in any case; this part would be kept, had a note right behind that line listed it" ++ states_text bytes s

abbrev pub forgotten_line : Plain → Names → (bytes : List ℕ) → (helps : Bool) → ForgottenPart → List ℕ
forgotten_line p names bytes helps f = part_text names helps f.part ++ whole_text p bytes f.origin ++ advice bytes f.state

-- a line for each, in the order in which they are found
abbrev pub forgotten_lines : Plain → Names → (bytes : List ℕ) → List ForgottenPart → List ℕ
forgotten_lines p names bytes [] = []
forgotten_lines p names bytes (f ∷ fs) = forgotten_line p names bytes false f ++ forgotten_lines p names bytes fs
