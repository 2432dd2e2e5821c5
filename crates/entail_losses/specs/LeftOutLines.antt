-- What was left out on the way to a point, as lines of text, with whether it alone would help. Expressions are spelled canonically.
use Rattle.std.specs.Prelude.{ℕ, List, [], ◌∷◌, ◌++◌, Bool, false, codes, if◌then◌else◌, Option, Some, None}
use Rattle.cov_expr.specs.Term.{Term}
use Rattle.cov_ast.specs.Plain.{Plain}
use Rattle.cov_print.specs.Spelling.{Names, whole}
use Rattle.entail_losses.specs.LeftOut.{LeftOut}
use Rattle.entail_losses.specs.StateWords.{kind_text, line_part, line_text}
use Rattle.entail_losses.specs.declared.left_out_states.StateAt.{StateAt}
use Rattle.entail_losses.specs.declared.left_out_states.StateKind.{StateKind}
use Rattle.entail_losses.specs.declared.left_out_states.StateKind.TheVariants.{Join, Inv, Note}
use Rattle.entail_origins.specs.Remarks.{origin_text}
use Rattle.entail_origins.specs.declared.hypothesis_origin.Origin.{Origin}

-- what stands in front of a predicate
abbrev pub label : (helps : Bool) → List ℕ
label helps = if helps then codes "  would help:   " else codes "  left out:     "

-- the predicate
abbrev pub predicate_part : Names → (helps : Bool) → Term → List ℕ
predicate_part names helps e = label helps ++ whole names e

-- what gives it, and in which line
abbrev pub origin_part : Plain → (bytes : List ℕ) → Origin → List ℕ
origin_part p bytes o = codes "   (" ++ origin_text p bytes o ++ codes ")"

-- what stands in front of a state that would help, if it listed it: what an `inv` lists has to hold at the end of the block too
abbrev pub helping_label : StateKind → List ℕ
helping_label Join = codes ", left out by the "
helping_label Inv = codes ", if each turn keeps it; left out by the "
helping_label Note = codes ", left out by the "

-- what stands in front of the state
abbrev pub state_label : (helps : Bool) → StateKind → List ℕ
state_label helps kind = if helps then helping_label kind else codes ", by the "

-- which state left it out
abbrev pub state_part : (bytes : List ℕ) → (helps : Bool) → StateAt → List ℕ
state_part bytes helps s = state_label helps s.kind ++ kind_text s.kind ++ line_text bytes s.at

-- where further states come behind that one, that these have to list it too, with the last; and the end of the line
abbrev pub further_part : (bytes : List ℕ) → (last : Option StateAt) → List ℕ
further_part bytes None = codes "\n"
further_part bytes (Some s) = codes "; each state since has to list it too, up to the " ++ kind_text s.kind ++ line_part bytes s.at

-- the states
abbrev pub states_part : (bytes : List ℕ) → (helps : Bool) → LeftOut → List ℕ
states_part bytes helps o = state_part bytes helps o.state ++ further_part bytes o.last

abbrev pub left_out_line : Plain → Names → (bytes : List ℕ) → (helps : Bool) → LeftOut → List ℕ
left_out_line p names bytes helps o = predicate_part names helps o.term ++ origin_part p bytes o.origin ++ states_part bytes helps o

-- a line for each, in the order in which they are found
abbrev pub left_out_lines : Plain → Names → (bytes : List ℕ) → List LeftOut → List ℕ
left_out_lines p names bytes [] = []
left_out_lines p names bytes (o ∷ os) = left_out_line p names bytes false o ++ left_out_lines p names bytes os
