-- Why nothing is known of variables of a goal, as lines of text. Expressions are spelled canonically.
use Rattle.std.specs.Prelude.{ℕ, List, [], ◌∷◌, ◌++◌, Bool, codes, decimal, if◌then◌else◌, Option, Some, None}
use Rattle.cov_expr.specs.Term.{Term}
use Rattle.cov_ast.specs.Declarations.{lock_at, name_of}
use Rattle.cov_ast.specs.Plain.{Plain}
use Rattle.cov_ast.specs.Syntax.{Lock}
use Rattle.cov_ast.specs.Tables.{has}
use Rattle.cov_print.specs.Spelling.{Names, whole}
use Rattle.entail_losses.specs.LeftOutLines.{origin_part}
use Rattle.entail_losses.specs.StateWords.{kind_text}
use Rattle.entail_losses.specs.Unknowns.{Fact, Reason, reason, unknowns, unmentioned, own, no_equation, no_guard, unlisted, taken, known, forgotten}
use Rattle.entail_losses.specs.declared.left_out_states.StateAt.{StateAt}
use Rattle.entail_losses.specs.declared.unknown_reasons.Loss.{Loss}
use Rattle.entail_losses.specs.declared.unknown_reasons.Loss.TheVariants.{Stored, Returned}
use Rattle.entail_origins.specs.LocksOver.{lock_over}
use Rattle.statement_paths.specs.Paths.{Step}
use Rattle.text_parts.specs.Lines.{line}

-- Of a variable that isn't stable ------------------------------------------------------------------------------

abbrev pub unheld_text : Lock → List ℕ
unheld_text k = codes "the lock " ++ k.name ++ codes ", that it is under, isn't held\n"

abbrev pub free_text : List ℕ
free_text = codes "it is under no lock, and the thread doesn't assume that no other writes it\n"

abbrev pub cause_text : Option Lock → List ℕ
cause_text None = free_text
cause_text (Some k) = unheld_text k

abbrev pub shared_text : Plain → (x : ℕ) → List ℕ
shared_text p x = codes "it isn't stable here, so that no predicate that mentions it is known: " ++ cause_text (lock_over x p.locks)

-- Of one that is -----------------------------------------------------------------------------------------------

-- words in front of a line of the text of the program
abbrev pub in_line : (front bytes : List ℕ) → (at : ℕ) → List ℕ
in_line front bytes at = front ++ decimal (line bytes at)

abbrev pub own_end : List ℕ
own_end =
    codes " gives it a value over itself, so that nothing that mentions it is known behind that; what is known of the new value can be kept by way of another variable: assign it to that, state what is known of that in a note, and assign that\n"

abbrev pub own_text : (bytes : List ℕ) → (at : ℕ) → List ℕ
own_text bytes at = in_line (codes "the assignment in line ") bytes at ++ own_end

abbrev pub unstable_text : Plain → (y : ℕ) → List ℕ
unstable_text p y = name_of p y ++ codes " isn't stable there\n"

abbrev pub no_equation_text : Plain → (bytes : List ℕ) → (at y : ℕ) → List ℕ
no_equation_text p bytes at y = in_line (codes "the assignment in line ") bytes at ++ codes " gives no equation: " ++ unstable_text p y

abbrev pub no_guard_text : Plain → (bytes : List ℕ) → (at y : ℕ) → List ℕ
no_guard_text p bytes at y = in_line (codes "the guard in line ") bytes at ++ codes ", which mentions it, gives no predicate: " ++ unstable_text p y

abbrev pub unlisted_text : (bytes : List ℕ) → StateAt → List ℕ
unlisted_text bytes s =
    codes "no predicate in the " ++ kind_text s.kind ++ in_line (codes ", line ") bytes s.at ++ codes ", mentions it, and only what is listed there is kept\n"

abbrev pub taken_text : Plain → (bytes : List ℕ) → (at l : ℕ) → List ℕ
taken_text p bytes at l =
    codes "the lock " ++ (lock_at p l).name ++ in_line (codes ", taken in line ") bytes at
    ++ codes ", has no invariant that mentions it, and nothing since gives a predicate that does\n"

abbrev pub stored_text : Plain → (bytes : List ℕ) → (at x : ℕ) → List ℕ
stored_text p bytes at x = name_of p x ++ in_line (codes " is stored to, line ") bytes at ++ codes "\n"

abbrev pub returned_text : Plain → (bytes : List ℕ) → (at l : ℕ) → List ℕ
returned_text p bytes at l = codes "the lock " ++ (lock_at p l).name ++ in_line (codes " is given back, line ") bytes at ++ codes "\n"

-- what forgot a predicate, with its line
abbrev pub loss_text : Plain → (bytes : List ℕ) → Loss → List ℕ
loss_text p bytes (Stored at x) = stored_text p bytes at x
loss_text p bytes (Returned at l) = returned_text p bytes at l

abbrev pub forgotten_text : Plain → Names → (bytes : List ℕ) → Fact → Loss → List ℕ
forgotten_text p names bytes f loss = whole names f.term ++ origin_part p bytes f.origin ++ codes " is forgotten: " ++ loss_text p bytes loss

-- nothing is told of something that is known
abbrev pub reason_text : Plain → Names → (bytes : List ℕ) → Reason → List ℕ
reason_text p names bytes unmentioned = codes "nothing on the way here from the start of the thread gives a predicate that mentions it\n"
reason_text p names bytes (own at) = own_text bytes at
reason_text p names bytes (no_equation at y) = no_equation_text p bytes at y
reason_text p names bytes (no_guard at y) = no_guard_text p bytes at y
reason_text p names bytes (unlisted s) = unlisted_text bytes s
reason_text p names bytes (taken at l) = taken_text p bytes at l
reason_text p names bytes (known f) = []
reason_text p names bytes (forgotten f loss) = forgotten_text p names bytes f loss

-- what stands in front
abbrev pub label : Plain → (x : ℕ) → List ℕ
label p x = codes "  about " ++ name_of p x ++ codes ":  "

-- where something is known there is no line
abbrev pub stable_line : Plain → Names → (bytes : List ℕ) → (x : ℕ) → Reason → List ℕ
stable_line p names bytes x (known f) = []
stable_line p names bytes x r = label p x ++ reason_text p names bytes r

-- Lines --------------------------------------------------------------------------------------------------------

-- behind steps of a thread, where these variables are stable
module _ (p : Plain) (t : ℕ) (names : Names) (bytes : List ℕ) (stable : List Bool) (steps : List Step) where
  abbrev pub unknown_line : (x : ℕ) → List ℕ
  unknown_line x = if has stable x then stable_line p names bytes x (reason p t x steps) else label p x ++ shared_text p x

  abbrev pub lines_of : List ℕ → List ℕ
  lines_of [] = []
  lines_of (x ∷ xs) = unknown_line x ++ lines_of xs

  -- of an entailment with these hypotheses and this goal
  abbrev pub unknown_lines : (hyps : List Term) → (goal : Term) → List ℕ
  unknown_lines hyps goal = lines_of (unknowns hyps goal)
