-- What the entailments of a statement ask, in plain words.
use Rattle.std.specs.Prelude.{ℕ, List, [], ◌++◌, codes, decimal, Option, Some, None}
use Rattle.cov_ast.specs.Declarations.{lock_at, name_of}
use Rattle.cov_ast.specs.Plain.{Plain, plain}
use Rattle.cov_ast.specs.Syntax.{Program}
use Rattle.entail_origins.specs.Questions.{asked}
use Rattle.entail_origins.specs.declared.kinds.Asked.{Asked}
use Rattle.entail_origins.specs.declared.kinds.End.{End}
use Rattle.entail_origins.specs.declared.kinds.End.TheVariants as e
use Rattle.entail_origins.specs.declared.kinds.Question.{Question}
use Rattle.entail_origins.specs.declared.kinds.Question.TheVariants as q

-- what stands in front of the name or of the number; all of it where there is none
abbrev pub question_front : Question → List ℕ
question_front q.Written = codes "the type behind `as` gives the type that the value has by its variables"
question_front (q.Shown x) = codes "where "
question_front (q.Controlled y) = codes "where "
question_front (q.Retyped z) = codes "where the new type of "
question_front (q.Invariant l) = codes "the invariant of "
question_front (q.Freed x) = codes "where "
question_front q.Guard = codes "the guard is public"
question_front q.HeadGuard = codes "the guard is public at the head of the loop"
question_front q.Printed = codes "the value is public"
question_front (q.Predicate end i) = codes "predicate "
question_front (q.TypeOf end z) = codes "where the type listed for "

-- the name of the variable or of the lock, or the number of the predicate
abbrev pub subject : Plain → Question → List ℕ
subject p q.Written = []
subject p (q.Shown x) = name_of p x
subject p (q.Controlled y) = name_of p y
subject p (q.Retyped z) = name_of p z
subject p (q.Invariant l) = (lock_at p l).name
subject p (q.Freed x) = name_of p x
subject p q.Guard = []
subject p q.HeadGuard = []
subject p q.Printed = []
subject p (q.Predicate end i) = decimal i
subject p (q.TypeOf end z) = name_of p z

-- where a predicate is to hold
abbrev pub predicate_end : End → List ℕ
predicate_end e.Here = codes " of the note holds"
predicate_end e.Entry = codes " of `inv` holds where the loop is entered"
predicate_end e.FirstBlock = codes " of `join` holds at the end of the first block"
predicate_end e.SecondBlock = codes " of `join` holds at the end of the `else` block"
predicate_end e.Body = codes " of `inv` holds at the end of the block"

-- where a variable is to be public
abbrev pub type_end : End → List ℕ
type_end e.Here = codes " holds, that variable is public here"
type_end e.Entry = codes " holds, that variable is public where the loop is entered"
type_end e.FirstBlock = codes " holds, that variable is public at the end of the first block"
type_end e.SecondBlock = codes " holds, that variable is public at the end of the `else` block"
type_end e.Body = codes " holds, that variable is public at the end of the block"

-- what stands behind the name or the number
abbrev pub question_end : Question → List ℕ
question_end q.Written = []
question_end (q.Shown x) = codes " is low, the value is public"
question_end (q.Controlled y) = codes " is low after the assignment, it is public before"
question_end (q.Retyped z) = codes " holds after the assignment, that variable is public before"
question_end (q.Invariant l) = codes " holds"
question_end (q.Freed x) = codes " is low, it is public, since the lock hides it no longer"
question_end q.Guard = []
question_end q.HeadGuard = []
question_end q.Printed = []
question_end (q.Predicate end i) = predicate_end end
question_end (q.TypeOf end z) = type_end end

-- what is asked, as a sentence
abbrev pub sentence : Plain → Question → List ℕ
sentence p question = question_front question ++ subject p question ++ question_end question

-- which entailment it is, of how many
abbrev pub numbers : (number of : ℕ) → List ℕ
numbers number of = codes "  entailment " ++ decimal number ++ codes " of " ++ decimal of ++ codes " asks: "

-- the line of a question, if there is one
abbrev pub line_of : Plain → (number : ℕ) → Option Asked → List ℕ
line_of p number None = []
line_of p number (Some a) = numbers number a.of ++ sentence p a.question ++ codes "\n"

-- the line of what the entailment with this number asks, of those of the statement at this place of a thread
abbrev pub question_line : Program → (t place number : ℕ) → List ℕ
question_line p t place number = line_of (plain p) number (asked p t place number)
