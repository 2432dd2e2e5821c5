-- The rules in plain words: a sentence for each, with the names that a refusal shows, or the number of an entailment.
use Rattle.std.specs.Prelude.{ℕ, List, [], ◌++◌, codes, decimal}
use Rattle.cov_ast.specs.declared.refusal.Rule.{Rule}
use Rattle.cov_ast.specs.declared.refusal.Rule.TheVariants as r
use Rattle.cov_ast.specs.declared.refusal.Detail.{Detail}
use Rattle.cov_ast.specs.declared.refusal.Detail.TheVariants as d

-- what stands in front of the first name, or of the number; all of it where nothing is shown
abbrev pub sentence_front : Rule → List ℕ
sentence_front r.W1 = codes "the name "
sentence_front r.W2 = codes "the name "
sentence_front r.W3 = codes "the control "
sentence_front r.W4 = codes "the variable "
sentence_front r.W5 = codes "the invariant of this lock has the variable "
sentence_front r.W6 = codes "this thread assumes the variable "
sentence_front r.W7 = codes "the variable "
sentence_front r.W8 = codes "this thread assumes the variable "
sentence_front r.W9 = codes "the thread "
sentence_front r.V1 = codes "the variable "
sentence_front r.V2 = codes "the variable "
sentence_front r.V3 = codes "the expression has two occurrences of variables that aren't stable here: no assumption of the thread and no lock that it holds keeps others from writing them between the two reads"
sentence_front r.V4 = codes "a type isn't over stable controls: that of the value, of a `retype`, or of a state"
sentence_front r.V5 = codes "a control is assigned here, and the variable "
sentence_front r.V6 = codes "the thread holds the lock "
sentence_front r.V7 = codes "the thread doesn't hold the lock "
sentence_front r.V8 = codes "the two ends of `if` hold different locks, or the end of the block of `while` holds others than its start"
sentence_front r.V9 = codes "it isn't shown that the goal of entailment "
sentence_front r.V10 = codes "the expression is wider than 7"
sentence_front r.V11 = codes "the thread holds the lock "
sentence_front r.V12 = codes "a predicate of the state isn't over stable variables"
sentence_front r.V13 = codes "`by` gives the number "
sentence_front r.V14 = codes "the variable "
sentence_front r.V15 = codes "a point of the statement has more than 64 predicates"
sentence_front r.V16 = codes "a hypothesis, a goal or a type after the statement has more than 1,000 nodes"

-- what stands between the first name and the second
abbrev pub between : Rule → List ℕ
between r.W7 = codes " is under this lock, but its control "
between r.W8 = codes " but not its control "
between r.W9 = codes " makes an assumption that the thread "
between rule = []

-- what stands between the second name and the third
abbrev pub beyond : Rule → List ℕ
beyond r.W9 = codes " doesn't guarantee, of the variable "
beyond rule = []

-- what stands behind the last name, or the number
abbrev pub sentence_end : Rule → List ℕ
sentence_end r.W1 = codes " is declared a second time"
sentence_end r.W2 = codes " isn't declared as what it is used as here, a variable or a lock"
sentence_end r.W3 = codes " of this variable isn't plain low"
sentence_end r.W4 = codes " stands a second time in the lists of locks"
sentence_end r.W5 = codes ", which isn't under the lock"
sentence_end r.W6 = codes ", which is under a lock"
sentence_end r.W7 = codes " is neither under it nor assumed by every thread"
sentence_end r.W8 = []
sentence_end r.W9 = []
sentence_end r.V1 = codes " may not be read here: the thread guarantees `hide` of it, or a lock hides it that the thread doesn't hold"
sentence_end r.V2 = codes " may not be written here: the thread guarantees `nowrite` or `hide` of it, or it is under a lock that the thread doesn't hold"
sentence_end r.V3 = []
sentence_end r.V4 = []
sentence_end r.V5 = codes " of the expression isn't stable"
sentence_end r.V6 = codes " already"
sentence_end r.V7 = []
sentence_end r.V8 = []
sentence_end r.V9 = codes " follows from its hypotheses"
sentence_end r.V10 = []
sentence_end r.V11 = codes " at its end"
sentence_end r.V12 = []
sentence_end r.V13 = codes ", which is that of no entailment of the statement, or is given before"
sentence_end r.V14 = codes " can have no type here: it is a control, or isn't stable, or is listed before, or its `retype` stands where no control is assigned"
sentence_end r.V15 = []
sentence_end r.V16 = []

-- what a refusal shows, with the words between names
abbrev pub shown : Rule → Detail → List ℕ
shown rule d.Nothing = []
shown rule (d.One x) = x
shown rule (d.Two x y) = x ++ between rule ++ y
shown rule (d.Three x y z) = x ++ between rule ++ y ++ beyond rule ++ z
shown rule (d.Number n) = decimal n

-- the sentence of a rule that is broken
abbrev pub sentence : Rule → Detail → List ℕ
sentence rule detail = sentence_front rule ++ shown rule detail ++ sentence_end rule
