-- What is warned of, in plain words: a line for each warning.
use Rattle.std.specs.Prelude.{ℕ, List, [], ◌++◌, flat_map, codes, decimal}
use Rattle.explain.specs.declared.warning.Warning.{Warning}
use Rattle.explain.specs.declared.warning.Cause.{Cause}
use Rattle.explain.specs.declared.warning.Cause.TheVariants as c
use Rattle.explain.specs.Explanations.{where_is}

-- what stands in front of the name, or of the number; all of it where there is none
abbrev pub front : Cause → List ℕ
front c.NoThread = codes "there is no thread: the verdict says nothing of any run"
front (c.FalseInvariant l) = codes "the invariant of the lock "
front (c.NeverRead x) = codes "no statement reads the variable "
front (c.NeverWritten x) = codes "no statement writes the variable "
front c.NeverReached = codes "no run comes to this statement: the guard before it has the same value in every memory, and what is checked here says nothing of any run"
front c.LoneReturn = codes "here is a carriage return that no line feed follows: an editor may show the end of a line, and the line goes on"
front (c.Control b) = codes "here is the control character "
front c.Direction = codes "here is a character that turns the direction of text: an editor may show the line in another order"
front c.Separator = codes "here is a separator of lines or of paragraphs: an editor may show the end of a line, and the line goes on"
front (c.More n) = codes "from here on there are "

-- the name or the number
abbrev pub subject : Cause → List ℕ
subject c.NoThread = []
subject (c.FalseInvariant l) = l
subject (c.NeverRead x) = x
subject (c.NeverWritten x) = x
subject c.NeverReached = []
subject c.LoneReturn = []
subject (c.Control b) = decimal b
subject c.Direction = []
subject c.Separator = []
subject (c.More n) = decimal n

-- what stands behind the name, or the number
abbrev pub rest : Cause → List ℕ
rest c.NoThread = []
rest (c.FalseInvariant l) = codes " holds in no memory: no start meets it, and the verdict says nothing of any run"
rest (c.NeverRead x) = codes ": it is in no value that is assigned, in no guard and in no output (types, invariants, notes and certificates don't count)"
rest (c.NeverWritten x) = codes ": none assigns it"
rest c.NeverReached = []
rest c.LoneReturn = []
rest (c.Control b) = codes ", which an editor may not show"
rest c.Direction = []
rest c.Separator = []
rest (c.More n) = codes " more carriage returns, control characters and characters like these that an editor may show as another text"

-- the sentence of a warning
abbrev pub cause_sentence : Cause → List ℕ
cause_sentence cause = front cause ++ subject cause ++ rest cause

-- a line: where it is, that it is a warning, and the sentence
abbrev pub warning_line : (name bytes : List ℕ) → Warning → List ℕ
warning_line name bytes w = where_is name bytes w.place ++ codes "warning: " ++ cause_sentence w.cause ++ codes "\n"

abbrev pub warning_lines : (name bytes : List ℕ) → List Warning → List ℕ
warning_lines name bytes ws = flat_map (warning_line name bytes) ws
