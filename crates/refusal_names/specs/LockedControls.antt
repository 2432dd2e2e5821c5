-- W8: the lock that a control is under which a thread doesn't assume beside what it controls: what is under a lock can't be assumed (W6).
use Rattle.std.specs.Prelude.{ℕ, List, [], ◌++◌, Option, Some, None, codes, decimal}
use Rattle.cov_ast.specs.NameTables.{find_name}
use Rattle.cov_ast.specs.Syntax.{Lock, Program}
use Rattle.entail_origins.specs.LocksOver.{lock_over}
use Rattle.text_parts.specs.Lines.{line}
use Rattle.text_parts.specs.VariableNames.{variable_names}

-- under which lock a control is: its name and the line of that
abbrev pub control_text : (control : List ℕ) → List ℕ
control_text control = codes "  " ++ (control ++ codes " is under the lock ")

abbrev pub lock_where : (bytes : List ℕ) → Lock → List ℕ
lock_where bytes l = l.name ++ (codes ", line " ++ decimal (line bytes l.at))

abbrev pub locked_text : (bytes : List ℕ) → Lock → (control : List ℕ) → List ℕ
locked_text bytes l control = control_text control ++ lock_where bytes l

-- what is mostly done, in the place of assuming the control
abbrev pub what_text : (variable : List ℕ) → List ℕ
what_text variable = codes ", and can't be assumed: put " ++ variable

abbrev pub put_text : (variable : List ℕ) → List ℕ
put_text variable = what_text variable ++ codes " under that lock too, in the place of the assumption,"

abbrev pub class_text : (variable control : List ℕ) → List ℕ
class_text variable control = codes " or give " ++ variable ++ codes " a class without " ++ control ++ codes "\n"

abbrev pub mend_text : (variable control : List ℕ) → List ℕ
mend_text variable control = put_text variable ++ class_text variable control

-- of the lock, if there is one
abbrev pub locked_line : (bytes : List ℕ) → Option Lock → (variable control : List ℕ) → List ℕ
locked_line bytes None variable control = []
locked_line bytes (Some l) variable control = locked_text bytes l control ++ mend_text variable control

-- of the control, if there is one
abbrev pub line_of_control : Program → (bytes : List ℕ) → (number : Option ℕ) → (variable control : List ℕ) → List ℕ
line_of_control p bytes None variable control = []
line_of_control p bytes (Some c) variable control = locked_line bytes (lock_over c p.locks) variable control

-- The line of the names of a refusal: those of the variable that is assumed and of its control that isn't. There is none where the control is under no lock.
abbrev pub control_line : Program → (bytes : List ℕ) → (variable control : List ℕ) → List ℕ
control_line p bytes variable control = line_of_control p bytes (find_name (variable_names p.vars) control) variable control
