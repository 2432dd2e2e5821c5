-- Why something is asked of a variable that others may read: the thread assumes that no other writes it, and not that none reads it; or, of one whose class depends on others, a lock lists it so.
use Rattle.std.specs.Prelude.{ℕ, List, [], ◌++◌, Bool, true, false, not, ◌&&◌, codes, if◌then◌else◌, slice_get, Option, Some, None}
use Rattle.cov_expr.specs.Trees.{has_number}
use Rattle.cov_ast.specs.Declarations.{name_of, is_control}
use Rattle.cov_ast.specs.Plain.{plain}
use Rattle.cov_ast.specs.Syntax.{Class, low, high, when, Lock, Var, Program}
use Rattle.entail_origins.specs.LocksOver.{lock_over}
use Rattle.entail_origins.specs.declared.kinds.Question.{Question}
use Rattle.entail_origins.specs.declared.kinds.Question.TheVariants as q
use Rattle.mode_compat.specs.Compatible.{numbered}
use Rattle.entail_refused.specs.Sites.{Site}

-- whether a variable is in the first list, and not in the second
abbrev pub is_unhidden : (nowrite hide : List ℕ) → (x : ℕ) → Bool
is_unhidden nowrite hide x = has_number nowrite x && not (has_number hide x)

-- what keeps others from writing it: a lock, or what the thread assumes
abbrev pub keeper_text : Option Lock → List ℕ
keeper_text None = codes "the thread assumes"
keeper_text (Some l) = codes "the lock " ++ (l.name ++ codes " has")

abbrev pub reader_front : Program → (x : ℕ) → List ℕ
reader_front p x = codes "  asked since others may read " ++ (name_of (plain p) x ++ codes ": ")

-- a list, with the variable in it
abbrev pub listed_as : Program → (front : List ℕ) → (x : ℕ) → List ℕ
listed_as p front x = front ++ (name_of (plain p) x ++ codes "`")

-- in which list it isn't, or in which it wouldn't be asked
abbrev pub hide_front : (is_mend : Bool) → List ℕ
hide_front is_mend = if is_mend then codes "; with `hide " else codes ", and not `hide "

abbrev pub hide_end : (is_mend : Bool) → List ℕ
hide_end is_mend = if is_mend then codes " in its place it wouldn't be asked\n" else codes "\n"

abbrev pub reader_end : Program → (is_mend : Bool) → (x : ℕ) → List ℕ
reader_end p is_mend x = listed_as p (codes " `nowrite ") x ++ (listed_as p (hide_front is_mend) x ++ hide_end is_mend)

abbrev pub line_on : Program → (is_mend : Bool) → Option Lock → (x : ℕ) → List ℕ
line_on p is_mend keeper x = reader_front p x ++ (keeper_text keeper ++ reader_end p is_mend x)

-- where a lock lists it so
abbrev pub line_by_lock : Program → (is_mend : Bool) → Option Lock → (x : ℕ) → List ℕ
line_by_lock p is_mend None x = []
line_by_lock p is_mend (Some l) x = if is_unhidden l.nowrite l.hide x then line_on p is_mend (Some l) x else []

-- whether a class depends on the memory
abbrev pub is_conditional : Class → Bool
is_conditional low = false
is_conditional high = false
is_conditional (when e) = true

-- the same of a variable, if there is one
abbrev pub depends : Option Var → Bool
depends None = false
depends (Some v) = is_conditional v.class

module _ (p : Program) (t : ℕ) where
  -- whether the thread assumes that of it
  abbrev pub is_kept : (x : ℕ) → Bool
  is_kept x = let modes = (numbered p t).modes in is_unhidden modes.assume_nowrite modes.assume_hide x

  -- Of a control it is asked where others may not read it too. A lock is told of a variable that is sometimes low.
  abbrev pub line_unless_control : (is_mend : Bool) → (x : ℕ) → List ℕ
  line_unless_control is_mend x =
      if is_control (plain p) x then [] else
      if is_kept x then line_on p is_mend None x else
      if depends (slice_get p.vars x) then line_by_lock p is_mend (lock_over x p.locks) x else []

  -- Of what is asked where a variable is low behind an assignment. What would mend it is told of a control that is assigned, and of a value where a certificate is found: a value that may not
  -- be public mostly shouldn't be stored.
  abbrev pub line_by_question : (is_shown : Bool) → Question → List ℕ
  line_by_question is_shown q.Written = []
  line_by_question is_shown (q.Shown x) = line_unless_control is_shown x
  line_by_question is_shown (q.Controlled y) = line_unless_control true y
  line_by_question is_shown (q.Retyped z) = []
  line_by_question is_shown (q.Invariant l) = []
  line_by_question is_shown (q.Freed x) = []
  line_by_question is_shown q.Guard = []
  line_by_question is_shown q.HeadGuard = []
  line_by_question is_shown q.Printed = []
  line_by_question is_shown (q.Predicate end i) = []
  line_by_question is_shown (q.TypeOf end z) = []

  -- where it is known where something is asked
  abbrev pub reader_line : (is_shown : Bool) → Option Site → List ℕ
  reader_line is_shown None = []
  reader_line is_shown (Some s) = line_by_question is_shown s.question
