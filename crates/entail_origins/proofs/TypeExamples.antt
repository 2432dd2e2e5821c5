-- A small program, and what is said of types in it, by computation.
use Rattle.std.proofs.Common.{◌≡◌, ℕ, List, [], ◌∷◌, ◌++◌, length, true, false, Option, Some, None, refl, codes, lit<}
use Rattle.std.proofs.lemmas.Fmt.{decimal_digit}
use Rattle.cov_expr.specs.Term.{Term, const, var, bin}
use Rattle.cov_expr.specs.declared.expr.Op.TheVariants.{Eq, Add, Both}
use Rattle.cov_ast.specs.Declarations.{no_modes}
use Rattle.cov_ast.specs.Plain.{Plain, none}
use Rattle.cov_ast.specs.Syntax as s
use Rattle.point_law.specs.Point.{controls_of}
use Rattle.entail_origins.specs.declared.kinds.End.TheVariants as e
use Rattle.entail_origins.specs.declared.kinds.Question.TheVariants as q
use Rattle.statement_paths.specs.Paths.{Step, passed, yes, head}
use Rattle.entail_origins.specs.AskedVariables.{variables_of}
use Rattle.point_law.specs.After.{start}
use Rattle.entail_origins.specs.GoalTypes.{goal_of, goals_of}
use Rattle.entail_origins.specs.FollowedTypes.{at_point, followed}
use Rattle.entail_origins.specs.TypeLines.{lines_of, type_lines}
use Rattle.entail_origins.specs.declared.followed_types.VariableAt.{VariableAt}
use Rattle.entail_origins.specs.TypeChanges.{change_after_steps, change_along, change_at}
use Rattle.entail_origins.specs.TypeOrigins.{locks_over, origin_along, set_at}
use Rattle.entail_origins.specs.declared.type_origin.By.TheVariants as by
use Rattle.entail_origins.specs.declared.type_origin.TypeChange.TheVariants as change
use Rattle.entail_origins.specs.declared.type_origin.Later.{Later}
use Rattle.entail_origins.specs.declared.type_origin.TypeOrigin.{TypeOrigin}
use Rattle.entail_origins.specs.declared.type_origin.TypeSource.TheVariants as source

-- var m: low; var buf: low when m == 0; var o: high; var n: low; lock l hide m, buf; thread t assume nowrite o
abbrev program : Plain
program = record {
  vars =
      record { name = codes "m"; at = 0; class = s.low }
      ∷ record { name = codes "buf"; at = 0; class = s.when (bin Eq (var 0) (const 0)) }
      ∷ record { name = codes "o"; at = 0; class = s.high } ∷ record { name = codes "n"; at = 0; class = s.low } ∷ [];
  locks = record { name = codes "l"; at = 0; nowrite = []; hide = 0 ∷ 1 ∷ []; inv = None } ∷ [];
  threads = record { name = codes "t"; modes = record no_modes { assume_nowrite = 2 ∷ [] }; body = none } ∷ [];
}

abbrev stated : List (ℕ × Term) → s.State
stated types = record { preds = []; types = types }

abbrev taken : Step
taken = passed 1 (s.lock 0)

abbrev returned : Step
returned = passed 5 (s.unlock 0)

-- o := o + buf
abbrev sum : s.Stm
sum = s.assign 2 (bin Add (var 2) (var 1)) None []

abbrev stored : Step
stored = passed 2 sum

-- m := 1 retype buf as 1
abbrev raised : Step
raised = passed 3 (s.assign 0 (const 1) None ((1, const 1) ∷ []))

abbrev joined : List (ℕ × Term) → Step
joined types = passed 4 (s.branch (var 1) s.done s.done (stated types))

abbrev noted : Step
noted = passed 4 (s.note (stated ((2, const 0) ∷ [])))

abbrev origin : (z : ℕ) → List Step → Option TypeOrigin
origin z steps = origin_along (controls_of program) (locks_over program z) z steps

abbrev later : (z : ℕ) → List Step → Option Later
later z steps = change_along program 0 (controls_of program) (locks_over program z) z steps

-- One step -----------------------------------------------------------------------------------------------------

the_start : origin 2 [] ≡ None
the_start = refl

an_assignment : origin 2 (stored ∷ []) ≡ Some (set_at 0 2 source.Stored)
an_assignment = refl

a_lock : origin 1 (taken ∷ []) ≡ Some (set_at 0 1 (source.Taken 0))
a_lock = refl

-- `o` isn't under the lock
another_lock : origin 2 (taken ∷ []) ≡ None
another_lock = refl

a_retype : origin 1 (raised ∷ []) ≡ Some (set_at 0 3 (source.Listed by.Retype))
a_retype = refl

-- a control has no type itself
a_control : origin 2 (raised ∷ []) ≡ None
a_control = refl

a_join : origin 1 (joined ((1, const 1) ∷ []) ∷ []) ≡ Some (set_at 0 4 (source.Listed by.Join))
a_join = refl

-- a join sets what it doesn't list, and a note leaves it
a_join_of_others : origin 1 (joined [] ∷ []) ≡ Some (set_at 0 4 (source.Unlisted by.Join))
a_join_of_others = refl

a_note : origin 2 (noted ∷ []) ≡ Some (set_at 0 4 (source.Listed by.Noted))
a_note = refl

a_note_of_others : origin 1 (taken ∷ noted ∷ []) ≡ Some (set_at 0 1 (source.Taken 0))
a_note_of_others = refl

a_head : origin 2 (head 6 (stated []) ∷ yes 6 (var 1) ∷ []) ≡ Some (set_at 0 6 (source.Unlisted by.LoopState))
a_head = refl

-- Several steps ------------------------------------------------------------------------------------------------

the_last_counts : origin 2 (noted ∷ stored ∷ []) ≡ Some (set_at 1 2 source.Stored)
the_last_counts = refl

-- Changes ------------------------------------------------------------------------------------------------------

-- the type of `o` mentions `m` from the assignment on
a_store_to_a_control : later 2 (stored ∷ raised ∷ []) ≡ Some (change_at 2 3 (change.ControlStored 0) true)
a_store_to_a_control = refl

-- and then no more
no_second_change : later 2 (stored ∷ raised ∷ returned ∷ raised ∷ []) ≡ Some (change_at 2 3 (change.ControlStored 0) true)
no_second_change = refl

a_type_that_mentions_nothing : later 2 (raised ∷ returned ∷ []) ≡ None
a_type_that_mentions_nothing = refl

a_lock_that_is_given_back : later 2 (taken ∷ stored ∷ returned ∷ []) ≡ Some (change_at 3 5 (change.Returned 0) true)
a_lock_that_is_given_back = refl

what_sets_the_type_begins_anew : later 2 (stored ∷ raised ∷ noted ∷ []) ≡ None
what_sets_the_type_begins_anew = refl

-- behind a point that isn't built a type may have changed
a_point_that_is_not_built : change_after_steps program 0 (controls_of program) (locks_over program 2) 2 1 None (raised ∷ []) None
    ≡ Some (change_at 2 3 (change.ControlStored 0) false)
a_point_that_is_not_built = refl

-- Variables ----------------------------------------------------------------------------------------------------

of_the_value : variables_of (q.Shown 2) sum ≡ 2 ∷ 1 ∷ []
of_the_value = refl

of_a_written_type : variables_of (q.Shown 2) (s.assign 2 (var 1) (Some (const 1)) []) ≡ []
of_a_written_type = refl

behind_a_written_type : variables_of q.Written (s.assign 2 (var 1) (Some (const 1)) []) ≡ 1 ∷ []
behind_a_written_type = refl

of_a_guard : variables_of q.HeadGuard (s.loop (bin Eq (var 1) (var 1)) (stated []) s.done) ≡ 1 ∷ []
of_a_guard = refl

of_what_is_listed : variables_of (q.TypeOf e.Body 1) s.skip ≡ 1 ∷ []
of_what_is_listed = refl

of_a_predicate : variables_of (q.Predicate e.Here 1) s.skip ≡ []
of_a_predicate = refl

-- Goals --------------------------------------------------------------------------------------------------------

-- at the start the type of `o` is its class, and so is that of `buf`, which others may write
of_a_sum : goal_of program 0 (q.Shown 2) sum (start program 0) ≡ bin Both (const 0) (bin Eq (var 0) (const 0))
of_a_sum = refl

what_is_written : goal_of program 0 (q.Shown 2) (s.assign 2 (var 1) (Some (const 1)) []) (start program 0) ≡ const 1
what_is_written = refl

of_a_variable : goal_of program 0 (q.Controlled 1) sum (start program 0) ≡ bin Eq (var 0) (const 0)
of_a_variable = refl

the_second_predicate : goal_of program 0 (q.Predicate e.Here 2) (s.note (record { preds = var 0 ∷ var 2 ∷ []; types = [] })) (start program 0) ≡ var 2
the_second_predicate = refl

-- a branch on `n`, whose second block stores a public value in `o`
abbrev chooses : s.Stm
chooses = s.branch (var 3) s.done (s.more 5 (s.assign 2 (const 1) None []) [] s.done) (stated ((2, const 1) ∷ []))

at_its_guard_and_its_ends : goals_of program 0 chooses (start program 0) ≡ const 1 ∷ const 0 ∷ const 1 ∷ []
at_its_guard_and_its_ends = refl

-- the loop states that `o` is public, which it is at the head, and not at the end of a block that stores `buf`
abbrev repeats : s.Stm
repeats = s.loop (var 2) (stated ((2, const 1) ∷ [])) (s.more 6 (s.assign 2 (var 1) None []) [] s.done)

at_its_head_and_its_end : goals_of program 0 repeats (start program 0) ≡ const 0 ∷ const 1 ∷ bin Eq (var 0) (const 0) ∷ []
at_its_head_and_its_end = refl

-- Variables behind a type --------------------------------------------------------------------------------------

abbrev told : (most : ℕ) → List Step → (z : ℕ) → List VariableAt
told most steps z = followed program 0 most steps most (at_point (length steps) z ∷ [])

-- those of the value, in front of the assignment
behind_a_value : told 9 (taken ∷ stored ∷ []) 2 ≡ at_point 2 2 ∷ at_point 1 2 ∷ at_point 1 1 ∷ []
behind_a_value = refl

-- and behind these, in turn
behind_an_earlier_value : told 9 (stored ∷ noted ∷ stored ∷ stored ∷ []) 2 ≡ at_point 4 2 ∷ at_point 3 2 ∷ at_point 3 1 ∷ at_point 2 2 ∷ at_point 2 1 ∷ []
behind_an_earlier_value = refl

one_more_than_are_told : told 1 (taken ∷ stored ∷ []) 2 ≡ at_point 2 2 ∷ at_point 1 2 ∷ []
one_more_than_are_told = refl

-- o := buf as 1
abbrev written : Step
written = passed 4 (s.assign 2 (var 1) (Some (const 1)) [])

not_behind_a_written_type : told 9 (taken ∷ written ∷ []) 2 ≡ at_point 2 2 ∷ []
not_behind_a_written_type = refl

-- o := m + n
no_control : told 9 (passed 2 (s.assign 2 (bin Add (var 0) (var 3)) None []) ∷ []) 2 ≡ at_point 1 2 ∷ at_point 0 3 ∷ []
no_control = refl

-- o := n; buf := o; o := o + buf: `n` is behind both variables of the sum, and is told of once
abbrev twice : List Step
twice = taken ∷ passed 2 (s.assign 2 (var 3) None []) ∷ passed 3 (s.assign 1 (var 2) None []) ∷ stored ∷ []

no_variable_twice : told 9 twice 2 ≡ at_point 4 2 ∷ at_point 3 2 ∷ at_point 3 1 ∷ at_point 1 3 ∷ at_point 2 2 ∷ []
no_variable_twice = refl

-- Lines --------------------------------------------------------------------------------------------------------

-- the place 3 stands in line 3, and 4 in line 4
abbrev text : List ℕ
text = 10 ∷ 120 ∷ 10 ∷ 10 ∷ 120 ∷ 120 ∷ 120 ∷ 120 ∷ []

a_control_and_an_assignment : type_lines program 0 text (taken ∷ stored ∷ raised ∷ []) q.Printed (s.output (bin Add (var 0) (var 2)))
    ≡ codes "  type of m:  1, as that of every control\n  type of o:  from the assignment, line 2, of `o + buf`; then m is stored to, line 3, which it mentions, so that it becomes its class `0` (high), line 1"
    ++ codes "; another is set by a store to it in front, or by `retype o as ..` there, where that is shown, or `as ..` at the assignment\n"
    ++ codes "  type of o at line 2:  its class `0` (high), from the start of the thread\n  type of buf at line 2:  its class `m == 0`, from the lock l, line 2\n"
a_control_and_an_assignment = simp (decimal_digit 0 (lit< tt), decimal_digit 1 (lit< tt), decimal_digit 2 (lit< tt), decimal_digit 3 (lit< tt))

a_written_type : type_lines program 0 text (taken ∷ written ∷ []) q.Printed (s.output (var 2))
    ≡ codes "  type of o:  from the assignment, line 4, which says that it is `1`\n"
a_written_type = simp (decimal_digit 1 (lit< tt), decimal_digit 4 (lit< tt))

not_stable : type_lines program 0 text (taken ∷ returned ∷ []) q.Guard (s.branch (var 1) s.done s.done (stated []))
    ≡ codes "  type of buf:  its class `m == 0`, since it isn't stable here: the thread doesn't assume that no other writes it, and holds no lock that it is under\n"
not_stable = simp (decimal_digit 0 (lit< tt))

a_low_variable : type_lines program 0 text [] q.Printed (s.output (var 3)) ≡ codes "  type of n:  its class `1` (low), since it isn't stable here: the thread doesn't assume that no other writes it, and holds no lock that it is under\n"
a_low_variable = simp (decimal_digit 1 (lit< tt))

-- under its lock nobody else reads `buf`
hidden : type_lines program 0 text (taken ∷ joined [] ∷ []) (q.Freed 1) (s.unlock 0) ≡ codes "  type of buf:  0 (the lock l, line 1, hides it: under `nowrite` its class would count), since no join of the `if`, line 4, lists it\n"
hidden = simp (decimal_digit 1 (lit< tt), decimal_digit 4 (lit< tt))

not_hidden : type_lines program 0 text (joined [] ∷ returned ∷ []) (q.Retyped 2) s.skip
    ≡ codes "  type of o:  its class `0` (high), line 1, since no join of the `if`, line 4, lists it\n"
not_hidden = simp (decimal_digit 0 (lit< tt), decimal_digit 1 (lit< tt), decimal_digit 4 (lit< tt))

-- under its lock a type that is forgotten says nothing
forgotten_where_hidden : type_lines program 0 text (taken ∷ passed 3 (s.assign 0 (const 1) None []) ∷ []) (q.Controlled 1) s.skip
    ≡ codes "  type of buf:  its class `m == 0`, from the lock l, line 2; then m is stored to, line 3, which it mentions, so that it becomes 0 (the lock l, line 1, hides it: under `nowrite` its class would count); another is set by a store to it in front, or by `retype buf as ..` there, where that is shown\n"
forgotten_where_hidden = simp (decimal_digit 0 (lit< tt), decimal_digit 1 (lit< tt), decimal_digit 2 (lit< tt), decimal_digit 3 (lit< tt))

-- others may read `o`
forgotten_by_return : type_lines program 0 text (taken ∷ stored ∷ returned ∷ []) q.Printed (s.output (var 2))
    ≡ codes "  type of o:  from the assignment, line 2, of `o + buf`; then l is given back, line 4, and it mentions what that protects, so that it becomes its class `0` (high), line 1\n"
    ++ codes "  type of o at line 2:  its class `0` (high), from the start of the thread\n  type of buf at line 2:  its class `m == 0`, from the lock l, line 2\n"
forgotten_by_return = simp (decimal_digit 0 (lit< tt), decimal_digit 1 (lit< tt), decimal_digit 2 (lit< tt), decimal_digit 4 (lit< tt))

by_its_lock : type_lines program 0 text (taken ∷ []) (q.Controlled 1) s.skip ≡ codes "  type of buf:  its class `m == 0`, from the lock l, line 2\n"
by_its_lock = simp (decimal_digit 0 (lit< tt), decimal_digit 2 (lit< tt))

at_the_start : type_lines program 0 text [] (q.TypeOf e.Here 2) s.skip ≡ codes "  type of o:  its class `0` (high), from the start of the thread\n"
at_the_start = simp (decimal_digit 0 (lit< tt))

others : lines_of program 0 [] text [] 0 (at_point 0 2 ∷ []) ≡ codes "  more types behind these are left out\n"
others = refl

no_lines : type_lines program 0 text [] (q.Invariant 0) (s.unlock 0) ≡ []
no_lines = refl
