-- Small statements, and the lines of refusals of them, by computation.
use Rattle.std.proofs.Common.{◌≡◌, ℕ, zero, suc, List, [], ◌∷◌, Option, Some, None, codes, refl, lit<}
use Rattle.std.proofs.lemmas.Fmt.{decimal_digit}
use Rattle.cov_expr.specs.declared.expr.Op.TheVariants.{Add}
use Rattle.cov_expr.specs.Term.{Term, const, var, bin}
use Rattle.cov_ast.specs.Syntax as s
use Rattle.cov_ast.specs.declared.refusal.Detail.TheVariants.{Nothing, Number, One, Three, Two}
use Rattle.cov_ast.specs.declared.refusal.Rule.{Rule}
use Rattle.cov_ast.specs.declared.refusal.Rule.TheVariants.{V1, V2, V3, V4, V5, V8, V9, V10, V12, V13, V14, V15, V16, W8, W9}
use Rattle.refusal_names.specs.RefusalNames as spec

-- a is plain low and the control of b; c is high. The lock l hides a and b, the lock m writes c alone.
abbrev variables : List s.Var
variables =
    record { name = codes "a"; at = 4; class = s.low }
    ∷ record { name = codes "b"; at = 12; class = s.when (var 0) }
    ∷ record { name = codes "c"; at = 27; class = s.high }
    ∷ []

abbrev locks : List s.Lock
locks =
    record { name = codes "l"; at = 40; nowrite = []; hide = 0 ∷ 1 ∷ []; inv = Some (var 0) }
    ∷ record { name = codes "m"; at = 60; nowrite = 2 ∷ []; hide = []; inv = None }
    ∷ []

abbrev modes : s.Modes
modes = record { assume_nowrite = []; assume_hide = []; guarantee_nowrite = []; guarantee_hide = [] }

abbrev with_body : s.Block → s.Program
with_body b = record { version = 1; vars = variables; locks = locks; threads = record { name = codes "t"; at = 70; modes = modes; body = b; end = 99 } ∷ [] }

-- 80: lock l; 90: the statement
abbrev behind_lock : s.Stm → s.Program
behind_lock stm = with_body (s.more 80 (s.lock 0) [] (s.more 90 stm [] s.done))

abbrev alone : s.Stm → s.Program
alone stm = with_body (s.more 90 stm [] s.done)

-- a refusal by a rule of statements that shows no names
abbrev refusal_names : s.Program → Rule → (thread : Option ℕ) → (place : ℕ) → List ℕ
refusal_names p rule thread place = spec.refusal_names p (codes "first\nsecond\n") rule thread place Nothing

-- V3: what isn't stable where nothing is held, and with l; the same variable twice
two_reads : refusal_names (alone (s.output (bin Add (var 0) (bin Add (var 1) (var 2))))) V3 (Some 0) 90
    ≡ codes "  not stable here: a, b\n  lock l, line 3, has `hide a`, and isn't held here; held: none\n  lock l, line 3, has `hide b`, and isn't held here; held: none\n"
two_reads = simp (decimal_digit 3 (lit< tt))

twice : refusal_names (behind_lock (s.output (bin Add (bin Add (var 2) (var 0)) (var 2)))) V3 (Some 0) 90
    ≡ codes "  not stable here: c, c\n  lock m, line 3, has `nowrite c`, and isn't held here; held: l\n"
twice = simp (decimal_digit 3 (lit< tt))

one_read : refusal_names (behind_lock (s.output (bin Add (var 2) (var 0)))) V3 (Some 0) 90 ≡ []
one_read = refl

-- V12: of a join, with what is held at the end of the first block
abbrev stated : Term → s.State
stated e = record { preds = var 1 ∷ e ∷ []; types = [] }

an_unstable_predicate : refusal_names (alone (s.note (stated (var 0)))) V12 (Some 0) 90
    ≡ codes "  the predicate `b` has the variable b, which isn't stable here\n  lock l, line 3, has `hide b`, and isn't held here; held: none\n"
an_unstable_predicate = simp (decimal_digit 3 (lit< tt))

the_second_predicate : refusal_names (alone (s.branch (const 1) (s.more 92 (s.lock 0) [] s.done) s.done (stated (var 2)))) V12 (Some 0) 90
    ≡ codes "  the predicate `c` has the variable c, which isn't stable here\n  lock m, line 3, has `nowrite c`, and isn't held here; held: l\n"
the_second_predicate = simp (decimal_digit 3 (lit< tt))

-- without locks
abbrev without_locks : s.Stm → s.Program
without_locks stm =
    record { version = 1; vars = variables; locks = []; threads = record { name = codes "t"; at = 70; modes = modes; body = s.more 90 stm [] s.done; end = 99 } ∷ [] }

under_no_lock : refusal_names (without_locks (s.note (stated (var 0)))) V12 (Some 0) 90
    ≡ codes "  the predicate `b` has the variable b, which isn't stable here\n  b is under no lock, and the thread doesn't assume `nowrite b`\n"
under_no_lock = refl

-- V5: of c, which is under no lock, and of b, which is under one
abbrev unstable_part : s.Program → (variable : List ℕ) → List ℕ
unstable_part p x = spec.refusal_names p (codes "first\nsecond\n") V5 (Some 0) 90 (One x)

copied_part : unstable_part (without_locks (s.assign 0 (var 2) None [])) (codes "c")
    ≡ codes "  c is under no lock, and the thread doesn't assume `nowrite c`\n  assign a constant in each branch of a test of it, or a copy of it in a variable of which the thread assumes `nowrite`\n"
copied_part = refl

locked_part : unstable_part (alone (s.assign 0 (var 1) None [])) (codes "b") ≡ codes "  lock l, line 3, has `hide b`, and isn't held here; held: none\n"
locked_part = simp (decimal_digit 3 (lit< tt))

-- V4: a type behind `as`, one of `retype`, and none
no_control : refusal_names (behind_lock (s.assign 2 (var 1) (Some (var 1)) [])) V4 (Some 0) 90 ≡ codes "  the type `b` has the variable b, which is no control: no class mentions it\n"
no_control = refl

unstable_control : refusal_names (alone (s.assign 2 (var 1) (Some (const 0)) ((1, var 0) ∷ []))) V4 (Some 0) 90
    ≡ codes "  the type `a` has the control a, which isn't stable here\n  lock l, line 3, has `hide a`, and isn't held here; held: none\n"
unstable_control = simp (decimal_digit 3 (lit< tt))

no_type : refusal_names (alone (s.assign 2 (bin Add (var 2) (var 1)) None [])) V4 (Some 0) 90
    ≡ codes "  no type is written by `as`, and the class of b has the control a, which isn't stable here\n  lock l, line 3, has `hide a`, and isn't held here; held: none\n"
no_type = simp (decimal_digit 3 (lit< tt))

-- V8: both ways, with the lines of what takes a lock and gives it back last; in a branch within the first block, and twice
two_ends : refusal_names (behind_lock (s.branch (const 1) (s.more 2 (s.lock 1) [] s.done) (s.more 7 (s.unlock 0) [] s.done) (stated (const 1)))) V8 (Some 0) 90
    ≡ codes "  held at the end of the first block: l, m; at the end of the second: none\n  l, in the first block: not given back; in the second: given back in line 2\n  m, in the first block: taken in line 1; in the second: not taken\n"
two_ends = simp (decimal_digit 1 (lit< tt), decimal_digit 2 (lit< tt))

abbrev inner : s.Block
inner = s.more 2 (s.branch (const 1) (s.more 7 (s.lock 1) [] s.done) s.done (stated (const 1))) [] s.done

within : refusal_names (alone (s.branch (const 1) s.done inner (stated (const 1)))) V8 (Some 0) 90
    ≡ codes "  held at the end of the first block: none; at the end of the second: m\n  m, in the first block: not taken; in the second: taken in line 2\n"
within = simp (decimal_digit 2 (lit< tt))

a_turn : refusal_names (behind_lock (s.loop (const 1) (stated (const 1)) (s.more 2 (s.unlock 0) [] (s.more 7 (s.lock 0) [] (s.more 15 (s.unlock 0) [] s.done))))) V8 (Some 0) 90
    ≡ codes "  held at the start of the block: l; at its end: none\n  l, in the block: given back in line 3\n"
a_turn = simp (decimal_digit 3 (lit< tt))

-- V10: `c + (c + ..)`, of which each operand is kept while the next is evaluated
abbrev nested : (n : ℕ) → Term
nested zero = var 2
nested (suc n) = bin Add (var 2) (nested n)

a_wide_expression : refusal_names (alone (s.output (nested 7))) V10 (Some 0) 90 ≡ codes "  its width is 8\n"
a_wide_expression = simp (decimal_digit 8 (lit< tt))

nothing_is_evaluated : refusal_names (alone s.skip) V10 (Some 0) 90 ≡ []
nothing_is_evaluated = refl

-- V13: of a note with an entailment
abbrev proof_of : (n : ℕ) → s.Proof
proof_of n = record { number = n; cert = s.auto }

abbrev numbers : List s.Proof → (n : ℕ) → List ℕ
numbers proofs n =
    spec.refusal_names (with_body (s.more 90 (s.note (record { preds = const 1 ∷ []; types = [] })) proofs s.done)) (codes "first\nsecond\n") V13 (Some 0) 90 (Number n)

given_twice : numbers (proof_of 1 ∷ proof_of 2 ∷ proof_of 1 ∷ []) 1 ≡ codes "  1 is given more than once\n"
given_twice = simp (decimal_digit 1 (lit< tt))

past_the_count : numbers (proof_of 1 ∷ proof_of 2 ∷ []) 2 ≡ codes "  the statement has 1 entailment: where it lists a predicate or a type more or less, numbers move\n"
past_the_count = refl

no_number : numbers (proof_of 0 ∷ proof_of 0 ∷ []) 0 ≡ codes "  the statement has 1 entailment: where it lists a predicate or a type more or less, numbers move\n"
no_number = refl

given_once : numbers (proof_of 1 ∷ proof_of 2 ∷ []) 1 ≡ []
given_once = refl

no_entailments : spec.refusal_names (with_body (s.more 90 s.skip (proof_of 1 ∷ []) s.done)) [] V13 (Some 0) 90 (Number 1) ≡ codes "  the statement has no entailments\n"
no_entailments = refl

two_entailments : spec.refusal_names (with_body (s.more 90 (s.note (record { preds = const 1 ∷ const 2 ∷ []; types = [] })) (proof_of 3 ∷ []) s.done)) [] V13 (Some 0) 90 (Number 3)
    ≡ codes "  the statement has 2 entailments: where it lists a predicate or a type more or less, numbers move\n"
two_entailments = simp (decimal_digit 2 (lit< tt))

-- V14: b and then c are given types, where l, m or nothing is held
abbrev given : s.Program → (shown : List ℕ) → List ℕ
given p shown = spec.refusal_names p (codes "first\nsecond\n") V14 (Some 0) 90 (One shown)

abbrev typed : s.Stm
typed = s.note (record { preds = []; types = (1, var 0) ∷ (2, var 0) ∷ (2, var 0) ∷ [] })

a_typed_control : given (behind_lock typed) (codes "a") ≡ codes "  a is a control, and has no type\n"
a_typed_control = refl

listed_twice : given (with_body (s.more 80 (s.lock 1) [] (s.more 90 typed [] s.done))) (codes "c") ≡ codes "  c is listed twice\n"
listed_twice = refl

an_unstable_type : given (alone typed) (codes "b")
    ≡ codes "  b isn't stable here, and has no type\n  lock l, line 3, has `hide b`, and isn't held here; held: none\n"
an_unstable_type = simp (decimal_digit 3 (lit< tt))

no_control_assigned : given (behind_lock (s.assign 2 (var 0) None ((1, var 0) ∷ []))) (codes "b")
    ≡ codes "  c, which is assigned, is no control: no `retype` may stand here\n"
no_control_assigned = refl

a_retyped_control : given (behind_lock (s.assign 0 (var 0) None ((0, var 0) ∷ []))) (codes "a") ≡ codes "  a is a control, and has no type\n"
a_retyped_control = refl

no_type_given : given (behind_lock s.skip) (codes "a") ≡ []
no_type_given = refl

-- V15
an_equation : refusal_names (alone (s.assign 2 (bin Add (var 0) (var 1)) None [])) V15 (Some 0) 90 ≡ codes "  one too many is the equation `c == (a + b)`\n"
an_equation = refl

an_invariant : refusal_names (alone (s.lock 0)) V15 (Some 0) 90 ≡ codes "  one too many is the invariant of l: `a`\n"
an_invariant = refl

a_guard : refusal_names (alone (s.loop (bin Add (var 0) (var 1)) (stated (const 1)) s.done)) V15 (Some 0) 90
    ≡ codes "  one too many is the guard or its negation: `a + b`\n"
a_guard = refl

-- another rule, no such place, no such thread, no thread
another_rule : refusal_names (alone (s.output (bin Add (var 0) (var 1)))) V9 (Some 0) 90 ≡ []
another_rule = refl

no_such_place : refusal_names (alone (s.output (bin Add (var 0) (var 1)))) V3 (Some 0) 91 ≡ []
no_such_place = refl

no_such_thread : refusal_names (alone (s.output (bin Add (var 0) (var 1)))) V3 (Some 1) 90 ≡ []
no_such_thread = refl

no_thread : refusal_names (alone (s.output (bin Add (var 0) (var 1)))) V3 None 90 ≡ []
no_thread = refl

-- V16: an equation on the way, a class and a type with the value of a control, and the type of a value. The sums have 2,047 nodes, 511 and 999.
abbrev doubled : (n : ℕ) → Term → Term
doubled zero e = e
doubled (suc n) e = bin Add (doubled n e) (doubled n e)

abbrev longer : (n : ℕ) → Term → Term
longer zero e = e
longer (suc n) e = bin Add e (longer n e)

abbrev behind_assignment : Term → s.Stm → s.Program
behind_assignment e stm = with_body (s.more 6 (s.assign 2 e None []) [] (s.more 90 stm [] s.done))

an_equation_on_the_way : refusal_names (behind_assignment (longer 499 (var 2)) (s.output (var 2))) V16 (Some 0) 90
    ≡ codes "  the equation of the assignment in line 2 has more than 1,000 nodes\n"
an_equation_on_the_way = simp (decimal_digit 2 (lit< tt))

a_smaller_equation : refusal_names (behind_assignment (doubled 8 (var 2)) (s.output (var 2))) V16 (Some 0) 90
    ≡ codes "  the type of the value, by those of its variables, has more than 1,000 nodes\n"
a_smaller_equation = refl

a_class : refusal_names (alone (s.assign 0 (doubled 10 (var 2)) None [])) V16 (Some 0) 90
    ≡ codes "  the class of b, with the value for a, has more than 1,000 nodes\n"
a_class = refl

-- the lock hides b, so that nothing is asked of its class
a_type : refusal_names (behind_lock (s.assign 0 (doubled 8 (var 2)) None ((1, doubled 2 (var 0)) ∷ []))) V16 (Some 0) 90
    ≡ codes "  the type by `retype` of b, with the value for a, has more than 1,000 nodes\n"
a_type = refl

a_note : refusal_names (behind_lock (s.note (stated (var 1)))) V16 (Some 0) 90 ≡ []
a_note = refl

-- W9: t assumes that a and b aren't written, and that b and c are left alone; v guarantees not to write b and c
abbrev assuming : s.Modes
assuming = record { assume_nowrite = 0 ∷ 1 ∷ []; assume_hide = 2 ∷ 1 ∷ []; guarantee_nowrite = []; guarantee_hide = [] }

abbrev guaranteeing : s.Modes
guaranteeing = record { assume_nowrite = []; assume_hide = []; guarantee_nowrite = 1 ∷ 2 ∷ []; guarantee_hide = [] }

abbrev two_threads : s.Program
two_threads = record {
  version = 1;
  vars = variables;
  locks = locks;
  threads = record { name = codes "t"; at = 70; modes = assuming; body = s.done; end = 75 } ∷ record { name = codes "v"; at = 3; modes = guaranteeing; body = s.done; end = 99 } ∷ [];
}

abbrev w9 : (variable : List ℕ) → List ℕ
w9 x = spec.refusal_names two_threads (codes "a\nb\nc\n") W9 None 70 (Three (codes "t") (codes "v") x)

nowrite_is_missing : w9 (codes "a") ≡ codes "  thread v stands in line 2 and needs `guarantee nowrite a`\n"
nowrite_is_missing = simp (decimal_digit 2 (lit< tt))

-- both are assumed, and one is guaranteed
hide_is_missing : w9 (codes "b") ≡ codes "  thread v stands in line 2 and needs `guarantee hide b`\n"
hide_is_missing = simp (decimal_digit 2 (lit< tt))

hide_alone_is_missing : w9 (codes "c") ≡ codes "  thread v stands in line 2 and needs `guarantee hide c`\n"
hide_alone_is_missing = simp (decimal_digit 2 (lit< tt))

-- no such variable, no such thread, nothing that is assumed, a thread by itself, another rule of declarations
no_variable : w9 (codes "d") ≡ []
no_variable = refl

no_other : spec.refusal_names two_threads [] W9 None 70 (Three (codes "t") (codes "u") (codes "a")) ≡ []
no_other = refl

nothing_assumed : spec.refusal_names two_threads [] W9 None 3 (Three (codes "v") (codes "t") (codes "a")) ≡ []
nothing_assumed = refl

itself : spec.refusal_names two_threads [] W9 None 70 (Three (codes "t") (codes "t") (codes "a")) ≡ []
itself = refl

-- W8: b is assumed and its control a isn't, which is under l; c is under m; there is no d
locked_control : spec.refusal_names two_threads (codes "first\nsecond\n") W8 None 70 (Two (codes "b") (codes "a"))
    ≡ codes "  a is under the lock l, line 3, and can't be assumed: put b under that lock too, in the place of the assumption, or give b a class without a\n"
locked_control = simp (decimal_digit 3 (lit< tt))

no_control_named : spec.refusal_names two_threads [] W8 None 70 (Two (codes "b") (codes "d")) ≡ []
no_control_named = refl

a_rule_of_declarations : spec.refusal_names two_threads [] W8 None 70 (Three (codes "t") (codes "v") (codes "a")) ≡ []
a_rule_of_declarations = refl

-- V1 and V2: t guarantees not to write b, and to leave d alone; l hides a and b, and m lists c
abbrev guarding : s.Thread
guarding = record {
  name = codes "t";
  at = 4;
  modes = record { assume_nowrite = []; assume_hide = []; guarantee_nowrite = 1 ∷ []; guarantee_hide = 3 ∷ [] };
  body = s.more 80 (s.lock 0) [] (s.more 90 s.skip [] (s.more 92 (s.unlock 0) [] (s.more 94 s.skip [] s.done)));
  end = 99;
}

abbrev guarded : s.Program
guarded = record {
  version = 1;
  vars = record { name = codes "a"; at = 4; class = s.low } ∷ record { name = codes "b"; at = 12; class = s.low } ∷ record { name = codes "c"; at = 27; class = s.high }
      ∷ record { name = codes "d"; at = 30; class = s.high } ∷ [];
  locks = record { name = codes "l"; at = 0; nowrite = []; hide = 0 ∷ 1 ∷ []; inv = None } ∷ record { name = codes "m"; at = 2; nowrite = 2 ∷ []; hide = []; inv = None } ∷ [];
  threads = guarding ∷ [];
}

-- at 94 no lock is held, and at 90 the lock l
abbrev access : Rule → (place : ℕ) → (shown : List ℕ) → List ℕ
access rule place shown = spec.refusal_names guarded (codes "a\nb\nc\n") rule (Some 0) place (One shown)

hidden_by_a_lock : access V1 94 (codes "a") ≡ codes "  lock l, line 1, has `hide a`, and isn't held here; held: none\n"
hidden_by_a_lock = simp (decimal_digit 1 (lit< tt))

hidden_and_written : access V2 94 (codes "a") ≡ codes "  lock l, line 1, has `hide a`, and isn't held here; held: none\n"
hidden_and_written = simp (decimal_digit 1 (lit< tt))

under_a_lock : access V2 90 (codes "c") ≡ codes "  lock m, line 2, has `nowrite c`, and isn't held here; held: l\n"
under_a_lock = simp (decimal_digit 2 (lit< tt))

left_alone : access V1 90 (codes "d") ≡ codes "  thread t, line 3, has `guarantee hide d`\n"
left_alone = simp (decimal_digit 3 (lit< tt))

left_alone_and_written : access V2 90 (codes "d") ≡ codes "  thread t, line 3, has `guarantee hide d`\n"
left_alone_and_written = simp (decimal_digit 3 (lit< tt))

-- a guarantee comes first, though the lock isn't held; but it forbids no reading
not_to_be_written : access V2 94 (codes "b") ≡ codes "  thread t, line 3, has `guarantee nowrite b`\n"
not_to_be_written = simp (decimal_digit 3 (lit< tt))

yet_hidden : access V1 94 (codes "b") ≡ codes "  lock l, line 1, has `hide b`, and isn't held here; held: none\n"
yet_hidden = simp (decimal_digit 1 (lit< tt))

-- what is permitted: with the lock, and to read what only isn't to be written; and no such variable, and nothing shown
with_the_lock : access V1 90 (codes "a") ≡ []
with_the_lock = refl

written_with_the_lock : access V2 90 (codes "a") ≡ []
written_with_the_lock = refl

only_read : access V1 94 (codes "c") ≡ []
only_read = refl

no_such_variable : access V1 94 (codes "e") ≡ []
no_such_variable = refl

nothing_shown : spec.refusal_names guarded [] V1 (Some 0) 94 Nothing ≡ []
nothing_shown = refl
