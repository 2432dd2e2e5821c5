-- A small program, and what is asked in it, by computation.
use Rattle.std.proofs.Common.{◌≡◌, ℕ, List, [], ◌∷◌, Option, Some, None, refl, codes, lit<}
use Rattle.std.proofs.lemmas.Fmt.{decimal_digit}
use Rattle.cov_expr.specs.Term.{Term, const, var, bin}
use Rattle.cov_expr.specs.declared.expr.Op.TheVariants.{Eq, Le}
use Rattle.cov_ast.specs.Declarations.{no_modes}
use Rattle.cov_ast.specs.Syntax as s
use Rattle.entail_origins.specs.Questions.{asked}
use Rattle.entail_origins.specs.QuestionLines.{question_line}
use Rattle.entail_origins.specs.declared.kinds.Asked.{Asked}
use Rattle.entail_origins.specs.declared.kinds.End.TheVariants as e
use Rattle.entail_origins.specs.declared.kinds.Question.{Question}
use Rattle.entail_origins.specs.declared.kinds.Question.TheVariants as q

abbrev is_zero : Term → Term
is_zero r = bin Eq r (const 0)

abbrev stated : List Term → List (ℕ × Term) → s.State
stated preds types = record { preds = preds; types = types }

-- m := 1 as 1 retype buf as 1
abbrev raises : s.Stm
raises = s.assign 0 (const 1) (Some (const 1)) ((1, const 1) ∷ [])

-- 10: lock l; 20: if m == 0 { 30: m := 1 as 1 retype buf as 1; } else { } join { m == 1; buf: 1 } 40: unlock l;
-- 50: m := 0; 60: while o inv { o <= 1; } { 70: lock l; 80: m := 1 as 1 retype buf as 1; 90: unlock l; } 100: note { o; o: 1 };
-- 110: o := o as o; 120: output o;
abbrev body : s.Block
body =
    s.more 10 (s.lock 0) [] (
    s.more 20 (s.branch (is_zero (var 0)) (s.more 30 raises [] s.done) s.done (stated (bin Eq (var 0) (const 1) ∷ []) ((1, const 1) ∷ []))) [] (
    s.more 40 (s.unlock 0) [] (
    s.more 50 (s.assign 0 (const 0) None []) [] (
    s.more 60 (s.loop (var 2) (stated (bin Le (var 2) (const 1) ∷ []) []) (s.more 70 (s.lock 0) [] (s.more 80 raises [] (s.more 90 (s.unlock 0) [] s.done)))) [] (
    s.more 100 (s.note (stated (var 2 ∷ []) ((2, const 1) ∷ []))) [] (
    s.more 110 (s.assign 2 (var 2) (Some (var 2)) []) [] (
    s.more 120 (s.output (var 2)) [] s.done)))))))

-- var m: low; var buf: low when m == 0; var o: low; lock l hide m, buf inv m <= 1; thread t { .. }
abbrev program : s.Program
program = record {
  version = 2;
  vars =
      record { name = codes "m"; at = 4; class = s.low }
      ∷ record { name = codes "buf"; at = 5; class = s.when (is_zero (var 0)) }
      ∷ record { name = codes "o"; at = 6; class = s.low } ∷ [];
  locks = record { name = codes "l"; at = 7; nowrite = []; hide = 0 ∷ 1 ∷ []; inv = Some (bin Le (var 0) (const 1)) } ∷ [];
  threads = record { name = codes "t"; at = 8; modes = no_modes; body = body; end = 130 } ∷ [];
}

abbrev one_of : ℕ → Question → Option Asked
one_of of question = Some (record { question = question; of = of })

-- By number ----------------------------------------------------------------------------------------------------

nothing_of_a_lock : asked program 0 10 1 ≡ None
nothing_of_a_lock = refl

the_guard : asked program 0 20 1 ≡ one_of 5 q.Guard
the_guard = refl

the_first_end : asked program 0 20 3 ≡ one_of 5 (q.TypeOf e.FirstBlock 1)
the_first_end = refl

the_second_end : asked program 0 20 4 ≡ one_of 5 (q.Predicate e.SecondBlock 1)
the_second_end = refl

-- the lock hides `buf` here, so nobody sees that it becomes low
a_control_under_its_lock : asked program 0 30 1 ∷ asked program 0 30 2 ∷ asked program 0 30 3 ∷ asked program 0 30 4 ∷ []
    ≡ one_of 3 q.Written ∷ one_of 3 (q.Shown 0) ∷ one_of 3 (q.Retyped 1) ∷ None ∷ []
a_control_under_its_lock = refl

-- a control isn't asked for
the_lock_is_given_back : asked program 0 40 1 ∷ asked program 0 40 2 ∷ asked program 0 40 3 ∷ [] ≡ one_of 2 (q.Invariant 0) ∷ one_of 2 (q.Freed 1) ∷ None ∷ []
the_lock_is_given_back = refl

-- behind the lock others see `buf`
a_control_without_its_lock : asked program 0 50 1 ∷ asked program 0 50 2 ∷ asked program 0 50 3 ∷ [] ≡ one_of 2 (q.Shown 0) ∷ one_of 2 (q.Controlled 1) ∷ None ∷ []
a_control_without_its_lock = refl

a_loop : asked program 0 60 1 ∷ asked program 0 60 2 ∷ asked program 0 60 3 ∷ [] ≡ one_of 3 (q.Predicate e.Entry 1) ∷ one_of 3 q.HeadGuard ∷ one_of 3 (q.Predicate e.Body 1) ∷ []
a_loop = refl

-- the lock is taken in the block of the loop
in_a_loop : asked program 0 80 3 ≡ one_of 3 (q.Retyped 1)
in_a_loop = refl

a_note : asked program 0 100 1 ∷ asked program 0 100 2 ∷ [] ≡ one_of 2 (q.Predicate e.Here 1) ∷ one_of 2 (q.TypeOf e.Here 2) ∷ []
a_note = refl

what_others_see : asked program 0 110 2 ≡ one_of 2 (q.Shown 2)
what_others_see = refl

an_output : asked program 0 120 1 ≡ one_of 1 q.Printed
an_output = refl

-- they are counted from 1
number_zero : asked program 0 120 0 ≡ None
number_zero = refl

no_statement : asked program 0 121 1 ≡ None
no_statement = refl

-- Lines --------------------------------------------------------------------------------------------------------

the_line_of_an_end : question_line program 0 20 4 ≡ codes "  entailment 4 of 5 asks: predicate 1 of `join` holds at the end of the `else` block\n"
the_line_of_an_end = simp (decimal_digit 1 (lit< tt), decimal_digit 4 (lit< tt), decimal_digit 5 (lit< tt))

the_line_of_a_control : question_line program 0 50 2
    ≡ codes "  entailment 2 of 2 asks: where buf is low after the assignment, it is public before\n"
the_line_of_a_control = simp (decimal_digit 2 (lit< tt))

the_line_of_an_invariant : question_line program 0 40 1 ≡ codes "  entailment 1 of 2 asks: the invariant of l holds\n"
the_line_of_an_invariant = simp (decimal_digit 1 (lit< tt), decimal_digit 2 (lit< tt))

the_line_of_an_output : question_line program 0 120 1 ≡ codes "  entailment 1 of 1 asks: the value is public\n"
the_line_of_an_output = simp (decimal_digit 1 (lit< tt))

no_line : question_line program 0 10 1 ≡ []
no_line = refl
