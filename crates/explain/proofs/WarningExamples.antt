-- Small programs and texts, and what is warned of in them, by computation.
use Rattle.std.proofs.Common.{◌≡◌, ℕ, [], ◌∷◌, ◌++◌, map, true, false, Option, Some, None, is_some, refl}
use Rattle.std.proofs.Math.Utf8.{encode}
use Rattle.std.specs.List.{filter, range_with_len}
use Rattle.cov_expr.specs.Term.{Term, const, var, bin}
use Rattle.cov_expr.specs.declared.expr.Op.TheVariants.{Both, Eq, Lt, Sub}
use Rattle.cov_ast.specs.Declarations.{no_modes}
use Rattle.cov_ast.specs.Plain.{assign, lock, unlock, branch, loop, output, Cmds, none, next, Plain}
use Rattle.cov_ast.specs.Syntax.{low, high, Class, Var, Lock, Modes}
use Rattle.explain.specs.HiddenText.{at_front, text_warnings}
use Rattle.explain.specs.HoldsNowhere.{holds_nowhere}
use Rattle.explain.specs.NeverReached.{of_block}
use Rattle.explain.specs.Unused.{is_false, warned}
use Rattle.explain.specs.UnreadVariables.{with_unread}
use Rattle.explain.specs.Warnings.{of_program, warnings}
use Rattle.explain.specs.declared.warning.Cause.TheVariants as c

-- Programs -----------------------------------------------------------------------------------------------------

abbrev variable : ℕ → ℕ → Class → Var
variable letter at class = record { name = letter ∷ []; at = at; class = class }

abbrev lock_with : ℕ → ℕ → Option Term → Lock
lock_with letter at inv = record { name = letter ∷ []; at = at; nowrite = 0 ∷ []; hide = []; inv = inv }

-- var a: low; var s: high; lock l nowrite a inv ..; thread t { .. }
abbrev program : Option Term → Cmds → Plain
program inv body = record {
  vars = variable 97 4 low ∷ variable 115 16 high ∷ [];
  locks = lock_with 108 30 inv ∷ [];
  threads = record { name = 116 ∷ []; modes = no_modes; body = body } ∷ [];
}

-- lock l; a := s; unlock l;
abbrev leaks : Cmds
leaks = next 60 (lock 0) (next 68 (assign 0 (var 1)) (next 76 (unlock 0) none))

-- the invariant is 0: no start meets it, and the secret may be written
an_empty_acceptance : of_program (program (Some (const 0)) leaks) ≡ warned 4 (c.NeverRead (97 ∷ [])) ∷ warned 30 (c.FalseInvariant (108 ∷ [])) ∷ []
an_empty_acceptance = refl

-- it is 2 < 1
a_false_comparison : is_false (Some (bin Lt (const 2) (const 1))) ≡ true
a_false_comparison = refl

-- none is given; it is 5
no_invariant : is_false None ≡ false
no_invariant = refl

a_true_invariant : is_false (Some (const 5)) ≡ false
unfolding holds_nowhere
a_true_invariant = refl

-- a < 0, and a < 3 && 6 < a
below_zero : is_false (Some (bin Lt (var 0) (const 0))) ≡ true
unfolding holds_nowhere
below_zero = refl

no_word_between : is_false (Some (bin Both (bin Lt (var 0) (const 3)) (bin Lt (const 6) (var 0)))) ≡ true
unfolding holds_nowhere
no_word_between = refl

-- it holds in no memory, but no certificate of one node says so
less_than_itself : is_false (Some (bin Lt (var 0) (var 0))) ≡ false
unfolding holds_nowhere
less_than_itself = refl

-- if s == 0 { s := a; } else { a := 1; }: guards and values are read, in blocks too
all_are_used : of_program (program None (next 60 (branch (bin Eq (var 1) (const 0)) (next 70 (assign 1 (var 0)) none) (next 80 (assign 0 (const 1)) none)) none)) ≡ []
all_are_used = refl

-- while s { s := s - 1; } output a;: what is put out is read
outputs_are_reads : of_program (program None (next 60 (loop (var 1) (next 70 (assign 1 (bin Sub (var 1) (const 1))) none)) (next 80 (output (var 0)) none)))
    ≡ warned 4 (c.NeverWritten (97 ∷ [])) ∷ []
outputs_are_reads = refl

-- a thread without statements
nothing_is_used : of_program (program None none)
    ≡ warned 4 (c.NeverRead (97 ∷ [])) ∷ warned 4 (c.NeverWritten (97 ∷ [])) ∷ []
nothing_is_used = refl

-- thread t assume nowrite a { }, and assume hide a: what is one thread's by its header has a writer, or both
abbrev kept_by : Modes → Plain
kept_by modes = record {
  vars = variable 97 4 low ∷ [];
  locks = [];
  threads = record { name = 116 ∷ []; modes = modes; body = none } ∷ [];
}

not_written_by_others : of_program (kept_by (record { assume_nowrite = 0 ∷ []; assume_hide = []; guarantee_nowrite = []; guarantee_hide = [] }))
    ≡ warned 4 (c.NeverRead (97 ∷ [])) ∷ []
not_written_by_others = refl

hidden_from_others : of_program (kept_by (record { assume_nowrite = []; assume_hide = 0 ∷ []; guarantee_nowrite = []; guarantee_hide = [] })) ≡ []
hidden_from_others = refl

-- what a thread promises of itself says nothing of others
promised : of_program (kept_by (record { assume_nowrite = []; assume_hide = []; guarantee_nowrite = 0 ∷ []; guarantee_hide = 0 ∷ [] }))
    ≡ warned 4 (c.NeverRead (97 ∷ [])) ∷ warned 4 (c.NeverWritten (97 ∷ [])) ∷ []
promised = refl

-- no declaration and no thread, as in an empty file
no_thread : of_program (record { vars = []; locks = []; threads = [] }) ≡ record { place = 0; cause = c.NoThread } ∷ []
no_thread = refl

-- Statements that no run comes to ------------------------------------------------------------------------------

abbrev a_store : ℕ → Cmds → Cmds
a_store at rest = next at (assign 0 (const 1)) rest

-- if 2 < 1 { a := 1; a := 1; } else { a := 1; } a := 1;: the first of two in the block that is never run
the_first_block : of_block false (next 60 (branch (bin Lt (const 2) (const 1)) (a_store 70 (a_store 80 none)) (a_store 90 none)) (a_store 100 none)) ≡ warned 70 c.NeverReached ∷ []
the_first_block = refl

-- if 2 { a := 1; } else { a := 1; }
the_second_block : of_block false (next 60 (branch (const 2) (a_store 70 none) (a_store 90 none)) none) ≡ warned 90 c.NeverReached ∷ []
the_second_block = refl

-- if 2 { a := 1; } else { }: nothing stands there
an_empty_block : of_block false (next 60 (branch (const 2) (a_store 70 none) none) none) ≡ []
an_empty_block = refl

-- if a == a { } else { a := 1; }: no guard with a variable, whatever its value
an_open_guard : of_block false (next 60 (branch (bin Eq (var 0) (var 0)) none (a_store 70 none)) none) ≡ []
an_open_guard = refl

-- while 0 { a := 1; } a := 1;: the loop is left at once
a_loop_without_a_turn : of_block false (next 60 (loop (const 0) (a_store 70 none)) (a_store 80 none)) ≡ warned 70 c.NeverReached ∷ []
a_loop_without_a_turn = refl

-- while 1 { a := 1; } a := 1; a := 1;: the loop is never left
behind_an_endless_loop : of_block false (next 60 (loop (const 1) (a_store 70 none)) (a_store 80 (a_store 90 none))) ≡ warned 80 c.NeverReached ∷ []
behind_an_endless_loop = refl

-- while s { while 1 { } } a := 1;: the outer loop may be left, before its block is run
behind_a_loop_around_it : of_block false (next 60 (loop (var 1) (next 70 (loop (const 1) none) none)) (a_store 80 none)) ≡ []
behind_a_loop_around_it = refl

-- if 0 { while 1 { if 1 { } else { a := 1; } } a := 1; }: a block that is never run is looked at as another
in_a_block_that_is_never_run :
    of_block false (next 60 (branch (const 0) (next 70 (loop (const 1) (next 80 (branch (const 1) none (a_store 90 none)) none)) (a_store 95 none)) none) none)
    ≡ warned 70 c.NeverReached ∷ warned 90 c.NeverReached ∷ warned 95 c.NeverReached ∷ []
in_a_block_that_is_never_run = refl

-- in a program they stand behind what is warned of its declarations
behind_the_declarations : of_program (program (Some (const 0)) (next 60 (loop (const 0) (next 70 (assign 1 (var 0)) none)) none))
    ≡ warned 4 (c.NeverWritten (97 ∷ [])) ∷ warned 30 (c.FalseInvariant (108 ∷ [])) ∷ warned 70 c.NeverReached ∷ []
behind_the_declarations = refl

-- Texts --------------------------------------------------------------------------------------------------------

-- of the characters up to U+2FFF these are told of, each by itself
hidden_characters : filter (λ k. is_some (at_front (encode k))) (range_with_len 0 12288)
    ≡ range_with_len 0 9 ++ range_with_len 11 21 ++ range_with_len 127 33 ++ 0x061c ∷ 0x200e ∷ 0x200f ∷ range_with_len 0x2028 7 ++ range_with_len 0x2066 4
unfolding encode
hidden_characters = refl

-- each control character by its number
control_characters : map (λ k. at_front (encode k)) (0 ∷ 11 ∷ 27 ∷ 31 ∷ 127 ∷ 128 ∷ 133 ∷ 159 ∷ [])
    ≡ map (λ k. Some (c.Control k)) (0 ∷ 11 ∷ 27 ∷ 31 ∷ 127 ∷ 128 ∷ 133 ∷ 159 ∷ [])
unfolding encode
control_characters = refl

separators : map (λ k. at_front (encode k)) (0x2027 ∷ 0x2028 ∷ 0x2029 ∷ 0x202a ∷ []) ≡ None ∷ Some c.Separator ∷ Some c.Separator ∷ Some c.Direction ∷ []
unfolding encode
separators = refl

-- a carriage return in front of a line feed, one in front of another, and one at the end
returns : text_warnings (13 ∷ 10 ∷ 13 ∷ 13 ∷ 10 ∷ 97 ∷ 13 ∷ []) ≡ warned 2 c.LoneReturn ∷ warned 6 c.LoneReturn ∷ []
returns = refl

-- ten are told, and how many more there are
eleven : text_warnings (7 ∷ 7 ∷ 7 ∷ 7 ∷ 7 ∷ 9 ∷ 7 ∷ 7 ∷ 7 ∷ 7 ∷ 8 ∷ 27 ∷ 97 ∷ 0 ∷ [])
    ≡ map (λ at. warned at (c.Control 7)) (0 ∷ 1 ∷ 2 ∷ 3 ∷ 4 ∷ 6 ∷ 7 ∷ 8 ∷ 9 ∷ []) ++ warned 10 (c.Control 8) ∷ warned 11 (c.More 2) ∷ []
eleven = refl

-- Both ---------------------------------------------------------------------------------------------------------

-- in front of the first declaration, between two, at the place of one, and behind all
in_order : warnings (program (Some (const 0)) none) (9 ∷ 27 ∷ 97 ∷ 97 ∷ 97 ∷ 97 ∷ 97 ∷ 97 ∷ 97 ∷ 97 ∷ 97 ∷ 97 ∷ 97 ∷ 97 ∷ 97 ∷ 97 ∷ 7 ∷ [])
    ≡ warned 1 (c.Control 27) ∷ warned 4 (c.NeverRead (97 ∷ [])) ∷ warned 4 (c.NeverWritten (97 ∷ []))
    ∷ warned 16 (c.Control 7) ∷ warned 30 (c.FalseInvariant (108 ∷ [])) ∷ []
in_order = refl

-- Never read --------------------------------------------------------------------------------------------------------

-- of two variables to which is stored and of which the second is read, and of a third to which nothing is
one_unread : with_unread (false ∷ true ∷ false ∷ []) (true ∷ true ∷ false ∷ []) [] (0 ∷ 1 ∷ 2 ∷ []) ≡ 0 ∷ []
one_unread = refl
