-- A program that is refused for V9, and what is told of it, by computation.
use Rattle.std.proofs.Common.{◌≡◌, [], ◌∷◌, Some, None, refl, codes, lit<, false, true}
use Rattle.std.proofs.lemmas.Fmt.{decimal_digit}
use Rattle.cov_expr.specs.Term.{const, var}
use Rattle.cov_ast.specs.Declarations.{no_modes}
use Rattle.cov_ast.specs.LocksAlong.{no_locks}
use Rattle.cov_ast.specs.Obligations.{first_false}
use Rattle.cov_ast.specs.Plain.{plain}
use Rattle.cov_ast.specs.Syntax.{Block, Lock, Program, assign, branch, calc, done, high, low, more, range, ring}
use Rattle.cov_ast.specs.declared.refusal.Detail.TheVariants.{Nothing, Number}
use Rattle.cov_ast.specs.declared.refusal.Refusal.{Refusal}
use Rattle.cov_ast.specs.declared.refusal.Rule.TheVariants.{V8, V9, V13}
use Rattle.entail_counter.specs.Counterexamples.{counterexample}
use Rattle.entail_text.specs.Findings.{suggested}
use Rattle.typing_law.specs.ThreadEntailments.{PlacedEntailment, thread_entailments}
use Rattle.statement_paths.specs.Paths.{yes, no}
use Rattle.typing_law.specs.Accepted.{program_obligations}
use Rattle.entail_refused.specs.Asked.{asked}
use Rattle.entail_refused.specs.GivenCertificates.{cert_of}
use Rattle.entail_refused.specs.GivenElsewhere.{line_without}
use Rattle.entail_refused.specs.InvariantsWithout.{line_by_lock}
use Rattle.entail_refused.specs.OtherRefusals.{other_refusals}
use Rattle.entail_refused.specs.RefusedEntailment.{has_valid_certificate}
use Rattle.entail_refused.specs.UnknownGuards.{lines_along}

-- var a: low; var s: high; thread t { a := 0; a := s by { 1: calc }; }
abbrev shows_secret : Program
shows_secret = record {
  version = 1;
  vars = record { name = codes "a"; at = 4; class = low } ∷ record { name = codes "s"; at = 16; class = high } ∷ [];
  locks = [];
  threads =
      record {
        name = codes "t";
        at = 32;
        modes = no_modes;
        body =
            more 36 (assign 0 (const 0) None []) [] (
            more 44 (assign 0 (var 1) None []) (record { number = 1; cert = calc } ∷ []) done);
        end = 67;
      }
      ∷ [];
}

abbrev unproved_at_44 : Refusal
unproved_at_44 = record { rule = V9; thread = Some 0; place = 44; detail = Number 1 }

is_refused : first_false (program_obligations shows_secret) ≡ Some unproved_at_44
is_refused = refl

-- what follows at the first statement, and what doesn't at the second
abbrev proved_zero : PlacedEntailment
proved_zero = record { place = 36; number = 1; entailment = record { hyps = const 1 ∷ []; goal = const 1 } }

abbrev unproved_secret : PlacedEntailment
unproved_secret = record { place = 44; number = 1; entailment = record { hyps = const 1 ∷ []; goal = const 0 } }

both_listed : thread_entailments shows_secret 0 ≡ proved_zero ∷ unproved_secret ∷ []
both_listed = refl

first_proved : has_valid_certificate shows_secret 0 proved_zero ≡ true
first_proved = refl

second_unproved : has_valid_certificate shows_secret 0 unproved_secret ≡ false
second_unproved = refl

told_of_second : asked shows_secret [] V9 (Some 0) 44 (Number 1)
    ≡ codes "  entailment 1 of 1 asks: where a is low, the value is public\n  goal:         0\n  hypotheses:   1  1   (asked with the goal)\n  certificate:  given; fails at the root: calc (the goal there is 0)\n  breaks it:    each memory   (all hypotheses hold there, and the goal doesn't: no certificate can show it, unless a type says more, more is known here, or less is asked)\n  asked by:     the class of a, line 1\n  type of s:  its class `0` (high), line 1; it isn't stable here\n"
unfolding suggested counterexample
told_of_second = simp (decimal_digit 0 (lit< tt), decimal_digit 1 (lit< tt))

-- nothing of another rule, and of a thread that there isn't
other_rule : asked shows_secret [] V8 (Some 0) 44 Nothing ≡ []
other_rule = refl

no_such_thread : asked shows_secret [] V9 (Some 1) 44 (Number 1) ≡ []
no_such_thread = refl

-- a certificate is given for another entailment, for this one, and for none
given_for_others : line_without 2 (record { number = 1; cert = calc } ∷ record { number = 3; cert = calc } ∷ []) ≡ codes "  given for:    1 3\n"
given_for_others = simp (decimal_digit 1 (lit< tt), decimal_digit 3 (lit< tt))

given_for_this_one : line_without 3 (record { number = 1; cert = calc } ∷ record { number = 3; cert = calc } ∷ []) ≡ []
given_for_this_one = refl

given_for_none : line_without 1 [] ≡ []
given_for_none = refl

-- if a { } else { s := 0 by { 1: calc, 2: ring }; } by { 2: range }, from the places 0 and 17 on
abbrev branching : Block
branching =
    more 0
    (branch (var 0) done
    (more 17 (assign 1 (const 0) None []) (record { number = 1; cert = calc } ∷ record { number = 2; cert = ring } ∷ []) done)
    (record { preds = []; types = [] }))
    (record { number = 2; cert = range } ∷ []) done

given_inside : cert_of branching 17 2 ≡ Some ring
given_inside = refl

given_outside : cert_of branching 0 2 ≡ Some range
given_outside = refl

not_given : cert_of branching 0 1 ≡ None
not_given = refl

no_statement : cert_of branching 1 1 ≡ None
no_statement = refl

-- of guards around: of `if a { .. }` and of the else block of `if 1 { } else { .. }`, where nothing keeps others from writing a
guard_without_hypothesis : lines_along (plain shows_secret) 0 [] (no_locks (plain shows_secret)) (yes 7 (var 0) ∷ no 9 (const 1) ∷ [])
    ≡ codes "  not known:    a   (guard, line 1: a isn't stable there: it is under no lock, and the thread assumes nothing of it)\n"
guard_without_hypothesis = simp (decimal_digit 1 (lit< tt))

-- lock l nowrite a, s inv a: it speaks of a, and not of s
abbrev half_spoken : Lock
half_spoken = record { name = codes "l"; at = 5; nowrite = 0 ∷ 1 ∷ []; hide = []; inv = Some (var 0) }

invariant_without : line_by_lock shows_secret [] (Some half_spoken) 1 ≡ codes "  no invariant: s   (the lock l, line 1, has none that mentions it)\n"
invariant_without = simp (decimal_digit 1 (lit< tt))

-- a lock without an invariant
invariant_of_none : line_by_lock shows_secret [] (Some (record half_spoken { inv = None })) 1 ≡ codes "  no invariant: s   (the lock l, line 1, has none that mentions it)\n"
invariant_of_none = simp (decimal_digit 1 (lit< tt))

invariant_with : line_by_lock shows_secret [] (Some half_spoken) 0 ≡ []
invariant_with = refl

-- behind a number that is that of no entailment
behind_wrong_number : other_refusals shows_secret (record { rule = V13; thread = Some 0; place = 44; detail = Number 5 }) ≡ unproved_at_44 ∷ []
behind_wrong_number = refl
