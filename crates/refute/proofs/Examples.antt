-- Worked trials, by computation.
use Rattle.std.proofs.Common.{◌≡◌, ℕ, List, [], ◌∷◌, length, take, true, Some, None, refl}
use Rattle.std.specs.Prelude.{codes}
use Rattle.cov_expr.specs.Term.{const, var}
use Rattle.cov_ast.specs.Declarations.{no_modes}
use Rattle.cov_ast.specs.Plain.{Cmds, Plain, PlainThread, assign, none, next}
use Rattle.cov_ast.specs.Syntax.{Lock, high, low}
use Rattle.flow_model.specs.FirstDifference.{first_difference}
use Rattle.flow_model.specs.Source.{Run, after}
use Rattle.flow_model.specs.declared.agreement.Differ.TheVariants as differ
use Rattle.refute.specs.Trials.{first_memory, fit_among, is_fit, schedule, second_memory, trial_steps}

-- var a: low; var s: high; thread t { .. }
abbrev program : List Lock → List PlainThread → Plain
program locks threads = record {
  vars = record { name = codes "a"; at = 4; class = low } ∷ record { name = codes "s"; at = 16; class = high } ∷ [];
  locks = locks;
  threads = threads;
}

abbrev thread : Cmds → PlainThread
thread body = record { name = codes "t"; modes = no_modes; body = body }

-- A secret that is copied to where it is seen: a := s; -----------------------------------------------------------

abbrev leak : Plain
leak = program [] (thread (next 36 (assign 0 (var 1)) none) ∷ [])

first_words : first_memory leak 1 ≡ 1 ∷ 1 ∷ []
first_words = refl

second_words : second_memory leak 1 ≡ 1 ∷ 2 ∷ []
second_words = refl

is_fit_to_start : is_fit leak 1 ≡ true
is_fit_to_start = refl

only_thread : take 2 (schedule leak 1) ≡ 0 ∷ 0 ∷ []
unfolding trial_steps
only_thread = refl

whole_schedule : length (schedule leak 1) ≡ 200
unfolding trial_steps
whole_schedule = refl

-- the two runs after so many steps, and on what their memories differ then
abbrev left : ℕ → Run
left k = after leak (first_memory leak 1) (take k (schedule leak 1))

abbrev right : ℕ → Run
right k = after leak (second_memory leak 1) (take k (schedule leak 1))

agrees_after_one : first_difference leak (left 1).memory (left 1).holders (right 1).memory (right 1).holders ≡ None
unfolding trial_steps
agrees_after_one = refl

differs_after_two : first_difference leak (left 2).memory (left 2).holders (right 2).memory (right 2).holders ≡ Some (differ.Var 0)
unfolding trial_steps
differs_after_two = refl

-- What is seen is copied to the secret: s := a; ------------------------------------------------------------------

abbrev sound : Plain
sound = program [] (thread (next 36 (assign 1 (var 0)) none) ∷ [])

all_are_fit : fit_among sound 100 ≡ 100
all_are_fit = refl

-- Two threads, and none ----------------------------------------------------------------------------------------

two_threads : take 12 (schedule (program [] (thread none ∷ thread none ∷ [])) 1) ≡ 0 ∷ 0 ∷ 1 ∷ 1 ∷ 0 ∷ 0 ∷ 0 ∷ 1 ∷ 1 ∷ 1 ∷ 0 ∷ 0 ∷ []
unfolding trial_steps
two_threads = refl

no_turns : schedule (program [] []) 1 ≡ []
no_turns = refl

-- A lock whose invariant no memory meets: there is no fit trial ----------------------------------------------------

abbrev closed : Plain
closed = program (record { name = codes "l"; at = 30; nowrite = 0 ∷ []; hide = []; inv = Some (const 0) } ∷ []) []

none_is_fit : fit_among closed 100 ≡ 0
none_is_fit = refl
