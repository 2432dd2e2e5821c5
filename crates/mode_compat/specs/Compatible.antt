-- The rules of modes: what a thread assumes is under no lock (W6); a control of what a lock or a thread keeps is kept too
-- (W7, W8); and what one thread assumes every other guarantees (W9).
--
-- (W9 is the global compatibility of modes of Mantel, Sands and Sudbrock.)
use Rattle.std.specs.Prelude.{ℕ, ◌==◌, ◌||◌, List, [], ◌++◌, Bool, not, map, length, get_or, if◌then◌else◌}
use Rattle.std.specs.List.{flat_map, list_any, list_all, range_with_len}
use Rattle.cov_expr.specs.Trees.{has_number, vars}
use Rattle.cov_ast.specs.Syntax.{Lock, Modes, Thread, done, Program}
use Rattle.cov_ast.specs.Plain.{plain}
use Rattle.cov_ast.specs.Declarations.{name_of, class_of, lists, have_assumed, have_guaranteed, no_modes}
use Rattle.cov_ast.specs.Obligations.{Obligation, declared_obligation, distinct}
use Rattle.cov_ast.specs.declared.refusal.Rule.TheVariants.{W6, W7, W8, W9}
use Rattle.cov_ast.specs.declared.refusal.Detail.TheVariants.{One, Two, Three}

-- what a thread assumes, each variable once in each list
abbrev pub assumed_list : Modes → List ℕ
assumed_list m = distinct m.assume_nowrite ++ distinct m.assume_hide

abbrev pub no_thread : Thread
no_thread = record { name = []; at = 0; modes = no_modes; body = done; end = 0 }

module _ (p : Program) where
  abbrev pub shown : ℕ → List ℕ
  shown x = name_of (plain p) x

  -- the controls of a variable, by first occurrence
  abbrev pub controls_of : ℕ → List ℕ
  controls_of x = vars (class_of (plain p) x)

  -- whether a lock lists the variable
  abbrev pub is_locked : ℕ → Bool
  is_locked x = list_any (λ l. lists l x) p.locks

  -- whether every thread assumes the variable
  abbrev pub all_assume : ℕ → Bool
  all_assume x = list_all (λ t. have_assumed t.modes x) p.threads

  abbrev pub w6_obligation : Thread → ℕ → Obligation
  w6_obligation t x = declared_obligation W6 t.at (One (shown x)) (not (is_locked x))

  abbrev pub w6_obligations : Thread → List Obligation
  w6_obligations t = map (w6_obligation t) (assumed_list t.modes)

  abbrev pub w7_obligation : Lock → (x c : ℕ) → Obligation
  w7_obligation l x c = declared_obligation W7 l.at (Two (shown x) (shown c)) (lists l c || all_assume c)

  abbrev pub w7_obligations : Lock → List Obligation
  w7_obligations l = flat_map (λ x. map (w7_obligation l x) (controls_of x)) (l.nowrite ++ l.hide)

  abbrev pub w8_obligation : Thread → (x c : ℕ) → Obligation
  w8_obligation t x c = declared_obligation W8 t.at (Two (shown x) (shown c)) (have_assumed t.modes c)

  abbrev pub w8_obligations : Thread → List Obligation
  w8_obligations t = flat_map (λ x. map (w8_obligation t x) (controls_of x)) (assumed_list t.modes)

  abbrev pub w9_obligation : (t u : Thread) → ℕ → Bool → Obligation
  w9_obligation t u x met = declared_obligation W9 t.at (Three t.name u.name (shown x)) met

  -- what t assumes unwritten is in a guarantee list of u; what it assumes hidden u guarantees to leave alone
  abbrev pub w9_pair : (t u : Thread) → List Obligation
  w9_pair t u =
      map (λ x. w9_obligation t u x (have_guaranteed u.modes x)) (distinct t.modes.assume_nowrite)
      ++ map (λ x. w9_obligation t u x (has_number u.modes.guarantee_hide x)) (distinct t.modes.assume_hide)

  -- the numbers of the threads
  abbrev pub threads_of : List ℕ
  threads_of = range_with_len 0 (length p.threads)

  abbrev pub numbered : ℕ → Thread
  numbered t = get_or p.threads t no_thread

  abbrev pub w9_other : (t u : ℕ) → List Obligation
  w9_other t u = if t == u then [] else w9_pair (numbered t) (numbered u)

  abbrev pub w9_obligations : ℕ → List Obligation
  w9_obligations t = flat_map (w9_other t) threads_of

  abbrev pub mode_obligations : List Obligation
  mode_obligations = flat_map w6_obligations p.threads ++ flat_map w7_obligations p.locks ++ flat_map w8_obligations p.threads ++ flat_map w9_obligations threads_of
