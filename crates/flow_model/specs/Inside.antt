-- Which variables are controls, and which are hidden, as marks that are set one declaration after another.
use Rattle.std.specs.Prelude.{ℕ, ◌&&◌, ◌||◌, List, [], ◌∷◌, Bool, not, is_some, if◌then◌else◌}
use Rattle.cov_expr.specs.Trees.{occurrences}
use Rattle.cov_ast.specs.Syntax.{Var, Lock}
use Rattle.cov_ast.specs.Plain.{Plain, PlainThread, class_term}
use Rattle.cov_ast.specs.Tables.{has, with_all}
use Rattle.flow_model.specs.FirstDifference.{is_low_in, same_word}
use Rattle.flow_model.specs.Source.{Holders}

-- with the controls of variables
abbrev pub with_controls : List Bool → List Var → List Bool
with_controls marks [] = marks
with_controls marks (v ∷ vs) = with_controls (with_all marks (occurrences (class_term v.class))) vs

-- with what locks that are held hide
abbrev pub with_held : List Bool → Holders → List Lock → List Bool
with_held marks (h ∷ hs) (l ∷ ls) = with_held (if is_some h then with_all marks l.hide else marks) hs ls
with_held marks _ _ = marks

-- with what threads assume hidden
abbrev pub with_assumed : List Bool → List PlainThread → List Bool
with_assumed marks [] = marks
with_assumed marks (t ∷ ts) = with_assumed (with_all marks t.modes.assume_hide) ts

-- whether the words of a variable differ that is marked as a control, or is low and not marked as hidden
abbrev pub is_marked_apart : Plain → (m1 m2 : List ℕ) → (controls hidden : List Bool) → ℕ → Bool
is_marked_apart p m1 m2 controls hidden x = not (same_word m1 m2 x) && (has controls x || (is_low_in p m1 x && not (has hidden x)))
