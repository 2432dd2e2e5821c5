-- What the code keeps of an entailment until it is tried.
use Rattle.std.specs.Prelude.{◌≡◌, ℕ, ◌&&◌, List, ◌++◌, Bool, true, false, not, map, Option, Some, None}
use Rattle.std.specs.List.{list_all}
use Rattle.cov_expr.specs.Term.{Term}
use Rattle.cov_expr.specs.Trees.{mentions}
use Rattle.cov_ast.specs.Declarations.{class_of}
use Rattle.cov_ast.specs.Plain.{Plain}
use Rattle.mode_state.specs.Sets.{is_hidden}
use Rattle.point_law.specs.Point.{Point}
use Rattle.typing_law.specs.Entailments.{Entailment, from_preds, from_one_more, is_small_entailment}
use Rattle.entail_cert.specs.declared.held.Held.{Held}
use Rattle.entail_cert.specs.HeldTerms.{held_term}
use Rattle.typing_rules.specs.declared.asked.Entailment as rust

-- from the predicates, and the one expression more that an entailment may have
abbrev pub entailment_from : List Term → Option Held → Term → Entailment
entailment_from preds None goal = from_preds preds goal
entailment_from preds (Some more) goal = from_one_more preds (held_term more) goal

abbrev pub entailment_of : List Term → rust.Entailment → Entailment
entailment_of preds c = entailment_from preds c.more (held_term c.goal)

abbrev pub entailments_of : List Term → List rust.Entailment → List Entailment
entailments_of preds entailments = map (entailment_of preds) entailments

-- The entailments are these entailments, or there are none since some entailment is too large to be built.
abbrev pub AreListed : List Term → List Entailment → Option (List rust.Entailment) → Type 0
AreListed preds gs (Some entailments) = entailments_of preds entailments ≡ gs
AreListed preds gs None = list_all is_small_entailment gs ≡ false

-- Whether entailments were added to those before: all of them were, or none since some entailment is too large to be built.
abbrev pub Added : (before after : List Entailment) → List Entailment → Bool → Type 0
Added before after gs true = after ≡ before ++ gs
Added before after gs false = list_all is_small_entailment gs ≡ false

-- whether a control decides of a variable whether it is low, and another thread may read it
abbrev pub is_shown_controlled : Plain → (t : ℕ) → Point → (x y : ℕ) → Bool
is_shown_controlled p t a x y = mentions (class_of p y) x && not (is_hidden p t a.held y)
