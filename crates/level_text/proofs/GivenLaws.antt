-- The classes that a text gives, by a list of ids, are those that it gives by names.
use Rattle.std.proofs.Common.{◌≡◌, ℕ, ◌<◌, ◌==◌, List, [], ◌∷◌, length, map, get_or, if◌then◌else◌, Option, Some, None, refl, ap, ap₂, ◌∙◌, All}
use Rattle.std.specs.List.{position_or_len}
use Rattle.std.specs.Str.{bytes_eq}
use Rattle.std.proofs.lemmas.List.{get_or-map}
use Rattle.std.proofs.lemmas.List.Elements.{All-head, All-tail}
use Rattle.cov_expr.specs.Term.{Term, const, var, neg, bin}
use Rattle.cov_expr.specs.Words.{HasVarsBelow}
use Rattle.cov_expr.specs.declared.expr.TheConstants.{HOLE}
use Rattle.cov_ast.specs.Syntax.{Parsed}
use Rattle.cov_grammar.specs.PlacedTrees.{Placed, Named}
use Rattle.policy_class.specs.Resolved.{var_names, resolved_term}
use Rattle.level_text.specs.Lattice.{either_level}
use Rattle.level_text.specs.TextTrees.{Listing, LevelText}
use Rattle.level_text.specs.TextFaults.{declared_levels, variable_id, class_given, level_id}
use Rattle.level_text.specs.Inside.NamedBelow.{IsListingBelow, IsChoiceBelow}
use Rattle.level_text.specs.Inside.GivenBy.{class_by, listing_by}

module _ (names : List (List ℕ)) (p : Parsed) (ids : List ℕ) (count : ℕ) (made : ids ≡ map (λ name. position_or_len (bytes_eq name) (var_names p)) names) where
  id_same : (n : ℕ) → n < length names → get_or ids n count ≡ variable_id names p n
  id_same n h = ap (λ xs. get_or xs n count) made ∙ get_or-map (λ name. position_or_len (bytes_eq name) (var_names p)) names n [] count h

  term_same : (e : Term) → HasVarsBelow e (length names) → resolved_term (λ n. get_or ids n count) (λ n. get_or ids n count) e ≡ resolved_term (variable_id names p) (variable_id names p) e
  term_same (const c) h = refl
  term_same (var x) h = ap (λ k. var (if x == HOLE then x else k)) (id_same x h)
  term_same (neg e) h = ap neg (term_same e h)
  term_same (bin op a b) h = ap₂ (bin op) (term_same a h.0) (term_same b h.1)

  module _ (t : LevelText) where
    class_same : (level : Named) (choice : Option (Placed Term × Named)) → IsChoiceBelow (length names) choice → class_by ids count (declared_levels t) level choice ≡ class_given names p t level choice
    class_same level None h = refl
    class_same level (Some x) h = ap (λ e. either_level e (level_id t level.0) (level_id t x.1.0)) (term_same x.0.1 h)

    pub classes_same : (cs : List Listing) → All (IsListingBelow (length names)) cs
        → map (listing_by ids count (declared_levels t)) cs ≡ map (λ c. (variable_id names p c.var.0, class_given names p t c.level c.choice)) cs
    classes_same [] all = refl
    classes_same (c ∷ cs) all =
        let h = All-head (IsListingBelow (length names)) c cs all in
        λ i. (id_same c.var.0 h.0 i, class_same c.level c.choice h.1 i) ∷ classes_same cs (All-tail (IsListingBelow (length names)) c cs all) i
