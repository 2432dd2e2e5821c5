-- Laws of the expression among the words: how it is read, and over which variables it is.
use Rattle.std.proofs.Common.{◌≡◌, ℕ, ◌+◌, ◌<◌, ◌≤◌, ◌==◌, nat_lt, List, [], ◌∷◌, ◌++◌, Bool, true, false, cond, drop, get_or, length, map, Option, Some, None, Result, Ok, Err, refl, sym, ap, ◌∙◌, subst, inl, inr, arith}
use Rattle.std.specs.Prelude.{codes, MatchResult}
use Rattle.std.proofs.lemmas.List.{at_drop_more}
use Rattle.std.proofs.lemmas.Bool.Decides.{nat_tests}
use Rattle.cov_ast.specs.Ready.{Use, use_of, uses_in, as_variable}
use Rattle.cov_ast.specs.Syntax.{Parsed}
use Rattle.cov_ast.specs.View as view
use Rattle.cov_ast.specs.declared.decl.VarDecl.{VarDecl}
use Rattle.cov_ast.specs.declared.parsed.NameUse.{NameUse}
use Rattle.cov_expr.specs.Term.{Term, const, var, neg, bin}
use Rattle.cov_expr.specs.View.{term}
use Rattle.cov_expr.specs.Words.{HasVarsBelow}
use Rattle.cov_expr.specs.declared.expr.Expr.{Expr}
use Rattle.cov_expr.specs.declared.expr.TheConstants.{HOLE}
use Rattle.cov_grammar.specs.Grammar as grammar
use Rattle.cov_grammar.specs.PlacedTrees.{Placed}
use Rattle.cov_grammar.proofs.Exactness.{whole_decided}
use Rattle.cov_text.specs.Limits.{in_expr}
use Rattle.cov_text.specs.Text.{expression_of}
use Rattle.cov_text.specs.Uses.{AreUsesOf}
use Rattle.policy_class.specs.Resolved.{var_names}
use Rattle.replay_inputs.specs.Expressions.{id_of, first_unknown, by_id, SpellsExpression, unknown_in, over, IsExpression, IsUnknownName, IsExpressionFault}
use Rattle.call_reports.specs.AnswerViews.{Stops}
use Rattle.replay_inputs.specs.Inside.{ResolvesTo, variables}
use Rattle.call_reports.specs.Replies.{malformed}
use Rattle.call_reports.specs.declared.answers.Fault.{Fault}
use Rattle.call_reports.specs.declared.answers.Fault.TheVariants as shows
use Rattle.call_reports.specs.declared.answers.FaultKind.TheVariants as kinds
use Rattle.call_reports.specs.declared.answers.Stop.{Stop}
use Rattle.call_reports.proofs.AnswerLaws.{stops_onward}
use Rattle.call_inputs.proofs.ReadingLaws.{IsReading}
use Rattle.call_inputs.proofs.TextLaws.{one_tree, one_shown, tree_or_shown, some_one, not_some}

-- Readings -----------------------------------------------------------------------------------------------------

same_tree : (bytes : List ℕ) (s t : Placed Term) → SpellsExpression bytes s → SpellsExpression bytes t → s ≡ t
same_tree = one_tree grammar.whole in_expr whole_decided

module _ (p : Parsed) where
  one_expression : (bytes : List ℕ) (d e : Term) → IsExpression p bytes d → IsExpression p bytes e → d ≡ e
  one_expression bytes d e h k =
      h.is ∙ ap (λ t. over p (expression_of bytes t)) (same_tree bytes h.tree k.tree h.spelled k.spelled) ∙ sym k.is

  same_unknown : (bytes : List ℕ) (f g : Fault) → IsUnknownName p bytes f → IsUnknownName p bytes g → f ≡ g
  same_unknown bytes f g h k =
      let tree = same_tree bytes h.tree k.tree h.spelled k.spelled in
      h.is ∙ ap (shows.Text kinds.Unknown) (some_one (unknown_in p (expression_of bytes k.tree)) h.at k.at
      (ap (λ t. unknown_in p (expression_of bytes t)) (sym tree) ∙ h.first) k.first) ∙ sym k.is

  one_expression_fault : (bytes : List ℕ) (f g : Fault) → IsExpressionFault p bytes f → IsExpressionFault p bytes g → f ≡ g
  one_expression_fault bytes f g (inl h) (inl k) = one_shown grammar.whole in_expr whole_decided bytes f g h k
  one_expression_fault bytes f g (inl h) (inr k) = absurd (tree_or_shown grammar.whole in_expr whole_decided bytes k.tree f k.spelled h)
  one_expression_fault bytes f g (inr h) (inl k) = absurd (tree_or_shown grammar.whole in_expr whole_decided bytes h.tree g h.spelled k)
  one_expression_fault bytes f g (inr h) (inr k) = same_unknown bytes f g h k

  expression_or_fault : (bytes : List ℕ) (e : Term) (f : Fault) → IsExpression p bytes e → IsExpressionFault p bytes f → ⊥
  expression_or_fault bytes e f h (inl k) = tree_or_shown grammar.whole in_expr whole_decided bytes h.tree f h.spelled k
  expression_or_fault bytes e f h (inr k) =
      not_some (unknown_in p (expression_of bytes k.tree)) k.at
      (ap (λ t. unknown_in p (expression_of bytes t)) (same_tree bytes k.tree h.tree k.spelled h.spelled) ∙ h.known) k.first

  pub expression_reading : IsReading (IsExpression p) (IsExpressionFault p)
  expression_reading = record { one_value = one_expression; one_fault = one_expression_fault; not_both = expression_or_fault }

-- What is answered ---------------------------------------------------------------------------------------------

pub same_variables : (vars : List VarDecl) → map (λ v. v.name) (map view.var vars) ≡ variables vars
same_variables [] = refl
same_variables (v ∷ vs) = ap (◌∷◌ v.name) (same_variables vs)

-- an answer to a word that spells an expression
abbrev pub Answered : Parsed → List ℕ → Result Expr Stop → Type 0
Answered p bytes r =
    MatchResult r (λ e. IsExpression p bytes (term e))
    (Stops (λ reply. (fault : Fault) × IsExpressionFault p bytes fault × (reply ≡ malformed (codes "expression") fault)))

pub resolved_answered : (p : Parsed) (bytes : List ℕ) (tree : Placed Term) (r : Result Expr Stop) → SpellsExpression bytes tree
    → ResolvesTo (var_names p) (expression_of bytes tree) r → Answered p bytes r
resolved_answered p bytes tree (Ok e) spells h = record { tree = tree; spelled = spells; known = h.0; is = h.1 }
resolved_answered p bytes tree (Err stop) spells h =
    stops_onward (λ reply. (at : ℕ) × (unknown_in p (expression_of bytes tree) ≡ Some at) × (reply ≡ malformed (codes "expression") (shows.Text kinds.Unknown at)))
    (λ reply. (fault : Fault) × IsExpressionFault p bytes fault × (reply ≡ malformed (codes "expression") fault)) stop
    (λ reply unknown. (shows.Text kinds.Unknown unknown.0, inr (record { tree = tree; spelled = spells; at = unknown.0; first = unknown.1; is = refl }), unknown.2)) h

-- Variables ----------------------------------------------------------------------------------------------------

module _ (declared names : List (List ℕ)) where
  -- past the name of a variable the first that is none is the same
  pub unknown_more : (us : List NameUse) (n : ℕ) (d : NameUse) (whole : Option ℕ) (known : Bool) → n < length us
      → known ≡ nat_lt (id_of declared names (get_or us n d).name) (length declared) → known ≡ true
      → first_unknown declared names (drop n us) ≡ whole → first_unknown declared names (drop (n + 1) us) ≡ whole
  unknown_more us n d whole known inside is there h =
      ap (λ b. cond b (first_unknown declared names (drop (n + 1) us)) (Some (get_or us n d).at)) (sym there ∙ is)
      ∙ sym (at_drop_more (first_unknown declared names) us n d inside) ∙ h

  -- Each use is that of a variable.
  abbrev AreKnown : List Use → Type 0
  AreKnown [] = Unit {0}
  AreKnown (u ∷ us) = (id_of declared names u.name < length declared) × AreKnown us

  known_front : (us vs : List Use) → AreKnown (us ++ vs) → AreKnown us
  known_front [] vs h = tt
  known_front (u ∷ us) vs h = (h.0, known_front us vs h.1)

  known_rest : (us vs : List Use) → AreKnown (us ++ vs) → AreKnown vs
  known_rest [] vs h = h
  known_rest (u ∷ us) vs h = known_rest us vs h.1

  all_known : (us : List NameUse) → first_unknown declared names us ≡ None → AreKnown (map use_of us)
  all_known [] h = tt
  all_known (u ∷ us) h = go (all_known us) (nat_lt (id_of declared names u.name) (length declared)) refl h
    where
      go : (first_unknown declared names us ≡ None → AreKnown (map use_of us)) → (b : Bool) → nat_lt (id_of declared names u.name) (length declared) ≡ b
          → cond b (first_unknown declared names us) (Some u.at) ≡ None → AreKnown (map use_of (u ∷ us))
      go rest true is h = (grind (arith, nat_tests), rest h)
      go rest false is h = cc

  resolved_below : (e : Term) → length names ≤ HOLE → HasVarsBelow e (length names) → AreKnown (uses_in e) → HasVarsBelow (by_id declared names e) (length declared)
  resolved_below (const c) few below h = tt
  resolved_below (var x) few below h = go (x == HOLE) refl h
    where
      go : (b : Bool) → (x == HOLE) ≡ b → AreKnown (cond b [] (as_variable x)) → id_of declared names x < length declared
      go true is h = absurd (grind (arith, nat_tests))
      go false is h = h.0
  resolved_below (neg e) few below h = resolved_below e few below h
  resolved_below (bin op a b) few below h =
      (resolved_below a few below.0 (known_front (uses_in a) (uses_in b) h), resolved_below b few below.1 (known_rest (uses_in a) (uses_in b) h))

  pub known_below : (uses : List NameUse) (e : Term) → length names ≤ HOLE → HasVarsBelow e (length names) → AreUsesOf uses e
      → first_unknown declared names uses ≡ None → HasVarsBelow (by_id declared names e) (length declared)
  known_below uses e few below in_order none = resolved_below e few below (subst AreKnown in_order (all_known uses none))
