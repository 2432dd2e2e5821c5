-- Summaries of expressions.
use Rattle.std.proofs.Common.{◌≡◌, ℕ, ◌≤◌, ◌<◌, List, [], ◌∷◌, length, Bool, if◌then◌else◌, Option, Some, None, refl, sym, ap, ◌∙◌, arith, append_assoc, append-nil, inl, inr}
use Rattle.std.proofs.lemmas.Bool.{ne_eqb}
use Rattle.cov_expr.specs.Term.{Term, const, var, neg, bin}
use Rattle.cov_expr.specs.Trees.{nodes}
use Rattle.cov_expr.specs.Words.{HasVarsBelow}
use Rattle.cov_expr.specs.declared.expr.Op.{Op}
use Rattle.cov_expr.specs.declared.expr.Op.TheVariants as ops
use Rattle.cov_expr.specs.declared.expr.TheConstants.{HOLE}
use Rattle.cov_expr.specs.declared.kind.Kind.{Kind}
use Rattle.cov_expr.specs.declared.kind.Kind.TheVariants as k
use Rattle.cov_grammar.specs.declared.token.Token.{Token}
use Rattle.cov_grammar.specs.LookAhead.{kind_is}
use Rattle.cov_grammar.specs.PlacedTrees.{expr, template}
use Rattle.cov_grammar.specs.Shapes.{Shape, rule, act, Sense}
use Rattle.cov_grammar.specs.Grammar.{◌▸◌, ◌◂◌, sign, signs, number, name, grouped, chain, negated, compared, atom, template_atom, unary, prod, sum, band, bxor, bor, cmp, both, either}
use Rattle.cov_ast.specs.Ready.{as_variable, uses_in}
use Rattle.cov_ast.specs.WellFormed.{IsTemplateBelow}
use Rattle.cov_text.proofs.UseLaws.{IsSilent, IsPlain}
use Rattle.cov_text.proofs.Summaries.{Summary, nothing, join, more, Kept}
use Rattle.cov_text.proofs.ShapeSummaries.{all, of_option, IsSummary, kept_law, act_law, seq_law, alt_law, opt_law, many_law, behind_law, closed_law, token_law, sign_law, name_law}

abbrev pub of_term : (Term → Type 0) → Term → Summary
of_term P e = record { uses = uses_in e; size = nodes e; places = []; ids = P e }

-- a variable that is no hole is used
pub used : (n x : ℕ) → n ≤ HOLE → x < n → uses_in (var x) ≡ as_variable x
used n x few h = ap (λ b. if b then [] else as_variable x) (ne_eqb x HOLE (λ e. let no : ⊥ = omega arith in no))

-- The levels of expressions over atoms, where a fact of ids goes by the parts of a tree.
module _ (b : Bool) (n : ℕ) (inside : Sense) (P : Term → Type 0) (P_neg : (e : Term) → P e → P (neg e)) (P_bin : (o : Op) (d e : Term) → P d → P e → P (bin o d e)) where
  abbrev summary : Term → Summary
  summary e = of_term P e

  abbrev IsPlainSummary : Shape Term → Type 0
  IsPlainSummary a = IsSummary b n inside IsSilent a summary

  abbrev of_operand : Op × Term → Summary
  of_operand x = join (more nothing) (summary x.1)

  kept_grouped : (d : Term) (xs : List (Op × Term)) → P d → (all of_operand xs).ids → Kept (join (summary d) (all of_operand xs)) (summary (grouped d xs))
  kept_grouped d [] p ids = record { uses = append-nil (uses_in d); size = omega arith; places = refl; ids = p }
  kept_grouped d (x ∷ xs) p ids =
      let rest = kept_grouped (bin x.0 d x.1) xs (P_bin x.0 d x.1 p ids.0.1) ids.1 in
      record {
        uses = sym (append_assoc (uses_in d) (uses_in x.1) (all of_operand xs).uses) ∙ rest.uses;
        size = omega (arith, rest.size);
        places = rest.places;
        ids = rest.ids;
      }

  kept_negated : (ts : List Token) (e : Term) → P e → Kept (join (all (λ t. more nothing) ts) (summary e)) (summary (negated (length ts) e))
  kept_negated [] e p = record { uses = refl; size = omega arith; places = refl; ids = p }
  kept_negated (t ∷ ts) e p =
      let rest = kept_negated ts e p in
      record { uses = rest.uses; size = omega (arith, rest.size); places = rest.places; ids = P_neg (negated (length ts) e) rest.ids }

  chain_summary : (o : Shape Op) (a : Shape Term) → IsSummary b n inside IsSilent o (λ op. more nothing) → IsPlainSummary a → IsPlainSummary (chain o a)
  chain_summary o a s t =
      act_law b n inside (λ x. grouped x.0 x.1) summary (seq_law b n inside t (many_law b n inside (seq_law b n inside s t)))
      (λ x ids. kept_grouped x.0 x.1 ids.0 ids.1)

  one_sign : (j : Kind) (o : Op) → IsPlain j → IsSummary b n inside IsSilent (sign j o) (λ op. more nothing)
  one_sign j o p = sign_law b n inside j p o (λ op. more nothing) (record { uses = refl; size = omega arith; places = refl; ids = tt })

  module _ (a : Shape Term) (t : IsPlainSummary a) where
    unary_summary : IsPlainSummary (unary a)
    unfolding unary kind_is
    unary_summary = act_law b n inside (λ x. negated (length x.0) x.1) summary (seq_law b n inside (many_law b n inside (token_law b n inside k.Bang refl)) t) (λ x ids. kept_negated x.0 x.1 ids.1)

    prod_summary : IsPlainSummary (prod a)
    unfolding prod kind_is
    prod_summary = chain_summary (signs (k.Star, ops.Mul) []) (unary a) (one_sign k.Star ops.Mul refl) unary_summary

    sum_summary : IsPlainSummary (sum a)
    unfolding sum kind_is
    sum_summary = chain_summary (signs (k.Plus, ops.Add) ((k.Minus, ops.Sub) ∷ [])) (prod a) (alt_law b n inside (one_sign k.Plus ops.Add refl) (one_sign k.Minus ops.Sub refl)) prod_summary

    band_summary : IsPlainSummary (band a)
    unfolding band kind_is
    band_summary = chain_summary (signs (k.Ampersand, ops.And) []) (sum a) (one_sign k.Ampersand ops.And refl) sum_summary

    bxor_summary : IsPlainSummary (bxor a)
    unfolding bxor kind_is
    bxor_summary = chain_summary (signs (k.Caret, ops.Xor) []) (band a) (one_sign k.Caret ops.Xor refl) band_summary

    bor_summary : IsPlainSummary (bor a)
    unfolding bor kind_is
    bor_summary = chain_summary (signs (k.Bar, ops.Or) []) (bxor a) (one_sign k.Bar ops.Or refl) bxor_summary

    kept_compared : (d : Term) (x : Option (Op × Term)) → P d → (of_option of_operand x).ids → Kept (join (summary d) (of_option of_operand x)) (summary (compared d x))
    kept_compared d None p ids = record { uses = append-nil (uses_in d); size = omega arith; places = refl; ids = p }
    kept_compared d (Some x) p ids = record { uses = refl; size = omega arith; places = refl; ids = P_bin x.0 d x.1 p ids.1 }

    comparing : IsSummary b n inside IsSilent (signs (k.Equal, ops.Eq) ((k.Differs, ops.Ne) ∷ (k.Less, ops.Lt) ∷ (k.AtMost, ops.Le) ∷ [])) (λ op. more nothing)
    unfolding kind_is
    comparing =
        alt_law b n inside (one_sign k.Equal ops.Eq refl) (alt_law b n inside (one_sign k.Differs ops.Ne refl) (alt_law b n inside (one_sign k.Less ops.Lt refl) (one_sign k.AtMost ops.Le refl)))

    cmp_summary : IsPlainSummary (cmp a)
    unfolding cmp
    cmp_summary = act_law b n inside (λ x. compared x.0 x.1) summary (seq_law b n inside bor_summary (opt_law b n inside (seq_law b n inside comparing bor_summary))) (λ x ids. kept_compared x.0 x.1 ids.0 ids.1)

    both_summary : IsPlainSummary (both a)
    unfolding both kind_is
    both_summary = chain_summary (signs (k.Both, ops.Both) []) (cmp a) (one_sign k.Both ops.Both refl) cmp_summary

    pub either_summary : IsPlainSummary (either a)
    unfolding either kind_is
    either_summary = chain_summary (signs (k.Either, ops.Either) []) (both a) (one_sign k.Either ops.Either refl) both_summary

  -- atoms
  module _ (few : n ≤ HOLE) (P_const : (c : ℕ) → P (const c)) (P_var : (x : ℕ) → x < n → P (var x)) where
    number_summary : IsPlainSummary (act const number)
    unfolding kind_is
    number_summary = act_law b n inside const summary (act_law b n inside (λ x. x.value) (λ c. more nothing) (token_law b n inside k.Number refl) (λ x ids. record { uses = refl; size = omega arith; places = refl; ids = tt })) (λ c ids. record { uses = refl; size = omega arith; places = refl; ids = P_const c })

    name_summary : IsPlainSummary (act var name)
    name_summary = act_law b n inside var summary (name_law b n inside) (λ x ids. record { uses = sym (used n x few ids); size = omega arith; places = refl; ids = P_var x ids })

    bracketed_summary : (a : Shape Term) → IsPlainSummary a → IsPlainSummary (k.OpenParen ▸ a ◂ k.CloseParen)
    unfolding kind_is
    bracketed_summary a t = kept_law b n inside summary (behind_law b n inside k.OpenParen refl (closed_law b n inside k.CloseParen refl t)) (λ e ids. record { uses = refl; size = omega arith; places = refl; ids = ids })

    pub atom_summary : IsPlainSummary (rule expr) → IsPlainSummary atom
    unfolding atom
    atom_summary t = alt_law b n inside number_summary (alt_law b n inside name_summary (bracketed_summary (rule expr) t))

    pub template_atom_summary : P (var HOLE) → IsPlainSummary (rule template) → IsPlainSummary template_atom
    unfolding template_atom kind_is
    template_atom_summary p t =
        alt_law b n inside (sign_law b n inside k.Hole refl (var HOLE) summary (record { uses = refl; size = omega arith; places = refl; ids = p }))
        (alt_law b n inside number_summary (alt_law b n inside name_summary (bracketed_summary (rule template) t)))

-- Expressions and templates ------------------------------------------------------------------------------------

abbrev pub of_expr : ℕ → Term → Summary
of_expr n e = of_term (λ d. HasVarsBelow d n) e

abbrev pub of_template : ℕ → Term → Summary
of_template n e = of_term (λ d. IsTemplateBelow d n) e

module _ (b : Bool) (n : ℕ) (inside : Sense) (few : n ≤ HOLE) where
  pub expr_summary : IsSummary b n inside IsSilent (rule expr) (of_expr n) → IsSummary b n inside IsSilent (either atom) (of_expr n)
  expr_summary t =
      either_summary b n inside (λ d. HasVarsBelow d n) (λ e p. p) (λ o d e p q. (p, q)) atom
      (atom_summary b n inside (λ d. HasVarsBelow d n) (λ e p. p) (λ o d e p q. (p, q)) few (λ c. tt) (λ x h. h) t)

  pub template_summary : IsSummary b n inside IsSilent (rule template) (of_template n) → IsSummary b n inside IsSilent (either template_atom) (of_template n)
  template_summary t =
      either_summary b n inside (λ d. IsTemplateBelow d n) (λ e p. p) (λ o d e p q. (p, q)) template_atom
      (template_atom_summary b n inside (λ d. IsTemplateBelow d n) (λ e p. p) (λ o d e p q. (p, q)) few (λ c. tt) (λ x h. inl h) (inr refl) t)
