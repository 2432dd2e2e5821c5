-- The expressions in a text, by the ids of their names, are of words.
use Rattle.std.proofs.Common.{ℕ, zero, suc, List, [], ◌∷◌, length, Option, Some, None}
use Rattle.std.specs.List.{All}
use Rattle.std.proofs.lemmas.List.Elements.{All-head, All-tail}
use Rattle.cov_expr.specs.Term.{Term, const, var, bin}
use Rattle.cov_expr.specs.Words.{IsWord, HasWords}
use Rattle.cov_expr.specs.declared.expr.Op.{Op}
use Rattle.cov_expr.specs.declared.expr.Op.TheVariants as ops
use Rattle.cov_expr.specs.declared.expr.TheConstants.{HOLE}
use Rattle.cov_expr.specs.declared.kind.Kind.TheVariants as k
use Rattle.cov_grammar.specs.PlacedTrees.{expr, template}
use Rattle.cov_grammar.specs.Shapes.{Shape, rule, act, Sense}
use Rattle.cov_grammar.specs.Grammar.{◌▸◌, ◌◂◌, name, number, signs, grouped, chain, negated, compared, atom, template_atom, unary, prod, sum, band, bxor, bor, cmp, both, either}
use Rattle.policy_class.specs.Resolved.{resolved_var, resolved_term}
use Rattle.text_law.proofs.WordShapes.{OfOption, Gives, any_law, act_law, seq_law, alt_law, opt_law, many_law, behind_law, closed_law, sign_law, number_law}

module _ (to_var to_lock : ℕ → ℕ) (inside : Sense) where
  -- an expression that becomes one of words
  abbrev pub IsOfWords : Term → Type 0
  IsOfWords e = HasWords (resolved_term to_var to_lock e)

  abbrev GivesWords : Shape Term → Type 0
  GivesWords a = Gives inside a IsOfWords

  abbrev IsOperandOfWords : Op × Term → Type 0
  IsOperandOfWords x = Unit {0} × IsOfWords x.1

  grouped_words : (d : Term) (xs : List (Op × Term)) → IsOfWords d → All IsOperandOfWords xs → IsOfWords (grouped d xs)
  grouped_words d [] h all = h
  grouped_words d (x ∷ xs) h all = grouped_words (bin x.0 d x.1) xs (h, (All-head IsOperandOfWords x xs all).1) (All-tail IsOperandOfWords x xs all)

  negated_words : (n : ℕ) (e : Term) → IsOfWords e → IsOfWords (negated n e)
  negated_words zero e h = h
  negated_words (suc n) e h = negated_words n e h

  compared_words : (d : Term) (x : Option (Op × Term)) → IsOfWords d → OfOption IsOperandOfWords x → IsOfWords (compared d x)
  compared_words d None h of = h
  compared_words d (Some x) h of = (h, of.1)

  chain_words : (o : Shape Op) (a : Shape Term) → GivesWords a → GivesWords (chain o a)
  chain_words o a t =
      act_law inside (λ x. grouped x.0 x.1) IsOfWords (seq_law inside t (many_law inside (seq_law inside (any_law inside) t)))
      (λ x h. grouped_words x.0 x.1 h.0 h.1)

  module _ (a : Shape Term) (t : GivesWords a) where
    unary_words : GivesWords (unary a)
    unfolding unary
    unary_words = act_law inside (λ x. negated (length x.0) x.1) IsOfWords (seq_law inside (any_law inside) t) (λ x h. negated_words (length x.0) x.1 h.1)

    prod_words : GivesWords (prod a)
    unfolding prod
    prod_words = chain_words (signs (k.Star, ops.Mul) []) (unary a) unary_words

    sum_words : GivesWords (sum a)
    unfolding sum
    sum_words = chain_words (signs (k.Plus, ops.Add) ((k.Minus, ops.Sub) ∷ [])) (prod a) prod_words

    band_words : GivesWords (band a)
    unfolding band
    band_words = chain_words (signs (k.Ampersand, ops.And) []) (sum a) sum_words

    bxor_words : GivesWords (bxor a)
    unfolding bxor
    bxor_words = chain_words (signs (k.Caret, ops.Xor) []) (band a) band_words

    bor_words : GivesWords (bor a)
    unfolding bor
    bor_words = chain_words (signs (k.Bar, ops.Or) []) (bxor a) bxor_words

    cmp_words : GivesWords (cmp a)
    unfolding cmp
    cmp_words =
        act_law inside (λ x. compared x.0 x.1) IsOfWords (seq_law inside bor_words (opt_law inside (seq_law inside (any_law inside) bor_words)))
        (λ x h. compared_words x.0 x.1 h.0 h.1)

    both_words : GivesWords (both a)
    unfolding both
    both_words = chain_words (signs (k.Both, ops.Both) []) (cmp a) cmp_words

    either_words : GivesWords (either a)
    unfolding either
    either_words = chain_words (signs (k.Either, ops.Either) []) (both a) both_words

  -- Atoms ------------------------------------------------------------------------------------------------------

  module _ (ids : (x : ℕ) → IsWord (resolved_var to_var to_lock x)) where
    number_words : GivesWords (act const number)
    number_words = act_law inside const IsOfWords (number_law inside) (λ c h. h)

    name_words : GivesWords (act var name)
    name_words = act_law inside var IsOfWords (any_law inside) (λ x h. ids x)

    bracketed_words : (a : Shape Term) → GivesWords a → GivesWords (k.OpenParen ▸ a ◂ k.CloseParen)
    bracketed_words a t = behind_law inside k.OpenParen (closed_law inside k.CloseParen t)

    atom_words : GivesWords (rule expr) → GivesWords atom
    unfolding atom
    atom_words t = alt_law inside number_words (alt_law inside name_words (bracketed_words (rule expr) t))

    template_atom_words : GivesWords (rule template) → GivesWords template_atom
    unfolding template_atom
    template_atom_words t =
        alt_law inside (sign_law inside k.Hole (var HOLE) IsOfWords (ids HOLE))
        (alt_law inside number_words (alt_law inside name_words (bracketed_words (rule template) t)))

    pub expr_words : GivesWords (rule expr) → GivesWords (either atom)
    expr_words t = either_words atom (atom_words t)

    pub template_words : GivesWords (rule template) → GivesWords (either template_atom)
    template_words t = either_words template_atom (template_atom_words t)
