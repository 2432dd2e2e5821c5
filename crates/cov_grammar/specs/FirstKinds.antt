-- The kinds of tokens that each rule begins with, and those that may go on it.
--
-- That these lists are right for the grammar is computed, in proofs/TableLaws.antt.
use Rattle.std.specs.Prelude.{List, [], ◌∷◌}
use Rattle.cov_expr.specs.declared.kind.Kind.{Kind}
use Rattle.cov_expr.specs.declared.kind.Kind.TheVariants as k
use Rattle.cov_grammar.specs.PlacedTrees.{Rule, expr, template, cert, block}

-- the kinds that a spelling of a rule may begin with
abbrev pub first_kinds : Rule → List Kind
first_kinds expr = k.Bang ∷ k.Number ∷ k.Name ∷ k.OpenParen ∷ []
first_kinds template = k.Bang ∷ k.Hole ∷ k.Number ∷ k.Name ∷ k.OpenParen ∷ []
first_kinds cert =
    k.Hyp ∷ k.Clash ∷ k.Absurd ∷ k.And ∷ k.Left ∷ k.Right ∷ k.Use ∷ k.Cases ∷ k.Split ∷ k.Have ∷ k.Not ∷ k.Contra ∷ k.Fwd ∷ k.Rev ∷ k.Axiom
    ∷ k.Auto ∷ k.Calc ∷ k.Refl ∷ k.Ring ∷ k.Range ∷ k.OpenParen ∷ []
first_kinds block = k.OpenBrace ∷ []

-- the kinds by which a spelling of a rule, which could end, may go on: the operators of an expression
abbrev pub more_of : Rule → List Kind
more_of expr = k.Star ∷ k.Plus ∷ k.Minus ∷ k.Ampersand ∷ k.Caret ∷ k.Bar ∷ k.Equal ∷ k.Differs ∷ k.Less ∷ k.AtMost ∷ k.Both ∷ k.Either ∷ []
more_of template = k.Star ∷ k.Plus ∷ k.Minus ∷ k.Ampersand ∷ k.Caret ∷ k.Bar ∷ k.Equal ∷ k.Differs ∷ k.Less ∷ k.AtMost ∷ k.Both ∷ k.Either ∷ []
more_of cert = []
more_of block = []
