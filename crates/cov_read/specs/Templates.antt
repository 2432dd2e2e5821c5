-- Which rule of the grammar an expression is read by.
use Rattle.std.specs.Prelude.{Bool, true, false}
use Rattle.cov_expr.specs.Term.{Term}
use Rattle.cov_grammar.specs.PlacedTrees.{expr, template}
use Rattle.cov_grammar.specs.Shapes.{Shape, rule}

-- expressions, or templates, in which holes may stand
abbrev pub rule_for : (holes : Bool) → Shape Term
rule_for true = rule template
rule_for false = rule expr
