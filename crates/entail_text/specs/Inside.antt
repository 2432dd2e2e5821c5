-- Words of private contracts: the node that the code stands at, and one of two operands.
use Rattle.std.specs.Prelude.{Option, Some, None, map}
use Rattle.cov_expr.specs.Term.{Term}
use Rattle.cov_ast.specs.View as view
use Rattle.entail_cert.specs.HeldTerms.{held_term}
use Rattle.entail_text.specs.Nodes as spec
use Rattle.entail_text.specs.declared.node.Half.{Half}
use Rattle.entail_text.specs.declared.node.Half.TheVariants.{First, Second}
use Rattle.entail_text.specs.declared.node.Node.{Node}

abbrev pub seen : Node → spec.Node
seen n = record { hyps = map held_term n.hyps; goal = held_term n.goal; cert = view.cert n.cert.now }

-- the operand that is meant
abbrev pub part : Half → Term × Term → Term
part First p = p.0
part Second p = p.1

-- the same, where there are some
abbrev pub half_of : Half → Option (Term × Term) → Option Term
half_of half None = None
half_of half (Some p) = Some (part half p)
