use Rattle.std.proofs.Common.{◌∙◌, ℕ, List, ap, get_or, map}
use Rattle.cov_ast.specs.NameTables.{number_of}
use Rattle.cov_ast.specs.Syntax.{Var}
use Rattle.cov_ast.specs.View as view
use Rattle.annotate.proofs.NumberedLaws.{numbered_at}
use Rattle.annotate.proofs.numbers.name_numbers.Goals as goal

pub returns : goal.returns
returns c x =
    let p = view.parsed c.args.p.now in
    ap (λ (n : List ℕ × ℕ). get_or n.0 x n.1) c.new.ensures
    ∙ ap (λ ns. get_or ns x c.past.result) (c.in_ok-numbers.ensures ∙ ap (λ vs. map (λ (v : Var). number_of p.names v.name) (map view.var vs)) c.as_slice.ensures)
    ∙ numbered_at p.names p.vars c.past.result c.past.ensures x
