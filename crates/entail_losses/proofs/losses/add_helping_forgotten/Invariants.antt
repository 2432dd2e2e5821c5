use Rattle.std.proofs.Common.{◌≡◌, ◌++◌, drop, map}
use Rattle.cov_ast.specs.Plain.{plain}
use Rattle.cov_ast.specs.View as view
use Rattle.cov_expr.specs.View.{term}
use Rattle.entail_losses.specs.Forgotten.{seen}
use Rattle.entail_losses.specs.Losses.{helping_forgotten}
use Rattle.entail_losses.proofs.losses.add_helping_forgotten.Given as goal

-- the lines so far, and those of the rest, are all
abbrev pub invariant-loop-one : goal.invariant-loop-one
invariant-loop-one l =
    let p = plain (view.program l.p) in
    l.text ++ helping_forgotten p l.names l.bytes (map term l.e.known.now) (map term l.e.hyps.now) (term l.e.goal.now) (map seen (drop l.one-index l.parts))
    ≡ l.fn.text ++ helping_forgotten p l.names l.bytes (map term l.e.known.now) (map term l.e.hyps.now) (term l.e.goal.now) (map seen l.parts)
