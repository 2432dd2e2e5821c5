-- Statements in front of a block.
use Rattle.std.proofs.Common.{◌≡◌, List, [], ◌∷◌, ◌++◌, refl, ap}
use Rattle.cov_ast.specs.Syntax.{Block, done, more}
use Rattle.cov_ast.specs.View.{Placed, block_of, onto}

pub onto_done : (ps : List Placed) → onto ps done ≡ block_of ps
onto_done [] = refl
onto_done (p ∷ ps) = ap (more p.at p.stm p.proofs) (onto_done ps)

pub onto_append : (ps qs : List Placed) (b : Block) → onto (ps ++ qs) b ≡ onto ps (onto qs b)
onto_append [] qs b = refl
onto_append (p ∷ ps) qs b = ap (more p.at p.stm p.proofs) (onto_append ps qs b)
