-- Statements without where their parts lie.
use Rattle.std.specs.Prelude.{List, map, Option, option_map}
use Rattle.cov_expr.specs.Term.{Term}
use Rattle.cov_read.specs.declared.cert.Whole.{Whole}
use Rattle.cov_read.specs.declared.state.Typed.{Typed}
use Rattle.cov_read.specs.declared.state.PlacedProof.{PlacedProof}
use Rattle.cov_read.specs.declared.stmt.Braces.{Braces}
use Rattle.cov_read.specs.declared.stmt.PlacedStmt.{PlacedStmt, PlacedStmt-F, fold-PlacedStmt}
use Rattle.cov_read.specs.declared.stmt.PlacedStmtKind.{PlacedStmtKind, PlacedStmtKind-F, fold-PlacedStmtKind}
use Rattle.cov_read.specs.CertViews.{whole}
use Rattle.cov_read.specs.StateViews.{typed, state, proof}
use Rattle.cov_grammar.specs.PlacedTrees.{Placed, Proofs, Retypes}
use Rattle.cov_grammar.specs.PlacedTrees as t

abbrev pub block_of : Braces → List (Placed t.Stm) → t.Block
block_of b ss = t.block b.begin b.end (t.stms ss)

abbrev pub kind_of : PlacedStmtKind-F t.Stm (Placed t.Stm) → t.Stm
kind_of PlacedStmtKind-F.Skip = t.skip
kind_of (PlacedStmtKind-F.Assign x e q rs ps) = t.assign x (whole e) (option_map whole q) (map typed rs) (map proof ps)
kind_of (PlacedStmtKind-F.Lock l) = t.lock l
kind_of (PlacedStmtKind-F.Unlock l ps) = t.unlock l (map proof ps)
kind_of (PlacedStmtKind-F.If e b ss c us s ps) = t.branch (whole e) (block_of b ss) (block_of c us) (option_map (λ j. state j.value) s) (map proof ps)
kind_of (PlacedStmtKind-F.While e s b ss ps) = t.loop (whole e) (option_map (λ j. state j.value) s) (block_of b ss) (map proof ps)
kind_of (PlacedStmtKind-F.Note s ps) = t.note (state s) (map proof ps)
kind_of (PlacedStmtKind-F.Output e ps) = t.output (whole e) (map proof ps)

abbrev pub stm_of : PlacedStmt-F t.Stm (Placed t.Stm) → Placed t.Stm
stm_of s = (s.at, s.kind)

abbrev pub stmt : PlacedStmt → Placed t.Stm
stmt = fold-PlacedStmt t.Stm (Placed t.Stm) kind_of stm_of

abbrev pub kind : PlacedStmtKind → t.Stm
kind = fold-PlacedStmtKind t.Stm (Placed t.Stm) kind_of stm_of

abbrev pub block : Braces × List PlacedStmt → t.Block
block x = block_of x.0 (map stmt x.1)

abbrev pub assigned : Whole × Option Whole × List Typed × List PlacedProof → Placed Term × (Option (Placed Term) × (Retypes × Proofs))
assigned x = (whole x.0, (option_map whole x.1, (map typed x.2, map proof x.3)))
