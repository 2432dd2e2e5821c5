-- What the parts of longer rules stand for, without where their lists lie.
use Rattle.std.specs.Prelude.{ℕ, List, map, Box, Option, option_map}
use Rattle.cov_grammar.specs.PlacedTrees.{Placed, Named, Proofs, Retypes, State, Block}
use Rattle.cov_expr.specs.Term.{Term}
use Rattle.cov_read.specs.declared.decl.Pair.{Pair}
use Rattle.cov_read.specs.declared.decl.PlacedLock.{PlacedLock}
use Rattle.cov_read.specs.declared.state.Typed.{Typed}
use Rattle.cov_read.specs.declared.state.PlacedProof.{PlacedProof}
use Rattle.cov_read.specs.declared.state.PlacedState.{PlacedState}
use Rattle.cov_read.specs.declared.stmt.Braces.{Braces}
use Rattle.cov_read.specs.declared.stmt.PlacedStmt.{PlacedStmt}
use Rattle.cov_read.specs.CertViews.{whole}
use Rattle.cov_read.specs.DeclViews.{number, pair}
use Rattle.cov_read.specs.StateViews.{typed, state, proof}
use Rattle.cov_read.specs.StmtViews.{block}

abbrev pub retyped : List Typed × List PlacedProof → Retypes × Proofs
retyped x = (map typed x.0, map proof x.1)

abbrev pub joined : {Z : Type 0} → Option (Box PlacedState Z) × List PlacedProof → Option State × Proofs
joined x = (option_map (λ j. state j.value) x.0, map proof x.1)

abbrev pub otherwise : {Z : Type 0} → (Braces × List PlacedStmt) × Option (Box PlacedState Z) × List PlacedProof → Block × (Option State × Proofs)
otherwise x = (block x.0, (option_map (λ j. state j.value) x.1, map proof x.2))

abbrev pub lock_parts : PlacedLock → Named × (List ℕ × (List ℕ × Option (Placed Term)))
lock_parts l = ((l.name, l.at), (map number l.nowrite, (map number l.hide, option_map whole l.inv)))

abbrev pub thread_parts : Pair × Pair × (Braces × List PlacedStmt) → (List ℕ × List ℕ) × ((List ℕ × List ℕ) × Block)
thread_parts x = (pair x.0, (pair x.1, block x.2))
