use Rattle.std.proofs.Common.{◌≡◌, ◌++◌, drop, map}
use Rattle.cov_ast.specs.View as view
use Rattle.annotate.specs.Inside.Choosing.{lent_choice}
use Rattle.annotate.specs.WithCertificates.{proof_of}
use Rattle.annotate.proofs.put_in.add_behind.Given as goal

abbrev pub invariant-loop-choice : goal.invariant-loop-choice
invariant-loop-choice l = map view.proof l.proofs ++ map proof_of (map lent_choice (drop l.choice-index l.rest)) ≡ map view.proof l.initial.proofs ++ map proof_of (map lent_choice l.rest)
