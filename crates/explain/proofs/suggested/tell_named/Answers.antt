use Rattle.cov_ast.proofs.ObligationLaws.{none_refused}
use Rattle.cov_ast.specs.View as view
use Rattle.mode_compat.specs.Declared.{declaration_obligations}
use Rattle.explain.proofs.suggested.tell_named.Goals as goal

pub tell_searched-requires-clause-declared : goal.tell_searched-requires-clause-declared
tell_searched-requires-clause-declared c = none_refused (declaration_obligations (view.program c.args.program.now)) c.in-Ok.ensures
