use Rattle.std.proofs.Common.{sym}
use Rattle.std.proofs.lemmas.List.{take-map}
use Rattle.statement_paths.specs.Paths as paths
use Rattle.entail_origins.proofs.followed_types.first_steps.Goals as goal

pub returns-then-count-steps : goal.returns-then-count-steps
returns-then-count-steps c = sym (take-map paths.step c.args.count c.args.steps.now)
