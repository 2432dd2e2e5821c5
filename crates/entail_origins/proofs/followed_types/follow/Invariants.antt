use Rattle.std.proofs.Common.{◌≡◌, map}
use Rattle.cov_ast.specs.Plain.{plain}
use Rattle.cov_ast.specs.View as view
use Rattle.statement_paths.specs.Paths as paths
use Rattle.entail_origins.specs.FollowedTypes as spec
use Rattle.entail_origins.proofs.followed_types.follow.Given as goal

-- those behind the first n are there
abbrev pub invariant-loop-n : goal.invariant-loop-n
invariant-loop-n l = l.all ≡ spec.followed (plain (view.program l.p)) l.t l.most (map paths.step l.steps) l.n l.fn.all
