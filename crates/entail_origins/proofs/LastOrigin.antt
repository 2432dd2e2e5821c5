-- The last step that gives a hypothesis counts, whatever stands in front.
use Rattle.std.proofs.Common.{◌≡◌, List, [], ◌∷◌, ◌++◌, Some, ap}
use Rattle.std.specs.Option.{option_or}
use Rattle.cov_expr.specs.Term.{Term}
use Rattle.cov_ast.specs.Plain.{Plain}
use Rattle.statement_paths.specs.Paths.{Step}
use Rattle.entail_origins.specs.Origins.{origin, origin_at}
use Rattle.entail_origins.specs.declared.hypothesis_origin.Origin.{Origin}

module _ (p : Plain) (h : Term) where
  pub last_counts : (ss rs : List Step) (o : Origin) → origin p rs h ≡ Some o → origin p (ss ++ rs) h ≡ Some o
  last_counts [] rs o is = is
  last_counts (s ∷ ss) rs o is = ap (λ x. option_or x (origin_at p s h)) (last_counts ss rs o is)
