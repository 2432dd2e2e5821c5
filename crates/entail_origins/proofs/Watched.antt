-- A type that isn't watched plays no part in a change.
use Rattle.std.proofs.Common.{◌≡◌, ℕ, Option, Some, None, refl}
use Rattle.cov_expr.specs.Term.{Term}
use Rattle.point_law.specs.Point.{Point}
use Rattle.entail_origins.specs.TypeChanges.{seen, type_there, watched, with_change}
use Rattle.entail_origins.specs.declared.type_origin.Later.{Later}
use Rattle.entail_origins.specs.declared.type_origin.TypeChange.{TypeChange}

pub watched_enough : (steps at : ℕ) (c : Option TypeChange) (z : ℕ) (a : Option Point) (behind : Option (Option Term)) (l : Option Later)
    → with_change steps at c (seen (watched c z a) behind) l ≡ with_change steps at c (seen (type_there z a) behind) l
watched_enough steps at None z a behind l = refl
watched_enough steps at (Some c) z a behind l = refl
