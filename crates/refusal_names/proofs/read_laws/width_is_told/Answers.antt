use Rattle.std.proofs.Common.{◌≡◌, ◌<◌, ap, ◌∙◌, arith}
use Rattle.cov_expr.specs.Trees.{width}
use Rattle.refusal_names.specs.WideExpressions.{counted_width, width_line, width_text}
use Rattle.refusal_names.proofs.read_laws.width_is_told.Goals as goal

pub returns : goal.returns
returns c p bytes t held steps proofs detail s e evaluates fits broken =
    let wide : 7 < width e = grind (arith, broken) in
    let same : counted_width e ≡ width e = omega (arith, fits) in
    record { wide = wide; told = ap width_line evaluates ∙ ap width_text same }
