use Rattle.std.proofs.Common.{◌≡◌, ◌∙◌, drop, ap, arith}
use Rattle.typing_trace.specs.Spots.{bytes_of_lines}
use Rattle.typing_trace.proofs.SpotLaws.{no_lines}
use Rattle.typing_trace.proofs.spots.bytes_of_lines.Goals as goal

pub returns-then-left-eq0 : goal.returns-then-left-eq0
returns-then-left-eq0 c =
    let none : c.loop-i.left ≡ 0 = omega (arith, c.if-left-eq0.true) in
    let bytes = drop c.loop-i.i c.args.bytes.now in
    let rest = ap (λ n. bytes_of_lines n bytes) none ∙ no_lines bytes in
    omega (arith, c.loop-i.invariant, rest)
