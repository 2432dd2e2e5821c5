use Rattle.std.proofs.Common.{◌≤◌, length, sym, arith}
use Rattle.std.proofs.lemmas.List.{length-take-le}
use Rattle.typing_trace.proofs.points.add_first.Goals as goal

pub slice_bounds-add_each-end : goal.slice_bounds-add_each-end
slice_bounds-add_each-end c = let many : 256 ≤ length c.args.spots.now = omega (arith, c.requires.many) in sym (length-take-le 256 c.args.spots.now many)
