use Rattle.std.proofs.Common.{◌≡◌, drop, map, option_map, take, length, ◌≤◌}
use Rattle.cov_ast.specs.View as view
use Rattle.statement_paths.specs.Paths as spec
use Rattle.statement_paths.proofs.find.+blocks.Given as goal

-- the way from here on, behind the steps so far, is the whole way, and the first steps stay
abbrev pub invariant-find_in-loop-stmt : goal.invariant-find_in-loop-stmt
invariant-find_in-loop-stmt l = record {
  way : option_map (spec.with_steps_in_front (map spec.step l.steps)) (spec.way_to (view.block (drop l.stmt-index l.body)) l.place)
      ≡ option_map (spec.with_steps_in_front (map spec.step l.fn.steps)) (spec.way_to (view.block l.body) l.place);
  front : take l.count l.steps ≡ l.fn.steps;
  longer : l.count ≤ length l.steps;
}
