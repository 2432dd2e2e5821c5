use Rattle.std.proofs.Common.{◌≡◌, ◌++◌, map, take, drop}
use Rattle.policy_class.specs.Inside.Ids.{var_in, lock_in}
use Rattle.policy_class.specs.Resolved.{resolved_var}
use Rattle.policy_class.proofs.programs.resolve_list.Given as goal

abbrev pub invariant-loop-x : goal.invariant-loop-x
invariant-loop-x l = l.xs ≡ map (resolved_var (var_in l.ids) (lock_in l.ids)) (take l.x-index l.initial.xs) ++ drop l.x-index l.initial.xs
