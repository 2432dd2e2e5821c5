use Rattle.std.proofs.Common.{◌≡◌, drop, map, option_map}
use Rattle.std.specs.Option.{option_or}
use Rattle.refusal_names.specs.LargeTerms as spec
use Rattle.statement_paths.specs.Paths.{step}
use Rattle.refusal_names.proofs.large.last_made.Given as goal

-- what is found so far counts where none of the steps that are left makes anything too large
abbrev pub invariant-loop-next : goal.invariant-loop-next
invariant-loop-next l =
    option_or (spec.last_made (map step (drop l.next-index l.steps))) (option_map (λ m. (m.0, m.1.now)) l.last) ≡ spec.last_made (map step l.steps)
