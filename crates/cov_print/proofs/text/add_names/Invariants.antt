use Rattle.std.proofs.Common.{◌≡◌, ◌++◌, drop}
use Rattle.cov_print.specs.Spelling as spec
use Rattle.cov_print.proofs.text.add_names.Given as goal

-- what is written, and what is left, are the whole list
abbrev pub invariant-loop-id : goal.invariant-loop-id
invariant-loop-id l = l.out ++ spec.more (spec.name l.names) (drop l.id-index l.rest) ≡ l.fn.out ++ spec.listed (spec.name l.names) l.ids
