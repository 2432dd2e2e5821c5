use Rattle.std.proofs.Common.{◌≡◌, ◌++◌, map, take, drop}
use Rattle.cov_text.specs.Versioned.{of_first}
use Rattle.cov_parse.proofs.versions.fit_outputs.Given as goal

-- the tokens so far are of version 1
abbrev pub invariant-loop-token : goal.invariant-loop-token
invariant-loop-token l = l.tokens ≡ map of_first (take l.token-index l.initial.tokens) ++ drop l.token-index l.initial.tokens
