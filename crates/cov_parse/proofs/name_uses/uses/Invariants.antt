use Rattle.std.proofs.Common.{◌≡◌, ◌++◌, drop}
use Rattle.cov_text.specs.Uses.{uses_behind, uses_of}
use Rattle.cov_parse.proofs.name_uses.uses.Given as goal

-- the uses so far, and those of what is left, are all of them
abbrev pub invariant-loop-token : goal.invariant-loop-token
invariant-loop-token l = l.list ++ uses_behind l.in_thread l.before (drop l.token-index l.tokens) ≡ uses_of l.tokens
