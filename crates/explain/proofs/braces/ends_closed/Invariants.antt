use Rattle.std.proofs.Common.{◌≡◌, drop, false}
use Rattle.explain.specs.OpenBraces.{ends_closed}
use Rattle.explain.proofs.braces.ends_closed.Given as goal

-- whether the last token is a `}`, by that in front of what is left
abbrev pub invariant-loop-token : goal.invariant-loop-token
invariant-loop-token l = ends_closed l.closed (drop l.token-index l.tokens) ≡ ends_closed false l.tokens
