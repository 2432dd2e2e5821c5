-- Sizes of certificates, by which walks over them end.
use Rattle.std.specs.Prelude.{ℕ, ◌+◌}
use Rattle.cov_ast.specs.Syntax.{Cert}
use Rattle.cov_ast.specs.Syntax as by

-- how many nodes a certificate has
abbrev pub nodes : Cert → ℕ
nodes by.auto = 1
nodes (by.hyp i) = 1
nodes by.calc = 1
nodes (by.clash i) = 1
nodes (by.and c d) = nodes c + nodes d + 1
nodes (by.left c) = nodes c + 1
nodes (by.right c) = nodes c + 1
nodes (by.unpack i c) = nodes c + 1
nodes (by.cases i c d) = nodes c + nodes d + 1
nodes (by.split e c d) = nodes c + nodes d + 1
nodes (by.have e c d) = nodes c + nodes d + 1
nodes (by.absurdity i j) = 1
nodes (by.negation c) = nodes c + 1
nodes (by.contra c) = nodes c + 1
nodes by.reflexive = 1
nodes (by.fwd i t c) = nodes c + 1
nodes (by.rev i t c) = nodes c + 1
nodes (by.instance k es c) = nodes c + 1
nodes by.ring = 1
nodes by.range = 1
