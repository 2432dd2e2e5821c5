-- Words of private contracts: what a certificate begins with. To believe what `print` promises, nothing here need be read.
use Rattle.std.specs.Prelude.{ℕ, List, codes}
use Rattle.cov_ast.specs.Syntax as s

-- the word of a certificate, with the blank behind it where a number follows
abbrev pub word : s.Cert → List ℕ
word s.auto = codes "auto"
word s.calc = codes "calc"
word s.reflexive = codes "refl"
word s.ring = codes "ring"
word s.range = codes "range"
word (s.hyp i) = codes "hyp "
word (s.clash i) = codes "clash "
word (s.absurdity i j) = codes "absurd "
word (s.and c d) = codes "and"
word (s.left c) = codes "left"
word (s.right c) = codes "right"
word (s.unpack i c) = codes "use "
word (s.cases i c d) = codes "cases "
word (s.split e c d) = codes "split"
word (s.have e c d) = codes "have"
word (s.negation c) = codes "not"
word (s.contra c) = codes "contra"
word (s.fwd i e c) = codes "fwd "
word (s.rev i e c) = codes "rev "
word (s.instance k es c) = codes "axiom "
