-- What stands in a certificate before those inside of it: its word, with its numbers and its expressions.
use Rattle.std.specs.Prelude.{ℕ, List, ◌++◌, codes, decimal}
use Rattle.cov_ast.specs.Syntax as s
use Rattle.cov_print.specs.Spelling.{Names, whole, listed}

abbrev pub front : Names → s.Cert → List ℕ
front names s.auto = codes "auto"
front names s.calc = codes "calc"
front names s.reflexive = codes "refl"
front names s.ring = codes "ring"
front names s.range = codes "range"
front names (s.hyp i) = codes "hyp " ++ decimal i
front names (s.clash i) = codes "clash " ++ decimal i
front names (s.absurdity i j) = codes "absurd " ++ decimal i ++ codes " " ++ decimal j
front names (s.and c d) = codes "and"
front names (s.left c) = codes "left"
front names (s.right c) = codes "right"
front names (s.unpack i c) = codes "use " ++ decimal i
front names (s.cases i c d) = codes "cases " ++ decimal i
front names (s.split e c d) = codes "split [" ++ whole names e ++ codes "]"
front names (s.have e c d) = codes "have [" ++ whole names e ++ codes "]"
front names (s.negation c) = codes "not"
front names (s.contra c) = codes "contra"
front names (s.fwd i e c) = codes "fwd " ++ decimal i ++ codes " [" ++ whole names e ++ codes "]"
front names (s.rev i e c) = codes "rev " ++ decimal i ++ codes " [" ++ whole names e ++ codes "]"
front names (s.instance k es c) = codes "axiom " ++ decimal k ++ codes " (" ++ listed (whole names) es ++ codes ")"
