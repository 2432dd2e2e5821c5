-- What is told of an entailment: its goal, its hypotheses with their numbers and remarks, and its certificate, with the first node that
-- fails.
-- Expressions are spelled canonically.
use Rattle.std.specs.Prelude.{ℕ, suc, ◌-◌, ◌==◌, nat_lt, List, [], ◌∷◌, ◌++◌, Option, Some, None, codes, decimal, flat_map, get_or, if◌then◌else◌}
use Rattle.cov_expr.specs.Term.{Term}
use Rattle.cov_ast.specs.Syntax.{Cert}
use Rattle.cov_ast.specs.Syntax as by
use Rattle.cov_print.specs.Fronts.{front}
use Rattle.cov_print.specs.Spelling.{Names, whole}
use Rattle.entail_cert.specs.Axioms.{numbered}
use Rattle.entail_cert.specs.Valid.{first_bad}
use Rattle.entail_text.specs.Nodes.{Node, node, node_at}

-- Hypotheses ---------------------------------------------------------------------------------------------------

-- the word before the first number, and blanks before the others
abbrev pub label : ℕ → List ℕ
label n = if n == 1 then codes "  hypotheses:  " else codes "               "

-- the blank before a number of one digit
abbrev pub indent : ℕ → List ℕ
indent n = if nat_lt n 10 then codes " " else []

-- what stands in front of the hypothesis of a number
abbrev pub front_of : ℕ → List ℕ
front_of n = label n ++ indent n ++ decimal n ++ codes "  "

-- The end of a line, with a remark. Of an empty one nothing is shown.
abbrev pub line_end : (remark : List ℕ) → List ℕ
line_end [] = codes "\n"
line_end (b ∷ bs) = codes "   (" ++ (b ∷ bs) ++ codes ")\n"

-- the remark of a number, counted from 1; one that is missing is empty
abbrev pub remark_of : (remarks : List (List ℕ)) → ℕ → List ℕ
remark_of remarks n = get_or remarks (n - 1) []

abbrev pub hypothesis_line : Names → ℕ → Term → (remark : List ℕ) → List ℕ
hypothesis_line names n h remark = front_of n ++ whole names h ++ line_end remark

-- a line for each, numbered from a number on
abbrev pub lines_from : Names → (remarks : List (List ℕ)) → ℕ → List Term → List ℕ
lines_from names remarks n [] = []
lines_from names remarks n (h ∷ hs) = hypothesis_line names n h (remark_of remarks n) ++ lines_from names remarks (suc n) hs

abbrev pub hypothesis_lines : Names → (remarks : List (List ℕ)) → List Term → List ℕ
hypothesis_lines names remarks [] = codes "  hypotheses:   none\n"
hypothesis_lines names remarks (h ∷ hs) = lines_from names remarks 1 (h ∷ hs)

-- The certificate ----------------------------------------------------------------------------------------------

-- the node of a path: the numbers of the path with points between
abbrev pub place_of : (path : List ℕ) → List ℕ
place_of [] = codes "the root"
place_of (n ∷ ns) = codes "node " ++ decimal n ++ flat_map (λ m. codes "." ++ decimal m) ns

-- a hypothesis that a certificate names by its number
abbrev pub hypothesis_phrase : Names → ℕ → Option Term → List ℕ
hypothesis_phrase names i None = codes ", and there is no hypothesis " ++ decimal i
hypothesis_phrase names i (Some h) = codes ", and hypothesis " ++ decimal i ++ codes " is " ++ whole names h

-- the hypotheses that the own condition of a node speaks of
abbrev pub spoken_of : Names → List Term → Cert → List ℕ
spoken_of names hyps (by.hyp i) = hypothesis_phrase names i (numbered hyps i)
spoken_of names hyps (by.clash i) = hypothesis_phrase names i (numbered hyps i)
spoken_of names hyps (by.unpack i c) = hypothesis_phrase names i (numbered hyps i)
spoken_of names hyps (by.cases i c d) = hypothesis_phrase names i (numbered hyps i)
spoken_of names hyps (by.absurdity i j) = hypothesis_phrase names i (numbered hyps i) ++ hypothesis_phrase names j (numbered hyps j)
spoken_of names hyps (by.fwd i t c) = hypothesis_phrase names i (numbered hyps i)
spoken_of names hyps (by.rev i t c) = hypothesis_phrase names i (numbered hyps i)
spoken_of names hyps cert = []

-- a node: the front of the certificate there, and what its own condition is asked of
abbrev pub node_text : Names → Node → List ℕ
node_text names n = codes ": " ++ front names n.cert ++ codes " (the goal there is " ++ whole names n.goal ++ spoken_of names n.hyps n.cert ++ codes ")"

abbrev pub node_text_of : Names → Option Node → List ℕ
node_text_of names None = []
node_text_of names (Some n) = node_text names n

-- whether a certificate is valid, by the path of its first node that fails
abbrev pub verdict : Names → Node → (bad : Option (List ℕ)) → List ℕ
verdict names root None = codes "given; valid"
verdict names root (Some path) = codes "given; fails at " ++ place_of path ++ node_text_of names (node_at path root)

abbrev pub certificate : Names → List Term → Term → Option Cert → List ℕ
certificate names hyps goal None = codes "none given, and `auto` doesn't show it"
certificate names hyps goal (Some cert) = verdict names (node hyps goal cert) (first_bad hyps goal cert)

-- The whole ----------------------------------------------------------------------------------------------------

abbrev pub goal_line : Names → Term → List ℕ
goal_line names goal = codes "  goal:         " ++ whole names goal ++ codes "\n"

abbrev pub certificate_line : Names → List Term → Term → Option Cert → List ℕ
certificate_line names hyps goal cert = codes "  certificate:  " ++ certificate names hyps goal cert ++ codes "\n"

-- what is told of an entailment with these hypotheses, which have these remarks, and this goal, for which this certificate is given, if
-- one is
abbrev pub entailment_text : Names → List Term → (remarks : List (List ℕ)) → Term → Option Cert → List ℕ
entailment_text names hyps remarks goal cert = goal_line names goal ++ hypothesis_lines names remarks hyps ++ certificate_line names hyps goal cert
