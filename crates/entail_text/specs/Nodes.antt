-- The nodes of a certificate. Each has hypotheses and a goal of its own, and the certificate from it on; the root has those of the
-- entailment. A node is named by its path: the numbers of the children, from 1, that lead to it from the root.
use Rattle.std.specs.Prelude.{◌≡◌, ℕ, ◌==◌, List, [], ◌∷◌, ◌++◌, Option, Some, None, if◌then◌else◌}
use Rattle.cov_expr.specs.declared.expr.Op.TheVariants.{Eq, Both, Either}
use Rattle.cov_expr.specs.Term.{Term, const, neg}
use Rattle.cov_ast.specs.Syntax.{Cert}
use Rattle.cov_ast.specs.Syntax as by
use Rattle.entail_cert.specs.Axioms.{numbered, axiom_for}
use Rattle.entail_cert.specs.Valid.{operands, operands_of, negated, filled, first_bad}

pub record Node : Type 0 where
  pub hyps : List Term
  pub goal : Term
  pub cert : Cert

abbrev pub node : List Term → Term → Cert → Node
node hyps goal cert = record { hyps = hyps; goal = goal; cert = cert }

-- what comes of something, where that is there
abbrev pub with : {A B : Type 0} → Option A → (A → Option B) → Option B
with None next = None
with (Some x) next = next x

-- the only child, which has the number 1
abbrev pub only : ℕ → Node → Option Node
only step child = if step == 1 then Some child else None

-- the child of a number, where there are two
abbrev pub chosen : ℕ → Node → Node → Option Node
chosen step first second = if step == 1 then Some first else if step == 2 then Some second else None

-- The child of a number, if there is one. It is asked for where the own condition of the node holds.
abbrev pub child_of : List Term → Term → Cert → ℕ → Option Node
child_of hyps goal by.auto step = None
child_of hyps goal (by.hyp i) step = None
child_of hyps goal by.calc step = None
child_of hyps goal (by.clash i) step = None
child_of hyps goal (by.and c d) step = with (operands Both goal) (λ (a, b). chosen step (node hyps a c) (node hyps b d))
child_of hyps goal (by.left c) step = with (operands Either goal) (λ (a, b). only step (node hyps a c))
child_of hyps goal (by.right c) step = with (operands Either goal) (λ (a, b). only step (node hyps b c))
child_of hyps goal (by.unpack i c) step = with (operands_of Both (numbered hyps i)) (λ (a, b). only step (node (hyps ++ a ∷ b ∷ []) goal c))
child_of hyps goal (by.cases i c d) step =
    with (operands_of Either (numbered hyps i)) (λ (a, b). chosen step (node (hyps ++ a ∷ []) goal c) (node (hyps ++ b ∷ []) goal d))
child_of hyps goal (by.split e c d) step = chosen step (node (hyps ++ e ∷ []) goal c) (node (hyps ++ neg e ∷ []) goal d)
child_of hyps goal (by.have e c d) step = chosen step (node hyps e c) (node (hyps ++ e ∷ []) goal d)
child_of hyps goal (by.absurdity i j) step = None
child_of hyps goal (by.negation c) step = with (negated goal) (λ a. only step (node (hyps ++ a ∷ []) (const 0) c))
child_of hyps goal (by.contra c) step = only step (node (hyps ++ neg goal ∷ []) (const 0) c)
child_of hyps goal by.reflexive step = None
child_of hyps goal (by.fwd i t c) step = with (operands_of Eq (numbered hyps i)) (λ (a, b). only step (node hyps (filled t b) c))
child_of hyps goal (by.rev i t c) step = with (operands_of Eq (numbered hyps i)) (λ (a, b). only step (node hyps (filled t a) c))
child_of hyps goal (by.instance k es c) step = with (axiom_for k es) (λ e. only step (node (hyps ++ e ∷ []) goal c))
child_of hyps goal by.ring step = None
child_of hyps goal by.range step = None

abbrev pub child : Node → ℕ → Option Node
child n step = child_of n.hyps n.goal n.cert step

-- the node of a path from a node on
abbrev pub node_at : (path : List ℕ) → Node → Option Node
node_at [] n = Some n
node_at (step ∷ path) n = with (child n step) (node_at path)

-- the path from a node to the first from there on that fails, if there is one
abbrev pub bad : Node → Option (List ℕ)
bad n = first_bad n.hyps n.goal n.cert

-- The path leads from a node to one whose own condition fails.
pub record LeadsToFailure (root : Node) (path : List ℕ) : Type 0 where
  pub found : Node
  pub stands : node_at path root ≡ Some found
  pub fails : bad found ≡ Some []
