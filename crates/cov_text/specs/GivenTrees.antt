-- The tree that callers get: the grammar's tree without the places that only faults need. A missing join or invariant of a
-- loop is a state that says nothing.
use Rattle.std.specs.Prelude.{ℕ, List, [], map, get_or, Option, Some, None, option_map}
use Rattle.cov_expr.specs.Term.{Term}
use Rattle.cov_grammar.specs.PlacedTrees.{Placed}
use Rattle.cov_grammar.specs.PlacedTrees as t
use Rattle.cov_ast.specs.Syntax as s
use Rattle.cov_ast.specs.Plain.{no_state}
use Rattle.cov_ast.specs.View as ast
use Rattle.cov_ast.specs.declared.parsed.NameUse.{NameUse}

abbrev pub expr_of : Placed Term → Term
expr_of e = e.1

abbrev pub cert_of : t.Cert → s.Cert
cert_of t.auto = s.auto
cert_of t.calc = s.calc
cert_of t.reflexive = s.reflexive
cert_of t.ring = s.ring
cert_of t.range = s.range
cert_of (t.hyp i) = s.hyp i
cert_of (t.clash i) = s.clash i
cert_of (t.absurdity i j) = s.absurdity i j
cert_of (t.and c d) = s.and (cert_of c) (cert_of d)
cert_of (t.left c) = s.left (cert_of c)
cert_of (t.right c) = s.right (cert_of c)
cert_of (t.unpack i c) = s.unpack i (cert_of c)
cert_of (t.cases i c d) = s.cases i (cert_of c) (cert_of d)
cert_of (t.split e c d) = s.split (expr_of e) (cert_of c) (cert_of d)
cert_of (t.have e c d) = s.have (expr_of e) (cert_of c) (cert_of d)
cert_of (t.negation c) = s.negation (cert_of c)
cert_of (t.contra c) = s.contra (cert_of c)
cert_of (t.fwd i e c) = s.fwd i (expr_of e) (cert_of c)
cert_of (t.rev i e c) = s.rev i (expr_of e) (cert_of c)
cert_of (t.instance i es c) = s.instance i (map expr_of es) (cert_of c)

abbrev pub proof_of : ℕ × Placed t.Cert → s.Proof
proof_of p = record { number = p.0; cert = cert_of p.1.1 }

-- a variable and an expression
abbrev pub pair_of : ℕ × Placed Term → ℕ × Term
pair_of x = (x.0, expr_of x.1)

abbrev pub state_of : t.State → s.State
state_of x = record { preds = map expr_of x.preds; types = map pair_of x.types }

abbrev pub state_or_none : Option t.State → s.State
state_or_none None = no_state
state_or_none (Some x) = state_of x

-- the proofs of a statement
abbrev pub proofs_of : t.Stm → List s.Proof
proofs_of t.skip = []
proofs_of (t.assign x e q rs ps) = map proof_of ps
proofs_of (t.lock l) = []
proofs_of (t.unlock l ps) = map proof_of ps
proofs_of (t.branch e a b x ps) = map proof_of ps
proofs_of (t.loop e x b ps) = map proof_of ps
proofs_of (t.note x ps) = map proof_of ps
proofs_of (t.output e ps) = map proof_of ps

abbrev mutual
  pub stm_of : t.Stm → s.Stm
  stm_of t.skip = s.skip
  stm_of (t.assign x e q rs ps) = s.assign x (expr_of e) (option_map expr_of q) (map pair_of rs)
  stm_of (t.lock l) = s.lock l
  stm_of (t.unlock l ps) = s.unlock l
  stm_of (t.branch e a b x ps) = s.branch (expr_of e) (block_of a) (block_of b) (state_or_none x)
  stm_of (t.loop e x b ps) = s.loop (expr_of e) (state_or_none x) (block_of b)
  stm_of (t.note x ps) = s.note (state_of x)
  stm_of (t.output e ps) = s.output (expr_of e)

  pub block_of : t.Block → s.Block
  block_of (t.block begin end ss) = stms_of ss

  pub stms_of : t.Stms → s.Block
  stms_of t.none = s.done
  stms_of (t.next at x ss) = s.more at (stm_of x) (proofs_of x) (stms_of ss)

-- a statement with its place
abbrev pub stmt_of : Placed t.Stm → ast.Placed
stmt_of x = record { at = x.0; stm = stm_of x.1; proofs = proofs_of x.1 }

abbrev pub class_of : t.Class → s.Class
class_of t.low = s.low
class_of t.high = s.high
class_of (t.low_when e) = s.when (expr_of e)

-- the name of a number
abbrev pub name_of : List (List ℕ) → ℕ → List ℕ
name_of names n = get_or names n []

abbrev pub var_of : List (List ℕ) → t.Var → s.Var
var_of names v = record { name = name_of names v.name.0; at = v.name.1; class = class_of v.class }

abbrev pub lock_of : List (List ℕ) → t.Lock → s.Lock
lock_of names l = record { name = name_of names l.name.0; at = l.name.1; nowrite = l.nowrite; hide = l.hide; inv = option_map expr_of l.inv }

abbrev pub modes_of : t.Modes → s.Modes
modes_of m = record { assume_nowrite = m.assume_nowrite; assume_hide = m.assume_hide; guarantee_nowrite = m.guarantee_nowrite; guarantee_hide = m.guarantee_hide }

-- the place of a block's closing brace
abbrev pub end_of : t.Block → ℕ
end_of (t.block begin end ss) = end

abbrev pub thread_of : List (List ℕ) → t.Thread → s.Thread
thread_of names h = record { name = name_of names h.name.0; at = h.name.1; modes = modes_of h.modes; body = block_of h.body; end = end_of h.body }

abbrev pub parsed_of : List (List ℕ) → List NameUse → t.Program → s.Parsed
parsed_of names uses p = record { version = p.version; names = names; uses = uses; vars = map (var_of names) p.vars; locks = map (lock_of names) p.locks; threads = map (thread_of names) p.threads }
