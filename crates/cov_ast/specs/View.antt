-- The plain data that the trees of the code stand for, without where they lie in memory.
use Rattle.std.specs.Prelude.{ℕ, List, [], ◌∷◌, map, option_map}
use Rattle.cov_expr.specs.View.{term}
use Rattle.cov_expr.specs.Term.{Term}
use Rattle.cov_expr.specs.declared.expr.Expr.{Expr}
use Rattle.cov_ast.specs.Syntax as s
use Rattle.cov_ast.specs.declared.decl.Class.{Class}
use Rattle.cov_ast.specs.declared.decl.Class.TheVariants as classes
use Rattle.cov_ast.specs.declared.decl.VarDecl.{VarDecl}
use Rattle.cov_ast.specs.declared.decl.LockDecl.{LockDecl}
use Rattle.cov_ast.specs.declared.decl.Modes.{Modes}
use Rattle.cov_ast.specs.declared.decl.ThreadDecl.{ThreadDecl}
use Rattle.cov_ast.specs.declared.decl.Program.{Program}
use Rattle.cov_ast.specs.declared.parsed.Parsed.{Parsed}
use Rattle.cov_ast.specs.declared.state.State.{State}
use Rattle.cov_ast.specs.declared.cert.Proof.{Proof}
use Rattle.cov_ast.specs.declared.cert.Cert.{Cert, fold-Cert}
use Rattle.cov_ast.specs.declared.cert.Cert.TheOpen.{Cert-F}
use Rattle.cov_ast.specs.declared.stmt.Retype.{Retype}
use Rattle.cov_ast.specs.declared.stmt.Stmt.{Stmt, Stmt-F, fold-Stmt}
use Rattle.cov_ast.specs.declared.stmt.StmtKind.{StmtKind, StmtKind-F, fold-StmtKind}

-- Certificates -------------------------------------------------------------------------------------------------

abbrev pub cert_step : Cert-F s.Cert → s.Cert
cert_step Cert-F.Auto = s.auto
cert_step (Cert-F.Hyp i) = s.hyp i
cert_step Cert-F.Calc = s.calc
cert_step (Cert-F.Clash i) = s.clash i
cert_step (Cert-F.And c d) = s.and c.value d.value
cert_step (Cert-F.Left c) = s.left c.value
cert_step (Cert-F.Right c) = s.right c.value
cert_step (Cert-F.Unpack i c) = s.unpack i c.value
cert_step (Cert-F.Cases i c d) = s.cases i c.value d.value
cert_step (Cert-F.Split e c d) = s.split (term e) c.value d.value
cert_step (Cert-F.Have e c d) = s.have (term e) c.value d.value
cert_step (Cert-F.Absurd i j) = s.absurdity i j
cert_step (Cert-F.Not c) = s.negation c.value
cert_step (Cert-F.Contra c) = s.contra c.value
cert_step Cert-F.Refl = s.reflexive
cert_step (Cert-F.Fwd i e c) = s.fwd i (term e) c.value
cert_step (Cert-F.Rev i e c) = s.rev i (term e) c.value
cert_step (Cert-F.Axiom k es c) = s.instance k (map term es) c.value
cert_step Cert-F.Ring = s.ring
cert_step Cert-F.Range = s.range

abbrev pub cert : Cert → s.Cert
cert = fold-Cert s.Cert cert_step

abbrev pub proof : Proof → s.Proof
proof p = record { number = p.number; cert = cert p.cert }

-- States and statements ----------------------------------------------------------------------------------------

abbrev pub typed : ℕ × Expr → ℕ × Term
typed t = (t.0, term t.1)

abbrev pub state : State → s.State
state s = record { preds = map term s.preds; types = map typed s.types }

abbrev pub retype : Retype → ℕ × Term
retype r = (r.var, term r.class)

-- a statement with its place and its proofs
pub record Placed : Type 0 where
  pub at : ℕ
  pub stm : s.Stm
  pub proofs : List s.Proof

abbrev pub block_of : List Placed → s.Block
block_of [] = s.done
block_of (p ∷ ps) = s.more p.at p.stm p.proofs (block_of ps)

-- statements in front of a block
abbrev pub onto : List Placed → s.Block → s.Block
onto [] b = b
onto (p ∷ ps) b = s.more p.at p.stm p.proofs (onto ps b)

abbrev pub kind_step : StmtKind-F s.Stm Placed → s.Stm
kind_step StmtKind-F.Skip = s.skip
kind_step (StmtKind-F.Assign x e q retypes) = s.assign x (term e) (option_map term q) (map retype retypes)
kind_step (StmtKind-F.Lock l) = s.lock l
kind_step (StmtKind-F.Unlock l) = s.unlock l
kind_step (StmtKind-F.If e a b join) = s.branch (term e) (block_of a) (block_of b) (state join)
kind_step (StmtKind-F.While e inv b) = s.loop (term e) (state inv) (block_of b)
kind_step (StmtKind-F.Note j) = s.note (state j)
kind_step (StmtKind-F.Output e) = s.output (term e)

abbrev pub stmt_step : Stmt-F s.Stm Placed → Placed
stmt_step s = record { at = s.at; stm = s.kind; proofs = map proof s.proofs }

abbrev pub stmt : Stmt → Placed
stmt = fold-Stmt s.Stm Placed kind_step stmt_step

abbrev pub kind : StmtKind → s.Stm
kind = fold-StmtKind s.Stm Placed kind_step stmt_step

abbrev pub block : List Stmt → s.Block
block ss = block_of (map stmt ss)

-- Declarations -------------------------------------------------------------------------------------------------

abbrev pub class : Class → s.Class
class classes.Low = s.low
class classes.High = s.high
class (classes.When e) = s.when (term e)

abbrev pub var : VarDecl → s.Var
var v = record { name = v.name; at = v.at; class = class v.class }

abbrev pub lock : LockDecl → s.Lock
lock l = record { name = l.name; at = l.at; nowrite = l.nowrite; hide = l.hide; inv = option_map term l.inv }

abbrev pub modes : Modes → s.Modes
modes m = record { assume_nowrite = m.assume_nowrite; assume_hide = m.assume_hide; guarantee_nowrite = m.guarantee_nowrite; guarantee_hide = m.guarantee_hide }

abbrev pub thread : ThreadDecl → s.Thread
thread t = record { name = t.name; at = t.at; modes = modes t.modes; body = block t.body; end = t.end }

abbrev pub program : Program → s.Program
program p = record { version = p.version; vars = map var p.vars; locks = map lock p.locks; threads = map thread p.threads }

abbrev pub parsed : Parsed → s.Parsed
parsed p = record { version = p.version; names = p.names; uses = p.uses; vars = map var p.vars; locks = map lock p.locks; threads = map thread p.threads }
