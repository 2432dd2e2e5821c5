-- Declarations without where their parts lie.
use Rattle.std.specs.Prelude.{ℕ, List, map, option_map}
use Rattle.cov_read.specs.declared.decl.ClassDecl.{ClassDecl}
use Rattle.cov_read.specs.declared.decl.ClassDecl.TheVariants as classes
use Rattle.cov_read.specs.declared.decl.PlacedVariable.{PlacedVariable}
use Rattle.cov_read.specs.declared.decl.PlacedLock as code
use Rattle.cov_read.specs.declared.decl.Pair as pairs
use Rattle.cov_read.specs.declared.decl.PlacedThread as threads
use Rattle.cov_read.specs.declared.decl.PlacedProgram.{PlacedProgram}
use Rattle.cov_read.specs.CertViews.{whole}
use Rattle.cov_read.specs.StmtViews.{stmt, block_of}
use Rattle.cov_grammar.specs.PlacedTrees as t

abbrev pub number : ℕ → ℕ
number n = n

abbrev pub class : ClassDecl → t.Class
class classes.Low = t.low
class classes.High = t.high
class (classes.When e) = t.low_when (whole e)

abbrev pub var : PlacedVariable → t.Var
var v = record { name = (v.name, v.at); class = class v.class }

abbrev pub lock : code.PlacedLock → t.Lock
lock l = record { name = (l.name, l.at); nowrite = map number l.nowrite; hide = map number l.hide; inv = option_map whole l.inv }

abbrev pub pair : pairs.Pair → List ℕ × List ℕ
pair p = (map number p.nowrite, map number p.hide)

abbrev pub modes : pairs.Pair → pairs.Pair → t.Modes
modes a g = record { assume_nowrite = map number a.nowrite; assume_hide = map number a.hide; guarantee_nowrite = map number g.nowrite; guarantee_hide = map number g.hide }

abbrev pub thread : threads.PlacedThread → t.Thread
thread h = record { name = (h.name, h.at); modes = modes h.assumes h.guarantees; body = block_of h.braces (map stmt h.body) }

abbrev pub program : PlacedProgram → t.Program
program p = record { version = p.version; vars = map var p.vars; locks = map lock p.locks; threads = map thread p.threads }
