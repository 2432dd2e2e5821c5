-- What the view of an expression is at each variant.
use Rattle.std.proofs.Common.{◌≡◌, ap, ◌∙◌, sym}
use Rattle.cov_expr.specs.declared.expr.Expr.TheVariants.{Const, Var, Not, Bin, rolls-Const, rolls-Var, rolls-Not, rolls-Bin}
use Rattle.cov_expr.specs.declared.expr.Expr.TheFolds.{fold-roll-Expr}
use Rattle.cov_expr.specs.Term.{Term, const, var, neg, bin}
use Rattle.cov_expr.specs.View.{term, term_step}

pub term-Const : (k : _) → term (Const k) ≡ const k
term-Const k = ap term (sym (rolls-Const k)) ∙ fold-roll-Expr Term term_step _

pub term-Var : (x : _) → term (Var x) ≡ var x
term-Var x = ap term (sym (rolls-Var x)) ∙ fold-roll-Expr Term term_step _

pub term-Not : (a : _) → term (Not a) ≡ neg (term a.value)
term-Not a = ap term (sym (rolls-Not a)) ∙ fold-roll-Expr Term term_step _

pub term-Bin : (op : _) (a : _) (b : _) → term (Bin op a b) ≡ bin op (term a.value) (term b.value)
term-Bin op a b = ap term (sym (rolls-Bin op a b)) ∙ fold-roll-Expr Term term_step _
