-- Which certificates are within the limits of those of a text.
use Rattle.std.specs.Prelude.{ℕ, ◌+◌, ◌^◌, max, ◌==◌, nat_le, nat_lt, List, Bool, true, false, ◌&&◌, ◌||◌}
use Rattle.std.specs.List.{list_any, list_all}
use Rattle.cov_expr.specs.declared.limits.TheConstants.{MOST_CERT_NODES, MOST_HEIGHT}
use Rattle.cov_expr.specs.declared.expr.TheConstants.{HOLE}
use Rattle.cov_expr.specs.Term.{Term, const, var, neg, bin}
use Rattle.cov_expr.specs.Trees.{mentions}
use Rattle.cov_ast.specs.Syntax.{Cert}
use Rattle.cov_ast.specs.Syntax as by
use Rattle.cert_search.specs.Classes.{is_within}

-- how many nodes there are, without those of the expressions
abbrev pub cert_nodes : Cert → ℕ
cert_nodes by.auto = 1
cert_nodes (by.hyp i) = 1
cert_nodes by.calc = 1
cert_nodes (by.clash i) = 1
cert_nodes (by.and c d) = 1 + cert_nodes c + cert_nodes d
cert_nodes (by.left c) = 1 + cert_nodes c
cert_nodes (by.right c) = 1 + cert_nodes c
cert_nodes (by.unpack i c) = 1 + cert_nodes c
cert_nodes (by.cases i c d) = 1 + cert_nodes c + cert_nodes d
cert_nodes (by.split e c d) = 1 + cert_nodes c + cert_nodes d
cert_nodes (by.have e c d) = 1 + cert_nodes c + cert_nodes d
cert_nodes (by.absurdity i j) = 1
cert_nodes (by.negation c) = 1 + cert_nodes c
cert_nodes (by.contra c) = 1 + cert_nodes c
cert_nodes by.reflexive = 1
cert_nodes (by.fwd i t c) = 1 + cert_nodes c
cert_nodes (by.rev i t c) = 1 + cert_nodes c
cert_nodes (by.instance k es c) = 1 + cert_nodes c
cert_nodes by.ring = 1
cert_nodes by.range = 1

-- the height, where a leaf has height 1
abbrev pub cert_height : Cert → ℕ
cert_height by.auto = 1
cert_height (by.hyp i) = 1
cert_height by.calc = 1
cert_height (by.clash i) = 1
cert_height (by.and c d) = 1 + max (cert_height c) (cert_height d)
cert_height (by.left c) = 1 + cert_height c
cert_height (by.right c) = 1 + cert_height c
cert_height (by.unpack i c) = 1 + cert_height c
cert_height (by.cases i c d) = 1 + max (cert_height c) (cert_height d)
cert_height (by.split e c d) = 1 + max (cert_height c) (cert_height d)
cert_height (by.have e c d) = 1 + max (cert_height c) (cert_height d)
cert_height (by.absurdity i j) = 1
cert_height (by.negation c) = 1 + cert_height c
cert_height (by.contra c) = 1 + cert_height c
cert_height by.reflexive = 1
cert_height (by.fwd i t c) = 1 + cert_height c
cert_height (by.rev i t c) = 1 + cert_height c
cert_height (by.instance k es c) = 1 + cert_height c
cert_height by.ring = 1
cert_height by.range = 1

module _ (hyps : List Term) (goal : Term) where
  abbrev pub is_mentioned : ℕ → Bool
  is_mentioned x = mentions goal x || list_any (λ h. mentions h x) hyps

  -- made of words, and of variables that a hypothesis or the goal mentions, and of holes where they may be
  abbrev pub is_known : (hole : Bool) → Term → Bool
  is_known hole (const k) = nat_lt k (2 ^ 32)
  is_known hole (var x) = (hole && x == HOLE) || is_mentioned x
  is_known hole (neg e) = is_known hole e
  is_known hole (bin op a b) = is_known hole a && is_known hole b

  -- so, and within the limits of an expression of a text
  abbrev pub is_fit : (hole : Bool) → Term → Bool
  is_fit hole e = is_within e && is_known hole e

  -- Each expression is fit. In templates there may be holes.
  abbrev pub has_fit_expressions : Cert → Bool
  has_fit_expressions by.auto = true
  has_fit_expressions (by.hyp i) = true
  has_fit_expressions by.calc = true
  has_fit_expressions (by.clash i) = true
  has_fit_expressions (by.and c d) = has_fit_expressions c && has_fit_expressions d
  has_fit_expressions (by.left c) = has_fit_expressions c
  has_fit_expressions (by.right c) = has_fit_expressions c
  has_fit_expressions (by.unpack i c) = has_fit_expressions c
  has_fit_expressions (by.cases i c d) = has_fit_expressions c && has_fit_expressions d
  has_fit_expressions (by.split e c d) = is_fit false e && has_fit_expressions c && has_fit_expressions d
  has_fit_expressions (by.have e c d) = is_fit false e && has_fit_expressions c && has_fit_expressions d
  has_fit_expressions (by.absurdity i j) = true
  has_fit_expressions (by.negation c) = has_fit_expressions c
  has_fit_expressions (by.contra c) = has_fit_expressions c
  has_fit_expressions by.reflexive = true
  has_fit_expressions (by.fwd i t c) = is_fit true t && has_fit_expressions c
  has_fit_expressions (by.rev i t c) = is_fit true t && has_fit_expressions c
  has_fit_expressions (by.instance k es c) = list_all (is_fit false) es && has_fit_expressions c
  has_fit_expressions by.ring = true
  has_fit_expressions by.range = true

  -- The certificate and its expressions are within the limits of those of a text, and speak of what the hypotheses and the goal do.
  abbrev pub is_cert_within : Cert → Bool
  is_cert_within c = nat_le (cert_nodes c) MOST_CERT_NODES && nat_le (cert_height c) MOST_HEIGHT && has_fit_expressions c
