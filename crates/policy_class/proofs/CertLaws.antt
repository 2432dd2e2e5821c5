-- No certificate names a lock.
use Rattle.std.proofs.Common.{◌≡◌, ℕ, List, [], ◌∷◌, map, refl, ap}
use Rattle.cov_expr.specs.Term.{Term, const, var, neg, bin}
use Rattle.cov_ast.specs.Syntax.{Cert}
use Rattle.cov_ast.specs.Syntax as s
use Rattle.policy_class.specs.Resolved.{resolved_cert, resolved_term}

-- what locks become has no part in what a certificate becomes
module _ (to_var f g : ℕ → ℕ) where
  term_same : (e : Term) → resolved_term to_var f e ≡ resolved_term to_var g e
  term_same (const k) = refl
  term_same (var x) = refl
  term_same (neg e) = ap neg (term_same e)
  term_same (bin op a b) = λ i. bin op (term_same a i) (term_same b i)

  terms_same : (es : List Term) → map (resolved_term to_var f) es ≡ map (resolved_term to_var g) es
  terms_same [] = refl
  terms_same (e ∷ es) = λ i. term_same e i ∷ terms_same es i

  pub cert_same : (c : Cert) → resolved_cert to_var f c ≡ resolved_cert to_var g c
  cert_same s.auto = refl
  cert_same (s.hyp i) = refl
  cert_same s.calc = refl
  cert_same (s.clash i) = refl
  cert_same (s.and c d) = λ i. s.and (cert_same c i) (cert_same d i)
  cert_same (s.left c) = ap s.left (cert_same c)
  cert_same (s.right c) = ap s.right (cert_same c)
  cert_same (s.unpack k c) = ap (s.unpack k) (cert_same c)
  cert_same (s.cases k c d) = λ i. s.cases k (cert_same c i) (cert_same d i)
  cert_same (s.split e c d) = λ i. s.split (term_same e i) (cert_same c i) (cert_same d i)
  cert_same (s.have e c d) = λ i. s.have (term_same e i) (cert_same c i) (cert_same d i)
  cert_same (s.absurdity k j) = refl
  cert_same (s.negation c) = ap s.negation (cert_same c)
  cert_same (s.contra c) = ap s.contra (cert_same c)
  cert_same s.reflexive = refl
  cert_same (s.fwd k e c) = λ i. s.fwd k (term_same e i) (cert_same c i)
  cert_same (s.rev k e c) = λ i. s.rev k (term_same e i) (cert_same c i)
  cert_same (s.instance k es c) = λ i. s.instance k (terms_same es i) (cert_same c i)
  cert_same s.ring = refl
  cert_same s.range = refl
