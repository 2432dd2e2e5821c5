-- The variables of a certificate that a deeper search comes to are those of hypotheses and goal, and its expressions are of words where theirs are.
use Rattle.std.proofs.Common.{◌≡◌, ℕ, ◌<◌, ◌^◌, ◌==◌, ◌&&◌, List, [], ◌∷◌, true, false, All, sym, subst, true≢false, inl, inr, arith}
use Rattle.std.specs.List.{list_any, list_all}
use Rattle.std.proofs.lemmas.Bool.{and_parts, or_cases, eqb-true, ltb-true}
use Rattle.std.proofs.lemmas.List.Elements.{All-nil, All-cons, All-head, All-tail}
use Rattle.cov_expr.specs.declared.expr.TheConstants.{HOLE}
use Rattle.cov_expr.specs.Term.{Term, const, var, neg, bin}
use Rattle.cov_expr.specs.Trees.{mentions}
use Rattle.cov_expr.specs.Words.{IsWord, HasWords, HasVarsBelow}
use Rattle.cov_ast.specs.Syntax.{Cert}
use Rattle.cov_ast.specs.Syntax as by
use Rattle.cov_ast.specs.WellFormed.{CertHasWords, IsCertInRange, IsTemplateBelow}
use Rattle.cert_search.specs.Classes.{is_within}
use Rattle.entail_search.specs.Within.{is_mentioned, is_known, is_fit, has_fit_expressions, cert_nodes, cert_height, is_cert_within}
use Rattle.cov_expr.specs.declared.limits.TheConstants.{MOST_CERT_NODES, MOST_HEIGHT}
use Rattle.std.specs.Prelude.{nat_le}

module _ (n : ℕ) where
  mentioned_in : (e : Term) (x : ℕ) → HasVarsBelow e n → HasWords e → mentions e x ≡ true → (x < n) × IsWord x
  mentioned_in (const k) x f w h = absurd (true≢false (sym h))
  mentioned_in (var y) x f w h = subst (λ z. (z < n) × IsWord z) (eqb-true y x h) (f, w)
  mentioned_in (neg e) x f w h = mentioned_in e x f w h
  mentioned_in (bin op a b) x f w h = elim (or_cases (mentions a x) (mentions b x) h) [
    | inl k ↦ mentioned_in a x f.0 w.0 k
    | inr k ↦ mentioned_in b x f.1 w.1 k
  ]

  any_mentioned : (es : List Term) (x : ℕ) → All (λ e. HasVarsBelow e n) es → All HasWords es → list_any (λ h. mentions h x) es ≡ true → (x < n) × IsWord x
  any_mentioned [] x f w h = absurd (true≢false (sym h))
  any_mentioned (e ∷ es) x f w h = elim (or_cases (mentions e x) (list_any (λ h. mentions h x) es) h) [
    | inl k ↦ mentioned_in e x (All-head (λ e. HasVarsBelow e n) e es f) (All-head HasWords e es w) k
    | inr k ↦ any_mentioned es x (All-tail (λ e. HasVarsBelow e n) e es f) (All-tail HasWords e es w) k
  ]

module _ (n locks : ℕ) (hyps : List Term) (goal : Term) (known : (x : ℕ) → is_mentioned hyps goal x ≡ true → (x < n) × IsWord x) where
  expr_in_range : (e : Term) → is_known hyps goal false e ≡ true → HasVarsBelow e n × HasWords e
  expr_in_range (const k) h = (tt, ltb-true k (2 ^ 32) h)
  expr_in_range (var x) h = known x h
  expr_in_range (neg e) h = expr_in_range e h
  expr_in_range (bin op a b) h =
      let both = and_parts (is_known hyps goal false a) (is_known hyps goal false b) h in
      let x = expr_in_range a both.0 in
      let y = expr_in_range b both.1 in
      ((x.0, y.0), (x.1, y.1))

  template_in_range : (e : Term) → is_known hyps goal true e ≡ true → IsTemplateBelow e n × HasWords e
  template_in_range (const k) h = (tt, ltb-true k (2 ^ 32) h)
  template_in_range (var x) h = elim (or_cases (x == HOLE) (is_mentioned hyps goal x) h) [
    | inl k ↦ let e : x ≡ HOLE = eqb-true x HOLE k in (inr e, omega (arith, e))
    | inr k ↦ (inl (known x k).0, (known x k).1)
  ]
  template_in_range (neg e) h = template_in_range e h
  template_in_range (bin op a b) h =
      let both = and_parts (is_known hyps goal true a) (is_known hyps goal true b) h in
      let x = template_in_range a both.0 in
      let y = template_in_range b both.1 in
      ((x.0, y.0), (x.1, y.1))

  fit_in_range : (e : Term) → is_fit hyps goal false e ≡ true → HasVarsBelow e n × HasWords e
  fit_in_range e h = expr_in_range e (and_parts (is_within e) (is_known hyps goal false e) h).1

  fit_template_in_range : (e : Term) → is_fit hyps goal true e ≡ true → IsTemplateBelow e n × HasWords e
  fit_template_in_range e h = template_in_range e (and_parts (is_within e) (is_known hyps goal true e) h).1

  all_in_range : (es : List Term) → list_all (is_fit hyps goal false) es ≡ true → All (λ e. HasVarsBelow e n) es × All HasWords es
  all_in_range [] h = (All-nil (λ e. HasVarsBelow e n), All-nil HasWords)
  all_in_range (e ∷ es) h =
      let both = and_parts (is_fit hyps goal false e) (list_all (is_fit hyps goal false) es) h in
      let x = fit_in_range e both.0 in
      let y = all_in_range es both.1 in
      (All-cons (λ e. HasVarsBelow e n) e es x.0 y.0, All-cons HasWords e es x.1 y.1)

  abbrev IsFine : Cert → Type 0
  IsFine c = IsCertInRange n locks c × CertHasWords c

  two : (c d : Cert) → IsFine c → IsFine d → (IsCertInRange n locks c × IsCertInRange n locks d) × (CertHasWords c × CertHasWords d)
  two c d x y = ((x.0, y.0), (x.1, y.1))

  cert_in_range : (c : Cert) → has_fit_expressions hyps goal c ≡ true → IsFine c
  cert_in_range by.auto h = (tt, tt)
  cert_in_range (by.hyp i) h = (tt, tt)
  cert_in_range by.calc h = (tt, tt)
  cert_in_range (by.clash i) h = (tt, tt)
  cert_in_range (by.and c d) h =
      let both = and_parts (has_fit_expressions hyps goal c) (has_fit_expressions hyps goal d) h in
      two c d (cert_in_range c both.0) (cert_in_range d both.1)
  cert_in_range (by.left c) h = cert_in_range c h
  cert_in_range (by.right c) h = cert_in_range c h
  cert_in_range (by.unpack i c) h = cert_in_range c h
  cert_in_range (by.cases i c d) h =
      let both = and_parts (has_fit_expressions hyps goal c) (has_fit_expressions hyps goal d) h in
      two c d (cert_in_range c both.0) (cert_in_range d both.1)
  cert_in_range (by.split e c d) h =
      let rest = and_parts (is_fit hyps goal false e && has_fit_expressions hyps goal c) (has_fit_expressions hyps goal d) h in
      let first = and_parts (is_fit hyps goal false e) (has_fit_expressions hyps goal c) rest.0 in
      let f = fit_in_range e first.0 in
      let x = cert_in_range c first.1 in
      let y = cert_in_range d rest.1 in
      ((f.0, x.0, y.0), (f.1, x.1, y.1))
  cert_in_range (by.have e c d) h =
      let rest = and_parts (is_fit hyps goal false e && has_fit_expressions hyps goal c) (has_fit_expressions hyps goal d) h in
      let first = and_parts (is_fit hyps goal false e) (has_fit_expressions hyps goal c) rest.0 in
      let f = fit_in_range e first.0 in
      let x = cert_in_range c first.1 in
      let y = cert_in_range d rest.1 in
      ((f.0, x.0, y.0), (f.1, x.1, y.1))
  cert_in_range (by.absurdity i j) h = (tt, tt)
  cert_in_range (by.negation c) h = cert_in_range c h
  cert_in_range (by.contra c) h = cert_in_range c h
  cert_in_range by.reflexive h = (tt, tt)
  cert_in_range (by.fwd i t c) h =
      let both = and_parts (is_fit hyps goal true t) (has_fit_expressions hyps goal c) h in
      let f = fit_template_in_range t both.0 in
      let x = cert_in_range c both.1 in
      ((f.0, x.0), (f.1, x.1))
  cert_in_range (by.rev i t c) h =
      let both = and_parts (is_fit hyps goal true t) (has_fit_expressions hyps goal c) h in
      let f = fit_template_in_range t both.0 in
      let x = cert_in_range c both.1 in
      ((f.0, x.0), (f.1, x.1))
  cert_in_range (by.instance k es c) h =
      let both = and_parts (list_all (is_fit hyps goal false) es) (has_fit_expressions hyps goal c) h in
      let f = all_in_range es both.0 in
      let x = cert_in_range c both.1 in
      ((f.0, x.0), (f.1, x.1))
  cert_in_range by.ring h = (tt, tt)
  cert_in_range by.range h = (tt, tt)

pub within_in_range : (n locks : ℕ) (hyps : List Term) (goal : Term) (c : Cert) → All (λ h. HasVarsBelow h n) hyps → All HasWords hyps → HasVarsBelow goal n → HasWords goal
    → is_cert_within hyps goal c ≡ true → IsCertInRange n locks c × CertHasWords c
within_in_range n locks hyps goal c hs ws g w h =
    let parts = and_parts (nat_le (cert_nodes c) MOST_CERT_NODES && nat_le (cert_height c) MOST_HEIGHT) (has_fit_expressions hyps goal c) h in
    cert_in_range n locks hyps goal known c parts.1
  where
    known : (x : ℕ) → is_mentioned hyps goal x ≡ true → (x < n) × IsWord x
    known x k = elim (or_cases (mentions goal x) (list_any (λ h. mentions h x) hyps) k) [
      | inl m ↦ mentioned_in n goal x g w m
      | inr m ↦ any_mentioned n hyps x hs ws m
    ]
