-- The path of the first node of a certificate that fails leads to a node, and that node's own condition fails.
use Rattle.std.proofs.Common.{◌≡◌, ℕ, List, [], ◌∷◌, ◌++◌, Bool, true, false, Option, Some, None, refl, ◌∙◌, ap}
use Rattle.cov_expr.specs.declared.expr.Op.TheVariants.{Eq, Both, Either}
use Rattle.cov_expr.specs.Term.{Term, const, neg}
use Rattle.cov_expr.specs.Trees.{same}
use Rattle.cov_ast.specs.Syntax.{Cert}
use Rattle.cov_ast.specs.Syntax as by
use Rattle.entail_cert.specs.Axioms.{numbered, axiom_for}
use Rattle.entail_cert.specs.Valid.{is_plain, is_true, is_false, is_some_and, is_negation, is_reflexive, operands, operands_of, negated, is_ring, is_range, filled, only_if, only_with, one, two, first_bad}
use Rattle.entail_text.specs.Nodes.{Node, node, with, only, chosen, child, node_at, bad, LeadsToFailure}

-- What a search finds --------------------------------------------------------------------------------------------

module _ (C : Type 0) (path : List ℕ) where
  if_cases : (b : Bool) (x : Option (List ℕ)) → only_if b x ≡ Some path → (path ≡ [] → C) → (x ≡ Some path → C) → C
  if_cases true x h here below = below h
  if_cases false x h here below = here cc

  leaf_cases : (b : Bool) → only_if b None ≡ Some path → (path ≡ [] → C) → C
  leaf_cases b h here = if_cases b None h here (λ e. let f : ◌≡◌ {A = Option (List ℕ)} None (Some path) = e in cc)

  with_cases : (A : Type 0) (o : Option A) (f : A → Option (List ℕ)) → only_with o f ≡ Some path → (path ≡ [] → C)
      → ((x : A) → o ≡ Some x → f x ≡ Some path → C) → C
  with_cases A None f h here below = here cc
  with_cases A (Some x) f h here below = below x refl h

  one_cases : (x : Option (List ℕ)) → one x ≡ Some path → ((rest : List ℕ) → path ≡ 1 ∷ rest → x ≡ Some rest → C) → C
  one_cases None h below = let f : ◌≡◌ {A = Option (List ℕ)} None (Some path) = h in cc
  one_cases (Some rest) h below = below rest (cc) refl

  two_cases : (x y : Option (List ℕ)) → two x y ≡ Some path → ((rest : List ℕ) → path ≡ 1 ∷ rest → x ≡ Some rest → C)
      → ((rest : List ℕ) → path ≡ 2 ∷ rest → y ≡ Some rest → C) → C
  two_cases (Some rest) y h first second = first rest (cc) refl
  two_cases None None h first second = let f : ◌≡◌ {A = Option (List ℕ)} None (Some path) = h in cc
  two_cases None (Some rest) h first second = second rest (cc) refl

-- Where a path leads ---------------------------------------------------------------------------------------------

here : (root : Node) (path : List ℕ) → bad root ≡ Some path → path ≡ [] → LeadsToFailure root path
here root path h e = record { found = root; stands = ap (λ p. node_at p root) e; fails = h ∙ ap Some e }

below : (root next : Node) (step : ℕ) (rest path : List ℕ) → path ≡ step ∷ rest → child root step ≡ Some next → LeadsToFailure next rest → LeadsToFailure root path
below root next step rest path e is h = record {
  found = h.found;
  stands = ap (λ p. node_at p root) e ∙ ap (λ o. with o (node_at rest)) is ∙ h.stands;
  fails = h.fails;
}

pub leads : (c : Cert) (hyps : List Term) (goal : Term) (path : List ℕ) → first_bad hyps goal c ≡ Some path → LeadsToFailure (node hyps goal c) path
leads by.auto hyps goal path h =
    let root = node hyps goal by.auto in
    leaf_cases (LeadsToFailure root path) path (is_plain hyps goal) h (here root path h)
leads (by.hyp i) hyps goal path h =
    let root = node hyps goal (by.hyp i) in
    leaf_cases (LeadsToFailure root path) path (is_some_and (λ h. same h goal) (numbered hyps i)) h (here root path h)
leads by.calc hyps goal path h =
    let root = node hyps goal by.calc in
    leaf_cases (LeadsToFailure root path) path (is_true goal) h (here root path h)
leads (by.clash i) hyps goal path h =
    let root = node hyps goal (by.clash i) in
    leaf_cases (LeadsToFailure root path) path (is_some_and is_false (numbered hyps i)) h (here root path h)
leads (by.and c d) hyps goal path h =
    let root = node hyps goal (by.and c d) in
    with_cases (LeadsToFailure root path) path (Term × Term) (operands Both goal) (λ (a, b). two (first_bad hyps a c) (first_bad hyps b d)) h (here root path h)
    (λ p is k. two_cases (LeadsToFailure root path) path (first_bad hyps p.0 c) (first_bad hyps p.1 d) k
    (λ rest e f. below root (node hyps p.0 c) 1 rest path e (ap (λ o. with o (λ (a, b). chosen 1 (node hyps a c) (node hyps b d))) is) (leads c hyps p.0 rest f))
    (λ rest e f. below root (node hyps p.1 d) 2 rest path e (ap (λ o. with o (λ (a, b). chosen 2 (node hyps a c) (node hyps b d))) is) (leads d hyps p.1 rest f)))
leads (by.left c) hyps goal path h =
    let root = node hyps goal (by.left c) in
    with_cases (LeadsToFailure root path) path (Term × Term) (operands Either goal) (λ (a, b). one (first_bad hyps a c)) h (here root path h)
    (λ p is k. one_cases (LeadsToFailure root path) path (first_bad hyps p.0 c) k
    (λ rest e f. below root (node hyps p.0 c) 1 rest path e (ap (λ o. with o (λ (a, b). only 1 (node hyps a c))) is) (leads c hyps p.0 rest f)))
leads (by.right c) hyps goal path h =
    let root = node hyps goal (by.right c) in
    with_cases (LeadsToFailure root path) path (Term × Term) (operands Either goal) (λ (a, b). one (first_bad hyps b c)) h (here root path h)
    (λ p is k. one_cases (LeadsToFailure root path) path (first_bad hyps p.1 c) k
    (λ rest e f. below root (node hyps p.1 c) 1 rest path e (ap (λ o. with o (λ (a, b). only 1 (node hyps b c))) is) (leads c hyps p.1 rest f)))
leads (by.unpack i c) hyps goal path h =
    let root = node hyps goal (by.unpack i c) in
    with_cases (LeadsToFailure root path) path (Term × Term) (operands_of Both (numbered hyps i)) (λ (a, b). one (first_bad (hyps ++ a ∷ b ∷ []) goal c)) h (here root path h)
    (λ p is k. one_cases (LeadsToFailure root path) path (first_bad (hyps ++ p.0 ∷ p.1 ∷ []) goal c) k
    (λ rest e f. below root (node (hyps ++ p.0 ∷ p.1 ∷ []) goal c) 1 rest path e (ap (λ o. with o (λ (a, b). only 1 (node (hyps ++ a ∷ b ∷ []) goal c))) is)
    (leads c (hyps ++ p.0 ∷ p.1 ∷ []) goal rest f)))
leads (by.cases i c d) hyps goal path h =
    let root = node hyps goal (by.cases i c d) in
    with_cases (LeadsToFailure root path) path (Term × Term) (operands_of Either (numbered hyps i))
    (λ (a, b). two (first_bad (hyps ++ a ∷ []) goal c) (first_bad (hyps ++ b ∷ []) goal d)) h (here root path h)
    (λ p is k. two_cases (LeadsToFailure root path) path (first_bad (hyps ++ p.0 ∷ []) goal c) (first_bad (hyps ++ p.1 ∷ []) goal d) k
    (λ rest e f. below root (node (hyps ++ p.0 ∷ []) goal c) 1 rest path e
    (ap (λ o. with o (λ (a, b). chosen 1 (node (hyps ++ a ∷ []) goal c) (node (hyps ++ b ∷ []) goal d))) is) (leads c (hyps ++ p.0 ∷ []) goal rest f))
    (λ rest e f. below root (node (hyps ++ p.1 ∷ []) goal d) 2 rest path e
    (ap (λ o. with o (λ (a, b). chosen 2 (node (hyps ++ a ∷ []) goal c) (node (hyps ++ b ∷ []) goal d))) is) (leads d (hyps ++ p.1 ∷ []) goal rest f)))
leads (by.split x c d) hyps goal path h =
    let root = node hyps goal (by.split x c d) in
    two_cases (LeadsToFailure root path) path (first_bad (hyps ++ x ∷ []) goal c) (first_bad (hyps ++ neg x ∷ []) goal d) h
    (λ rest e f. below root (node (hyps ++ x ∷ []) goal c) 1 rest path e refl (leads c (hyps ++ x ∷ []) goal rest f))
    (λ rest e f. below root (node (hyps ++ neg x ∷ []) goal d) 2 rest path e refl (leads d (hyps ++ neg x ∷ []) goal rest f))
leads (by.have x c d) hyps goal path h =
    let root = node hyps goal (by.have x c d) in
    two_cases (LeadsToFailure root path) path (first_bad hyps x c) (first_bad (hyps ++ x ∷ []) goal d) h
    (λ rest e f. below root (node hyps x c) 1 rest path e refl (leads c hyps x rest f))
    (λ rest e f. below root (node (hyps ++ x ∷ []) goal d) 2 rest path e refl (leads d (hyps ++ x ∷ []) goal rest f))
leads (by.absurdity i j) hyps goal path h =
    let root = node hyps goal (by.absurdity i j) in
    leaf_cases (LeadsToFailure root path) path (is_negation (numbered hyps i) (numbered hyps j)) h (here root path h)
leads (by.negation c) hyps goal path h =
    let root = node hyps goal (by.negation c) in
    with_cases (LeadsToFailure root path) path Term (negated goal) (λ a. one (first_bad (hyps ++ a ∷ []) (const 0) c)) h (here root path h)
    (λ a is k. one_cases (LeadsToFailure root path) path (first_bad (hyps ++ a ∷ []) (const 0) c) k
    (λ rest e f. below root (node (hyps ++ a ∷ []) (const 0) c) 1 rest path e (ap (λ o. with o (λ a. only 1 (node (hyps ++ a ∷ []) (const 0) c))) is)
    (leads c (hyps ++ a ∷ []) (const 0) rest f)))
leads (by.contra c) hyps goal path h =
    let root = node hyps goal (by.contra c) in
    one_cases (LeadsToFailure root path) path (first_bad (hyps ++ neg goal ∷ []) (const 0) c) h
    (λ rest e f. below root (node (hyps ++ neg goal ∷ []) (const 0) c) 1 rest path e refl (leads c (hyps ++ neg goal ∷ []) (const 0) rest f))
leads by.reflexive hyps goal path h =
    let root = node hyps goal by.reflexive in
    leaf_cases (LeadsToFailure root path) path (is_reflexive (operands Eq goal)) h (here root path h)
leads (by.fwd i t c) hyps goal path h =
    let root = node hyps goal (by.fwd i t c) in
    with_cases (LeadsToFailure root path) path (Term × Term) (operands_of Eq (numbered hyps i))
    (λ (a, b). only_if (same (filled t a) goal) (one (first_bad hyps (filled t b) c))) h (here root path h)
    (λ p is k. if_cases (LeadsToFailure root path) path (same (filled t p.0) goal) (one (first_bad hyps (filled t p.1) c)) k (here root path h)
    (λ k. one_cases (LeadsToFailure root path) path (first_bad hyps (filled t p.1) c) k
    (λ rest e f. below root (node hyps (filled t p.1) c) 1 rest path e (ap (λ o. with o (λ (a, b). only 1 (node hyps (filled t b) c))) is)
    (leads c hyps (filled t p.1) rest f))))
leads (by.rev i t c) hyps goal path h =
    let root = node hyps goal (by.rev i t c) in
    with_cases (LeadsToFailure root path) path (Term × Term) (operands_of Eq (numbered hyps i))
    (λ (a, b). only_if (same (filled t b) goal) (one (first_bad hyps (filled t a) c))) h (here root path h)
    (λ p is k. if_cases (LeadsToFailure root path) path (same (filled t p.1) goal) (one (first_bad hyps (filled t p.0) c)) k (here root path h)
    (λ k. one_cases (LeadsToFailure root path) path (first_bad hyps (filled t p.0) c) k
    (λ rest e f. below root (node hyps (filled t p.0) c) 1 rest path e (ap (λ o. with o (λ (a, b). only 1 (node hyps (filled t a) c))) is)
    (leads c hyps (filled t p.0) rest f))))
leads (by.instance n es c) hyps goal path h =
    let root = node hyps goal (by.instance n es c) in
    with_cases (LeadsToFailure root path) path Term (axiom_for n es) (λ e. one (first_bad (hyps ++ e ∷ []) goal c)) h (here root path h)
    (λ a is k. one_cases (LeadsToFailure root path) path (first_bad (hyps ++ a ∷ []) goal c) k
    (λ rest e f. below root (node (hyps ++ a ∷ []) goal c) 1 rest path e (ap (λ o. with o (λ e. only 1 (node (hyps ++ e ∷ []) goal c))) is)
    (leads c (hyps ++ a ∷ []) goal rest f)))
leads by.ring hyps goal path h =
    let root = node hyps goal by.ring in
    leaf_cases (LeadsToFailure root path) path (is_ring goal) h (here root path h)
leads by.range hyps goal path h =
    let root = node hyps goal by.range in
    leaf_cases (LeadsToFailure root path) path (is_range hyps goal) h (here root path h)
