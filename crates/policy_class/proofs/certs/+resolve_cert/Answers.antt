use Rattle.std.proofs.Common.{ap, ◌∙◌, subst, sym}
use Rattle.cov_expr.specs.View.{term}
use Rattle.cov_expr.specs.Words.{HasWords}
use Rattle.cov_ast.specs.Syntax as s
use Rattle.cov_ast.specs.View as view
use Rattle.cov_ast.specs.WellFormed.{CertHasWords}
use Rattle.policy_class.specs.Inside.Ids.{var_in, lock_in}
use Rattle.policy_class.specs.Resolved.{resolved_cert, resolved_term}
use Rattle.cov_ast.proofs.CertViews.{cert-And, cert-Left, cert-Right, cert-Unpack, cert-Cases, cert-Split, cert-Have, cert-Not, cert-Contra, cert-Fwd, cert-Rev, cert-Axiom}
use Rattle.policy_class.proofs.WalkLaws.{lent_changed, lent_words}
use Rattle.policy_class.proofs.certs.+resolve_cert.Goals as goal

pub returns-in-Left-clause-resolved : goal.returns-in-Left-clause-resolved
returns-in-Left-clause-resolved t c =
    let f = resolved_cert (var_in c.args.ids.now) (lock_in c.args.ids.now) in
    rw c.in-Left.is
    (cert-Left _ ∙ ap s.left (c.resolve_cert.ensures.resolved ∙ ap (λ d. f (view.cert d)) c.deref_mut.ensures.value)
    ∙ ap f (sym (cert-Left c.in-Left.c)))

pub returns-in-Left-clause-words : goal.returns-in-Left-clause-words
returns-in-Left-clause-words t c = subst CertHasWords (sym (cert-Left _)) c.resolve_cert.ensures.words

pub returns-in-Right-clause-resolved : goal.returns-in-Right-clause-resolved
returns-in-Right-clause-resolved t c =
    let f = resolved_cert (var_in c.args.ids.now) (lock_in c.args.ids.now) in
    rw c.in-Right.is
    (cert-Right _ ∙ ap s.right (c.resolve_cert-in-Right.ensures.resolved ∙ ap (λ d. f (view.cert d)) c.deref_mut-in-Right.ensures.value)
    ∙ ap f (sym (cert-Right c.in-Right.c)))

pub returns-in-Right-clause-words : goal.returns-in-Right-clause-words
returns-in-Right-clause-words t c = subst CertHasWords (sym (cert-Right _)) c.resolve_cert-in-Right.ensures.words

pub returns-in-Unpack-clause-resolved : goal.returns-in-Unpack-clause-resolved
returns-in-Unpack-clause-resolved t c =
    let f = resolved_cert (var_in c.args.ids.now) (lock_in c.args.ids.now) in
    rw c.in-Unpack.is
    (cert-Unpack c.in-Unpack.field-0 _ ∙ ap (s.unpack c.in-Unpack.field-0) (c.resolve_cert-in-Unpack.ensures.resolved ∙ ap (λ d. f (view.cert d)) c.deref_mut-in-Unpack.ensures.value)
    ∙ ap f (sym (cert-Unpack c.in-Unpack.field-0 c.in-Unpack.c)))

pub returns-in-Unpack-clause-words : goal.returns-in-Unpack-clause-words
returns-in-Unpack-clause-words t c = subst CertHasWords (sym (cert-Unpack c.in-Unpack.field-0 _)) c.resolve_cert-in-Unpack.ensures.words

pub returns-in-Not-clause-resolved : goal.returns-in-Not-clause-resolved
returns-in-Not-clause-resolved t c =
    let f = resolved_cert (var_in c.args.ids.now) (lock_in c.args.ids.now) in
    rw c.in-Not.is
    (cert-Not _ ∙ ap s.negation (c.resolve_cert-in-Not.ensures.resolved ∙ ap (λ d. f (view.cert d)) c.deref_mut-in-Not.ensures.value)
    ∙ ap f (sym (cert-Not c.in-Not.c)))

pub returns-in-Not-clause-words : goal.returns-in-Not-clause-words
returns-in-Not-clause-words t c = subst CertHasWords (sym (cert-Not _)) c.resolve_cert-in-Not.ensures.words

pub returns-in-Contra-clause-resolved : goal.returns-in-Contra-clause-resolved
returns-in-Contra-clause-resolved t c =
    let f = resolved_cert (var_in c.args.ids.now) (lock_in c.args.ids.now) in
    rw c.in-Contra.is
    (cert-Contra _ ∙ ap s.contra (c.resolve_cert-in-Contra.ensures.resolved ∙ ap (λ d. f (view.cert d)) c.deref_mut-in-Contra.ensures.value)
    ∙ ap f (sym (cert-Contra c.in-Contra.c)))

pub returns-in-Contra-clause-words : goal.returns-in-Contra-clause-words
returns-in-Contra-clause-words t c = subst CertHasWords (sym (cert-Contra _)) c.resolve_cert-in-Contra.ensures.words

pub returns-in-And-clause-resolved : goal.returns-in-And-clause-resolved
returns-in-And-clause-resolved t c =
    let f = resolved_cert (var_in c.args.ids.now) (lock_in c.args.ids.now) in
    let first = c.resolve_cert-in-And.ensures.resolved ∙ ap (λ d. f (view.cert d)) c.deref_mut-in-And.ensures.value in
    let second = c.resolve_cert-in-And-2.ensures.resolved ∙ ap (λ d. f (view.cert d)) c.deref_mut-in-And-2.ensures.value in
    rw c.in-And.is
    (cert-And _ _ ∙ (λ i. s.and (first i) (second i)) ∙ ap f (sym (cert-And c.in-And.c c.in-And.d)))

pub returns-in-And-clause-words : goal.returns-in-And-clause-words
returns-in-And-clause-words t c = subst CertHasWords (sym (cert-And _ _)) (c.resolve_cert-in-And.ensures.words, c.resolve_cert-in-And-2.ensures.words)

pub returns-in-Cases-clause-resolved : goal.returns-in-Cases-clause-resolved
returns-in-Cases-clause-resolved t c =
    let f = resolved_cert (var_in c.args.ids.now) (lock_in c.args.ids.now) in
    let first = c.resolve_cert-in-Cases.ensures.resolved ∙ ap (λ d. f (view.cert d)) c.deref_mut-in-Cases.ensures.value in
    let second = c.resolve_cert-in-Cases-2.ensures.resolved ∙ ap (λ d. f (view.cert d)) c.deref_mut-in-Cases-2.ensures.value in
    rw c.in-Cases.is
    (cert-Cases c.in-Cases.field-0 _ _ ∙ (λ i. s.cases c.in-Cases.field-0 (first i) (second i)) ∙ ap f (sym (cert-Cases c.in-Cases.field-0 c.in-Cases.c c.in-Cases.d)))

pub returns-in-Cases-clause-words : goal.returns-in-Cases-clause-words
returns-in-Cases-clause-words t c = subst CertHasWords (sym (cert-Cases c.in-Cases.field-0 _ _)) (c.resolve_cert-in-Cases.ensures.words, c.resolve_cert-in-Cases-2.ensures.words)

pub returns-in-Split-clause-resolved : goal.returns-in-Split-clause-resolved
returns-in-Split-clause-resolved t c =
    let f = resolved_cert (var_in c.args.ids.now) (lock_in c.args.ids.now) in
    let first = c.resolve_cert-in-Split.ensures.resolved ∙ ap (λ d. f (view.cert d)) c.deref_mut-in-Split.ensures.value in
    let second = c.resolve_cert-in-Split-2.ensures.resolved ∙ ap (λ d. f (view.cert d)) c.deref_mut-in-Split-2.ensures.value in
    rw c.in-Split.is
    (cert-Split _ _ _ ∙ (λ i. s.split (c.resolve_expr.ensures.resolved i) (first i) (second i)) ∙ ap f (sym (cert-Split c.in-Split.e c.in-Split.c c.in-Split.d)))

pub returns-in-Split-clause-words : goal.returns-in-Split-clause-words
returns-in-Split-clause-words t c = subst CertHasWords (sym (cert-Split _ _ _)) (c.resolve_expr.ensures.words, c.resolve_cert-in-Split.ensures.words, c.resolve_cert-in-Split-2.ensures.words)

pub returns-in-Have-clause-resolved : goal.returns-in-Have-clause-resolved
returns-in-Have-clause-resolved t c =
    let f = resolved_cert (var_in c.args.ids.now) (lock_in c.args.ids.now) in
    let first = c.resolve_cert-in-Have.ensures.resolved ∙ ap (λ d. f (view.cert d)) c.deref_mut-in-Have.ensures.value in
    let second = c.resolve_cert-in-Have-2.ensures.resolved ∙ ap (λ d. f (view.cert d)) c.deref_mut-in-Have-2.ensures.value in
    rw c.in-Have.is
    (cert-Have _ _ _ ∙ (λ i. s.have (c.resolve_expr-in-Have.ensures.resolved i) (first i) (second i)) ∙ ap f (sym (cert-Have c.in-Have.e c.in-Have.c c.in-Have.d)))

pub returns-in-Have-clause-words : goal.returns-in-Have-clause-words
returns-in-Have-clause-words t c = subst CertHasWords (sym (cert-Have _ _ _)) (c.resolve_expr-in-Have.ensures.words, c.resolve_cert-in-Have.ensures.words, c.resolve_cert-in-Have-2.ensures.words)

pub returns-in-Fwd-clause-resolved : goal.returns-in-Fwd-clause-resolved
returns-in-Fwd-clause-resolved t c =
    let f = resolved_cert (var_in c.args.ids.now) (lock_in c.args.ids.now) in
    let rest = c.resolve_cert-in-Fwd.ensures.resolved ∙ ap (λ d. f (view.cert d)) c.deref_mut-in-Fwd.ensures.value in
    rw c.in-Fwd.is
    (cert-Fwd c.in-Fwd.field-0 _ _ ∙ (λ i. s.fwd c.in-Fwd.field-0 (c.resolve_expr-in-Fwd.ensures.resolved i) (rest i))
    ∙ ap f (sym (cert-Fwd c.in-Fwd.field-0 c.in-Fwd.e c.in-Fwd.c)))

pub returns-in-Fwd-clause-words : goal.returns-in-Fwd-clause-words
returns-in-Fwd-clause-words t c = subst CertHasWords (sym (cert-Fwd c.in-Fwd.field-0 _ _)) (c.resolve_expr-in-Fwd.ensures.words, c.resolve_cert-in-Fwd.ensures.words)

pub returns-in-Rev-clause-resolved : goal.returns-in-Rev-clause-resolved
returns-in-Rev-clause-resolved t c =
    let f = resolved_cert (var_in c.args.ids.now) (lock_in c.args.ids.now) in
    let rest = c.resolve_cert-in-Rev.ensures.resolved ∙ ap (λ d. f (view.cert d)) c.deref_mut-in-Rev.ensures.value in
    rw c.in-Rev.is
    (cert-Rev c.in-Rev.field-0 _ _ ∙ (λ i. s.rev c.in-Rev.field-0 (c.resolve_expr-in-Rev.ensures.resolved i) (rest i))
    ∙ ap f (sym (cert-Rev c.in-Rev.field-0 c.in-Rev.e c.in-Rev.c)))

pub returns-in-Rev-clause-words : goal.returns-in-Rev-clause-words
returns-in-Rev-clause-words t c = subst CertHasWords (sym (cert-Rev c.in-Rev.field-0 _ _)) (c.resolve_expr-in-Rev.ensures.words, c.resolve_cert-in-Rev.ensures.words)

pub returns-in-Axiom-clause-resolved : goal.returns-in-Axiom-clause-resolved
returns-in-Axiom-clause-resolved t c =
    let f = resolved_cert (var_in c.args.ids.now) (lock_in c.args.ids.now) in
    let items =
    lent_changed term (resolved_term (var_in c.args.ids.now) (lock_in c.args.ids.now)) HasWords c.in-Axiom.es c.as_mut_slice.result.now c.resolve_exprs.new.es
    c.as_mut_slice.ensures.value c.resolve_exprs.ensures.resolved in
    let rest = c.resolve_cert-in-Axiom.ensures.resolved ∙ ap (λ d. f (view.cert d)) c.deref_mut-in-Axiom.ensures.value in
    rw c.in-Axiom.is
    (cert-Axiom c.in-Axiom.field-0 _ _ ∙ (λ i. s.instance c.in-Axiom.field-0 (items i) (rest i))
    ∙ ap f (sym (cert-Axiom c.in-Axiom.field-0 c.in-Axiom.es c.in-Axiom.c)))

pub returns-in-Axiom-clause-words : goal.returns-in-Axiom-clause-words
returns-in-Axiom-clause-words t c =
    let items =
    lent_words term (resolved_term (var_in c.args.ids.now) (lock_in c.args.ids.now)) HasWords c.in-Axiom.es c.as_mut_slice.result.now c.resolve_exprs.new.es
    c.as_mut_slice.ensures.value c.resolve_exprs.ensures.resolved c.resolve_exprs.ensures.words in
    subst CertHasWords (sym (cert-Axiom c.in-Axiom.field-0 _ _)) (items, c.resolve_cert-in-Axiom.ensures.words)
