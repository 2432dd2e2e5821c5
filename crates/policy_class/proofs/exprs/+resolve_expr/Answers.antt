use Rattle.std.proofs.Common.{ap, ap₂, ◌∙◌, subst, sym}
use Rattle.cov_expr.specs.Term.{neg, bin}
use Rattle.cov_expr.specs.View.{term}
use Rattle.cov_expr.specs.Words.{HasWords}
use Rattle.cov_expr.proofs.View.{term-Not, term-Bin}
use Rattle.policy_class.specs.Inside.Ids.{var_in, lock_in}
use Rattle.policy_class.specs.Resolved.{resolved_term}
use Rattle.policy_class.proofs.exprs.+resolve_expr.Goals as goal

pub returns-in-Not-clause-resolved : goal.returns-in-Not-clause-resolved
returns-in-Not-clause-resolved t c =
    let f = resolved_term (var_in c.args.ids.now) (lock_in c.args.ids.now) in
    rw c.in-Not.is
    (term-Not _ ∙ ap neg (c.resolve_expr.ensures.resolved ∙ ap (λ e. f (term e)) c.deref_mut.ensures.value) ∙ ap f (sym (term-Not c.in-Not.a)))

pub returns-in-Not-clause-words : goal.returns-in-Not-clause-words
returns-in-Not-clause-words t c = subst HasWords (sym (term-Not _)) c.resolve_expr.ensures.words

pub returns-in-Bin-clause-resolved : goal.returns-in-Bin-clause-resolved
returns-in-Bin-clause-resolved t c =
    let f = resolved_term (var_in c.args.ids.now) (lock_in c.args.ids.now) in
    rw c.in-Bin.is
    (term-Bin c.in-Bin.field-0 _ _
    ∙ ap₂ (bin c.in-Bin.field-0) (c.resolve_expr-in-Bin.ensures.resolved ∙ ap (λ e. f (term e)) c.deref_mut-in-Bin.ensures.value)
    (c.resolve_expr-in-Bin-2.ensures.resolved ∙ ap (λ e. f (term e)) c.deref_mut-in-Bin-2.ensures.value)
    ∙ ap f (sym (term-Bin c.in-Bin.field-0 c.in-Bin.a c.in-Bin.b)))

pub returns-in-Bin-clause-words : goal.returns-in-Bin-clause-words
returns-in-Bin-clause-words t c = subst HasWords (sym (term-Bin c.in-Bin.field-0 _ _)) (c.resolve_expr-in-Bin.ensures.words, c.resolve_expr-in-Bin-2.ensures.words)
