use Rattle.std.proofs.Common.{ap, ap₂, ◌∙◌, sym}
use Rattle.cov_expr.specs.Term.{neg, bin}
use Rattle.cov_expr.specs.View.{term}
use Rattle.cov_expr.proofs.View.{term-Not, term-Bin}
use Rattle.replay_inputs.specs.Expressions.{by_id}
use Rattle.replay_inputs.specs.Inside.{variables}
use Rattle.replay_inputs.proofs.expressions.+resolve_variables.Goals as goal

pub returns-in-Not : goal.returns-in-Not
returns-in-Not t c =
    let f = by_id (variables c.args.vars.now) c.args.names.now in
    rw c.in-Not.is
    (term-Not _ ∙ ap neg (c.resolve_variables.ensures ∙ ap (λ e. f (term e)) c.deref_mut.ensures.value) ∙ ap f (sym (term-Not c.in-Not.a)))

pub returns-in-Bin : goal.returns-in-Bin
returns-in-Bin t c =
    let f = by_id (variables c.args.vars.now) c.args.names.now in
    rw c.in-Bin.is
    (term-Bin c.in-Bin.field-0 _ _
    ∙ ap₂ (bin c.in-Bin.field-0) (c.resolve_variables-in-Bin.ensures ∙ ap (λ e. f (term e)) c.deref_mut-in-Bin.ensures.value)
    (c.resolve_variables-in-Bin-2.ensures ∙ ap (λ e. f (term e)) c.deref_mut-in-Bin-2.ensures.value)
    ∙ ap f (sym (term-Bin c.in-Bin.field-0 c.in-Bin.a c.in-Bin.b)))
