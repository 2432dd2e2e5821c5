use Rattle.std.proofs.Common.{◌∙◌, ◌++◌, ap, sym, subst}
use Rattle.cov_ast.specs.Obligations.{first_false}
use Rattle.cov_ast.specs.Ready.{IsReady}
use Rattle.cov_ast.specs.View as view
use Rattle.cov_ast.specs.WellFormed.{IsWellFormed}
use Rattle.policy_class.specs.Resolved.{name_obligations, resolved}
use Rattle.typing_law.specs.Accepted.{program_obligations}
use Rattle.annotate.specs.Annotated.{first_refused, unproved}
use Rattle.annotate.proofs.annotation.annotate.Goals as goal

pub first_refusal-requires : goal.first_refusal-requires
first_refusal-requires c =
    let p = view.parsed c.args.p in
    let formed = subst IsWellFormed c.requires.resolved c.requires.formed in
    subst IsReady (sym c.in_ok-text.ensures.text) (c.annotated_text_is_read.ensures.read c.args.depth p formed c.requires.read).ready

pub returns-clause-first : goal.returns-clause-first
returns-clause-first c =
    let p = view.parsed c.args.p in
    let formed = subst IsWellFormed c.requires.resolved c.requires.formed in
    c.in_ok-first.ensures
    ∙ ap (λ r. first_false (name_obligations r ++ program_obligations (resolved r))) c.in_ok-text.ensures.text
    ∙ c.refusals_are_of_the_annotated_text.ensures.first c.args.depth p formed c.requires.read c.requires.names
    ∙ ap (first_refused c.args.depth) (sym c.requires.resolved)

pub returns-clause-unproved : goal.returns-clause-unproved
returns-clause-unproved c = c.in_ok-text.ensures.unproved ∙ ap (λ os. os ++ unproved c.args.depth (view.program c.args.q.now)) c.new-unproved.ensures
