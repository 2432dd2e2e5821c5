use Rattle.std.proofs.Common.{ap, cond, Some, None, ◌∙◌, sym, [], false}
use Rattle.std.proofs.lemmas.Option.{get_or_from_slice_get}
use Rattle.cov_ast.specs.View as view
use Rattle.cov_ast.specs.Obligations.{declared_obligation}
use Rattle.cov_ast.specs.declared.refusal.Rule.TheVariants.{W2}
use Rattle.cov_ast.specs.declared.refusal.Detail.TheVariants.{One}
use Rattle.policy_class.specs.Resolved.{use_obligation}
use Rattle.policy_class.proofs.UseLaws.{has_is_declared}
use Rattle.policy_class.proofs.uses.check_use.Goals as goal

pub returns-then-has : goal.returns-then-has
returns-then-has c =
    let p = view.parsed c.args.p.now in
    let used = c.args.used.now in
    ap (λ b. cond b None (Some (use_obligation p used).refusal))
    (sym (has_is_declared p c.args.ids.now used c.requires.ids) ∙ sym c.has.ensures ∙ c.if-has.true)

pub returns : goal.returns
returns c =
    let p = view.parsed c.args.p.now in
    let used = c.args.used.now in
    rw c.refused.ensures
    (ap (λ b. cond b None (Some (use_obligation p used).refusal))
    (sym (has_is_declared p c.args.ids.now used c.requires.ids) ∙ sym c.has.ensures ∙ c.if-has.false)
    ∙ ap (λ n. Some (declared_obligation W2 used.at (One n) false).refusal) (get_or_from_slice_get p.names used.name c.name-name.result [] c.name-name.ensures))
