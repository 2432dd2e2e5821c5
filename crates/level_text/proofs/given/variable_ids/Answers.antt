use Rattle.std.proofs.Common.{◌∙◌, arith}
use Rattle.std.specs.List.{position_or_len}
use Rattle.std.specs.Str.{bytes_eq}
use Rattle.std.proofs.lemmas.Option.{get_or_from_slice_get}
use Rattle.cov_ast.specs.View as program_view
use Rattle.policy_class.specs.Resolved.{var_names}
use Rattle.level_text.proofs.FindLaws.{name_step}
use Rattle.level_text.proofs.given.variable_ids.Goals as goal

pub loop-number-preserved : goal.loop-number-preserved
loop-number-preserved c =
    name_step (λ name. position_or_len (bytes_eq name) (var_names (program_view.parsed c.args.p.now))) c.args.names.now c.loop-number.number c.name.result c.loop-number.ids c.push.new.self c.variable_id.result
    (omega (arith, c.loop-number-test.true, c.len-number-end.ensures.len)) (get_or_from_slice_get c.args.names.now c.loop-number.number c.name.result c.name.result c.name.ensures) c.variable_id.ensures c.in_ok-push.ensures.ok
    ∙ c.loop-number.invariant
