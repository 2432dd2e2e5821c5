use Rattle.std.proofs.Common.{[], sym, ap, ◌∙◌}
use Rattle.std.proofs.lemmas.Option.{get_or_from_slice_get}
use Rattle.cov_ast.specs.NameTables.{number_of}
use Rattle.replay_inputs.specs.Inside.{variables}
use Rattle.replay_inputs.proofs.expressions.id_of.Goals as goal

pub returns : goal.returns
returns c =
    c.id_named.ensures.place
    ∙ ap (number_of (variables c.args.vars.now)) (sym (get_or_from_slice_get c.args.names.now c.args.number c.name.result [] c.name.ensures))
