use Rattle.std.proofs.Common.{codes, map}
use Rattle.cov_ast.specs.View as view
use Rattle.refusal_names.specs.GivenTypes.{variable_text}
use Rattle.refusal_names.specs.UnstableVariables.{unstable_line}
use Rattle.refusal_names.proofs.LineLaws.{two_pieces}
use Rattle.refusal_names.proofs.given_types.add_untracked.Goals as goal

pub returns : goal.returns
returns c =
    two_pieces c.add_unstable.result c.args.text.now (variable_text c.args.names.now c.args.z (codes " isn't stable here, and has no type\n"))
    (unstable_line c.args.names.now c.args.bytes.now (map view.lock c.args.locks.now) c.args.modes.now.held c.args.z) c.add_with_words.new.text c.add_unstable.new.text
    c.in_ok-add_with_words.ensures c.add_unstable.ensures
