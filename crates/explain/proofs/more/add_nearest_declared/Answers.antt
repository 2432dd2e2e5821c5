use Rattle.std.proofs.Common.{◌≡◌, ◌++◌, OnOk, subst}
use Rattle.call_inputs.proofs.TextLaws.{program_reading}
use Rattle.cov_ast.specs.View as view
use Rattle.explain.specs.Tellings.{unnamed_asked}
use Rattle.explain.proofs.more.add_nearest_declared.Goals as goal

pub returns-in-Ok : goal.returns-in-Ok
returns-in-Ok c p spells =
    let one = program_reading.one_value c.args.bytes.now (view.parsed c.in-Ok.parsed) p c.in-Ok.ensures.read spells in
    subst (λ q. OnOk c.add_nearest.result (c.add_nearest.new.text ≡ c.args.text.now ++ unnamed_asked q c.args.refusal.now)) one c.add_nearest.ensures
