use Rattle.std.proofs.Common.{◌++◌, [], append_assoc, ap, sym, map, if◌then◌else◌, ◌∙◌}
use Rattle.std.proofs.lemmas.Bool.{eq-eqb}
use Rattle.std.proofs.lemmas.List.{append-nil}
use Rattle.cov_ast.specs.View as view
use Rattle.refusal_names.specs.NameLines.{two_reads}
use Rattle.refusal_names.specs.UnstableVariables.{unstable_line}
use Rattle.refusal_names.proofs.reads.add_two_with_causes.Goals as goal

pub returns-then-x-y : goal.returns-then-x-y
returns-then-x-y c =
    let cause = unstable_line c.args.names.now c.args.bytes.now (map view.lock c.args.locks.now) c.args.modes.now.held in
    let text = c.args.text.now in
    let two = two_reads c.args.names.now c.args.x c.args.y in
    c.in_ok-add_unstable.ensures
    ∙ ap (λ t. t ++ cause c.args.x) c.in_ok-add_two.ensures
    ∙ append_assoc text two (cause c.args.x)
    ∙ ap (λ t. text ++ (two ++ t)) (sym (append-nil (cause c.args.x)) ∙ ap (λ b. cause c.args.x ++ (if b then [] else cause c.args.y)) (sym (eq-eqb c.args.x c.args.y c.if-x-y.true)))
