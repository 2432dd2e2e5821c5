use Rattle.std.proofs.Common.{get_or, refl, ◌∙◌, ◌<◌, length, sym, ap, map}
use Rattle.std.proofs.lemmas.List.{at_drop_all, get_or_default}
use Rattle.cov_ast.specs.View as program_view
use Rattle.level_text.specs.TextFaults as spec
use Rattle.level_text.specs.TextViews as views
use Rattle.level_text.proofs.PlaceLaws.{found_step, sooner_none}
use Rattle.cov_ast.proofs.WellFormedLaws.{seen_item}
use Rattle.level_text.proofs.FindLaws.{no_name}
use Rattle.level_text.proofs.variables.unknown_variable.Goals as goal

pub loop-variable-preserved : goal.loop-variable-preserved
loop-variable-preserved c =
    let l = c.loop-variable in
    found_step (spec.failing (spec.is_variable c.args.names.now (program_view.parsed c.args.p.now))) views.named c.args.variables.now l.variable-index
    (get_or c.args.variables.now l.variable-index no_name) no_name l.found c.sooner-found.result c.loop-variable-test.true refl
    (c.sooner-found.ensures ∙ ap (spec.sooner l.found) c.unknown_name.ensures)
    ∙ l.invariant

pub returns : goal.returns
returns c =
    sym (sooner_none c.loop-variable.found)
    ∙ sym (at_drop_all (λ ys. spec.sooner c.loop-variable.found (spec.unknown_variable c.args.names.now (program_view.parsed c.args.p.now) (map views.named ys)))
    c.args.variables.now c.loop-variable.variable-index c.loop-variable-test.false)
    ∙ c.loop-variable.invariant

pub unknown_name-requires : goal.unknown_name-requires
unknown_name-requires c =
    let l = c.loop-variable in
    let x = get_or c.args.variables.now l.variable-index no_name in
    seen_item views.named (λ x. x.0 < length c.args.names.now) c.args.variables.now l.variable-index x c.requires c.loop-variable-test.true
    (get_or_default c.args.variables.now l.variable-index no_name x c.loop-variable-test.true)
