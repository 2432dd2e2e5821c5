use Rattle.std.proofs.Common.{◌≡◌, ◌∙◌, sym, ap, map, [], if◌then◌else◌, Some, None}
use Rattle.std.proofs.lemmas.Option.{get_or_from_slice_get}
use Rattle.cov_ast.specs.View as program_view
use Rattle.cov_text.specs.GivenTrees.{name_of}
use Rattle.level_text.specs.TextFaults as spec
use Rattle.level_text.specs.TextViews as views
use Rattle.level_text.proofs.markers.barred.Goals as goal

pub returns-then-is_barred : goal.returns-then-is_barred
returns-then-is_barred c =
    let x = c.args.level.now in
    let test = spec.is_barred (program_view.parsed c.args.p.now) (map views.named c.args.variables.now) x.name in
    let text : name_of c.args.names.now x.name ≡ c.name.result = get_or_from_slice_get c.args.names.now x.name c.name.result [] c.name.ensures in
    sym (ap (λ b. if b then Some x.at else None) (ap test text ∙ sym c.is_barred.ensures ∙ c.if-is_barred.true))

pub returns-else-is_barred : goal.returns-else-is_barred
returns-else-is_barred c =
    let x = c.args.level.now in
    let test = spec.is_barred (program_view.parsed c.args.p.now) (map views.named c.args.variables.now) x.name in
    let text : name_of c.args.names.now x.name ≡ c.name.result = get_or_from_slice_get c.args.names.now x.name c.name.result [] c.name.ensures in
    sym (ap (λ b. if b then Some x.at else None) (ap test text ∙ sym c.is_barred.ensures ∙ c.if-is_barred.false))
