use Rattle.std.proofs.Common.{◌∙◌, [], ap, map}
use Rattle.cov_expr.specs.Trees.{has_number}
use Rattle.level_text.specs.TextFaults as spec
use Rattle.level_text.specs.TextViews as views
use Rattle.level_text.proofs.faults.unknown.Goals as goal

pub returns : goal.returns
returns c =
    let t = views.level_text c.args.text.now in
    let lower = c.in_ok-lower.ensures ∙ ap (λ xs. spec.unknown_lower [] (map views.level xs)) c.as_slice.ensures in
    let declared = c.as_slice-3.ensures ∙ c.in_ok-declared.ensures ∙ ap (λ xs. map (λ v. v.name.0) (map views.level xs)) c.as_slice-2.ensures in
    let level =
    c.unknown_level-level.ensures
    ∙ ap (λ ns. spec.least_place (λ x. spec.first_failing (has_number ns) (spec.levels_of_listing x)) (map views.listing c.as_slice-4.result.now)) declared
    ∙ ap (λ xs. spec.least_place (λ x. spec.first_failing (has_number (spec.declared_levels t)) (spec.levels_of_listing x)) (map views.listing xs)) c.as_slice-4.ensures in
    let variable = c.unknown_variable-variable.ensures in
    c.sooner-2.ensures ∙ (λ i. spec.sooner (lower i) ((c.sooner.ensures ∙ (λ j. spec.sooner (level j) (variable j))) i))
