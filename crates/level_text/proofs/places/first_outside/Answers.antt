use Rattle.std.proofs.Common.{get_or, refl, ◌∙◌, sym, ap, map}
use Rattle.std.proofs.lemmas.List.{at_drop_all}
use Rattle.cov_expr.specs.Trees.{has_number}
use Rattle.level_text.specs.TextFaults as spec
use Rattle.level_text.specs.TextViews as views
use Rattle.level_text.proofs.PlaceLaws.{found_step, sooner_none}
use Rattle.level_text.proofs.FindLaws.{no_name}
use Rattle.level_text.proofs.places.first_outside.Goals as goal

pub loop-name-preserved : goal.loop-name-preserved
loop-name-preserved c =
    found_step (spec.failing (has_number c.args.numbers.now)) views.named c.args.names.now c.loop-name.name-index (get_or c.args.names.now c.loop-name.name-index no_name) no_name c.loop-name.found c.sooner-found.result c.loop-name-test.true refl
    (c.sooner-found.ensures ∙ ap (spec.sooner c.loop-name.found) c.outside.ensures)
    ∙ c.loop-name.invariant

pub returns : goal.returns
returns c =
    sym (sooner_none c.loop-name.found)
    ∙ sym (at_drop_all (λ ys. spec.sooner c.loop-name.found (spec.least_place (spec.failing (has_number c.args.numbers.now)) (map views.named ys))) c.args.names.now c.loop-name.name-index c.loop-name-test.false)
    ∙ c.loop-name.invariant
