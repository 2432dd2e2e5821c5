use Rattle.std.proofs.Common.{◌∙◌, ◌<◌, length, sym, ap, subst, map, All}
use Rattle.std.proofs.lemmas.List.Elements.{All-map}
use Rattle.cov_grammar.specs.PlacedTrees.{Named}
use Rattle.level_text.specs.TextViews as views
use Rattle.level_text.proofs.repeats.named_again.Goals as goal

pub first_again-requires : goal.first_again-requires
first_again-requires c =
    let made = ap (map views.named) c.as_slice-3.ensures ∙ c.in_ok-levels.ensures ∙ ap (λ xs. map (λ v. v.name) (map views.level xs)) c.as_slice.ensures in
    subst (All (λ (x : Named). x.0 < length c.args.names.now)) (sym made)
    (All-map (λ (x : Named). x.0 < length c.args.names.now) (λ v. v.name) (map views.level c.args.text.now.levels) c.requires.levels)

pub first_again-requires-2 : goal.first_again-requires-2
first_again-requires-2 c =
    let made = ap (map views.named) c.as_slice-4.ensures ∙ c.in_ok-listed.ensures ∙ ap (λ xs. map (λ x. x.var) (map views.listing xs)) c.as_slice-2.ensures in
    subst (All (λ (x : Named). x.0 < length c.args.names.now)) (sym made)
    (All-map (λ (x : Named). x.0 < length c.args.names.now) (λ x. x.var) (map views.listing c.args.text.now.listings) c.requires.listings)
