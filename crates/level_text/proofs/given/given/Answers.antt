use Rattle.std.proofs.Common.{◌≡◌, ◌∙◌, ap, map}
use Rattle.cov_ast.specs.View as program_view
use Rattle.cov_text.specs.GivenTrees.{name_of}
use Rattle.level_text.specs.Inside.GivenBy.{level_by, listing_by}
use Rattle.level_text.specs.TextFaults.{declared_levels}
use Rattle.level_text.specs.TextViews as views
use Rattle.level_text.proofs.GivenLaws.{classes_same}
use Rattle.level_text.proofs.given.given.Goals as goal

pub returns-clause-levels : goal.returns-clause-levels
returns-clause-levels c =
    let t = views.level_text c.args.text.now in
    let p = program_view.parsed c.args.p.now in
    let ns = c.args.names.now in
    let declared : c.in_ok-declared.declared ≡ declared_levels t = c.in_ok-declared.ensures ∙ ap (λ xs. map (λ v. v.name.0) (map views.level xs)) c.as_slice.ensures in
    let names = c.in_ok-names.ensures ∙ ap (λ xs. map (λ v. name_of ns v.name.0) (map views.level xs)) c.as_slice-7.ensures in
    let below =
    c.in_ok-below.ensures
    ∙ (λ i. map (λ v. map (λ n. level_by ((c.as_slice-2.ensures ∙ declared) i) n.0) v.lower) (map views.level (c.as_slice-3.ensures i))) in
    let classes =
    c.in_ok-classes.ensures.classes
    ∙ (λ i. map (listing_by (c.as_slice-4.ensures i) c.len-count.result ((c.as_slice-5.ensures ∙ declared) i)) (map views.listing (c.as_slice-6.ensures i)))
    ∙ classes_same ns p c.in_ok-ids.ids c.len-count.result c.in_ok-ids.ensures t (map views.listing c.args.text.now.listings) c.requires.listings in
    λ i. record { names = names i; below = below i; classes = classes i }
