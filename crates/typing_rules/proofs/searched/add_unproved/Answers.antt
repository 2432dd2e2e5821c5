use Rattle.std.proofs.Common.{◌++◌, ◌∷◌, [], ◌∙◌, map, sym, ap}
use Rattle.std.proofs.lemmas.List.{append-nil, map-append}
use Rattle.cov_ast.specs.View as view
use Rattle.typing_rules.specs.Keeping.{sought, view_kept}
use Rattle.typing_rules.specs.Listed.{entailment_of}
use Rattle.typing_rules.specs.declared.kept.Kept.TheVariants.{Found}
use Rattle.typing_rules.proofs.KeptLaws.{proved_kept, unproved_kept}
use Rattle.typing_rules.proofs.searched.add_unproved.Goals as goal

pub returns-then-proved : goal.returns-then-proved
returns-then-proved c p t a k =
    let old = map view_kept c.args.kept.now in
    let g = entailment_of a.preds c.args.entailment.now in
    sym (append-nil old) ∙ ap (λ l. old ++ l)
    (sym (proved_kept c.args.depth c.args.site.place (map view.proof c.args.proofs.now) c.args.number g (sym (c.in_ok-proved.ensures p t a k) ∙ c.if-proved.true)))

pub returns : goal.returns
returns c p t a k =
    let old = map view_kept c.args.kept.now in
    let g = entailment_of a.preds c.args.entailment.now in
    ap (map view_kept) c.in_ok-push.ensures.ok ∙ map-append view_kept c.args.kept.now (Found c.in_ok-made.made ∷ [])
    ∙ ap (λ s. old ++ sought s ∷ []) (c.in_ok-made.ensures p t a k)
    ∙ ap (λ l. old ++ l)
    (sym (unproved_kept c.args.depth c.args.site.place (map view.proof c.args.proofs.now) c.args.number g (sym (c.in_ok-proved.ensures p t a k) ∙ c.if-proved.false)))
