use Rattle.typing_rules.proofs.searched.search_for.Goals as goal

pub returns : goal.returns
returns c p t a k =
    let found = c.in_ok-found.ensures p t a k in
    λ i. record { place = c.args.site.place; number = c.args.number; found = found i }
