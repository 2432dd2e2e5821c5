use Rattle.entail_search.proofs.chains.+chains.Given as goal

abbrev pub decreases-chains : goal.decreases-chains
decreases-chains l = l.left
