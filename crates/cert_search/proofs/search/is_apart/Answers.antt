use Rattle.std.proofs.lemmas.Bool.{not-true}
use Rattle.cov_expr.specs.View.{term}
use Rattle.entail_range.specs.Range.{lent}
use Rattle.cert_search.proofs.Pairs.{pair_lent}
use Rattle.cert_search.proofs.search.is_apart.Goals as goal

pub returns-then-are_old : goal.returns-then-are_old
returns-then-are_old c =
    λ z. pair_lent lent c.args.hyps.now c.args.tried (term c.args.goal.now) c.args.i c.args.x (term c.args.e.now) c.args.j (term c.args.h.now)
    c.requires.none c.requires.known c.requires.equation c.requires.there (c.are_old.ensures c.if-are_old.true)
    (c.may_interact.ensures (not-true c.may_interact.result z))
