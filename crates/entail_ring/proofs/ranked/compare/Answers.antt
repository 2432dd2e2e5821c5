use Rattle.std.proofs.Common.{◌^◌, sym, arith}
use Rattle.entail_ring.proofs.Ranks.{higher_rank, lower_rank}
use Rattle.entail_ring.proofs.ranked.compare.Goals as goal

pub returns-then-t-u : goal.returns-then-t-u
returns-then-t-u c =
    let t = c.args.t.now.ranked in
    let u = c.args.u.now.ranked in
    sym (lower_rank (2 ^ 56) c.args.t.now.term.now.atoms c.args.u.now.term.now.atoms (omega arith))

pub returns-then-u-t : goal.returns-then-u-t
returns-then-u-t c =
    let t = c.args.t.now.ranked in
    let u = c.args.u.now.ranked in
    sym (higher_rank (2 ^ 56) c.args.t.now.term.now.atoms c.args.u.now.term.now.atoms (omega arith))
