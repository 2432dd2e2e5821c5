use Rattle.std.proofs.Common.{codes, arith}
use Rattle.cov_gen.specs.Big.{declarations, writer_round, reader_round, big}
use Rattle.cov_gen.proofs.Rounds.{length-threads}
use Rattle.cov_gen.proofs.text.size.Goals as goal

pub returns-clause-whole : goal.returns-clause-whole
unfolding big
returns-clause-whole c =
    omega (arith, length-threads declarations (codes "thread w guarantee hide x {\n") writer_round (codes "thread r assume hide x {\n") reader_round c.args.rounds)
