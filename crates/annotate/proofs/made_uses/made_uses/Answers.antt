use Rattle.annotate.proofs.StatementUses.{all_made}
use Rattle.annotate.proofs.made_uses.made_uses.Goals as goal

pub returns : goal.returns
returns c =
    rw (← c.as_slice-2.ensures)
    (all_made _ _ c.args.p.now.uses _ _ _ _ c.new.ensures c.as_slice.ensures c.in_ok-keep_declarations.ensures c.in_ok-add_threads.ensures)
