use Rattle.std.proofs.Common.{◌++◌, ap, flat_map}
use Rattle.cov_ast.specs.Ready.{as_variable}
use Rattle.annotate.proofs.GoingLaws.{lent_option, three_go}
use Rattle.annotate.proofs.uses.Uses.keep_lock.Goals as goal

pub returns : goal.returns
returns c =
    rw (← c.as_slice.ensures, ← c.as_slice-2.ensures)
    (three_go c.option.result _ _ _ _ _ _ _ _ _ c.in_ok-keep_variables.ensures c.in_ok-keep_variables-2.ensures c.option.ensures
    (ap (λ us. flat_map as_variable c.as_slice.result.now ++ flat_map as_variable c.as_slice-2.result.now ++ us) (lent_option c.as_ref.result c.args.lock.now.inv c.as_ref.ensures.value)))
