use Rattle.cov_ast.specs.Plain.{plain}
use Rattle.compiled_code.proofs.Assembled.{records}
use Rattle.compiled_code.proofs.Tidied.{declarations_true, bodies_tidy}
use Rattle.compiled_code.proofs.laws.records_last.Goals as goal

pub returns : goal.returns
returns c p formed accepted =
    records p (λ t h H. c.sets_are_holdings.ensures (plain p) h t H) (c.writable_and_stable_are_disjoint.ensures p (declarations_true p accepted)) (bodies_tidy p accepted formed)
