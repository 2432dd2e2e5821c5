use Rattle.std.proofs.Common.{arith}
use Rattle.std.proofs.lemmas.List.{length-map}
use Rattle.cov_ast.specs.Plain.{plain, plain_thread}
use Rattle.flow_model.proofs.Compose.{compose}
use Rattle.flow_model.proofs.WordBodies.{bodies_have_words}
use Rattle.flow_model.proofs.laws.threads_compose.Goals as goal

pub returns : goal.returns
returns c = λ p fine controls secure modes.
    compose (plain p) (bodies_have_words p fine) controls (λ t inside. secure t (omega (arith, inside, length-map p.threads plain_thread))) modes
