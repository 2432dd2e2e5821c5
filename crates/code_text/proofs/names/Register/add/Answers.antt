use Rattle.code_text.proofs.LookupLaws.{registered}
use Rattle.code_text.proofs.names.Register.add.Goals as goal

pub returns : goal.returns
returns c = λ names is. registered c.args.self.now _ names c.args.name c.in_ok-is_new.is_new is c.in_ok-is_new.ensures.added c.in_ok-is_new.ensures.updates c.first_repeated-self.ensures
