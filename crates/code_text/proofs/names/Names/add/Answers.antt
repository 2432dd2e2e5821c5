use Rattle.std.proofs.Common.{◌≡◌, length, arith}
use Rattle.code_text.proofs.LookupLaws.{guesses_more, popped}
use Rattle.code_text.proofs.names.Names.add.Goals as goal

pub invariant_of-self-in-Ok : goal.invariant_of-self-in-Ok
invariant_of-self-in-Ok c =
    let count : length c.self.inside.list ≡ c.len-next.result = omega arith in
    let added = c.in-Ok.ensures.ok c.self.inside.list c.requires.named count c.self.invariant.0 in
    rw c.in_ok-push.ensures.ok (added.0, guesses_more c.self.inside.list c.self.inside.guesses c.self.invariant.1 c.args.name c.guess_of.result c.in-Ok.id added.1)

pub invariant_of-self-in-Err : goal.invariant_of-self-in-Err
invariant_of-self-in-Err c =
    let back = popped c.pop.result c.push.new.self c.self.inside.list c.pop.new.self c.args.name c.in_ok-push.ensures.ok c.pop.ensures in
    rw (← back) (c.in-Err.ensures.err c.self.inside.list c.self.invariant.0, c.self.invariant.1)
