use Rattle.cov_ast.specs.View as view
use Rattle.typing_law.specs.ThreadObligations.{same_locks, state_obligations}
use Rattle.typing_rules.specs.Inside.Walking.{plain_of}
use Rattle.typing_rules.proofs.walk.Walk.check_ends.Goals as goal

pub returns : goal.returns
returns c a k b kb =
    let p = plain_of c.args.self.now in
    let t = c.args.self.now.thread in
    c.both.ensures (same_locks p t c.args.at a.held b.held) (state_obligations p t c.args.at a.held (view.state c.args.join.now))
    ((rw c.site-site.ensures at c.check_same_locks-same.ensures) a.held (c.modes.ensures p t a k) b.held (c.modes-2.ensures p t b kb))
    (λ _. (rw c.site-site.ensures at c.check_state-stated.ensures) a k)
