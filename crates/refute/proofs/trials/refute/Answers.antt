use Rattle.std.proofs.Common.{◌+◌, ap, ◌∙◌, subst, arith}
use Rattle.cov_ast.specs.Plain.{plain}
use Rattle.cov_ast.specs.View as view
use Rattle.refute.specs.Inside.{Shows}
use Rattle.refute.proofs.TrialLaws.{counts_fit, counts_unfit, is_first, past_agreeing, past_unfit}
use Rattle.refute.proofs.trials.refute.Goals.{in-Unfit, in-Agrees}
use Rattle.refute.proofs.trials.refute.Goals as goal

pub returns-in-Apart-clause-found : goal.returns-in-Apart-clause-found
returns-in-Apart-clause-found g c =
    let p = plain (view.program c.args.p.now) in
    let l = c.loop-before in
    is_first p l.before l.invariant.agree c.args.n c.in-Apart.found c.loop-before-test.true (subst (Shows p (l.before + 1)) c.in-Apart.is c.in_ok-try_out.ensures)

pub returns-in-Apart-clause-fit : goal.returns-in-Apart-clause-fit
returns-in-Apart-clause-fit g c =
    let p = plain (view.program c.args.p.now) in
    let l = c.loop-before in
    ap (λ k. k + 1) l.invariant.fit ∙ counts_fit p l.before (subst (Shows p (l.before + 1)) c.in-Apart.is c.in_ok-try_out.ensures).0

pub loop-before-preserved : goal.loop-before-preserved
loop-before-preserved g c =
    let p = plain (view.program c.args.p.now) in
    let l = c.loop-before in
    elim c.match-branch-2.branch [
      | in-Unfit w ↦
          let shown = subst (Shows p (l.before + 1)) w.in-Unfit.is c.in_ok-try_out.ensures in
          record {
            agree = past_unfit p l.before l.invariant.agree shown;
            fit = w.fit-is ∙ l.invariant.fit ∙ counts_unfit p l.before shown;
            few = (let few = l.invariant.few in let is = w.fit-is in omega arith);
          }
      | in-Agrees w ↦
          let shown = subst (Shows p (l.before + 1)) w.in-Agrees.is c.in_ok-try_out.ensures in
          record {
            agree = past_agreeing p l.before l.invariant.agree shown;
            fit = w.fit-is ∙ ap (λ k. k + 1) l.invariant.fit ∙ counts_fit p l.before shown.0;
            few = (let few = l.invariant.few in let is = w.fit-is in omega arith);
          }
    ]
