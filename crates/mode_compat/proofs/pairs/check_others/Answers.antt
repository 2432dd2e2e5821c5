use Rattle.std.proofs.Common.{List, ℕ, refl}
use Rattle.std.specs.List.{flat_map}
use Rattle.cov_ast.specs.View as view
use Rattle.cov_ast.specs.Obligations.{Obligation}
use Rattle.cov_ast.proofs.ObligationLaws.{loop_refused, loop_more}
use Rattle.mode_compat.specs.Compatible.{w9_other, threads_of}
use Rattle.mode_compat.proofs.ModeLaws.{number_inside, number_is, none_left}
use Rattle.mode_compat.proofs.pairs.check_others.Goals as goal

pub returns-in-Err : goal.returns-in-Err
returns-in-Err c =
    let p = c.args.p.now in
    let g : ℕ → List Obligation = w9_other (view.program p) c.args.t in
    let F : List ℕ → List Obligation = λ ys. flat_map g ys in
    let lt = rw c.as_slice-other-items.ensures at c.loop-u-test.true in
    loop_refused F F (g c.loop-u.u) (F (threads_of (view.program p))) (threads_of (view.program p)) c.loop-u.u c.loop-u.u
    (number_inside p c.loop-u.u lt) (number_is p c.loop-u.u lt) (λ ys. refl) c.loop-u.invariant c.in-Err.fault c.in-Err.ensures

pub loop-u-preserved : goal.loop-u-preserved
loop-u-preserved c =
    let p = c.args.p.now in
    let g : ℕ → List Obligation = w9_other (view.program p) c.args.t in
    let F : List ℕ → List Obligation = λ ys. flat_map g ys in
    let lt = rw c.as_slice-other-items.ensures at c.loop-u-test.true in
    loop_more F F (g c.loop-u.u) (F (threads_of (view.program p))) (threads_of (view.program p)) c.loop-u.u c.loop-u.u
    (number_inside p c.loop-u.u lt) (number_is p c.loop-u.u lt) (λ ys. refl) c.loop-u.invariant c.in_default.ensures

pub returns : goal.returns
returns c =
    none_left c.args.p.now (w9_other (view.program c.args.p.now) c.args.t) c.loop-u.u (rw c.as_slice-other-items.ensures at c.loop-u-test.false) c.loop-u.invariant
