use Rattle.std.proofs.Common.{List, ℕ, refl, slice_index}
use Rattle.std.proofs.lemmas.List.{get_or_default}
use Rattle.std.specs.List.{flat_map}
use Rattle.cov_ast.specs.View as view
use Rattle.cov_ast.specs.Obligations.{Obligation}
use Rattle.cov_ast.proofs.ObligationLaws.{loop_refused, loop_more}
use Rattle.mode_compat.specs.Inside.{kept_obligations}
use Rattle.mode_compat.proofs.controls.check_controls.Goals as goal

pub returns-in-Err : goal.returns-in-Err
returns-in-Err c =
    let g : ℕ → List Obligation = kept_obligations (view.program c.args.p.now) c.args.rule c.args.place c.args.kept.now in
    let F : List ℕ → List Obligation = λ ys. flat_map g ys in
    let x = slice_index c.args.list.now c.loop-x.x-index in
    loop_refused F F (g x) (F c.args.list.now) c.args.list.now
    c.loop-x.x-index x c.loop-x-test.true (get_or_default c.args.list.now c.loop-x.x-index 0 x c.loop-x-test.true) (λ ys. refl) c.loop-x.invariant c.in-Err.fault c.in-Err.ensures

pub loop-x-preserved : goal.loop-x-preserved
loop-x-preserved c =
    let g : ℕ → List Obligation = kept_obligations (view.program c.args.p.now) c.args.rule c.args.place c.args.kept.now in
    let F : List ℕ → List Obligation = λ ys. flat_map g ys in
    let x = slice_index c.args.list.now c.loop-x.x-index in
    loop_more F F (g x) (F c.args.list.now) c.args.list.now
    c.loop-x.x-index x c.loop-x-test.true (get_or_default c.args.list.now c.loop-x.x-index 0 x c.loop-x-test.true) (λ ys. refl) c.loop-x.invariant c.in_default.ensures
