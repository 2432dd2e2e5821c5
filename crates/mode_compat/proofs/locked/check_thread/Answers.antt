use Rattle.std.proofs.Common.{◌++◌, map, length, Err, subst}
use Rattle.cov_ast.specs.View as view
use Rattle.cov_ast.specs.Obligations.{Decides}
use Rattle.cov_ast.proofs.ObligationLaws.{same_decided, append_decided, append_refused}
use Rattle.mode_compat.specs.Compatible.{w6_obligations}
use Rattle.mode_compat.specs.Inside.{apart_obligation}
use Rattle.mode_compat.proofs.ModeLaws.{w6_same}
use Rattle.mode_compat.proofs.locked.check_thread.Goals as goal

pub returns-in-Ok : goal.returns-in-Ok
returns-in-Ok c =
    let p = view.program c.args.p.now in
    let t = view.thread c.args.thread.now in
    let first = map (apart_obligation p t c.args.locked.now) t.modes.assume_nowrite in
    let second = map (apart_obligation p t c.args.locked.now) t.modes.assume_hide in
    let same = w6_same p (length c.args.p.now.vars) c.args.locked.now c.requires.locked t c.requires.range.modes.assume_nowrite c.requires.range.modes.assume_hide in
    same_decided (first ++ second) (w6_obligations p t) c.check_list-in-Ok.result same
    (append_decided first second c.check_list-in-Ok.result
    (rw c.as_slice.ensures at c.in-Ok.ensures) (rw c.as_slice-in-Ok.ensures at c.check_list-in-Ok.ensures))

pub returns-in-Err : goal.returns-in-Err
returns-in-Err c =
    let p = view.program c.args.p.now in
    let t = view.thread c.args.thread.now in
    let first = map (apart_obligation p t c.args.locked.now) t.modes.assume_nowrite in
    let second = map (apart_obligation p t c.args.locked.now) t.modes.assume_hide in
    let same = w6_same p (length c.args.p.now.vars) c.args.locked.now c.requires.locked t c.requires.range.modes.assume_nowrite c.requires.range.modes.assume_hide in
    let stop : Decides (map (apart_obligation p t c.args.locked.now) c.as_slice.result.now) (Err c.in-Err.fault) = c.in-Err.ensures in
    same_decided (first ++ second) (w6_obligations p t) (Err c.in-Err.fault) same
    (append_refused first second c.in-Err.fault (subst (λ xs. Decides (map (apart_obligation p t c.args.locked.now) xs) (Err c.in-Err.fault)) c.as_slice.ensures stop))
