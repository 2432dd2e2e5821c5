use Rattle.std.proofs.Common.{◌++◌, ap, subst, map, length, Err}
use Rattle.cov_ast.specs.View as view
use Rattle.cov_ast.specs.Obligations.{Decides}
use Rattle.cov_ast.proofs.ObligationLaws.{same_decided, append_decided, append_refused}
use Rattle.mode_compat.specs.Compatible.{w9_pair}
use Rattle.mode_compat.specs.Inside.{met_obligation}
use Rattle.mode_compat.proofs.ModeLaws.{w9_same}
use Rattle.mode_compat.proofs.pairs.check_pair.Goals as goal

pub returns-in-Ok : goal.returns-in-Ok
returns-in-Ok c =
    let p = view.program c.args.p.now in
    let t = view.thread c.args.thread.now in
    let u = view.thread c.args.other.now in
    let sets = c.args.met.now in
    let first = map (met_obligation p t u sets.0) t.modes.assume_nowrite in
    let second = map (met_obligation p t u sets.1) t.modes.assume_hide in
    let same = w9_same p (length c.args.p.now.vars) t u sets.0 sets.1 (ap (λ s. s.0) c.requires.met) (ap (λ s. s.1) c.requires.met)
    c.requires.range.modes.assume_nowrite c.requires.range.modes.assume_hide in
    same_decided (first ++ second) (w9_pair p t u) c.check_met-in-Ok.result same
    (append_decided first second c.check_met-in-Ok.result
    (rw c.as_slice-nowrite.ensures at c.in-Ok.ensures) (rw c.as_slice.ensures at c.check_met-in-Ok.ensures))

pub returns-in-Err : goal.returns-in-Err
returns-in-Err c =
    let p = view.program c.args.p.now in
    let t = view.thread c.args.thread.now in
    let u = view.thread c.args.other.now in
    let sets = c.args.met.now in
    let first = map (met_obligation p t u sets.0) t.modes.assume_nowrite in
    let second = map (met_obligation p t u sets.1) t.modes.assume_hide in
    let same = w9_same p (length c.args.p.now.vars) t u sets.0 sets.1 (ap (λ s. s.0) c.requires.met) (ap (λ s. s.1) c.requires.met)
    c.requires.range.modes.assume_nowrite c.requires.range.modes.assume_hide in
    let stop : Decides (map (met_obligation p t u sets.0) c.as_slice-nowrite.result.now) (Err c.in-Err.fault) = c.in-Err.ensures in
    same_decided (first ++ second) (w9_pair p t u) (Err c.in-Err.fault) same
    (append_refused first second c.in-Err.fault (subst (λ xs. Decides (map (met_obligation p t u sets.0) xs) (Err c.in-Err.fault)) c.as_slice-nowrite.ensures stop))
