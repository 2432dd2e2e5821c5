use Rattle.std.proofs.Common.{◌∙◌, ◌++◌, ap, length, Err, subst}
use Rattle.std.specs.List.{flat_map}
use Rattle.cov_ast.specs.View as view
use Rattle.cov_ast.specs.Obligations.{Decides}
use Rattle.cov_ast.proofs.ObligationLaws.{same_decided, append_decided, append_refused}
use Rattle.cov_ast.specs.declared.refusal.Rule.TheVariants.{W8}
use Rattle.cov_ast.specs.Declarations.{have_assumed}
use Rattle.cov_ast.specs.Tables.{table}
use Rattle.cov_ast.proofs.WellFormedLaws.{class_at}
use Rattle.mode_compat.specs.Compatible.{w8_obligations}
use Rattle.mode_compat.specs.Inside.{kept_obligations}
use Rattle.mode_compat.proofs.ModeLaws.{w8_same}
use Rattle.mode_compat.proofs.controls.check_thread.Goals as goal

pub returns-in-Ok : goal.returns-in-Ok
returns-in-Ok c =
    let p = view.program c.args.p.now in
    let t = view.thread c.args.thread.now in
    let kept = c.in_ok-kept.kept in
    let first = flat_map (kept_obligations p W8 t.at kept) t.modes.assume_nowrite in
    let second = flat_map (kept_obligations p W8 t.at kept) t.modes.assume_hide in
    let same = w8_same p (length c.args.p.now.vars) (class_at c.args.p.now c.requires.formed) t kept
    (c.in_ok-kept.ensures ∙ ap (λ n. table n (have_assumed t.modes)) c.len.ensures) c.requires.range.modes.assume_nowrite c.requires.range.modes.assume_hide in
    same_decided (first ++ second) (w8_obligations p t) c.check_controls-in-Ok.result same
    (append_decided first second c.check_controls-in-Ok.result
    (rw c.as_slice.ensures at c.in-Ok.ensures) (rw c.as_slice-in-Ok.ensures at c.check_controls-in-Ok.ensures))

pub returns : goal.returns
returns c =
    let p = view.program c.args.p.now in
    let t = view.thread c.args.thread.now in
    let kept = c.in_ok-kept.kept in
    let first = flat_map (kept_obligations p W8 t.at kept) t.modes.assume_nowrite in
    let second = flat_map (kept_obligations p W8 t.at kept) t.modes.assume_hide in
    let same = w8_same p (length c.args.p.now.vars) (class_at c.args.p.now c.requires.formed) t kept
    (c.in_ok-kept.ensures ∙ ap (λ n. table n (have_assumed t.modes)) c.len.ensures) c.requires.range.modes.assume_nowrite c.requires.range.modes.assume_hide in
    let stop : Decides (flat_map (kept_obligations p W8 t.at kept) c.as_slice.result.now) (Err c.in-Err.fault) = c.in-Err.ensures in
    same_decided (first ++ second) (w8_obligations p t) (Err c.in-Err.fault) same
    (append_refused first second c.in-Err.fault (subst (λ xs. Decides (flat_map (kept_obligations p W8 t.at kept) xs) (Err c.in-Err.fault)) c.as_slice.ensures stop))
