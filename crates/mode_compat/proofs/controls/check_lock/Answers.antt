use Rattle.std.proofs.Common.{◌∙◌, ◌++◌, length, Err, subst}
use Rattle.std.specs.List.{flat_map}
use Rattle.cov_ast.specs.View as view
use Rattle.cov_ast.specs.Obligations.{Decides}
use Rattle.cov_ast.proofs.ObligationLaws.{same_decided, append_decided, append_refused}
use Rattle.cov_ast.specs.declared.refusal.Rule.TheVariants.{W7}
use Rattle.cov_ast.specs.Tables.{with_all}
use Rattle.cov_ast.proofs.WellFormedLaws.{class_at}
use Rattle.mode_compat.specs.Compatible.{w7_obligations}
use Rattle.mode_compat.specs.Inside.{kept_obligations}
use Rattle.mode_compat.proofs.ModeLaws.{w7_same}
use Rattle.mode_compat.proofs.controls.check_lock.Goals as goal

pub returns-in-Ok : goal.returns-in-Ok
returns-in-Ok c =
    let p = view.program c.args.p.now in
    let l = view.lock c.args.lock.now in
    let kept = c.insert_all-2.new.self in
    let first = flat_map (kept_obligations p W7 l.at kept) l.nowrite in
    let second = flat_map (kept_obligations p W7 l.at kept) l.hide in
    let start = c.in_ok-kept.ensures ∙ c.requires.assumed in
    let one = c.insert_all.ensures ∙ (λ i. with_all (start i) (c.as_slice.ensures i)) in
    let made = c.insert_all-2.ensures ∙ (λ i. with_all (one i) (c.as_slice-2.ensures i)) in
    let same = w7_same p (length c.args.p.now.vars) (class_at c.args.p.now c.requires.formed) l kept made c.requires.range.nowrite c.requires.range.hide in
    same_decided (first ++ second) (w7_obligations p l) c.check_controls-in-Ok.result same
    (append_decided first second c.check_controls-in-Ok.result
    (rw c.as_slice-3.ensures at c.in-Ok.ensures) (rw c.as_slice-in-Ok.ensures at c.check_controls-in-Ok.ensures))

pub returns : goal.returns
returns c =
    let p = view.program c.args.p.now in
    let l = view.lock c.args.lock.now in
    let kept = c.insert_all-2.new.self in
    let first = flat_map (kept_obligations p W7 l.at kept) l.nowrite in
    let second = flat_map (kept_obligations p W7 l.at kept) l.hide in
    let start = c.in_ok-kept.ensures ∙ c.requires.assumed in
    let one = c.insert_all.ensures ∙ (λ i. with_all (start i) (c.as_slice.ensures i)) in
    let made = c.insert_all-2.ensures ∙ (λ i. with_all (one i) (c.as_slice-2.ensures i)) in
    let same = w7_same p (length c.args.p.now.vars) (class_at c.args.p.now c.requires.formed) l kept made c.requires.range.nowrite c.requires.range.hide in
    let stop : Decides (flat_map (kept_obligations p W7 l.at kept) c.as_slice-3.result.now) (Err c.in-Err.fault) = c.in-Err.ensures in
    same_decided (first ++ second) (w7_obligations p l) (Err c.in-Err.fault) same
    (append_refused first second c.in-Err.fault (subst (λ xs. Decides (flat_map (kept_obligations p W7 l.at kept) xs) (Err c.in-Err.fault)) c.as_slice-3.ensures stop))
