use Rattle.std.specs.List.{flat_map}
use Rattle.std.proofs.Common.{◌++◌, ◌∙◌, Err}
use Rattle.cov_ast.specs.View as view
use Rattle.cov_ast.proofs.ObligationLaws.{append_decided, append_refused, append_held}
use Rattle.mode_compat.specs.Compatible.{w6_obligations, w7_obligations, w8_obligations, w9_obligations, threads_of}
use Rattle.mode_compat.proofs.modes.check_modes.Goals as goal

pub returns-in-Err : goal.returns-in-Err
returns-in-Err c =
    let p = view.program c.args.p.now in
    let w6 = flat_map (w6_obligations p) p.threads in
    let w7 = flat_map (w7_obligations p) p.locks in
    let w8 = flat_map (w8_obligations p) p.threads in
    let w9 = flat_map (w9_obligations p) (threads_of p) in
    append_refused (w6 ++ w7 ++ w8) w9 c.in-Err.fault (append_refused (w6 ++ w7) w8 c.in-Err.fault (append_refused w6 w7 c.in-Err.fault c.in-Err.ensures))

pub returns-in-Err-check_lock_controls : goal.returns-in-Err-check_lock_controls
returns-in-Err-check_lock_controls c =
    let p = view.program c.args.p.now in
    let w6 = flat_map (w6_obligations p) p.threads in
    let w7 = flat_map (w7_obligations p) p.locks in
    let w8 = flat_map (w8_obligations p) p.threads in
    let w9 = flat_map (w9_obligations p) (threads_of p) in
    let fault = c.in-Err-check_lock_controls.fault in
    append_refused (w6 ++ w7 ++ w8) w9 fault (append_refused (w6 ++ w7) w8 fault
    (append_decided w6 w7 (Err fault) c.in_default.ensures c.in-Err-check_lock_controls.ensures))

pub returns-in-Err-check_assumed_controls : goal.returns-in-Err-check_assumed_controls
returns-in-Err-check_assumed_controls c =
    let p = view.program c.args.p.now in
    let w6 = flat_map (w6_obligations p) p.threads in
    let w7 = flat_map (w7_obligations p) p.locks in
    let w8 = flat_map (w8_obligations p) p.threads in
    let w9 = flat_map (w9_obligations p) (threads_of p) in
    let fault = c.in-Err-check_assumed_controls.fault in
    append_refused (w6 ++ w7 ++ w8) w9 fault
    (append_decided (w6 ++ w7) w8 (Err fault) (append_held w6 w7 c.in_default.ensures ∙ c.in_default-check_lock_controls.ensures) c.in-Err-check_assumed_controls.ensures)

pub returns : goal.returns
returns c =
    let p = view.program c.args.p.now in
    let w6 = flat_map (w6_obligations p) p.threads in
    let w7 = flat_map (w7_obligations p) p.locks in
    let w8 = flat_map (w8_obligations p) p.threads in
    let w9 = flat_map (w9_obligations p) (threads_of p) in
    append_decided (w6 ++ w7 ++ w8) w9 c.check_guarantees.result
    (append_held (w6 ++ w7) w8 (append_held w6 w7 c.in_default.ensures ∙ c.in_default-check_lock_controls.ensures) ∙ c.in_default-check_assumed_controls.ensures) c.check_guarantees.ensures
