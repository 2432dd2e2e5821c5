use Rattle.std.proofs.Common.{[], ◌++◌, ◌∙◌, sym, ap}
use Rattle.std.proofs.lemmas.Result.{IfOk-weaker}
use Rattle.risc_machine.specs.Faults.{repeated, thread_names}
use Rattle.risc_machine.proofs.FaultLaws.{in_first, in_second, in_third}
use Rattle.object_code.proofs.repeated.repeated_in.Goals as goal

pub returns-in-Some : goal.returns-in-Some
returns-in-Some c =
    let p = c.args.parts.now in
    let of_vars = c.in_ok-of_vars.ensures [] c.requires in
    in_first p.vars p.locks (thread_names p.threads) c.in-Some.name (sym c.in-Some.is ∙ of_vars.first ∙ ap (repeated []) c.as_slice.ensures)

pub returns-in-Some-of_locks : goal.returns-in-Some-of_locks
returns-in-Some-of_locks c =
    let p = c.args.parts.now in
    let of_vars = c.in_ok-of_vars.ensures [] c.requires in
    let of_locks = c.in_ok-of_locks.ensures c.as_slice.result.now (of_vars.known c.in_default.is) in
    in_second p.vars p.locks (thread_names p.threads) c.in-Some-of_locks.name (sym c.in_default.is ∙ of_vars.first ∙ ap (repeated []) c.as_slice.ensures)
    (sym c.in-Some-of_locks.is ∙ of_locks.first ∙ ap (λ before. repeated before c.as_slice-2.result.now) c.as_slice.ensures ∙ ap (repeated p.vars) c.as_slice-2.ensures)

pub returns : goal.returns
returns c =
    let p = c.args.parts.now in
    let of_vars = c.in_ok-of_vars.ensures [] c.requires in
    let of_locks = c.in_ok-of_locks.ensures c.as_slice.result.now (of_vars.known c.in_default.is) in
    IfOk-weaker c.add_threads.result _ _
    (λ found h. in_third p.vars p.locks (thread_names p.threads) found (sym c.in_default.is ∙ of_vars.first ∙ ap (repeated []) c.as_slice.ensures)
    (sym c.in_default-of_locks.is ∙ of_locks.first ∙ ap (λ before. repeated before c.as_slice-2.result.now) c.as_slice.ensures ∙ ap (repeated p.vars) c.as_slice-2.ensures)
    (h (c.as_slice.result.now ++ c.as_slice-2.result.now) (of_locks.known c.in_default-of_locks.is) ∙ ap (λ before. repeated (before ++ c.as_slice-2.result.now) (thread_names c.as_slice-3.result.now)) c.as_slice.ensures
    ∙ ap (λ locks. repeated (p.vars ++ locks) (thread_names c.as_slice-3.result.now)) c.as_slice-2.ensures
    ∙ ap (λ threads. repeated (p.vars ++ p.locks) (thread_names threads)) c.as_slice-3.ensures))
    c.add_threads.ensures
