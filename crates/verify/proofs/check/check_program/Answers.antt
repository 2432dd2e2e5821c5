use Rattle.std.proofs.Common.{◌≡◌, ◌∙◌, Err, None}
use Rattle.std.specs.List.{flat_map}
use Rattle.cov_ast.specs.View as view
use Rattle.cov_ast.specs.Obligations.{first_false}
use Rattle.cov_ast.proofs.ObligationLaws.{append_decided, append_refused, append_held, none_refused}
use Rattle.mode_compat.specs.Compatible.{threads_of}
use Rattle.mode_compat.specs.Declared.{declaration_obligations}
use Rattle.typing_law.specs.ThreadObligations.{thread_obligations}
use Rattle.typing_law.specs.Accepted.{program_obligations}
use Rattle.verify.proofs.check.check_program.Goals as goal

pub returns-in-Err-clause-answer : goal.returns-in-Err-clause-answer
returns-in-Err-clause-answer c =
    let p = view.program c.args.p.now in
    append_refused (declaration_obligations p) (flat_map (thread_obligations p) (threads_of p)) c.in-Err.fault c.in-Err.ensures

pub returns-in-Err-check_threads-clause-answer : goal.returns-in-Err-check_threads-clause-answer
returns-in-Err-check_threads-clause-answer c =
    let p = view.program c.args.p.now in
    let fault = c.in-Err-check_threads.fault in
    append_decided (declaration_obligations p) (flat_map (thread_obligations p) (threads_of p)) (Err fault) c.in_default.ensures c.in-Err-check_threads.ensures

pub check_threads-requires-clause-declared : goal.check_threads-requires-clause-declared
check_threads-requires-clause-declared c = none_refused (declaration_obligations (view.program c.args.p.now)) c.in_default.ensures

pub new-requires-clause-accepted : goal.new-requires-clause-accepted
new-requires-clause-accepted c =
    let p = view.program c.args.p.now in
    none_refused (program_obligations p)
    (append_held (declaration_obligations p) (flat_map (thread_obligations p) (threads_of p)) c.in_default.ensures ∙ c.in-Ok.ensures.0)

pub returns-in-Ok-clause-secure : goal.returns-in-Ok-clause-secure
returns-in-Ok-clause-secure c =
    let p = view.program c.args.p.now in
    let none : first_false (program_obligations p) ≡ None =
    append_held (declaration_obligations p) (flat_map (thread_obligations p) (threads_of p)) c.in_default.ensures ∙ c.in-Ok.ensures.0 in
    c.accepted_is_secure.ensures p c.requires (none_refused (program_obligations p) none)

pub returns-in-Ok-clause-disciplined : goal.returns-in-Ok-clause-disciplined
returns-in-Ok-clause-disciplined c =
    let p = view.program c.args.p.now in
    let none : first_false (program_obligations p) ≡ None =
    append_held (declaration_obligations p) (flat_map (thread_obligations p) (threads_of p)) c.in_default.ensures ∙ c.in-Ok.ensures.0 in
    c.accepted_is_disciplined.ensures p c.requires (none_refused (program_obligations p) none)
