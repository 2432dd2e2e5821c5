use Rattle.std.proofs.Common.{◌∷◌, ◌++◌, [], List, ap₂, sym, zero-add, ◌∙◌}
use Rattle.std.proofs.lemmas.List.FromFn.{map-range_with_len_more}
use Rattle.cov_ast.specs.Plain.{plain}
use Rattle.cov_ast.specs.View as view
use Rattle.compiled_code.specs.Compiled.{thread_code}
use Rattle.risc_compile.proofs.program.threads.Goals as goal
use Rattle.risc_machine.specs.declared.parts.ThreadCode.{ThreadCode}

pub loop-t-preserved : goal.loop-t-preserved
loop-t-preserved c =
    let code = thread_code (plain (view.program c.args.program.now)) in
    c.in_ok-push.ensures.ok ∙ ap₂ (λ (made : List ThreadCode) (last : ThreadCode). made ++ last ∷ []) c.loop-t.invariant c.in_ok-thread.ensures
    ∙ sym (map-range_with_len_more code 0 c.loop-t.t c.loop-t.t (zero-add c.loop-t.t))
