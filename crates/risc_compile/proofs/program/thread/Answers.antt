use Rattle.std.proofs.Common.{◌≡◌, ap, arith, false, get_or, length, map, replicate, sym, subst, ◌∙◌}
use Rattle.std.proofs.lemmas.List.{length-map}
use Rattle.cov_ast.specs.LocksAlong.{no_locks}
use Rattle.cov_ast.specs.Plain.{plain, plain_block}
use Rattle.cov_ast.specs.View as view
use Rattle.cov_ast.specs.WellFormed.{IsBlockInRange, IsBodyFine, IsThreadInRange, block_size}
use Rattle.cov_ast.proofs.WellFormedLaws.{seen_item}
use Rattle.mode_state.specs.Sets.{modes_at}
use Rattle.regalloc.specs.Plan.{start}
use Rattle.compiled_code.specs.Compiled.{block_lines}
use Rattle.risc_compile.specs.declared.emitter.Emitter.{Emitter}
use Rattle.risc_compile.proofs.ThreadLaws.{thread_is, whole_lines}
use Rattle.risc_compile.proofs.program.thread.Goals as goal

pub block-requires : goal.block-requires
block-requires c =
    let p = c.args.program.now in
    let thread = c.index-as_slice-t.result in
    let is : thread ≡ get_or p.threads c.args.t thread = rw c.as_slice.ensures at c.index-as_slice-t.is in
    let small = (seen_item view.thread (λ s. IsBodyFine s.body) p.threads c.args.t thread c.requires.formed.bodies c.requires.thread is).small in
    omega (arith, small, ap (λ ss. block_size (view.block ss)) c.as_slice-2.ensures, ap (λ (e : Emitter). length e.lines) c.new-emitter.ensures)

pub returns : goal.returns
returns c =
    let p = c.args.program.now in
    let q = plain (view.program p) in
    let t = c.args.t in
    let thread = c.index-as_slice-t.result in
    let is : thread ≡ get_or p.threads t thread = rw c.as_slice.ensures at c.index-as_slice-t.is in
    let held = c.in_ok-start.ensures ∙ ap (λ n. modes_at q t (replicate n false)) (sym (length-map p.locks view.lock)) in
    let vars = length (map view.var p.vars) in
    let locks = length (map view.lock p.locks) in
    let range = (seen_item view.thread (IsThreadInRange vars locks) p.threads t thread c.requires.formed.ids.of_threads c.requires.thread is).body in
    let body = c.as_slice-2.result.now in
    let made = whole_lines q t c.in_ok-start.field-0 c.new-emitter.result held c.new-emitter.ensures (view.block body) c.block.new.self c.in_ok-block.ensures.code
    (subst (λ ss. IsBlockInRange vars locks (view.block ss)) (sym c.as_slice-2.ensures) range) in
    thread_is p t thread c.block.new.self.lines c.requires.thread is (made ∙ ap (λ ss. block_lines q t (plain_block (view.block ss)) (no_locks q) start 0) c.as_slice-2.ensures)
