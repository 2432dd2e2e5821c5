-- Laws of the code of threads and of the parts of a program.
use Rattle.std.proofs.Common.{◌≡◌, ℕ, ◌<◌, List, [], length, get_or, map, Option, Some, None, refl, sym, ◌∙◌, ap, arith}
use Rattle.std.specs.Option.{option_or}
use Rattle.std.proofs.lemmas.List.{get_or-map, length-map}
use Rattle.cov_ast.specs.Declarations.{no_thread, thread_at}
use Rattle.cov_ast.specs.LocksAlong.{no_locks}
use Rattle.cov_ast.specs.Plain.{Plain, plain, plain_block, plain_thread}
use Rattle.cov_ast.specs.Syntax.{Block}
use Rattle.cov_ast.specs.View as view
use Rattle.cov_ast.specs.WellFormed.{IsBlockInRange}
use Rattle.cov_ast.specs.declared.decl.Program as decl
use Rattle.cov_ast.specs.declared.decl.ThreadDecl.{ThreadDecl}
use Rattle.mode_state.specs.Sets.{Sets, modes_at}
use Rattle.regalloc.specs.Plan.{start}
use Rattle.compiled_code.specs.Compiled.{block_lines, thread_code}
use Rattle.risc_compile.specs.Inside.{AddsBlock, Stands, after}
use Rattle.risc_compile.specs.declared.emitter.Emitter.{Emitter}
use Rattle.risc_compile.proofs.PlanLaws.{start_below}
use Rattle.risc_machine.specs.Faults.{name_fault}
use Rattle.risc_machine.specs.declared.parts.CodeBad.{CodeBad}
use Rattle.risc_machine.specs.declared.parts.Line.{Line}
use Rattle.risc_machine.specs.declared.parts.ThreadCode.{ThreadCode}

-- A thread of the code is the one of the plain program.
thread_made : (p : decl.Program) (t : ℕ) (thread : ThreadDecl) → t < length p.threads → thread ≡ get_or p.threads t thread
    → thread_at (plain (view.program p)) t ≡ plain_thread (view.thread thread)
thread_made p t thread inside is =
    let seen : t < length (map view.thread p.threads) = omega (arith, inside, length-map p.threads view.thread) in
    get_or-map plain_thread (map view.thread p.threads) t (view.thread thread) no_thread seen
    ∙ ap plain_thread (get_or-map view.thread p.threads t thread (view.thread thread) inside) ∙ ap (λ (d : ThreadDecl). plain_thread (view.thread d)) (sym is)

-- From the start of a thread on.
module _ (p : Plain) (t : ℕ) (modes : Sets) (old : Emitter) (held : modes ≡ modes_at p t (no_locks p)) (is : old ≡ record { lines = []; plan = start; modes = modes }) where
  beginning : Emitter
  beginning = record { lines = []; plan = start; modes = modes_at p t (no_locks p) }

  begins : old ≡ record { lines = []; plan = start; modes = modes_at p t (no_locks p) }
  begins = is ∙ ap (λ (s : Sets). let e : Emitter = record { lines = []; plan = start; modes = s } in e) held

  pub whole_lines : (b : Block) (new : Emitter) → AddsBlock b old new → IsBlockInRange (length p.vars) (length p.locks) b
      → new.lines ≡ block_lines p t (plain_block b) (no_locks p) start 0
  whole_lines b new adds range =
      let stands : Stands p t old = record {
        modes = ap (λ (e : Emitter). e.modes) begins ∙ ap (λ (e : Emitter). modes_at p t e.modes.held) (sym begins);
        below = λ r x k. start_below (length p.vars) r x (ap (λ (e : Emitter). get_or e.plan r None) (sym begins) ∙ k);
      } in
      ap (λ (e : Emitter). e.lines) (adds p t stands range) ∙ ap (λ (e : Emitter). (after p t (plain_block b) e).lines) begins

pub thread_is : (p : decl.Program) (t : ℕ) (thread : ThreadDecl) (lines : List Line) → t < length p.threads → thread ≡ get_or p.threads t thread
    → (let q = plain (view.program p) in lines ≡ block_lines q t (plain_block (view.block thread.body)) (no_locks q) start 0)
    → ◌≡◌ {A = ThreadCode} (record { name = thread.name; lines = lines }) (thread_code (plain (view.program p)) t)
thread_is p t thread lines inside is made =
    let q = plain (view.program p) in
    let seen = sym (thread_made p t thread inside is) in
    (λ i. let c : ThreadCode = record { name = thread.name; lines = made i } in c)
    ∙ (λ i. let c : ThreadCode = record { name = (seen i).name; lines = block_lines q t (seen i).body (no_locks q) start 0 } in c)

-- Parts without a fault have no name that equals an earlier one.
pub names_distinct : (version : Option CodeBad) (name : Option (List ℕ)) (rest : Option CodeBad) → option_or version (option_or (name_fault name) rest) ≡ None → name ≡ None
names_distinct (Some v) name rest none = absurd (cc)
names_distinct None None rest none = refl
names_distinct None (Some n) rest none = absurd (cc)
