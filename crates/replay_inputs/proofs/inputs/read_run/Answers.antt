use Rattle.std.proofs.Common.{◌≡◌, Err, refl, sym, subst, rules, arith}
use Rattle.std.proofs.lemmas.List.{length-map}
use Rattle.cov_ast.specs.View as view
use Rattle.replay_inputs.specs.InputViews.{run_input}
use Rattle.call_inputs.specs.Readings.{HasRead, Reading, ended, gives, stopped, then_read, took}
use Rattle.call_inputs.specs.Steps.{program}
use Rattle.replay_inputs.specs.Steps as step
use Rattle.replay_inputs.specs.Inputs as pure
use Rattle.call_inputs.proofs.PlanLaws.{read_on, read_stopped}
use Rattle.replay_inputs.proofs.inputs.read_run.Goals as goal
use Rattle.cov_ast.specs.Syntax.{Parsed}
use Rattle.std.specs.Prelude.{ℕ, List}
use Rattle.cov_io.specs.Shelves.{Shelved}

-- what is read behind the program, and behind the start
abbrev behind_start : Parsed → (schedule m : List ℕ) → Reading pure.RunInput
behind_start p schedule m = then_read (step.entries p schedule) (λ k. gives (record { program = p; memory = m; schedule = k }))

abbrev behind_program : (start schedule : List ℕ) → Parsed → Reading pure.RunInput
behind_program start schedule p = then_read (step.memory p start) (behind_start p schedule)

pub returns-in_err-parsed-clause-read : goal.returns-in_err-parsed-clause-read
returns-in_err-parsed-clause-read g c =
    let shelved = g.S.Shelf.shelved in
    let s1 = shelved c.read_program.new.shelf in
    let why = c.in_err-parsed.field-0.0 in
    let same : c.from_residual.result ≡ Err why = search rules in
    subst (λ r. HasRead (shelved c.args.shelf.now) s1 (step.run_input c.args.program.now c.args.start.now c.args.schedule.now) (ended run_input r)) (sym same)
    (read_stopped (program c.args.program.now) (behind_program c.args.start.now c.args.schedule.now) (λ shelf last. (shelf ≡ s1) × (last ≡ stopped why))
    (shelved c.args.shelf.now) s1 why c.in_err-parsed.ensures.read (refl, refl))

pub returns-in_err-memory-clause-read : goal.returns-in_err-memory-clause-read
returns-in_err-memory-clause-read g c =
    let shelved = g.S.Shelf.shelved in
    let p = view.parsed c.in_ok-parsed.parsed in
    let s1 = shelved c.read_program.new.shelf in
    let s2 = shelved c.read_memory.new.shelf in
    let why = c.in_err-memory.field-0.0 in
    let same : c.from_residual-in_err-memory.result ≡ Err why = search rules in
    let left : Shelved → _ → Type 0 = λ shelf last. (shelf ≡ s2) × (last ≡ stopped why) in
    subst (λ r. HasRead (shelved c.args.shelf.now) s2 (step.run_input c.args.program.now c.args.start.now c.args.schedule.now) (ended run_input r)) (sym same)
    (read_on (program c.args.program.now) (behind_program c.args.start.now c.args.schedule.now) left (shelved c.args.shelf.now) s1 p c.in_ok-parsed.ensures.read
    (read_stopped (step.memory p c.args.start.now) (behind_start p c.args.schedule.now) left s1 s2 why c.in_err-memory.ensures.read (refl, refl)))

pub returns-in_err-entries-clause-read : goal.returns-in_err-entries-clause-read
returns-in_err-entries-clause-read g c =
    let shelved = g.S.Shelf.shelved in
    let p = view.parsed c.in_ok-parsed.parsed in
    let m = c.in_ok-memory.memory in
    let s1 = shelved c.read_program.new.shelf in
    let s2 = shelved c.read_memory.new.shelf in
    let s3 = shelved c.read_entries.new.shelf in
    let why = c.in_err-entries.field-0.0 in
    let same : c.from_residual-in_err-entries.result ≡ Err why = search rules in
    let left : Shelved → _ → Type 0 = λ shelf last. (shelf ≡ s3) × (last ≡ stopped why) in
    subst (λ r. HasRead (shelved c.args.shelf.now) s3 (step.run_input c.args.program.now c.args.start.now c.args.schedule.now) (ended run_input r)) (sym same)
    (read_on (program c.args.program.now) (behind_program c.args.start.now c.args.schedule.now) left (shelved c.args.shelf.now) s1 p c.in_ok-parsed.ensures.read
    (read_on (step.memory p c.args.start.now) (behind_start p c.args.schedule.now) left s1 s2 m c.in_ok-memory.ensures.read
    (read_stopped (step.entries p c.args.schedule.now) (λ k. gives (record { program = p; memory = m; schedule = k })) left s2 s3 why c.in_err-entries.ensures.read (refl, refl))))

pub returns-clause-read : goal.returns-clause-read
returns-clause-read g c =
    let shelved = g.S.Shelf.shelved in
    let p = view.parsed c.in_ok-parsed.parsed in
    let m = c.in_ok-memory.memory in
    let k = c.in_ok-entries.entries in
    let s1 = shelved c.read_program.new.shelf in
    let s2 = shelved c.read_memory.new.shelf in
    let s3 = shelved c.read_entries.new.shelf in
    let end : pure.RunInput = record { program = p; memory = m; schedule = k } in
    let left : Shelved → _ → Type 0 = λ shelf last. (shelf ≡ s3) × (last ≡ took end) in
    read_on (program c.args.program.now) (behind_program c.args.start.now c.args.schedule.now) left (shelved c.args.shelf.now) s1 p c.in_ok-parsed.ensures.read
    (read_on (step.memory p c.args.start.now) (behind_start p c.args.schedule.now) left s1 s2 m c.in_ok-memory.ensures.read
    (read_on (step.entries p c.args.schedule.now) (λ k. gives (record { program = p; memory = m; schedule = k })) left s2 s3 k c.in_ok-entries.ensures.read (refl, refl)))

pub read_entries-requires : goal.read_entries-requires
read_entries-requires g c =
    omega (arith, length-map c.in_ok-parsed.parsed.threads view.thread, c.in_ok-parsed.ensures.ready.limits.declared_threads)
