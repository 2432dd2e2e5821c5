use Rattle.std.proofs.Common.{◌≡◌, Err, refl, sym, subst, rules}
use Rattle.cov_ast.specs.View as view
use Rattle.replay_inputs.specs.InputViews.{starts_of}
use Rattle.call_inputs.specs.Readings.{HasRead, Reading, ended, gives, stopped, then_read, took}
use Rattle.replay_inputs.specs.Steps as step
use Rattle.replay_inputs.specs.Inputs as pure
use Rattle.call_inputs.proofs.PlanLaws.{read_on, read_stopped}
use Rattle.replay_inputs.proofs.inputs.read_starts.Goals as goal
use Rattle.cov_ast.specs.Syntax.{Parsed}
use Rattle.std.specs.Prelude.{ℕ, List}
use Rattle.cov_io.specs.Shelves.{Shelved}

-- what is read behind each start
abbrev behind_both : Parsed → (schedule l r : List ℕ) → Reading pure.PairInput
behind_both p schedule l r = then_read (step.entries p schedule) (λ k. gives (record { program = p; left = l; right = r; schedule = k }))

abbrev behind_first : Parsed → (second schedule l : List ℕ) → Reading pure.PairInput
behind_first p second schedule l = then_read (step.memory p second) (behind_both p schedule l)

pub returns-in_err-left-clause-read : goal.returns-in_err-left-clause-read
returns-in_err-left-clause-read g c =
    let shelved = g.S.Shelf.shelved in
    let p = view.parsed c.args.parsed.now in
    let s1 = shelved c.read_memory.new.shelf in
    let why = c.in_err-left.field-0.0 in
    let same : c.from_residual.result ≡ Err why = search rules in
    subst (λ r. HasRead (shelved c.args.shelf.now) s1 (step.starts p c.args.first.now c.args.second.now c.args.schedule.now) (ended (starts_of p) r)) (sym same)
    (read_stopped (step.memory p c.args.first.now) (behind_first p c.args.second.now c.args.schedule.now)
    (λ shelf last. (shelf ≡ s1) × (last ≡ stopped why)) (shelved c.args.shelf.now) s1 why c.in_err-left.ensures.read (refl, refl))

pub returns-in_err-right-clause-read : goal.returns-in_err-right-clause-read
returns-in_err-right-clause-read g c =
    let shelved = g.S.Shelf.shelved in
    let p = view.parsed c.args.parsed.now in
    let l = c.in_ok-left.left in
    let s1 = shelved c.read_memory.new.shelf in
    let s2 = shelved c.read_memory-2.new.shelf in
    let why = c.in_err-right.field-0.0 in
    let same : c.from_residual-in_err-right.result ≡ Err why = search rules in
    let left : Shelved → _ → Type 0 = λ shelf last. (shelf ≡ s2) × (last ≡ stopped why) in
    subst (λ r. HasRead (shelved c.args.shelf.now) s2 (step.starts p c.args.first.now c.args.second.now c.args.schedule.now) (ended (starts_of p) r)) (sym same)
    (read_on (step.memory p c.args.first.now) (behind_first p c.args.second.now c.args.schedule.now) left (shelved c.args.shelf.now) s1 l c.in_ok-left.ensures.read
    (read_stopped (step.memory p c.args.second.now) (behind_both p c.args.schedule.now l) left s1 s2 why c.in_err-right.ensures.read (refl, refl)))

pub returns-in_err-entries-clause-read : goal.returns-in_err-entries-clause-read
returns-in_err-entries-clause-read g c =
    let shelved = g.S.Shelf.shelved in
    let p = view.parsed c.args.parsed.now in
    let l = c.in_ok-left.left in
    let m = c.in_ok-right.right in
    let s1 = shelved c.read_memory.new.shelf in
    let s2 = shelved c.read_memory-2.new.shelf in
    let s3 = shelved c.read_entries.new.shelf in
    let why = c.in_err-entries.field-0.0 in
    let same : c.from_residual-in_err-entries.result ≡ Err why = search rules in
    let left : Shelved → _ → Type 0 = λ shelf last. (shelf ≡ s3) × (last ≡ stopped why) in
    subst (λ r. HasRead (shelved c.args.shelf.now) s3 (step.starts p c.args.first.now c.args.second.now c.args.schedule.now) (ended (starts_of p) r)) (sym same)
    (read_on (step.memory p c.args.first.now) (behind_first p c.args.second.now c.args.schedule.now) left (shelved c.args.shelf.now) s1 l c.in_ok-left.ensures.read
    (read_on (step.memory p c.args.second.now) (behind_both p c.args.schedule.now l) left s1 s2 m c.in_ok-right.ensures.read
    (read_stopped (step.entries p c.args.schedule.now) (λ k. gives (record { program = p; left = l; right = m; schedule = k })) left s2 s3 why
    c.in_err-entries.ensures.read (refl, refl))))

pub returns-clause-read : goal.returns-clause-read
returns-clause-read g c =
    let shelved = g.S.Shelf.shelved in
    let p = view.parsed c.args.parsed.now in
    let l = c.in_ok-left.left in
    let m = c.in_ok-right.right in
    let k = c.in_ok-entries.entries in
    let s1 = shelved c.read_memory.new.shelf in
    let s2 = shelved c.read_memory-2.new.shelf in
    let s3 = shelved c.read_entries.new.shelf in
    let end : pure.PairInput = record { program = p; left = l; right = m; schedule = k } in
    let left : Shelved → _ → Type 0 = λ shelf last. (shelf ≡ s3) × (last ≡ took end) in
    read_on (step.memory p c.args.first.now) (behind_first p c.args.second.now c.args.schedule.now) left (shelved c.args.shelf.now) s1 l c.in_ok-left.ensures.read
    (read_on (step.memory p c.args.second.now) (behind_both p c.args.schedule.now l) left s1 s2 m c.in_ok-right.ensures.read
    (read_on (step.entries p c.args.schedule.now) (λ k. gives (record { program = p; left = l; right = m; schedule = k })) left s2 s3 k
    c.in_ok-entries.ensures.read (refl, refl)))
