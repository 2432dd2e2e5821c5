use Rattle.std.proofs.Common.{◌≡◌, Err, refl, sym, subst, rules, arith}
use Rattle.std.proofs.lemmas.List.{length-map}
use Rattle.cov_ast.specs.View as view
use Rattle.replay_inputs.specs.InputViews.{pair_input, starts_of}
use Rattle.call_inputs.specs.Readings.{HasRead, ended, stopped, took}
use Rattle.call_inputs.specs.Steps.{program}
use Rattle.replay_inputs.specs.Steps as step
use Rattle.call_inputs.proofs.PlanLaws.{read_on, read_stopped}
use Rattle.replay_inputs.proofs.inputs.read_pair.Goals as goal

pub returns-in_err-parsed-clause-read : goal.returns-in_err-parsed-clause-read
returns-in_err-parsed-clause-read g c =
    let shelved = g.S.Shelf.shelved in
    let s1 = shelved c.read_program.new.shelf in
    let why = c.in_err-parsed.field-0.0 in
    let same : c.from_residual.result ≡ Err why = search rules in
    subst (λ r. HasRead (shelved c.args.shelf.now) s1 (step.pair_input c.args.program.now c.args.first.now c.args.second.now c.args.schedule.now) (ended pair_input r))
    (sym same)
    (read_stopped (program c.args.program.now) (λ p. step.starts p c.args.first.now c.args.second.now c.args.schedule.now)
    (λ shelf last. (shelf ≡ s1) × (last ≡ stopped why)) (shelved c.args.shelf.now) s1 why c.in_err-parsed.ensures.read (refl, refl))

pub returns-in_err-starts-clause-read : goal.returns-in_err-starts-clause-read
returns-in_err-starts-clause-read g c =
    let shelved = g.S.Shelf.shelved in
    let s2 = shelved c.read_starts.new.shelf in
    let why = c.in_err-starts.field-0.0 in
    let same : c.from_residual-in_err-starts.result ≡ Err why = search rules in
    subst (λ r. HasRead (shelved c.args.shelf.now) s2 (step.pair_input c.args.program.now c.args.first.now c.args.second.now c.args.schedule.now) (ended pair_input r))
    (sym same)
    (read_on (program c.args.program.now) (λ p. step.starts p c.args.first.now c.args.second.now c.args.schedule.now)
    (λ shelf last. (shelf ≡ s2) × (last ≡ stopped why)) (shelved c.args.shelf.now) (shelved c.read_program.new.shelf) (view.parsed c.in_ok-parsed.parsed)
    c.in_ok-parsed.ensures.read c.in_err-starts.ensures.read)

pub returns-clause-read : goal.returns-clause-read
returns-clause-read g c =
    let shelved = g.S.Shelf.shelved in
    let s2 = shelved c.read_starts.new.shelf in
    let p = view.parsed c.in_ok-parsed.parsed in
    read_on (program c.args.program.now) (λ p. step.starts p c.args.first.now c.args.second.now c.args.schedule.now)
    (λ shelf last. (shelf ≡ s2) × (last ≡ took (starts_of p c.in_ok-starts.starts))) (shelved c.args.shelf.now) (shelved c.read_program.new.shelf) p
    c.in_ok-parsed.ensures.read c.in_ok-starts.ensures.read

pub read_starts-requires : goal.read_starts-requires
read_starts-requires g c =
    omega (arith, length-map c.in_ok-parsed.parsed.threads view.thread, c.in_ok-parsed.ensures.ready.limits.declared_threads)
