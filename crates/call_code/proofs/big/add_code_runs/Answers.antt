use Rattle.std.proofs.Common.{◌≡◌, ℕ, List, ◌++◌, length, false, Option, Some, None, is_some, ap, ◌∙◌, subst₂}
use Rattle.std.specs.Prelude.{OnOk}
use Rattle.cov_ast.specs.View as view
use Rattle.risc_machine.specs.Machine.{CodeState, code_from}
use Rattle.risc_machine.specs.declared.parts.Parts.{Parts}
use Rattle.schedule_replay.specs.Machines.{part_run}
use Rattle.schedule_replay.specs.declared.replays.Found.{Found}
use Rattle.call_code.specs.Codes.{code_end, code_start}
use Rattle.call_code.specs.Summaries.{code_part}
use Rattle.call_code.proofs.CodeLaws.{codes_not_apart}
use Rattle.call_code.proofs.big.add_code_runs.Goals as goal

pub prove-unreachable-requires : goal.prove-unreachable-requires
prove-unreachable-requires c =
    let code = c.requires.coded.code in
    codes_not_apart c.args.coded.now.program c.args.coded.now.code c.in_ok-left.left.parts c.in_ok-left.left.state c.in_ok-right.right.state
    c.args.memories.now.left c.args.memories.now.right
    c.args.schedule.now c.pair_code-apart.result c.in_ok-left.ensures.parts c.in_ok-left.ensures.state c.in_ok-right.ensures.state code.declared
    code.good.secure c.requires.left.fits c.requires.right.fits c.requires.fit c.requires.left.threads c.pair_code-apart.ensures.found c.if-prove.ensures

-- a run that isn't cut short ends at the end of the schedule
ends : (c e : Parts) (s now : CodeState) (m schedule : List ℕ) (o : Option Found) → is_some o ≡ false → e ≡ c → s ≡ code_start c m
    → now ≡ code_from e s (part_run schedule o) → now ≡ code_end c m schedule
ends c e s now m schedule None none same begun is = is ∙ ap (λ q. code_from q s schedule) same ∙ ap (λ z. code_from c z schedule) begun
ends c e s now m schedule (Some f) none same begun is = absurd cc

pub returns-clause-text : goal.returns-clause-text
returns-clause-text c =
    let n = length c.args.schedule.now in
    let left = ends c.args.coded.now.code c.in_ok-left.left.parts c.in_ok-left.left.state c.pair_code-apart.new.a.state c.args.memories.now.left c.args.schedule.now
    c.pair_code-apart.result c.if-prove.ensures c.in_ok-left.ensures.parts c.in_ok-left.ensures.state c.pair_code-apart.ensures.first_state in
    let right = ends c.args.coded.now.code c.in_ok-left.left.parts c.in_ok-right.right.state c.pair_code-apart.new.b.state c.args.memories.now.right c.args.schedule.now
    c.pair_code-apart.result c.if-prove.ensures c.in_ok-left.ensures.parts c.in_ok-right.ensures.state c.pair_code-apart.ensures.second_state in
    subst₂ (λ x y. OnOk c.add_code_part.result (c.add_code_part.new.text ≡ c.args.text.now ++ code_part (view.program c.args.coded.now.program) n x y)) left right
    c.add_code_part.ensures
