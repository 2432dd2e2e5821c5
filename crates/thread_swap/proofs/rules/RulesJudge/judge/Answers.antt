use Rattle.std.proofs.Common.{◌≡◌, ◌<◌, ◌∙◌, ap, get_or, sym, subst}
use Rattle.cov_ast.specs.View as view
use Rattle.cov_ast.specs.WellFormed.{IsBodyFine, block_size, most_size}
use Rattle.cov_ast.proofs.WellFormedLaws.{seen_item}
use Rattle.typing_law.specs.Counts.{counts}
use Rattle.thread_swap.specs.Judges.{said_by}
use Rattle.thread_swap.specs.Inside.RulesLaws.{rules_say_part}
use Rattle.thread_swap.proofs.rules.RulesJudge.judge.Goals as goal

pub statements-requires : goal.statements-requires
statements-requires c =
    let p = c.args.p.now in
    let thread = c.index-as_slice-t.result in
    let is : thread ≡ get_or p.threads c.args.t thread = rw c.as_slice.ensures at c.index-as_slice-t.is in
    subst (λ ss. block_size (view.block ss) < most_size) (sym c.as_slice-2.ensures)
    (seen_item view.thread (λ s. IsBodyFine s.body) p.threads c.args.t thread c.requires.formed.bodies c.requires.thread is).small

pub returns-in-Ok-clause-says : goal.returns-in-Ok-clause-says
returns-in-Ok-clause-says c =
    let answer = c.in-Ok.ensures.answer in
    (λ i. said_by (sym answer.0 i) (answer.1 i)) ∙ sym (rules_say_part (view.program c.args.p.now) c.args.t)

pub returns-in-Err-Refused-clause-says : goal.returns-in-Err-Refused-clause-says
returns-in-Err-Refused-clause-says c =
    let p = view.program c.args.p.now in
    let answer = rw c.in-Err-Refused.field-0-is at c.in-Err-Refused.ensures.answer in
    ap (λ o. said_by o (counts p c.args.t)) (sym answer) ∙ sym (rules_say_part p c.args.t)
