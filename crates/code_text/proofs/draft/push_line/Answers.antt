use Rattle.std.proofs.Common.{◌≡◌, ◌-◌, length, sym, ◌∙◌, arith}
use Rattle.std.proofs.lemmas.Bool.{eqb-false}
use Rattle.std.proofs.lemmas.Result.{on_ok_weaker}
use Rattle.code_text.proofs.DraftLaws.{with_line_at}
use Rattle.code_text.proofs.draft.push_line.Goals as goal

pub returns : goal.returns
returns c =
    let some : length c.args.threads.now ≡ 0 → ⊥ = eqb-false _ 0 (sym c.is_empty.ensures ∙ c.if-is_empty.false) in
    on_ok_weaker c.push.result (with_line_at c.args.threads.now c.args.line c.index-threads-last.result c.push.new.self (length c.args.threads.now - 1) (omega arith)) c.push.ensures.ok
