use Rattle.std.proofs.Common.{◌≤◌, length, All, arith, ◌∙◌, subst}
use Rattle.std.proofs.lemmas.List.{take_all}
use Rattle.std.proofs.lemmas.Option.{get_or_from_slice_get}
use Rattle.cov_expr.specs.Names.{IsName}
use Rattle.annotate.proofs.NumberedLaws.{names_more, past_names}
use Rattle.annotate.proofs.numbers.past.Goals as goal

pub loop-number-preserved : goal.loop-number-preserved
loop-number-preserved c =
    let names = c.args.names.now in
    let number = c.loop-number.number in
    let name = c.name-name.result in
    names_more names number name (omega (arith, c.len-number-end.ensures.len, c.loop-number-test.true)) (get_or_from_slice_get names number name name c.name-name.ensures)
    c.text.ensures.name c.loop-number.invariant

pub returns : goal.returns
returns c =
    let names = c.args.names.now in
    let over : length names ≤ c.loop-number.number = omega (arith, c.len-number-end.ensures.len, c.loop-number-test.false) in
    c.len.ensures.len ∙ past_names names (subst (All IsName) (take_all c.loop-number.number names over) c.loop-number.invariant)
