use Rattle.std.proofs.Common.{◌≡◌, None, sym, ◌∙◌, rules}
use Rattle.top_call.proofs.NumberLaws.{said, unread, unsaid, within}
use Rattle.top_call.proofs.commands.number_of.Goals as goal

pub returns-in_err-number-clause-is : goal.returns-in_err-number-clause-is
returns-in_err-number-clause-is c =
    let none : c.from_residual.result ≡ None = search rules in
    none ∙ sym (unread c.args.most c.requires c.args.word.now c.parse.result c.parse.ensures.value.0 c.in_err-number.ensures.value)

pub returns-then-is_number-clause-is : goal.returns-then-is_number-clause-is
returns-then-is_number-clause-is c = sym (said c.args.most c.requires c.args.word.now c.in_ok-number.number (sym c.is_number.ensures ∙ c.if-is_number.true))

pub returns-then-is_number-clause-within : goal.returns-then-is_number-clause-within
returns-then-is_number-clause-within c = within c.args.most c.requires c.args.word.now c.in_ok-number.number (sym c.is_number.ensures ∙ c.if-is_number.true)

pub returns-else-is_number-clause-is : goal.returns-else-is_number-clause-is
returns-else-is_number-clause-is c =
    sym (unsaid c.args.most c.requires c.args.word.now c.parse.result c.parse.ensures.value.0 c.in_ok-number.number c.in_ok-number.ensures.value (sym c.is_number.ensures ∙ c.if-is_number.false))
