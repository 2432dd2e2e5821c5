use Rattle.code_text.proofs.ListLaws.{good_lines, code_listed}
use Rattle.code_text.proofs.text.list.Goals as goal

pub add_parts-requires : goal.add_parts-requires
add_parts-requires c = rw c.parts.ensures.parts (good_lines c.args.code.now c.parts.ensures.good)

pub returns-clause-listed : goal.returns-clause-listed
returns-clause-listed c =
    code_listed c.args.code.now c.parts.ensures.good
    (rw c.parts.ensures.parts at c.in_ok-add_parts.ensures.names.0)
    (rw c.parts.ensures.parts at c.in_ok-add_parts.ensures.names.1)
    (rw c.parts.ensures.parts at c.in_ok-add_parts.ensures.words)
