use Rattle.object_code.proofs.Writing.{good_weights, code_has_object}
use Rattle.object_code.proofs.bytes.object.Goals as goal

pub add_parts-requires-clause-weights : goal.add_parts-requires-clause-weights
add_parts-requires-clause-weights c = rw c.parts.ensures.parts (good_weights c.args.code.now c.parts.ensures.good)

pub returns-clause-whole : goal.returns-clause-whole
returns-clause-whole c =
    code_has_object c.args.code.now c.parts.ensures.good
    (rw c.parts.ensures.parts at c.in_ok-add_parts.ensures.names.0)
    (rw c.parts.ensures.parts at c.in_ok-add_parts.ensures.names.1)
    (rw c.parts.ensures.parts at c.in_ok-add_parts.ensures.words)
