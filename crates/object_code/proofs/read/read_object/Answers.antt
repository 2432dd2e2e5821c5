use Rattle.std.proofs.Common.{arith}
use Rattle.object_code.proofs.Whole.{read_is, stop_is_faulty, left_within}
use Rattle.object_code.proofs.Answered.{judged_reading, judged_answer}
use Rattle.object_code.proofs.read.read_object.Goals as goal

pub code_of-requires : goal.code_of-requires
code_of-requires c = (read_is c.args.bytes.now c.in-Ok.parts c.in-Ok.ensures).whole

pub overflow_sub-result : goal.overflow_sub-result
overflow_sub-result c = omega (arith, left_within c.args.bytes.now c.in-Err-Left.left (rw c.in-Err-Left.field-0-is at c.in-Err-Left.ensures))

pub returns-in-Ok-clause-reading : goal.returns-in-Ok-clause-reading
returns-in-Ok-clause-reading c = judged_reading c.args.bytes.now c.in-Ok.parts (read_is c.args.bytes.now c.in-Ok.parts c.in-Ok.ensures) c.code_of.result c.code_of.ensures

pub returns-in-Ok-clause-exact : goal.returns-in-Ok-clause-exact
returns-in-Ok-clause-exact c = judged_answer c.args.bytes.now c.in-Ok.parts (read_is c.args.bytes.now c.in-Ok.parts c.in-Ok.ensures) c.code_of.result c.code_of.ensures

pub returns-in-Err-Left-clause-reading : goal.returns-in-Err-Left-clause-reading
returns-in-Err-Left-clause-reading c =
    rw c.in-Err-Left.field-0-is (stop_is_faulty c.args.bytes.now c.in-Err-Left.left (rw c.in-Err-Left.field-0-is at c.in-Err-Left.ensures))

pub returns-in-Err-Left-clause-exact : goal.returns-in-Err-Left-clause-exact
returns-in-Err-Left-clause-exact c = (stop_is_faulty c.args.bytes.now c.in-Err-Left.left (rw c.in-Err-Left.field-0-is at c.in-Err-Left.ensures)).unread
