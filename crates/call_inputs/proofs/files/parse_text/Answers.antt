use Rattle.call_inputs.proofs.TextLaws.{text_fault_shown}
use Rattle.call_inputs.proofs.files.parse_text.Goals as goal

pub returns-in-Err-clause-read : goal.returns-in-Err-clause-read
returns-in-Err-clause-read c = text_fault_shown c.args.bytes.now c.in-Err.fault c.in-Err.ensures.answer c.text_fault.result c.text_fault.ensures
