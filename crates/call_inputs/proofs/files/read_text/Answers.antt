use Rattle.call_inputs.proofs.TextLaws.{text_unread}
use Rattle.call_inputs.proofs.files.read_text.Goals as goal

pub returns-in-Err-clause-read : goal.returns-in-Err-clause-read
returns-in-Err-clause-read c = text_unread c.args.name.now c.args.bytes.now c.in-Err.fault c.unread.result c.in-Err.ensures.read c.unread.ensures
