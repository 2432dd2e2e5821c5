use Rattle.cov_print.proofs.StatementKinds.{note_is}
use Rattle.cov_print.proofs.stmt.+statements.Goals as goal

pub add_statement-returns-in-Note : goal.add_statement-returns-in-Note
add_statement-returns-in-Note t c = rw (c.in-Note.is, note_is) c.add_note.ensures
