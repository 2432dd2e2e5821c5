use Rattle.std.proofs.Common.{sym, subst}
use Rattle.code_text.specs.Inside.Lookup.{IsRegisterOf}
use Rattle.code_text.proofs.LookupLaws.{names_line}
use Rattle.code_text.proofs.names.Register.add_row.Goals as goal

pub returns-in-Line : goal.returns-in-Line
returns-in-Line c = λ d stands is. rw c.in-Line.is (subst (IsRegisterOf c.args.self.now) (sym (names_line d.parts c.in-Line.field-0)) is)
