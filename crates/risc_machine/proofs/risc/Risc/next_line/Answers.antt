use Rattle.std.proofs.Common.{sym, ◌∙◌}
use Rattle.risc_machine.specs.Inside.{code_state}
use Rattle.risc_machine.proofs.StepLaws.{is_read, line_found, no_line, line_at}
use Rattle.risc_machine.proofs.risc.Risc.next_line.Goals as goal

pub returns-in-None : goal.returns-in-None
returns-in-None c =
    let inside = rw (← c.self.view_is) at c.requires in
    let q = is_read _ _ c.args.t _ c.index-as_slice-t.result _ _ _ c.parts-parts.ensures.parts c.as_slice.ensures inside c.index-as_slice-t.is c.as_slice-lines.ensures c.as_slice-2.ensures in
    let e = no_line _ _ _ _ _ _ q c.in-None.ensures.lookup.3 in
    rw (← c.self.view_is) (sym (line_at c.self.inside.code.now _ _ q.inside q.is (code_state c.self.inside.state) ∙ e))

pub returns-in-Some : goal.returns-in-Some
returns-in-Some c =
    let inside = rw (← c.self.view_is) at c.requires in
    let q = is_read _ _ c.args.t _ c.index-as_slice-t.result _ _ _ c.parts-parts.ensures.parts c.as_slice.ensures inside c.index-as_slice-t.is c.as_slice-lines.ensures c.as_slice-2.ensures in
    let e = line_found _ _ _ _ _ _ q c.in-Some.line.now c.in-Some.ensures.lookup.3.0 c.in-Some.ensures.lookup.1 in
    rw (← c.self.view_is) (sym (line_at c.self.inside.code.now _ _ q.inside q.is (code_state c.self.inside.state) ∙ e))
