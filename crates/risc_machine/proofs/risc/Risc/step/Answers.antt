use Rattle.std.proofs.Common.{sym, ap, ◌∙◌}
use Rattle.std.proofs.lemmas.List.{length-map}
use Rattle.flow_model.specs.FirstDifference.{held_by}
use Rattle.risc_machine.specs.Machine.{after_line, line_says}
use Rattle.risc_machine.specs.Inside.{code_state}
use Rattle.risc_machine.proofs.StepLaws.{is_read, line_found, no_line, line_at, line_good}
use Rattle.risc_machine.proofs.risc.Risc.step.Goals as goal

pub run-requires-clause-registers : goal.run-requires-clause-registers
run-requires-clause-registers c =
    let inside = rw (← c.self.view_is) at c.requires.thread in
    let q = is_read _ _ c.args.t _ c.index-as_slice-t.result _ _ _ c.parts-parts.ensures.parts c.as_slice.ensures inside c.index-as_slice-t.is c.as_slice-lines.ensures c.as_slice-2.ensures in
    let e = line_found _ _ _ _ _ _ q c.in-Some.line.now c.in-Some.ensures.lookup.3.0 c.in-Some.ensures.lookup.1 in
    (line_good c.self.inside.code.now _ _ q.inside q.is c.parts-parts.ensures.good _ _ e).registers

pub run-requires-clause-variable : goal.run-requires-clause-variable
run-requires-clause-variable c =
    let inside = rw (← c.self.view_is) at c.requires.thread in
    let q = is_read _ _ c.args.t _ c.index-as_slice-t.result _ _ _ c.parts-parts.ensures.parts c.as_slice.ensures inside c.index-as_slice-t.is c.as_slice-lines.ensures c.as_slice-2.ensures in
    let e = line_found _ _ _ _ _ _ q c.in-Some.line.now c.in-Some.ensures.lookup.3.0 c.in-Some.ensures.lookup.1 in
    rw c.self.invariant.memory (line_good c.self.inside.code.now _ _ q.inside q.is c.parts-parts.ensures.good _ _ e).variable

pub run-requires-clause-lock : goal.run-requires-clause-lock
run-requires-clause-lock c =
    let inside = rw (← c.self.view_is) at c.requires.thread in
    let q = is_read _ _ c.args.t _ c.index-as_slice-t.result _ _ _ c.parts-parts.ensures.parts c.as_slice.ensures inside c.index-as_slice-t.is c.as_slice-lines.ensures c.as_slice-2.ensures in
    let e = line_found _ _ _ _ _ _ q c.in-Some.line.now c.in-Some.ensures.lookup.3.0 c.in-Some.ensures.lookup.1 in
    rw (sym (length-map c.self.inside.state.holders held_by) ∙ c.self.invariant.holders) (line_good c.self.inside.code.now _ _ q.inside q.is c.parts-parts.ensures.good _ _ e).lock

pub returns-in-None-clause-state : goal.returns-in-None-clause-state
returns-in-None-clause-state c =
    let inside = rw (← c.self.view_is) at c.requires.thread in
    let q = is_read _ _ c.args.t _ c.index-as_slice-t.result _ _ _ c.parts-parts.ensures.parts c.as_slice.ensures inside c.index-as_slice-t.is c.as_slice-lines.ensures c.as_slice-2.ensures in
    let e = no_line _ _ _ _ _ _ q c.in-None.ensures.lookup.3 in
    rw (← c.self.view_is) (sym (ap (after_line (code_state c.self.inside.state) c.args.t) (line_at c.self.inside.code.now _ _ q.inside q.is (code_state c.self.inside.state) ∙ e)))

pub returns-in-Some-clause-state : goal.returns-in-Some-clause-state
returns-in-Some-clause-state c =
    let inside = rw (← c.self.view_is) at c.requires.thread in
    let q = is_read _ _ c.args.t _ c.index-as_slice-t.result _ _ _ c.parts-parts.ensures.parts c.as_slice.ensures inside c.index-as_slice-t.is c.as_slice-lines.ensures c.as_slice-2.ensures in
    let e = line_found _ _ _ _ _ _ q c.in-Some.line.now c.in-Some.ensures.lookup.3.0 c.in-Some.ensures.lookup.1 in
    rw (← c.self.view_is) (c.run.ensures.state ∙ sym (ap (after_line (code_state c.self.inside.state) c.args.t) (line_at c.self.inside.code.now _ _ q.inside q.is (code_state c.self.inside.state) ∙ e)))

pub returns-in-None-clause-says : goal.returns-in-None-clause-says
returns-in-None-clause-says c =
    let inside = rw (← c.self.view_is) at c.requires.thread in
    let q = is_read _ _ c.args.t _ c.index-as_slice-t.result _ _ _ c.parts-parts.ensures.parts c.as_slice.ensures inside c.index-as_slice-t.is c.as_slice-lines.ensures c.as_slice-2.ensures in
    let e = no_line _ _ _ _ _ _ q c.in-None.ensures.lookup.3 in
    rw (← c.self.view_is) (sym (ap (line_says (code_state c.self.inside.state) c.args.t) (line_at c.self.inside.code.now _ _ q.inside q.is (code_state c.self.inside.state) ∙ e)))

pub returns-in-Some-clause-says : goal.returns-in-Some-clause-says
returns-in-Some-clause-says c =
    let inside = rw (← c.self.view_is) at c.requires.thread in
    let q = is_read _ _ c.args.t _ c.index-as_slice-t.result _ _ _ c.parts-parts.ensures.parts c.as_slice.ensures inside c.index-as_slice-t.is c.as_slice-lines.ensures c.as_slice-2.ensures in
    let e = line_found _ _ _ _ _ _ q c.in-Some.line.now c.in-Some.ensures.lookup.3.0 c.in-Some.ensures.lookup.1 in
    rw (← c.self.view_is) (c.run.ensures.says ∙ sym (ap (line_says (code_state c.self.inside.state) c.args.t) (line_at c.self.inside.code.now _ _ q.inside q.is (code_state c.self.inside.state) ∙ e)))
