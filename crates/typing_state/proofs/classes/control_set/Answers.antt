use Rattle.std.proofs.Common.{◌∙◌, sym, length, map, replicate, false}
use Rattle.std.proofs.lemmas.List.{length-map}
use Rattle.cov_ast.specs.Tables.{with_all}
use Rattle.cov_ast.specs.Plain.{plain}
use Rattle.cov_ast.specs.View as view
use Rattle.typing_state.proofs.TypeLaws.{all_controls, one_more, none_left, controls_are}
use Rattle.typing_state.proofs.classes.control_set.Goals as goal

pub loop-var-preserved : goal.loop-var-preserved
loop-var-preserved c =
    let vars = c.args.p.now.vars in
    let inside = rw c.as_slice-var-items.ensures at c.loop-var-test.true in
    let is = rw c.as_slice-var-items.ensures at c.var-item.is in
    one_more c.loop-var.controls c.add_controls.new.set (with_all (replicate (length vars) false) (all_controls (map view.var vars)))
    vars c.loop-var.var-index c.var-item.result inside is c.loop-var.invariant c.add_controls.ensures

pub returns : goal.returns
returns c =
    let vars = c.args.p.now.vars in
    let past = rw c.as_slice-var-items.ensures at c.loop-var-test.false in
    sym (none_left c.loop-var.controls vars c.loop-var.var-index past) ∙ c.loop-var.invariant
    ∙ controls_are (plain (view.program c.args.p.now)) (length vars) (sym (length-map vars view.var))
