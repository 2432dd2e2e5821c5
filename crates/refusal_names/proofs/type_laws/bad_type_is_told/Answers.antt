use Rattle.std.proofs.Common.{ap, subst, sym}
use Rattle.cov_ast.specs.Plain.{plain}
use Rattle.point_law.specs.Point.{controls_of}
use Rattle.statement_paths.specs.VariableSets.{stable}
use Rattle.text_parts.specs.VariableNames.{variable_names}
use Rattle.refusal_names.proofs.ToldTypeLaws.{line_by, told}
use Rattle.refusal_names.specs.NameLines.{class_or_type_line, value_class}
use Rattle.refusal_names.specs.OutsideVariables.{first_with_outside}
use Rattle.refusal_names.specs.SpokenParts.{stated_types}
use Rattle.refusal_names.specs.StableSets.{held_where_stated, stable_controls}
use Rattle.refusal_names.specs.ToldTypes.{TellsOfType}
use Rattle.refusal_names.specs.UnstableVariables.{unstable_line}
use Rattle.refusal_names.proofs.type_laws.bad_type_is_told.Goals as goal

pub returns : goal.returns
returns c p bytes t held steps proofs detail s none below broken =
    let there = held_where_stated s held in
    let names = variable_names p.vars in
    let type = line_by p bytes t there (first_with_outside (stable_controls (plain p) t there) (stated_types s)) in
    subst (TellsOfType p bytes t there (stated_types s))
    (sym
    (ap (λ o. class_or_type_line names (unstable_line names bytes p.locks there) (value_class (plain p) (stable (plain p) t there) (controls_of (plain p)) o) type) none))
    (told p bytes t there (stated_types s) below broken)
