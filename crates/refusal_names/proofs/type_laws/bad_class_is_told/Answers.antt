use Rattle.std.proofs.Common.{subst, sym}
use Rattle.cov_ast.specs.Plain.{plain}
use Rattle.refusal_names.proofs.ToldClassLaws.{none_told}
use Rattle.refusal_names.proofs.ToldClassLaws as classes
use Rattle.refusal_names.proofs.ToldTypeLaws.{line_by, told}
use Rattle.refusal_names.specs.OutsideVariables.{first_with_outside}
use Rattle.refusal_names.specs.SpokenParts.{type_terms}
use Rattle.refusal_names.specs.StableSets.{stable_controls}
use Rattle.refusal_names.specs.ToldTypes.{TellsOfType}
use Rattle.refusal_names.proofs.type_laws.bad_class_is_told.Goals as goal

pub returns-clause-assigned : goal.returns-clause-assigned
returns-clause-assigned c p formed bytes t a over steps proofs detail x e retypes below broken =
    classes.told p formed bytes t a over e below broken (line_by p bytes t a.held (first_with_outside (stable_controls (plain p) t a.held) (type_terms retypes)))

pub returns-clause-retyped : goal.returns-clause-retyped
returns-clause-retyped c p formed bytes t a steps proofs detail x e retypes below types_below over broken =
    let type = line_by p bytes t a.held (first_with_outside (stable_controls (plain p) t a.held) (type_terms retypes)) in
    subst (TellsOfType p bytes t a.held (type_terms retypes)) (sym (none_told p formed bytes t a e below over type)) (told p bytes t a.held (type_terms retypes) types_below broken)
