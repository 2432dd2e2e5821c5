use Rattle.std.proofs.Common.{ap, subst, sym}
use Rattle.text_parts.specs.VariableNames.{variable_names}
use Rattle.refusal_names.proofs.FoundNames.{variable_found}
use Rattle.refusal_names.proofs.UnstableLaws.{part_told}
use Rattle.refusal_names.specs.UnstableVariables.{cause_of_any, unstable_part_line, TellsOfPart}
use Rattle.refusal_names.proofs.read_laws.unstable_part_is_told.Goals as goal

pub returns : goal.returns
returns c p formed bytes t y held inside steps s proofs unstable =
    let cause = unstable_part_line (variable_names p.vars) bytes p.locks held in
    subst (TellsOfPart p bytes t held y) (sym (ap (cause_of_any cause) (variable_found p.vars p.locks p.threads y formed.names_differ inside)))
    (part_told p bytes t y held unstable)
