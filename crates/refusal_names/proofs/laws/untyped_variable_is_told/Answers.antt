use Rattle.std.proofs.Common.{subst, sym}
use Rattle.cov_ast.specs.Syntax.{assign, branch, loop, note}
use Rattle.statement_paths.specs.LocksHeld.{held_at_end}
use Rattle.refusal_names.proofs.TypeLaws.{by_name, unretyped, untyped}
use Rattle.refusal_names.specs.GivenTypes.{TellsWhyUntyped}
use Rattle.refusal_names.proofs.laws.untyped_variable_is_told.Goals as goal

pub returns-clause-noted : goal.returns-clause-noted
returns-clause-noted c p formed bytes t z held inside steps proofs before j broken =
    subst (TellsWhyUntyped p bytes t held before z) (sym (by_name p formed bytes t held z inside (note j))) (untyped p bytes t held before z inside broken)

pub returns-clause-entered : goal.returns-clause-entered
returns-clause-entered c p formed bytes t z held inside steps proofs before e inv b broken =
    subst (TellsWhyUntyped p bytes t held before z) (sym (by_name p formed bytes t held z inside (loop e inv b))) (untyped p bytes t held before z inside broken)

pub returns-clause-joined : goal.returns-clause-joined
returns-clause-joined c p formed bytes t z held inside steps proofs before e a b join broken =
    let there = held_at_end a held in
    subst (TellsWhyUntyped p bytes t there before z) (sym (by_name p formed bytes t there z inside (branch e a b join))) (untyped p bytes t there before z inside broken)

pub returns-clause-retyped : goal.returns-clause-retyped
returns-clause-retyped c p formed bytes t x z held there inside steps proofs before e q retypes broken =
    unretyped p bytes t held before z inside x there broken _ (by_name p formed bytes t held z inside (assign x e q retypes))
