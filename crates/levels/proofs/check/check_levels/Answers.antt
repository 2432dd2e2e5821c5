use Rattle.std.proofs.Common.{sym, subst, Result, Ok, Err, IfOk}
use Rattle.std.proofs.lemmas.List.{length-map}
use Rattle.cov_ast.specs.Syntax.{Program}
use Rattle.cov_ast.specs.View as view
use Rattle.typing_law.specs.declared.count.Count.{Count}
use Rattle.levels.specs.Accepted.{DecidesForAll, IsAcceptedForAll, IsSecureForAll}
use Rattle.level_text.specs.Lattice.{AreLevels, Levels}
use Rattle.level_text.specs.Views as level_view
use Rattle.levels.specs.declared.refusal.LevelRefusal.{LevelRefusal}
use Rattle.levels.proofs.check.check_levels.Goals as goal

-- a program that is accepted is secure
secure_of : (l : Levels) (p : Program) → (IsAcceptedForAll l p → IsSecureForAll l p) → (r : Result Count LevelRefusal) → DecidesForAll l p r → IfOk r (λ count. IsSecureForAll l p)
secure_of l p f (Ok count) h = f h.0
secure_of l p f (Err fault) h = tt

pub returns-in-Ok-clause-secure : goal.returns-in-Ok-clause-secure
returns-in-Ok-clause-secure c =
    let p = c.args.p.now in
    let l = level_view.levels c.args.l.now in
    let levels = subst (λ n. AreLevels n l) (sym (length-map p.vars view.var)) c.requires.levels in
    secure_of l (view.program p) (c.accepted_are_secure.ensures l (view.program p) levels c.requires.formed) c.check_each.result c.check_each.ensures
