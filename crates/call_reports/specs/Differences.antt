-- What makes two memories unfit to start from, and what two runs differ in: their names.
use Rattle.std.specs.Prelude.{ℕ, List, [], get_or, map, codes}
use Rattle.cov_ast.specs.Syntax.{Program, Thread}
use Rattle.flow_model.specs.declared.agreement.Differ.{Differ}
use Rattle.flow_model.specs.declared.agreement.Differ.TheVariants as differs
use Rattle.flow_model.specs.declared.start.BadStart.{BadStart}
use Rattle.flow_model.specs.declared.start.BadStart.TheVariants as bad

-- the name of a variable, by its place
abbrev pub var_name : Program → ℕ → List ℕ
var_name p x = get_or (map (λ v. v.name) p.vars) x []

abbrev pub lock_name : Program → ℕ → List ℕ
lock_name p l = get_or (map (λ lock. lock.name) p.locks) l []

-- the name of a thread, by its number
abbrev pub name_at : List Thread → ℕ → List ℕ
name_at threads t = get_or (map (λ thread. thread.name) threads) t []

-- the name of what makes two memories unfit to start from
abbrev pub bad_name : Program → BadStart → List ℕ
bad_name p (bad.Var x) = var_name p x
bad_name p (bad.Lock l) = lock_name p l

-- what two runs differ in; no declaration has the name `output`, which is a keyword
abbrev pub differ_text : Program → Differ → List ℕ
differ_text p (differs.Lock l) = lock_name p l
differ_text p (differs.Var x) = var_name p x
differ_text p differs.Output = codes "output"
differ_text p (differs.Thread t) = name_at p.threads t
