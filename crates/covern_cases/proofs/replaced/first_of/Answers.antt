use Rattle.std.proofs.Common.{◌≡◌, List, [], ◌∷◌, Some, All, map, subst}
use Rattle.std.specs.Prelude.{slice_get}
use Rattle.std.proofs.lemmas.List.Elements.{All-head}
use Rattle.cov_ast.specs.Syntax.{Program}
use Rattle.cov_ast.specs.View as view
use Rattle.cov_ast.specs.declared.decl.ThreadDecl.{ThreadDecl}
use Rattle.thread_swap.specs.Replacements.{IsReplacement}
use Rattle.covern_cases.proofs.replaced.first_of.Goals as goal

-- what is said of all is said of the first
first_there : (p : Program) (threads : List ThreadDecl) (first : ThreadDecl) → slice_get threads 0 ≡ Some first
    → All (IsReplacement p) (map view.thread threads) → IsReplacement p (view.thread first)
first_there p [] first at all = cc
first_there p (t ∷ ts) first at all =
    let same : t ≡ first = cc in
    subst (λ d. IsReplacement p (view.thread d)) same (All-head (IsReplacement p) (view.thread t) (map view.thread ts) all)

pub returns : goal.returns
returns c = first_there (view.program c.args.program.now) c.args.threads c.remove.result c.remove.ensures.item c.requires
