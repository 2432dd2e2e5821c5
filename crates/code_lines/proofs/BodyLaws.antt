-- The statements of a thread, by its number.
use Rattle.std.proofs.Common.{◌≡◌, ◌<◌, ◌∙◌, ℕ, List, length, map, get_or, ap, sym, subst}
use Rattle.std.proofs.lemmas.List.{get_or-map, length-map}
use Rattle.cov_ast.specs.Syntax.{done}
use Rattle.cov_ast.specs.View as view
use Rattle.cov_ast.specs.declared.decl.ThreadDecl.{ThreadDecl}
use Rattle.code_lines.specs.CodeLines.{bodies_of}

pub body_there : (threads : List ThreadDecl) (t : ℕ) (d : ThreadDecl) → t < length threads
    → view.block (get_or threads t d).body ≡ get_or (bodies_of (map view.thread threads)) t done
body_there threads t d inside =
    sym (get_or-map (λ k. k.body) (map view.thread threads) t (view.thread d) done (subst (λ n. t < n) (sym (length-map threads view.thread)) inside)
    ∙ ap (λ k. k.body) (get_or-map view.thread threads t d (view.thread d) inside))
