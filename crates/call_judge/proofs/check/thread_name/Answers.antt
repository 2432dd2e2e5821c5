use Rattle.std.proofs.Common.{◌≡◌, ℕ, List, Option, Some, option_map, slice_get, map, length, refl, sym, ap, ◌∙◌, subst}
use Rattle.std.proofs.lemmas.Option.{slice_get-map, slice_get_read}
use Rattle.cov_ast.specs.Syntax.{Thread}
use Rattle.cov_ast.specs.View as view
use Rattle.cov_ast.specs.declared.decl.ThreadDecl.{ThreadDecl}
use Rattle.call_judge.specs.Check.{name_in}
use Rattle.call_judge.proofs.check.thread_name.Goals as goal

named : (threads : List ThreadDecl) (thread : Option ℕ) (t : ℕ) (found : ThreadDecl) → thread ≡ Some t
    → slice_get threads t ≡ Some found → Some found.name ≡ name_in (map view.thread threads) thread
named threads thread t found is at =
    let name : Thread → List ℕ = λ th. th.name in
    subst (λ o. Some found.name ≡ name_in (map view.thread threads) o) (sym is)
    (sym (slice_get-map name (map view.thread threads) t ∙ ap (option_map name) (slice_get-map view.thread threads t ∙ ap (option_map view.thread) at)))

pub returns : goal.returns
returns c =
    let threads = c.args.threads.now in
    let t = c.in_ok-thread.field-0 in
    let thread = c.in_ok-thread-2.thread.now in
    let found = c.in_ok-thread-2.ensures.lookup in
    named threads c.args.thread t thread c.in_ok-thread.was (slice_get_read threads (length threads) t thread refl found.3.0 found.1)
