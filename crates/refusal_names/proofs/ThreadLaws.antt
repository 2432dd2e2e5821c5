-- The first thread of a name.
use Rattle.std.proofs.Common.{◌≡◌, ℕ, ◌+◌, ◌<◌, List, ◌∷◌, map, drop, length, get_or, Some, true, if◌then◌else◌, ap, sym, ◌∙◌}
use Rattle.std.specs.Str.{bytes_eq}
use Rattle.std.proofs.lemmas.List.{at_drop_more}
use Rattle.cov_ast.specs.View as view
use Rattle.cov_ast.specs.declared.decl.ThreadDecl.{ThreadDecl}
use Rattle.refusal_names.specs.MissingGuarantees.{thread_named}

-- of those that are left, the next has the name
pub next_is_named : (wanted : List ℕ) (threads : List ThreadDecl) (i : ℕ) (t : ThreadDecl) → i < length threads → t ≡ get_or threads i t
    → bytes_eq t.name wanted ≡ true → thread_named wanted (map view.thread (drop i threads)) ≡ thread_named wanted (map view.thread threads)
    → Some (view.thread t) ≡ thread_named wanted (map view.thread threads)
next_is_named wanted threads i t inside is named left =
    let rest = drop (i + 1) threads in
    sym (ap (λ b. if b then Some (view.thread t) else thread_named wanted (map view.thread rest)) named)
    ∙ ap (λ u. thread_named wanted (map view.thread (u ∷ rest))) is
    ∙ sym (at_drop_more (λ ts. thread_named wanted (map view.thread ts)) threads i t inside)
    ∙ left
