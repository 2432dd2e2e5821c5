use Rattle.std.proofs.Common.{◌≡◌, ◌<◌, ◌∙◌, ap, get_or, length, subst, sym}
use Rattle.code_text.proofs.ListLaws.{good_lines}
use Rattle.code_text.specs.Listing.{IsSpelled}
use Rattle.code_lines.proofs.threads.add_code_lines.Goals as goal

pub add_thread-requires : goal.add_thread-requires
add_thread-requires c =
    let parts = c.args.parts.now in
    let t = c.loop-t.t in
    let thread = c.thread-item.result in
    let inside : t < length parts.threads = subst (λ ks. t < length ks) c.as_slice-thread-items.ensures c.loop-t-test.true in
    let is : c.as_slice.result.now ≡ (get_or parts.threads t thread).lines =
    c.as_slice.ensures ∙ ap (λ k. k.lines) c.thread-item.is ∙ ap (λ ks. (get_or ks t thread).lines) c.as_slice-thread-items.ensures in
    λ k d within.
    subst (λ ls. IsSpelled parts.vars parts.locks (get_or ls k d)) (sym is)
    (good_lines parts c.requires t thread inside k d (subst (λ ls. k < length ls) is within))
