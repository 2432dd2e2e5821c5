use Rattle.std.proofs.Common.{◌<◌, ◌∙◌, ap, get_or, length, map, sym, arith}
use Rattle.std.proofs.lemmas.List.{length-map}
use Rattle.cov_ast.specs.Tables.{has}
use Rattle.cov_ast.specs.Plain.{plain}
use Rattle.cov_ast.specs.View as view
use Rattle.typing_rules.proofs.StateLaws.{lock_name, end_refused, end_held, found_from, none_found}
use Rattle.typing_rules.proofs.locks.check_end.Goals as goal

pub returns-then-holds : goal.returns-then-holds
returns-then-holds c held modes =
    let p = plain (view.program c.args.p.now) in
    let site = c.args.site in
    let l = c.loop-l.l in
    let locks = c.args.p.now.locks in
    let lock = c.index-as_slice-l.result in
    let below : l < length locks = omega (arith, c.lock_count-l-end.ensures) in
    let inside : l < length (map view.lock locks) = omega (arith, length-map locks view.lock) in
    let is = rw c.as_slice.ensures at c.index-as_slice-l.is in
    end_refused p site.thread site.place l held (get_or c.as_slice.result.now l lock).name c.refused_at.result
    (found_from (has held) 0 (length (map view.lock locks)) l (omega arith) (omega arith)
    (ap (λ s. has s.held l) (sym modes) ∙ sym c.holds.ensures ∙ c.if-holds.true)
    (λ k lt. ap (λ s. has s.held k) (sym modes) ∙ c.loop-l.invariant k lt))
    (ap (λ k. k.name) (sym c.index-as_slice-l.is) ∙ lock_name locks l lock below is) c.refused_at.ensures

pub returns : goal.returns
returns c held modes =
    let p = plain (view.program c.args.p.now) in
    let site = c.args.site in
    let locks = c.args.p.now.locks in
    end_held p site.thread site.place held
    (none_found (has held) 0 (length (map view.lock locks))
    (λ k lt. let inside : k < c.loop-l.l = omega (arith, length-map locks view.lock, c.lock_count-l-end.ensures) in
    ap (λ s. has s.held k) (sym modes) ∙ c.loop-l.invariant k inside))
