use Rattle.std.proofs.Common.{◌<◌, ◌∙◌, ap, sym, subst, length, map, arith}
use Rattle.std.proofs.lemmas.List.{length-map, get_or-map}
use Rattle.cov_ast.specs.View as view
use Rattle.cov_ast.specs.WellFormed.{IsLockInRange}
use Rattle.typing_rules.proofs.asked.unlock_entailments.Goals as goal

pub add_freed-requires : goal.add_freed-requires
add_freed-requires c k d lt =
    let vars = c.args.p.now.vars in
    let locks = c.args.p.now.locks in
    let lock = c.index-as_slice-l.result in
    let is = rw c.as_slice.ensures at c.index-as_slice-l.is in
    let there = ap view.lock is ∙ sym (get_or-map view.lock locks c.args.l lock (view.lock lock) c.requires.lock) in
    let inside : c.args.l < length (map view.lock locks) = omega (arith, c.requires.lock, length-map locks view.lock) in
    let range = subst (IsLockInRange (length (map view.var vars)) (length (map view.lock locks))) (sym there) (c.requires.formed.ids.of_locks c.args.l (view.lock lock) inside) in
    let among = rw c.as_slice-2.ensures at lt in
    let below = range.hide k d among in
    rw c.as_slice-2.ensures (omega (arith, below, length-map vars view.var))
