use Rattle.std.proofs.Common.{map, sym, refl}
use Rattle.std.proofs.lemmas.List.{length-map}
use Rattle.cov_ast.specs.View as view
use Rattle.typing_rules.specs.Listed.{entailment_of, entailments_of}
use Rattle.typing_rules.specs.Inside.Walking.{plain_of}
use Rattle.typing_rules.specs.declared.purpose.Purpose.TheVariants.{Collect, Search}
use Rattle.typing_rules.proofs.TryLaws.{tries_judged, tries_kept}
use Rattle.typing_rules.proofs.walk.Walk.try_small.Goals as goal

pub returns-in_ok-unproved-in-Judge : goal.returns-in_ok-unproved-in-Judge
returns-in_ok-unproved-in-Judge c a k small =
    let w = c.args.self.now in
    let xs = c.args.entailments.now in
    let gs = entailments_of a.preds xs in
    tries_judged c.args.at (map view.proof c.args.proofs.now) c.args.from gs _ (sym (length-map xs (entailment_of a.preds))) (sym small) w.purpose c.args.kept.now c.in-Judge.is
    (c.in_ok-unproved-in-Judge.ensures (plain_of w) w.thread a k)

pub returns-in_ok-add_copies-in-Collect : goal.returns-in_ok-add_copies-in-Collect
returns-in_ok-add_copies-in-Collect c a k small =
    let w = c.args.self.now in
    let xs = c.args.entailments.now in
    let gs = entailments_of a.preds xs in
    let proofs = map view.proof c.args.proofs.now in
    tries_kept c.args.at proofs c.args.from gs _ (sym (length-map xs (entailment_of a.preds))) (sym small) w.purpose (Collect c.in-Collect.wanted) c.args.kept.now c.add_copies.new.kept
    c.in-Collect.is refl ((rw c.site-site.ensures at c.in_ok-add_copies-in-Collect.ensures) proofs (plain_of w) w.thread a k)

pub returns-in_ok-add_searched-in-Search : goal.returns-in_ok-add_searched-in-Search
returns-in_ok-add_searched-in-Search c a k small =
    let w = c.args.self.now in
    let xs = c.args.entailments.now in
    let gs = entailments_of a.preds xs in
    let proofs = map view.proof c.args.proofs.now in
    tries_kept c.args.at proofs c.args.from gs _ (sym (length-map xs (entailment_of a.preds))) (sym small) w.purpose (Search c.in-Search.depth) c.args.kept.now c.add_searched.new.kept
    c.in-Search.is refl ((rw c.site-site.ensures at c.in_ok-add_searched-in-Search.ensures) (plain_of w) w.thread a k)
