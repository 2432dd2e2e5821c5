use Rattle.std.proofs.Common.{◌∙◌, ◌++◌, map, ap, sym}
use Rattle.cov_ast.specs.View as view
use Rattle.mode_compat.specs.Compatible.{numbered}
use Rattle.typing_law.specs.ThreadEntailments.{thread_entailments}
use Rattle.typing_rules.specs.Keeping.{view_searched}
use Rattle.annotate.specs.Inside.Searches.{found_at, opens, renumbered}
use Rattle.annotate.proofs.SearchedLaws.{choices_found, opens_not_found}
use Rattle.annotate.proofs.choosing.choose_in.Goals as goal

pub returns-clause-chosen : goal.returns-clause-chosen
returns-clause-chosen c place =
    let q = view.program c.args.q.now in
    let numbers = c.args.numbers.now in
    let searched = ap (map view_searched) c.as_slice.ensures ∙ c.in_ok-searched.ensures in
    c.in_ok-add_each.ensures.chosen place
    ∙ ap (λ cs. cs ++ map (renumbered numbers) (found_at (map view_searched c.as_slice.result.now) place)) (c.new-chosen.ensures place)
    ∙ ap (λ ss. map (renumbered numbers) (found_at ss place)) searched
    ∙ ap (map (renumbered numbers)) (sym (choices_found c.args.depth (numbered q c.args.t).body (thread_entailments q c.args.t) place))

pub returns-clause-unproved : goal.returns-clause-unproved
returns-clause-unproved c =
    let q = view.program c.args.q.now in
    let t = c.args.t in
    let searched = ap (map view_searched) c.as_slice.ensures ∙ c.in_ok-searched.ensures in
    c.in_ok-add_each.ensures.unproved
    ∙ ap (λ ss. c.args.unproved.now ++ opens t ss) searched
    ∙ ap (λ os. c.args.unproved.now ++ os) (sym (opens_not_found c.args.depth (numbered q t).body t (thread_entailments q t)))
