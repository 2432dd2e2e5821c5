use Rattle.std.proofs.Common.{◌≡◌, IfOk, map, ap, ◌∙◌, subst}
use Rattle.cov_ast.specs.View as view
use Rattle.mode_compat.specs.Compatible.{numbered}
use Rattle.typing_law.specs.ThreadEntailments.{thread_entailments}
use Rattle.typing_rules.specs.Keeping.{view_searched}
use Rattle.entail_refused.specs.Inside.SearchedOthers.{listed}
use Rattle.entail_refused.proofs.OthersListed.{others_listed}
use Rattle.entail_refused.proofs.others.others_in.Goals as goal

pub returns : goal.returns
returns c =
    let p = view.program c.args.p.now in
    let t = c.args.t in
    subst (λ rs. IfOk c.others_among.result (λ made. made ≡ rs))
    (ap (listed t c.args.place c.args.number) (ap (map view_searched) c.as_slice.ensures ∙ c.in_ok-searched.ensures)
    ∙ others_listed t c.args.place c.args.number (numbered p t).body (thread_entailments p t))
    c.others_among.ensures
