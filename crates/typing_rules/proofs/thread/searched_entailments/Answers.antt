use Rattle.std.proofs.Common.{◌≡◌, ◌<◌, ◌∙◌, ap, arith, length, map, subst}
use Rattle.std.specs.Prelude.{IfOk}
use Rattle.std.proofs.lemmas.List.{length-map}
use Rattle.cov_ast.specs.View as view
use Rattle.typing_rules.specs.Keeping.{sought_among, view_searched}
use Rattle.typing_rules.proofs.SearchedLaws.{searched_is}
use Rattle.typing_rules.proofs.thread.searched_entailments.Goals as goal

pub returns : goal.returns
returns c =
    let p = view.program c.args.p.now in
    let t = c.args.t in
    let inside : t < length p.threads = omega (arith, c.requires.thread, length-map c.args.p.now.threads view.thread) in
    subst (λ ss. IfOk c.searches.result (λ made. map view_searched made ≡ ss))
    (ap sought_among c.in_ok-kept.ensures ∙ searched_is c.args.depth p t (c.entailments_are_obligations.ensures.obligations p c.requires.formed t inside)) c.searches.ensures
