use Rattle.std.proofs.Common.{◌∙◌, ap, map, sym, take}
use Rattle.std.proofs.lemmas.List.{take_rest}
use Rattle.cov_expr.specs.View.{term}
use Rattle.point_law.specs.Terms.{with_terms}
use Rattle.typing_state.proofs.KeyedLaws.{replaced}
use Rattle.typing_state.proofs.predicates.Predicates.replace.Goals as goal

pub returns : goal.returns
returns c =
    let kept = c.same_beginning-kept.result in
    let left = c.truncate.new.self in
    c.in_ok-add_all.ensures ∙ ap (λ es. with_terms (map term left) (map term es)) (take_rest c.args.preds.now kept)
    ∙ replaced c.as_slice.result.now left c.args.preds.now kept (c.truncate.ensures ∙ ap (take kept) (sym (c.as_slice.ensures ∙ c.list.ensures)))
    c.same_beginning-kept.ensures.same c.tell_once.ensures
