use Rattle.std.proofs.Common.{◌≡◌, ◌<◌, ◌∙◌, [], Some, ap, get_or, length, set, sym, ◌||◌, arith}
use Rattle.std.proofs.lemmas.List.{get_or_default}
use Rattle.cov_expr.specs.Trees.{mentions}
use Rattle.cov_expr.specs.View.{term}
use Rattle.cov_ast.specs.Tables.{has}
use Rattle.typing_state.proofs.GroupLaws.{closed_free, joined_more, put_keeps}
use Rattle.typing_state.proofs.groups.Groups.mark_type.Goals as goal

pub returns-then-is_closed-clause-free : goal.returns-then-is_closed-clause-free
returns-then-is_closed-clause-free c x below away = closed_free x (Some (term c.args.q.now)) (sym c.is_closed.ensures ∙ c.if-is_closed.true)

pub returns-clause-kept : goal.returns-clause-kept
returns-clause-kept c g x away =
    let sets = c.args.self.now in
    let group = c.args.group in
    let found = c.index-as_slice-group.result in
    let marked = c.add_mentioned.new.set in
    let inside : group < length sets = omega (arith, c.requires, c.self.invariant.0, ap length c.self.view_is) in
    let copied : c.copy-marked.result ≡ get_or sets group [] =
    c.copy-marked.ensures ∙ c.index-as_slice-group.is ∙ ap (λ l. get_or l group found) (c.as_slice.ensures ∙ c.self.view_is) ∙ get_or_default sets group found [] inside in
    let long : length (get_or sets group []) ≡ 256 = ap (λ l. length (get_or l group [])) (sym c.self.view_is) ∙ c.self.invariant.1 group c.requires in
    put_keeps sets group marked
    (joined_more (get_or sets group []) marked (mentions (term c.args.q.now)) long
    (λ y lt. c.add_mentioned.ensures.mentioned y lt ∙ (λ i. has (copied i) y || mentions (term c.args.q.now) y)))
    g x (sym (ap (λ l. has (get_or l g []) x) (c.set.ensures ∙ ap (λ l. set l group marked) c.self.view_is)) ∙ away)
