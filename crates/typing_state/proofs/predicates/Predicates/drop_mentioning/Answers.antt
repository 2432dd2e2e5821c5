use Rattle.std.proofs.Common.{◌∙◌, ◌-◌, ap, sym, not, get_or, arith}
use Rattle.cov_expr.specs.Trees.{mentions}
use Rattle.typing_state.proofs.DropLaws.{dropped_at, dropped_within, kept_at}
use Rattle.typing_state.proofs.predicates.Predicates.drop_mentioning.Goals as goal

pub loop-end-preserved-then-mentions : goal.loop-end-preserved-then-mentions
loop-end-preserved-then-mentions c =
    let es = c.loop-end.self in
    let end = c.loop-end.end in
    let e = c.index-as_slice-end.result in
    let some = c.loop-end-test.true in
    let within = c.loop-end.invariant.0 in (
      dropped_within es end some within c.remove.new.self c.remove.ensures,
      dropped_at es end some within (λ r. not (mentions r c.args.x)) e _
          (c.index-as_slice-end.is ∙ ap (λ l. get_or l (end - 1) e) (c.as_slice.ensures ∙ c.list-in-loop-end.ensures)) c.loop-end.invariant.1
          c.remove.new.self c.remove.ensures (ap not (sym c.mentions.ensures ∙ c.if-mentions.true)),
    )

pub loop-end-preserved : goal.loop-end-preserved
loop-end-preserved c =
    let end = c.loop-end.end in
    let e = c.index-as_slice-end.result in
    let within = c.loop-end.invariant.0 in (
      omega arith,
      kept_at c.loop-end.self end c.loop-end-test.true within (λ r. not (mentions r c.args.x)) e _
          (c.index-as_slice-end.is ∙ ap (λ l. get_or l (end - 1) e) (c.as_slice.ensures ∙ c.list-in-loop-end.ensures)) c.loop-end.invariant.1
          (ap not (sym c.mentions.ensures ∙ c.if-mentions.false)),
    )
