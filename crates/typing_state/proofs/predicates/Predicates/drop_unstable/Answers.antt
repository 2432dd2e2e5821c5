use Rattle.std.proofs.Common.{◌∙◌, ◌-◌, ap, sym, get_or, arith}
use Rattle.cov_ast.specs.Plain.{plain}
use Rattle.cov_ast.specs.View as view
use Rattle.point_law.specs.Point.{is_over_stable}
use Rattle.typing_state.proofs.DropLaws.{dropped_at, dropped_within, kept_at}
use Rattle.typing_state.proofs.predicates.Predicates.drop_unstable.Goals as goal

pub loop-end-preserved-then-not-is_kept : goal.loop-end-preserved-then-not-is_kept
loop-end-preserved-then-not-is_kept c =
    let es = c.loop-end.self in
    let end = c.loop-end.end in
    let e = c.index-as_slice-end.result in
    let some = c.loop-end-test.true in
    let within = c.loop-end.invariant.0 in (
      dropped_within es end some within c.remove.new.self c.remove.ensures,
      λ t held modes. dropped_at es end some within (is_over_stable (plain (view.program c.args.p.now)) t held) e _
          (c.index-as_slice-end.is ∙ ap (λ l. get_or l (end - 1) e) (c.as_slice.ensures ∙ c.list-in-loop-end.ensures)) (c.loop-end.invariant.1 t held modes)
          c.remove.new.self c.remove.ensures (sym (c.is_kept.ensures t held modes) ∙ c.if-not-is_kept.true),
    )

pub loop-end-preserved : goal.loop-end-preserved
loop-end-preserved c =
    let end = c.loop-end.end in
    let e = c.index-as_slice-end.result in
    let within = c.loop-end.invariant.0 in (
      omega arith,
      λ t held modes. kept_at c.loop-end.self end c.loop-end-test.true within (is_over_stable (plain (view.program c.args.p.now)) t held) e _
          (c.index-as_slice-end.is ∙ ap (λ l. get_or l (end - 1) e) (c.as_slice.ensures ∙ c.list-in-loop-end.ensures)) (c.loop-end.invariant.1 t held modes)
          (sym (c.is_kept.ensures t held modes) ∙ c.if-not-is_kept.false),
    )
