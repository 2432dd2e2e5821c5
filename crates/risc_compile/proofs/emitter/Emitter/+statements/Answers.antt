use Rattle.std.proofs.Common.{◌≡◌, ◌+◌, ◌*◌, ◌≤◌, length, map, drop, sym, ap, ◌∙◌, subst, arith}
use Rattle.std.specs.Prelude.{None, OnOk, option_map}
use Rattle.std.proofs.lemmas.Result.{on_ok_weaker}
use Rattle.cov_expr.specs.View.{term}
use Rattle.cov_ast.specs.Plain.{plain_block}
use Rattle.cov_ast.specs.View as view
use Rattle.cov_ast.specs.WellFormed.{IsBlockInRange, block_size, stm_size}
use Rattle.mode_state.specs.Sets.{Sets}
use Rattle.regalloc.specs.Plan.{Plan, meet}
use Rattle.risc_compile.specs.Inside.{AddsStm, Stands, WhereStable, after, after_value, used_value}
use Rattle.risc_compile.specs.declared.emitter.Emitter.{Emitter}
use Rattle.risc_compile.proofs.CodeLaws.{after_more, branch_code, guarded_code, loop_code, stm_stands}
use Rattle.risc_compile.proofs.ExprLaws.{wide_nodes}
use Rattle.risc_compile.proofs.StatementViews.{item_first, kind_assigns, kind_branches, kind_loops, kind_puts_out}
use Rattle.risc_compile.proofs.emitter.Emitter.+statements.Goals as goal

pub block-loop-stmt-preserved : goal.block-loop-stmt-preserved
block-loop-stmt-preserved t c =
    let item = c.stmt-item.result in
    let stm = view.kind item.kind in
    let here = c.loop-stmt.self in
    let new = c.statement.new.self in
    let whole = view.block c.args.body.now in
    let rest = view.block (drop (c.loop-stmt.stmt-index + 1) c.args.body.now) in
    let next = sym (item_first c.args.body.now c.loop-stmt.stmt-index item c.loop-stmt-test.true c.stmt-item.is) in
    let size = ap block_size next in
    let inv = c.loop-stmt.invariant in
    let added = c.in_ok-statement.ensures.length in
    let longer : length c.args.self.now.lines ≤ length new.lines = omega (arith, inv.0, added.0) in
    let smaller : block_size rest ≤ block_size whole = omega (arith, inv.1, size) in
    let fits : length new.lines + 3 * block_size rest ≤ length c.args.self.now.lines + 3 * block_size whole = omega (arith, inv.2, added.1, size) in (
      longer,
      smaller,
      fits,
      λ p u h range.
          let r = inv.3 p u h range in
          let inside = subst (IsBlockInRange (length p.vars) (length p.locks)) next r.1 in
          let is = c.in_ok-statement.ensures.code p u r.0 inside.0 in (
            subst (Stands p u) (sym is) (stm_stands p u here stm inside.0 r.0),
            inside.2,
            ap (after p u (plain_block rest)) is ∙ sym (after_more p u stm item.at (plain_block rest) here r.0) ∙ ap (λ b. after p u (plain_block b) here) (sym next) ∙ r.2,
          ),
    )

pub branch-value-requires : goal.branch-value-requires
branch-value-requires t c = omega (arith, wide_nodes (term c.args.e.now), c.requires)

pub branch-returns-clause-code : goal.branch-returns-clause-code
branch-returns-clause-code t c join p u h range =
    let m = c.guarded.new.self in
    let one = c.value.new.self in
    let two : Emitter = record { lines = m.lines; plan = c.replace-kept.new.dest; modes = c.replace-held.new.dest } in
    let plan = c.replace-kept.ensures.after ∙ c.copy-plan.ensures in
    let modes = c.replace-held.ensures.after ∙ c.in_ok-modes.ensures in
    let second : two ≡ record one { lines = m.lines } = λ i. let e : Emitter = record { lines = m.lines; plan = plan i; modes = modes i } in e in
    let q = c.patch.new.self in
    ap (λ (s : Sets). let e : Emitter = record { lines = q.lines; plan = c.meet.new.self; modes = s } in e) c.replace-held.ensures.value
    ∙ branch_code p u (term c.args.e.now) (view.block c.args.yes.now) (view.block c.args.no.now) join c.in_ok-value.value c.in_ok-jump.jump c.position-end.result c.meet.new.self
    c.args.self.now one m two c.block.new.self q c.in_ok-value.ensures.code c.in_ok-jump.ensures.code c.in_ok-jump.ensures.last.1 second c.in_ok-block.ensures.code
    c.position-end.ensures c.patch.ensures (c.meet.ensures ∙ ap (λ plan. meet plan q.plan) c.replace-kept.ensures.value) h range

pub guarded-returns-clause-code : goal.guarded-returns-clause-code
guarded-returns-clause-code t c p u h range =
    guarded_code p u c.args.value (view.block c.args.body.now) c.args.target c.len-start.result c.position-end.result c.args.self.now c.push.new.self c.block.new.self c.push-2.new.self c.patch.new.self
    c.len-start.ensures c.in_ok-push.ensures c.in_ok-block.ensures.code c.in_ok-push-2.ensures c.position-end.ensures c.patch.ensures h range

-- Statements by their kind ----------------------------------------------------------------------------------------

pub statement-assign-requires : goal.statement-assign-requires
statement-assign-requires t c =
    let size = ap stm_size (kind_assigns c.args.kind.now c.in-Assign.x c.in-Assign.e c.in-Assign.field-2 c.in-Assign.field-3 c.in-Assign.is) in
    omega (arith, wide_nodes (term c.in-Assign.e), size, c.requires)

pub statement-output-requires : goal.statement-output-requires
statement-output-requires t c =
    let size = ap stm_size (kind_puts_out c.args.kind.now c.in-Output.e c.in-Output.is) in
    omega (arith, wide_nodes (term c.in-Output.e), size, c.requires)

pub statement-returns-in-Assign-clause-code : goal.statement-returns-in-Assign-clause-code
statement-returns-in-Assign-clause-code t c =
    let is = kind_assigns c.args.kind.now c.in-Assign.x c.in-Assign.e c.in-Assign.field-2 c.in-Assign.field-3 c.in-Assign.is in
    subst (λ s. OnOk c.assign.result (AddsStm s c.args.self.now c.assign.new.self)) (sym is)
    (on_ok_weaker c.assign.result (λ adds. adds (option_map term c.in-Assign.field-2) (map view.retype c.in-Assign.field-3)) c.assign.ensures.code)

pub statement-returns-in-If-clause-code : goal.statement-returns-in-If-clause-code
statement-returns-in-If-clause-code t c =
    let is = kind_branches c.args.kind.now c.in-If.e c.in-If.yes c.in-If.no c.in-If.field-3 c.as_slice.result.now c.as_slice-in-If.result.now c.in-If.is c.as_slice.ensures c.as_slice-in-If.ensures in
    subst (λ s. OnOk c.branch-self.result (AddsStm s c.args.self.now c.branch-self.new.self)) (sym is)
    (on_ok_weaker c.branch-self.result (λ adds. adds (view.state c.in-If.field-3)) c.branch-self.ensures.code)

pub statement-returns-in-While-clause-code : goal.statement-returns-in-While-clause-code
statement-returns-in-While-clause-code t c =
    let is = kind_loops c.args.kind.now c.in-While.e c.in-While.field-1 c.in-While.body c.as_slice-in-While.result.now c.in-While.is c.as_slice-in-While.ensures in
    subst (λ s. OnOk c.while_loop.result (AddsStm s c.args.self.now c.while_loop.new.self)) (sym is)
    (on_ok_weaker c.while_loop.result (λ adds. adds (view.state c.in-While.field-1)) c.while_loop.ensures.code)

pub while_loop-copied-requires : goal.while_loop-copied-requires
while_loop-copied-requires t c = omega (arith, wide_nodes (term c.args.e.now), c.requires)

pub while_loop-returns-clause-code : goal.while_loop-returns-clause-code
while_loop-returns-clause-code t c inv p u h range =
    let old = c.args.self.now in
    let one = c.copied.new.self in
    let m = c.guarded.new.self in
    let e = term c.args.e.now in
    let begun = subst
    (λ (plan : Plan). WhereStable old.modes e (λ stable. (one ≡ after_value stable e None (record old { plan = plan }))
    × (c.in_ok-value.value ≡ used_value stable e None (record old { plan = plan })))) c.start-self.ensures c.in_ok-value.ensures.code in
    (λ i. let r : Emitter = record { lines = m.lines; plan = c.copy-plan.ensures i; modes = c.in_ok-modes.ensures i } in r)
    ∙ loop_code p u e (view.block c.args.body.now) inv c.in_ok-value.value c.position-head.result old one m c.position-head.ensures begun c.in_ok-guarded.ensures.code h range
