use Rattle.std.proofs.Common.{◌≡◌, ◌+◌, ◌*◌, ◌≤◌, ◌<◌, [], Some, length, drop, refl, sym, ap, ◌∙◌, subst, arith}
use Rattle.std.proofs.lemmas.List.{drop_all}
use Rattle.std.proofs.lemmas.Result.{IfOk-weaker}
use Rattle.cov_expr.specs.View.{term}
use Rattle.cov_ast.specs.Syntax.{branch}
use Rattle.cov_ast.specs.View as view
use Rattle.cov_ast.specs.declared.stmt.StmtKind.{StmtKind-F, fold-roll-StmtKind}
use Rattle.cov_ast.specs.declared.stmt.StmtKind.TheVariants as kinds
use Rattle.cov_ast.specs.WellFormed.{IsBlockInRange, IsStmInRange, block_size, stm_size}
use Rattle.typing_rules.proofs.StatementLaws.{block_from, branch_is}
use Rattle.typing_points.specs.Traces.{KeepsAny, plain_of}
use Rattle.typing_points.specs.PointsBehind.{behind_block, behind_stm}
use Rattle.typing_points.proofs.Reached.{ended, reached}
use Rattle.typing_points.proofs.passing.Trace.+blocks.Goals as goal

pub pass_block-loop-stmt-init : goal.pass_block-loop-stmt-init
pass_block-loop-stmt-init t c =
    let whole = view.block c.args.body.now in
    let e : block_size whole ≤ block_size whole = omega arith in
    (c.requires.range, e, λ a k. (a, (k, refl)))

pub pass_block-pass_statement-requires : goal.pass_block-pass_statement-requires
pass_block-pass_statement-requires t c =
    let program = c.args.self.now.program.now in
    let s = c.stmt-item.result in
    let next = block_from c.args.body.now c.loop-stmt.stmt-index s c.loop-stmt-test.true c.stmt-item.is in
    let size = ap block_size next in
    let falls : 3 * stm_size (view.kind s.kind) + 2 < t = omega (arith, size, c.loop-stmt.invariant.1, c.decreases) in
    (falls, (c.requires.trace, (subst (IsBlockInRange (length program.vars) (length program.locks)) next c.loop-stmt.invariant.0).0))

pub pass_block-loop-stmt-preserved : goal.pass_block-loop-stmt-preserved
pass_block-loop-stmt-preserved t c =
    let w = c.args.self.now in
    let p = plain_of w in
    let n = length w.program.now.vars in
    let m = length w.program.now.locks in
    let s = c.stmt-item.result in
    let whole = view.block c.args.body.now in
    let rest = view.block (drop (c.loop-stmt.stmt-index + 1) c.args.body.now) in
    let next = block_from c.args.body.now c.loop-stmt.stmt-index s c.loop-stmt-test.true c.stmt-item.is in
    let range = subst (IsBlockInRange n m) next c.loop-stmt.invariant.0 in
    let size = ap block_size next in
    let smaller : block_size rest ≤ block_size whole = omega (arith, size, c.loop-stmt.invariant.1) in (
      range.2,
      smaller,
      λ a k.
          let r = c.loop-stmt.invariant.2 a k in
          let is = subst (λ b. behind_block p w.thread b r.0 ≡ behind_block p w.thread whole a) next r.1.1 in
          let kept = subst (λ o. KeepsAny p w.thread (behind_stm p w.thread (view.kind s.kind) r.0) o) c.in-Some.is (c.in_ok-point.ensures r.0 r.1.0) in
          reached p w.thread (behind_stm p w.thread (view.kind s.kind) r.0) (λ b. behind_block p w.thread rest b) (behind_block p w.thread whole a) c.in-Some.point kept is,
    )

pub pass_block-returns : goal.pass_block-returns
pass_block-returns t c a k =
    let w = c.args.self.now in
    let p = plain_of w in
    let r = c.loop-stmt.invariant.2 a k in
    let over : drop c.loop-stmt.stmt-index c.args.body.now ≡ [] = drop_all _ _ c.loop-stmt-test.false in
    let is = subst (λ ss. behind_block p w.thread (view.block ss) r.0 ≡ behind_block p w.thread (view.block c.args.body.now) a) over r.1.1 in
    subst (λ o. KeepsAny p w.thread o (Some c.loop-stmt.here)) is r.1.0

pub pass_block-returns-in-None : goal.pass_block-returns-in-None
pass_block-returns-in-None t c a k =
    let w = c.args.self.now in
    let p = plain_of w in
    let s = c.stmt-item.result in
    let whole = view.block c.args.body.now in
    let rest = view.block (drop (c.loop-stmt.stmt-index + 1) c.args.body.now) in
    let next = block_from c.args.body.now c.loop-stmt.stmt-index s c.loop-stmt-test.true c.stmt-item.is in
    let r = c.loop-stmt.invariant.2 a k in
    let is = subst (λ b. behind_block p w.thread b r.0 ≡ behind_block p w.thread whole a) next r.1.1 in
    let kept = subst (λ o. KeepsAny p w.thread (behind_stm p w.thread (view.kind s.kind) r.0) o) c.in-None.is (c.in_ok-point.ensures r.0 r.1.0) in
    ended p w.thread (behind_stm p w.thread (view.kind s.kind) r.0) (λ b. behind_block p w.thread rest b) (behind_block p w.thread whole a) kept is

pub pass_branch-pass_block-requires : goal.pass_branch-pass_block-requires
pass_branch-pass_block-requires t c =
    let falls : 3 * block_size (view.block c.args.first.now) < t = omega (arith, c.decreases) in
    (falls, (c.requires.trace, c.requires.range))

pub pass_statement-pass_branch-requires : goal.pass_statement-pass_branch-requires
pass_statement-pass_branch-requires t c =
    let p = c.args.self.now.program.now in
    let is = ap view.kind c.in-If.is ∙ branch_is c.in-If.e c.in-If.first c.in-If.field-2 c.in-If.join in
    let range = subst (IsStmInRange (length p.vars) (length p.locks)) is c.requires.range in
    let size = ap stm_size is in
    let first = sym c.as_slice.ensures in
    let falls : 3 * block_size (view.block c.as_slice.result.now) + 1 < t =
    subst (λ xs. 3 * block_size (view.block xs) + 1 < t) first (let e : 3 * block_size (view.block c.in-If.first) + 1 < t = omega (arith, size, c.decreases) in e) in
    (falls, (c.requires.trace, (range.0, subst (λ xs. IsBlockInRange (length p.vars) (length p.locks) (view.block xs)) first range.1)))

pub pass_statement-returns-in-Assign : goal.pass_statement-returns-in-Assign
pass_statement-returns-in-Assign t c =
    let w = c.args.self.now in
    let x = c.in-Assign.x in
    let e = c.in-Assign.e in
    let q = c.in-Assign.written in
    let rs = c.in-Assign.retypes in
    let is = ap view.kind c.in-Assign.is ∙ ap view.kind (sym (kinds.rolls-Assign x e q rs))
    ∙ fold-roll-StmtKind _ _ view.kind_step view.stmt_step (StmtKind-F.Assign x e q rs) in
    IfOk-weaker c.pass_assignment.result _ _
    (λ made h a k. subst (λ s. KeepsAny (plain_of w) w.thread (behind_stm (plain_of w) w.thread s a) made) (sym is) (h a k)) c.pass_assignment.ensures

pub pass_statement-returns-in_ok-noted-in-Note : goal.pass_statement-returns-in_ok-noted-in-Note
pass_statement-returns-in_ok-noted-in-Note t c a k =
    let w = c.args.self.now in
    let j = c.in-Note.j in
    let is = ap view.kind c.in-Note.is ∙ ap view.kind (sym (kinds.rolls-Note j)) ∙ fold-roll-StmtKind _ _ view.kind_step view.stmt_step (StmtKind-F.Note j) in
    subst (λ s. KeepsAny (plain_of w) w.thread (behind_stm (plain_of w) w.thread s a) (Some c.in_ok-noted-in-Note.field-0)) (sym is)
    (c.in_ok-noted-in-Note.ensures (plain_of w) w.thread a k)

pub pass_statement-returns-in-If : goal.pass_statement-returns-in-If
pass_statement-returns-in-If t c =
    let w = c.args.self.now in
    let p = plain_of w in
    let is = ap view.kind c.in-If.is ∙ branch_is c.in-If.e c.in-If.first c.in-If.field-2 c.in-If.join in
    let first = c.as_slice.ensures in
    IfOk-weaker c.pass_branch.result _ _
    (λ made h a k.
    subst (λ s. KeepsAny p w.thread (behind_stm p w.thread s a) made) (sym is)
    (subst (λ xs. KeepsAny p w.thread (behind_stm p w.thread (branch (term c.in-If.e) (view.block xs) (view.block c.in-If.field-2) (view.state c.in-If.join)) a) made) first (h a k)))
    c.pass_branch.ensures
