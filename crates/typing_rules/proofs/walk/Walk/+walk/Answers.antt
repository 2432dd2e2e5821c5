use Rattle.std.proofs.Common.{◌≡◌, ◌+◌, ◌*◌, ◌≤◌, ◌<◌, [], ◌∷◌, ◌++◌, length, map, drop, sym, ap, ◌∙◌, subst, arith}
use Rattle.std.proofs.lemmas.List.{drop_all, length-append, length-map}
use Rattle.cov_expr.specs.Term.{neg}
use Rattle.cov_expr.specs.View.{term}
use Rattle.cov_ast.specs.Syntax.{branch, loop, Block}
use Rattle.cov_ast.specs.View as view
use Rattle.cov_ast.specs.WellFormed.{IsBlockInRange, IsStmInRange, block_size, stm_size, most_size}
use Rattle.cov_ast.specs.declared.decl.Program as decl
use Rattle.point_law.specs.After.{meet, with_guard}
use Rattle.point_law.specs.Point.{Point}
use Rattle.typing_law.specs.Counts.{entailment_count}
use Rattle.typing_law.specs.Blocks.{after_block, after_stm}
use Rattle.typing_law.specs.Entailments.{guard_follows, state_follows}
use Rattle.typing_law.specs.ThreadObligations.{block_obligations, flat, stm_parts}
use Rattle.typing_law.specs.ThreadEntailments.{stm_entailments}
use Rattle.typing_law.proofs.Bounds.{few_entailments_state, few_entailments}
use Rattle.typing_law.proofs.Counting.{count_branch, count_loop}
use Rattle.typing_rules.specs.Inside.Passing.{Stops}
use Rattle.typing_rules.specs.Inside.Walking.{HasTypesBelow, IsWalk, WalksStm, plain_of}
use Rattle.typing_rules.specs.declared.walk.Walk.{Walk}
use Rattle.typing_rules.proofs.Ranges.{block_below, classes_below, meet_below, stm_below}
use Rattle.typing_rules.proofs.Splits.{branch_walks, first_refused, fork_refused, head_refused, loop_walks, second_refused, turn_refused}
use Rattle.typing_rules.proofs.StatementLaws.{block_from}
use Rattle.typing_rules.proofs.Walks.{assign_is, branch_seen, lock_is, loop_seen, output_is, skip_is, Reaches, one_point, reaches_end, reaches_few, reaches_more, reaches_refused, reaches_start}
use Rattle.typing_rules.proofs.walk.Walk.+walk.Goals as goal

-- ids in range of the program as it is seen
seen_range : (p : decl.Program) (b : Block) → IsBlockInRange (length p.vars) (length p.locks) b
    → IsBlockInRange (length (map view.var p.vars)) (length (map view.lock p.locks)) b
seen_range p b h =
    subst (λ n. IsBlockInRange n (length (map view.lock p.locks)) b) (sym (length-map p.vars view.var))
    (subst (λ m. IsBlockInRange (length p.vars) m b) (sym (length-map p.locks view.lock)) h)

pub block-loop-stmt-init : goal.block-loop-stmt-init
block-loop-stmt-init t c = (
  c.requires.range,
  (let e : block_size (view.block c.args.body.now) ≤ block_size (view.block c.args.body.now) = omega arith in e),
  λ a k h. (a, (k, h, reaches_start c.args.self.now.purpose (plain_of c.args.self.now) c.args.self.now.thread (view.block c.args.body.now) a c.args.kept.now)),
)

pub block-statement-requires : goal.block-statement-requires
block-statement-requires t c =
    let program = c.args.self.now.program.now in
    let next = block_from c.args.body.now c.loop-stmt.stmt-index c.stmt-item.result c.loop-stmt-test.true c.stmt-item.is in
    let size = ap block_size next in
    let start = c.requires.point in
    let r = c.loop-stmt.invariant.2 start.at start.keeps start.types in
    let falls : 3 * stm_size (view.kind c.stmt-item.result.kind) + 2 < t = omega (arith, size, c.loop-stmt.invariant.1, c.decreases) in (
      falls,
      (
        c.requires.walk,
        (
          (subst (IsBlockInRange (length program.vars) (length program.locks)) next c.loop-stmt.invariant.0).0,
          (omega (arith, size, c.loop-stmt.invariant.1, c.requires.small), record { at = r.0; keeps = r.1.0; types = r.1.1 }),
        ),
      ),
    )

pub block-overflow_add-entailments : goal.block-overflow_add-entailments
block-overflow_add-entailments t c =
    let w = c.args.self.now in
    let program = w.program.now in
    let p = plain_of w in
    let s = c.stmt-item.result in
    let whole = view.block c.args.body.now in
    let rest = view.block (drop (c.loop-stmt.stmt-index + 1) c.args.body.now) in
    let proofs = map view.proof s.proofs in
    let start = c.requires.point in
    let next = block_from c.args.body.now c.loop-stmt.stmt-index s c.loop-stmt-test.true c.stmt-item.is in
    let r = c.loop-stmt.invariant.2 start.at start.keeps start.types in
    let reached = subst (λ b. Reaches w.purpose p w.thread whole start.at b r.0 c.loop-stmt.entailments c.args.kept.now c.loop-stmt.kept) next r.1.2 in
    let walked = (rw c.as_slice.ensures at c.in-Ok.ensures) r.0 r.1.0 in
    omega (
      arith,
      reaches_few w.purpose p w.thread whole start.at c.args.kept.now s.at (view.kind s.kind) proofs rest r.0 c.loop-stmt.entailments c.loop-stmt.kept reached,
      walked.2,
      few_entailments (view.program program) w.thread c.requires.walk.formed c.requires.walk.declared whole start.at (seen_range program whole c.requires.range),
      c.requires.small,
    )

pub block-loop-stmt-preserved : goal.block-loop-stmt-preserved
block-loop-stmt-preserved t c =
    let w = c.args.self.now in
    let program = w.program.now in
    let p = plain_of w in
    let n = length program.vars in
    let m = length program.locks in
    let s = c.stmt-item.result in
    let stm = view.kind s.kind in
    let whole = view.block c.args.body.now in
    let rest = view.block (drop (c.loop-stmt.stmt-index + 1) c.args.body.now) in
    let proofs = map view.proof s.proofs in
    let next = block_from c.args.body.now c.loop-stmt.stmt-index s c.loop-stmt-test.true c.stmt-item.is in
    let range = subst (IsBlockInRange n m) next c.loop-stmt.invariant.0 in
    let size = ap block_size next in
    let smaller : block_size rest ≤ block_size whole = omega (arith, size, c.loop-stmt.invariant.1) in (
      range.2,
      smaller,
      λ a k h.
          let r = c.loop-stmt.invariant.2 a k h in
          let reached = subst (λ b. Reaches w.purpose p w.thread whole a b r.0 c.loop-stmt.entailments c.args.kept.now c.loop-stmt.kept) next r.1.2 in
          let walked = (rw c.as_slice.ensures at c.in-Ok.ensures) r.0 r.1.0 in (
            after_stm p w.thread stm r.0,
            (
              walked.1,
              stm_below p w.thread n m (classes_below program c.requires.walk.formed) stm r.0 range.0 r.1.1,
              reaches_more w.purpose p w.thread whole a c.args.kept.now s.at stm proofs rest r.0 c.loop-stmt.entailments c.loop-stmt.kept reached c.in-Ok.next c.statement.new.kept walked,
            ),
          ),
    )

pub block-returns : goal.block-returns
block-returns t c a k =
    let w = c.args.self.now in
    let p = plain_of w in
    let whole = view.block c.args.body.now in
    let start = c.requires.point in
    let same = one_point p w.thread start.at a c.args.point start.keeps k in
    let r = c.loop-stmt.invariant.2 a k (subst (λ q. HasTypesBelow q (length w.program.now.vars)) same start.types) in
    let over : drop c.loop-stmt.stmt-index c.args.body.now ≡ [] = drop_all _ _ c.loop-stmt-test.false in
    reaches_end w.purpose p w.thread whole a c.args.kept.now r.0 c.loop-stmt.kept (record { point = c.loop-stmt.here; entailments = c.loop-stmt.entailments })
    (subst (λ ss. Reaches w.purpose p w.thread whole a (view.block ss) r.0 c.loop-stmt.entailments c.args.kept.now c.loop-stmt.kept) over r.1.2) r.1.0

pub block-returns-in-Err : goal.block-returns-in-Err
block-returns-in-Err t c a k =
    let w = c.args.self.now in
    let p = plain_of w in
    let s = c.stmt-item.result in
    let whole = view.block c.args.body.now in
    let rest = view.block (drop (c.loop-stmt.stmt-index + 1) c.args.body.now) in
    let start = c.requires.point in
    let next = block_from c.args.body.now c.loop-stmt.stmt-index s c.loop-stmt-test.true c.stmt-item.is in
    let same = one_point p w.thread start.at a c.args.point start.keeps k in
    let r = c.loop-stmt.invariant.2 a k (subst (λ q. HasTypesBelow q (length w.program.now.vars)) same start.types) in
    let reached = subst (λ b. Reaches w.purpose p w.thread whole a b r.0 c.loop-stmt.entailments c.args.kept.now c.loop-stmt.kept) next r.1.2 in
    reaches_refused w.purpose p w.thread whole a c.args.kept.now s.at (view.kind s.kind) (map view.proof s.proofs) rest r.0 c.loop-stmt.entailments c.loop-stmt.kept reached c.in-Err.fault
    c.statement.new.kept
    (subst (λ ps. Stops w.purpose (flat (stm_parts p w.thread (view.kind s.kind) s.at (map view.proof ps) r.0)) (stm_entailments p w.thread (view.kind s.kind) s.at r.0)
    c.loop-stmt.kept c.statement.new.kept c.in-Err.fault) c.as_slice.ensures (c.in-Err.ensures r.0 r.1.0))

-- Statements by their kind ----------------------------------------------------------------------------------------

pub statement-branch-self-requires : goal.statement-branch-self-requires
statement-branch-self-requires t c =
    let p = c.args.self.now.program.now in
    let is = branch_seen c.args.kind.now c.in-If.e c.in-If.yes c.in-If.no c.in-If.join c.in-If.is c.as_slice.result.now c.as_slice.ensures c.as_slice-in-If.result.now c.as_slice-in-If.ensures in
    let size = ap stm_size is in
    let falls : 3 * stm_size (branch (term c.in-If.e) (view.block c.as_slice.result.now) (view.block c.as_slice-in-If.result.now) (view.state c.in-If.join)) + 1 < t = omega (arith, size, c.decreases) in
    (falls, (c.requires.walk, (subst (IsStmInRange (length p.vars) (length p.locks)) is c.requires.range, (subst (λ s. stm_size s < most_size) is c.requires.small, c.requires.point))))

pub statement-returns-in-If : goal.statement-returns-in-If
statement-returns-in-If t c =
    subst (λ s. WalksStm c.args.self.now c.args.at s (map view.proof c.args.proofs.now) c.args.point c.args.kept.now c.branch-self.new.kept c.branch-self.result)
    (sym (branch_seen c.args.kind.now c.in-If.e c.in-If.yes c.in-If.no c.in-If.join c.in-If.is c.as_slice.result.now c.as_slice.ensures c.as_slice-in-If.result.now c.as_slice-in-If.ensures)) c.branch-self.ensures

pub statement-while_loop-requires : goal.statement-while_loop-requires
statement-while_loop-requires t c =
    let p = c.args.self.now.program.now in
    let is = loop_seen c.args.kind.now c.in-While.e c.in-While.inv c.in-While.body c.in-While.is c.as_slice-in-While.result.now c.as_slice-in-While.ensures in
    let size = ap stm_size is in
    let falls : 3 * stm_size (loop (term c.in-While.e) (view.state c.in-While.inv) (view.block c.as_slice-in-While.result.now)) + 1 < t = omega (arith, size, c.decreases) in
    (falls, (c.requires.walk, (subst (IsStmInRange (length p.vars) (length p.locks)) is c.requires.range, (subst (λ s. stm_size s < most_size) is c.requires.small, c.requires.point))))

pub statement-returns-in-While : goal.statement-returns-in-While
statement-returns-in-While t c =
    subst (λ s. WalksStm c.args.self.now c.args.at s (map view.proof c.args.proofs.now) c.args.point c.args.kept.now c.while_loop.new.kept c.while_loop.result)
    (sym (loop_seen c.args.kind.now c.in-While.e c.in-While.inv c.in-While.body c.in-While.is c.as_slice-in-While.result.now c.as_slice-in-While.ensures)) c.while_loop.ensures

pub statement-assign-requires-clause-range : goal.statement-assign-requires-clause-range
statement-assign-requires-clause-range t c =
    let p = c.args.self.now.program.now in
    subst (IsStmInRange (length p.vars) (length p.locks)) (ap view.kind c.in-Assign.is ∙ assign_is c.in-Assign.x c.in-Assign.e c.in-Assign.written c.in-Assign.retypes) c.requires.range

pub statement-assign-requires-clause-small : goal.statement-assign-requires-clause-small
statement-assign-requires-clause-small t c =
    let is = ap stm_size (ap view.kind c.in-Assign.is ∙ assign_is c.in-Assign.x c.in-Assign.e c.in-Assign.written c.in-Assign.retypes) in
    omega (arith, is, c.requires.small)

pub statement-returns-in-Assign : goal.statement-returns-in-Assign
statement-returns-in-Assign t c =
    subst (λ s. WalksStm c.args.self.now c.args.at s (map view.proof c.args.proofs.now) c.args.point c.args.kept.now c.assign.new.kept c.assign.result)
    (sym (ap view.kind c.in-Assign.is ∙ assign_is c.in-Assign.x c.in-Assign.e c.in-Assign.written c.in-Assign.retypes)) c.assign.ensures

pub statement-returns-in-Lock : goal.statement-returns-in-Lock
statement-returns-in-Lock t c =
    subst (λ s. WalksStm c.args.self.now c.args.at s (map view.proof c.args.proofs.now) c.args.point c.args.kept.now c.args.kept.now c.lock.result)
    (sym (ap view.kind c.in-Lock.is ∙ lock_is c.in-Lock.l)) (c.lock.ensures (map view.proof c.args.proofs.now) c.args.kept.now)

pub statement-output-requires-clause-range : goal.statement-output-requires-clause-range
statement-output-requires-clause-range t c =
    let p = c.args.self.now.program.now in
    subst (IsStmInRange (length p.vars) (length p.locks)) (ap view.kind c.in-Output.is ∙ output_is c.in-Output.e) c.requires.range

pub statement-returns-in-Output : goal.statement-returns-in-Output
statement-returns-in-Output t c =
    subst (λ s. WalksStm c.args.self.now c.args.at s (map view.proof c.args.proofs.now) c.args.point c.args.kept.now c.output.new.kept c.output.result)
    (sym (ap view.kind c.in-Output.is ∙ output_is c.in-Output.e)) c.output.ensures

pub statement-returns-in-Skip : goal.statement-returns-in-Skip
statement-returns-in-Skip t c =
    subst (λ s. WalksStm c.args.self.now c.args.at s (map view.proof c.args.proofs.now) c.args.point c.args.kept.now c.args.kept.now c.skip.result)
    (sym (ap view.kind c.in-Skip.is ∙ skip_is)) (c.skip.ensures c.args.kept.now)

-- Branches -------------------------------------------------------------------------------------------------------

pub branch-fork-requires-clause-guard : goal.branch-fork-requires-clause-guard
branch-fork-requires-clause-guard t c = c.requires.range.0

pub branch-block-requires : goal.branch-block-requires
branch-block-requires t c =
    let w = c.args.self.now in
    let a = c.requires.point.at in
    let yes = view.block c.args.yes.now in
    let falls : 3 * block_size yes < t = omega (arith, c.decreases) in
    let small : block_size yes < most_size = omega (arith, c.requires.small) in (
      falls,
      (
        c.requires.walk,
        (
          c.requires.range.1,
          (
            small,
            record {
              at = with_guard (plain_of w) w.thread a (term c.args.e.now);
              keeps = (c.in_ok-holds.ensures a c.requires.point.keeps).1;
              types = c.requires.point.types;
            },
          ),
        ),
      ),
    )

pub branch-block-requires-2 : goal.branch-block-requires-2
branch-block-requires-2 t c =
    let w = c.args.self.now in
    let a = c.requires.point.at in
    let no = view.block c.args.no.now in
    let falls : 3 * block_size no < t = omega (arith, c.decreases) in
    let small : block_size no < most_size = omega (arith, c.requires.small) in (
      falls,
      (
        c.requires.walk,
        (
          c.requires.range.2,
          (
            small,
            record {
              at = with_guard (plain_of w) w.thread a (neg (term c.args.e.now));
              keeps = (c.in_ok-holds.ensures a c.requires.point.keeps).2;
              types = c.requires.point.types;
            },
          ),
        ),
      ),
    )

pub branch-returns-in_err-holds : goal.branch-returns-in_err-holds
branch-returns-in_err-holds t c a k =
    let w = c.args.self.now in
    let yes = view.block c.args.yes.now in
    let no = view.block c.args.no.now in
    let j = view.state c.args.join.now in
    let proofs = map view.proof c.args.proofs.now in
    let e = term c.args.e.now in
    fork_refused w.purpose (plain_of w) w.thread c.args.at proofs a e yes no j (entailment_count (flat (stm_parts (plain_of w) w.thread (branch e yes no j) c.args.at proofs a)))
    c.args.kept.now c.fork.new.kept c.in_err-holds.field-0.0 c.from_residual.result c.from_residual.ensures.1 (c.in_err-holds.ensures a k)

pub branch-returns-in_err-first : goal.branch-returns-in_err-first
branch-returns-in_err-first t c a k =
    let w = c.args.self.now in
    let p = plain_of w in
    let e = term c.args.e.now in
    let fork = c.in_ok-holds.ensures a k in
    let yes = view.block c.args.yes.now in
    let no = view.block c.args.no.now in
    let j = view.state c.args.join.now in
    let proofs = map view.proof c.args.proofs.now in
    first_refused w.purpose p w.thread c.args.at proofs a e yes no j c.args.kept.now c.fork.new.kept fork.0
    (entailment_count (flat (stm_parts p w.thread (branch e yes no j) c.args.at proofs a))) c.block.new.kept
    c.in_err-first.field-0.0 c.from_residual-in_err-first.result c.from_residual-in_err-first.ensures.1 (c.in_err-first.ensures (with_guard p w.thread a e) fork.1)

pub branch-returns-in_err-second : goal.branch-returns-in_err-second
branch-returns-in_err-second t c a k =
    let w = c.args.self.now in
    let p = plain_of w in
    let e = term c.args.e.now in
    let fork = c.in_ok-holds.ensures a k in
    let first = c.in_ok-first.ensures (with_guard p w.thread a e) fork.1 in
    let yes = view.block c.args.yes.now in
    let no = view.block c.args.no.now in
    let j = view.state c.args.join.now in
    let proofs = map view.proof c.args.proofs.now in
    second_refused w.purpose p w.thread c.args.at proofs a e yes no j c.args.kept.now c.fork.new.kept fork.0 c.block.new.kept first.0
    (entailment_count (flat (stm_parts p w.thread (branch e yes no j) c.args.at proofs a))) c.block-2.new.kept
    c.in_err-second.field-0.0 c.from_residual-in_err-second.result c.from_residual-in_err-second.ensures.1 (c.in_err-second.ensures (with_guard p w.thread a (neg e)) fork.2)

pub branch-join-requires-clause-range : goal.branch-join-requires-clause-range
branch-join-requires-clause-range t c = c.requires.range.3

pub branch-join-requires-clause-yes : goal.branch-join-requires-clause-yes
branch-join-requires-clause-yes t c =
    let w = c.args.self.now in
    let program = w.program.now in
    let start = with_guard (plain_of w) w.thread c.requires.point.at (term c.args.e.now) in
    let fork = c.in_ok-holds.ensures c.requires.point.at c.requires.point.keeps in
    record {
      at = after_block (plain_of w) w.thread (view.block c.args.yes.now) start;
      keeps = (c.in_ok-first.ensures start fork.1).1;
      types = block_below (plain_of w) w.thread (length program.vars) (length program.locks) (classes_below program c.requires.walk.formed)
          (view.block c.args.yes.now) start c.requires.range.1 c.requires.point.types;
    }

pub branch-join-requires-clause-no : goal.branch-join-requires-clause-no
branch-join-requires-clause-no t c =
    let w = c.args.self.now in
    let program = w.program.now in
    let start = with_guard (plain_of w) w.thread c.requires.point.at (neg (term c.args.e.now)) in
    let fork = c.in_ok-holds.ensures c.requires.point.at c.requires.point.keeps in
    record {
      at = after_block (plain_of w) w.thread (view.block c.args.no.now) start;
      keeps = (c.in_ok-second.ensures start fork.2).1;
      types = block_below (plain_of w) w.thread (length program.vars) (length program.locks) (classes_below program c.requires.walk.formed)
          (view.block c.args.no.now) start c.requires.range.2 c.requires.point.types;
    }

-- a block has few entailments
few_of : (w : Walk) → IsWalk w → (b : Block) (a : Point) → IsBlockInRange (length w.program.now.vars) (length w.program.now.locks) b
    → entailment_count (block_obligations (plain_of w) w.thread b a) ≤ 1024 * block_size b
few_of w is b a range = few_entailments (view.program w.program.now) w.thread is.formed is.declared b a (seen_range w.program.now b range)

pub branch-join-requires-clause-few : goal.branch-join-requires-clause-few
branch-join-requires-clause-few t c =
    let w = c.args.self.now in
    let p = plain_of w in
    let yes_start = with_guard p w.thread c.requires.point.at (term c.args.e.now) in
    let no_start = with_guard p w.thread c.requires.point.at (neg (term c.args.e.now)) in
    let fork = c.in_ok-holds.ensures c.requires.point.at c.requires.point.keeps in
    omega (
      arith,
      fork.3,
      (c.in_ok-first.ensures yes_start fork.1).2,
      (c.in_ok-second.ensures no_start fork.2).2,
      c.requires.small,
      few_of w c.requires.walk (view.block c.args.yes.now) yes_start c.requires.range.1,
      few_of w c.requires.walk (view.block c.args.no.now) no_start c.requires.range.2,
    )

pub branch-returns : goal.branch-returns
branch-returns t c a k =
    let w = c.args.self.now in
    let p = plain_of w in
    let proofs = map view.proof c.args.proofs.now in
    let e = term c.args.e.now in
    let yes = view.block c.args.yes.now in
    let no = view.block c.args.no.now in
    let j = view.state c.args.join.now in
    let fork = c.in_ok-holds.ensures a k in
    let first = c.in_ok-first.ensures (with_guard p w.thread a e) fork.1 in
    let second = c.in_ok-second.ensures (with_guard p w.thread a (neg e)) fork.2 in
    let yes_end = after_block p w.thread yes (with_guard p w.thread a e) in
    let no_end = after_block p w.thread no (with_guard p w.thread a (neg e)) in
    let counted = c.in_ok-holds.field-0.count + (c.in_ok-first.first.entailments + c.in_ok-second.second.entailments) + length (state_follows yes_end j ++ state_follows no_end j) in
    let sum : counted ≡ entailment_count (flat (stm_parts p w.thread (branch e yes no j) c.args.at proofs a)) = omega (arith, fork.3, first.2, second.2, count_branch p w.thread c.args.at proofs a e yes no j) in
    branch_walks w.purpose p w.thread c.args.at proofs a e yes no j c.args.kept.now c.fork.new.kept fork.0 c.block.new.kept first.0 c.block-2.new.kept c.join.new.kept second.0
    c.join.result c.in_ok-holds.field-0.count counted fork.3 sum
    (c.join.ensures yes_end first.1 no_end second.1)

-- Loops ----------------------------------------------------------------------------------------------------------

pub while_loop-head-requires-clause-guard : goal.while_loop-head-requires-clause-guard
while_loop-head-requires-clause-guard t c = c.requires.range.0

pub while_loop-head-requires-clause-range : goal.while_loop-head-requires-clause-range
while_loop-head-requires-clause-range t c = c.requires.range.1

pub while_loop-returns-in_err-holds : goal.while_loop-returns-in_err-holds
while_loop-returns-in_err-holds t c a k =
    let w = c.args.self.now in
    let e = term c.args.e.now in
    let j = view.state c.args.inv.now in
    let body = view.block c.args.body.now in
    let proofs = map view.proof c.args.proofs.now in
    head_refused w.purpose (plain_of w) w.thread c.args.at proofs a e j body (entailment_count (flat (stm_parts (plain_of w) w.thread (loop e j body) c.args.at proofs a)))
    c.args.kept.now c.head.new.kept c.in_err-holds.field-0.0 c.from_residual.result c.from_residual.ensures.1 (c.in_err-holds.ensures a k)

pub while_loop-block-requires : goal.while_loop-block-requires
while_loop-block-requires t c =
    let w = c.args.self.now in
    let p = plain_of w in
    let program = w.program.now in
    let a = c.requires.point.at in
    let j = view.state c.args.inv.now in
    let body = view.block c.args.body.now in
    let falls : 3 * block_size body < t = omega (arith, c.decreases) in
    let small : block_size body < most_size = omega (arith, c.requires.small) in (
      falls,
      (
        c.requires.walk,
        (
          c.requires.range.2,
          (
            small,
            record {
              at = with_guard p w.thread (meet p w.thread a j) (term c.args.e.now);
              keeps = (c.in_ok-holds.ensures a c.requires.point.keeps).1;
              types = meet_below p w.thread (length program.vars) (length program.locks) (classes_below program c.requires.walk.formed) a j c.requires.range.1.types;
            },
          ),
        ),
      ),
    )

pub while_loop-returns-in_err-end : goal.while_loop-returns-in_err-end
while_loop-returns-in_err-end t c a k =
    let w = c.args.self.now in
    let p = plain_of w in
    let e = term c.args.e.now in
    let j = view.state c.args.inv.now in
    let head = c.in_ok-holds.ensures a k in
    let body = view.block c.args.body.now in
    let proofs = map view.proof c.args.proofs.now in
    turn_refused w.purpose p w.thread c.args.at proofs a e j body c.args.kept.now c.head.new.kept head.0
    (entailment_count (flat (stm_parts p w.thread (loop e j body) c.args.at proofs a))) c.block.new.kept
    c.in_err-end.field-0.0 c.from_residual-in_err-end.result c.from_residual-in_err-end.ensures.1 (c.in_err-end.ensures (with_guard p w.thread (meet p w.thread a j) e) head.1)

pub while_loop-turn-requires-clause-end : goal.while_loop-turn-requires-clause-end
while_loop-turn-requires-clause-end t c =
    let w = c.args.self.now in
    let p = plain_of w in
    let program = w.program.now in
    let a = c.requires.point.at in
    let j = view.state c.args.inv.now in
    let body = view.block c.args.body.now in
    let start = with_guard p w.thread (meet p w.thread a j) (term c.args.e.now) in
    let head = c.in_ok-holds.ensures a c.requires.point.keeps in
    let classes = classes_below program c.requires.walk.formed in
    record {
      at = after_block p w.thread body start;
      keeps = (c.in_ok-end.ensures start head.1).1;
      types = block_below p w.thread (length program.vars) (length program.locks) classes body start c.requires.range.2
          (meet_below p w.thread (length program.vars) (length program.locks) classes a j c.requires.range.1.types);
    }

pub while_loop-turn-requires-clause-few : goal.while_loop-turn-requires-clause-few
while_loop-turn-requires-clause-few t c =
    let w = c.args.self.now in
    let p = plain_of w in
    let a = c.requires.point.at in
    let e = term c.args.e.now in
    let j = view.state c.args.inv.now in
    let body = view.block c.args.body.now in
    let top = meet p w.thread a j in
    let head = c.in_ok-holds.ensures a c.requires.point.keeps in
    omega (
      arith,
      head.3,
      (c.in_ok-end.ensures (with_guard p w.thread top e) head.1).2,
      c.requires.small,
      few_entailments_state a j,
      length-append (state_follows a j) (guard_follows p w.thread top e ∷ []),
      few_of w c.requires.walk body (with_guard p w.thread top e) c.requires.range.2,
    )

pub while_loop-returns : goal.while_loop-returns
while_loop-returns t c a k =
    let w = c.args.self.now in
    let p = plain_of w in
    let proofs = map view.proof c.args.proofs.now in
    let e = term c.args.e.now in
    let j = view.state c.args.inv.now in
    let body = view.block c.args.body.now in
    let top = meet p w.thread a j in
    let head = c.in_ok-holds.ensures a k in
    let end = c.in_ok-end.ensures (with_guard p w.thread top e) head.1 in
    let body_end = after_block p w.thread body (with_guard p w.thread top e) in
    let counted = c.in_ok-holds.field-0.count + c.in_ok-end.end.entailments + length (state_follows body_end j) in
    let sum : counted ≡ entailment_count (flat (stm_parts p w.thread (loop e j body) c.args.at proofs a)) = omega (arith, head.3, end.2, count_loop p w.thread c.args.at proofs a e j body) in
    loop_walks w.purpose p w.thread c.args.at proofs a e j body c.args.kept.now c.head.new.kept head.0 c.block.new.kept c.turn.new.kept end.0
    c.turn.result c.in_ok-holds.field-0.count counted head.3 sum
    (c.turn.ensures body_end end.1 (with_guard p w.thread top (neg e)) head.2)
