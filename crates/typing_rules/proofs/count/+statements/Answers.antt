use Rattle.std.proofs.Common.{◌≡◌, ℕ, ◌+◌, ◌<◌, List, length, get_or, drop, ap, ◌∙◌, arith}
use Rattle.std.proofs.lemmas.List.{length-append}
use Rattle.cov_ast.specs.View as view
use Rattle.cov_ast.specs.WellFormed.{block_size, places, places_within, stm_size}
use Rattle.cov_ast.specs.declared.stmt.Stmt.{Stmt}
use Rattle.typing_law.proofs.Bounds.{few_places, few_places_within}
use Rattle.typing_rules.proofs.StatementLaws.{branch_is, block_from}
use Rattle.typing_rules.proofs.count.+statements.Goals as goal

-- the next statement, and the rest
module _ (ss : List Stmt) (i : ℕ) (s : Stmt) (inside : i < length ss) (is : s ≡ get_or ss i s) where
  size_next : block_size (view.block (drop i ss)) ≡ 1 + stm_size (view.kind s.kind) + block_size (view.block (drop (i + 1) ss))
  size_next = ap block_size (block_from ss i s inside is)

  places_next : length (places (view.block (drop i ss))) ≡ 1 + length (places_within (view.kind s.kind)) + length (places (view.block (drop (i + 1) ss)))
  places_next =
      let seen = ap (λ b. length (places b)) (block_from ss i s inside is) in
      omega (arith, seen, length-append (places_within (view.kind s.kind)) (places (view.block (drop (i + 1) ss))))

pub statements-overflow_add-count : goal.statements-overflow_add-count
statements-overflow_add-count t c =
    omega (
      arith,
      size_next c.args.body.now c.loop-stmt.stmt-index c.stmt-item.result c.loop-stmt-test.true c.stmt-item.is,
      c.statements_within.ensures,
      c.loop-stmt.invariant.1,
      few_places_within (view.kind c.stmt-item.result.kind),
      c.requires,
    )

pub statements-overflow_add-count-in-loop-stmt : goal.statements-overflow_add-count-in-loop-stmt
statements-overflow_add-count-in-loop-stmt t c =
    omega (
      arith,
      places_next c.args.body.now c.loop-stmt.stmt-index c.stmt-item.result c.loop-stmt-test.true c.stmt-item.is,
      c.statements_within.ensures,
      c.loop-stmt.invariant.0,
      few_places (view.block c.args.body.now),
      c.requires,
    )

pub statements-loop-stmt-preserved : goal.statements-loop-stmt-preserved
statements-loop-stmt-preserved t c =
    let s = c.stmt-item.result in
    let places_at = places_next c.args.body.now c.loop-stmt.stmt-index s c.loop-stmt-test.true c.stmt-item.is in
    let size_at = size_next c.args.body.now c.loop-stmt.stmt-index s c.loop-stmt-test.true c.stmt-item.is in
    (omega (arith, places_at, c.statements_within.ensures, c.loop-stmt.invariant.0), omega (arith, size_at, c.loop-stmt.invariant.1))

pub statements_within-overflow_add-result : goal.statements_within-overflow_add-result
statements_within-overflow_add-result t c =
    let kind = ap view.kind c.in-If.is ∙ branch_is c.in-If.field-0 c.in-If.a c.in-If.b c.in-If.field-3 in
    let size = ap stm_size kind in
    omega (
      arith,
      size,
      rw c.as_slice.ensures at c.statements.ensures,
      rw c.as_slice-in-If.ensures at c.statements-in-If.ensures,
      few_places (view.block c.in-If.a),
      few_places (view.block c.in-If.b),
      c.requires,
    )

pub statements_within-returns-in-If : goal.statements_within-returns-in-If
statements_within-returns-in-If t c =
    let kind = ap view.kind c.in-If.is ∙ branch_is c.in-If.field-0 c.in-If.a c.in-If.b c.in-If.field-3 in
    let within = ap (λ k. length (places_within k)) kind in
    omega (
      arith,
      within,
      rw c.as_slice.ensures at c.statements.ensures,
      rw c.as_slice-in-If.ensures at c.statements-in-If.ensures,
      length-append (places (view.block c.in-If.a)) (places (view.block c.in-If.b)),
    )
