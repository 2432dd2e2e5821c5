use Rattle.std.proofs.Common.{arith, ◌≡◌, ◌+◌, ◌-◌, ◌∙◌, suc, sym, ap, length, drop, true, false, if◌then◌else◌, get_or}
use Rattle.std.proofs.lemmas.Result.{err_from_is_err_and}
use Rattle.cov_grammar.proofs.Stops.{stop_onward}
use Rattle.cov_read.specs.declared.level.Level.TheVariants.{Prod}
use Rattle.cov_read.specs.Inside.Levels.{atom_of, onward, levelled, repeats}
use Rattle.cov_read.specs.WrittenViews.{written}
use Rattle.cov_read.proofs.Levels.{operator_goes, operator_breaks, behind, unary_begins, unary_goes}
use Rattle.cov_read.proofs.expressions.+expr.Goals as goal

pub read_levels-returns-in_err-right-clause-reads : goal.read_levels-returns-in_err-right-clause-reads
read_levels-returns-in_err-right-clause-reads t c =
    let p = err_from_is_err_and c.from_residual-in_err-right.result c.from_residual-in_err-right.ensures.1 in
    let f = c.in-Some.ensures.finds in
    rw (p.1, p.2)
    (stop_onward written written _ c.read_levels.new.reader (levelled _ (atom_of c.args.holes) c.operator.new.reader) _
    (λ e. sym c.operators.invariant.same
    ∙ operator_breaks c.args.levels.now c.args.holes c.in-Some.index c.requires f.0 c.operators.from c.in-Some.op (written c.operators.left) c.operators.reader c.operator.new.reader c.read_levels.new.reader f.1 f.2 e)
    c.in_err-right.ensures.reads)

pub read_levels-operators-preserved-then-repeats : goal.read_levels-operators-preserved-then-repeats
read_levels-operators-preserved-then-repeats t c =
    let f = c.in-Some.ensures.finds in
    let b : repeats (get_or c.args.levels.now c.in-Some.index Prod) ≡ true = sym c.repeats.ensures ∙ c.if-repeats.true in
    record {
      same =
          ap (λ b. onward (drop (if b then c.in-Some.index else c.in-Some.index + 1) c.args.levels.now) (atom_of c.args.holes) (written c.in_ok-left-2.left) c.read_levels.new.reader) (sym b)
          ∙ operator_goes c.args.levels.now c.args.holes c.in-Some.index c.requires f.0 c.operators.from c.in-Some.op (written c.operators.left) (written c.in_ok-right.right) (written c.in_ok-left-2.left) c.operators.reader c.operator.new.reader c.read_levels.new.reader
          f.1 f.2 c.in_ok-right.ensures.reads c.in_ok-left-2.ensures
          ∙ c.operators.invariant.same;
      shorter = omega (arith, c.in_ok-right.ensures.shorter, c.in-Some.ensures.shorter, c.operators.invariant.shorter);
      inside = omega (arith, f.0);
    }

pub read_levels-operators-preserved : goal.read_levels-operators-preserved
read_levels-operators-preserved t c =
    let f = c.in-Some.ensures.finds in
    let b : repeats (get_or c.args.levels.now c.in-Some.index Prod) ≡ false = sym c.repeats.ensures ∙ c.if-repeats.false in
    record {
      same =
          ap (λ b. onward (drop (if b then c.in-Some.index else c.in-Some.index + 1) c.args.levels.now) (atom_of c.args.holes) (written c.in_ok-left-2.left) c.read_levels.new.reader) (sym b)
          ∙ operator_goes c.args.levels.now c.args.holes c.in-Some.index c.requires f.0 c.operators.from c.in-Some.op (written c.operators.left) (written c.in_ok-right.right) (written c.in_ok-left-2.left) c.operators.reader c.operator.new.reader c.read_levels.new.reader
          f.1 f.2 c.in_ok-right.ensures.reads c.in_ok-left-2.ensures
          ∙ c.operators.invariant.same;
      shorter = omega (arith, c.in_ok-right.ensures.shorter, c.in-Some.ensures.shorter, c.operators.invariant.shorter);
      inside = omega (arith, f.0);
    }

pub read_unary-loop-init : goal.read_unary-loop-init
read_unary-loop-init t c = record {
  same =
      let none : c.len-before.result - length c.args.reader.now ≡ 0 = omega (arith, c.len-before.ensures) in
      ap (λ n. behind (atom_of c.args.holes) n c.args.reader.now) none ∙ unary_begins (atom_of c.args.holes) c.args.reader.now;
  shorter = omega (arith, c.len-before.ensures);
  count = c.len-before.ensures;
}

pub read_unary-loop-preserved : goal.read_unary-loop-preserved
read_unary-loop-preserved t c = record {
  same =
      let one : c.len-before.result - length c.take.new.self ≡ suc (c.len-before.result - length c.loop.reader) = omega (arith, c.in-Some.ensures.shorter, c.loop.invariant.shorter) in
      ap (λ n. behind (atom_of c.args.holes) n c.take.new.self) one
      ∙ unary_goes (atom_of c.args.holes) (c.len-before.result - length c.loop.reader) c.loop.reader c.take.new.self c.in-Some.field-0 c.in-Some.ensures.found c.in-Some.ensures.left
      ∙ c.loop.invariant.same;
  shorter = omega (arith, c.in-Some.ensures.shorter, c.loop.invariant.shorter);
  count = c.loop.invariant.count;
}
