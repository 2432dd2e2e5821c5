use Rattle.std.proofs.Common.{arith}
use Rattle.cov_lex.proofs.Digits.{digit_step, digits_past}
use Rattle.cov_lex.proofs.number.digits_value.Goals as goal

pub returns-then-n-gt4294967295 : goal.returns-then-n-gt4294967295
returns-then-n-gt4294967295 c =
    digits_past c.args.digits.now c.loop-digit.digit-index 4294967295 c.requires c.loop-digit-test.true (omega (arith, c.if-n-gt4294967295.true, c.loop-digit.invariant.same))

pub loop-digit-preserved : goal.loop-digit-preserved
loop-digit-preserved c = record {
  same = omega (arith, c.loop-digit.invariant.same, digit_step c.args.digits.now c.loop-digit.digit-index c.requires c.loop-digit-test.true);
  small = omega (arith, c.if-n-gt4294967295.false);
}
