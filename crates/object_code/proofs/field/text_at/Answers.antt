use Rattle.std.proofs.Common.{◌∙◌, sym, ap, drop, arith}
use Rattle.object_code.proofs.Exact.{gives}
use Rattle.object_code.proofs.Texts.{text_begins, text_ends, text_goes, text_stops, text_done, text_is_name}
use Rattle.object_code.proofs.field.text_at.Goals as goal

pub loop-i-init : goal.loop-i-init
loop-i-init c = record { read = text_begins c.args.len c.args.bytes.now; within = omega arith }

pub returns-then-bytes-i-clause-text : goal.returns-then-bytes-i-clause-text
returns-then-bytes-i-clause-text c = sym c.loop-i.invariant.read ∙ text_ends c.args.len c.loop-i.i c.args.bytes.now c.loop-i-test.true c.if-bytes-i.true

pub returns-then-not-goes_on-clause-text : goal.returns-then-not-goes_on-clause-text
returns-then-not-goes_on-clause-text c =
    sym c.loop-i.invariant.read ∙ text_stops c.args.len c.loop-i.i c.args.bytes.now c.loop-i-test.true c.if-bytes-i.false (sym c.goes_on.ensures ∙ c.if-not-goes_on.true)

pub loop-i-preserved : goal.loop-i-preserved
loop-i-preserved c = record {
  read = text_goes c.args.len c.loop-i.i c.args.bytes.now c.loop-i-test.true c.if-bytes-i.false (sym c.goes_on.ensures ∙ c.if-not-goes_on.false) ∙ c.loop-i.invariant.read;
  within = omega (arith, c.if-bytes-i.false);
}

pub known-requires : goal.known-requires
known-requires c =
    rw c.split_at.ensures.front (text_is_name c.args.len c.loop-i.i c.args.bytes.now c.loop-i-test.false c.loop-i.auto.i-end c.requires.some c.requires.short c.loop-i.invariant.read)

pub returns-clause-text : goal.returns-clause-text
returns-clause-text c =
    text_done c.args.len c.loop-i.i c.args.bytes.now c.loop-i-test.false c.loop-i.auto.i-end c.loop-i.invariant.read
    ∙ ap (λ t. gives t (drop c.args.len c.args.bytes.now)) (sym (c.known.ensures ∙ c.split_at.ensures.front))
