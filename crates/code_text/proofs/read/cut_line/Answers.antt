use Rattle.std.proofs.Common.{◌≡◌, ◌+◌, [], ◌∷◌, ◌++◌, length, map, take, drop, get_or, sym, ap, subst, ◌∙◌, arith}
use Rattle.std.proofs.lemmas.Bool.{eq-eqb, eqb-true, ne_eqb}
use Rattle.std.proofs.lemmas.List.{length-map, map-append}
use Rattle.code_text.proofs.Cuts.{Begun, between, begun_many, begun_start, cut_past, fields_end, fields_go, some_piece}
use Rattle.code_text.proofs.ReadLaws.{crowded}
use Rattle.code_text.proofs.read.cut_line.Goals as goal
use Rattle.code_text.proofs.read.cut_line.Goals.{else-byte-ne32-via-then-byte-ne32+else-byte-ne10, else-byte-ne32-via-else-byte-ne32}

pub loop-i-init : goal.loop-i-init
loop-i-init c = record { order = omega arith; line = some_piece 10 c.args.text.now; fields = rw c.new-fields.ensures (begun_start 32) }

pub loop-i-preserved-then-byte-ne10 : goal.loop-i-preserved-then-byte-ne10
loop-i-preserved-then-byte-ne10 c = record {
  order = omega (arith, c.loop-i.invariant.order);
  line = cut_past 10 c.loop-i.i c.args.text.now c.loop-i-test.true (ne_eqb _ _ c.if-byte-ne10.true) ∙ c.loop-i.invariant.line;
  fields = fields_go 32 c.loop-i.start c.loop-i.i c.args.text.now (map (λ f. f.now) c.loop-i.fields.items) c.loop-i.invariant.order c.loop-i-test.true c.loop-i.invariant.fields (ne_eqb _ _ c.if-byte-ne32.true);
}

pub returns-then-is_full : goal.returns-then-is_full
returns-then-is_full c =
    let full : length c.loop-i.fields.items ≡ 5 = eqb-true _ 5 (sym c.is_full.ensures.value ∙ c.if-is_full.true) in
    λ d n. crowded c.args.text.now (take c.loop-i.i c.args.text.now) (drop c.loop-i.i c.args.text.now) d n (omega (arith, c.loop-i-test.true)) c.loop-i.invariant.line
    (λ zs. omega (arith, full, length-map c.loop-i.fields.items (λ f. f.now), begun_many 32 (take c.loop-i.i c.args.text.now) (map (λ f. f.now) c.loop-i.fields.items) (between c.loop-i.start c.loop-i.i c.args.text.now) c.loop-i.invariant.fields zs))

pub loop-i-preserved : goal.loop-i-preserved
loop-i-preserved c =
    let blank : get_or c.args.text.now c.loop-i.i 0 ≡ 32 =
    elim c.else-byte-ne32.branch [ else-byte-ne32-via-then-byte-ne32+else-byte-ne10 w ↦ absurd (c.if-byte-eq10.false w.if-byte-ne10.false) | else-byte-ne32-via-else-byte-ne32 w ↦ w.if-byte-ne32.false ] in
    let more : map (λ f. f.now) c.push.new.self.items ≡ map (λ f. f.now) c.loop-i.fields.items ++ between c.loop-i.start c.loop-i.i c.args.text.now ∷ [] =
    ap (map (λ f. f.now)) c.push.ensures.items ∙ map-append (λ f. f.now) c.loop-i.fields.items _ in
    record {
      order = omega arith;
      line = cut_past 10 c.loop-i.i c.args.text.now c.loop-i-test.true (ne_eqb _ _ c.if-byte-eq10.false) ∙ c.loop-i.invariant.line;
      fields = subst (λ fs. Begun 32 (take (c.loop-i.i + 1) c.args.text.now) fs (between (c.loop-i.i + 1) (c.loop-i.i + 1) c.args.text.now)) (sym more)
          (fields_end 32 c.loop-i.start c.loop-i.i c.args.text.now (map (λ f. f.now) c.loop-i.fields.items) c.loop-i.invariant.order c.loop-i-test.true c.loop-i.invariant.fields (eq-eqb _ 32 blank));
    }
