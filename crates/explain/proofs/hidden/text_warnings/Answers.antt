use Rattle.std.proofs.Common.{◌++◌, ◌+◌, ◌∙◌, ap, ap₂, sym, drop}
use Rattle.explain.specs.HiddenText as spec
use Rattle.explain.proofs.HiddenLaws.{goes_on_none, goes_on_one, ends_more}
use Rattle.explain.proofs.hidden.text_warnings.Goals as goal
use Rattle.explain.proofs.hidden.text_warnings.Goals.{in-Some+else-room-eq0+in_ok-push-2, in_default}

pub returns-then-room-eq0 : goal.returns-then-room-eq0
returns-then-room-eq0 c =
    let front = sym (c.at_front.ensures ∙ ap spec.at_front c.rest_from.ensures) in
    c.in_ok-push.ensures.ok
    ∙ ends_more c.args.bytes.now c.loop-i.i c.loop-i.found (spec.text_warnings c.args.bytes.now) c.loop-i.room c.loop-i-test.true c.loop-i.invariant c.in-Some.cause
    (front ∙ c.in-Some.is) c.count_from.result c.if-room-eq0.true c.count_from.ensures

pub loop-i-preserved : goal.loop-i-preserved
loop-i-preserved c =
    let front = sym (c.at_front.ensures ∙ ap spec.at_front c.rest_from.ensures) in
    let all = spec.text_warnings c.args.bytes.now in
    let rest = spec.hidden_from (c.loop-i.i + 1) (drop (c.loop-i.i + 1) c.args.bytes.now) in
    elim c.match-at_front.branch [
      | in-Some+else-room-eq0+in_ok-push-2 w ↦
          ap₂ (λ found room. found ++ spec.listed room rest) (w.found-is ∙ w.in_ok-push-2.ensures.ok) w.room-is
          ∙ goes_on_one c.args.bytes.now c.loop-i.i c.loop-i.found all c.loop-i.room c.loop-i-test.true c.loop-i.invariant w.in-Some.cause
          (front ∙ w.in-Some.is) w.if-room-eq0.false
      | in_default w ↦
          ap₂ (λ found room. found ++ spec.listed room rest) w.found-is w.room-is
          ∙ goes_on_none c.args.bytes.now c.loop-i.i c.loop-i.found all c.loop-i.room c.loop-i-test.true c.loop-i.invariant (front ∙ w.in_default.is)
    ]
