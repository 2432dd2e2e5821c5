use Rattle.std.proofs.Common.{◌≡◌, ◌+◌, ◌-◌, ap, ◌∙◌, arith}
use Rattle.text_parts.specs.Lines.{line}
use Rattle.code_lines.proofs.CountLaws.{line_more, line_most}
use Rattle.code_lines.proofs.cursor.seen_at.Goals as goal

pub overflow_add-result : goal.overflow_add-result
overflow_add-result c =
    let bytes = c.args.bytes.now in
    let i = c.args.seen.place in
    let j = c.args.place - i in
    let whole : i + j ≡ c.args.place = omega (arith, c.if-seen-place.true) in
    let further = c.position-further.ensures.line ∙ ap (λ rest. line rest j) c.halves.ensures.behind in
    let is : c.args.seen.line + (c.position-further.result.line - 1) ≡ line bytes c.args.place =
    (λ k. c.requires k + (further k - 1)) ∙ line_more bytes i j ∙ ap (line bytes) whole in
    omega (arith, is, line_most bytes c.args.place, c.ranges.place.fits)

pub returns-then-seen-place : goal.returns-then-seen-place
returns-then-seen-place c =
    let bytes = c.args.bytes.now in
    let i = c.args.seen.place in
    let j = c.args.place - i in
    let whole : i + j ≡ c.args.place = omega (arith, c.if-seen-place.true) in
    let further = c.position-further.ensures.line ∙ ap (λ rest. line rest j) c.halves.ensures.behind in
    let is : c.args.seen.line + (c.position-further.result.line - 1) ≡ line bytes c.args.place =
    (λ k. c.requires k + (further k - 1)) ∙ line_more bytes i j ∙ ap (line bytes) whole in
    ap (λ n. record { place = c.args.place; line = n }) is
