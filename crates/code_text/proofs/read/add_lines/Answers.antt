use Rattle.std.proofs.Common.{◌≡◌, map, sym, ap, subst, ◌∙◌, arith, Err, rules}
use Rattle.code_text.specs.Inside.Drafts.{Ends}
use Rattle.code_text.specs.Inside.ListingReading.{pieces, read_lines, row_of}
use Rattle.code_text.proofs.DraftLaws.{small_row}
use Rattle.code_text.proofs.ReadLaws.{line_goes, line_ends, line_stops, counted}
use Rattle.code_text.proofs.read.add_lines.Goals as goal

pub loop-cut-preserved : goal.loop-cut-preserved
loop-cut-preserved c =
    let l = c.loop-cut in
    let fields = ap (map (λ f. f.now)) c.as_slice.ensures.value ∙ c.in-Some.ensures.fields in
    let added = c.in_ok-add_line.ensures.line in
    let goes = line_goes l.rest.now c.in-Some.ensures.line c.in-Some.cut.rest.now l.draft l.n c.in-Some.ensures.cut (map (λ f. f.now) c.as_slice.result.now) added.0 fields (sym added.1) in
    record {
      same = rw added.2 (sym goes ∙ l.invariant.same);
      known = c.in_ok-add_line.ensures.known l.invariant.known;
      small = rw added.2 (small_row l.n l.draft added.0 l.invariant.small);
      short = omega (arith, l.invariant.short, c.in-Some.ensures.shorter);
      two = omega (arith, l.invariant.two);
    }

pub returns-in_err-add_line-clause-ends : goal.returns-in_err-add_line-clause-ends
returns-in_err-add_line-clause-ends c =
    let l = c.loop-cut in
    let fault = c.in_err-add_line.field-0.0 in
    let same : c.from_residual.result ≡ Err fault = search rules in
    let fields = ap (map (λ f. f.now)) c.as_slice.ensures.value ∙ c.in-Some.ensures.fields in
    let stops = line_stops l.rest.now c.in-Some.ensures.line c.in-Some.cut.rest.now l.draft l.n c.in-Some.ensures.cut (map (λ f. f.now) c.as_slice.result.now) fields in
    subst (λ r. Ends r c.add_line.new.draft (read_lines (pieces 10 c.args.text.now) c.args.draft.now 2)) (sym same)
    (line_ends fault l.n l.draft c.add_line.new.draft c.add_line.new.draft (row_of l.draft (map (λ f. f.now) c.as_slice.result.now)) (read_lines (pieces 10 c.args.text.now) c.args.draft.now 2)
    c.in_err-add_line.ensures.line (λ none. sym l.invariant.same ∙ stops none))

pub returns-then-left-eq0-clause-counted : goal.returns-then-left-eq0-clause-counted
returns-then-left-eq0-clause-counted c = counted c.loop-cut.n c.loop-cut.draft.parts c.loop-cut.invariant.small (omega (arith, c.loop-cut.invariant.short))
