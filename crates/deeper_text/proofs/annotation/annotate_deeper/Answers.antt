use Rattle.std.proofs.Common.{◌≡◌, ◌∙◌, ap, map}
use Rattle.cov_ast.specs.View as view
use Rattle.deeper_text.proofs.TextLaws.{first_is, spelled_is, text_stays, tried_of, unproved_is}
use Rattle.deeper_text.specs.DeeperText.{deeper_text}
use Rattle.deeper_text.specs.Inside.{found}
use Rattle.deeper_text.proofs.annotation.annotate_deeper.Goals as goal

pub annotate_with-requires-clause-found : goal.annotate_with-requires-clause-found
annotate_with-requires-clause-found c =
    ap (map found) c.as_slice-else-is_empty.ensures
    ∙ c.in_ok-found.ensures
    ∙ tried_of (view.parsed c.args.p) (view.program c.args.q.now) c.as_slice.result.now (c.as_slice.ensures ∙ c.in_ok-outcome.ensures.unproved) c.requires.resolved

pub returns-then-is_empty-clause-spelled : goal.returns-then-is_empty-clause-spelled
returns-then-is_empty-clause-spelled c =
    let p = view.parsed c.args.p in
    let q = view.program c.args.q.now in
    let stays : deeper_text p ≡ p =
    text_stays p q c.as_slice.result.now c.in_ok-found.found c.requires.read (c.as_slice.ensures ∙ c.in_ok-outcome.ensures.unproved) c.requires.resolved
    c.in_ok-found.ensures (c.is_empty.ensures.0 c.if-is_empty.true) in
    spelled_is p (view.parsed c.in_ok-again.again) c.in_ok-outcome.outcome.spelled c.in_ok-outcome.ensures.spelled c.in_ok-again.ensures stays

pub returns-then-is_empty-clause-first : goal.returns-then-is_empty-clause-first
returns-then-is_empty-clause-first c =
    let p = view.parsed c.args.p in
    let q = view.program c.args.q.now in
    let stays : deeper_text p ≡ p =
    text_stays p q c.as_slice.result.now c.in_ok-found.found c.requires.read (c.as_slice.ensures ∙ c.in_ok-outcome.ensures.unproved) c.requires.resolved
    c.in_ok-found.ensures (c.is_empty.ensures.0 c.if-is_empty.true) in
    first_is p q c.in_ok-outcome.outcome.first c.in_ok-outcome.ensures.first c.requires.resolved stays

pub returns-then-is_empty-clause-unproved : goal.returns-then-is_empty-clause-unproved
returns-then-is_empty-clause-unproved c =
    let p = view.parsed c.args.p in
    let q = view.program c.args.q.now in
    let stays : deeper_text p ≡ p =
    text_stays p q c.as_slice.result.now c.in_ok-found.found c.requires.read (c.as_slice.ensures ∙ c.in_ok-outcome.ensures.unproved) c.requires.resolved
    c.in_ok-found.ensures (c.is_empty.ensures.0 c.if-is_empty.true) in
    unproved_is p q c.in_ok-outcome.outcome.unproved c.in_ok-outcome.ensures.unproved c.requires.resolved stays
