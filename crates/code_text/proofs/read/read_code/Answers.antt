use Rattle.std.proofs.Common.{◌≡◌, sym, subst, ◌∙◌, Err, rules}
use Rattle.code_text.specs.ListingAnswers.{IsReading, IsAnswerTo}
use Rattle.code_text.proofs.AnswerLaws.{listing_read, fault_read, fault_answers, code_answers, bad_answers, same_name}
use Rattle.code_text.proofs.read.read_code.Goals as goal

pub with_distinct_names-requires-clause-distinct : goal.with_distinct_names-requires-clause-distinct
with_distinct_names-requires-clause-distinct c = sym c.in_ok-found.ensures.repeated ∙ c.in_default.is

pub returns-in-Some-clause-reading : goal.returns-in-Some-clause-reading
returns-in-Some-clause-reading c = (
  c.in_ok-found.found.parts,
  listing_read c.args.bytes.now c.in_ok-found.found.parts c.in_ok-found.ensures.agrees,
  same_name c.args.bytes.now c.in_ok-found.found.parts c.in_ok-found.ensures.agrees c.in-Some.name (sym c.in_ok-found.ensures.repeated ∙ c.in-Some.is),
)

pub returns-in-Some-clause-exact : goal.returns-in-Some-clause-exact
returns-in-Some-clause-exact c =
    λ p g. bad_answers c.args.bytes.now c.in_ok-found.found.parts p c.in_ok-found.ensures.agrees g _
    (same_name c.args.bytes.now c.in_ok-found.found.parts c.in_ok-found.ensures.agrees c.in-Some.name (sym c.in_ok-found.ensures.repeated ∙ c.in-Some.is))

pub returns-in-Ok-clause-reading : goal.returns-in-Ok-clause-reading
returns-in-Ok-clause-reading c = rw c.in-Ok.ensures.0 (listing_read c.args.bytes.now c.in_ok-found.found.parts c.in_ok-found.ensures.agrees, c.in-Ok.ensures.1)

pub returns-in-Err-clause-reading : goal.returns-in-Err-clause-reading
returns-in-Err-clause-reading c = (c.in_ok-found.found.parts, listing_read c.args.bytes.now c.in_ok-found.found.parts c.in_ok-found.ensures.agrees, c.in-Err.ensures.1)

pub returns-in-Ok-clause-exact : goal.returns-in-Ok-clause-exact
returns-in-Ok-clause-exact c =
    λ p g. rw c.in-Ok.ensures.0 (code_answers c.args.bytes.now c.in_ok-found.found.parts p c.in_ok-found.ensures.agrees g c.in-Ok.ensures.1)

pub returns-in-Err-clause-exact : goal.returns-in-Err-clause-exact
returns-in-Err-clause-exact c =
    λ p g. bad_answers c.args.bytes.now c.in_ok-found.found.parts p c.in_ok-found.ensures.agrees g c.in-Err.rejected.fault c.in-Err.ensures.1

pub returns-in_err-found-clause-reading : goal.returns-in_err-found-clause-reading
returns-in_err-found-clause-reading c =
    let same : c.from_residual.result ≡ Err c.in_err-found.field-0.0 = search rules in
    subst (IsReading c.args.bytes.now) (sym same) (fault_read c.args.bytes.now c.in_err-found.field-0.0 c.in_err-found.ensures.agrees)

pub returns-in_err-found-clause-exact : goal.returns-in_err-found-clause-exact
returns-in_err-found-clause-exact c =
    let same : c.from_residual.result ≡ Err c.in_err-found.field-0.0 = search rules in
    λ p g. subst (IsAnswerTo p) (sym same) (fault_answers c.args.bytes.now c.in_err-found.field-0.0 c.in_err-found.ensures.agrees p g)
