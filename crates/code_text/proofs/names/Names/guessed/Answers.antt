use Rattle.std.proofs.Common.{get_or, sym, ap, ◌∙◌}
use Rattle.std.proofs.lemmas.Slice.Eq.{bytes_eq-Decides}
use Rattle.code_text.specs.Inside.ListingReading.{id_of}
use Rattle.code_text.proofs.LookupLaws.{guess_right, guess_within}
use Rattle.code_text.proofs.names.Names.guessed.Goals as goal

pub bounds-as_slice-id : goal.bounds-as_slice-id
bounds-as_slice-id c = rw c.as_slice.ensures (guess_within c.self.inside.list c.self.inside.guesses c.self.invariant.1 c.guess_of.result c.in-Some.id c.in-Some.is)

pub returns-then-eq : goal.returns-then-eq
returns-then-eq c =
    let same = sym c.text.ensures.text ∙ (bytes_eq-Decides c.text.result.now c.args.field.now).0 (sym c.eq.ensures ∙ c.if-eq.true) in
    guess_right c.self.inside.list c.self.inside.guesses c.self.invariant.1 c.guess_of.result c.in-Some.id c.index-as_slice-id.result c.in-Some.is
    (c.index-as_slice-id.is ∙ ap (λ ns. get_or ns c.in-Some.id c.index-as_slice-id.result) c.as_slice.ensures)
    ∙ ap (id_of c.self.inside.list) same ∙ ap (λ ns. id_of ns c.args.field.now) c.self.view_is
