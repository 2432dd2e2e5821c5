use Rattle.std.proofs.Common.{◌≡◌, ◌∙◌, ◌<◌, [], Ok, get_or, inl, refl, sym, subst, length, map, string_bytes, rules, arith}
use Rattle.std.proofs.lemmas.List.{length-map}
use Rattle.call_inputs.specs.Plans.{CarriesOut}
use Rattle.call_reports.specs.declared.answers.Answer.TheVariants as a
use Rattle.top_call.specs.Commands.{nothing, of_four, plan_of, unjudged}
use Rattle.top_call.proofs.CommandLaws.{few_words, five_words, many_words, word_at}
use Rattle.top_call.proofs.commands.unjudged.Goals as goal
use Rattle.top_call.proofs.commands.unjudged.Goals.{in_default-via-then-words-lt2, in_default-via-else-words-lt2+else-words-lt3+else-words-lt4+else-words-lt5+else-words-lt6}

-- other words ask for nothing
pub returns-in_default : goal.returns-in_default
returns-in_default g c j =
    let shelf = g.S.Shelf.shelved c.args.shelf.now in
    let words = map string_bytes c.args.words.now in
    let none : unjudged words ≡ nothing =
    elim c.in_default.branch [
      | in_default-via-then-words-lt2 w ↦ (let few : length c.args.words.now < 2 = search rules in
          few_words words (omega (arith, few, length-map c.args.words.now string_bytes)))
      | in_default-via-else-words-lt2+else-words-lt3+else-words-lt4+else-words-lt5+else-words-lt6 w ↦ (let many : 5 < length c.args.words.now = search rules in
          many_words words (omega (arith, many, length-map c.args.words.now string_bytes)))
    ] in
    subst (λ command. CarriesOut shelf shelf (plan_of j command) (Ok a.Usage)) (sym none) (inl (refl, refl))

pub returns-in-len5 : goal.returns-in-len5
returns-in-len5 g c j =
    let shelved = g.S.Shelf.shelved in
    let given = c.args.words.now in
    let words = map string_bytes given in
    let five : length given ≡ 5 = omega (arith, c.in-len5.len_at_least, c.in-len5.len_below) in
    let command : get_or words 0 [] ≡ c.as_str-in-len5.result.now =
    word_at string_bytes given 0 c.command-item-then-words-lt6.result (omega (arith, five)) c.command-item-then-words-lt6.is ∙ sym c.as_str-in-len5.ensures.value in
    let program : get_or words 1 [] ≡ c.as_str-in-len5-2.result.now =
    word_at string_bytes given 1 c.program-item-then-words-lt6.result (omega (arith, five)) c.program-item-then-words-lt6.is ∙ sym c.as_str-in-len5-2.ensures.value in
    let start : get_or words 2 [] ≡ c.as_str-in-len5-3.result.now =
    word_at string_bytes given 2 c.start-item-then-words-lt6.result (omega (arith, five)) c.start-item-then-words-lt6.is ∙ sym c.as_str-in-len5-3.ensures.value in
    let next : get_or words 3 [] ≡ c.as_str-in-len5-4.result.now =
    word_at string_bytes given 3 c.next-item.result (omega (arith, five)) c.next-item.is ∙ sym c.as_str-in-len5-4.ensures.value in
    let last : get_or words 4 [] ≡ c.as_str-in-len5-5.result.now =
    word_at string_bytes given 4 c.last-item.result (omega (arith, five)) c.last-item.is ∙ sym c.as_str-in-len5-5.ensures.value in
    subst (λ asked. CarriesOut (shelved c.args.shelf.now) (shelved c.of_four.new.shelf) (plan_of j asked) c.of_four.result)
    (sym (five_words words (length-map given string_bytes ∙ five) ∙ (λ i. of_four (command i) (program i) (start i) (next i) (last i)))) (c.of_four.ensures j)
