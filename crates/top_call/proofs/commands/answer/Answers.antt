use Rattle.std.proofs.Common.{◌≡◌, ◌∙◌, [], true, false, get_or, length, map, string_bytes, refl, sym, subst, arith}
use Rattle.std.proofs.lemmas.List.{length-map}
use Rattle.call_inputs.specs.Plans.{CarriesOutAsking}
use Rattle.call_inputs.proofs.PlanLaws.{carried_unasked}
use Rattle.top_call.specs.Commands.{is_swap, plan_of, swap, unjudged}
use Rattle.top_call.proofs.CommandLaws.{is_swapped, is_unjudged, none_asked, three_words, word_at}
use Rattle.top_call.proofs.commands.answer.Goals as goal

pub returns-then-is_swap-clause-does : goal.returns-then-is_swap-clause-does
returns-then-is_swap-clause-does g c =
    let shelved = g.S.Shelf.shelved in
    let judging = g.J.Judge.judging in
    let given = c.args.words.now in
    let words = map string_bytes given in
    let yes : is_swap words ≡ true = sym c.is_swap.ensures ∙ c.if-is_swap.true in
    let three : length given ≡ 3 = sym (length-map given string_bytes) ∙ three_words words yes in
    let first : get_or words 1 [] ≡ c.as_str.result.now =
    word_at string_bytes given 1 c.index-words-1.result (omega (arith, three)) c.index-words-1.is ∙ sym c.as_str.ensures.value in
    let second : get_or words 2 [] ≡ c.as_str-then-is_swap.result.now =
    word_at string_bytes given 2 c.index-words-2.result (omega (arith, three)) c.index-words-2.is ∙ sym c.as_str-then-is_swap.ensures.value in
    subst (λ command. CarriesOutAsking (shelved c.args.shelf.now) (shelved c.swap.new.shelf) (judging c.args.judge.now).judged (judging c.swap.new.judge).judged
    (plan_of (judging c.args.judge.now) command) c.swap.result)
    (sym (is_swapped words yes ∙ (λ i. swap (first i) (second i)))) c.swap.ensures.does

pub returns-else-is_swap-clause-does : goal.returns-else-is_swap-clause-does
returns-else-is_swap-clause-does g c =
    let shelved = g.S.Shelf.shelved in
    let j = g.J.Judge.judging c.args.judge.now in
    let words = map string_bytes c.args.words.now in
    let no : is_swap words ≡ false = sym c.is_swap.ensures ∙ c.if-is_swap.false in
    subst (λ command. CarriesOutAsking (shelved c.args.shelf.now) (shelved c.unjudged.new.shelf) j.judged j.judged (plan_of j command) c.unjudged.result)
    (sym (is_unjudged words no))
    (carried_unasked (plan_of j (unjudged words)) (shelved c.args.shelf.now) (shelved c.unjudged.new.shelf) j.judged j.judged c.unjudged.result (none_asked j words) refl
    (c.unjudged.ensures j))
