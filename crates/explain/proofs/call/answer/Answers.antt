use Rattle.std.proofs.Common.{◌≡◌, ◌∙◌, [], true, false, ap, get_or, length, map, string_bytes, sym, arith}
use Rattle.std.proofs.lemmas.List.{get_or-map, length-map}
use Rattle.explain.specs.FileCalls.{asks_for_levels}
use Rattle.explain.specs.Inside.Told.{IsLeft, outcome_of}
use Rattle.explain.proofs.CallLaws.{answers_besides, answers_levels, three_words}
use Rattle.explain.proofs.call.answer.Goals as goal

pub returns-then-asks_for_levels : goal.returns-then-asks_for_levels
returns-then-asks_for_levels g c =
    let shelved = g.S.Shelf.shelved in
    let given = c.args.names.now in
    let words = map string_bytes given in
    let yes : asks_for_levels words ≡ true = sym c.asks_for_levels.ensures ∙ c.if-asks_for_levels.true in
    let three : length given ≡ 3 = sym (length-map given string_bytes) ∙ three_words words yes in
    let first : get_or words 1 [] ≡ c.as_str.result.now =
    get_or-map string_bytes given 1 c.index-names-1.result [] (omega (arith, three)) ∙ ap string_bytes (sym c.index-names-1.is) ∙ sym c.as_str.ensures.value in
    let second : get_or words 2 [] ≡ c.as_str-then-asks_for_levels.result.now =
    get_or-map string_bytes given 2 c.index-names-2.result [] (omega (arith, three)) ∙ ap string_bytes (sym c.index-names-2.is) ∙ sym c.as_str-then-asks_for_levels.ensures.value in
    answers_levels string_bytes (IsLeft (shelved c.tell_levels.new.shelf) (outcome_of c.tell_levels.new.text c.tell_levels.result)) given
    (shelved c.args.shelf.now) c.args.text.now c.as_str.result.now c.as_str-then-asks_for_levels.result.now c.is_empty.result c.is_empty.ensures
    c.if-is_empty.false yes first second c.requires c.tell_levels.ensures

pub returns-else-asks_for_levels : goal.returns-else-asks_for_levels
returns-else-asks_for_levels g c =
    let words = map string_bytes c.args.names.now in
    let left = IsLeft (g.S.Shelf.shelved c.answer_besides.new.shelf) (outcome_of c.answer_besides.new.text c.answer_besides.result) in
    let no : asks_for_levels words ≡ false = sym c.asks_for_levels.ensures ∙ c.if-asks_for_levels.false in
    answers_besides string_bytes left c.args.names.now (g.S.Shelf.shelved c.args.shelf.now) c.is_empty.result c.is_empty.ensures c.if-is_empty.false no c.answer_besides.ensures
