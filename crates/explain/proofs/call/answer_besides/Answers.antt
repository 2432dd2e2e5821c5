use Rattle.std.proofs.Common.{◌≡◌, ◌∙◌, [], true, false, ap, get_or, length, map, nat_lt, string_bytes, sym, subst, arith}
use Rattle.std.proofs.lemmas.List.{get_or-map, length-map}
use Rattle.call_reports.specs.declared.answers.Status.TheVariants as s
use Rattle.explain.specs.FileCalls.{AnswersBesides, TellsAll, TellsSuggested, asks_for_suggestions, files_by, files_of, manner_of}
use Rattle.explain.specs.declared.manner.Manner.{Manner}
use Rattle.explain.specs.Inside.Told.{IsLeft, outcome_of}
use Rattle.explain.proofs.CallLaws.{two_words}
use Rattle.explain.proofs.call.answer_besides.Goals as goal

pub returns-then-asks_for_suggestions : goal.returns-then-asks_for_suggestions
returns-then-asks_for_suggestions g c =
    let shelved = g.S.Shelf.shelved in
    let given = c.args.names.now in
    let words = map string_bytes given in
    let left = IsLeft (shelved c.tell_suggested.new.shelf) (outcome_of c.tell_suggested.new.text c.tell_suggested.result) in
    let shelf = shelved c.args.shelf.now in
    let yes : asks_for_suggestions words ≡ true = sym c.asks_for_suggestions.ensures ∙ c.if-asks_for_suggestions.true in
    let two : length given ≡ 2 = sym (length-map given string_bytes) ∙ two_words words yes in
    let first : get_or words 1 [] ≡ c.as_str.result.now =
    get_or-map string_bytes given 1 c.index-names-1.result [] (omega (arith, two)) ∙ ap string_bytes (sym c.index-names-1.is) ∙ sym c.as_str.ensures.value in
    subst (AnswersBesides left shelf words) (sym yes)
    (subst (λ n. TellsSuggested left n [] shelf) (sym first) (subst (λ t. TellsSuggested left c.as_str.result.now t shelf) c.requires c.tell_suggested.ensures))

pub returns-else-asks_for_suggestions : goal.returns-else-asks_for_suggestions
returns-else-asks_for_suggestions g c =
    let words = map string_bytes c.args.names.now in
    let left = IsLeft (g.S.Shelf.shelved c.tell_all.new.shelf) (outcome_of c.tell_all.new.text c.tell_all.result) in
    let no : asks_for_suggestions words ≡ false = sym c.asks_for_suggestions.ensures ∙ c.if-asks_for_suggestions.false in
    let files : map string_bytes c.files_by-files.result.now ≡ files_of words = c.files_by-files.ensures ∙ ap (λ beside. files_by beside words) c.beside_of-beside.ensures in
    let as_many : length c.files_by-files.result.now ≡ length (files_of words) = sym (length-map c.files_by-files.result.now string_bytes) ∙ ap length files in
    let given : Manner = record { named = nat_lt 1 (length c.files_by-files.result.now); first = c.asks_for_first.result; beside = c.beside_of-beside.result } in
    let manners : given ≡ manner_of words = λ i. record { named = nat_lt 1 (as_many i); first = c.asks_for_first.ensures i; beside = c.beside_of-beside.ensures i } in
    let shelf = g.S.Shelf.shelved c.args.shelf.now in
    subst (AnswersBesides left shelf words) (sym no)
    (subst (λ t. TellsAll left (manner_of words) shelf (files_of words) t s.Done) c.requires
    (subst (λ how. TellsAll left how shelf (files_of words) c.args.text.now s.Done) manners
    (subst (λ names. TellsAll left given shelf names c.args.text.now s.Done) files c.tell_all.ensures)))
