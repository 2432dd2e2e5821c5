use Rattle.std.proofs.Common.{◌≡◌, ◌∙◌, ℕ, List, None, Err, sym, ap, subst, rules}
use Rattle.cov_grammar.specs.declared.token.Token.{Token}
use Rattle.cov_text.specs.Text.{Answers, words_of}
use Rattle.cov_parse.proofs.ParseLaws.{fault_past, answer_is}
use Rattle.level_text.specs.Inside.Trees.{TextTree, read_of, made_of}
use Rattle.level_text.specs.TextFaults.{in_level_text}
use Rattle.level_text.specs.TextGrammar.{level_text}
use Rattle.level_text.specs.TextTrees.{LevelText}
use Rattle.level_text.specs.TextViews as views
use Rattle.level_text.proofs.read.read_tree.Goals as goal

made_is : (ns ms : List (List ℕ)) (us vs : List Token) (t : LevelText) → ns ≡ ms → us ≡ vs → record { names = ns; tokens = us; tree = t } ≡ (let made : TextTree = record { names = ms; tokens = vs; tree = t } in made)
made_is ns ms us vs t p q = ap (λ n. record { names = n; tokens = us; tree = t }) p ∙ ap (λ u. record { names = ms; tokens = u; tree = t }) q

pub returns-in-Some : goal.returns-in-Some
returns-in-Some c =
    let same : c.as_slice.result.now ≡ words_of c.args.bytes.now = search rules in
    subst (λ f. Answers level_text in_level_text c.args.bytes.now read_of (made_of c.args.bytes.now) (Err f)) (sym c.from.ensures)
    (fault_past level_text in_level_text c.args.bytes.now read_of (made_of c.args.bytes.now) views.level_text c.in_ok-text.text 0 c.as_slice.result.now c.in-Some.excess.at c.in-Some.excess.limit
    c.in_ok-names.ensures.0 same c.in_ok-text.ensures (sym c.in_level_text.ensures ∙ c.in-Some.is))

pub returns : goal.returns
returns c =
    let same : c.as_slice.result.now ≡ words_of c.args.bytes.now = search rules in
    let none : in_level_text (views.level_text c.in_ok-text.text) ≡ None = search rules in
    answer_is level_text in_level_text c.args.bytes.now read_of (made_of c.args.bytes.now) views.level_text c.in_ok-text.text _ 0 c.as_slice.result.now
    c.in_ok-names.ensures.0 same c.in_ok-text.ensures none (made_is _ _ _ _ _ c.in_ok-names.ensures.1 c.in_ok-names.ensures.2)
