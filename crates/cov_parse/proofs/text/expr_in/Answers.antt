use Rattle.std.proofs.Common.{◌≡◌, ◌∙◌, ℕ, List, None, Err, sym, ap, subst, rules}
use Rattle.cov_expr.specs.Term.{Term}
use Rattle.cov_expr.specs.View.{term}
use Rattle.cov_ast.specs.declared.parsed.NameUse.{NameUse}
use Rattle.cov_text.specs.Uses.{uses_of}
use Rattle.cov_read.specs.WrittenViews.{written}
use Rattle.cov_grammar.specs.Grammar.{whole}
use Rattle.cov_read.specs.CertViews as certs
use Rattle.cov_text.specs.Limits.{in_expr}
use Rattle.cov_text.specs.Text.{Expression, Answers, expression_of, words_of, names_of}
use Rattle.cov_parse.specs.Reads.{found_expr}
use Rattle.cov_parse.proofs.ParseLaws.{fault_past, answer_is}
use Rattle.cov_parse.proofs.text.expr_in.Goals as goal

found_is : (ns : List (List ℕ)) (us vs : List NameUse) (e f : Term) → us ≡ vs → e ≡ f → record { names = ns; uses = us; expr = e } ≡ (let made : Expression = record { names = ns; uses = vs; expr = f } in made)
found_is ns us vs e f q r = ap (λ u. record { names = ns; uses = u; expr = e }) q ∙ ap (λ t. record { names = ns; uses = vs; expr = t }) r

pub returns-in-Some : goal.returns-in-Some
returns-in-Some c =
    subst (λ f. Answers whole in_expr c.args.bytes.now (found_expr c.args.bytes.now) (expression_of c.args.bytes.now) (Err f)) (sym c.from.ensures)
    (fault_past whole in_expr c.args.bytes.now (found_expr c.args.bytes.now) (expression_of c.args.bytes.now) certs.whole c.in_ok-whole.whole 0 c.args.tokens.now c.in-Some.excess.at c.in-Some.excess.limit
    c.requires.shallow c.requires.tokens c.in_ok-whole.ensures (sym c.in_expr.ensures ∙ c.in-Some.is))

pub returns : goal.returns
returns c =
    let uses : c.in_ok-uses.uses ≡ uses_of (words_of c.args.bytes.now) = search rules in
    let expr : term c.expr_of.result ≡ written c.in_ok-whole.whole.expr = c.expr_of.ensures in
    let none : in_expr (certs.whole c.in_ok-whole.whole) ≡ None = search rules in
    answer_is whole in_expr c.args.bytes.now (found_expr c.args.bytes.now) (expression_of c.args.bytes.now) certs.whole c.in_ok-whole.whole _ 0 c.args.tokens.now
    c.requires.shallow c.requires.tokens c.in_ok-whole.ensures none (found_is (names_of c.args.bytes.now) _ _ _ _ uses expr)
