use Rattle.std.proofs.Common.{◌≡◌, ◌∙◌, false, take, sym}
use Rattle.std.specs.List.{list_any}
use Rattle.std.specs.Str.{bytes_eq}
use Rattle.cov_lex.specs.Signs.{doubles}
use Rattle.cov_lex.proofs.Short.{first_kind, first_two_kind}
use Rattle.cov_lex.proofs.Signs.{two_is, one_is, none_is, no_two, too_short}
use Rattle.cov_lex.proofs.piece.sign.Goals.{then-bytes-gt1+in_default, else-bytes-gt1}
use Rattle.cov_lex.proofs.piece.sign.Goals as goal

pub returns-in-Some-clause-sign : goal.returns-in-Some-clause-sign
returns-in-Some-clause-sign c = two_is c.args.at c.args.bytes.now c.in-Some.kind c.requires.no_word c.if-bytes-gt1.true (sym c.in-Some.is ∙ c.double.ensures ∙ first_two_kind c.args.bytes.now c.if-bytes-gt1.true c.requires.no_word)

pub returns-in-Some-single-clause-sign : goal.returns-in-Some-single-clause-sign
returns-in-Some-single-clause-sign c =
    let none : list_any (bytes_eq (take 2 c.args.bytes.now)) doubles ≡ false =
    elim c.if-bytes-gt1.branch [
      | then-bytes-gt1+in_default w ↦ no_two c.args.at c.args.bytes.now c.requires.no_word w.if-bytes-gt1.true (sym w.in_default.is ∙ w.double.ensures ∙ first_two_kind c.args.bytes.now w.if-bytes-gt1.true c.requires.no_word)
      | else-bytes-gt1 w ↦ too_short c.args.at c.args.bytes.now c.requires.some w.if-bytes-gt1.false
    ] in
    one_is c.args.at c.args.bytes.now none c.requires.no_word c.requires.some c.in-Some-single.kind (sym c.in-Some-single.is ∙ c.single.ensures ∙ first_kind c.args.bytes.now c.requires.some)

pub returns-in-None-clause-sign : goal.returns-in-None-clause-sign
returns-in-None-clause-sign c =
    let none : list_any (bytes_eq (take 2 c.args.bytes.now)) doubles ≡ false =
    elim c.if-bytes-gt1.branch [
      | then-bytes-gt1+in_default w ↦ no_two c.args.at c.args.bytes.now c.requires.no_word w.if-bytes-gt1.true (sym w.in_default.is ∙ w.double.ensures ∙ first_two_kind c.args.bytes.now w.if-bytes-gt1.true c.requires.no_word)
      | else-bytes-gt1 w ↦ too_short c.args.at c.args.bytes.now c.requires.some w.if-bytes-gt1.false
    ] in
    none_is c.args.at c.args.bytes.now none c.requires.no_word c.requires.some (sym c.in-None.is ∙ c.single.ensures ∙ first_kind c.args.bytes.now c.requires.some)
