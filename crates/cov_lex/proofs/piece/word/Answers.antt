use Rattle.std.proofs.Common.{◌∙◌, ap, length, Ok}
use Rattle.cov_lex.specs.declared.piece.Piece.TheVariants.{Part}
use Rattle.cov_lex.proofs.Signs.{word_is}
use Rattle.cov_lex.proofs.piece.word.Goals as goal

pub returns : goal.returns
returns c = ap (λ kind. Ok (Part kind 0 (length c.args.run.now))) c.word_kind.ensures ∙ word_is c.args.at c.args.run.now c.requires c.if-run-gt-MOST_NAME_BYTES.false
