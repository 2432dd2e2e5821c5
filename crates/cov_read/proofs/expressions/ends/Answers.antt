use Rattle.std.proofs.Common.{◌∙◌, sym}
use Rattle.cov_read.proofs.Levels.{ends_semicolon, ends_bracket, ends_brace}
use Rattle.cov_read.proofs.expressions.ends.Goals as goal
use Rattle.cov_read.proofs.expressions.ends.Goals.{then-at, else-at}

pub returns-then-at-2 : goal.returns-then-at-2
returns-then-at-2 c h =
    elim c.if-at.branch [
      | then-at w ↦ ends_semicolon c.args.reader.now (sym c.at.ensures ∙ w.if-at.true)
      | else-at w ↦ ends_bracket c.args.reader.now (sym w.at-else-at.ensures ∙ sym w.value-is ∙ c.if-at-2.true)
    ]

pub returns-else-at-2 : goal.returns-else-at-2
returns-else-at-2 c h = ends_brace c.args.reader.now (sym c.at-else-at-2.ensures ∙ h)
