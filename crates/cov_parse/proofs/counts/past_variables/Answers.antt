use Rattle.std.proofs.Common.{◌∙◌, sym, ap, arith, length, map}
use Rattle.cov_text.specs.declared.fault.Counted.TheVariants.{Variables}
use Rattle.cov_text.specs.Limits.{past, past_variables}
use Rattle.cov_read.specs.DeclViews as views
use Rattle.cov_parse.proofs.LimitLaws.{past_none, past_some}
use Rattle.cov_parse.proofs.counts.past_variables.Goals as goal

pub returns-then-vars-le-MOST_VARIABLES : goal.returns-then-vars-le-MOST_VARIABLES
unfolding past_variables
returns-then-vars-le-MOST_VARIABLES c =
    sym (past_none (λ v. v.name.1) views.var 256 Variables c.args.program.now.vars (omega (arith, ap length c.as_slice-vars.ensures, c.if-vars-le-MOST_VARIABLES.true)))

pub returns : goal.returns
unfolding past_variables
returns c =
    sym (past_some (λ v. v.name.1) views.var 256 Variables c.as_slice-vars.result.now c.index-vars-256.result c.if-vars-le-MOST_VARIABLES.false)
    ∙ ap (λ xs. past 256 Variables (map (λ v. v.name.1) (map views.var xs))) c.as_slice-vars.ensures
