use Rattle.std.proofs.Common.{map}
use Rattle.std.proofs.lemmas.List.{length-map}
use Rattle.cov_expr.specs.View.{term}
use Rattle.entail_cert.proofs.Numbers.{not_of_none, not_of_more}
use Rattle.entail_cert.proofs.instance.axiom_for.Goals as goal

pub returns-in-empty : goal.returns-in-empty
returns-in-empty c = not_of_none c.args.number (map term c.args.args.now) (simp length-map c.in-empty.len_below)

pub returns-in-len4-up : goal.returns-in-len4-up
returns-in-len4-up c = not_of_more c.args.number (map term c.args.args.now) (simp length-map c.in-len4-up.len_at_least)
