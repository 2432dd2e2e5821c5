use Rattle.annotate.proofs.UseLaws.{chosen_there, text_same, uses_in_order, uses_placed}
use Rattle.annotate.proofs.laws.uses_stay_in_order.Goals as goal

pub returns-clause-order : goal.returns-clause-order
returns-clause-order c = uses_in_order

pub returns-clause-kept : goal.returns-clause-kept
returns-clause-kept c = text_same

pub returns-clause-placed : goal.returns-clause-placed
returns-clause-placed c = uses_placed

pub returns-clause-new : goal.returns-clause-new
returns-clause-new c = λ chosen p t place inside n d h. chosen_there place n d chosen p t inside h
