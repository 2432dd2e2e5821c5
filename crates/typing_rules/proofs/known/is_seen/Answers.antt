use Rattle.std.proofs.Common.{◌≡◌, ◌++◌, List, Bool, Option, Result, Ok, Err, true, subst}
use Rattle.std.specs.Prelude.{IfOk}
use Rattle.cov_expr.specs.declared.list.NoMemory.{NoMemory}
use Rattle.cov_expr.specs.Term.{Term}
use Rattle.entail_cert.specs.Valid.{is_all_known, is_plain}
use Rattle.typing_state.specs.declared.point.Point.{Point}
use Rattle.entail_cert.specs.declared.held.Held.{Held}
use Rattle.entail_cert.specs.HeldTerms.{held_term}
use Rattle.typing_rules.specs.Listed.{entailment_from}
use Rattle.typing_rules.specs.Inside.Seen.{Shows}
use Rattle.typing_rules.proofs.SeenLaws.{known_plain}
use Rattle.typing_rules.proofs.known.is_seen.Goals as goal

known_shows : (kept : Point) (more : Option Held) (goal : Term) (result : Result Bool NoMemory)
    → ((others : List Term) → IfOk result (λ known. Shows kept known (λ preds. is_all_known (preds ++ others) goal)))
    → IfOk result (λ seen. Shows kept seen (λ preds. is_plain (entailment_from preds more goal).hyps (entailment_from preds more goal).goal))
known_shows kept more goal (Ok seen) h = λ p t a keeps is. known_plain a.preds more goal (λ others. h others p t a keeps is)
known_shows kept more goal (Err e) h = tt

pub returns-then-is_number_set : goal.returns-then-is_number_set
returns-then-is_number_set c p t a kept _ =
    known_plain a.preds c.args.entailment.now.more (held_term c.args.entailment.now.goal)
    (λ others. subst (λ g. is_all_known (a.preds ++ others) g ≡ true) c.expr-goal.ensures (c.is_number_set.ensures (a.preds ++ others) c.if-is_number_set.true))

pub returns : goal.returns
returns c =
    known_shows c.args.point.now c.args.entailment.now.more (held_term c.args.entailment.now.goal) c.is_known.result
    (subst (λ goal. (others : List Term) → IfOk c.is_known.result (λ known. Shows c.args.point.now known (λ preds. is_all_known (preds ++ others) goal)))
    c.expr-goal.ensures c.is_known.ensures)
