-- From what it is to follow what a question asks: the predicates of a point, and one expression more where the question has one.
use Rattle.std.specs.Prelude.{◌≡◌, List, [], ◌∷◌, ◌++◌, Bool, true, false}
use Rattle.cov_expr.specs.Term.{Term}
use Rattle.entail_origins.specs.declared.kinds.Question.{Question}
use Rattle.entail_origins.specs.declared.kinds.Question.TheVariants as q

-- whether an entailment follows from one expression more than the predicates, which is its last hypothesis
abbrev pub asks_more : Question → Bool
asks_more q.Written = true
asks_more (q.Shown x) = true
asks_more (q.Controlled y) = true
asks_more (q.Retyped z) = true
asks_more (q.Invariant l) = false
asks_more (q.Freed x) = true
asks_more q.Guard = false
asks_more q.HeadGuard = false
asks_more q.Printed = false
asks_more (q.Predicate end i) = false
asks_more (q.TypeOf end z) = true

-- The hypotheses are these predicates, with one expression more behind them, which isn't named here, or without one.
abbrev pub AreOf : (more : Bool) → (preds hyps : List Term) → Type 0
AreOf true preds hyps = (e : Term) × (hyps ≡ preds ++ e ∷ [])
AreOf false preds hyps = hyps ≡ preds
