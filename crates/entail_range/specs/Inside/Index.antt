-- What an index of hypotheses has to give: for each expression, at its slot, what all hypotheses leave to it.
use Rattle.std.specs.Prelude.{◌≡◌, ℕ, ◌<◌, ◌≤◌, List, [], ◌∷◌, ◌++◌, map, length, get_or, set, Option, Some, None, IfSome}
use Rattle.std.specs.Borrow.{Bor}
use Rattle.cov_expr.specs.declared.expr.Expr.{Expr}
use Rattle.cov_expr.specs.Term.{Term}
use Rattle.cov_expr.specs.View.{term}
use Rattle.entail_range.specs.declared.interval.Bound.{Bound}
use Rattle.entail_range.specs.declared.interval.Bound.TheVariants.{Empty, Within}
use Rattle.entail_range.specs.declared.hypotheses.Hypotheses.{Hypotheses}
use Rattle.entail_range.specs.Intervals.{IsProper, greatest}
use Rattle.entail_range.specs.Inside.Slots.{slot}
use Rattle.entail_range.specs.Range.{lent, limited}

-- No number but words lies within it.
abbrev pub IsOfWords : Bound → Type 0
IsOfWords Empty = Unit {0}
IsOfWords (Within low high) = high ≤ greatest

-- as each bound of the code is
abbrev pub IsFit : Bound → Type 0
IsFit b = IsProper b × IsOfWords b

-- Lists of hypotheses, of which the one at an expression's slot leaves to it what all hypotheses do.
pub record FindsAll (buckets : List (List Term)) (hyps : List Term) : Type 0 where
  pub some : 0 < length buckets
  pub found : (e : Term) (b : Bound) → IsFit b → limited (get_or buckets (slot (length buckets) e) []) e b ≡ limited hyps e b

-- Whatever hypotheses are found before, they and one more are found after.
abbrev pub Gains : List (List Term) → List (List Term) → Term → Type 0
Gains before after h = (hyps : List Term) → FindsAll before hyps → FindsAll after (hyps ++ h ∷ [])

-- with a hypothesis more at a slot, if there is one
abbrev pub added : List (List Term) → Option ℕ → Term → List (List Term)
added buckets None h = buckets
added buckets (Some i) h = set buckets i (get_or buckets i [] ++ h ∷ [])

abbrev pub terms : List (List (Bor Expr)) → List (List Term)
terms buckets = map (map lent) buckets

-- all hypotheses, in order
abbrev pub listed : Hypotheses → List Term
listed hyps = map term hyps.given.now ++ map lent hyps.more.now

-- An index, if there is one, is one of these hypotheses.
abbrev pub IsIndexed : Hypotheses → Type 0
IsIndexed hyps = IfSome hyps.buckets (λ buckets. FindsAll (terms buckets.items) (listed hyps))
