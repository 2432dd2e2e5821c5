-- Expressions that hold in no memory of words, as the bounds of their parts or a certificate of one node show.
use Rattle.std.specs.Prelude.{List, Bool, true, false, ◌&&◌, ◌||◌, is_some}
use Rattle.std.specs.List.{list_any}
use Rattle.cert_search.specs.Searching.{search}
use Rattle.cov_expr.specs.Term.{Term, const}
use Rattle.cov_expr.specs.Trees.{conjuncts}
use Rattle.entail_cert.specs.WordTests.{is_of_words}
use Rattle.entail_range.specs.Range.{bound}
use Rattle.entail_range.specs.declared.interval.Bound.{Bound}
use Rattle.entail_range.specs.declared.interval.Bound.TheVariants.{Empty, Within}

abbrev pub is_empty : Bound → Bool
is_empty Empty = true
is_empty (Within low high) = false

-- whether the bounds that expressions give leave no value to an expression
abbrev pub has_no_value : List Term → Term → Bool
has_no_value hyps h = is_of_words h && is_empty (bound hyps h)

-- whether they leave none to one of them, or a certificate of one node shows that they can't all hold
abbrev pub deny_each_other : List Term → Bool
deny_each_other hyps = list_any (has_no_value hyps) hyps || is_some (search 0 hyps (const 0))

-- whether the parts that `&&` joins in an expression can't all hold, as that shows
unfoldable pub holds_nowhere : Term → Bool
holds_nowhere e = deny_each_other (conjuncts e)
