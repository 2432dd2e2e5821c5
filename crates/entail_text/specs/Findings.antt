-- What searches come to for an entailment: a certificate, a memory that breaks it, or neither; and which predicate would be enough, were it known.
use Rattle.std.specs.Prelude.{◌+◌, nat_le, List, [], ◌∷◌, ◌++◌, Bool, true, false, if◌then◌else◌, Option, Some, None, is_some}
use Rattle.cov_expr.specs.Term.{Term}
use Rattle.cov_expr.specs.Trees.{nodes}
use Rattle.cov_ast.specs.Syntax.{Cert}
use Rattle.cov_ast.specs.View as view
use Rattle.cert_search.specs.Classes.{IsFound}
use Rattle.cert_search.specs.Searching.{search}
use Rattle.cert_search.specs.declared.finder.TheConstants.{MOST_DEPTH}
use Rattle.entail_counter.specs.Counterexamples.{counterexample}
use Rattle.entail_search.specs.Deeper.{deeper}
use Rattle.entail_counter.specs.declared.binding.Binding.{Binding}
use Rattle.entail_counter.specs.Searching.{total}
use Rattle.entail_text.specs.declared.finding.TheConstants.{MOST_SEARCHED}
use Rattle.entail_text.specs.declared.finding.Finding as declared
use Rattle.entail_text.specs.declared.finding.Finding.TheVariants as code

-- What is found -------------------------------------------------------------------------------------------------

pub data Finding : Type 0 where
  -- a certificate that is valid
  shown : Cert → Finding
  -- a memory in which all hypotheses hold and the goal doesn't
  broken : List Binding → Finding
  neither : Finding

-- what the search of the greatest depth finds
unfoldable pub suggested : List Term → Term → Option Cert
suggested hyps goal = search MOST_DEPTH hyps goal

-- whether hypotheses and a goal have few nodes together, so that a deeper search is soon over
abbrev pub are_small : List Term → Term → Bool
are_small hyps goal = nat_le (nodes goal + total hyps) MOST_SEARCHED

-- what a deeper search finds, of such ones
unfoldable pub deeper_suggested : List Term → Term → Option Cert
deeper_suggested hyps goal = if are_small hyps goal then deeper hyps goal else None

-- where neither that search nor the one for a memory finds anything, by what a deeper search does
abbrev pub by_deeper : Option Cert → Finding
by_deeper None = neither
by_deeper (Some c) = shown c

-- where the first search finds no certificate, by what the one for a memory comes to
abbrev pub by_memory : List Term → Term → Option (List Binding) → Finding
by_memory hyps goal None = by_deeper (deeper_suggested hyps goal)
by_memory hyps goal (Some m) = broken m

abbrev pub finding : List Term → Term → Option Cert → Finding
finding hyps goal (Some c) = shown c
finding hyps goal None = by_memory hyps goal (counterexample hyps goal)

-- what is found for an entailment
abbrev pub found_for : List Term → Term → Finding
found_for hyps goal = finding hyps goal (suggested hyps goal)

abbrev pub is_shown : Finding → Bool
is_shown (shown c) = true
is_shown (broken m) = false
is_shown neither = false

-- What would help -----------------------------------------------------------------------------------------------

-- whether a certificate is found, were one predicate more known
abbrev pub would_help : List Term → Term → (more : Term) → Bool
would_help hyps goal more = is_some (suggested (hyps ++ more ∷ []) goal)

-- whether a memory is found that breaks the entailment, were all these known too
abbrev pub is_hopeless : List Term → Term → (more : List Term) → Bool
is_hopeless hyps goal more = is_some (counterexample (hyps ++ more) goal)

-- With one predicate more there is a certificate of the class of the search that is valid.
pub record IsEnough (hyps : List Term) (goal more : Term) : Type 0 where
  pub cert : Cert
  pub found : IsFound MOST_DEPTH (hyps ++ more ∷ []) goal cert

-- What the code has ---------------------------------------------------------------------------------------------

abbrev pub seen : declared.Finding → Finding
seen (code.Shown c) = shown (view.cert c)
seen (code.Broken m) = broken m
seen code.Neither = neither
