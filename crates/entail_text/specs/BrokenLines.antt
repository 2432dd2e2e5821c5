-- What is told of an entailment for which no certificate is found: a memory that breaks it, or that there is none either.
use Rattle.std.specs.Prelude.{ℕ, List, [], ◌∷◌, ◌++◌, codes, decimal, if◌then◌else◌}
use Rattle.cov_expr.specs.Term.{Term, var}
use Rattle.cov_expr.specs.Trees.{is_closed}
use Rattle.cert_search.specs.declared.finder.TheConstants.{MOST_DEPTH}
use Rattle.cov_print.specs.Spelling.{Names, whole, listed}
use Rattle.entail_counter.specs.declared.binding.Binding.{Binding}
use Rattle.entail_text.specs.ZeroGoals.{zero_line}

-- a variable and its value
abbrev pub binding_text : Names → Binding → List ℕ
binding_text names b = whole names (var b.variable) ++ codes " = " ++ decimal b.value

-- those of a memory, with commas between
abbrev pub memory_text : Names → List Binding → List ℕ
memory_text names [] = codes "each memory"
memory_text names (b ∷ bs) = listed (binding_text names) (b ∷ bs)

-- what would have to be otherwise, by whether the goal has a variable
abbrev pub wanted : (goal : Term) → List ℕ
wanted goal = if is_closed goal then codes "a type says more, more is known here, or less is asked" else codes "more is known here, as by a test around it, or less is asked"

abbrev pub broken_lines : Names → (goal : Term) → List Binding → List ℕ
broken_lines names goal m =
    codes "  breaks it:    " ++ (memory_text names m ++ (codes "   (all hypotheses hold there, and the goal doesn't: no certificate can show it, unless " ++ (wanted goal ++ codes ")\n")))

-- that neither is found
abbrev pub neither_line : List ℕ
neither_line =
    codes "  suggestion:   none: no certificate of up to " ++ decimal MOST_DEPTH ++ codes " steps is valid, no longer one was found, and no memory that breaks it\n"

abbrev pub neither_lines : (goal : Term) → List ℕ
neither_lines goal = neither_line ++ zero_line goal
