-- What is remarked on the hypotheses of an entailment for which a program is refused: where each comes from.
use Rattle.std.specs.Prelude.{ℕ, ◌-◌, List, [], length, slice_get, take, if◌then◌else◌, Option, Some, None}
use Rattle.cov_expr.specs.Term.{Term}
use Rattle.cov_ast.specs.Plain.{Plain}
use Rattle.entail_origins.specs.declared.kinds.Question.{Question}
use Rattle.entail_origins.specs.AskedHypotheses.{asks_more}
use Rattle.entail_origins.specs.Remarks.{remarks}
use Rattle.entail_refused.specs.Sites.{Site}

-- the hypotheses that are known: all but the one that is asked with the goal, which is the last
abbrev pub known_of : Question → (hypotheses : List Term) → List Term
known_of question hypotheses = if asks_more question then take (length hypotheses - 1) hypotheses else hypotheses

-- the one that is asked with the goal, if there is one
abbrev pub asked_of : Question → (hypotheses : List Term) → Option Term
asked_of question hypotheses = if asks_more question then slice_get hypotheses (length hypotheses - 1) else None

-- what is remarked on each hypothesis of what is asked somewhere, in the text of the program
abbrev pub remarks_at : Plain → (bytes : List ℕ) → Site → (hypotheses : List Term) → List (List ℕ)
remarks_at p bytes s hypotheses = remarks p bytes s.steps (asks_more s.question) hypotheses

-- nothing where it isn't known where that is
abbrev pub remarks_on : Plain → (bytes : List ℕ) → Option Site → (hypotheses : List Term) → List (List ℕ)
remarks_on p bytes None hypotheses = []
remarks_on p bytes (Some s) hypotheses = remarks_at p bytes s hypotheses
