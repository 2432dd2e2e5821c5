-- Words of private contracts: what is said of threads is small enough for a sum.
use Rattle.std.specs.Prelude.{◌<◌, List, All}
use Rattle.thread_swap.specs.Judges.{Said, most_said}
use Rattle.thread_swap.specs.Swaps.{entailments_said, statements_said}

-- Each number of the counts that are said is small enough for a sum over threads.
abbrev pub AreSmall : List Said → Type 0
AreSmall all = All (λ said. (statements_said said < most_said) × (entailments_said said < most_said)) all
