-- The entailments of a program for which the search finds nothing, as a walk over the program meets them.
use Rattle.std.specs.Prelude.{ℕ, ◌&&◌, List, map, filter, flat_map, Bool, not, is_none}
use Rattle.cov_ast.specs.Syntax.{Block, Program}
use Rattle.mode_compat.specs.Compatible.{numbered, threads_of}
use Rattle.typing_law.specs.ThreadEntailments.{PlacedEntailment, is_proved_in, thread_entailments}
use Rattle.annotate.specs.Annotated.{open_of, searched}
use Rattle.annotate.specs.declared.outcome.Open.{Open}

-- whether an entailment of a body has no valid certificate, and none is found
abbrev pub is_not_found : (depth : ℕ) → Block → PlacedEntailment → Bool
is_not_found depth body g = not (is_proved_in body g) && is_none (searched depth g)

-- those listed of a thread
abbrev pub not_found_in_thread : (depth : ℕ) → Program → (t : ℕ) → List PlacedEntailment
not_found_in_thread depth p t = filter (is_not_found depth (numbered p t).body) (thread_entailments p t)

-- those of a program, thread by thread, in the order in which they are tried
abbrev pub not_found : (depth : ℕ) → Program → List Open
not_found depth p = flat_map (λ t. map (open_of t) (not_found_in_thread depth p t)) (threads_of p)
