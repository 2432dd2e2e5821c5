-- How many statements and entailments a thread has, and what is answered about its obligations.
use Rattle.std.specs.Prelude.{◌≡◌, ℕ, List, length, count_by, Bool, true, false, None, Result, Ok, Err}
use Rattle.cov_ast.specs.Syntax.{Program}
use Rattle.cov_ast.specs.Obligations.{Obligation, Decides, first_false}
use Rattle.cov_ast.specs.WellFormed.{places}
use Rattle.cov_ast.specs.declared.refusal.CheckFault.{CheckFault}
use Rattle.cov_ast.specs.declared.refusal.Rule.{Rule}
use Rattle.cov_ast.specs.declared.refusal.Rule.TheVariants.{W1, W2, W3, W4, W5, W6, W7, W8, W9, V1, V2, V3, V4, V5, V6, V7, V8, V9, V10, V11, V12, V13, V14, V15, V16}
use Rattle.mode_compat.specs.Compatible.{numbered}
use Rattle.typing_law.specs.ThreadObligations.{thread_obligations}
use Rattle.typing_law.specs.declared.count.Count.{Count}

-- whether a rule asks that something follows
abbrev pub is_entailment : Rule → Bool
is_entailment W1 = false
is_entailment W2 = false
is_entailment W3 = false
is_entailment W4 = false
is_entailment W5 = false
is_entailment W6 = false
is_entailment W7 = false
is_entailment W8 = false
is_entailment W9 = false
is_entailment V1 = false
is_entailment V2 = false
is_entailment V3 = false
is_entailment V4 = false
is_entailment V5 = false
is_entailment V6 = false
is_entailment V7 = false
is_entailment V8 = false
is_entailment V9 = true
is_entailment V10 = false
is_entailment V11 = false
is_entailment V12 = false
is_entailment V13 = false
is_entailment V14 = false
is_entailment V15 = false
is_entailment V16 = false

-- how many of the obligations ask that something follows
abbrev pub entailment_count : List Obligation → ℕ
entailment_count obligations = count_by (λ e. is_entailment e.refusal.rule) obligations

-- nested statements and notes count too
abbrev pub counts : Program → (t : ℕ) → Count
counts p t = record {
  statements = length (places (numbered p t).body);
  entailments = entailment_count (thread_obligations p t);
}

-- All obligations hold, and this is how many there are; or this is the first that doesn't hold, unless memory ran out.
abbrev pub DecidesWith : List Obligation → Count → Result Count CheckFault → Type 0
DecidesWith obligations counted (Ok count) = (first_false obligations ≡ None) × (count ≡ counted)
DecidesWith obligations counted (Err fault) = Decides obligations (Err fault)
