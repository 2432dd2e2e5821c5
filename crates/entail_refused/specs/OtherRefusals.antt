-- The other entailments for which a thread would be refused by V9, and those for which the threads behind it would be: one without a valid certificate changes nothing of
-- what is known behind it, and a thread nothing of what has to hold of another. In front of all these stands, of each of these threads, its first refusal by a rule that
-- isn't about certificates: no certificate mends it.
use Rattle.std.specs.Prelude.{ℕ, ◌+◌, ◌==◌, nat_lt, List, [], ◌∷◌, ◌++◌, length, map, filter, Bool, not, ◌&&◌, Option, Some, None, if◌then◌else◌}
use Rattle.cov_ast.specs.Obligations.{all_hold, first_false}
use Rattle.cov_ast.specs.Syntax.{Block, Program, Thread}
use Rattle.cov_ast.specs.declared.refusal.Detail.{Detail}
use Rattle.cov_ast.specs.declared.refusal.Detail.TheVariants.{Number}
use Rattle.cov_ast.specs.declared.refusal.Refusal.{Refusal}
use Rattle.cov_ast.specs.declared.refusal.Rule.{Rule}
use Rattle.cov_ast.specs.declared.refusal.Rule.TheVariants.{V9, V13}
use Rattle.mode_compat.specs.Compatible.{numbered}
use Rattle.mode_compat.specs.Declared.{declaration_obligations}
use Rattle.typing_law.specs.ThreadEntailments.{PlacedEntailment, is_proved_in, thread_entailments}
use Rattle.typing_rules.specs.Beside.{beside_certificates}

-- the refusal of an entailment of a thread, with a number at a place
abbrev pub refusal_at : (t place number : ℕ) → Refusal
refusal_at t place number = record { rule = V9; thread = Some t; place = place; detail = Number number }

-- whether an entailment of a body has no valid certificate, and isn't the one with a number at a place
abbrev pub is_other : Block → (place number : ℕ) → PlacedEntailment → Bool
is_other body place number g = not (is_proved_in body g) && not (g.place == place && g.number == number)

-- those of a thread without a valid certificate, in the order in which they are tried, but for that one
abbrev pub others_in : Program → (t place number : ℕ) → List Refusal
others_in p t place number =
    map (λ g. refusal_at t g.place g.number) (filter (is_other (numbered p t).body place number) (thread_entailments p t))

-- a refusal, if there is one
abbrev pub if_any : Option Refusal → List Refusal
if_any None = []
if_any (Some r) = r ∷ []

-- the first refusal of a thread by a rule that isn't about certificates, if it stands at a number or behind that
abbrev pub if_beside : Program → (t u : ℕ) → List Refusal
if_beside p t u = if nat_lt u t then [] else if_any (first_false (beside_certificates p u))

-- the same of threads, of which the first has this number
abbrev pub beside_among : Program → (t u : ℕ) → List Thread → List Refusal
beside_among p t u [] = []
beside_among p t u (thread ∷ threads) = if_beside p t u ++ beside_among p t (u + 1) threads

-- the entailments of a thread without a valid certificate, if it stands behind another; no entailment has the number 0
abbrev pub if_later : Program → (t u : ℕ) → List Refusal
if_later p t u = if nat_lt t u then others_in p u 0 0 else []

-- the same of threads, of which the first has this number
abbrev pub later_among : Program → (t u : ℕ) → List Thread → List Refusal
later_among p t u [] = []
later_among p t u (thread ∷ threads) = if_later p t u ++ later_among p t (u + 1) threads

-- what fails of a thread and of those behind it by another rule, then the entailments of the thread, and then those of the threads behind it
abbrev pub others_onward : Program → (t place number : ℕ) → List Refusal
others_onward p t place number = beside_among p t 0 p.threads ++ others_in p t place number ++ later_among p t 0 p.threads

-- the same, where the declarations keep the rules
abbrev pub others_declared : Program → (t place number : ℕ) → List Refusal
others_declared p t place number = if all_hold (declaration_obligations p) then others_onward p t place number else []

-- the same, where the program has so many threads
abbrev pub others_of : Program → (t place number : ℕ) → List Refusal
others_of p t place number = if nat_lt t (length p.threads) then others_declared p t place number else []

-- beside the entailment that a refusal names by its thread, its place and its number
abbrev pub others_behind : Program → (thread : Option ℕ) → (place : ℕ) → Detail → List Refusal
others_behind p (Some t) place (Number n) = others_of p t place n
others_behind p thread place detail = []

-- beside a refusal for a rule: of V9, those; and of V13, which says that numbers of certificates are wrong, all of its thread, since no entailment has the number 0
abbrev pub others_by : Program → Rule → (thread : Option ℕ) → (place : ℕ) → Detail → List Refusal
others_by p V9 thread place detail = others_behind p thread place detail
others_by p V13 thread place detail = others_behind p thread 0 (Number 0)
others_by p rule thread place detail = []

abbrev pub other_refusals : Program → Refusal → List Refusal
other_refusals p r = others_by p r.rule r.thread r.place r.detail
