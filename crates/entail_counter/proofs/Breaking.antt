-- What a search comes to is a counterexample.
use Rattle.std.proofs.Common.{◌≡◌, ℕ, zero, suc, ◌==◌, ◌&&◌, ◌||◌, not, nat_lt, ◌^◌, lit<, List, [], ◌∷◌, Bool, true, false, Option, Some, None, refl, sym, ◌∙◌, ap, subst, if◌then◌else◌}
use Rattle.std.specs.List.{list_any}
use Rattle.std.proofs.lemmas.Bool.{eqb-true, eq-eqb, ltb-true}
use Rattle.cov_expr.specs.Entailment.{Holds, AllHold}
use Rattle.cov_expr.specs.Term.{Term, value}
use Rattle.cov_expr.specs.Words.{AreWords, IsWord}
use Rattle.cov_expr.proofs.Tests.{left_true, right_true}
use Rattle.entail_counter.specs.declared.binding.Binding.{Binding}
use Rattle.entail_counter.specs.Counterexamples.{HasBindings, IsCounterexample, put, memory, are_words, does_break, only_breaking, counterexample}
use Rattle.entail_counter.specs.Known.{known}
use Rattle.entail_counter.specs.Searching.{is_zero, is_other, searched}
use Rattle.entail_counter.proofs.Memories.{known_value, own_memory}

-- Words --------------------------------------------------------------------------------------------------------

put_words : (x v : ℕ) (m : List ℕ) → IsWord v → AreWords m → AreWords (put x v m)
put_words zero v [] w ws = (w, tt)
put_words zero v (u ∷ us) w ws = (w, ws.1)
put_words (suc x) v [] w ws = (lit< tt, put_words x v [] w tt)
put_words (suc x) v (u ∷ us) w ws = (ws.0, put_words x v us w ws.1)

memory_words : (m : List Binding) → are_words m ≡ true → AreWords (memory m)
memory_words [] h = tt
memory_words (b ∷ bs) h =
    put_words b.variable b.value (memory bs) (ltb-true b.value (2 ^ 32) (left_true (nat_lt b.value (2 ^ 32)) (are_words bs) h))
    (memory_words bs (right_true (nat_lt b.value (2 ^ 32)) (are_words bs) h))

-- Values -------------------------------------------------------------------------------------------------------

module _ (m : List Binding) (n : List ℕ) (has : HasBindings m n) where
  is_false : (e : Term) → is_zero (known e m) ≡ true → value e n ≡ 0
  is_false e h = at (known e m) refl h
    where
      at : (o : Option ℕ) → known e m ≡ o → is_zero o ≡ true → value e n ≡ 0
      at None i j = let c : false ≡ true = j in cc
      at (Some v) i j = known_value e m n has v i ∙ eqb-true v 0 j

  is_true : (e : Term) → is_other (known e m) ≡ true → Holds e n
  is_true e h = at (known e m) refl h
    where
      at : (o : Option ℕ) → known e m ≡ o → is_other o ≡ true → Holds e n
      at None i j = let c : false ≡ true = j in cc
      at (Some v) i j = λ z. let same : (v == 0) ≡ true = eq-eqb v 0 (sym (known_value e m n has v i) ∙ z) in let c : not true ≡ true = sym (ap not same) ∙ j in cc

  all_true : (hyps : List Term) → not (list_any (λ h. not (is_other (known h m))) hyps) ≡ true → AllHold hyps n
  all_true [] h = tt
  all_true (e ∷ es) h = at (is_other (known e m)) refl (all_true es) h
    where
      at : (t : Bool) → is_other (known e m) ≡ t → (not (list_any (λ h. not (is_other (known h m))) es) ≡ true → AllHold es n) → not (not t || list_any (λ h. not (is_other (known h m))) es) ≡ true → AllHold (e ∷ es) n
      at true i rest j = (is_true e i, rest j)
      at false i rest j = let c : false ≡ true = j in cc

  does : (hyps : List Term) (goal : Term) → AreWords n → does_break hyps goal m ≡ true → IsCounterexample hyps goal n
  does hyps goal words breaks =
      let others = not (list_any (λ h. not (is_other (known h m))) hyps) in
      record {
        words = words;
        hold = all_true hyps (right_true (is_zero (known goal m)) others breaks);
        fails = is_false goal (left_true (is_zero (known goal m)) others breaks);
      }

-- what the last test lets through
passes : (hyps : List Term) (goal : Term) (o : Option (List Binding)) (m : List Binding)
    → only_breaking hyps goal o ≡ Some m → are_words m && does_break hyps goal m ≡ true
passes hyps goal None m h = cc
passes hyps goal (Some k) m h = at (are_words k && does_break hyps goal k) refl h
  where
    at : (t : Bool) → (are_words k && does_break hyps goal k) ≡ t → (if t then Some k else None) ≡ Some m → are_words m && does_break hyps goal m ≡ true
    at true i j = let same : k ≡ m = cc in subst (λ l. are_words l && does_break hyps goal l ≡ true) same i
    at false i j = cc

pub found_breaks_each : (hyps : List Term) (goal : Term) (m : List Binding) → counterexample hyps goal ≡ Some m
    → (n : List ℕ) → AreWords n → HasBindings m n → IsCounterexample hyps goal n
unfolding counterexample
found_breaks_each hyps goal m h n words has =
    does m n has hyps goal words (right_true (are_words m) (does_break hyps goal m) (passes hyps goal (searched hyps goal) m h))

pub found_breaks : (hyps : List Term) (goal : Term) (m : List Binding) → counterexample hyps goal ≡ Some m → IsCounterexample hyps goal (memory m)
unfolding counterexample
found_breaks hyps goal m h =
    let words = left_true (are_words m) (does_break hyps goal m) (passes hyps goal (searched hyps goal) m h) in
    does m (memory m) (own_memory m) hyps goal (memory_words m words)
    (right_true (are_words m) (does_break hyps goal m) (passes hyps goal (searched hyps goal) m h))
