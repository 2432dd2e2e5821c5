-- The pieces that are written are the listing, and the code has one.
use Rattle.std.proofs.Common.{◌≡◌, ℕ, ◌<◌, ◌==◌, ◌||◌, Bool, true, false, if◌then◌else◌, Some, None, All, ◌⊎◌, inl, inr, refl, List, ◌++◌, length, map, flat_map, get_or, codes, ap, sym, ◌∙◌, append_assoc}
use Rattle.std.proofs.lemmas.Bool.{or_cases, eqb-true, leb-true}
use Rattle.std.proofs.lemmas.Grind.{flat_map-append}
use Rattle.std.proofs.lemmas.List.Folds.{flat_map-map}
use Rattle.std.proofs.lemmas.List.{get_or_default}
use Rattle.std.proofs.lemmas.Option.{slice_get-get_or}
use Rattle.risc_machine.specs.Faults.{AreGood}
use Rattle.risc_machine.specs.declared.parts.Line.{Line}
use Rattle.risc_machine.specs.declared.parts.Parts.{Parts}
use Rattle.risc_machine.specs.declared.parts.ThreadCode.{ThreadCode}
use Rattle.cov_expr.specs.Names.{IsName}
use Rattle.risc_machine.specs.declared.parts.CodeBad.TheVariants as bad
use Rattle.risc_machine.proofs.StepLaws.{line_good, none_left}
use Rattle.code_text.specs.Inside.SpelledLines.{IsOfWords}
use Rattle.code_text.specs.Listing.{declared, head, spelled, listing, thread_rows, IsListed, IsSpelled}

pub good_lines : (p : Parts) → AreGood p → (k : ℕ) (d : ThreadCode) → k < length p.threads → (i : ℕ) (e : Line) → i < length (get_or p.threads k d).lines
    → IsSpelled p.vars p.locks (get_or (get_or p.threads k d).lines i e)
good_lines p good k d inside i e within =
    let passed = line_good p k (get_or p.threads k d) inside (get_or_default p.threads k d (get_or p.threads k d) inside) good i (get_or (get_or p.threads k d).lines i e) (slice_get-get_or (get_or p.threads k d).lines i e within) in
    record { registers = passed.registers; variable = passed.variable; lock = passed.lock }

version_good : (p : Parts) → AreGood p → (p.version ≡ 1) ⊎ (p.version ≡ 2)
version_good p good = by (p.version == 1 || p.version == 2) refl (none_left _ _ good.faultless)
  where
    by : (b : Bool) → (p.version == 1 || p.version == 2) ≡ b → (if b then None else Some (bad.BadVersion p.version)) ≡ None → (p.version ≡ 1) ⊎ (p.version ≡ 2)
    by true e h = elim (or_cases (p.version == 1) (p.version == 2) e) [ inl f ↦ inl (eqb-true p.version 1 f) | inr f ↦ inr (eqb-true p.version 2 f) ]
    by false e h = absurd cc

-- Code whose names are names and whose numbers are words has a listing.
pub code_listed : (p : Parts) → AreGood p → All IsName p.vars → All IsName p.locks → All IsOfWords p.threads → IsListed p
code_listed p good vars locks words = record {
  version = version_good p good;
  vars = vars;
  locks = locks;
  threads = λ k d inside. record {
    name = (words k d inside).0;
    count = good.counted.lines k d inside;
    lines = λ i e within.
        let passed = line_good p k (get_or p.threads k d) inside (get_or_default p.threads k d (get_or p.threads k d) inside) good i (get_or (get_or p.threads k d).lines i e) (slice_get-get_or (get_or p.threads k d).lines i e within) in
        record {
          weight = leb-true _ 2 passed.weight;
          instr = record { registers = passed.registers; variable = passed.variable; lock = passed.lock; output = passed.output; words = (words k d inside).1 i e within };
        };
  };
}

regroup : (h a b c : List ℕ) → ((h ++ a) ++ b) ++ c ≡ h ++ ((a ++ b) ++ c)
regroup h a b c = simp append_assoc

behind : (old h a b c : List ℕ) → (((old ++ h) ++ a) ++ b) ++ c ≡ old ++ (((h ++ a) ++ b) ++ c)
behind old h a b c = simp append_assoc

names_are : (word : List ℕ) (names : List (List ℕ)) → flat_map (λ n. spelled (declared word n)) names ≡ flat_map spelled (map (declared word) names)
names_are word names = sym (flat_map-map spelled (declared word) names)

module _ (p : Parts) where
  abbrev all_threads : List (List (List ℕ))
  all_threads = flat_map (thread_rows p.vars p.locks) p.threads

  abbrev vars : List (List (List ℕ))
  vars = map (declared (codes "var")) p.vars

  abbrev locks : List (List (List ℕ))
  locks = map (declared (codes "lock")) p.locks

  list_is : ((spelled (head p.version) ++ flat_map (λ n. (codes "var " ++ n) ++ codes "\n") p.vars) ++ flat_map (λ n. (codes "lock " ++ n) ++ codes "\n") p.locks)
      ++ flat_map spelled all_threads ≡ listing p
  list_is =
      ap (λ x. ((spelled (head p.version) ++ x) ++ flat_map (λ n. (codes "lock " ++ n) ++ codes "\n") p.locks) ++ flat_map spelled all_threads) (names_are (codes "var") p.vars)
      ∙ ap (λ x. ((spelled (head p.version) ++ flat_map spelled vars) ++ x) ++ flat_map spelled all_threads) (names_are (codes "lock") p.locks)
      ∙ regroup (spelled (head p.version)) (flat_map spelled vars) (flat_map spelled locks) (flat_map spelled all_threads)
      ∙ ap (λ x. spelled (head p.version) ++ x) (sym (flat_map-append spelled (vars ++ locks) all_threads ∙ ap (λ x. x ++ flat_map spelled all_threads) (flat_map-append spelled vars locks)))

  pub list_added : (old : List ℕ) → (((old ++ spelled (head p.version)) ++ flat_map (λ n. (codes "var " ++ n) ++ codes "\n") p.vars) ++ flat_map (λ n. (codes "lock " ++ n) ++ codes "\n") p.locks)
      ++ flat_map spelled all_threads ≡ old ++ listing p
  list_added old =
      behind old (spelled (head p.version)) (flat_map (λ n. (codes "var " ++ n) ++ codes "\n") p.vars) (flat_map (λ n. (codes "lock " ++ n) ++ codes "\n") p.locks) (flat_map spelled all_threads)
      ∙ ap (λ x. old ++ x) list_is
