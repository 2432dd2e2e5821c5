-- An expression that is shown to hold nowhere is 0 in each memory of words.
use Rattle.std.proofs.Common.{◌≡◌, ◌≢◌, ℕ, zero, suc, ◌&&◌, List, [], ◌∷◌, ◌++◌, true, false, Option, Some, None, is_some, refl, sym, ◌∙◌, inl, inr, true≢false}
use Rattle.std.proofs.lemmas.Bool.{and_parts, or_cases}
use Rattle.std.specs.List.{list_any}
use Rattle.cert_search.specs.Classes.{is_leaf}
use Rattle.cert_search.specs.Searching.{search}
use Rattle.cert_search.proofs.Sound.{search_sound}
use Rattle.cov_ast.specs.Syntax.{Cert}
use Rattle.cov_ast.specs.Syntax as by
use Rattle.cov_expr.specs.declared.expr.Op.TheVariants.{Both}
use Rattle.cov_expr.specs.Entailment.{AllHold, Holds}
use Rattle.cov_expr.specs.Term.{Term, const, bin, value, flag, is_set}
use Rattle.cov_expr.specs.Trees.{conjuncts}
use Rattle.cov_expr.specs.Words.{AreWords}
use Rattle.entail_cert.specs.Inside.Findings.{InstancesHaveWords}
use Rattle.entail_cert.proofs.Instances.{walked_entails}
use Rattle.entail_cert.specs.WordTests.{is_of_words}
use Rattle.entail_cert.proofs.Truth.{words_of}
use Rattle.entail_range.specs.declared.interval.Bound.{Bound}
use Rattle.entail_range.specs.declared.interval.Bound.TheVariants.{Empty, Within}
use Rattle.entail_range.specs.Intervals.{IsIn}
use Rattle.entail_range.specs.Range.{bound}
use Rattle.entail_range.proofs.Sound.{bound_sound}
use Rattle.explain.specs.HoldsNowhere.{deny_each_other, has_no_value, holds_nowhere, is_empty}

-- a leaf of the search has no instance of an axiom
leaf_words : (c : Cert) → is_leaf c ≡ true → InstancesHaveWords c
leaf_words by.auto h = tt
leaf_words by.reflexive h = tt
leaf_words by.ring h = tt
leaf_words by.range h = tt
leaf_words (by.absurdity i j) h = tt
leaf_words _ h = let wrong : false ≡ true = h in cc

both_set : (a b : ℕ) → flag (is_set a && is_set b) ≢ 0 → (a ≢ 0) × (b ≢ 0)
both_set zero b h = absurd (h refl)
both_set (suc a) zero h = absurd (h refl)
both_set (suc a) (suc b) h = ((λ z. cc), (λ z. cc))

module _ (m : List ℕ) where
  joined : (xs ys : List Term) → AllHold xs m → AllHold ys m → AllHold (xs ++ ys) m
  joined [] ys h k = k
  joined (x ∷ xs) ys h k = (h.0, joined xs ys h.1 k)

  parts : (e : Term) → Holds e m → AllHold (conjuncts e) m
  parts (bin Both a b) h =
      let both = both_set (value a m) (value b m) h in
      joined (conjuncts a) (conjuncts b) (parts a both.0) (parts b both.1)
  parts _ h = (h, tt)

-- an expression of a list
some_denied : (hyps hs : List Term) (m : List ℕ) → AreWords m → AllHold hyps m → list_any (has_no_value hyps) hs ≡ true → ⊥
some_denied hyps [] m w k h = true≢false (sym h)
some_denied hyps (e ∷ es) m w k h =
    elim (or_cases (has_no_value hyps e) (list_any (has_no_value hyps) es) h) [
      | inl i ↦
          let tests = and_parts (is_of_words e) (is_empty (bound hyps e)) i in
          none (bound hyps e) (value e m) tests.1 (bound_sound m w hyps k e (words_of e tests.0))
      | inr i ↦ some_denied hyps es m w k i
    ]
  where
    none : (b : Bound) (v : ℕ) → is_empty b ≡ true → IsIn b v → ⊥
    none Empty v i is = is
    none (Within low high) v i is = true≢false (sym i)

-- what a certificate shows
none_shown : (hyps : List Term) (m : List ℕ) → AreWords m → AllHold hyps m → is_some (search 0 hyps (const 0)) ≡ true → ⊥
none_shown hyps m w k h = at (search 0 hyps (const 0)) refl h
  where
    at : (o : Option Cert) → search 0 hyps (const 0) ≡ o → is_some o ≡ true → ⊥
    at None i j = true≢false (sym j)
    at (Some c) i j =
        let sound = search_sound 0 hyps (const 0) c i in
        walked_entails hyps (const 0) c sound.free (leaf_words c sound.passes) m w k refl

never : (hyps : List Term) (m : List ℕ) → AreWords m → deny_each_other hyps ≡ true → AllHold hyps m → ⊥
never hyps m w h k =
    elim (or_cases (list_any (has_no_value hyps) hyps) (is_some (search 0 hyps (const 0))) h) [
      | inl i ↦ some_denied hyps hyps m w k i
      | inr i ↦ none_shown hyps m w k i
    ]

pub nowhere_zero : (e : Term) (m : List ℕ) → AreWords m → holds_nowhere e ≡ true → value e m ≡ 0
unfolding holds_nowhere
nowhere_zero e m w h = at (value e m) refl
  where
    at : (v : ℕ) → value e m ≡ v → value e m ≡ 0
    at zero i = i
    at (suc v) i = absurd (never (conjuncts e) m w h (parts m e (λ z. let wrong : suc v ≡ 0 = sym i ∙ z in cc)))
