-- What a replacement makes of each kind of expression, and when it doesn't matter.
use Rattle.std.proofs.Common.{◌≡◌, ℕ, ◌==◌, List, [], ◌∷◌, ◌++◌, Bool, true, false, ◌&&◌, ◌||◌, Option, Some, None, refl, sym, ◌∙◌}
use Rattle.std.specs.List.{list_any}
use Rattle.std.proofs.lemmas.Bool.{or_parts}
use Rattle.std.proofs.lemmas.List.Folds.{list_any-append}
use Rattle.cov_expr.specs.declared.expr.Op.TheVariants.{Both}
use Rattle.cov_expr.specs.declared.expr.TheConstants.{HOLE}
use Rattle.cov_expr.specs.Term.{Term, const, var, neg, bin}
use Rattle.cov_expr.specs.Trees.{same, is_closed, conjuncts, has_conjunct}
use Rattle.cov_expr.proofs.Trees.{same_is, has_term_append}
use Rattle.cov_ast.specs.Syntax.{Cert}
use Rattle.entail_cert.specs.Valid.{is_false, negated}
use Rattle.cert_search.specs.Classes.{is_within}
use Rattle.cert_search.specs.Inside.Replaced.{replaced}
use Rattle.cert_search.specs.Inside.Relevance.{is_bound, is_compared, touches, denies, are_opposite, is_opposed, matters}
use Rattle.cert_search.specs.Searching.{only_where, leaf, by_lemma, search}
use Rattle.cert_search.proofs.Irrelevant.{or_false, false_of_both, same_swap, touches_both, leaf_irrelevant}
use Rattle.cert_search.proofs.Choices.{none_some}

pub replaced_there : (y x : ℕ) (e : Term) → (y == x || y == HOLE) ≡ true → replaced (var y) x e ≡ e
replaced_there y x e h = at (y == x) refl
  where
    at : (b : Bool) → (y == x) ≡ b → replaced (var y) x e ≡ e
    at true i = rw i refl
    at false i = let j : (y == HOLE) ≡ true = (rw i at h) in rw (i, j) refl

pub replaced_elsewhere : (y x : ℕ) (e : Term) → (y == x || y == HOLE) ≡ false → replaced (var y) x e ≡ var y
replaced_elsewhere y x e h = let p = or_parts (y == x) (y == HOLE) h in rw (p.0, p.1) refl

pub ruleset replaced_rules = (replaced_there, replaced_elsewhere)

pub conjunct_both : (a b c : Term) → has_conjunct (bin Both a b) c ≡ (has_conjunct a c || has_conjunct b c)
conjunct_both a b c = has_term_append (conjuncts a) (conjuncts b) c

pub ruleset conjunct_rules = (replaced_there, replaced_elsewhere, conjunct_both)

pub ruleset touches_rules = (touches_both)

pub denies_some : (f a m : Term) → Some a ≡ negated f → denies f m ≡ same m a
denies_some (neg b) a m h = let i : a ≡ b = cc in rw (same_swap b m, i) refl
denies_some (const k) a m h = none_some (false ≡ same m a) a (sym h)
denies_some (var x) a m h = none_some (false ≡ same m a) a (sym h)
denies_some (bin op b c) a m h = none_some (false ≡ same m a) a (sym h)

pub denies_none : (f m : Term) → None ≡ negated f → denies f m ≡ false
denies_none (neg b) m h = none_some (same b m ≡ false) b h
denies_none (const k) m h = refl
denies_none (var x) m h = refl
denies_none (bin op b c) m h = refl

pub ruleset denied_rules = (denies_some, denies_none)

-- no expression is its own negation
not_itself : (a : Term) → a ≡ neg a → ⊥
not_itself (const k) h = cc
not_itself (var x) h = cc
not_itself (bin op a b) h = cc
not_itself (neg a) h = let i : a ≡ neg a = cc in not_itself a i

no_denial : (f : Term) → denies f f ≡ false
no_denial (const k) = refl
no_denial (var x) = refl
no_denial (bin op a b) = refl
no_denial (neg a) = at (same a (neg a)) refl
  where
    at : (b : Bool) → same a (neg a) ≡ b → same a (neg a) ≡ false
    at true i = absurd (not_itself a (same_is a (neg a) i))
    at false i = i

open_not_false : (f : Term) → is_closed f ≡ false → is_false f ≡ false
open_not_false f h = rw h refl

replaced_matters : (hyps : List Term) (f goal : Term) → is_closed f ≡ false → touches (f ∷ []) goal ≡ false → (is_compared goal && is_bound f) ≡ false
    → list_any (are_opposite f) hyps ≡ false → matters (hyps ++ f ∷ []) (f ∷ []) goal ≡ false
replaced_matters hyps f goal c t b o =
    false_of_both (list_any is_false (f ∷ []) || touches (f ∷ []) goal || (is_compared goal && list_any is_bound (f ∷ []))) (is_opposed (hyps ++ f ∷ []) (f ∷ []))
    (false_of_both (list_any is_false (f ∷ []) || touches (f ∷ []) goal) (is_compared goal && list_any is_bound (f ∷ []))
    (false_of_both (list_any is_false (f ∷ [])) (touches (f ∷ []) goal) (or_false (is_false f) ∙ open_not_false f c) t)
    (bounded (is_compared goal) (is_bound f) b))
    (or_false (list_any (are_opposite f) (hyps ++ f ∷ [])) ∙ opposed)
  where
    bounded : (a b : Bool) → (a && b) ≡ false → (a && (b || false)) ≡ false
    bounded true b h = or_false b ∙ h
    bounded false b h = h

    itself : are_opposite f f ≡ false
    itself = false_of_both (denies f f) (denies f f) (no_denial f) (no_denial f)

    opposed : list_any (are_opposite f) (hyps ++ f ∷ []) ≡ false
    opposed =
        list_any-append (are_opposite f) hyps (f ∷ [])
        ∙ false_of_both (list_any (are_opposite f) hyps) (are_opposite f f || false) o (or_false (are_opposite f f) ∙ itself)

pub replaced_irrelevant : (hyps : List Term) (f goal : Term) (a b c d : Bool) → a ≡ is_closed f → b ≡ touches (f ∷ []) goal → c ≡ (is_compared goal && is_bound f)
    → d ≡ list_any (are_opposite f) hyps → (a || b || c || d) ≡ false → matters (hyps ++ f ∷ []) (f ∷ []) goal ≡ false
replaced_irrelevant hyps f goal a b c d p q r s h =
    let i = or_parts (a || b || c) d h in
    let j = or_parts (a || b) c i.0 in
    let k = or_parts a b j.0 in
    replaced_matters hyps f goal (sym p ∙ k.0) (sym q ∙ k.1) (sym r ∙ j.1) (sym s ∙ i.1)

where_nothing : (t : Bool) (o : Option Cert) → o ≡ None → only_where t o ≡ None
where_nothing true o h = h
where_nothing false o h = refl

-- a replacement that doesn't matter leads to no leaf
pub lemma_irrelevant : (d : ℕ) (hyps : List Term) (goal : Term) (i x : ℕ) (e : Term) (j : ℕ) (h : Term) → d ≡ 0 → leaf hyps goal ≡ None
    → matters (hyps ++ replaced h x e ∷ []) (replaced h x e ∷ []) goal ≡ false → by_lemma (search d) hyps goal i x e j h ≡ None
lemma_irrelevant d hyps goal i x e j h z n m =
    let l : leaf (hyps ++ replaced h x e ∷ []) goal ≡ None = leaf_irrelevant hyps (replaced h x e ∷ []) goal n m in
    where_nothing _ _ (where_nothing (is_within (replaced h x e)) _ (rw (z, l) refl))

pub lemma_irrelevant_at : (d : ℕ) (hyps : List Term) (goal : Term) (i x : ℕ) (e : Term) (j : ℕ) (h : Term) → d ≡ 0 → search d hyps goal ≡ None
    → matters (hyps ++ replaced h x e ∷ []) (replaced h x e ∷ []) goal ≡ false → by_lemma (search d) hyps goal i x e j h ≡ None
lemma_irrelevant_at d hyps goal i x e j h z n m = lemma_irrelevant d hyps goal i x e j h z (rw z at n) m
