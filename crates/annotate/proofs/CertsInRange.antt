-- Certificates of a class have variables in range and words, where hypotheses and goal do.
use Rattle.std.proofs.Common.{◌≡◌, ◌⊎◌, inl, inr, ℕ, zero, suc, ◌<◌, ◌==◌, ◌&&◌, ◌||◌, not, List, [], ◌∷◌, ◌++◌, Bool, true, false, if◌then◌else◌, Option, Some, None, refl, sym, ap, ◌∙◌, subst, true≢false, slice_get, All, arith}
use Rattle.std.proofs.lemmas.Bool.{and_parts}
use Rattle.std.proofs.lemmas.List.Elements.{All-cons, All-head, All-nil, All-tail}
use Rattle.cov_expr.specs.declared.expr.Op.{Op}
use Rattle.cov_expr.specs.declared.expr.Op.TheVariants.{Eq, Both, Either}
use Rattle.cov_expr.specs.declared.expr.TheConstants.{HOLE}
use Rattle.cov_expr.specs.Term.{Term, const, var, neg, bin}
use Rattle.cov_expr.specs.Trees.{mentions, op_number, same}
use Rattle.cov_expr.specs.Trees as trees
use Rattle.cov_expr.specs.Words.{HasVarsBelow, HasWords, IsWord}
use Rattle.cov_expr.proofs.Trees.{same_is}
use Rattle.cov_ast.specs.Syntax.{Cert}
use Rattle.cov_ast.specs.Syntax as by
use Rattle.cov_ast.specs.WellFormed.{CertHasWords, IsCertInRange, IsTemplateBelow}
use Rattle.entail_cert.specs.Axioms.{numbered}
use Rattle.entail_cert.specs.Valid.{filled, is_some_and, operands, operands_of}
use Rattle.cert_search.specs.Classes.{definition_in, hypothesis_named, is_in_class, is_lemma, is_of_another, is_step, is_within, of_sides, opened, replacement, variable_and_side}

-- Expressions --------------------------------------------------------------------------------------------------

-- each number is a word, and each variable one and below a bound
abbrev pub IsInRangeOfWords : ℕ → Term → Type 0
IsInRangeOfWords n (const k) = IsWord k
IsInRangeOfWords n (var x) = (x < n) × IsWord x
IsInRangeOfWords n (neg e) = IsInRangeOfWords n e
IsInRangeOfWords n (bin op a b) = IsInRangeOfWords n a × IsInRangeOfWords n b

-- the same of a template, which may have holes
abbrev IsTemplateInRangeOfWords : ℕ → Term → Type 0
IsTemplateInRangeOfWords n (const k) = IsWord k
IsTemplateInRangeOfWords n (var x) = ((x < n) ⊎ (x ≡ HOLE)) × IsWord x
IsTemplateInRangeOfWords n (neg e) = IsTemplateInRangeOfWords n e
IsTemplateInRangeOfWords n (bin op a b) = IsTemplateInRangeOfWords n a × IsTemplateInRangeOfWords n b

abbrev pub AreInRangeOfWords : ℕ → List Term → Type 0
AreInRangeOfWords n [] = Unit {0}
AreInRangeOfWords n (e ∷ es) = IsInRangeOfWords n e × AreInRangeOfWords n es

module _ (n : ℕ) where
  pub in_range_of : (e : Term) → HasVarsBelow e n → HasWords e → IsInRangeOfWords n e
  in_range_of (const k) h w = w
  in_range_of (var x) h w = (h, w)
  in_range_of (neg e) h w = in_range_of e h w
  in_range_of (bin op a b) h w = (in_range_of a h.0 w.0, in_range_of b h.1 w.1)

  pub below_of : (e : Term) → IsInRangeOfWords n e → HasVarsBelow e n
  below_of (const k) f = tt
  below_of (var x) f = f.0
  below_of (neg e) f = below_of e f
  below_of (bin op a b) f = (below_of a f.0, below_of b f.1)

  pub words_of : (e : Term) → IsInRangeOfWords n e → HasWords e
  words_of (const k) f = f
  words_of (var x) f = f.1
  words_of (neg e) f = words_of e f
  words_of (bin op a b) f = (words_of a f.0, words_of b f.1)

  template_below : (e : Term) → IsTemplateInRangeOfWords n e → IsTemplateBelow e n
  template_below (const k) f = tt
  template_below (var x) f = f.0
  template_below (neg e) f = template_below e f
  template_below (bin op a b) f = (template_below a f.0, template_below b f.1)

  template_words : (e : Term) → IsTemplateInRangeOfWords n e → HasWords e
  template_words (const k) f = f
  template_words (var x) f = f.1
  template_words (neg e) f = template_words e f
  template_words (bin op a b) f = (template_words a f.0, template_words b f.1)

  pub append_in_range : (es fs : List Term) → AreInRangeOfWords n es → AreInRangeOfWords n fs → AreInRangeOfWords n (es ++ fs)
  append_in_range [] fs h k = k
  append_in_range (e ∷ es) fs h k = (h.0, append_in_range es fs h.1 k)

  pub all_in_range : (es : List Term) → All (λ e. HasVarsBelow e n) es → All HasWords es → AreInRangeOfWords n es
  all_in_range [] h w = tt
  all_in_range (e ∷ es) h w =
      (in_range_of e (All-head (λ e. HasVarsBelow e n) e es h) (All-head HasWords e es w), all_in_range es (All-tail (λ e. HasVarsBelow e n) e es h) (All-tail HasWords e es w))

  pub all_below : (es : List Term) → AreInRangeOfWords n es → All (λ e. HasVarsBelow e n) es
  all_below [] f = All-nil (λ e. HasVarsBelow e n)
  all_below (e ∷ es) f = All-cons (λ e. HasVarsBelow e n) e es (below_of e f.0) (all_below es f.1)

  pub all_words : (es : List Term) → AreInRangeOfWords n es → All HasWords es
  all_words [] f = All-nil HasWords
  all_words (e ∷ es) f = All-cons HasWords e es (words_of e f.0) (all_words es f.1)

  opened_in_range : (e : Term) (x : ℕ) → IsInRangeOfWords n e → IsTemplateInRangeOfWords n (opened e x)
  opened_in_range (const k) x f = f
  opened_in_range (var y) x f = go (y == x)
    where
      hole_word : IsWord HOLE
      hole_word = omega arith

      go : (b : Bool) → IsTemplateInRangeOfWords n (if b then var HOLE else var y)
      go true = (inr refl, hole_word)
      go false = (inl f.0, f.1)
  opened_in_range (neg e) x f = opened_in_range e x f
  opened_in_range (bin op a b) x f = (opened_in_range a x f.0, opened_in_range b x f.1)

  filled_in_range : (h e : Term) (x : ℕ) → IsInRangeOfWords n h → IsInRangeOfWords n e → IsInRangeOfWords n (filled (opened h x) e)
  filled_in_range (const k) e x f g = f
  filled_in_range (var y) e x f g = go (y == x)
    where
      inner : (b : Bool) → IsInRangeOfWords n (if b then e else var y)
      inner true = g
      inner false = f

      go : (b : Bool) → IsInRangeOfWords n (filled (if b then var HOLE else var y) e)
      go true = g
      go false = inner (y == HOLE)
  filled_in_range (neg h) e x f g = filled_in_range h e x f g
  filled_in_range (bin op a b) e x f g = (filled_in_range a e x f.0 g, filled_in_range b e x f.1 g)

  pub subst_in_range : (h e : Term) (x : ℕ) → IsInRangeOfWords n h → IsInRangeOfWords n e → IsInRangeOfWords n (trees.subst h x e)
  subst_in_range (const k) e x f g = f
  subst_in_range (var y) e x f g = go (y == x)
    where
      go : (b : Bool) → IsInRangeOfWords n (if b then e else var y)
      go true = g
      go false = f
  subst_in_range (neg h) e x f g = subst_in_range h e x f g
  subst_in_range (bin op a b) e x f g = (subst_in_range a e x f.0 g, subst_in_range b e x f.1 g)

-- Parts --------------------------------------------------------------------------------------------------------

some_and : {A : Type 0} (test : A → Bool) (o : Option A) → is_some_and test o ≡ true → (x : A) × (o ≡ Some x) × (test x ≡ true)
some_and test None h = absurd (true≢false (sym h))
some_and test (Some x) h = (x, refl, h)

module _ (n : ℕ) where
  operands_in_range : (op : Op) (e : Term) (x : Term × Term) → operands op e ≡ Some x → IsInRangeOfWords n e → IsInRangeOfWords n x.0 × IsInRangeOfWords n x.1
  operands_in_range op (const k) x i f = cc
  operands_in_range op (var y) x i f = cc
  operands_in_range op (neg e) x i f = cc
  operands_in_range op (bin o a b) x i f = go (op_number o == op_number op) i
    where
      go : (v : Bool) → (if v then Some (a, b) else None) ≡ Some x → IsInRangeOfWords n x.0 × IsInRangeOfWords n x.1
      go true i = let e : (a, b) ≡ x = cc in subst (λ y. IsInRangeOfWords n y.0 × IsInRangeOfWords n y.1) e f
      go false i = cc

  get_in_range : (es : List Term) (i : ℕ) (h : Term) → slice_get es i ≡ Some h → AreInRangeOfWords n es → IsInRangeOfWords n h
  get_in_range [] i h e f = cc
  get_in_range (g ∷ es) zero h e f = let k : g ≡ h = cc in subst (IsInRangeOfWords n) k f.0
  get_in_range (g ∷ es) (suc i) h e f = get_in_range es i h e f.1

  numbered_in_range : (es : List Term) (i : ℕ) (h : Term) → numbered es i ≡ Some h → AreInRangeOfWords n es → IsInRangeOfWords n h
  numbered_in_range es zero h e f = cc
  numbered_in_range es (suc i) h e f = get_in_range es i h e f

  parts_in_range : (op : Op) (es : List Term) (i : ℕ) (x : Term × Term) → operands_of op (numbered es i) ≡ Some x → AreInRangeOfWords n es → IsInRangeOfWords n x.0 × IsInRangeOfWords n x.1
  parts_in_range op es i x e f = go (numbered es i) refl e
    where
      go : (o : Option Term) → numbered es i ≡ o → operands_of op o ≡ Some x → IsInRangeOfWords n x.0 × IsInRangeOfWords n x.1
      go None j e = cc
      go (Some h) j e = operands_in_range op h x e (numbered_in_range es i h j f)

  side_in_range : (sides : Term × Term) (d : ℕ × Term) → variable_and_side sides.0 sides.1 ≡ Some d → IsInRangeOfWords n sides.1 → IsInRangeOfWords n d.1
  side_in_range sides d e f = go sides.0 e
    where
      go : (l : Term) → variable_and_side l sides.1 ≡ Some d → IsInRangeOfWords n d.1
      go (var x) e = let k : (x, sides.1) ≡ d = cc in subst (λ y. IsInRangeOfWords n y.1) k f
      go (const k) e = cc
      go (neg a) e = cc
      go (bin op a b) e = cc

  definition_in_range : (es : List Term) (i : ℕ) (d : ℕ × Term) → definition_in (numbered es i) ≡ Some d → AreInRangeOfWords n es → IsInRangeOfWords n d.1
  definition_in_range es i d e f = go (operands_of Eq (numbered es i)) refl e
    where
      go : (o : Option (Term × Term)) → operands_of Eq (numbered es i) ≡ o → of_sides o ≡ Some d → IsInRangeOfWords n d.1
      go None j e = cc
      go (Some sides) j e = side_in_range sides d e (parts_in_range Eq es i sides j f).1

-- Certificates -------------------------------------------------------------------------------------------------

module _ (n locks : ℕ) where
  abbrev pub IsCertInRangeOfWords : Cert → Type 0
  IsCertInRangeOfWords c = IsCertInRange n locks c × CertHasWords c

  -- what is proved of children
  abbrev AreChildrenInRangeOfWords : (List Term → Term → Cert → Bool) → Type 0
  AreChildrenInRangeOfWords test = (hyps : List Term) (goal : Term) (c : Cert) → AreInRangeOfWords n hyps → IsInRangeOfWords n goal → test hyps goal c ≡ true → IsCertInRangeOfWords c

  named_in_range : (c : Cert) (j : ℕ) → hypothesis_named c ≡ Some j → IsCertInRangeOfWords c
  named_in_range (by.hyp i) j e = (tt, tt)
  named_in_range _ j e = cc

  module _ (child : List Term → Term → Cert → Bool) (rest : AreChildrenInRangeOfWords child) (hyps : List Term) (goal : Term) (hs : AreInRangeOfWords n hyps) (g : IsInRangeOfWords n goal) where
    -- by the equation of a variable and e, in a hypothesis k
    made_in_range : (f : Term) (i : ℕ) (t : Term) (c d : Cert) (x : ℕ) (e k : Term) → IsInRangeOfWords n k → IsInRangeOfWords n e → t ≡ opened k x → f ≡ filled t e → IsCertInRangeOfWords c
        → child (hyps ++ f ∷ []) goal d ≡ true → IsCertInRangeOfWords (by.have f (by.rev i t c) d)
    made_in_range f i t c d x e k k_in_range e_in_range t_is f_is c_in_range h =
        let t_in_range : IsTemplateInRangeOfWords n t = subst (IsTemplateInRangeOfWords n) (sym t_is) (opened_in_range n k x k_in_range) in
        let f_in_range : IsInRangeOfWords n f = subst (IsInRangeOfWords n) (sym (f_is ∙ ap (λ u. filled u e) t_is)) (filled_in_range n k e x k_in_range e_in_range) in
        let d_in_range = rest (hyps ++ f ∷ []) goal d (append_in_range n hyps (f ∷ []) hs (f_in_range, tt)) g h in (
          (below_of n f f_in_range, (template_below n t t_in_range, c_in_range.0), d_in_range.0),
          (words_of n f f_in_range, (template_words n t t_in_range, c_in_range.1), d_in_range.1),
        )

    -- the hypothesis of a number that an equation replaces in
    hypothesis_in_range : (f : Term) (i : ℕ) (t : Term) (c d : Cert) (x : ℕ) (e : Term) (m : ℕ) → IsInRangeOfWords n e → f ≡ filled t e → IsCertInRangeOfWords c
        → is_some_and (λ k. mentions k x && same t (opened k x)) (numbered hyps m) ≡ true → child (hyps ++ f ∷ []) goal d ≡ true → IsCertInRangeOfWords (by.have f (by.rev i t c) d)
    hypothesis_in_range f i t c d x e m e_in_range f_is c_in_range there h = go (numbered hyps m) refl there
      where
        go : (o : Option Term) → numbered hyps m ≡ o → is_some_and (λ k. mentions k x && same t (opened k x)) o ≡ true → IsCertInRangeOfWords (by.have f (by.rev i t c) d)
        go None j z = absurd (true≢false (sym z))
        go (Some k) j z =
            made_in_range f i t c d x e k (numbered_in_range n hyps m k j hs) e_in_range (same_is t (opened k x) (and_parts (mentions k x) (same t (opened k x)) z).1) f_is c_in_range h

    lemma_in_range : (f : Term) (i : ℕ) (t : Term) (c d : Cert) → is_of_another child hyps goal f t d i (hypothesis_named c) (definition_in (numbered hyps i)) ≡ true
        → IsCertInRangeOfWords (by.have f (by.rev i t c) d)
    lemma_in_range f i t c d h = go (definition_in (numbered hyps i)) refl h
      where
        named : (x : ℕ) (e : Term) → IsInRangeOfWords n e → f ≡ filled t e → child (hyps ++ f ∷ []) goal d ≡ true → (o : Option ℕ) → hypothesis_named c ≡ o
            → is_some_and (λ m. not (i == m) && is_some_and (λ k. mentions k x && same t (opened k x)) (numbered hyps m)) o ≡ true → IsCertInRangeOfWords (by.have f (by.rev i t c) d)
        named x e e_in_range f_is k None j z = absurd (true≢false (sym z))
        named x e e_in_range f_is k (Some m) j z =
            hypothesis_in_range f i t c d x e m e_in_range f_is (named_in_range c m j)
            (and_parts (not (i == m)) (is_some_and (λ k. mentions k x && same t (opened k x)) (numbered hyps m)) z).1 k

        go : (o : Option (ℕ × Term)) → definition_in (numbered hyps i) ≡ o → is_of_another child hyps goal f t d i (hypothesis_named c) o ≡ true
            → IsCertInRangeOfWords (by.have f (by.rev i t c) d)
        go None j h = absurd (true≢false (sym h))
        go (Some (x, e)) j h =
            let a = and_parts _ (child (hyps ++ f ∷ []) goal d) h in
            let b = and_parts _ (is_within f) a.0 in
            let s = and_parts _ (same f (filled t e)) b.0 in
            let w = and_parts _ (is_within t) s.0 in
            named x e (definition_in_range n hyps i (x, e) j hs) (same_is f (filled t e) s.1) a.1 (hypothesis_named c) refl w.0

    replaced_in_range : (f : Term) (r d : Cert) → is_lemma child hyps goal f (replacement r) d ≡ true → IsCertInRangeOfWords (by.have f r d)
    replaced_in_range f (by.rev i t c) d h = lemma_in_range f i t c d h
    replaced_in_range f _ d h = absurd (true≢false (sym h))

    step_in_range : (c : Cert) → is_step child hyps goal c ≡ true → IsCertInRangeOfWords c
    step_in_range (by.and c d) h =
        let o = some_and (λ (a, b). child hyps a c && child hyps b d) (operands Both goal) h in
        let f = operands_in_range n Both goal o.0 o.1 g in
        let both = and_parts (child hyps o.0.0 c) (child hyps o.0.1 d) o.2 in
        let x = rest hyps o.0.0 c hs f.0 both.0 in
        let y = rest hyps o.0.1 d hs f.1 both.1 in
        ((x.0, y.0), (x.1, y.1))
    step_in_range (by.left c) h =
        let o = some_and (λ (a, b). child hyps a c) (operands Either goal) h in
        rest hyps o.0.0 c hs (operands_in_range n Either goal o.0 o.1 g).0 o.2
    step_in_range (by.right c) h =
        let o = some_and (λ (a, b). child hyps b c) (operands Either goal) h in
        rest hyps o.0.1 c hs (operands_in_range n Either goal o.0 o.1 g).1 o.2
    step_in_range (by.unpack i c) h =
        let o = some_and (λ (a, b). child (hyps ++ a ∷ b ∷ []) goal c) (operands_of Both (numbered hyps i)) h in
        let f = parts_in_range n Both hyps i o.0 o.1 hs in
        rest (hyps ++ o.0.0 ∷ o.0.1 ∷ []) goal c (append_in_range n hyps (o.0.0 ∷ o.0.1 ∷ []) hs (f.0, (f.1, tt))) g o.2
    step_in_range (by.cases i c d) h =
        let o = some_and (λ (a, b). child (hyps ++ a ∷ []) goal c && child (hyps ++ b ∷ []) goal d) (operands_of Either (numbered hyps i)) h in
        let f = parts_in_range n Either hyps i o.0 o.1 hs in
        let both = and_parts (child (hyps ++ o.0.0 ∷ []) goal c) (child (hyps ++ o.0.1 ∷ []) goal d) o.2 in
        let x = rest (hyps ++ o.0.0 ∷ []) goal c (append_in_range n hyps (o.0.0 ∷ []) hs (f.0, tt)) g both.0 in
        let y = rest (hyps ++ o.0.1 ∷ []) goal d (append_in_range n hyps (o.0.1 ∷ []) hs (f.1, tt)) g both.1 in
        ((x.0, y.0), (x.1, y.1))
    step_in_range (by.fwd i t c) h =
        let o = some_and (λ (x, e). is_within t && same t (opened goal x) && child hyps (filled t e) c) (definition_in (numbered hyps i)) h in
        let e_in_range = definition_in_range n hyps i o.0 o.1 hs in
        let a = and_parts _ (child hyps (filled t o.0.1) c) o.2 in
        let b = and_parts (is_within t) (same t (opened goal o.0.0)) a.0 in
        let t_is : t ≡ opened goal o.0.0 = same_is t (opened goal o.0.0) b.1 in
        let t_in_range : IsTemplateInRangeOfWords n t = subst (IsTemplateInRangeOfWords n) (sym t_is) (opened_in_range n goal o.0.0 g) in
        let made : IsInRangeOfWords n (filled t o.0.1) = subst (λ u. IsInRangeOfWords n (filled u o.0.1)) (sym t_is) (filled_in_range n goal o.0.1 o.0.0 g e_in_range) in
        let x = rest hyps (filled t o.0.1) c hs made a.1 in
        ((template_below n t t_in_range, x.0), (template_words n t t_in_range, x.1))
    step_in_range (by.have f c d) h = replaced_in_range f c d h
    step_in_range _ h = absurd (true≢false (sym h))

  leaf_in_range : (c : Cert) → is_in_class 0 [] (const 0) c ≡ true → IsCertInRangeOfWords c
  leaf_in_range by.auto h = (tt, tt)
  leaf_in_range by.reflexive h = (tt, tt)
  leaf_in_range by.ring h = (tt, tt)
  leaf_in_range by.range h = (tt, tt)
  leaf_in_range (by.absurdity i j) h = (tt, tt)
  leaf_in_range _ h = absurd (true≢false (sym h))

  pub class_in_range : (d : ℕ) (hyps : List Term) (goal : Term) (c : Cert) → AreInRangeOfWords n hyps → IsInRangeOfWords n goal → is_in_class d hyps goal c ≡ true → IsCertInRangeOfWords c
  class_in_range zero hyps goal c hs g h = leaf_in_range c h
  class_in_range (suc d) hyps goal c hs g h =
      go (is_in_class d hyps goal c) refl h (class_in_range d hyps goal c hs g)
      (step_in_range (is_in_class d) (λ hs' goal' c' f k m. class_in_range d hs' goal' c' f k m) hyps goal hs g c)
    where
      go : (b : Bool) → is_in_class d hyps goal c ≡ b → (b || is_step (is_in_class d) hyps goal c) ≡ true → (is_in_class d hyps goal c ≡ true → IsCertInRangeOfWords c)
          → (is_step (is_in_class d) hyps goal c ≡ true → IsCertInRangeOfWords c) → IsCertInRangeOfWords c
      go true i h a b = a i
      go false i h a b = b h
