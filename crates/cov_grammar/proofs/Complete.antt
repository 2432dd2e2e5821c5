-- What is spelled is read, in front of a token that doesn't go on it.
use Rattle.std.proofs.Common.{◌≡◌, List, [], ◌∷◌, ◌++◌, true, false, not, ◌||◌, if◌then◌else◌, Option, Some, None, refl, sym, ap, subst, ◌∙◌, append_assoc, inl, inr}
use Rattle.std.proofs.lemmas.Bool.{not-true}
use Rattle.cov_expr.specs.declared.kind.Kind.{Kind}
use Rattle.cov_grammar.specs.declared.token.Token.{Token}
use Rattle.cov_grammar.specs.PlacedTrees.{Rule, Meaning}
use Rattle.cov_grammar.specs.Shapes.{Shape, token, rule, seq, alt, opt, many, act, placed, place, Each, Sense, Spells, head}
use Rattle.cov_grammar.specs.LookAhead.{kind_is, has, starts, nullable, firsts, apart, fine, more}
use Rattle.cov_grammar.specs.FirstKinds.{first_kinds, more_of}
use Rattle.cov_grammar.specs.Reading.{got, stopped, ◌>>=◌, Reader, Inner, take_kind, read}
use Rattle.cov_grammar.proofs.Basics.{kind_itself, has_append, left_false, right_false, true_false, apart_not}
use Rattle.cov_grammar.proofs.Honest.{Honest, made, both_of}
use Rattle.cov_grammar.proofs.Many.{Shrinks, many_of, many_is, cons_of}
use Rattle.cov_grammar.proofs.Senses.{AtSome, nullable_ok}
use Rattle.cov_grammar.proofs.Samples.{Begins, first_ok, first_each}
use Rattle.cov_grammar.proofs.Shapely.{honest, shrinks_of}
use Rattle.cov_expr.proofs.Tests.{left_true, right_true}

starts_left : (xs ys : List Kind) (o : Option Kind) → starts (xs ++ ys) o ≡ false → starts xs o ≡ false
starts_left xs ys None h = refl
starts_left xs ys (Some k) h = left_false (has xs k) (has ys k) (sym (has_append xs ys k) ∙ h)

starts_right : (xs ys : List Kind) (o : Option Kind) → starts (xs ++ ys) o ≡ false → starts ys o ≡ false
starts_right xs ys None h = refl
starts_right xs ys (Some k) h = right_false (has xs k) (has ys k) (sym (has_append xs ys k) ∙ h)

-- the token ahead of tokens that begin so
ahead_true : (ks : List Kind) (us w : List Token) → (us ≡ [] → ⊥) → Begins ks us → starts ks (head (us ++ w)) ≡ true
ahead_true ks [] w n h = absurd (n refl)
ahead_true ks (u ∷ us) w n h = h

ahead_false : (js ks : List Kind) (us w : List Token) → apart js ks ≡ true → Begins ks us → (us ≡ [] → starts js (head w) ≡ false) → starts js (head (us ++ w)) ≡ false
ahead_false js ks [] w f h g = g refl
ahead_false js ks (u ∷ us) w f h g = apart_not js ks u.kind f h

place_front : (us w : List Token) → (us ≡ [] → ⊥) → place (us ++ w) ≡ place us
place_front [] w h = absurd (h refl)
place_front (u ∷ us) w h = refl

module _ (S : Sense) (full : (r : Rule) (v : Meaning r) → S r v [] → ⊥) (first : (r : Rule) (v : Meaning r) (ts : List Token) → S r v ts → Begins (first_kinds r) ts)
    (inner : Inner) (hi : (r : Rule) → Honest (AtSome r) (inner r))
    (ci : (r : Rule) (v : Meaning r) (us w : List Token) → S r v us → starts (more_of r) (head w) ≡ false → inner r (us ++ w) ≡ got v w) where
  abbrev M : {A : Type 0} → Shape A → List Kind
  M a = more first_kinds more_of a

  abbrev F : {A : Type 0} → Shape A → List Kind
  F a = firsts first_kinds a

  abbrev R : {A : Type 0} → Shape A → Reader A
  R a = read first_kinds inner a

  solid : {A : Type 0} (a : Shape A) → nullable a ≡ false → (v : A) (us : List Token) → Spells S a v us → us ≡ [] → ⊥
  solid a f v us h e = true_false (nullable a) (nullable_ok S full a v us e h) f

  -- what may go on a sequence
  seq_more : {A B : Type 0} (a : Shape A) (b : Shape B) (w : List Token) → nullable b ≡ true → starts (M (seq a b)) (head w) ≡ false → starts (M a) (head w) ≡ false
  seq_more a b w n h = starts_right (M b) (M a) (head w) (subst (λ c. starts (M b ++ (if c then M a else [])) (head w) ≡ false) n h)

  module _ {A : Type 0} (a : Shape A) (full_a : nullable a ≡ false) (free : apart (M a) (F a) ≡ true) (shrinks : Shrinks (R a))
      (ca : (v : A) (us w : List Token) → Spells S a v us → starts (M a) (head w) ≡ false → R a (us ++ w) ≡ got v w) where
    many_complete : (vs : List A) (us w : List Token) → Each (Spells S a) vs us → starts (M (many a)) (head w) ≡ false → many_of (F a) (R a) (us ++ w) ≡ got vs w
    many_complete [] us w h f =
        ap (λ ts. many_of (F a) (R a) (ts ++ w)) h ∙ many_is (F a) (R a) shrinks w
        ∙ ap (λ c. if c then made cons_of (both_of (R a) (many_of (F a) (R a))) w else got [] w) (starts_left (F a) (M a) (head w) f)
    many_complete (v ∷ vs) us w h f =
        let ts = h.0 ++ (h.1 ++ w) in
        let behind = first_each S full first a (first_ok S full first a) vs h.1 h.3 in
        ap (many_of (F a) (R a)) (ap (λ xs. xs ++ w) h.4 ∙ append_assoc h.0 h.1 w)
        ∙ many_is (F a) (R a) shrinks ts
        ∙ ap (λ c. if c then made cons_of (both_of (R a) (many_of (F a) (R a))) ts else got [] ts) (ahead_true (F a) h.0 (h.1 ++ w) (solid a full_a v h.0 h.2) (first_ok S full first a v h.0 h.2))
        ∙ ap (λ o. o >>= (λ x rest. many_of (F a) (R a) rest >>= λ y last. got (x, y) last) >>= λ x last. got (cons_of x) last)
        (ca v h.0 (h.1 ++ w) h.2 (ahead_false (M a) (F a) h.1 w free behind (λ e. starts_right (F a) (M a) (head w) f)))
        ∙ ap (λ o. o >>= (λ y last. got (v, y) last) >>= λ x last. got (cons_of x) last) (many_complete vs h.1 w h.3 f)

  pub complete : {A : Type 0} (a : Shape A) → fine first_kinds more_of a ≡ true → (v : A) (us w : List Token) → Spells S a v us → starts (M a) (head w) ≡ false → R a (us ++ w) ≡ got v w
  complete (token k) f v us w h g =
      ap (λ ts. take_kind k (ts ++ w)) h.1 ∙ ap (λ b. if b then got v w else stopped (v ∷ w)) (ap (λ j. kind_is k j) h.0 ∙ kind_itself k)
  complete (rule r) f v us w h g = ci r v us w h g
  complete (seq a b) f v us w h g =
      let fb = right_true (fine first_kinds more_of a) _ f in
      let free = right_true (fine first_kinds more_of b) _ fb in
      let ahead = ahead_false (M a) (F b) h.1 w free (first_ok S full first b v.1 h.1 h.3) (λ e. seq_more a b w (nullable_ok S full b v.1 h.1 e h.3) g) in
      ap (R (seq a b)) (ap (λ xs. xs ++ w) h.4 ∙ append_assoc h.0 h.1 w)
      ∙ ap (λ o. o >>= λ x rest. R b rest >>= λ y last. got (x, y) last) (complete a (left_true _ _ f) v.0 h.0 (h.1 ++ w) h.2 ahead)
      ∙ ap (λ o. o >>= λ y last. got (v.0, y) last) (complete b (left_true _ _ fb) v.1 h.1 w h.3 (starts_left (M b) (if nullable b then M a else []) (head w) g))
  complete (alt a b) f v us w (inl h) g =
      let fb = right_true (fine first_kinds more_of a) _ f in
      let full_both = not-true (nullable a || nullable b) (right_true (apart (F a) (F b)) _ (right_true (fine first_kinds more_of b) _ fb)) in
      ap (λ c. if c then R a (us ++ w) else R b (us ++ w)) (ahead_true (F a) us w (solid a (left_false (nullable a) (nullable b) full_both) v us h) (first_ok S full first a v us h))
      ∙ complete a (left_true _ _ f) v us w h (starts_left (M a) (M b) (head w) g)
  complete (alt a b) f v us w (inr h) g =
      let fb = right_true (fine first_kinds more_of a) _ f in
      let free = left_true (apart (F a) (F b)) _ (right_true (fine first_kinds more_of b) _ fb) in
      let full_both = not-true (nullable a || nullable b) (right_true (apart (F a) (F b)) _ (right_true (fine first_kinds more_of b) _ fb)) in
      let some = solid b (right_false (nullable a) (nullable b) full_both) v us h in
      ap (λ c. if c then R a (us ++ w) else R b (us ++ w)) (ahead_false (F a) (F b) us w free (first_ok S full first b v us h) (λ e. absurd (some e)))
      ∙ complete b (left_true _ _ fb) v us w h (starts_right (M a) (M b) (head w) g)
  complete (opt a) f None us w h g =
      ap (λ ts. R (opt a) (ts ++ w)) h ∙ ap (λ c. if c then (R a w >>= λ v rest. got (Some v) rest) else got None w) (starts_left (F a) (M a) (head w) g)
  complete (opt a) f (Some v) us w h g =
      let full_a = not-true (nullable a) (right_true (fine first_kinds more_of a) _ f) in
      ap (λ c. if c then (R a (us ++ w) >>= λ v rest. got (Some v) rest) else got None (us ++ w)) (ahead_true (F a) us w (solid a full_a v us h) (first_ok S full first a v us h))
      ∙ ap (λ o. o >>= λ v rest. got (Some v) rest) (complete a (left_true _ _ f) v us w h (starts_right (F a) (M a) (head w) g))
  complete (many a) f vs us w h g =
      let fa = left_true _ _ f in
      let rest = right_true (fine first_kinds more_of a) _ f in
      let full_a = not-true (nullable a) (left_true _ _ rest) in
      many_complete a full_a (right_true (not (nullable a)) _ rest) (shrinks_of a (R a) full_a (honest inner hi a fa)) (complete a fa) vs us w h g
  complete (act k a) f v us w h g = ap (λ o. o >>= λ v rest. got (k v) rest) (complete a f h.0 us w h.2 g) ∙ ap (λ x. got x w) h.1
  complete (placed a) f v us w h g =
      let full_a = not-true (nullable a) (right_true (fine first_kinds more_of a) _ f) in
      ap (λ o. o >>= λ v rest. got (place (us ++ w), v) rest) (complete a (left_true _ _ f) v.1 us w h.1 g)
      ∙ ap (λ p. got (p, v.1) w) (place_front us w (solid a full_a v.1 us h.1) ∙ sym h.0)
