-- Small laws of kinds, lists of kinds, first tokens and truth values.
use Rattle.std.proofs.Common.{◌≡◌, List, [], ◌∷◌, ◌++◌, Bool, true, false, ◌||◌, Option, Some, None, refl, sym, ap, subst, ◌∙◌}
use Rattle.std.proofs.lemmas.Bool.{not-true}
use denote.Enum.Bare.{same_true, true_same}
use Rattle.cov_expr.specs.declared.kind.Kind.{Kind}
use Rattle.cov_grammar.specs.declared.token.Token.{Token}
use Rattle.cov_expr.specs.contracts.kind.Kind as kind
use Rattle.cov_grammar.specs.Shapes.{head}
use Rattle.cov_grammar.specs.LookAhead.{kind_is, has, starts, apart, within}
use Rattle.cov_expr.proofs.Tests.{left_true, right_true, or_regrouped}

pub kind_one : (a b : Kind) → kind_is a b ≡ true → a ≡ b
unfolding kind_is
kind_one a b e = same_true kind.the_type tt a b e

pub kind_itself : (a : Kind) → kind_is a a ≡ true
unfolding kind_is
kind_itself a = true_same kind.the_type a a refl

-- what begins alike goes on to begin alike
pub head_alike : (us x y : List Token) → head x ≡ head y → head (us ++ x) ≡ head (us ++ y)
head_alike [] x y h = h
head_alike (u ∷ us) x y h = refl

pub headless : (x : List Token) → head x ≡ None → x ≡ []
headless [] h = refl
headless (t ∷ ts) h = cc

pub has_append : (xs ys : List Kind) (k : Kind) → has (xs ++ ys) k ≡ (has xs k || has ys k)
has_append [] ys k = refl
has_append (x ∷ xs) ys k = ap (λ b. kind_is x k || b) (has_append xs ys k) ∙ or_regrouped (kind_is x k) (has xs k) (has ys k)

pub left_false : (a b : Bool) → (a || b) ≡ false → a ≡ false
left_false true b h = h
left_false false b h = refl

pub right_false : (a b : Bool) → (a || b) ≡ false → b ≡ false
right_false true b h = cc
right_false false b h = h

pub true_false : {A : Type 0} (b : Bool) → b ≡ true → b ≡ false → A
true_false true h e = cc
true_false false h e = cc

-- what is among kinds that are apart from others isn't among these
pub apart_not : (xs ys : List Kind) (k : Kind) → apart xs ys ≡ true → has ys k ≡ true → has xs k ≡ false
apart_not [] ys k h e = refl
apart_not (x ∷ xs) ys k h e = by (kind_is x k) refl (apart_not xs ys k (right_true _ _ h) e)
  where
    by : (b : Bool) → kind_is x k ≡ b → has xs k ≡ false → has (x ∷ xs) k ≡ false
    by true f r =
        let no : has ys k ≡ false = subst (λ j. has ys j ≡ false) (kind_one x k f) (not-true (has ys x) (left_true _ _ h)) in
        true_false (has ys k) e no
    by false f r = ap (λ b. b || has xs k) f ∙ r

pub within_has : (xs ys : List Kind) (k : Kind) → within xs ys ≡ true → has xs k ≡ true → has ys k ≡ true
within_has [] ys k h e = cc
within_has (x ∷ xs) ys k h e = by (kind_is x k) refl (within_has xs ys k (right_true _ _ h))
  where
    by : (b : Bool) → kind_is x k ≡ b → (has xs k ≡ true → has ys k ≡ true) → has ys k ≡ true
    by true f r = subst (λ j. has ys j ≡ true) (kind_one x k f) (left_true _ _ h)
    by false f r = r (sym (ap (λ b. b || has xs k) f) ∙ e)

-- no start among more kinds is none among fewer
pub starts_less : (xs ys : List Kind) (o : Option Kind) → ((k : Kind) → has ys k ≡ false → has xs k ≡ false) → starts ys o ≡ false → starts xs o ≡ false
starts_less xs ys None f h = refl
starts_less xs ys (Some k) f h = f k h

pub within_not : (xs ys : List Kind) (k : Kind) → within xs ys ≡ true → has ys k ≡ false → has xs k ≡ false
within_not xs ys k h e = by (has xs k) refl
  where
    by : (b : Bool) → has xs k ≡ b → has xs k ≡ false
    by true f = true_false (has ys k) (within_has xs ys k h f) e
    by false f = f
