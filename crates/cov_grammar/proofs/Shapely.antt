-- Reading a right side is honest, where the next token decides its choices and the readers of rules are honest.
use Rattle.std.proofs.Common.{◌≡◌, ℕ, zero, suc, ◌<◌, List, [], ◌∷◌, ◌++◌, length, Bool, true, false, if◌then◌else◌, Some, None, refl, sym, ap, subst, ◌∙◌, append-nil, arith, length-append, inl, inr}
use Rattle.std.proofs.lemmas.Bool.{not-true}
use Rattle.cov_expr.specs.declared.kind.Kind.{Kind}
use Rattle.cov_grammar.specs.declared.token.Token.{Token}
use Rattle.cov_grammar.specs.PlacedTrees.{Rule}
use Rattle.cov_grammar.specs.Shapes.{Shape, token, rule, seq, alt, opt, many, act, placed, place, head}
use Rattle.cov_grammar.specs.Grammar.{body}
use Rattle.cov_grammar.specs.LookAhead.{kind_is, nullable, firsts, fine}
use Rattle.cov_grammar.specs.FirstKinds.{first_kinds, more_of}
use Rattle.cov_grammar.specs.Reading.{Reading, got, stopped, spent, ◌>>=◌, Reader, Inner, take_kind, read, reads}
use Rattle.cov_grammar.proofs.Basics.{kind_one, headless, true_false}
use Rattle.cov_grammar.proofs.TableLaws.{fine_body}
use Rattle.cov_grammar.proofs.Honest.{Fact, Honest, made, made_honest, either_fact, both_fact}
use Rattle.cov_grammar.proofs.Many.{Shrinks, many_honest}
use Rattle.cov_grammar.proofs.Senses.{Implies, AtSome, OfShape, close, nullable_ok, full_some}
use Rattle.cov_grammar.proofs.Samples.{some_of}
use Rattle.cov_expr.proofs.Tests.{left_true, right_true}

weaken_fact : {A : Type 0} (P Q : A → List Token → Type 0) (R : Reader A) → Implies P Q → (ts : List Token) (out : Reading A) → Fact P R ts out → Fact Q R ts out
weaken_fact P Q R f ts (got v rest) h = record { front = h.front; split = h.split; is = f v h.front h.is; local = h.local }
weaken_fact P Q R f ts (stopped bad) h = record { front = h.front; split = h.split; local = h.local; viable = (h.viable.0, h.viable.1, f h.viable.0 (h.front ++ h.viable.1) h.viable.2) }
weaken_fact P Q R f ts spent h = tt

-- a token
one_kind : (x : List Token) (k : Kind) → head x ≡ Some k → (t : Token) × (us : List Token) × (x ≡ t ∷ us) × (t.kind ≡ k)
one_kind [] k h = cc
one_kind (t ∷ us) k h = (t, us, refl, cc)

abbrev sample : Kind → Token
sample k = record { kind = k; at = 0; end = 0; value = 0 }

token_honest : (k : Kind) → Honest (OfShape (token k)) (take_kind k)
token_honest k [] = record {
  front = [];
  split = refl;
  local = λ x e. ap (take_kind k) (headless x e) ∙ sym (ap stopped (headless x e));
  viable = (sample k, sample k ∷ [], (refl, refl));
}
token_honest k (t ∷ ts) = by (kind_is k t.kind) refl
  where
    at_token : (b : Bool) (u : Token) (us : List Token) → kind_is k u.kind ≡ b → take_kind k (u ∷ us) ≡ (if b then got u us else stopped (u ∷ us))
    at_token b u us e = ap (λ c. if c then got u us else stopped (u ∷ us)) e

    stuck : (x : List Token) → head x ≡ Some t.kind → kind_is k t.kind ≡ false → take_kind k x ≡ stopped x
    stuck x e f =
        let o = one_kind x t.kind e in
        subst (λ y. take_kind k y ≡ stopped y) (sym o.2) (at_token false o.0 o.1 (ap (λ j. kind_is k j) o.3 ∙ f))

    by : (b : Bool) → kind_is k t.kind ≡ b → Fact (OfShape (token k)) (take_kind k) (t ∷ ts) (if b then got t ts else stopped (t ∷ ts))
    by true e = record {
      front = t ∷ [];
      split = refl;
      is = (sym (kind_one k t.kind e), refl);
      local = λ x a. at_token true t x e;
    }
    by false e = record {
      front = [];
      split = refl;
      local = λ x a. stuck x a e;
      viable = (sample k, sample k ∷ [], (refl, refl));
    }

-- a place
abbrev with_place : {A : Type 0} → Reader A → Reader (ℕ × A)
with_place R ts = R ts >>= λ v rest. got (place ts, v) rest

module _ {A : Type 0} (P : A → List Token → Type 0) (R : Reader A) (full : (v : A) (us : List Token) → P v us → us ≡ [] → ⊥) where
  place_is : (us x y : List Token) → (us ≡ [] → ⊥) → place (us ++ x) ≡ place (us ++ y)
  place_is [] x y h = absurd (h refl)
  place_is (u ∷ us) x y h = refl

  placed_fact : (ts : List Token) (out : Reading A) → Fact P R ts out
      → Fact (λ v us. (v.0 ≡ place us) × P v.1 us) (with_place R) ts (out >>= λ v rest. got (place ts, v) rest)
  placed_fact ts (got v rest) h =
      let some = full v h.front h.is in
      record {
        front = h.front;
        split = h.split;
        is = (ap place h.split ∙ place_is h.front rest [] some ∙ ap place (append-nil h.front), h.is);
        local = λ x e. ap (λ o. o >>= λ v rest. got (place (h.front ++ x), v) rest) (h.local x e) ∙ ap (λ p. got (p, v) x) (place_is h.front x rest some ∙ ap place (sym h.split));
      }
  placed_fact ts (stopped bad) h = record {
    front = h.front;
    split = h.split;
    local = λ x e. ap (λ o. o >>= λ v rest. got (place (h.front ++ x), v) rest) (h.local x e);
    viable = ((place (h.front ++ h.viable.1), h.viable.0), h.viable.1, (refl, h.viable.2));
  }
  placed_fact ts spent h = tt

none_fact : {A : Type 0} (a : Shape A) (ts : List Token) → Fact (OfShape (opt a)) (λ us. got None us) ts (got None ts)
none_fact a ts = record { front = []; split = refl; is = refl; local = λ x e. refl }

no_empty : {A : Type 0} (a : Shape A) → nullable a ≡ false → (v : A) (us : List Token) → OfShape a v us → us ≡ [] → ⊥
no_empty a f v us h e = true_false (nullable a) (nullable_ok AtSome full_some a v us e h) f

-- what isn't empty is taken off
pub shrinks_of : {A : Type 0} (a : Shape A) (R : Reader A) → nullable a ≡ false → Honest (OfShape a) R → Shrinks R
shrinks_of a R f h ts v rest e = by (R ts) e (h ts)
  where
    longer : (us : List Token) → (us ≡ [] → ⊥) → length rest < length (us ++ rest)
    longer [] n = absurd (n refl)
    longer (u ∷ us) n = simp length-append (omega arith)

    by : (out : Reading _) → out ≡ got v rest → Fact (OfShape a) R ts out → length rest < length ts
    by (got w last) g k =
        let same_rest : last ≡ rest = cc in
        rw k.split (subst (λ l. length rest < length (k.front ++ l)) (sym same_rest) (longer k.front (no_empty a f w k.front k.is)))
    by (stopped bad) g k = cc
    by spent g k = cc

module _ (inner : Inner) (hi : (r : Rule) → Honest (AtSome r) (inner r)) where
  pub honest : {A : Type 0} (a : Shape A) → fine first_kinds more_of a ≡ true → Honest (OfShape a) (read first_kinds inner a)
  honest (token k) f = token_honest k
  honest (rule r) f = hi r
  honest (seq a b) f =
      let s = some_of b in
      let g = honest a (left_true _ _ f) in
      let h = honest b (left_true _ _ (right_true (fine first_kinds more_of a) _ f)) in
      λ ts. both_fact (OfShape a) (OfShape b) (read first_kinds inner a) (read first_kinds inner b) s.0 s.1 s.2 ts (read first_kinds inner a ts) refl (g ts) (λ v rest e. h rest)
  honest (alt a b) f =
      let g = honest a (left_true _ _ f) in
      let h = honest b (left_true _ _ (right_true (fine first_kinds more_of a) _ f)) in
      λ ts. either_fact (OfShape (alt a b)) (firsts first_kinds a) (read first_kinds inner a) (read first_kinds inner b) ts
      (weaken_fact (OfShape a) (OfShape (alt a b)) (read first_kinds inner a) (λ v us p. inl p) ts (read first_kinds inner a ts) (g ts))
      (weaken_fact (OfShape b) (OfShape (alt a b)) (read first_kinds inner b) (λ v us p. inr p) ts (read first_kinds inner b ts) (h ts))
  honest (opt a) f =
      let g = honest a (left_true _ _ f) in
      λ ts. either_fact (OfShape (opt a)) (firsts first_kinds a) (made Some (read first_kinds inner a)) (λ us. got None us) ts
      (made_honest (OfShape a) (OfShape (opt a)) (read first_kinds inner a) Some (λ v us p. p) g ts)
      (none_fact a ts)
  honest (many a) f =
      let g = honest a (left_true _ _ f) in
      let full = not-true (nullable a) (left_true _ _ (right_true (fine first_kinds more_of a) _ f)) in
      many_honest (OfShape a) (firsts first_kinds a) (read first_kinds inner a) (shrinks_of a (read first_kinds inner a) full g) g
  honest (act h a) f = made_honest (OfShape a) (OfShape (act h a)) (read first_kinds inner a) h (λ v us p. (v, refl, p)) (honest a f)
  honest (placed a) f =
      let g = honest a (left_true _ _ f) in
      let full = not-true (nullable a) (right_true (fine first_kinds more_of a) _ f) in
      λ ts. placed_fact (OfShape a) (read first_kinds inner a) (no_empty a full) ts (read first_kinds inner a ts) (g ts)

pub rules_honest : (d : ℕ) (r : Rule) → Honest (AtSome r) (reads d r)
rules_honest zero r ts = tt
rules_honest (suc d) r ts =
    weaken_fact (OfShape (body r)) (AtSome r) (reads (suc d) r) (close r) ts (reads (suc d) r ts)
    (honest (reads d) (rules_honest d) (body r) (fine_body r) ts)
