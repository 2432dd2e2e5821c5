-- Each right side spells something, and what it spells begins with one of its first kinds.
use Rattle.std.proofs.Common.{◌≡◌, ℕ, zero, suc, List, [], ◌∷◌, ◌++◌, Bool, true, false, ◌&&◌, if◌then◌else◌, Some, None, refl, sym, subst, ◌∙◌, inl, inr}
use Rattle.std.proofs.lemmas.Bool.{or_right, or_left}
use Rattle.cov_grammar.specs.declared.token.Token.{Token}
use Rattle.cov_expr.specs.declared.kind.Kind.{Kind}
use Rattle.cov_grammar.specs.PlacedTrees.{Rule, Meaning, expr, template, cert, block}
use Rattle.cov_grammar.specs.Shapes.{Shape, token, rule, seq, alt, opt, many, act, placed, place, Each, Sense, Spells}
use Rattle.cov_grammar.specs.Grammar.{atom, template_atom, unary, prod, sum, band, bxor, bor, cmp, both, either, part, arguments, last_certs, more_certs, certificate, proof, proofs, retype, assigned, branched, looped, state, statement, braces, body, types}
use Rattle.cov_grammar.specs.Spells.{Within}
use Rattle.cov_grammar.specs.LookAhead.{nullable, firsts, has, kind_is, within}
use Rattle.cov_grammar.specs.FirstKinds.{first_kinds}
use Rattle.cov_grammar.proofs.Basics.{kind_itself, has_append, within_has}
use Rattle.cov_grammar.proofs.TableLaws.{firsts_body}
use Rattle.cov_grammar.proofs.Senses.{nullable_ok, full_at, AtSome}
use Rattle.cov_expr.proofs.Tests.{left_true, right_true}

-- whether the leftmost choices lead through no rule
abbrev pub direct : {A : Type 0} → Shape A → Bool
direct (token k) = true
direct (rule r) = false
direct (seq a b) = direct a && direct b
direct (alt a b) = direct a
direct (opt a) = true
direct (many a) = true
direct (act f a) = direct a
direct (placed a) = direct a

direct_body : (r : Rule) → direct (body r) ≡ true
unfolding atom template_atom unary prod sum band bxor bor cmp both either part arguments last_certs more_certs certificate proof proofs types retype assigned branched looped state statement braces body
direct_body expr = refl
direct_body template = refl
direct_body cert = refl
direct_body block = refl

-- a value and tokens that spell it
abbrev pub Some_of : {A : Type 0} → Sense → Shape A → Type 0
Some_of {A} S a = (v : A) × (ts : List Token) × Spells S a v ts

some_direct : (S : Sense) {A : Type 0} (a : Shape A) → direct a ≡ true → Some_of S a
some_direct S (token k) h = let t : Token = record { kind = k; at = 0; end = 0; value = 0 } in (t, t ∷ [], (refl, refl))
some_direct S (rule r) h = cc
some_direct S (seq a b) h =
    let x = some_direct S a (left_true (direct a) (direct b) h) in
    let y = some_direct S b (right_true (direct a) (direct b) h) in
    ((x.0, y.0), x.1 ++ y.1, (x.1, y.1, x.2, y.2, refl))
some_direct S (alt a b) h = let x = some_direct S a h in (x.0, x.1, inl x.2)
some_direct S (opt a) h = (None, [], refl)
some_direct S (many a) h = ([], [], refl)
some_direct S (act f a) h = let x = some_direct S a h in (f x.0, x.1, (x.0, refl, x.2))
some_direct S (placed a) h = let x = some_direct S a h in ((place x.1, x.0), x.1, (refl, x.2))

pub some_of : {A : Type 0} (a : Shape A) → Some_of AtSome a
some_of (token k) = let t : Token = record { kind = k; at = 0; end = 0; value = 0 } in (t, t ∷ [], (refl, refl))
some_of (rule r) = let x = some_direct (Within 0) (body r) (direct_body r) in (x.0, x.1, (1, x.2))
some_of (seq a b) =
    let x = some_of a in
    let y = some_of b in
    ((x.0, y.0), x.1 ++ y.1, (x.1, y.1, x.2, y.2, refl))
some_of (alt a b) = let x = some_of a in (x.0, x.1, inl x.2)
some_of (opt a) = (None, [], refl)
some_of (many a) = ([], [], refl)
some_of (act f a) = let x = some_of a in (f x.0, x.1, (x.0, refl, x.2))
some_of (placed a) = let x = some_of a in ((place x.1, x.0), x.1, (refl, x.2))

-- the first token of the parts
abbrev pub Begins : List Kind → List Token → Type 0
Begins ks [] = Unit {0}
Begins ks (t ∷ ts) = has ks t.kind ≡ true

begins_append_left : (xs ys : List Kind) (ts : List Token) → Begins xs ts → Begins (xs ++ ys) ts
begins_append_left xs ys [] h = tt
begins_append_left xs ys (t ∷ ts) h = has_append xs ys t.kind ∙ or_left (has xs t.kind) (has ys t.kind) h

begins_append_right : (xs ys : List Kind) (ts : List Token) → Begins ys ts → Begins (xs ++ ys) ts
begins_append_right xs ys [] h = tt
begins_append_right xs ys (t ∷ ts) h = has_append xs ys t.kind ∙ or_right (has xs t.kind) (has ys t.kind) h

begins_within : (xs ys : List Kind) (ts : List Token) → within xs ys ≡ true → Begins xs ts → Begins ys ts
begins_within xs ys [] w h = tt
begins_within xs ys (t ∷ ts) w h = within_has xs ys t.kind w h

module _ (S : Sense) (full : (r : Rule) (v : Meaning r) → S r v [] → ⊥) (first : (r : Rule) (v : Meaning r) (ts : List Token) → S r v ts → Begins (first_kinds r) ts) where
  pub first_each : {A : Type 0} (a : Shape A) → ((v : A) (ts : List Token) → Spells S a v ts → Begins (firsts first_kinds a) ts) → (vs : List A) (ts : List Token) → Each (Spells S a) vs ts
      → Begins (firsts first_kinds a) ts
  first_each a f [] ts h = subst (Begins (firsts first_kinds a)) (sym h) tt
  first_each a f (v ∷ vs) ts h = subst (Begins (firsts first_kinds a)) (sym h.4) (by h.0 (f v h.0 h.2) (first_each a f vs h.1 h.3))
    where
      by : (us : List Token) → Begins (firsts first_kinds a) us → Begins (firsts first_kinds a) h.1 → Begins (firsts first_kinds a) (us ++ h.1)
      by [] x y = y
      by (u ∷ us) x y = x

  pub first_ok : {A : Type 0} (a : Shape A) (v : A) (ts : List Token) → Spells S a v ts → Begins (firsts first_kinds a) ts
  first_ok (token k) v ts h = subst (Begins (k ∷ [])) (sym h.1) (or_left (kind_is k v.kind) false (subst (λ j. kind_is k j ≡ true) (sym h.0) (kind_itself k)))
  first_ok (rule r) v ts h = first r v ts h
  first_ok (seq a b) v ts h =
      subst (Begins (firsts first_kinds (seq a b))) (sym h.4) (by h.0 (nullable_ok S full a v.0 h.0) (first_ok a v.0 h.0 h.2) (first_ok b v.1 h.1 h.3) h.2)
    where
      by : (us : List Token) → (us ≡ [] → Spells S a v.0 h.0 → nullable a ≡ true) → Begins (firsts first_kinds a) us → Begins (firsts first_kinds b) h.1 → Spells S a v.0 h.0 → Begins (firsts first_kinds (seq a b)) (us ++ h.1)
      by [] n x y s =
          subst (λ c. Begins (firsts first_kinds a ++ (if c then firsts first_kinds b else [])) h.1) (sym (n refl s)) (begins_append_right (firsts first_kinds a) (firsts first_kinds b) h.1 y)
      by (u ∷ us) n x y s = begins_append_left (firsts first_kinds a) (if nullable a then firsts first_kinds b else []) (u ∷ us) x
  first_ok (alt a b) v ts (inl h) = begins_append_left (firsts first_kinds a) (firsts first_kinds b) ts (first_ok a v ts h)
  first_ok (alt a b) v ts (inr h) = begins_append_right (firsts first_kinds a) (firsts first_kinds b) ts (first_ok b v ts h)
  first_ok (opt a) None ts h = subst (Begins (firsts first_kinds a)) (sym h) tt
  first_ok (opt a) (Some v) ts h = first_ok a v ts h
  first_ok (many a) vs ts h = first_each a (first_ok a) vs ts h
  first_ok (act g a) v ts h = first_ok a h.0 ts h.2
  first_ok (placed a) v ts h = first_ok a v.1 ts h.1

pub first_at : (d : ℕ) (r : Rule) (v : Meaning r) (ts : List Token) → Within d r v ts → Begins (first_kinds r) ts
first_at zero r v ts h = absurd h
first_at (suc d) r v ts h = begins_within (firsts first_kinds (body r)) (first_kinds r) ts (firsts_body r) (first_ok (Within d) (full_at d) (first_at d) (body r) v ts h)
