-- Lists that code builds item by item, as it reads them.
--
-- The loop of such code keeps `pushed (items so far) (reading (many a) (tokens left)) ≡ reading (many a) (tokens at first)`.
use Rattle.std.proofs.Common.{◌≡◌, List, [], ◌∷◌, ◌++◌, map, Bool, true, false, if◌then◌else◌, refl, sym, ap, ◌∙◌, append_assoc, append-nil}
use Rattle.std.proofs.lemmas.List.{map-append}
use Rattle.cov_grammar.specs.declared.token.Token.{Token}
use Rattle.cov_expr.specs.declared.kind.Kind.{Kind}
use Rattle.cov_grammar.specs.Shapes.{Shape, many, head}
use Rattle.cov_grammar.specs.Grammar.{◌▸◌, separated}
use Rattle.cov_grammar.specs.LookAhead.{starts, nullable, firsts, fine}
use Rattle.cov_grammar.specs.FirstKinds.{first_kinds, more_of}
use Rattle.cov_grammar.specs.Reading.{take_kind, Reading, got, stopped, spent, ◌>>=◌, Reader, rule_of, reading}
use Rattle.cov_grammar.proofs.Many.{many_is}
use Rattle.cov_grammar.proofs.Shapely.{honest, shrinks_of}
use Rattle.cov_grammar.proofs.Turns.{rule_honest}

-- items so far, in front of what is still to come
abbrev pub pushed : {A : Type 0} → List A → Reading (List A) → Reading (List A)
pushed xs o = o >>= λ ys last. got (xs ++ ys) last

abbrev pair : {A B : Type 0} → A → Reading B → Reading (A × B)
pair v o = o >>= λ w last. got (v, w) last

abbrev consed : {A : Type 0} → Reading (A × List A) → Reading (List A)
consed o = o >>= λ x last. got (x.0 ∷ x.1) last

pub pushed_none : {A : Type 0} (o : Reading (List A)) → pushed [] o ≡ o
pushed_none (got v ts) = refl
pushed_none (stopped ts) = refl
pushed_none spent = refl

pushed_one : {A : Type 0} (xs : List A) (v : A) (o : Reading (List A)) → pushed (xs ++ v ∷ []) o ≡ pushed xs (consed (pair v o))
pushed_one xs v (got ys ts) = ap (λ zs. got zs ts) (append_assoc xs (v ∷ []) ys)
pushed_one xs v (stopped ts) = refl
pushed_one xs v spent = refl

module _ {A : Type 0} (a : Shape A) (f : fine first_kinds more_of a ≡ true) (n : nullable a ≡ false) where
  abbrev step : Bool → List A → Reader (List A)
  step b xs ts = pushed xs (if b then consed (reading a ts >>= λ v rest. pair v (reading (many a) rest)) else got [] ts)

  turn : (xs : List A) (ts : List Token) (b : Bool) → starts (firsts first_kinds a) (head ts) ≡ b → pushed xs (reading (many a) ts) ≡ step b xs ts
  turn xs ts b e =
      ap (pushed xs) (many_is (firsts first_kinds a) (reading a) (shrinks_of a (reading a) n (honest rule_of rule_honest a f)) ts)
      ∙ ap (λ c. step c xs ts) e

  pub rep_goes : (xs : List A) (v : A) (ts rest : List Token) → starts (firsts first_kinds a) (head ts) ≡ true → reading a ts ≡ got v rest → pushed (xs ++ v ∷ []) (reading (many a) rest) ≡ pushed xs (reading (many a) ts)
  rep_goes xs v ts rest e h =
      sym (turn xs ts true e ∙ ap (λ o. pushed xs (consed (o >>= λ v rest. pair v (reading (many a) rest)))) h ∙ sym (pushed_one xs v (reading (many a) rest)))

  pub rep_ends : (xs : List A) (ts : List Token) → starts (firsts first_kinds a) (head ts) ≡ false → pushed xs (reading (many a) ts) ≡ got xs ts
  rep_ends xs ts e = turn xs ts false e ∙ ap (λ zs. got zs ts) (append-nil xs)

  pub rep_breaks : (xs : List A) (ts rest : List Token) → starts (firsts first_kinds a) (head ts) ≡ true → reading a ts ≡ stopped rest → pushed xs (reading (many a) ts) ≡ stopped rest
  rep_breaks xs ts rest e h = turn xs ts true e ∙ ap (λ o. pushed xs (consed (o >>= λ v rest. pair v (reading (many a) rest)))) h

-- Items by the kinds that they begin with ----------------------------------------------------------------------

-- A right side that can be repeated, and the kinds that it begins with.
pub record Item {A : Type 0} (a : Shape A) (ks : List Kind) : Type 0 where
  pub fine : fine first_kinds more_of a ≡ true
  pub full : nullable a ≡ false
  pub first : firsts first_kinds a ≡ ks

module _ {X A : Type 0} (view : X → A) (a : Shape A) (ks : List Kind) (i : Item a ks) where
  ahead : (ts : List Token) (b : Bool) → starts ks (head ts) ≡ b → starts (firsts first_kinds a) (head ts) ≡ b
  ahead ts b e = ap (λ js. starts js (head ts)) i.first ∙ e

  -- one more item
  pub item_goes : (xs ys : List X) (x : X) (ts rest : List Token) → starts ks (head ts) ≡ true → reading a ts ≡ got (view x) rest → ys ≡ xs ++ x ∷ [] → pushed (map view ys) (reading (many a) rest) ≡ pushed (map view xs) (reading (many a) ts)
  item_goes xs ys x ts rest e h g =
      ap (λ zs. pushed zs (reading (many a) rest)) (ap (map view) g ∙ map-append view xs (x ∷ [])) ∙ rep_goes a i.fine i.full (map view xs) (view x) ts rest (ahead ts true e) h

  -- no more items
  pub item_ends : (xs : List X) (ts : List Token) → starts ks (head ts) ≡ false → pushed (map view xs) (reading (many a) ts) ≡ got (map view xs) ts
  item_ends xs ts e = rep_ends a i.fine i.full (map view xs) ts (ahead ts false e)

  -- a fault in an item
  pub item_breaks : (xs : List X) (ts rest : List Token) → starts ks (head ts) ≡ true → reading a ts ≡ stopped rest → pushed (map view xs) (reading (many a) ts) ≡ stopped rest
  item_breaks xs ts rest e h = rep_breaks a i.fine i.full (map view xs) ts rest (ahead ts true e) h

-- Items with a sign between them -------------------------------------------------------------------------------

module _ {A : Type 0} (j : Kind) (a : Shape A) where
  abbrev one : A × List A → List A
  one x = x.0 ∷ x.1

  sep_is : (v : A) (o : Reading (List A)) → (pair v o >>= λ x last. got (one x) last) ≡ pushed (v ∷ []) o
  sep_is v (got ys ts) = refl
  sep_is v (stopped ts) = refl
  sep_is v spent = refl

  -- the first item
  pub sep_begins : (v : A) (ts rest : List Token) → reading a ts ≡ got v rest → pushed (v ∷ []) (reading (many (j ▸ a)) rest) ≡ reading (separated j a) ts
  sep_begins v ts rest h = sym (ap (λ o. (o >>= λ v us. pair v (reading (many (j ▸ a)) us)) >>= λ x last. got (one x) last) h ∙ sep_is v (reading (many (j ▸ a)) rest))

  -- a fault in the first item
  pub sep_stops : (ts rest : List Token) → reading a ts ≡ stopped rest → reading (separated j a) ts ≡ stopped rest
  sep_stops ts rest h = ap (λ o. (o >>= λ v us. pair v (reading (many (j ▸ a)) us)) >>= λ x last. got (one x) last) h

  -- an item behind a sign
  pub behind_sign : (v : A) (t : Token) (ts us rest : List Token) → take_kind j ts ≡ got t us → reading a us ≡ got v rest → reading (j ▸ a) ts ≡ got v rest
  behind_sign v t ts us rest h g = ap (λ o. (o >>= λ w us. pair w (reading a us)) >>= λ x last. got (x.1) last) h ∙ ap (λ o. pair t o >>= λ x last. got (x.1) last) g

  -- a fault behind a sign
  pub stopped_sign : (t : Token) (ts us rest : List Token) → take_kind j ts ≡ got t us → reading a us ≡ stopped rest → reading (j ▸ a) ts ≡ stopped rest
  stopped_sign t ts us rest h g = ap (λ o. (o >>= λ w us. pair w (reading a us)) >>= λ x last. got (x.1) last) h ∙ ap (λ o. pair t o >>= λ x last. got (x.1) last) g
