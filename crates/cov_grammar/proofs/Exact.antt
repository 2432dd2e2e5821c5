-- Reading all tokens is exact, for every right side that the next token decides.
use Rattle.std.proofs.Common.{◌≡◌, List, [], ◌∷◌, ◌++◌, true, refl, sym, ap, subst, ◌∙◌, append_assoc, append-nil}
use Rattle.cov_grammar.specs.declared.token.Token.{Token}
use Rattle.cov_grammar.specs.PlacedTrees.{Rule, Meaning}
use Rattle.cov_grammar.specs.Shapes.{Shape}
use Rattle.cov_grammar.specs.Spells.{Is, FirstWrong}
use Rattle.cov_grammar.specs.LookAhead.{fine}
use Rattle.cov_grammar.specs.FirstKinds.{first_kinds, more_of}
use Rattle.cov_grammar.specs.Reading.{Reading, got, stopped, spent, ◌>>=◌, rule_of, reading, ended, all_of}
use Rattle.cov_grammar.proofs.Honest.{Fact, Honest}
use Rattle.cov_grammar.proofs.Senses.{AtSome, OfShape, full_some, gather, spread}
use Rattle.cov_grammar.proofs.Samples.{first_at, Begins}
use Rattle.cov_grammar.proofs.Shapely.{honest}
use Rattle.cov_grammar.proofs.Complete.{complete}
use Rattle.cov_grammar.proofs.Turns.{rule_honest, rule_complete, never}

first_some : (r : Rule) (v : Meaning r) (ts : List Token) → AtSome r v ts → Begins (first_kinds r) ts
first_some r v ts h = first_at h.0 r v ts h.1

module _ {A : Type 0} (a : Shape A) (f : fine first_kinds more_of a ≡ true) where
  reading_honest : Honest (OfShape a) (reading a)
  reading_honest = honest rule_of rule_honest a f

  -- what is spelled is read to the end
  reading_whole : (v : A) (ts : List Token) → Is a v ts → reading a ts ≡ got v []
  reading_whole v ts h =
      ap (reading a) (sym (append-nil ts)) ∙ complete AtSome full_some first_some rule_of rule_honest rule_complete a f v ts [] (spread a v ts h) refl

  pub all_complete : (v : A) (ts : List Token) → Is a v ts → all_of a ts ≡ got v []
  all_complete v ts h = ap (λ o. o >>= ended) (reading_whole v ts h)

  all_got : (ts : List Token) (v : A) (out : Reading A) → Fact (OfShape a) (reading a) ts out → (out >>= ended) ≡ got v [] → Is a v ts
  all_got ts v (got w []) h e =
      let same : w ≡ v = cc in
      subst (λ x. Is a x ts) same (subst (Is a w) (sym (h.split ∙ append-nil h.front)) (gather a w h.front h.is))
  all_got ts v (got w (t ∷ us)) h e = cc
  all_got ts v (stopped bad) h e = cc
  all_got ts v spent h e = cc

  -- what is read is spelled so
  pub all_sound : (ts : List Token) (v : A) → all_of a ts ≡ got v [] → Is a v ts
  all_sound ts v e = all_got ts v (reading a ts) (reading_honest ts) e

  differs : (out : Reading A) (v : A) (bad : List Token) → out ≡ stopped bad → out ≡ got v [] → ⊥
  differs (got w us) v bad h e = cc
  differs (stopped us) v bad h e = cc
  differs spent v bad h e = cc

  longer_got : (out : Reading A) (v w : A) (t : Token) (us : List Token) → out ≡ got w (t ∷ us) → out ≡ got v [] → ⊥
  longer_got (got x us) v w t vs h e = cc
  longer_got (stopped us) v w t vs h e = cc
  longer_got spent v w t vs h e = cc

  all_fell : (ts bad : List Token) (out : Reading A) → reading a ts ≡ out → Fact (OfShape a) (reading a) ts out → (out >>= ended) ≡ stopped bad → FirstWrong a ts bad
  all_fell ts bad (got w []) q h e = cc
  all_fell ts bad (got w (t ∷ us)) q h e =
      let same : t ∷ us ≡ bad = cc in
      subst (FirstWrong a ts) same
      (record {
        front = h.front;
        split = h.split;
        goes_on = (w, [], gather a w (h.front ++ []) (subst (OfShape a w) (sym (append-nil h.front)) h.is));
        next = λ u rest g x.
            longer_got (reading a (h.front ++ u ∷ (rest ++ x.1))) x.0 w u (rest ++ x.1) (h.local (u ∷ (rest ++ x.1)) (sym g))
            (ap (reading a) (sym (append_assoc h.front (u ∷ rest) x.1)) ∙ reading_whole x.0 ((h.front ++ u ∷ rest) ++ x.1) x.2);
        none = λ g. cc;
      })
  all_fell ts bad (stopped us) q h e =
      let same : us ≡ bad = cc in
      subst (FirstWrong a ts) same
      (record {
        front = h.front;
        split = h.split;
        goes_on = (h.viable.0, h.viable.1, gather a h.viable.0 (h.front ++ h.viable.1) h.viable.2);
        next = λ u rest g x.
            differs (reading a (h.front ++ u ∷ (rest ++ x.1))) x.0 (u ∷ (rest ++ x.1)) (h.local (u ∷ (rest ++ x.1)) (sym g))
            (ap (reading a) (sym (append_assoc h.front (u ∷ rest) x.1)) ∙ reading_whole x.0 ((h.front ++ u ∷ rest) ++ x.1) x.2);
        none = λ g v is. differs (reading a ts) v us q (reading_whole v ts is);
      })
  all_fell ts bad spent q h e = cc

  -- the place where reading stops is that of the first wrong token
  pub all_first : (ts bad : List Token) → all_of a ts ≡ stopped bad → FirstWrong a ts bad
  all_first ts bad e = all_fell ts bad (reading a ts) refl (reading_honest ts) e

  all_spent : (out : Reading A) → (out >>= ended) ≡ spent → out ≡ spent
  all_spent (got v []) e = cc
  all_spent (got v (t ∷ ts)) e = cc
  all_spent (stopped bad) e = cc
  all_spent spent e = refl

  pub all_ends : (ts : List Token) → all_of a ts ≡ spent → ⊥
  all_ends ts e = never a f ts (all_spent (reading a ts) e)
