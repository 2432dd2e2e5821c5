-- Fronts and whole programs, by the grammar alone.
use Rattle.std.proofs.Common.{◌≡◌, List, [], ◌∷◌, IsTrue, ◌↔◌, refl, sym, ap, subst, ◌∙◌}
use Rattle.std.proofs.lemmas.List.{append-nil}
use Rattle.cov_grammar.specs.declared.token.Token.{Token}
use Rattle.cov_grammar.specs.Grammar.{program}
use Rattle.cov_grammar.specs.PlacedTrees.{Program}
use Rattle.cov_grammar.specs.Reading.{Reading, got, stopped, spent, ◌>>=◌, reading, ended, all_of}
use Rattle.cov_grammar.specs.Spells.{GoesOn, Is, FirstWrong}
use Rattle.cov_grammar.proofs.Exactness.{program_exactly}
use Rattle.explain.specs.ExpectedTokens.{takes_all, gives_all, is_front, is_whole}

-- what all tokens spell, some program begins with
is_goes_on : (ts : List Token) (p : Program) → Is program p ts → GoesOn program ts
is_goes_on ts p h = (p, [], subst (Is program p) (sym (append-nil ts)) h)

-- what goes on has no first wrong token
no_wrong : (ts : List Token) (t : Token) (us : List Token) → FirstWrong program ts (t ∷ us) → GoesOn program ts → ⊥
no_wrong ts t us w g = w.next t us refl (subst (GoesOn program) w.split g)

-- where all tokens are read, some program begins with them
end_goes_on : (ts : List Token) → FirstWrong program ts [] → GoesOn program ts
end_goes_on ts w = subst (GoesOn program) (sym (w.split ∙ append-nil w.front)) w.goes_on

module _ (ts : List Token) where
  all : (o : Reading Program) → reading program ts ≡ o → all_of program ts ≡ (o >>= ended)
  all o e = ap (λ q. q >>= ended) e

  front_by : (o : Reading Program) → reading program ts ≡ o → IsTrue (takes_all o) ↔ GoesOn program ts
  front_by (got p []) e = (λ h. is_goes_on ts p (program_exactly.sound ts p (all (got p []) e)), λ g. refl)
  front_by (got p (t ∷ us)) e = (λ h. cc, λ g. absurd (no_wrong ts t us (program_exactly.faults ts (t ∷ us) (all (got p (t ∷ us)) e)) g))
  front_by (stopped []) e = (λ h. end_goes_on ts (program_exactly.faults ts [] (all (stopped []) e)), λ g. refl)
  front_by (stopped (t ∷ us)) e = (λ h. cc, λ g. absurd (no_wrong ts t us (program_exactly.faults ts (t ∷ us) (all (stopped (t ∷ us)) e)) g))
  front_by spent e = absurd (program_exactly.ends ts (all spent e))

  -- what is spelled is read
  read_all : (o : Reading Program) (p : Program) → reading program ts ≡ o → Is program p ts → (o >>= ended) ≡ got p []
  read_all o p e h = sym (all o e) ∙ program_exactly.complete ts p h

  whole_by : (o : Reading Program) → reading program ts ≡ o → IsTrue (gives_all o) ↔ ((p : Program) × Is program p ts)
  whole_by (got p []) e = (λ h. (p, program_exactly.sound ts p (all (got p []) e)), λ g. refl)
  whole_by (got p (t ∷ us)) e = (λ h. cc, λ g. let no = read_all (got p (t ∷ us)) g.0 e g.1 in cc)
  whole_by (stopped bad) e = (λ h. cc, λ g. let no = read_all (stopped bad) g.0 e g.1 in cc)
  whole_by spent e = absurd (program_exactly.ends ts (all spent e))

  pub front_goes_on : IsTrue (is_front ts) ↔ GoesOn program ts
  unfolding is_front
  front_goes_on = front_by (reading program ts) refl

  pub whole_is : IsTrue (is_whole ts) ↔ ((p : Program) × Is program p ts)
  unfolding is_whole
  whole_is = whole_by (reading program ts) refl
