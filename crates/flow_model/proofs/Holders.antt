-- What the test says of who holds a lock.
use Rattle.std.proofs.Common.{◌≡◌, ℕ, true, Option, Some, None, true≢false, refl, sym, ◌∙◌, ap}
use Rattle.std.proofs.lemmas.Bool.{eqb-true, eq-eqb}
use Rattle.flow_model.specs.Source.{is_held_by}

pub held_is : (o : Option ℕ) (t : ℕ) → is_held_by o t ≡ true → o ≡ Some t
held_is None t h = absurd (true≢false (sym h))
held_is (Some u) t h = ap Some (eqb-true u t h)

pub is_held : (o : Option ℕ) (t : ℕ) → o ≡ Some t → is_held_by o t ≡ true
is_held o t h = ap (λ q. is_held_by q t) h ∙ eq-eqb t t refl
