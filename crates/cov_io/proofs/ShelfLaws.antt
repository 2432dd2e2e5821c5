-- Laws of calls of a shelf, for callers that make several.
use Rattle.std.proofs.Common.{◌≡◌, ℕ, List, Result, Ok, Err, Some, refl, sym, ◌∙◌, subst, arith, length, IfSome, IsTrue, IsNone, IsSomeAnd, ◌<◌}
use Rattle.cov_io.proofs.CountLaws.{grew_within}
use Rattle.cov_io.specs.Shelves.{Shelved, Gives, Passes, held}
use Rattle.cov_io.specs.declared.shelf.Fetched.{Fetched}
use Rattle.cov_io.specs.declared.shelf.Fetched.TheVariants.{Whole, TooLong}
use Rattle.cov_io.specs.declared.shelf.ShelfFault.{ShelfFault}
use Rattle.cov_io.specs.declared.shelf.ShelfFault.TheVariants.{Failed, NoMemory}

-- no call
pub passes_none : (a : Shelved) → Passes a a
passes_none a = record { told = refl; sure = refl; calls = omega arith; faults = omega arith; taken = omega arith }

-- some calls and then others
pub passes_both : (a b c : Shelved) → Passes a b → Passes b c → Passes a c
passes_both a b c p q = record {
  told = q.told ∙ p.told;
  sure = q.sure ∙ p.sure;
  calls = omega (arith, p.calls, q.calls);
  faults = omega (arith, p.faults, q.faults);
  taken = omega (arith, p.taken, q.taken);
}

-- what a fetch answers, also where other calls stand before and behind it
pub gives_within : (a b c d : Shelved) (name : List ℕ) (limit : ℕ) (r : Result Fetched ShelfFault) → Passes a b → Passes c d → Gives b c name limit r → Gives a d name limit r
gives_within a b c d name limit (Ok (Whole bytes)) p q h = (h.0, subst (λ t. IfSome t (λ files. held files name ≡ Some bytes)) p.told h.1)
gives_within a b c d name limit (Ok TooLong) p q h =
    (grew_within limit _ _ _ _ p.taken q.taken h.0, subst (λ t. IfSome t (λ files. IsSomeAnd (held files name) (λ bytes. limit < length bytes))) p.told h.1)
gives_within a b c d name limit (Err Failed) p q h =
    (grew_within 0 _ _ _ _ p.faults q.faults h.0, λ sure. subst (λ t. IfSome t (λ files. IsNone (held files name))) p.told (h.1 (subst IsTrue (sym p.sure) sure)))
gives_within a b c d name limit (Err NoMemory) p q h = tt
