-- Polynomials over numbered atoms, with coefficients modulo 2^32.
--
-- A term has a coefficient and a multiset of atoms, listed in rising order. A polynomial lists its terms in rising order of their multisets, as
-- lists are ordered by their first difference. So it has one form alone.
use Rattle.std.specs.Prelude.{◌≡◌, ℕ, ◌+◌, ◌-◌, ◌*◌, ◌%◌, ◌^◌, ◌<◌, ◌≤◌, ◌==◌, nat_le, ◌&&◌, List, [], ◌∷◌, ◌++◌, map, length, Bool, if◌then◌else◌}
use Rattle.std.specs.List.{list_all}
use Rattle.std.specs.Ordering.{is_eq, nat_cmp}
use Rattle.std.specs.Cmp.Lexicographic.{slice_cmp}
use Rattle.std.specs.declared.cmp.Ordering.{Ordering}
use Rattle.std.specs.declared.cmp.Ordering.TheVariants.{Less, Equal, Greater}
use Rattle.entail_ring.specs.declared.monomials.Monomial.{Monomial}

-- Terms --------------------------------------------------------------------------------------------------------

abbrev pub term_of : ℕ → List ℕ → Monomial
term_of c atoms = record { coefficient = c; atoms = atoms }

-- the order of multisets
abbrev pub order : List ℕ → List ℕ → Ordering
order a b = slice_cmp nat_cmp a b

-- an atom, among those of a multiset and the rest
abbrev pub among : ℕ → (List ℕ → List ℕ) → List ℕ → List ℕ
among x rest [] = x ∷ rest []
among x rest (y ∷ b) = if nat_le x y then x ∷ rest (y ∷ b) else y ∷ among x rest b

-- two multisets together
abbrev pub together : List ℕ → List ℕ → List ℕ
together [] b = b
together (x ∷ a) b = among x (together a) b

-- the product of two terms
abbrev pub times : Monomial → Monomial → Monomial
times t u = term_of (t.coefficient * u.coefficient) (together t.atoms u.atoms)

-- Polynomials --------------------------------------------------------------------------------------------------

-- a term before others, where its coefficient isn't 0 modulo 2^32
abbrev pub put : ℕ → List ℕ → List Monomial → List Monomial
put c atoms p = if c % 2 ^ 32 == 0 then p else term_of (c % 2 ^ 32) atoms ∷ p

-- a term beside the first one of a polynomial, by the order of the two
abbrev pub placed : Ordering → Monomial → Monomial → List Monomial → List Monomial → List Monomial
placed Less t u p more = put t.coefficient t.atoms (u ∷ p)
placed Equal t u p more = put (t.coefficient + u.coefficient) t.atoms p
placed Greater t u p more = u ∷ more

-- a term more: joined with that of the same multiset, if there is one
abbrev pub add : Monomial → List Monomial → List Monomial
add t [] = put t.coefficient t.atoms []
add t (u ∷ p) = placed (order t.atoms u.atoms) t u p (add t p)

-- The polynomial of any terms: those of equal multisets are joined, coefficients are taken modulo 2^32, and terms with coefficient 0 are
-- dropped.
abbrev pub joined : List Monomial → List Monomial
joined [] = []
joined (t ∷ ts) = add t (joined ts)

abbrev pub negative : Monomial → Monomial
negative t = term_of ((2 ^ 32 - t.coefficient) % 2 ^ 32) t.atoms

-- a term times each of others
abbrev pub row : Monomial → List Monomial → List Monomial
row t [] = []
row t (u ∷ q) = times t u ∷ row t q

-- each term of one polynomial times each of another
abbrev pub products : List Monomial → List Monomial → List Monomial
products [] q = []
products (t ∷ p) q = row t q ++ products p q

abbrev pub sum : List Monomial → List Monomial → List Monomial
sum p q = joined (p ++ q)

abbrev pub difference : List Monomial → List Monomial → List Monomial
difference p q = joined (p ++ map negative q)

abbrev pub product : List Monomial → List Monomial → List Monomial
product p q = joined (products p q)

-- at most 256 terms, of at most 8 atoms each
abbrev pub is_small : List Monomial → Bool
is_small p = nat_le (length p) 256 && list_all (λ t. nat_le (length t.atoms) 8) p

-- What a polynomial is ------------------------------------------------------------------------------------------

-- a number is above none of a list
abbrev pub IsLow : ℕ → List ℕ → Type 0
IsLow x [] = Unit {0}
IsLow x (y ∷ l) = (x ≤ y) × IsLow x l

-- rising, where the same number may stand more than once
abbrev pub IsRising : List ℕ → Type 0
IsRising [] = Unit {0}
IsRising (x ∷ l) = IsLow x l × IsRising l

-- The atoms of each term rise. So terms of equal multisets list the same atoms.
abbrev pub AreRising : List Monomial → Type 0
AreRising [] = Unit {0}
AreRising (t ∷ p) = IsRising t.atoms × AreRising p

-- a multiset is before that of each term
abbrev pub IsBefore : List ℕ → List Monomial → Type 0
IsBefore a [] = Unit {0}
IsBefore a (t ∷ p) = (order a t.atoms ≡ Less) × IsBefore a p

-- The terms rise, and each has a coefficient from 1 to 4294967295.
abbrev pub IsPoly : List Monomial → Type 0
IsPoly [] = Unit {0}
IsPoly (t ∷ p) = (0 < t.coefficient) × ((t.coefficient < 2 ^ 32) × (IsBefore t.atoms p × IsPoly p))

-- The sum of the coefficients of a multiset. A polynomial has it once, so it is its coefficient there, and 0 where it has no such term.
abbrev pub coefficient : List Monomial → List ℕ → ℕ
coefficient [] a = 0
coefficient (t ∷ p) a = (if is_eq (order a t.atoms) then t.coefficient else 0) + coefficient p a
