-- Words of private contracts: terms as they are made, before they are joined, what they are compared by, and terms in order.
use Rattle.std.specs.Prelude.{◌≡◌, ℕ, ◌+◌, ◌*◌, ◌/◌, ◌%◌, ◌^◌, nat_lt, List, [], ◌∷◌, Bool, false, if◌then◌else◌}
use Rattle.std.specs.Ordering.{is_lt}
use Rattle.std.specs.declared.cmp.Ordering.TheVariants.{Less}
use Rattle.entail_ring.specs.declared.forms.Operation.{Operation}
use Rattle.entail_ring.specs.declared.forms.Operation.TheVariants.{Sum, Difference, Product}
use Rattle.entail_ring.specs.declared.monomials.Monomial.{Monomial}
use Rattle.entail_ring.specs.Polys.{difference, order, product, sum, term_of}

-- a term with its coefficient modulo 2^32
abbrev pub reduced : Monomial → Monomial
reduced t = term_of (t.coefficient % 2 ^ 32) t.atoms

-- The numbers of the first atoms, each more 1, as digits to the base 256, up to one that is no digit. The first digit counts so many units.
abbrev pub rank : ℕ → List ℕ → ℕ
rank unit [] = 0
rank unit (x ∷ a) = if nat_lt x 254 then (x + 1) * unit + rank (unit / 256) a else 255 * unit

-- by their multisets
abbrev pub comes_before : Monomial → Monomial → Bool
comes_before t u = is_lt (order t.atoms u.atoms)

-- a multiset is before that of no term
abbrev pub AreUpTo : List ℕ → List Monomial → Type 0
AreUpTo a [] = Unit {0}
AreUpTo a (t ∷ p) = (is_lt (order a t.atoms) ≡ false) × AreUpTo a p

-- each term is before a multiset
abbrev pub AreBefore : List ℕ → List Monomial → Type 0
AreBefore a [] = Unit {0}
AreBefore a (t ∷ p) = (order t.atoms a ≡ Less) × AreBefore a p

-- what an operation makes of two polynomials
abbrev pub applied : Operation → List Monomial → List Monomial → List Monomial
applied Sum = sum
applied Difference = difference
applied Product = product
