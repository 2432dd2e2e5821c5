-- What doesn't speak of an expression leaves it every word.
use Rattle.std.proofs.Common.{◌≡◌, ◌==◌, ◌&&◌, Bool, true, false, Some, None, refl, sym, ◌∙◌, if◌then◌else◌}
use Rattle.std.proofs.lemmas.Bool.{or_parts}
use Rattle.cov_expr.specs.declared.expr.Op.{Op}
use Rattle.cov_expr.specs.declared.expr.Op.TheVariants.{Add, Sub, Mul, And, Or, Xor, Eq, Ne, Lt, Le, Both, Either}
use Rattle.cov_expr.specs.Term.{Term, const, var, neg, bin}
use Rattle.cov_expr.specs.Trees.{op_number, same}
use Rattle.cov_expr.proofs.Tests.{left_true}
use Rattle.entail_range.specs.declared.interval.Bound.{Bound}
use Rattle.entail_range.specs.Inside.Index.{IsFit}
use Rattle.entail_range.specs.Intervals.{all, cut}
use Rattle.entail_range.specs.Range.{number_beside, given}
use Rattle.entail_range.specs.Inside.Speaks.{is_number, are_alike, speaks_of}
use Rattle.entail_range.proofs.Buckets.{cut_all}

same_alike : (a e : Term) → same a e ≡ true → are_alike a e ≡ true
same_alike (const j) (const k) h = h
same_alike (var x) (var y) h = h
same_alike (neg a) (neg b) h = refl
same_alike (bin o a b) (bin q c d) h =
    left_true (op_number o == op_number q) (same a c) (left_true ((op_number o == op_number q) && same a c) (same b d) h)
same_alike (const j) (var y) h = h
same_alike (const j) (neg b) h = h
same_alike (const j) (bin q c d) h = h
same_alike (var x) (const k) h = h
same_alike (var x) (neg b) h = h
same_alike (var x) (bin q c d) h = h
same_alike (neg a) (const k) h = h
same_alike (neg a) (var y) h = h
same_alike (neg a) (bin q c d) h = h
same_alike (bin o a b) (const k) h = h
same_alike (bin o a b) (var y) h = h
same_alike (bin o a b) (neg d) h = h

none_unlike : (side other e : Term) → (is_number other && are_alike side e) ≡ false → number_beside side other e ≡ None
none_unlike side (const k) e unlike = at (same side e) refl
  where
    at : (b : Bool) → same side e ≡ b → (if b then Some k else None) ≡ None
    at true i = let c : true ≡ false = sym (same_alike side e i) ∙ unlike in cc
    at false i = refl
none_unlike side (var x) e unlike = refl
none_unlike side (neg a) e unlike = refl
none_unlike side (bin op a b) e unlike = refl

pub given_unspoken : (h e : Term) → speaks_of h e ≡ false → given h e ≡ all
given_unspoken (bin op a b) e unspoken = at op
  where
    neither : ((is_number b && are_alike a e) ≡ false) × ((is_number a && are_alike b e) ≡ false)
    neither = or_parts (is_number b && are_alike a e) (is_number a && are_alike b e) unspoken

    left : number_beside a b e ≡ None
    left = none_unlike a b e neither.0

    right : number_beside b a e ≡ None
    right = none_unlike b a e neither.1

    at : (o : Op) → given (bin o a b) e ≡ all
    at Le = rw (left, right) refl
    at Lt = rw (left, right) refl
    at Eq = rw left refl
    at Add = refl
    at Sub = refl
    at Mul = refl
    at And = refl
    at Or = refl
    at Xor = refl
    at Ne = refl
    at Both = refl
    at Either = refl
given_unspoken (const k) e unspoken = refl
given_unspoken (var x) e unspoken = refl
given_unspoken (neg a) e unspoken = refl

-- what doesn't speak of an expression can be left out
pub cut_unspoken : (h e : Term) (b : Bound) → speaks_of h e ≡ false → IsFit b → cut b (given h e) ≡ b
cut_unspoken h e b unspoken fit = rw (given_unspoken h e unspoken) (cut_all b fit)
