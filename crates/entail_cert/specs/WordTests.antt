-- A test for expressions of words of 32 bits. Those of the code are: as plain data, numbers may be larger.
use Rattle.std.specs.Prelude.{◌^◌, nat_lt, Bool, ◌&&◌}
use Rattle.cov_expr.specs.Term.{Term, const, var, neg, bin}

-- whether each number and each variable is a word
abbrev pub is_of_words : Term → Bool
is_of_words (const k) = nat_lt k (2 ^ 32)
is_of_words (var x) = nat_lt x (2 ^ 32)
is_of_words (neg e) = is_of_words e
is_of_words (bin op a b) = is_of_words a && is_of_words b
