-- Words of private contracts: where the spellings that begin with a byte stand in the table.
use Rattle.std.specs.Prelude.{ℕ, slice_index}
use Rattle.cov_expr.specs.declared.spelling.TheConstants.{STARTS}

-- how many spellings begin with a smaller byte
unfoldable pub start_of : ℕ → ℕ
start_of byte = slice_index STARTS byte
