-- Laws of what was asked of a disk.
use Rattle.std.proofs.Common.{◌≡◌, ◌≤◌, ℕ, ◌+◌, Option, Some, None, Result, Ok, Err, refl, ◌∙◌, ap, arith}
use Rattle.std.specs.Result.{IsErr}
use Rattle.cov_io.specs.Disks.{HasRead, Log, with_bytes}
use Rattle.cov_io.specs.declared.shelf.Fetched.{Fetched}
use Rattle.cov_io.specs.declared.shelf.ShelfFault.{ShelfFault}

-- some bytes, and then others
with_both : (log : Option Log) (m n : ℕ) → with_bytes (with_bytes log m) n ≡ with_bytes log (m + n)
with_both None m n = refl
with_both (Some l) m n = ap (λ k. Some (record { opened = l.opened; read = k })) (omega arith)

pub reads_both : (a b c : Option Log) (m n : ℕ) → b ≡ with_bytes a m → c ≡ with_bytes b n → c ≡ with_bytes a (m + n)
reads_both a b c m n before now = now ∙ ap (λ log. with_bytes log n) before ∙ with_both a m n

-- where nothing is fetched
pub fault_reads : (before after : Option Log) (limit : ℕ) (answer : Result Fetched ShelfFault) → IsErr answer → (n : ℕ) → n ≤ limit + 1 → after ≡ with_bytes before n → HasRead before after limit answer
fault_reads before after limit (Ok fetched) is_fault n within read = cc
fault_reads before after limit (Err fault) is_fault n within read = (n, within, read)
