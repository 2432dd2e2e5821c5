-- What lets the games of all threads of a well formed program compose: controls that are low, and modes that are compatible.
use Rattle.std.specs.Prelude.{◌≢◌, ℕ, ◌<◌, length, IsTrue}
use Rattle.cov_ast.specs.Declarations.{is_control, is_plain_low}
use Rattle.cov_ast.specs.Plain.{Plain}
use Rattle.flow_model.specs.Source.{Holders}
use Rattle.flow_model.specs.Holdings.{IsStableNow, IsWritableNow}

-- The class of each control is written `low`.
abbrev pub AreControlsLow : Plain → Type 0
AreControlsLow p = (c : ℕ) → IsTrue (is_control p c) → IsTrue (is_plain_low p c)

-- The modes of the threads are compatible: what one thread may write, no other has stable, whoever holds the locks.
--
-- (The compatibility of modes of Mantel, Sands and Sudbrock, with the locks of COVERN.)
abbrev pub HasCompatibleModes : Plain → Type 0
HasCompatibleModes p =
    (h : Holders) (t u x : ℕ) → u < length p.threads → t ≢ u → IsWritableNow p h u x → IsStableNow p h t x → ⊥
