-- Which variables are hidden, stable and writable under given holders of the locks.
--
-- A mode says of a variable that others don't write it, or that others neither read nor write it (`hide`). Mantel, Sands
-- and Sudbrock have the assumptions and guarantees, with a mode for reading apart; in COVERN a lock stands for variables
-- of both kinds, as here.
use Rattle.std.specs.Prelude.{◌≡◌, ℕ, ◌⊎◌, false, IsTrue}
use Rattle.std.specs.Prelude.{Some}
use Rattle.cov_ast.specs.Declarations.{hides, under, assumes_hide, assumes, guarantees}
use Rattle.cov_ast.specs.Plain.{Plain}
use Rattle.flow_model.specs.Source.{Holders, holder}

abbrev pub IsHeld : Holders → ℕ → Type 0
IsHeld h l = (t : ℕ) × (holder h l ≡ Some t)

-- A lock that is held hides the variable, or some thread assumes that no other reads or writes it.
abbrev pub IsHiddenNow : Plain → Holders → ℕ → Type 0
IsHiddenNow p h x = ((l : ℕ) × IsHeld h l × IsTrue (hides p l x)) ⊎ ((t : ℕ) × IsTrue (assumes_hide p t x))

-- The thread assumes that others don't write the variable, or it is under a lock that the thread holds.
abbrev pub IsStableNow : Plain → Holders → (t x : ℕ) → Type 0
IsStableNow p h t x = IsTrue (assumes p t x) ⊎ ((l : ℕ) × (holder h l ≡ Some t) × IsTrue (under p l x))

-- The thread gives no guarantee not to write the variable, and it holds each lock that the variable is under.
pub record IsWritableNow (p : Plain) (h : Holders) (t x : ℕ) : Type 0 where
  pub allowed : guarantees p t x ≡ false
  pub held : (l : ℕ) → IsTrue (under p l x) → holder h l ≡ Some t
