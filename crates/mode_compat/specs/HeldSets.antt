-- The sets of a thread that holds locks, and what is stable and writable for it under holders of the locks.
use Rattle.std.specs.Prelude.{◌≡◌, ◌↔◌, ℕ, List, Bool, IsTrue}
use Rattle.cov_ast.specs.Tables.{has}
use Rattle.cov_ast.specs.Plain.{Plain}
use Rattle.flow_model.specs.Source.{Holders, holder, is_held_by}
use Rattle.flow_model.specs.Holdings.{IsStableNow, IsWritableNow}
use Rattle.mode_state.specs.Sets.{is_stable, may_write}

-- The locks that a thread holds, as holders have them.
abbrev pub AreHeldBy : Holders → (t : ℕ) → List Bool → Type 0
AreHeldBy h t held = (l : ℕ) → has held l ≡ is_held_by (holder h l) t

-- The sets of a thread that holds these locks are what is stable and writable for it.
pub record AreSetsOf (p : Plain) (h : Holders) (t : ℕ) (held : List Bool) : Type 0 where
  pub stable : (x : ℕ) → IsTrue (is_stable p t held x) ↔ IsStableNow p h t x
  pub writable : (x : ℕ) → IsTrue (may_write p t held x) ↔ IsWritableNow p h t x
