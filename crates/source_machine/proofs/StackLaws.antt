-- The frames of the code, as the last of them changes.
use Rattle.std.proofs.Common.{◌≡◌, ℕ, ◌<◌, ◌≤◌, ◌⊎◌, inl, inr, List, [], ◌∷◌, ◌++◌, length, map, reverse, refl, ap, sym, ◌∙◌, arith}
use Rattle.std.proofs.lemmas.List.{map-append, reverse-append}
use Rattle.std.specs.Borrow.{Bor}
use Rattle.cov_ast.specs.Syntax.{Block, done, more}
use Rattle.cov_ast.specs.Syntax as s
use Rattle.cov_ast.specs.View as view
use Rattle.cov_ast.specs.declared.stmt.Stmt.{Stmt}
use Rattle.source_machine.specs.Inside.Entries.{without_notes, on_top, entered, height}
use Rattle.source_machine.specs.Inside.Stacks.{stack_of}

pub pushed : (fs : List (Bor (List Stmt))) (f : Bor (List Stmt)) → stack_of (fs ++ f ∷ []) ≡ view.block f.now ∷ stack_of fs
pushed fs f =
    ap reverse (map-append (λ f. view.block f.now) fs (f ∷ [])) ∙ reverse-append (map (λ f. view.block f.now) fs) (view.block f.now ∷ [])

-- what `enter` puts on top, where something of the block runs
pub entered_some : (r : List Stmt) (b : Block) (bs : List Block) → view.block r ≡ without_notes b → 0 < length r → entered b bs ≡ view.block r ∷ bs
entered_some [] b bs e h = absurd (omega arith)
entered_some (x ∷ r) b bs e h = ap (λ w. on_top w bs) (sym e)

something_runs : (b : Block) → (without_notes b ≡ done) ⊎ (1 ≤ height b)
something_runs done = inl refl
something_runs (more at (s.note j) proofs b) = elim (something_runs b) [ inl e ↦ inl e | inr h ↦ inr (omega arith) ]
something_runs (more at (s.branch e x y j) proofs b) = inr (omega arith)
something_runs (more at (s.loop e j x) proofs b) = inr (omega arith)
something_runs (more at _ proofs b) = inr (omega arith)

pub height_some : (r : List Stmt) (b : Block) → view.block r ≡ without_notes b → 0 < length r → 1 ≤ height b
height_some [] b e h = absurd (omega arith)
height_some (x ∷ r) b e h = elim (something_runs b) [ inl is ↦ absurd (more_is_not_done (e ∙ is)) | inr k ↦ k ]
  where
    more_is_not_done : {at : ℕ} {c : s.Stm} {proofs : List s.Proof} {b : Block} → more at c proofs b ≡ done → ⊥
    more_is_not_done e = cc
