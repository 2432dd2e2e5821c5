-- Ids of names leave the places and the size of statements as they are, and put nothing out.
use Rattle.std.proofs.Common.{◌≡◌, ℕ, ◌+◌, ◌<◌, ◌==◌, List, [], ◌∷◌, ◌++◌, map, refl, subst, sym, ap, ap₂, ◌∙◌, Option, Some, None, All}
use Rattle.std.specs.Prelude.{option_map, sum_by}
use Rattle.std.proofs.lemmas.List.Sums.{sum_by-cons}
use Rattle.std.proofs.lemmas.List.Elements.{All-map, All-weaker}
use Rattle.cov_expr.specs.Term.{Term, const, var, neg, bin}
use Rattle.cov_expr.specs.Trees.{nodes}
use Rattle.cov_ast.specs.Syntax.{State, Stm, Block, done, more, Thread}
use Rattle.cov_ast.specs.Syntax as s
use Rattle.cov_ast.specs.WellFormed.{places_within, places, types_size, state_size, type_size, stm_size, block_size, are_distinct, IsBodyFine, IsSilent, IsSilentStm, most_size}
use Rattle.policy_class.specs.Resolved as spec

-- sums over lists that are made item by item
sums_same : {X : Type 0} (f : X → ℕ) (g : X → X) → ((x : X) → f (g x) ≡ f x) → (xs : List X) → sum_by f (map g xs) ≡ sum_by f xs
sums_same f g h [] = refl
sums_same f g h (x ∷ xs) = sum_by-cons f (g x) (map g xs) ∙ ap₂ (λ a b. a + b) (h x) (sums_same f g h xs) ∙ sym (sum_by-cons f x xs)

module _ (v l : ℕ → ℕ) where
  nodes_same : (e : Term) → nodes (spec.resolved_term v l e) ≡ nodes e
  nodes_same (const k) = refl
  nodes_same (var x) = refl
  nodes_same (neg e) = ap (λ n. n + 1) (nodes_same e)
  nodes_same (bin op a b) = ap₂ (λ m n. m + n + 1) (nodes_same a) (nodes_same b)

  types_same : (ts : List (ℕ × Term)) → types_size (map (spec.resolved_type v l) ts) ≡ types_size ts
  types_same ts = sums_same (λ t. nodes t.1 + 1) (spec.resolved_type v l) (λ t. ap (λ n. n + 1) (nodes_same t.1)) ts

  state_same : (j : State) → state_size (spec.resolved_state v l j) ≡ state_size j
  state_same j = ap₂ (λ a b. a + b) (sums_same (λ e. nodes e + 1) (spec.resolved_term v l) (λ e. ap (λ n. n + 1) (nodes_same e)) j.preds) (types_same j.types)

  type_same : (q : Option Term) → type_size (option_map (spec.resolved_term v l) q) ≡ type_size q
  type_same None = refl
  type_same (Some e) = nodes_same e

  mutual
    within_same : (c : Stm) → places_within (spec.resolved_stm v l c) ≡ places_within c
    within_same (s.branch e a b join) = ap₂ (λ xs ys. xs ++ ys) (places_same a) (places_same b)
    within_same (s.loop e inv b) = places_same b
    within_same _ = refl

    places_same : (b : Block) → places (spec.resolved_block v l b) ≡ places b
    places_same done = refl
    places_same (more at c proofs b) = ap₂ (λ xs ys. at ∷ xs ++ ys) (within_same c) (places_same b)

  mutual
    stm_same : (c : Stm) → stm_size (spec.resolved_stm v l c) ≡ stm_size c
    stm_same (s.assign x e q retypes) = λ i. nodes_same e i + type_same q i + types_same retypes i
    stm_same (s.branch e a b join) = λ i. nodes_same e i + block_same a i + block_same b i + state_same join i
    stm_same (s.loop e inv b) = λ i. nodes_same e i + state_same inv i + block_same b i
    stm_same (s.note j) = state_same j
    stm_same (s.output e) = nodes_same e
    stm_same _ = refl

    block_same : (b : Block) → block_size (spec.resolved_block v l b) ≡ block_size b
    block_same done = refl
    block_same (more at c proofs b) = ap₂ (λ m n. 1 + m + n) (stm_same c) (block_same b)

  mutual
    stm_silent : (c : Stm) → IsSilentStm c → IsSilentStm (spec.resolved_stm v l c)
    stm_silent (s.branch e a b join) h = (block_silent a h.0, block_silent b h.1)
    stm_silent (s.loop e inv b) h = block_silent b h
    stm_silent _ h = h

    block_silent : (b : Block) → IsSilent b → IsSilent (spec.resolved_block v l b)
    block_silent done h = h
    block_silent (more at c proofs b) h = (stm_silent c h.0, block_silent b h.1)

  pub bodies_silent : (ts : List Thread) → All (λ t. IsSilent t.body) ts → All (λ t. IsSilent t.body) (map (spec.resolved_thread v l) ts)
  bodies_silent ts h = All-map (λ t. IsSilent t.body) (spec.resolved_thread v l) ts (All-weaker _ _ (λ t. block_silent t.body) ts h)

  body_fine : (b : Block) → IsBodyFine b → IsBodyFine (spec.resolved_block v l b)
  body_fine b h = record {
    places_differ = ap (are_distinct (◌==◌)) (places_same b) ∙ h.places_differ;
    small = subst (λ n. n < most_size) (sym (block_same b)) h.small;
  }

  pub bodies_fine : (ts : List Thread) → All (λ t. IsBodyFine t.body) ts → All (λ t. IsBodyFine t.body) (map (spec.resolved_thread v l) ts)
  bodies_fine ts h = All-map (λ t. IsBodyFine t.body) (spec.resolved_thread v l) ts (All-weaker _ _ (λ t. body_fine t.body) ts h)
