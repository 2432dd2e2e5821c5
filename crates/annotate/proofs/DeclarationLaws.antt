-- The obligations of declarations don't depend on proofs.
use Rattle.std.proofs.Common.{◌≡◌, ℕ, ◌==◌, ◌||◌, ◌&&◌, List, [], ◌∷◌, ◌++◌, map, Bool, refl, sym, ap, ◌∙◌, if◌then◌else◌}
use Rattle.std.specs.Prelude.{flat_map}
use Rattle.std.specs.List.{list_all, range_with_len}
use Rattle.std.proofs.lemmas.List.{length-map}
use Rattle.cov_expr.specs.Trees.{vars}
use Rattle.cov_ast.specs.Declarations.{class_of, have_assumed, lists, name_of}
use Rattle.cov_ast.specs.Obligations.{Obligation, declared_obligation}
use Rattle.cov_ast.specs.Plain.{plain}
use Rattle.cov_ast.specs.Syntax.{Cert, Lock, Thread, Program}
use Rattle.cov_ast.specs.declared.refusal.Detail.TheVariants.{Two}
use Rattle.cov_ast.specs.declared.refusal.Rule.TheVariants.{W7}
use Rattle.policy_class.specs.Policy.{policy_obligations}
use Rattle.lock_spec.specs.Locks.{lock_obligations}
use Rattle.mode_compat.specs.Compatible.{mode_obligations, threads_of, w6_obligations, w7_obligations, w8_obligations, w9_obligations, w9_pair}
use Rattle.mode_compat.specs.Declared.{declaration_obligations}
use Rattle.annotate.specs.WithCertificates.{program_without_proofs, put_in_program, thread_without_proofs}
use Rattle.annotate.proofs.PlacedLaws.{numbered_same, program_kept}

module _ (p : Program) where
  abbrev without : Program
  without = program_without_proofs p

  policy_same : policy_obligations without ≡ policy_obligations p
  policy_same = refl

  locks_same : lock_obligations without ≡ lock_obligations p
  locks_same = refl

  w6_same : (hs : List Thread) → flat_map (w6_obligations without) (map thread_without_proofs hs) ≡ flat_map (w6_obligations p) hs
  w6_same [] = refl
  w6_same (h ∷ hs) = ap (λ es. w6_obligations p h ++ es) (w6_same hs)

  w8_same : (hs : List Thread) → flat_map (w8_obligations without) (map thread_without_proofs hs) ≡ flat_map (w8_obligations p) hs
  w8_same [] = refl
  w8_same (h ∷ hs) = ap (λ es. w8_obligations p h ++ es) (w8_same hs)

  assumed_by : (c : ℕ) (hs : List Thread) → list_all (λ t. have_assumed t.modes c) (map thread_without_proofs hs) ≡ list_all (λ t. have_assumed t.modes c) hs
  assumed_by c [] = refl
  assumed_by c (h ∷ hs) = ap (λ b. have_assumed h.modes c && b) (assumed_by c hs)

  -- W7, where a test says whether every thread assumes a variable
  abbrev controls_kept : (ℕ → Bool) → Lock → List Obligation
  controls_kept test l =
      flat_map (λ x. map (λ c. declared_obligation W7 l.at (Two (name_of (plain p) x) (name_of (plain p) c)) (lists l c || test c)) (vars (class_of (plain p) x)))
      (l.nowrite ++ l.hide)

  w7_same : flat_map (w7_obligations without) p.locks ≡ flat_map (w7_obligations p) p.locks
  w7_same = λ i. flat_map (controls_kept (λ c. assumed_by c p.threads i)) p.locks

  -- W9, where the threads of numbers are given
  abbrev pairs_of : (ℕ → Thread) → List ℕ → List Obligation
  pairs_of threads ts = flat_map (λ t. flat_map (λ u. if t == u then [] else w9_pair p (threads t) (threads u)) ts) ts

  w9_same : flat_map (w9_obligations without) (threads_of without) ≡ flat_map (w9_obligations p) (threads_of p)
  w9_same = λ i. pairs_of (λ t. numbered_same p t i) (range_with_len 0 (length-map p.threads thread_without_proofs i))

  modes_same : mode_obligations without ≡ mode_obligations p
  modes_same = λ i. w6_same p.threads i ++ w7_same i ++ w8_same p.threads i ++ w9_same i

  declarations_same : declaration_obligations without ≡ declaration_obligations p
  declarations_same = λ i. policy_same i ++ locks_same i ++ modes_same i

pub declarations_kept : (chosen : (t place : ℕ) → List (ℕ × Cert)) (p : Program) → declaration_obligations (put_in_program chosen p) ≡ declaration_obligations p
declarations_kept chosen p =
    sym (declarations_same (put_in_program chosen p)) ∙ ap declaration_obligations (program_kept chosen p) ∙ declarations_same p
