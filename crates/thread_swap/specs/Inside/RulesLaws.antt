-- What the rules say of a thread is lawful, and exact.
use Rattle.std.proofs.Common.{◌≡◌, ℕ, zero, suc, ◌<◌, [], ◌∷◌, ◌++◌, length, get_or, replicate, refl, sym, subst, arith, Option, Some, None, IsTrue}
use Rattle.cov_ast.specs.Syntax.{Thread, Program}
use Rattle.cov_ast.specs.Obligations.{all_hold, first_false}
use Rattle.cov_ast.specs.Plain.{plain}
use Rattle.cov_ast.specs.WellFormed.{IsWellFormed, block_size, most_size}
use Rattle.cov_ast.specs.declared.refusal.Refusal.{Refusal}
use Rattle.mode_compat.specs.Compatible.{no_thread, numbered}
use Rattle.mode_compat.specs.Declared.{declaration_obligations}
use Rattle.point_law.specs.After.{start}
use Rattle.typing_law.specs.Counts.{counts}
use Rattle.typing_law.specs.ThreadObligations.{block_obligations, end_obligation, end_point, thread_obligations}
use Rattle.typing_law.proofs.Bounds.{few_entailments, few_places}
use Rattle.typing_law.proofs.Counting.{count_append}
use Rattle.thread_swap.specs.Judges.{IsSound, IsLawful, most_said, said_by, thread_part}
use Rattle.thread_swap.specs.RulesSay.{by_rules, rules_say}
use Rattle.thread_swap.specs.Inside.Lawful.{refused_is_lawful}
use Rattle.thread_swap.specs.Inside.SameThread.{thread_obligations_same, counts_same}

-- A thread alone -----------------------------------------------------------------------------------------------------

placed : (t : ℕ) (d : Thread) → get_or (replicate t no_thread ++ d ∷ []) t no_thread ≡ d
placed zero d = refl
placed (suc t) d = placed t d

-- what the rules say rests on what their judge is handed
pub rules_say_part : (p : Program) (t : ℕ) → rules_say p.vars p.locks t (numbered p t) ≡ thread_part p t
rules_say_part p t =
    let T = replicate t no_thread ++ numbered p t ∷ [] in
    let n : get_or T t no_thread ≡ get_or p.threads t no_thread = placed t (numbered p t) in
    let es = thread_obligations_same 1 p.version p.vars p.locks T p.threads t n in
    let cs = counts_same 1 p.version p.vars p.locks T p.threads t n in
    λ i. said_by (first_false (es i)) (cs i)

-- Bounds -------------------------------------------------------------------------------------------------------------

module _ (p : Program) (fine : IsWellFormed p) (t : ℕ) (inside : t < length p.threads) where
  small : block_size (numbered p t).body < most_size
  small = (fine.bodies t no_thread inside).small

  statements_few : (counts p t).statements < most_said
  statements_few = omega (arith, few_places (numbered p t).body, small)

  entailments_few : IsTrue (all_hold (declaration_obligations p)) → (counts p t).entailments < most_said
  entailments_few h =
      let body = (numbered p t).body in
      let obligations = block_obligations (plain p) t body (start (plain p) t) in
      let end = end_obligation (plain p) t (numbered p t).end (end_point p t).held ∷ [] in
      omega (
        arith,
        count_append obligations end,
        few_entailments p t fine h body (start (plain p) t) (fine.ids.of_threads t no_thread inside).body,
        small,
      )

  pub part_is_lawful : IsTrue (all_hold (declaration_obligations p)) → IsLawful t (thread_part p t)
  part_is_lawful h = go (first_false (thread_obligations p t)) refl
    where
      go : (o : Option Refusal) → first_false (thread_obligations p t) ≡ o → IsLawful t (said_by o (counts p t))
      go None e = (statements_few, entailments_few h)
      go (Some r) e = refused_is_lawful p t r e

pub rules_are_sound : (judged : ℕ) → IsSound (by_rules judged)
rules_are_sound judged = record {
  lawful = λ p fine declared t inside. subst (IsLawful t) (sym (rules_say_part p t)) (part_is_lawful p fine t inside declared);
  exactly = λ e p fine declared t inside. rules_say_part p t;
}
