use Rattle.std.proofs.Common.{◌∙◌, ap, map}
use Rattle.cov_expr.specs.Lends.{refilled}
use Rattle.cov_expr.specs.Words.{HasWords}
use Rattle.cov_ast.specs.Declarations.{invariant_term}
use Rattle.cov_ast.specs.Plain.{class_term}
use Rattle.cov_ast.specs.View as view
use Rattle.cov_ast.specs.WellFormed.{BlockHasWords}
use Rattle.policy_class.specs.Inside.Ids.{var_in, lock_in}
use Rattle.policy_class.specs.Resolved.{resolved_variable, resolved_lock, resolved_thread}
use Rattle.policy_class.proofs.BlockLaws.{tables_resolve}
use Rattle.policy_class.proofs.WalkLaws.{lent_changed, lent_words}
use Rattle.policy_class.proofs.programs.resolved_program.Goals as goal

pub returns-clause-resolved : goal.returns-clause-resolved
returns-clause-resolved c =
    let p = c.args.p in
    let parts = c.into_parts-version.result in
    let is = c.into_parts-version.ensures in
    let v = var_in c.args.ids.now in
    let l = lock_in c.args.ids.now in
    (λ i. record {
      version = (is i).0;
      vars = map view.var (refilled parts.1 c.resolve_vars.new.vars);
      locks = map view.lock (refilled parts.2 c.resolve_locks.new.locks);
      threads = map view.thread (refilled parts.3 c.resolve_threads.new.threads);
    })
    ∙ tables_resolve (view.parsed p) c.args.ids.now c.requires
    (map view.var (refilled parts.1 c.resolve_vars.new.vars)) (map view.lock (refilled parts.2 c.resolve_locks.new.locks))
    (map view.thread (refilled parts.3 c.resolve_threads.new.threads))
    (lent_changed view.var (resolved_variable v l) (λ w. HasWords (class_term w.class)) parts.1 c.as_mut_slice.result.now c.resolve_vars.new.vars
    c.as_mut_slice.ensures.value c.resolve_vars.ensures.resolved ∙ ap (λ q. map (resolved_variable v l) (map view.var q.1)) is)
    (lent_changed view.lock (resolved_lock v l) (λ k. HasWords (invariant_term k.inv)) parts.2 c.as_mut_slice-2.result.now c.resolve_locks.new.locks
    c.as_mut_slice-2.ensures.value c.resolve_locks.ensures.resolved ∙ ap (λ q. map (resolved_lock v l) (map view.lock q.2)) is)
    (lent_changed view.thread (resolved_thread v l) (λ t. BlockHasWords t.body) parts.3 c.as_mut_slice-3.result.now c.resolve_threads.new.threads
    c.as_mut_slice-3.ensures.value c.resolve_threads.ensures.resolved ∙ ap (λ q. map (resolved_thread v l) (map view.thread q.3)) is)

pub returns-clause-words : goal.returns-clause-words
returns-clause-words c =
    let parts = c.into_parts-version.result in
    let v = var_in c.args.ids.now in
    let l = lock_in c.args.ids.now in
    record {
      classes =
          lent_words view.var (resolved_variable v l) (λ w. HasWords (class_term w.class)) parts.1 c.as_mut_slice.result.now c.resolve_vars.new.vars
          c.as_mut_slice.ensures.value c.resolve_vars.ensures.resolved c.resolve_vars.ensures.words;
      invariants =
          lent_words view.lock (resolved_lock v l) (λ k. HasWords (invariant_term k.inv)) parts.2 c.as_mut_slice-2.result.now c.resolve_locks.new.locks
          c.as_mut_slice-2.ensures.value c.resolve_locks.ensures.resolved c.resolve_locks.ensures.words;
      bodies =
          lent_words view.thread (resolved_thread v l) (λ t. BlockHasWords t.body) parts.3 c.as_mut_slice-3.result.now c.resolve_threads.new.threads
          c.as_mut_slice-3.ensures.value c.resolve_threads.ensures.resolved c.resolve_threads.ensures.words;
    }
