-- What two rules of names say of the program that a text stands for.
use Rattle.std.proofs.Common.{◌≡◌, ℕ, ◌<◌, ◌≤◌, List, [], ◌∷◌, ◌++◌, Bool, true, false, map, length, cond, refl, subst, sym, ap, ◌∙◌, arith, None, Result, Ok, Err, All}
use Rattle.std.specs.Prelude.{IsErrAnd, IsTrue}
use Rattle.std.specs.Str.{bytes_eq}
use Rattle.std.proofs.lemmas.List.{length-map}
use Rattle.std.proofs.lemmas.List.Elements.{All-cons, All-nil}
use Rattle.cov_expr.specs.declared.limits.TheConstants.{MOST_LOCKS}
use Rattle.cov_expr.specs.declared.expr.TheConstants.{HOLE}
use Rattle.cov_ast.specs.declared.parsed.NameUse.{NameUse}
use Rattle.cov_ast.specs.declared.refusal.CheckFault.{CheckFault}
use Rattle.cov_ast.specs.Syntax.{Parsed}
use Rattle.cov_ast.specs.Obligations.{Obligation, first_false, Decides}
use Rattle.cov_ast.specs.Ready.{IsReady, Use, use_of, uses_in_declarations}
use Rattle.cov_ast.specs.WellFormed.{AreOfWords, IsWellFormed, IsWithinLimits, are_distinct, names_of}
use Rattle.cov_ast.proofs.ObligationLaws.{append_refused, append_decided}
use Rattle.policy_class.specs.Resolved.{is_among, is_declared, use_obligation, without_value, var_id, lock_id, var_names, lock_names, text_of, resolved_variable, resolved_lock, resolved_thread, resolved}
use Rattle.policy_class.proofs.NameLaws.{head_holds}
use Rattle.policy_class.proofs.PositionLaws.{present}
use Rattle.policy_class.proofs.Each.{Each, each_listed}
use Rattle.policy_class.proofs.Formed.{ids_resolved}
use Rattle.policy_class.proofs.Bodies.{bodies_fine, bodies_silent}

-- Uses ---------------------------------------------------------------------------------------------------------

module _ (p : Parsed) where
  vars : ℕ
  vars = length (map (resolved_variable (var_id p) (lock_id p)) p.vars)

  locks : ℕ
  locks = length (map (resolved_lock (var_id p) (lock_id p)) p.locks)

  abbrev IsDeclaredId : ℕ → ℕ → Use → Type 0
  IsDeclaredId m k u = cond u.lock (lock_id p u.name) (var_id p u.name) < cond u.lock k m

  -- a use that is declared has its id among the declarations
  declared_resolved : (u : NameUse) → is_declared p u ≡ true → IsDeclaredId vars locks (use_of u)
  unfolding vars locks
  declared_resolved u h = go u.lock h
    where
      go : (b : Bool) → is_among (cond b (lock_names p) (var_names p)) (text_of p u.name) ≡ true
          → cond b (lock_id p u.name) (var_id p u.name)
          < cond b (length (map (resolved_lock (var_id p) (lock_id p)) p.locks)) (length (map (resolved_variable (var_id p) (lock_id p)) p.vars))
      go true k = omega (arith, present (bytes_eq (text_of p u.name)) (lock_names p) k, length-map p.locks (λ l. l.name), length-map p.locks (resolved_lock (var_id p) (lock_id p)))
      go false k = omega (arith, present (bytes_eq (text_of p u.name)) (var_names p) k, length-map p.vars (λ v. v.name), length-map p.vars (resolved_variable (var_id p) (lock_id p)))

  all_resolved : (us : List NameUse) → first_false (map (use_obligation p) us) ≡ None → Each (IsDeclaredId vars locks) (map use_of us)
  all_resolved [] h = tt
  all_resolved (u ∷ us) h =
      let parts = head_holds (use_obligation p u) (map (use_obligation p) us) h in
      (declared_resolved u parts.0, all_resolved us parts.1)

  -- Names and limits -------------------------------------------------------------------------------------------

  over : {X Y : Type 0} (f : Y → List ℕ) (h : X → List ℕ) (g : X → Y) → ((x : X) → f (g x) ≡ h x) → (xs : List X) → map f (map g xs) ≡ map h xs
  over f h g same [] = refl
  over f h g same (x ∷ xs) = λ i. same x i ∷ over f h g same xs i

  names_same : names_of (resolved p).vars (resolved p).locks (resolved p).threads ≡ names_of p.vars p.locks p.threads
  names_same = λ i.
      over (λ v. v.name) (λ v. v.name) (resolved_variable (var_id p) (lock_id p)) (λ v. refl) p.vars i
      ++ over (λ l. l.name) (λ l. l.name) (resolved_lock (var_id p) (lock_id p)) (λ l. refl) p.locks i
      ++ over (λ t. t.name) (λ t. t.name) (resolved_thread (var_id p) (lock_id p)) (λ t. refl) p.threads i

  limits_same : IsWithinLimits p.vars p.locks p.threads → IsWithinLimits (resolved p).vars (resolved p).locks (resolved p).threads
  limits_same h = record {
    variables = subst (λ n. n ≤ 256) (sym (length-map p.vars (resolved_variable (var_id p) (lock_id p)))) h.variables;
    declared_locks = subst (λ n. n ≤ MOST_LOCKS) (sym (length-map p.locks (resolved_lock (var_id p) (lock_id p)))) h.declared_locks;
    declared_threads = subst (λ n. n ≤ 16) (sym (length-map p.threads (resolved_thread (var_id p) (lock_id p)))) h.declared_threads;
  }

  -- where the names are in order, the program is well formed
  pub resolved_formed : IsReady p → length p.names ≤ HOLE → IsTrue (are_distinct bytes_eq (names_of p.vars p.locks p.threads))
      → first_false (map (use_obligation p) p.uses) ≡ None → AreOfWords (resolved p).vars (resolved p).locks (resolved p).threads → IsWellFormed (resolved p)
  unfolding vars locks
  resolved_formed ready few differ declared words = record {
    ids =
        ids_resolved (length p.names) few vars locks (var_id p) (lock_id p) p.vars p.locks p.threads ready.ids
        (each_listed (IsDeclaredId vars locks) (uses_in_declarations p) (map use_of p.uses) ready.uses (all_resolved p.uses declared));
    words = words;
    names_differ = ap (are_distinct bytes_eq) names_same ∙ differ;
    limits = limits_same ready.limits;
    bodies = bodies_fine (var_id p) (lock_id p) p.threads ready.bodies;
    version = record { known = ready.version.known; silent = λ first. bodies_silent (var_id p) (lock_id p) p.threads (ready.version.silent first) };
  }

-- Answers ------------------------------------------------------------------------------------------------------

-- what a call passes on of the fault of another, of the first obligations and of the rest
pub first_refused : {X : Type 0} (a b : List Obligation) (fault : CheckFault) (r : Result X CheckFault) → IsErrAnd r (λ f. f ≡ fault) → Decides a (Err fault)
    → Decides (a ++ b) (without_value r)
first_refused a b fault (Ok x) e h = absurd e
first_refused a b fault (Err f) e h = append_refused a b f (subst (λ g. Decides a (Err g)) (sym e) h)

pub rest_refused : {X : Type 0} (a b : List Obligation) (fault : CheckFault) (r : Result X CheckFault) → IsErrAnd r (λ f. f ≡ fault) → first_false a ≡ None
    → Decides b (Err fault) → Decides (a ++ b) (without_value r)
rest_refused a b fault (Ok x) e held h = absurd e
rest_refused a b fault (Err f) e held h = append_decided a b (Err f) held (subst (λ g. Decides b (Err g)) (sym e) h)
