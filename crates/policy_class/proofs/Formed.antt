-- A program by the ids of its names is well formed, where each name that is used is declared.
use Rattle.std.proofs.Common.{◌≡◌, inl, inr, ℕ, ◌<◌, ◌≤◌, ◌==◌, List, [], ◌++◌, false, map, cond, subst, sym, ap, ◌∙◌, arith, Option, Some, None, All}
use Rattle.std.specs.Prelude.{flat_map, option_map}
use Rattle.std.proofs.lemmas.Bool.{eq-eqb, ne_eqb}
use Rattle.std.proofs.lemmas.List.Elements.{All-map}
use Rattle.cov_expr.specs.Term.{Term, const, var, neg, bin}
use Rattle.cov_expr.specs.Words.{HasVarsBelow}
use Rattle.cov_expr.specs.declared.expr.TheConstants.{HOLE}
use Rattle.cov_ast.specs.Syntax.{Class, low, high, when, Var, Lock, Modes, State, Cert, Proof, Stm, Block, done, more, Thread}
use Rattle.cov_ast.specs.Syntax as s
use Rattle.cov_ast.specs.Plain.{class_term}
use Rattle.cov_ast.specs.Declarations.{invariant_term}
use Rattle.cov_ast.specs.WellFormed.{IsTemplateBelow, AreInRange, AreTypesInRange, IsStateInRange, IsCertInRange, IsTypeInRange, IsStmInRange, IsBlockInRange, IsLockInRange, AreModesInRange, IsThreadInRange, AreIdsInRange}
use Rattle.cov_ast.specs.Ready.{Use, as_variable, uses_in, uses_in_option, uses_in_type, uses_in_state, uses_in_cert, uses_in_proof, uses_in_stm, uses_in_block, uses_in_class, uses_in_lock, uses_in_modes, uses_in_thread}
use Rattle.policy_class.specs.Resolved as spec
use Rattle.policy_class.proofs.Each.{Each, each_parts, flat_each}

-- The ids of the text are below a bound, which is no hole; two functions give the ids of variables and of locks.
module _ (n : ℕ) (few : n ≤ HOLE) (vars locks : ℕ) (v l : ℕ → ℕ) where
  -- the id of a use is that of a declaration
  abbrev pub IsDeclaredId : Use → Type 0
  IsDeclaredId u = cond u.lock (l u.name) (v u.name) < cond u.lock locks vars

  abbrev AreDeclaredIds : List Use → Type 0
  AreDeclaredIds us = Each IsDeclaredId us

  parts : (a b : List Use) → AreDeclaredIds (a ++ b) → AreDeclaredIds a × AreDeclaredIds b
  parts a b h = each_parts IsDeclaredId a b h

  no_hole : (x : ℕ) → x < n → (x == HOLE) ≡ false
  no_hole x h = ne_eqb x HOLE (λ e. omega (arith, e, few, h))

  of_id : (x : ℕ) → x < n → v x < vars → spec.resolved_var v l x < vars
  of_id x h k = subst (λ b. cond b x (v x) < vars) (sym (no_hole x h)) k

  of_variable : (x : ℕ) → x < n → AreDeclaredIds (as_variable x) → spec.resolved_var v l x < vars
  of_variable x h k = of_id x h k.0

  of_var_term : (x : ℕ) → x < n → AreDeclaredIds (uses_in (var x)) → spec.resolved_var v l x < vars
  of_var_term x h k = of_variable x h (subst (λ b. AreDeclaredIds (cond b [] (as_variable x))) (no_hole x h) k)

  of_term : (e : Term) → HasVarsBelow e n → AreDeclaredIds (uses_in e) → HasVarsBelow (spec.resolved_term v l e) vars
  of_term (const k) h u = tt
  of_term (var x) h u = of_var_term x h u
  of_term (neg e) h u = of_term e h u
  of_term (bin op a b) h u = let us = parts (uses_in a) (uses_in b) u in (of_term a h.0 us.0, of_term b h.1 us.1)

  of_template : (e : Term) → IsTemplateBelow e n → AreDeclaredIds (uses_in e) → IsTemplateBelow (spec.resolved_term v l e) vars
  of_template (const k) h u = tt
  of_template (var x) (inl h) u = inl (of_var_term x h u)
  of_template (var x) (inr e) u = inr (ap (λ b. cond b x (v x)) (eq-eqb x HOLE e) ∙ e)
  of_template (neg e) h u = of_template e h u
  of_template (bin op a b) h u = let us = parts (uses_in a) (uses_in b) u in (of_template a h.0 us.0, of_template b h.1 us.1)

  of_option : (q : Option Term) → IsTypeInRange n n q → AreDeclaredIds (uses_in_option q) → IsTypeInRange vars locks (option_map (spec.resolved_term v l) q)
  of_option None h u = tt
  of_option (Some e) h u = of_term e h u

  abbrev IsTypeBelow : ℕ → ℕ × Term → Type 0
  IsTypeBelow m t = (t.0 < m) × HasVarsBelow t.1 m

  of_type : (t : ℕ × Term) → IsTypeBelow n t → AreDeclaredIds (uses_in_type t) → IsTypeBelow vars (spec.resolved_type v l t)
  of_type t h u = let us = parts (as_variable t.0) (uses_in t.1) u in (of_variable t.0 h.0 us.0, of_term t.1 h.1 us.1)

  of_types : (ts : List (ℕ × Term)) → AreTypesInRange n n ts → AreDeclaredIds (flat_map uses_in_type ts) → AreTypesInRange vars locks (map (spec.resolved_type v l) ts)
  of_types ts h u =
      All-map (IsTypeBelow vars) (spec.resolved_type v l) ts
      (flat_each IsDeclaredId uses_in_type (IsTypeBelow n) (λ t. IsTypeBelow vars (spec.resolved_type v l t)) of_type ts h u)

  of_terms : (es : List Term) → All (λ e. HasVarsBelow e n) es → AreDeclaredIds (flat_map uses_in es) → All (λ e. HasVarsBelow e vars) (map (spec.resolved_term v l) es)
  of_terms es h u =
      All-map (λ e. HasVarsBelow e vars) (spec.resolved_term v l) es
      (flat_each IsDeclaredId uses_in (λ e. HasVarsBelow e n) (λ e. HasVarsBelow (spec.resolved_term v l e) vars) of_term es h u)

  of_state : (j : State) → IsStateInRange n n j → AreDeclaredIds (uses_in_state j) → IsStateInRange vars locks (spec.resolved_state v l j)
  of_state j h u =
      let us = parts (flat_map uses_in j.preds) (flat_map uses_in_type j.types) u in
      record { preds = of_terms j.preds h.preds us.0; types = of_types j.types h.types us.1 }

  of_cert : (c : Cert) → IsCertInRange n n c → AreDeclaredIds (uses_in_cert c) → IsCertInRange vars locks (spec.resolved_cert v l c)
  of_cert s.auto h u = tt
  of_cert (s.hyp i) h u = tt
  of_cert s.calc h u = tt
  of_cert (s.clash i) h u = tt
  of_cert (s.and c d) h u = let us = parts (uses_in_cert c) (uses_in_cert d) u in (of_cert c h.0 us.0, of_cert d h.1 us.1)
  of_cert (s.left c) h u = of_cert c h u
  of_cert (s.right c) h u = of_cert c h u
  of_cert (s.unpack i c) h u = of_cert c h u
  of_cert (s.cases i c d) h u = let us = parts (uses_in_cert c) (uses_in_cert d) u in (of_cert c h.0 us.0, of_cert d h.1 us.1)
  of_cert (s.split e c d) h u =
      let us = parts (uses_in e ++ uses_in_cert c) (uses_in_cert d) u in
      let first = parts (uses_in e) (uses_in_cert c) us.0 in
      (of_term e h.0 first.0, of_cert c h.1 first.1, of_cert d h.2 us.1)
  of_cert (s.have e c d) h u =
      let us = parts (uses_in e ++ uses_in_cert c) (uses_in_cert d) u in
      let first = parts (uses_in e) (uses_in_cert c) us.0 in
      (of_term e h.0 first.0, of_cert c h.1 first.1, of_cert d h.2 us.1)
  of_cert (s.absurdity i j) h u = tt
  of_cert (s.negation c) h u = of_cert c h u
  of_cert (s.contra c) h u = of_cert c h u
  of_cert s.reflexive h u = tt
  of_cert (s.fwd i e c) h u = let us = parts (uses_in e) (uses_in_cert c) u in (of_template e h.0 us.0, of_cert c h.1 us.1)
  of_cert (s.rev i e c) h u = let us = parts (uses_in e) (uses_in_cert c) u in (of_template e h.0 us.0, of_cert c h.1 us.1)
  of_cert (s.instance k es c) h u = let us = parts (flat_map uses_in es) (uses_in_cert c) u in (of_terms es h.0 us.0, of_cert c h.1 us.1)
  of_cert s.ring h u = tt
  of_cert s.range h u = tt

  of_proofs : (ps : List Proof) → All (λ p. IsCertInRange n n p.cert) ps → AreDeclaredIds (flat_map uses_in_proof ps)
      → All (λ p. IsCertInRange vars locks p.cert) (map (spec.resolved_proof v l) ps)
  of_proofs ps h u =
      All-map (λ p. IsCertInRange vars locks p.cert) (spec.resolved_proof v l) ps
      (flat_each IsDeclaredId uses_in_proof (λ p. IsCertInRange n n p.cert) (λ p. IsCertInRange vars locks (spec.resolved_cert v l p.cert))
      (λ p k u. of_cert p.cert k u) ps h u)

  mutual
    of_stm : (c : Stm) (proofs : List Proof) → IsStmInRange n n c → AreDeclaredIds (uses_in_stm c proofs)
        → IsStmInRange vars locks (spec.resolved_stm v l c) × AreDeclaredIds (flat_map uses_in_proof proofs)
    of_stm s.skip proofs h u = (tt, u)
    of_stm (s.assign x e q retypes) proofs h u =
        let a = parts (as_variable x ++ uses_in e ++ uses_in_option q ++ flat_map uses_in_type retypes) (flat_map uses_in_proof proofs) u in
        let b = parts (as_variable x ++ uses_in e ++ uses_in_option q) (flat_map uses_in_type retypes) a.0 in
        let c = parts (as_variable x ++ uses_in e) (uses_in_option q) b.0 in
        let d = parts (as_variable x) (uses_in e) c.0 in
        ((of_variable x h.0 d.0, of_term e h.1 d.1, of_option q h.2 c.1, of_types retypes h.3 b.1), a.1)
    of_stm (s.branch e x y join) proofs h u =
        let a = parts (uses_in e ++ uses_in_block x ++ uses_in_block y ++ uses_in_state join) (flat_map uses_in_proof proofs) u in
        let b = parts (uses_in e ++ uses_in_block x ++ uses_in_block y) (uses_in_state join) a.0 in
        let c = parts (uses_in e ++ uses_in_block x) (uses_in_block y) b.0 in
        let d = parts (uses_in e) (uses_in_block x) c.0 in
        ((of_term e h.0 d.0, of_block x h.1 d.1, of_block y h.2 c.1, of_state join h.3 b.1), a.1)
    of_stm (s.loop e inv x) proofs h u =
        let a = parts (uses_in e ++ uses_in_state inv ++ uses_in_block x) (flat_map uses_in_proof proofs) u in
        let b = parts (uses_in e ++ uses_in_state inv) (uses_in_block x) a.0 in
        let c = parts (uses_in e) (uses_in_state inv) b.0 in
        ((of_term e h.0 c.0, of_state inv h.1 c.1, of_block x h.2 b.1), a.1)
    of_stm (s.note j) proofs h u = let a = parts (uses_in_state j) (flat_map uses_in_proof proofs) u in (of_state j h a.0, a.1)
    of_stm (s.output e) proofs h u = let a = parts (uses_in e) (flat_map uses_in_proof proofs) u in (of_term e h a.0, a.1)
    of_stm _ proofs h u = u

    of_block : (b : Block) → IsBlockInRange n n b → AreDeclaredIds (uses_in_block b) → IsBlockInRange vars locks (spec.resolved_block v l b)
    of_block done h u = tt
    of_block (more at c proofs b) h u =
        let a = parts (uses_in_stm c proofs) (uses_in_block b) u in
        let made = of_stm c proofs h.0 a.0 in
        (made.0, of_proofs proofs h.1 made.1, of_block b h.2 a.1)

  pub of_class : (c : Class) → HasVarsBelow (class_term c) n → AreDeclaredIds (uses_in_class c) → HasVarsBelow (class_term (spec.resolved_class v l c)) vars
  of_class low h u = tt
  of_class high h u = tt
  of_class (when e) h u = of_term e h u

  of_numbers : (xs : List ℕ) → AreInRange n n xs → AreDeclaredIds (flat_map as_variable xs) → AreInRange vars locks (map (spec.resolved_var v l) xs)
  of_numbers xs h u =
      All-map (λ x. x < vars) (spec.resolved_var v l) xs
      (flat_each IsDeclaredId as_variable (λ x. x < n) (λ x. spec.resolved_var v l x < vars) of_variable xs h u)

  of_invariant : (e : Option Term) → HasVarsBelow (invariant_term e) n → AreDeclaredIds (uses_in_option e)
      → HasVarsBelow (invariant_term (option_map (spec.resolved_term v l) e)) vars
  of_invariant None h u = tt
  of_invariant (Some e) h u = of_term e h u

  pub of_lock : (k : Lock) → IsLockInRange n n k → AreDeclaredIds (uses_in_lock k) → IsLockInRange vars locks (spec.resolved_lock v l k)
  of_lock k h u =
      let a = parts (flat_map as_variable k.nowrite ++ flat_map as_variable k.hide) (uses_in_option k.inv) u in
      let b = parts (flat_map as_variable k.nowrite) (flat_map as_variable k.hide) a.0 in
      record { nowrite = of_numbers k.nowrite h.nowrite b.0; hide = of_numbers k.hide h.hide b.1; invariant = of_invariant k.inv h.invariant a.1 }

  of_modes : (m : Modes) → AreModesInRange n n m → AreDeclaredIds (uses_in_modes m) → AreModesInRange vars locks (spec.resolved_modes v l m)
  of_modes m h u =
      let a =
      parts (flat_map as_variable m.assume_nowrite ++ flat_map as_variable m.assume_hide ++ flat_map as_variable m.guarantee_nowrite)
      (flat_map as_variable m.guarantee_hide) u in
      let b = parts (flat_map as_variable m.assume_nowrite ++ flat_map as_variable m.assume_hide) (flat_map as_variable m.guarantee_nowrite) a.0 in
      let c = parts (flat_map as_variable m.assume_nowrite) (flat_map as_variable m.assume_hide) b.0 in
      record {
        assume_nowrite = of_numbers m.assume_nowrite h.assume_nowrite c.0;
        assume_hide = of_numbers m.assume_hide h.assume_hide c.1;
        guarantee_nowrite = of_numbers m.guarantee_nowrite h.guarantee_nowrite b.1;
        guarantee_hide = of_numbers m.guarantee_hide h.guarantee_hide a.1;
      }

  pub of_thread : (t : Thread) → IsThreadInRange n n t → AreDeclaredIds (uses_in_thread t) → IsThreadInRange vars locks (spec.resolved_thread v l t)
  of_thread t h u =
      let a = parts (uses_in_modes t.modes) (uses_in_block t.body) u in
      record { modes = of_modes t.modes h.modes a.0; body = of_block t.body h.body a.1 }

  -- of declarations in order
  pub ids_resolved : (variables : List Var) (declared_locks : List Lock) (threads : List Thread) → AreIdsInRange n n variables declared_locks threads
      → AreDeclaredIds (flat_map (λ v. uses_in_class v.class) variables ++ flat_map uses_in_lock declared_locks ++ flat_map uses_in_thread threads)
      → AreIdsInRange vars locks (map (spec.resolved_variable v l) variables) (map (spec.resolved_lock v l) declared_locks) (map (spec.resolved_thread v l) threads)
  ids_resolved variables declared_locks threads h u =
      let a = parts (flat_map (λ v. uses_in_class v.class) variables ++ flat_map uses_in_lock declared_locks) (flat_map uses_in_thread threads) u in
      let b = parts (flat_map (λ v. uses_in_class v.class) variables) (flat_map uses_in_lock declared_locks) a.0 in
      record {
        classes =
            All-map (λ w. HasVarsBelow (class_term w.class) vars) (spec.resolved_variable v l) variables
            (flat_each IsDeclaredId (λ w. uses_in_class w.class) (λ w. HasVarsBelow (class_term w.class) n)
            (λ w. HasVarsBelow (class_term (spec.resolved_class v l w.class)) vars) (λ w k u. of_class w.class k u) variables h.classes b.0);
        of_locks =
            All-map (IsLockInRange vars locks) (spec.resolved_lock v l) declared_locks
            (flat_each IsDeclaredId uses_in_lock (IsLockInRange n n) (λ k. IsLockInRange vars locks (spec.resolved_lock v l k)) of_lock declared_locks h.of_locks b.1);
        of_threads =
            All-map (IsThreadInRange vars locks) (spec.resolved_thread v l) threads
            (flat_each IsDeclaredId uses_in_thread (IsThreadInRange n n) (λ t. IsThreadInRange vars locks (spec.resolved_thread v l t)) of_thread threads h.of_threads a.1);
      }
