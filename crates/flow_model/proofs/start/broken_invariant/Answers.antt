use Rattle.std.proofs.Common.{◌≡◌, ℕ, ◌<◌, ◌&&◌, List, length, map, get_or, ap, sym, subst, ◌∙◌, arith, below_more}
use Rattle.std.proofs.lemmas.Bool.{not_from_false, not_from_true}
use Rattle.std.proofs.lemmas.List.{length-map}
use Rattle.cov_expr.specs.Words.{HasVarsBelow}
use Rattle.cov_ast.specs.Declarations.{invariant_term}
use Rattle.cov_ast.specs.Plain.{plain}
use Rattle.cov_ast.specs.WellFormed.{IsWellFormed}
use Rattle.cov_ast.specs.View as view
use Rattle.cov_ast.specs.declared.decl.LockDecl.{LockDecl}
use Rattle.cov_ast.specs.declared.decl.Program.{Program}
use Rattle.cov_ast.proofs.WellFormedLaws.{lock_in_range}
use Rattle.flow_model.specs.FirstDifference.{is_broken, is_true_in}
use Rattle.flow_model.proofs.Apart.{invariant_seen}
use Rattle.flow_model.proofs.Firsts.{found, none_found}
use Rattle.flow_model.proofs.start.broken_invariant.Goals as goal

in_memory : (p : Program) (m : List ℕ) → IsWellFormed (view.program p) → length m ≡ length p.vars → (l : ℕ) (k : LockDecl)
    → l < length p.locks → k ≡ get_or p.locks l k → HasVarsBelow (invariant_term (view.lock k).inv) (length m)
in_memory p m formed long l k inside is = subst (HasVarsBelow (invariant_term (view.lock k).inv)) (sym long) (lock_in_range p formed l k inside is).invariant

pub holds_in_both-requires-clause-first_memory : goal.holds_in_both-requires-clause-first_memory
holds_in_both-requires-clause-first_memory c =
    in_memory c.args.p.now c.args.m1.now c.requires.formed c.requires.first_memory c.loop-l.l c.lock-item.result
    (rw c.as_slice-lock-items.ensures at c.loop-l-test.true) (rw c.as_slice-lock-items.ensures at c.lock-item.is)

pub holds_in_both-requires-clause-second_memory : goal.holds_in_both-requires-clause-second_memory
holds_in_both-requires-clause-second_memory c =
    in_memory c.args.p.now c.args.m2.now c.requires.formed c.requires.second_memory c.loop-l.l c.lock-item.result
    (rw c.as_slice-lock-items.ensures at c.loop-l-test.true) (rw c.as_slice-lock-items.ensures at c.lock-item.is)

pub loop-l-preserved : goal.loop-l-preserved
loop-l-preserved c =
    below_more _ _ c.loop-l.invariant
    (not_from_true _
    (ap (λ e. is_true_in e c.args.m1.now && is_true_in e c.args.m2.now)
    (sym (invariant_seen c.args.p.now c.loop-l.l c.lock-item.result
    (rw c.as_slice-lock-items.ensures at c.loop-l-test.true) (rw c.as_slice-lock-items.ensures at c.lock-item.is)))
    ∙ sym c.holds_in_both.ensures ∙ c.if-not-holds_in_both.false))

pub returns-then-not-holds_in_both : goal.returns-then-not-holds_in_both
returns-then-not-holds_in_both c =
    let p = plain (view.program c.args.p.now) in
    found (is_broken p c.args.m1.now c.args.m2.now) (length (map view.lock c.args.p.now.locks)) c.loop-l.l
    (omega (arith, length-map c.args.p.now.locks view.lock, rw c.as_slice-lock-items.ensures at c.loop-l-test.true))
    (not_from_false _
    (ap (λ e. is_true_in e c.args.m1.now && is_true_in e c.args.m2.now)
    (sym (invariant_seen c.args.p.now c.loop-l.l c.lock-item.result
    (rw c.as_slice-lock-items.ensures at c.loop-l-test.true) (rw c.as_slice-lock-items.ensures at c.lock-item.is)))
    ∙ sym c.holds_in_both.ensures ∙ c.if-not-holds_in_both.true))
    c.loop-l.invariant

pub returns : goal.returns
returns c =
    let p = plain (view.program c.args.p.now) in
    none_found (is_broken p c.args.m1.now c.args.m2.now) (length (map view.lock c.args.p.now.locks))
    (λ k h. c.loop-l.invariant k (omega (arith, length-map c.args.p.now.locks view.lock, rw c.as_slice-lock-items.ensures at c.loop-l-test.false, h)))
