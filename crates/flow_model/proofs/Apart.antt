-- Tests of single variables and locks, as the code makes them.
use Rattle.std.proofs.Common.{◌≡◌, ℕ, ◌<◌, ◌&&◌, List, length, get_or, Bool, true, false, not, None, sym, ◌∙◌, ap}
use Rattle.std.proofs.lemmas.Bool.{and_from, and_left, and_right, eq-eqb, ne_eqb, not_from_true, not_from_false}
use Rattle.std.proofs.Math.ListN.{get_or-map as get_or-at}
use Rattle.std.proofs.lemmas.List.{get_or-map}
use Rattle.cov_ast.specs.Declarations.{class_of, invariant_of, invariant_term, no_lock, no_var}
use Rattle.cov_ast.specs.Plain.{class_term, plain}
use Rattle.cov_ast.specs.declared.decl.LockDecl.{LockDecl}
use Rattle.cov_ast.specs.declared.decl.Program.{Program}
use Rattle.cov_ast.specs.declared.decl.VarDecl.{VarDecl}
use Rattle.cov_ast.specs.View as view
use Rattle.flow_model.specs.declared.machine.Holder.{Holder}
use Rattle.flow_model.specs.FirstDifference.{held_by, holders_of, same_holder, same_word}
use Rattle.flow_model.specs.Source.{holder}

pub apart : (m1 m2 : List ℕ) (x : ℕ) (b : Bool) → (get_or m1 x 0 ≡ get_or m2 x 0 → ⊥) → b ≡ true → (not (same_word m1 m2 x) && b) ≡ true
apart m1 m2 x b differ here = and_from (not (same_word m1 m2 x)) b (not_from_false (same_word m1 m2 x) (ne_eqb (get_or m1 x 0) (get_or m2 x 0) differ)) here

pub words_same : (m1 m2 : List ℕ) (x : ℕ) (b : Bool) → get_or m1 x 0 ≡ get_or m2 x 0 → (not (same_word m1 m2 x) && b) ≡ false
words_same m1 m2 x b same = and_left (not (same_word m1 m2 x)) b (not_from_true (same_word m1 m2 x) (eq-eqb (get_or m1 x 0) (get_or m2 x 0) same))

pub passed_over : (m1 m2 : List ℕ) (x : ℕ) (b : Bool) → b ≡ false → (not (same_word m1 m2 x) && b) ≡ false
passed_over m1 m2 x b here = and_right (not (same_word m1 m2 x)) b here

pub class_seen : (p : Program) (x : ℕ) (v : VarDecl) → x < length p.vars → v ≡ get_or p.vars x v → class_term (view.class v.class) ≡ class_of (plain (view.program p)) x
class_seen p x v inside is =
    ap (λ w. class_term w.class) (ap view.var is ∙ sym (get_or-map view.var p.vars x v no_var inside))

pub invariant_seen : (p : Program) (l : ℕ) (k : LockDecl) → l < length p.locks → k ≡ get_or p.locks l k
    → invariant_term (view.lock k).inv ≡ invariant_of (plain (view.program p)) l
invariant_seen p l k inside is = ap (λ w. invariant_term w.inv) (ap view.lock is ∙ sym (get_or-map view.lock p.locks l k no_lock inside))

holder_seen : (hs : List Holder) (l : ℕ) → held_by (get_or hs l (record { 0 = None })) ≡ holder (holders_of hs) l
holder_seen hs l = sym (get_or-at held_by hs l (record { 0 = None }))

pub holders_seen : (h1 h2 : List Holder) (l : ℕ)
    → same_holder (held_by (get_or h1 l (record { 0 = None }))) (held_by (get_or h2 l (record { 0 = None })))
    ≡ same_holder (holder (holders_of h1) l) (holder (holders_of h2) l)
holders_seen h1 h2 l =
    ap (λ a. same_holder a (held_by (get_or h2 l (record { 0 = None })))) (holder_seen h1 l)
    ∙ ap (same_holder (holder (holders_of h1) l)) (holder_seen h2 l)
