-- Threads whose names differ are found by their names.
use Rattle.std.proofs.Common.{◌≡◌, ◌≢◌, ℕ, zero, suc, ◌<◌, List, [], ◌∷◌, ◌++◌, length, map, get_or, true, false, if◌then◌else◌, Option, Some, sym, ap, ◌∙◌, arith}
use Rattle.std.specs.Str.{bytes_eq}
use Rattle.std.proofs.Math.ListN.{get_or-map}
use Rattle.std.proofs.lemmas.Cmp.{nat_list_eq_equiv}
use Rattle.std.proofs.lemmas.List.{length-map}
use Rattle.cov_ast.specs.NameTables.{find_name}
use Rattle.cov_ast.specs.Syntax.{Var, Lock, Thread, Program}
use Rattle.cov_ast.specs.WellFormed.{are_distinct, IsWellFormed}
use Rattle.text_parts.specs.VariableNames.{variable_names}
use Rattle.mode_compat.specs.Compatible.{numbered, no_thread}
use Rattle.refusal_names.proofs.FoundNames.{distinct_back, first_apart, names_apart}
use Rattle.refusal_names.specs.MissingGuarantees.{thread_named, guarantee_line, missing, missing_of, missing_text}

abbrev names : List Thread → List (List ℕ)
names ts = map (λ t. t.name) ts

-- two threads have two names
pub apart : (ts : List Thread) (i j : ℕ) (d : Thread) → are_distinct bytes_eq (names ts) ≡ true → i < length ts → j < length ts → i ≢ j
    → bytes_eq (get_or ts i d).name (get_or ts j d).name ≡ false
apart ts i j d h below_i below_j differ =
    let at : (k : ℕ) → get_or (names ts) k d.name ≡ (get_or ts k d).name = λ k. get_or-map (λ t. t.name) ts k d in
    let long = length-map ts (λ t. t.name) in
    sym (ap (λ n. bytes_eq n (get_or (names ts) j d.name)) (at i) ∙ ap (λ n. bytes_eq (get_or ts i d).name n) (at j))
    ∙ names_apart (names ts) i j d.name h (omega (arith, below_i, long)) (omega (arith, below_j, long)) differ

-- each is found by its name
pub found : (ts : List Thread) (i : ℕ) (d : Thread) → are_distinct bytes_eq (names ts) ≡ true → i < length ts
    → thread_named (get_or ts i d).name ts ≡ Some (get_or ts i d)
found [] i d h inside = let no : ⊥ = omega (arith, inside) in absurd no
found (t ∷ ts) zero d h inside = ap (λ b. if b then Some t else thread_named t.name ts) (nat_list_eq_equiv.refl t.name)
found (t ∷ ts) (suc i) d h inside =
    let u = get_or ts i d in
    let differ : zero ≢ suc i = λ same. let no : ⊥ = omega (arith, same) in no in
    ap (λ b. if b then Some t else thread_named u.name ts) (apart (t ∷ ts) zero (suc i) d h (omega (arith, inside)) inside differ)
    ∙ found ts i d (first_apart t.name (names ts) h).1 (omega (arith, inside))

-- the names of the threads of a program are distinct
threads_differ : (vars : List Var) (locks : List Lock) (ts : List Thread)
    → are_distinct bytes_eq (map (λ v. v.name) vars ++ map (λ l. l.name) locks ++ names ts) ≡ true → are_distinct bytes_eq (names ts) ≡ true
threads_differ vars locks ts h = distinct_back (map (λ v. v.name) vars ++ map (λ l. l.name) locks) (names ts) h

pub told : (p : Program) → IsWellFormed p → (bytes : List ℕ) → (t u x : ℕ) → (variable : List ℕ) → t < length p.threads → u < length p.threads → t ≢ u
    → find_name (variable_names p.vars) variable ≡ Some x
    → guarantee_line p bytes (numbered p t).name (numbered p u).name variable
    ≡ missing_text (variable_names p.vars) bytes (numbered p u) (missing (numbered p t).modes (numbered p u).modes x) x
told p formed bytes t u x variable below_t below_u differ is =
    let distinct = threads_differ p.vars p.locks p.threads formed.names_differ in
    let vs = variable_names p.vars in
    let a = numbered p t in
    let b = numbered p u in
    let line : Option Thread → Option Thread → Option ℕ → List ℕ = λ v w y. missing_of vs bytes v w y in
    ap (λ same. if same then [] else line (thread_named a.name p.threads) (thread_named b.name p.threads) (find_name vs variable))
    (apart p.threads t u no_thread distinct below_t below_u differ)
    ∙ ap (λ v. line v (thread_named b.name p.threads) (find_name vs variable)) (found p.threads t no_thread distinct below_t)
    ∙ ap (λ w. line (Some a) w (find_name vs variable)) (found p.threads u no_thread distinct below_u)
    ∙ ap (λ y. line (Some a) (Some b) y) is
