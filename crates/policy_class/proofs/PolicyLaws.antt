-- Which variables are declared low, in a table.
use Rattle.std.proofs.Common.{◌≡◌, ℕ, List, [], ◌∷◌, ◌++◌, Bool, length, map, drop, refl, sym, ap, ◌∙◌, ◌≤◌}
use Rattle.std.proofs.lemmas.List.{length-map, append-nil, drop_all}
use Rattle.cov_ast.specs.Plain.{plain}
use Rattle.cov_ast.specs.Tables.{table}
use Rattle.cov_ast.specs.Declarations.{is_low, is_plain_low, no_var}
use Rattle.cov_ast.specs.declared.decl.Program.{Program}
use Rattle.cov_ast.specs.declared.decl.VarDecl.{VarDecl}
use Rattle.cov_ast.specs.View as view
use Rattle.cov_ast.proofs.TableLaws.{by_number}

over_view : (vars : List VarDecl) → map (λ v. is_low (view.class v.class)) vars ≡ map (λ v. is_low v.class) (map view.var vars)
over_view [] = refl
over_view (v ∷ vs) = ap (λ bs. is_low (view.class v.class) ∷ bs) (over_view vs)

-- what was marked once each variable was looked at
pub marked_low : (p : Program) (marks : List Bool) (i : ℕ) → length p.vars ≤ i
    → marks ++ map (λ v. is_low (view.class v.class)) (drop i p.vars) ≡ map (λ v. is_low (view.class v.class)) p.vars
    → marks ≡ table (length p.vars) (is_plain_low (plain (view.program p)))
marked_low p marks i past kept =
    sym (append-nil marks) ∙ ap (λ vs. marks ++ map (λ v. is_low (view.class v.class)) vs) (sym (drop_all i p.vars past)) ∙ kept
    ∙ over_view p.vars ∙ by_number (λ v. is_low v.class) (map view.var p.vars) no_var
    ∙ ap (λ n. table n (is_plain_low (plain (view.program p)))) (length-map p.vars view.var)
