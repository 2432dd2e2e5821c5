-- What is warned of variables, one on.
use Rattle.std.proofs.Common.{◌≡◌, ℕ, ◌+◌, ◌<◌, List, ◌∷◌, ◌++◌, Bool, length, map, drop, get_or, sym, ap, ap₂, ◌∙◌, subst, append_assoc}
use Rattle.std.proofs.lemmas.List.{at_drop_more}
use Rattle.cov_ast.specs.Plain.{Plain}
use Rattle.cov_ast.specs.View as view
use Rattle.cov_ast.specs.declared.decl.VarDecl.{VarDecl}
use Rattle.explain.specs.Unused.{of_use, of_variables}
use Rattle.explain.specs.declared.warning.Warning.{Warning}
use Rattle.explain.specs.StatementUses.{has_reader, has_writer}

pub next_variable : (p : Plain) (vs : List VarDecl) (x : ℕ) (v : VarDecl) → x < length vs → v ≡ get_or vs x v
    → of_variables p x (map view.var (drop x vs)) ≡ of_use (view.var v) (has_reader p x) (has_writer p x) ++ of_variables p (x + 1) (map view.var (drop (x + 1) vs))
next_variable p vs x v inside is =
    at_drop_more (λ ys. of_variables p x (map view.var ys)) vs x v inside
    ∙ ap (λ y. of_variables p x (map view.var (y ∷ drop (x + 1) vs))) (sym is)

-- what is warned of so far, and of the rest, is all of it, also one variable on
pub variables_go_on : (p : Plain) (vs items : List VarDecl) (x : ℕ) (v : VarDecl) (found now all : List Warning) (read written : Bool)
    → items ≡ vs → x < length items → v ≡ get_or items x v → read ≡ has_reader p x → written ≡ has_writer p x
    → found ++ of_variables p x (map view.var (drop x vs)) ≡ all → now ≡ found ++ of_use (view.var v) read written
    → now ++ of_variables p (x + 1) (map view.var (drop (x + 1) vs)) ≡ all
variables_go_on p vs items x v found now all read written same inside is has_readers is_writes so_far more =
    ap (λ ws. ws ++ rest) (more ∙ ap₂ (λ r w. found ++ of_use (view.var v) r w) has_readers is_writes)
    ∙ append_assoc found (of_use (view.var v) (has_reader p x) (has_writer p x)) rest
    ∙ ap (λ ws. found ++ ws) (sym (next_variable p vs x v (subst (λ ys. x < length ys) same inside) (subst (λ ys. v ≡ get_or ys x v) same is)))
    ∙ so_far
  where
    rest : List Warning
    rest = of_variables p (x + 1) (map view.var (drop (x + 1) vs))
