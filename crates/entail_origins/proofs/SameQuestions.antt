-- What is asked of a statement goes by what is hidden of the variables of the program.
use Rattle.std.proofs.Common.{◌≡◌, ℕ, ◌<◌, ◌&&◌, ◌||◌, not, [], ◌∷◌, ◌++◌, length, map, Bool, refl, ap, ap₂, arith, if◌then◌else◌}
use Rattle.cov_expr.specs.Trees.{mentions}
use Rattle.cov_ast.specs.Declarations.{class_of, is_control}
use Rattle.cov_ast.specs.Plain.{Plain}
use Rattle.cov_ast.specs.Syntax.{Stm, assign}
use Rattle.cov_ast.specs.Tables.{has, table}
use Rattle.cov_ast.specs.WellFormed.{IsStmInRange}
use Rattle.cov_ast.proofs.TableLaws.{table_at}
use Rattle.entail_origins.specs.Questions.{of_written, of_shown, of_controlled, of_statement, is_shown_by}
use Rattle.entail_origins.specs.declared.kinds.Question.TheVariants as q
use Rattle.entail_origins.proofs.Ranges.{filter_same}

module _ (p : Plain) (f g : ℕ → Bool) (same : (x : ℕ) → x < length p.vars → f x ≡ g x) where
  same_shown : (x : ℕ) → x < length p.vars → of_shown p f x ≡ of_shown p g x
  same_shown x inside = ap (λ b. if is_control p x || not b then q.Shown x ∷ [] else []) (same x inside)

  same_controlled : (x : ℕ) → of_controlled p f x ≡ of_controlled p g x
  same_controlled x =
      ap (λ ys. if is_control p x then map q.Controlled ys else [])
      (filter_same (is_shown_by p f x) (is_shown_by p g x) 0 (length p.vars) (λ y h. ap (λ b. mentions (class_of p y) x && not b) (same y (omega (arith, h)))))

  same_questions : (locks : ℕ) (s : Stm) → IsStmInRange (length p.vars) locks s → of_statement p f s ≡ of_statement p g s
  same_questions locks (assign x e written retypes) range =
      ap₂ (λ shown controlled. of_written written ++ shown ++ controlled ++ map (λ r. q.Retyped r.0) retypes) (same_shown x range.0) (same_controlled x)
  same_questions locks _ range = refl

-- where that is kept as a set
pub of_table : (p : Plain) (f : ℕ → Bool) (locks : ℕ) (s : Stm) → IsStmInRange (length p.vars) locks s
    → of_statement p (has (table (length p.vars) f)) s ≡ of_statement p f s
of_table p f locks s range = same_questions p (has (table (length p.vars) f)) f (table_at (length p.vars) f) locks s range
