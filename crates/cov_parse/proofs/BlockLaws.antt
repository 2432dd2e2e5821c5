-- Statements as a list and as a block.
use Rattle.std.proofs.Common.{◌≡◌, ◌<◌, ℕ, List, [], ◌∷◌, length, map, get_or, slice_get, Some, refl, sym, ap, ◌∙◌}
use Rattle.std.proofs.lemmas.Option.{slice_get-get_or}
use Rattle.cov_read.specs.DeclViews.{number}
use Rattle.cov_grammar.specs.PlacedTrees.{Placed, Stm, stms}
use Rattle.cov_ast.specs.View as ast
use Rattle.cov_ast.specs.Syntax.{more}
use Rattle.cov_text.specs.GivenTrees.{stm_of, proofs_of, stms_of, stmt_of}

pub block_is : (xs : List (Placed Stm)) → ast.block_of (map stmt_of xs) ≡ stms_of (stms xs)
block_is [] = refl
block_is (x ∷ xs) = ap (more x.0 (stm_of x.1) (proofs_of x.1)) (block_is xs)

-- numbers as they are
pub numbers_same : (xs : List ℕ) → map number xs ≡ xs
numbers_same [] = refl
numbers_same (x ∷ xs) = ap (λ ys. x ∷ ys) (numbers_same xs)

-- what stands at a place
pub stands_at : {A : Type 0} (xs : List A) (i : ℕ) (x d : A) → i < length xs → slice_get xs i ≡ Some x → x ≡ get_or xs i d
stands_at xs i x d h e = let same : Some x ≡ Some (get_or xs i d) = sym e ∙ slice_get-get_or xs i d h in cc
