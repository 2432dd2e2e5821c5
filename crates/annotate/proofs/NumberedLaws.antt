-- The numbers of the names of variables in a table.
use Rattle.std.proofs.Common.{◌≡◌, ℕ, zero, suc, ◌+◌, ◌<◌, List, [], ◌∷◌, ◌++◌, length, map, take, get_or, refl, ap, sym, ◌∙◌, arith, subst, All}
use Rattle.std.proofs.lemmas.List.{take_more}
use Rattle.std.proofs.lemmas.List.Elements.{All-head, All-tail, All-push}
use Rattle.cov_expr.specs.Names.{IsName}
use Rattle.cov_ast.specs.NameTables.{number_of}
use Rattle.cov_ast.specs.Syntax.{Var}

pub numbered_at : (names : List (List ℕ)) (vs : List Var) (past : ℕ) → past ≡ number_of names [] → (x : ℕ)
    → get_or (map (λ v. number_of names v.name) vs) x past ≡ number_of names (get_or (map (λ v. v.name) vs) x [])
numbered_at names [] past is x = is
numbered_at names (v ∷ vs) past is zero = refl
numbered_at names (v ∷ vs) past is (suc x) = numbered_at names vs past is x

-- no name is an empty text
pub past_names : (names : List (List ℕ)) → All IsName names → length names ≡ number_of names []
past_names [] h = refl
past_names ([] ∷ names) h = absurd (omega (arith, (All-head IsName [] names h).some))
past_names ((b ∷ bs) ∷ names) h = omega (arith, past_names names (All-tail IsName (b ∷ bs) names h))

-- one more name
pub names_more : (names : List (List ℕ)) (i : ℕ) (name : List ℕ) → i < length names → get_or names i name ≡ name → IsName name → All IsName (take i names) → All IsName (take (i + 1) names)
names_more names i name inside is named h =
    subst (All IsName) (sym (take_more names i name inside ∙ ap (λ n. take i names ++ n ∷ []) is)) (All-push IsName (take i names) name h named)
