-- The least place, item by item.
use Rattle.std.proofs.Common.{◌≡◌, ℕ, ◌+◌, ◌<◌, List, [], ◌∷◌, ◌++◌, length, map, drop, get_or, if◌then◌else◌, Option, Some, None, refl, sym, ap, ◌∙◌, arith}
use Rattle.std.proofs.lemmas.List.{at_drop_more}
use Rattle.cov_expr.specs.Trees.{has_number}
use Rattle.cov_grammar.specs.PlacedTrees.{Named}
use Rattle.cov_ast.specs.NameTables.{with_name}
use Rattle.cov_text.specs.GivenTrees.{name_of}
use Rattle.policy_class.specs.Resolved.{is_among}
use Rattle.level_text.specs.TextTrees.{Level}
use Rattle.level_text.specs.TextFaults.{sooner, least_place, first_failing, first_again, unknown_lower}

pub sooner_assoc : (a b c : Option ℕ) → sooner (sooner a b) c ≡ sooner a (sooner b c)
sooner_assoc None b c = refl
sooner_assoc (Some x) None c = refl
sooner_assoc (Some x) (Some y) None = refl
sooner_assoc (Some x) (Some y) (Some z) = ap Some (omega arith)

pub sooner_none : (a : Option ℕ) → sooner a None ≡ a
sooner_none None = refl
sooner_none (Some x) = refl

-- one more item
pub found_step : {X A : Type 0} (f : A → Option ℕ) (view : X → A) (xs : List X) (i : ℕ) (x d : X) (found now : Option ℕ) → i < length xs → x ≡ get_or xs i d → now ≡ sooner found (f (view x))
    → sooner now (least_place f (map view (drop (i + 1) xs))) ≡ sooner found (least_place f (map view (drop i xs)))
found_step f view xs i x d found now h e g =
    let rest = least_place f (map view (drop (i + 1) xs)) in
    ap (λ o. sooner o rest) g ∙ sooner_assoc found (f (view x)) rest ∙ ap (λ y. sooner found (sooner (f (view y)) rest)) e
    ∙ sym (at_drop_more (λ ys. sooner found (least_place f (map view ys))) xs i d h)

-- one more name, behind those before it
pub again_step : {X : Type 0} (names : List (List ℕ)) (view : X → Named) (xs : List X) (i : ℕ) (x d : X) (before after : List (List ℕ)) (found now : Option ℕ) → i < length xs → x ≡ get_or xs i d
    → now ≡ sooner found (if is_among before (name_of names (view x).0) then Some (view x).1 else None) → after ≡ with_name before (name_of names (view x).0)
    → sooner now (first_again names after (map view (drop (i + 1) xs))) ≡ sooner found (first_again names before (map view (drop i xs)))
again_step names view xs i x d before after found now h e g a =
    let rest = first_again names (with_name before (name_of names (view x).0)) (map view (drop (i + 1) xs)) in
    ap (λ bs. sooner now (first_again names bs (map view (drop (i + 1) xs)))) a
    ∙ ap (λ o. sooner o rest) g ∙ sooner_assoc found (if is_among before (name_of names (view x).0) then Some (view x).1 else None) rest
    ∙ ap (λ y. sooner found (first_again names before (view y ∷ map view (drop (i + 1) xs)))) e
    ∙ sym (at_drop_more (λ ys. sooner found (first_again names before (map view ys))) xs i d h)

-- one more level, behind those declared before it
pub lower_step : {X : Type 0} (view : X → Level) (xs : List X) (i : ℕ) (x d : X) (before after : List ℕ) (found now : Option ℕ) → i < length xs → x ≡ get_or xs i d
    → now ≡ sooner found (first_failing (has_number before) (view x).lower) → after ≡ before ++ (view x).name.0 ∷ []
    → sooner now (unknown_lower after (map view (drop (i + 1) xs))) ≡ sooner found (unknown_lower before (map view (drop i xs)))
lower_step view xs i x d before after found now h e g a =
    let rest = unknown_lower (before ++ (view x).name.0 ∷ []) (map view (drop (i + 1) xs)) in
    ap (λ bs. sooner now (unknown_lower bs (map view (drop (i + 1) xs)))) a
    ∙ ap (λ o. sooner o rest) g ∙ sooner_assoc found (first_failing (has_number before) (view x).lower) rest
    ∙ ap (λ y. sooner found (unknown_lower before (view y ∷ map view (drop (i + 1) xs)))) e
    ∙ sym (at_drop_more (λ ys. sooner found (unknown_lower before (map view ys))) xs i d h)
