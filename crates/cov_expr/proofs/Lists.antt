-- A list with other items in the place of its own.
use Rattle.std.proofs.Common.{◌≡◌, ◌++◌, List, length, take, ◌∙◌, ap, arith, append-nil}
use Rattle.std.proofs.lemmas.List.{drop_all, take_all}
use Rattle.cov_expr.specs.Lends.{refilled}

-- as many as it had are all its items
pub refilled_whole : {X : Type 0} (items given : List X) → length given ≡ length items → refilled items given ≡ given
refilled_whole items given same =
    ap (λ rest. take (length items) (given ++ rest)) (drop_all (length given) items (omega (arith, same)))
    ∙ ap (take (length items)) (append-nil given) ∙ take_all (length items) given (omega (arith, same))
