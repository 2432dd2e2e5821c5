-- What a list is once the items that it lent are given back.
use Rattle.std.specs.Prelude.{List, ◌++◌, length, take, drop}
use Rattle.std.specs.Borrow.{Lends, Fml, RattleType, MutBor, Array}
use Rattle.cov_expr.specs.contracts.list.List.{the_row}

-- A list with other items in the place of its own: as many as it has. (A slice keeps its length, so they are all of these.)
abbrev pub refilled : {X : Type 0} → List X → List X → List X
refilled items given = take (length items) (given ++ drop (length given) items)

-- the list ends with the items that were left behind the slice
abbrev pub LendsItems : (T : RattleType) → MutBor (List T.Denot) → MutBor (List T.Denot) → Fml
LendsItems T list slice = Lends (the_row T) (Array T 0) list slice (refilled list.now)
