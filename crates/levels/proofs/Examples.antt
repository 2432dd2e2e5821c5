-- Small programs with levels, of which it is known what each observer is shown and what is answered, by computation. Places are those
-- of the text above each program.
use Rattle.std.proofs.Common.{◌≡◌, ℕ, List, [], ◌∷◌, true, false, Some, None, refl}
use Rattle.cov_expr.specs.declared.expr.Op.TheVariants.{Eq, Both, Either}
use Rattle.cov_expr.specs.Term.{const, var, neg, bin}
use Rattle.cov_ast.specs.Syntax.{Class, low, high, when, Var, Stm, assign, Program}
use Rattle.cov_ast.specs.Declarations.{no_modes}
use Rattle.cov_ast.specs.View.{block_of}
use Rattle.cov_ast.specs.Obligations.{first_false}
use Rattle.cov_ast.specs.declared.refusal.Rule.TheVariants.{V4, V9}
use Rattle.cov_ast.specs.declared.refusal.Detail.TheVariants.{Nothing, Number}
use Rattle.typing_law.specs.Accepted.{IsAccepted, program_obligations}
use Rattle.typing_law.specs.Verdicts.{counts}
use Rattle.level_text.specs.Lattice.{LevelClass, at_level, Levels}
use Rattle.levels.specs.Order.{rows_of}
use Rattle.level_text.specs.Lattice as lattice
use Rattle.levels.specs.Projection.{projected, shown_class, marked_term}

abbrev variable : List ℕ → ℕ → Class → Var
variable name place class = record { name = name; at = place; class = class }

abbrev a_name : List ℕ
a_name = 97 ∷ []

abbrev s_name : List ℕ
s_name = 115 ∷ []

abbrev x_name : List ℕ
x_name = 120 ∷ []

abbrev y_name : List ℕ
y_name = 121 ∷ []

abbrev pub_name : List ℕ
pub_name = 112 ∷ 117 ∷ 98 ∷ []

abbrev sec_name : List ℕ
sec_name = 115 ∷ 101 ∷ 99 ∷ []

-- var a: low; var s: high; thread t { STATEMENT }
abbrev of_two : Stm → Program
of_two s = record {
  version = 1;
  vars = variable a_name 4 low ∷ variable s_name 16 high ∷ [];
  locks = [];
  threads = record {
    name = 116 ∷ [];
    at = 32;
    modes = no_modes;
    body = block_of (record { at = 36; stm = s; proofs = [] } ∷ []);
    end = 44;
  } ∷ [];
}

-- s := a
abbrev up : Program
up = of_two (assign 1 (var 0) None [])

-- a := s
abbrev down : Program
down = of_two (assign 0 (var 1) None [])

-- level pub; level sec: pub; var a: pub; var s: sec;
abbrev two : Levels
two = record {
  names = pub_name ∷ sec_name ∷ [];
  below = [] ∷ (0 ∷ []) ∷ [];
  classes = (0, at_level 0) ∷ (1, at_level 1) ∷ [];
}

-- level pub; level x: pub; level y: pub; var a: x; var s: y;
abbrev side_by_side : Levels
side_by_side = record {
  names = pub_name ∷ x_name ∷ y_name ∷ [];
  below = [] ∷ (0 ∷ []) ∷ (0 ∷ []) ∷ [];
  classes = (0, at_level 1) ∷ (1, at_level 2) ∷ [];
}

-- The order ------------------------------------------------------------------------------------------------------

two-rows : rows_of two ≡ (true ∷ false ∷ []) ∷ (true ∷ true ∷ []) ∷ []
two-rows = refl

side_by_side-rows : rows_of side_by_side ≡ (true ∷ false ∷ false ∷ []) ∷ (true ∷ true ∷ false ∷ []) ∷ (true ∷ false ∷ true ∷ []) ∷ []
side_by_side-rows = refl

-- level a; level b: a; level c: b; level d: c, a;
chain-rows : rows_of (record { names = [] ∷ [] ∷ [] ∷ [] ∷ []; below = [] ∷ (0 ∷ []) ∷ (1 ∷ []) ∷ (2 ∷ 0 ∷ []) ∷ []; classes = [] })
    ≡ (true ∷ false ∷ false ∷ false ∷ []) ∷ (true ∷ true ∷ false ∷ false ∷ []) ∷ (true ∷ true ∷ true ∷ false ∷ []) ∷ (true ∷ true ∷ true ∷ true ∷ []) ∷ []
chain-rows = refl

-- What is answered -------------------------------------------------------------------------------------------------

-- a flow from pub to sec is accepted for both observers
up-for_pub : IsAccepted (projected two 0 up)
up-for_pub = refl

up-for_sec : IsAccepted (projected two 1 up)
up-for_sec = refl

up-counts : counts (projected two 0 up) ≡ record { statements = 1; entailments = 1 }
up-counts = refl

-- a flow from sec to pub isn't accepted for the first observer
down-for_pub : first_false (program_obligations (projected two 0 down)) ≡ Some (record { rule = V9; thread = Some 0; place = 36; detail = Number 1 })
down-for_pub = refl

-- a flow between levels of which neither lies below the other
up-for_bottom : IsAccepted (projected side_by_side 0 up)
up-for_bottom = refl

up-for_x : IsAccepted (projected side_by_side 1 up)
up-for_x = refl

up-for_y : first_false (program_obligations (projected side_by_side 2 up)) ≡ Some (record { rule = V9; thread = Some 0; place = 36; detail = Number 1 })
up-for_y = refl

-- Markers ------------------------------------------------------------------------------------------------------------

-- var sec: low; var a: low; var s: high; thread t assume hide s { s := a as sec; }
abbrev marked : Program
marked = record {
  version = 1;
  vars = variable sec_name 4 low ∷ variable a_name 18 low ∷ variable s_name 30 high ∷ [];
  locks = [];
  threads = record {
    name = 116 ∷ [];
    at = 46;
    modes = record no_modes { assume_hide = 2 ∷ [] };
    body = block_of (record { at = 64; stm = assign 2 (var 1) (Some (var 0)) []; proofs = [] } ∷ []);
    end = 79;
  } ∷ [];
}

-- level pub; level sec: pub; var a: pub; var s: sec;
abbrev of_marked : Levels
of_marked = record {
  names = pub_name ∷ sec_name ∷ [];
  below = [] ∷ (0 ∷ []) ∷ [];
  classes = (1, at_level 0) ∷ (2, at_level 1) ∷ [];
}

-- the type of the value is 0 for the first observer, and 1 for the second
marked-for_pub : IsAccepted (projected of_marked 0 marked)
marked-for_pub = refl

marked-for_sec : IsAccepted (projected of_marked 1 marked)
marked-for_sec = refl

marked-counts : counts (projected of_marked 1 marked) ≡ record { statements = 1; entailments = 1 }
marked-counts = refl

-- the program itself is refused: a type is no marker there
marked-refused : first_false (program_obligations marked) ≡ Some (record { rule = V4; thread = Some 0; place = 64; detail = Nothing })
marked-refused = refl

-- the hole of a template is no marker
hole_stays : marked_term (Some 1 ∷ []) (bin Eq (var 4294967295) (var 0)) ≡ bin Eq (var 4294967295) (const 1)
hole_stays = refl

-- c == 0 decides between two levels, of which the first is seen
when-shown : shown_class (true ∷ false ∷ []) (lattice.either_level (bin Eq (var 0) (const 0)) 0 1)
    ≡ when (bin Either (bin Both (bin Eq (var 0) (const 0)) (const 1)) (bin Both (neg (bin Eq (var 0) (const 0))) (const 0)))
when-shown = refl
