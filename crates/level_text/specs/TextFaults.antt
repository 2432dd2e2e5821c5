-- What may be wrong with a text of levels for a program, beyond its grammar and its limits; and the levels that it gives.
--
-- In a text names are numbers in the order in which they first occur there, and in a program in that of the program's text.
use Rattle.std.specs.Prelude.{ℕ, ◌==◌, ◌&&◌, ◌||◌, min, List, [], ◌∷◌, ◌++◌, map, slice_get, Bool, false, not, if◌then◌else◌, Option, Some, None, option_map}
use Rattle.std.specs.List.{list_any, position_or_len}
use Rattle.std.specs.Str.{bytes_eq}
use Rattle.cov_expr.specs.Term.{Term}
use Rattle.cov_expr.specs.Trees.{has_number, mentions}
use Rattle.cov_expr.specs.declared.kind.Kind.{Kind}
use Rattle.cov_expr.specs.declared.kind.Kind.TheVariants as k
use Rattle.cov_ast.specs.NameTables.{number_of, with_name}
use Rattle.cov_ast.specs.Plain.{class_term}
use Rattle.cov_ast.specs.Declarations.{invariant_term, lists, have_assumed, have_guaranteed}
use Rattle.cov_ast.specs.Syntax.{Stm, Block, Thread, Parsed}
use Rattle.cov_ast.specs.Syntax as s
use Rattle.statement_parts.specs.Parts.{evaluated, folded, folded_in, Inside, listed_types, of_either, of_none, of_turn, Parts, Store}
use Rattle.cov_grammar.specs.declared.token.Token.{Token}
use Rattle.cov_grammar.specs.LookAhead.{kind_is, has}
use Rattle.cov_grammar.specs.PlacedTrees.{Placed, Named}
use Rattle.cov_text.specs.GivenTrees.{name_of}
use Rattle.cov_text.specs.Limits.{least, in_option}
use Rattle.cov_text.specs.declared.fault.Excess.{Excess}
use Rattle.policy_class.specs.Resolved.{is_among, var_names, resolved_term}
use Rattle.level_text.specs.declared.lattice.TheConstants.{MOST_LEVELS}
use Rattle.level_text.specs.declared.fault.LevelFault.{LevelFault}
use Rattle.level_text.specs.declared.fault.LevelFault.TheVariants.{Many, Same, Unknown, Plain}
use Rattle.level_text.specs.Lattice.{Levels, LevelClass, at_level, either_level}
use Rattle.level_text.specs.TextTrees.{Level, Listing, LevelText}

-- Limits ----------------------------------------------------------------------------------------------------------

abbrev pub in_listing : Listing → Option Excess
in_listing c = in_option (option_map (λ x. x.0) c.choice)

-- the expressions of a text have limits, and nothing else of its tree has
abbrev pub in_level_text : LevelText → Option Excess
in_level_text t = least in_listing t.listings

-- Places ----------------------------------------------------------------------------------------------------------

-- the lesser of two places
abbrev pub sooner : Option ℕ → Option ℕ → Option ℕ
sooner None y = y
sooner (Some x) None = Some x
sooner (Some x) (Some y) = Some (min x y)

-- the least place of any item that has one
abbrev pub least_place : {A : Type 0} → (A → Option ℕ) → List A → Option ℕ
least_place place [] = None
least_place place (x ∷ xs) = sooner (place x) (least_place place xs)

-- the place of a name, if its number fails a test
abbrev pub failing : (ℕ → Bool) → Named → Option ℕ
failing test n = if test n.0 then None else Some n.1

-- the least place of names whose numbers fail a test
abbrev pub first_failing : (ℕ → Bool) → List Named → Option ℕ
first_failing test ns = least_place (failing test) ns

-- Uses of names ----------------------------------------------------------------------------------------------------

-- A name behind such a token is that of a level.
abbrev pub is_level_behind : (before : Kind) → Bool
is_level_behind before = has (k.Level ∷ k.Colon ∷ k.Comma ∷ k.Else ∷ []) before

-- The names that are used as variables: each other name, one that is listed and one in an expression.
abbrev pub variables_behind : (before : Kind) → List Token → List Named
variables_behind before [] = []
variables_behind before (t ∷ ts) =
    (if kind_is k.Name t.kind && not (is_level_behind before) then (t.value, t.at) ∷ [] else []) ++ variables_behind t.kind ts

abbrev pub variables_of : List Token → List Named
variables_of ts = variables_behind k.Semicolon ts

-- the numbers of the declared levels
abbrev pub declared_levels : LevelText → List ℕ
declared_levels t = map (λ v. v.name.0) t.levels

-- the levels of a class
abbrev pub other_level : Option (Placed Term × Named) → List Named
other_level None = []
other_level (Some x) = x.1 ∷ []

abbrev pub levels_of_listing : Listing → List Named
levels_of_listing c = c.level ∷ other_level c.choice

-- Many, Same, Unknown ------------------------------------------------------------------------------------------------

-- the name of the level past the most
abbrev pub past_most : LevelText → Option ℕ
past_most t = option_map (λ v. v.name.1) (slice_get t.levels MOST_LEVELS)

-- The text's names, by number.
module _ (names : List (List ℕ)) where
  -- the least place of a name that is among those before it
  abbrev pub first_again : (before : List (List ℕ)) → List Named → Option ℕ
  first_again before [] = None
  first_again before (n ∷ ns) = sooner (if is_among before (name_of names n.0) then Some n.1 else None) (first_again (with_name before (name_of names n.0)) ns)

  -- a level is declared, or a variable is listed, a second time
  abbrev pub named_again : LevelText → Option ℕ
  named_again t = sooner (first_again [] (map (λ v. v.name) t.levels)) (first_again [] (map (λ c. c.var) t.listings))

  -- whether the name with a number is that of a variable of the program
  abbrev pub is_variable : Parsed → ℕ → Bool
  is_variable p n = is_among (var_names p) (name_of names n)

  -- a variable that the program doesn't declare, of the names that are used as variables
  abbrev pub unknown_variable : Parsed → (used : List Named) → Option ℕ
  unknown_variable p used = first_failing (is_variable p) used

-- a name behind a colon that isn't that of a level declared earlier
abbrev pub unknown_lower : (before : List ℕ) → List Level → Option ℕ
unknown_lower before [] = None
unknown_lower before (v ∷ vs) = sooner (first_failing (has_number before) v.lower) (unknown_lower (before ++ v.name.0 ∷ []) vs)

-- a level of a class that isn't declared
abbrev pub unknown_level : LevelText → Option ℕ
unknown_level t = least_place (λ c. first_failing (has_number (declared_levels t)) (levels_of_listing c)) t.listings

-- Plain ----------------------------------------------------------------------------------------------------------------

-- Where a name, by its number, stands in a program outside annotations, or as the variable of a type.
module _ (m : ℕ) where
  abbrev pub in_types : List (ℕ × Term) → Bool
  in_types ts = list_any (λ t. t.0 == m) ts

  abbrev pub in_store : Option Store → Bool
  in_store None = false
  in_store (Some v) = v.variable == m

  abbrev pub in_expression : Option Term → Bool
  in_expression None = false
  in_expression (Some e) = mentions e m

  -- in a statement itself: as the variable that is stored, in what is evaluated, or as the variable of a type
  abbrev pub in_parts : Parts → Bool
  in_parts ps = in_store ps.store || in_expression (evaluated ps) || in_types (listed_types ps.store ps.state)

  -- or in one of its blocks
  abbrev pub in_blocks : Inside Bool → Bool
  in_blocks of_none = false
  in_blocks (of_turn e inv b) = b
  in_blocks (of_either e join a b) = a || b

  abbrev pub in_stm : Stm → Bool
  in_stm c = folded (λ ps bs. in_parts ps || in_blocks bs) (λ place proofs first rest. first || rest) false c

  abbrev pub in_block : Block → Bool
  in_block b = folded_in (λ ps bs. in_parts ps || in_blocks bs) (λ place proofs first rest. first || rest) false b

  abbrev pub in_thread : Thread → Bool
  in_thread t = have_assumed t.modes m || have_guaranteed t.modes m || in_block t.body

  abbrev pub in_lock : s.Lock → Bool
  in_lock l = lists l m || mentions (invariant_term l.inv) m

  -- in a class, in a lock, in a mode list or in a statement
  abbrev pub in_program : Parsed → Bool
  in_program p = list_any (λ v. mentions (class_term v.class) m) p.vars || list_any in_lock p.locks || list_any in_thread p.threads

-- A marker, the variable of the program that has the name of a level, is barred where it is more than that: it is used in the text as
-- a variable, or stands in the program outside annotations.
abbrev pub is_barred : Parsed → (used : List Named) → (number : ℕ) → (name : List ℕ) → Bool
is_barred p used number name = is_among (var_names p) name && (list_any (λ n. n.0 == number) used || in_program (number_of p.names name) p)

-- the place of the name of a level, if it is that of such a variable
abbrev pub barred : (names : List (List ℕ)) → Parsed → (used : List Named) → Named → Option ℕ
barred names p used n = if is_barred p used n.0 (name_of names n.0) then Some n.1 else None

abbrev pub first_barred : (names : List (List ℕ)) → Parsed → (used : List Named) → List Level → Option ℕ
first_barred names p used vs = least_place (λ v. barred names p used v.name) vs

-- The first fault ------------------------------------------------------------------------------------------------------

-- a fault of a kind; or, where there is none, another
abbrev pub fault_or : (ℕ → LevelFault) → Option ℕ → Option LevelFault → Option LevelFault
fault_or kind None rest = rest
fault_or kind (Some place) rest = Some (kind place)

-- The kinds in order, and of one kind the least place.
abbrev pub first_fault : (names : List (List ℕ)) → Parsed → List Token → LevelText → Option LevelFault
first_fault names p ts t =
    fault_or Many (past_most t)
    (fault_or Same (named_again names t)
    (fault_or Unknown (sooner (unknown_lower [] t.levels) (sooner (unknown_level t) (unknown_variable names p (variables_of ts))))
    (fault_or Plain (first_barred names p (variables_of ts) t.levels) None)))

-- The levels that are given --------------------------------------------------------------------------------------------

abbrev pub level_id : LevelText → ℕ → ℕ
level_id t n = position_or_len (λ m. m == n) (declared_levels t)

-- a variable is its place among the program's declarations, the first of its name
abbrev pub variable_id : (names : List (List ℕ)) → Parsed → ℕ → ℕ
variable_id names p n = position_or_len (bytes_eq (name_of names n)) (var_names p)

module _ (names : List (List ℕ)) (p : Parsed) (t : LevelText) where
  abbrev pub class_given : Named → Option (Placed Term × Named) → LevelClass
  class_given level None = at_level (level_id t level.0)
  class_given level (Some x) = either_level (resolved_term (variable_id names p) (variable_id names p) x.0.1) (level_id t level.0) (level_id t x.1.0)

  abbrev pub levels_given : Levels
  levels_given = record {
    names = map (λ v. name_of names v.name.0) t.levels;
    below = map (λ v. map (λ n. level_id t n.0) v.lower) t.levels;
    classes = map (λ c. (variable_id names p c.var.0, class_given c.level c.choice)) t.listings;
  }
