-- What an observer at a level is shown of a program: a program of low and high variables.
use Rattle.std.specs.Prelude.{ℕ, suc, ◌==◌, List, [], ◌∷◌, map, get_or, Bool, if◌then◌else◌, Option, Some, None, option_map, find, position}
use Rattle.std.specs.Str.{bytes_eq}
use Rattle.cov_expr.specs.Term.{Term, const, var, neg, bin, flag}
use Rattle.cov_expr.specs.declared.expr.Op.TheVariants.{Both, Either}
use Rattle.cov_ast.specs.Syntax.{Class, low, high, Var, State, Cert, Proof, Stm, Block, Thread, Program}
use Rattle.cov_ast.specs.Syntax as s
use Rattle.cov_ast.specs.Tables.{has}
use Rattle.statement_parts.specs.Mapped.{mapped, mapped_in, Mapping, same_parts}
use Rattle.level_text.specs.Lattice.{Levels, LevelClass, at_level, either_level}
use Rattle.levels.specs.Order.{seen_by}

-- Markers -------------------------------------------------------------------------------------------------------

-- The number that stands for a variable in annotations, if it is a marker, the variable with the name of a level: 1 where that
-- level is seen, else 0.
abbrev pub mark_of : (seen : List Bool) → (names : List (List ℕ)) → Var → Option ℕ
mark_of seen names v = option_map (λ b. flag (has seen b)) (position (bytes_eq v.name) names)

abbrev pub marks_of : (seen : List Bool) → Levels → List Var → List (Option ℕ)
marks_of seen l vars = map (mark_of seen l.names) vars

abbrev pub number_or : Option ℕ → Term → Term
number_or None e = e
number_or (Some k) e = const k

-- Annotations ---------------------------------------------------------------------------------------------------

-- Each variable for which a number stands becomes that number: in the type of a value, in types, in predicates and in
-- certificates. What a statement does stays, and so do the variables that types are of.
module _ (marks : List (Option ℕ)) where
  abbrev pub marked_term : Term → Term
  marked_term (const k) = const k
  marked_term (var x) = number_or (get_or marks x None) (var x)
  marked_term (neg e) = neg (marked_term e)
  marked_term (bin op a b) = bin op (marked_term a) (marked_term b)

  abbrev pub marked_type : ℕ × Term → ℕ × Term
  marked_type t = (t.0, marked_term t.1)

  abbrev pub marked_state : State → State
  marked_state j = record { preds = map marked_term j.preds; types = map marked_type j.types }

  abbrev pub marked_cert : Cert → Cert
  marked_cert s.auto = s.auto
  marked_cert (s.hyp i) = s.hyp i
  marked_cert s.calc = s.calc
  marked_cert (s.clash i) = s.clash i
  marked_cert (s.and c d) = s.and (marked_cert c) (marked_cert d)
  marked_cert (s.left c) = s.left (marked_cert c)
  marked_cert (s.right c) = s.right (marked_cert c)
  marked_cert (s.unpack i c) = s.unpack i (marked_cert c)
  marked_cert (s.cases i c d) = s.cases i (marked_cert c) (marked_cert d)
  marked_cert (s.split e c d) = s.split (marked_term e) (marked_cert c) (marked_cert d)
  marked_cert (s.have e c d) = s.have (marked_term e) (marked_cert c) (marked_cert d)
  marked_cert (s.absurdity i j) = s.absurdity i j
  marked_cert (s.negation c) = s.negation (marked_cert c)
  marked_cert (s.contra c) = s.contra (marked_cert c)
  marked_cert s.reflexive = s.reflexive
  marked_cert (s.fwd i e c) = s.fwd i (marked_term e) (marked_cert c)
  marked_cert (s.rev i e c) = s.rev i (marked_term e) (marked_cert c)
  marked_cert (s.instance k es c) = s.instance k (map marked_term es) (marked_cert c)
  marked_cert s.ring = s.ring
  marked_cert s.range = s.range

  abbrev pub marked_proof : Proof → Proof
  marked_proof p = record { number = p.number; cert = marked_cert p.cert }

  -- what becomes of the parts of statements
  abbrev pub with_marks : Mapping
  with_marks = record same_parts {
    written = option_map marked_term;
    types = map marked_type;
    state = marked_state;
    proofs = λ c at proofs. map marked_proof proofs;
  }

  abbrev pub marked_stm : Stm → Stm
  marked_stm c = mapped with_marks c

  abbrev pub marked_block : Block → Block
  marked_block b = mapped_in with_marks b

  abbrev pub marked_thread : Thread → Thread
  marked_thread t = record { name = t.name; at = t.at; modes = t.modes; body = marked_block t.body; end = t.end }

-- Classes -------------------------------------------------------------------------------------------------------

-- a level as a number: 1 where it is seen, else 0
abbrev pub level_term : (seen : List Bool) → ℕ → Term
level_term seen b = const (flag (has seen b))

-- The class of a listed variable, for an observer who sees these levels.
abbrev pub shown_class : (seen : List Bool) → LevelClass → Class
shown_class seen (at_level b) = if has seen b then low else high
shown_class seen (either_level e b c) = s.when (bin Either (bin Both e (level_term seen b)) (bin Both (neg e) (level_term seen c)))

-- a variable that isn't listed keeps its class
abbrev pub class_or : (seen : List Bool) → Option (ℕ × LevelClass) → Class → Class
class_or seen None own = own
class_or seen (Some c) own = shown_class seen c.1

abbrev pub listed : Levels → (x : ℕ) → Option (ℕ × LevelClass)
listed l x = find (λ c. c.0 == x) l.classes

abbrev pub shown_var : (seen : List Bool) → Levels → (x : ℕ) → Var → Var
shown_var seen l x v = record { name = v.name; at = v.at; class = class_or seen (listed l x) v.class }

-- variables, of which the first has this number
abbrev pub shown_vars : (seen : List Bool) → Levels → (x : ℕ) → List Var → List Var
shown_vars seen l x [] = []
shown_vars seen l x (v ∷ vs) = shown_var seen l x v ∷ shown_vars seen l (suc x) vs

-- Programs ------------------------------------------------------------------------------------------------------

-- A program as an observer is shown it who sees these levels.
abbrev pub shown : (seen : List Bool) → Levels → Program → Program
shown seen l p = record {
  version = p.version;
  vars = shown_vars seen l 0 p.vars;
  locks = p.locks;
  threads = map (marked_thread (marks_of seen l p.vars)) p.threads;
}

-- The same for the observer at a level.
abbrev pub projected : Levels → (observer : ℕ) → Program → Program
projected l observer p = shown (seen_by l observer) l p
