-- Limits of trees with places: the fault of least place.
use Rattle.std.specs.Prelude.{ℕ, zero, suc, ◌+◌, ◌-◌, ◌==◌, max, nat_lt, nat_le, List, [], ◌∷◌, ◌++◌, length, map, flat_map, if◌then◌else◌, Option, Some, None}
use Rattle.cov_expr.specs.declared.limits.TheConstants.{MOST_VARIABLES, MOST_LOCKS, MOST_THREADS, MOST_STATEMENTS, MOST_BLOCKS, MOST_NODES, MOST_HEIGHT, MOST_CERT_NODES, MOST_PREDICATES, MOST_TYPES}
use Rattle.cov_expr.specs.Term.{Term}
use Rattle.cov_expr.specs.Trees.{nodes, height}
use Rattle.cov_grammar.specs.PlacedTrees.{Placed, Class, low, high, low_when, Var, Lock, State, Cert, Proofs, Stm, Block, Stms, Thread, Program, skip, assign, lock, unlock, branch, loop, note, output, block, none, next}
use Rattle.cov_grammar.specs.PlacedTrees as t
use Rattle.cov_text.specs.declared.fault.Counted.{Counted}
use Rattle.cov_text.specs.declared.fault.Counted.TheVariants.{Variables, Locks, Threads, Statements, Nodes, CertNodes, Predicates, Types}
use Rattle.cov_text.specs.declared.fault.Limit.{Limit}
use Rattle.cov_text.specs.declared.fault.Limit.TheVariants.{TooMany, TooDeep}
use Rattle.cov_text.specs.declared.fault.Excess.{Excess}

-- Certificates -------------------------------------------------------------------------------------------------

-- nodes and height, without the expressions inside
abbrev pub cert_nodes : Cert → ℕ
cert_nodes t.auto = 1
cert_nodes t.calc = 1
cert_nodes t.reflexive = 1
cert_nodes t.ring = 1
cert_nodes t.range = 1
cert_nodes (t.hyp i) = 1
cert_nodes (t.clash i) = 1
cert_nodes (t.absurdity i j) = 1
cert_nodes (t.and c d) = 1 + cert_nodes c + cert_nodes d
cert_nodes (t.left c) = 1 + cert_nodes c
cert_nodes (t.right c) = 1 + cert_nodes c
cert_nodes (t.unpack i c) = 1 + cert_nodes c
cert_nodes (t.cases i c d) = 1 + cert_nodes c + cert_nodes d
cert_nodes (t.split e c d) = 1 + cert_nodes c + cert_nodes d
cert_nodes (t.have e c d) = 1 + cert_nodes c + cert_nodes d
cert_nodes (t.negation c) = 1 + cert_nodes c
cert_nodes (t.contra c) = 1 + cert_nodes c
cert_nodes (t.fwd i e c) = 1 + cert_nodes c
cert_nodes (t.rev i e c) = 1 + cert_nodes c
cert_nodes (t.instance i es c) = 1 + cert_nodes c

abbrev pub cert_height : Cert → ℕ
cert_height t.auto = 1
cert_height t.calc = 1
cert_height t.reflexive = 1
cert_height t.ring = 1
cert_height t.range = 1
cert_height (t.hyp i) = 1
cert_height (t.clash i) = 1
cert_height (t.absurdity i j) = 1
cert_height (t.and c d) = 1 + max (cert_height c) (cert_height d)
cert_height (t.left c) = 1 + cert_height c
cert_height (t.right c) = 1 + cert_height c
cert_height (t.unpack i c) = 1 + cert_height c
cert_height (t.cases i c d) = 1 + max (cert_height c) (cert_height d)
cert_height (t.split e c d) = 1 + max (cert_height c) (cert_height d)
cert_height (t.have e c d) = 1 + max (cert_height c) (cert_height d)
cert_height (t.negation c) = 1 + cert_height c
cert_height (t.contra c) = 1 + cert_height c
cert_height (t.fwd i e c) = 1 + cert_height c
cert_height (t.rev i e c) = 1 + cert_height c
cert_height (t.instance i es c) = 1 + cert_height c

-- Faults -------------------------------------------------------------------------------------------------------

-- the fault of least place; at one place the first
abbrev pub sooner : Option Excess → Option Excess → Option Excess
sooner None y = y
sooner (Some x) None = Some x
sooner (Some x) (Some y) = if nat_le x.at y.at then Some x else Some y

-- the least fault of any item
abbrev pub least : {A : Type 0} → (A → Option Excess) → List A → Option Excess
least fault [] = None
least fault (x ∷ xs) = sooner (fault x) (least fault xs)

-- a measure above its bound; or, where it isn't, another
abbrev pub above : (at most n : ℕ) → Limit → Option Excess → Option Excess
above at most n limit rest = if nat_lt most n then Some (record { at = at; limit = limit }) else rest

abbrev pub in_expr : Placed Term → Option Excess
in_expr e = above e.0 MOST_NODES (nodes e.1) (TooMany Nodes) (above e.0 MOST_HEIGHT (height e.1) TooDeep None)

abbrev pub in_option : Option (Placed Term) → Option Excess
in_option None = None
in_option (Some e) = in_expr e

-- a variable and an expression
abbrev pub in_pair : ℕ × Placed Term → Option Excess
in_pair x = in_expr x.1

-- the expressions inside a certificate
abbrev pub inside_cert : Cert → Option Excess
inside_cert t.auto = None
inside_cert t.calc = None
inside_cert t.reflexive = None
inside_cert t.ring = None
inside_cert t.range = None
inside_cert (t.hyp i) = None
inside_cert (t.clash i) = None
inside_cert (t.absurdity i j) = None
inside_cert (t.and c d) = sooner (inside_cert c) (inside_cert d)
inside_cert (t.left c) = inside_cert c
inside_cert (t.right c) = inside_cert c
inside_cert (t.unpack i c) = inside_cert c
inside_cert (t.cases i c d) = sooner (inside_cert c) (inside_cert d)
inside_cert (t.split e c d) = sooner (in_expr e) (sooner (inside_cert c) (inside_cert d))
inside_cert (t.have e c d) = sooner (in_expr e) (sooner (inside_cert c) (inside_cert d))
inside_cert (t.negation c) = inside_cert c
inside_cert (t.contra c) = inside_cert c
inside_cert (t.fwd i e c) = sooner (in_expr e) (inside_cert c)
inside_cert (t.rev i e c) = sooner (in_expr e) (inside_cert c)
inside_cert (t.instance i es c) = sooner (least in_expr es) (inside_cert c)

-- a proof, by its number
abbrev pub in_proof : ℕ × Placed Cert → Option Excess
in_proof p = sooner (above p.1.0 MOST_CERT_NODES (cert_nodes p.1.1) (TooMany CertNodes) (above p.1.0 MOST_HEIGHT (cert_height p.1.1) TooDeep None)) (inside_cert p.1.1)

abbrev pub in_state : State → Option Excess
in_state s =
    sooner (above s.at MOST_PREDICATES (length s.preds) (TooMany Predicates) (above s.at MOST_TYPES (length s.types) (TooMany Types) None))
    (sooner (least in_expr s.preds) (least in_pair s.types))

abbrev pub in_state_option : Option State → Option Excess
in_state_option None = None
in_state_option (Some s) = in_state s

abbrev mutual
  -- where so many blocks more may be nested
  pub in_stm : (room : ℕ) → Stm → Option Excess
  in_stm room skip = None
  in_stm room (assign x e q rs ps) = sooner (in_expr e) (sooner (in_option q) (sooner (least in_pair rs) (least in_proof ps)))
  in_stm room (lock l) = None
  in_stm room (unlock l ps) = least in_proof ps
  in_stm room (branch e a b s ps) =
      sooner (in_expr e) (sooner (in_block (room - 1) a) (sooner (in_block (room - 1) b) (sooner (in_state_option s) (least in_proof ps))))
  in_stm room (loop e s b ps) = sooner (in_expr e) (sooner (in_state_option s) (sooner (in_block (room - 1) b) (least in_proof ps)))
  in_stm room (note s ps) = sooner (in_state s) (least in_proof ps)
  in_stm room (output e ps) = sooner (in_expr e) (least in_proof ps)

  pub in_block : (room : ℕ) → Block → Option Excess
  in_block room (block begin end ss) = sooner (if room == 0 then Some (record { at = begin; limit = TooDeep }) else None) (in_stms room ss)

  pub in_stms : (room : ℕ) → Stms → Option Excess
  in_stms room none = None
  in_stms room (next at s ss) = sooner (in_stm room s) (in_stms room ss)

-- Numbers ------------------------------------------------------------------------------------------------------

abbrev mutual
  -- the places of statements, in the order of the text
  pub places : Stms → List ℕ
  places none = []
  places (next at s ss) = at ∷ places_in s ++ places ss

  pub places_in : Stm → List ℕ
  places_in skip = []
  places_in (assign x e q rs ps) = []
  places_in (lock l) = []
  places_in (unlock l ps) = []
  places_in (branch e a b s ps) = places_of a ++ places_of b
  places_in (loop e s b ps) = places_of b
  places_in (note s ps) = []
  places_in (output e ps) = []

  pub places_of : Block → List ℕ
  places_of (block begin end ss) = places ss

-- the first place past a number
abbrev pub past : ℕ → Counted → List ℕ → Option Excess
past most c [] = None
past zero c (at ∷ ats) = Some (record { at = at; limit = TooMany c })
past (suc n) c (at ∷ ats) = past n c ats

-- Programs -----------------------------------------------------------------------------------------------------

abbrev pub in_class : Class → Option Excess
in_class low = None
in_class high = None
in_class (low_when e) = in_expr e

abbrev pub in_var : Var → Option Excess
in_var v = in_class v.class

abbrev pub in_lock : Lock → Option Excess
in_lock l = in_option l.inv

abbrev pub in_thread : Thread → Option Excess
in_thread h = in_block MOST_BLOCKS h.body

unfoldable pub past_variables : Program → Option Excess
past_variables p = past MOST_VARIABLES Variables (map (λ v. v.name.1) p.vars)

unfoldable pub past_locks : Program → Option Excess
past_locks p = past MOST_LOCKS Locks (map (λ l. l.name.1) p.locks)

unfoldable pub past_threads : Program → Option Excess
past_threads p = past MOST_THREADS Threads (map (λ h. h.name.1) p.threads)

unfoldable pub past_statements : Program → Option Excess
past_statements p = past MOST_STATEMENTS Statements (flat_map (λ h. places_of h.body) p.threads)

abbrev pub in_program : Program → Option Excess
in_program p =
    sooner (past_variables p) (sooner (past_locks p) (sooner (past_threads p) (sooner (past_statements p)
    (sooner (least in_var p.vars) (sooner (least in_lock p.locks) (least in_thread p.threads))))))
