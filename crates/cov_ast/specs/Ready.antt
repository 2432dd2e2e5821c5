-- What reading a text promises of its tree, and what giving names their ids asks of it.
use Rattle.std.specs.Prelude.{◌≡◌, ℕ, ◌<◌, ◌==◌, List, [], ◌∷◌, ◌++◌, length, map, flat_map, Bool, true, false, if◌then◌else◌, Option, Some, None, All}
use Rattle.std.specs.List.{Contains}
use Rattle.cov_expr.specs.Term.{Term, const, var, neg, bin}
use Rattle.cov_expr.specs.declared.expr.TheConstants.{HOLE}
use Rattle.cov_ast.specs.Syntax.{Class, low, high, when, Var, Lock, Modes, State, Cert, Proof, Stm, Block, done, more, Thread, Parsed}
use Rattle.cov_ast.specs.Syntax as s
use Rattle.cov_ast.specs.WellFormed.{AreIdsInRange, IsOfVersion, IsWithinLimits, IsBodyFine}
use Rattle.cov_ast.specs.declared.parsed.NameUse.{NameUse}

-- Uses of names ------------------------------------------------------------------------------------------------

-- a use of a name, by its number
pub record Use : Type 0 where
  pub name : ℕ
  pub lock : Bool

abbrev pub as_variable : ℕ → List Use
as_variable x = record { name = x; lock = false } ∷ []

abbrev pub as_lock : ℕ → List Use
as_lock l = record { name = l; lock = true } ∷ []

-- the uses of names in an expression, in the order of the text; the hole of a template is no name
abbrev pub uses_in : Term → List Use
uses_in (const k) = []
uses_in (var x) = if x == HOLE then [] else as_variable x
uses_in (neg e) = uses_in e
uses_in (bin op a b) = uses_in a ++ uses_in b

abbrev pub uses_in_option : Option Term → List Use
uses_in_option None = []
uses_in_option (Some e) = uses_in e

-- of a variable and its type
abbrev pub uses_in_type : ℕ × Term → List Use
uses_in_type t = as_variable t.0 ++ uses_in t.1

abbrev pub uses_in_state : State → List Use
uses_in_state j = flat_map uses_in j.preds ++ flat_map uses_in_type j.types

abbrev pub uses_in_cert : Cert → List Use
uses_in_cert s.auto = []
uses_in_cert (s.hyp i) = []
uses_in_cert s.calc = []
uses_in_cert (s.clash i) = []
uses_in_cert (s.and c d) = uses_in_cert c ++ uses_in_cert d
uses_in_cert (s.left c) = uses_in_cert c
uses_in_cert (s.right c) = uses_in_cert c
uses_in_cert (s.unpack i c) = uses_in_cert c
uses_in_cert (s.cases i c d) = uses_in_cert c ++ uses_in_cert d
uses_in_cert (s.split e c d) = uses_in e ++ uses_in_cert c ++ uses_in_cert d
uses_in_cert (s.have e c d) = uses_in e ++ uses_in_cert c ++ uses_in_cert d
uses_in_cert (s.absurdity i j) = []
uses_in_cert (s.negation c) = uses_in_cert c
uses_in_cert (s.contra c) = uses_in_cert c
uses_in_cert s.reflexive = []
uses_in_cert (s.fwd i e c) = uses_in e ++ uses_in_cert c
uses_in_cert (s.rev i e c) = uses_in e ++ uses_in_cert c
uses_in_cert (s.instance k es c) = flat_map uses_in es ++ uses_in_cert c
uses_in_cert s.ring = []
uses_in_cert s.range = []

abbrev pub uses_in_proof : Proof → List Use
uses_in_proof p = uses_in_cert p.cert

abbrev mutual
  -- of a statement with its proofs
  pub uses_in_stm : Stm → List Proof → List Use
  uses_in_stm s.skip proofs = flat_map uses_in_proof proofs
  uses_in_stm (s.assign x e q retypes) proofs =
      as_variable x ++ uses_in e ++ uses_in_option q ++ flat_map uses_in_type retypes ++ flat_map uses_in_proof proofs
  uses_in_stm (s.lock l) proofs = as_lock l ++ flat_map uses_in_proof proofs
  uses_in_stm (s.unlock l) proofs = as_lock l ++ flat_map uses_in_proof proofs
  uses_in_stm (s.branch e a b join) proofs =
      uses_in e ++ uses_in_block a ++ uses_in_block b ++ uses_in_state join ++ flat_map uses_in_proof proofs
  uses_in_stm (s.loop e inv b) proofs = uses_in e ++ uses_in_state inv ++ uses_in_block b ++ flat_map uses_in_proof proofs
  uses_in_stm (s.note j) proofs = uses_in_state j ++ flat_map uses_in_proof proofs
  uses_in_stm (s.output e) proofs = uses_in e ++ flat_map uses_in_proof proofs

  pub uses_in_block : Block → List Use
  uses_in_block done = []
  uses_in_block (more at c proofs b) = uses_in_stm c proofs ++ uses_in_block b

abbrev pub uses_in_class : Class → List Use
uses_in_class low = []
uses_in_class high = []
uses_in_class (when e) = uses_in e

abbrev pub uses_in_lock : Lock → List Use
uses_in_lock l = flat_map as_variable l.nowrite ++ flat_map as_variable l.hide ++ uses_in_option l.inv

abbrev pub uses_in_modes : Modes → List Use
uses_in_modes m =
    flat_map as_variable m.assume_nowrite ++ flat_map as_variable m.assume_hide
    ++ flat_map as_variable m.guarantee_nowrite ++ flat_map as_variable m.guarantee_hide

abbrev pub uses_in_thread : Thread → List Use
uses_in_thread t = uses_in_modes t.modes ++ uses_in_block t.body

abbrev pub uses_in_declarations : Parsed → List Use
uses_in_declarations p =
    flat_map (λ v. uses_in_class v.class) p.vars ++ flat_map uses_in_lock p.locks ++ flat_map uses_in_thread p.threads

-- a use without its place
abbrev pub use_of : NameUse → Use
use_of u = record { name = u.name; lock = u.lock }

-- The promise --------------------------------------------------------------------------------------------------

-- The list of uses is that of the declarations, in the order of the text.
abbrev pub HasUsesInOrder : Parsed → Type 0
HasUsesInOrder p = map use_of p.uses ≡ uses_in_declarations p

-- A tree as a text gives it: each variable and each lock is the number of a name, the hole of templates excepted; the
-- declarations and the statements of each thread are within bounds; the places of the statements of a thread differ;
-- nothing is put out in version 1; and the list of uses is one of such numbers and has each name that the declarations use.
pub record IsReady (p : Parsed) : Type 0 where
  pub ids : AreIdsInRange (length p.names) (length p.names) p.vars p.locks p.threads
  pub used_ids : All (λ u. u.name < length p.names) p.uses
  pub limits : IsWithinLimits p.vars p.locks p.threads
  pub bodies : All (λ t. IsBodyFine t.body) p.threads
  pub version : IsOfVersion p.version p.threads
  pub uses : (u : Use) → Contains (uses_in_declarations p) u → Contains (map use_of p.uses) u
