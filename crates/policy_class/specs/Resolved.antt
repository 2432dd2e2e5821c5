-- What the names of a text mean: the rules of names (W1, W2), and the program in which each use of a name is the id of the
-- declaration with that name.
use Rattle.std.specs.Prelude.{ℕ, ◌==◌, List, [], ◌∷◌, ◌++◌, map, get_or, Bool, not, if◌then◌else◌, option_map, Result, Ok, Err}
use Rattle.std.specs.List.{list_any, position_or_len}
use Rattle.std.specs.Str.{bytes_eq}
use Rattle.cov_expr.specs.Term.{Term, const, var, neg, bin}
use Rattle.cov_expr.specs.declared.expr.TheConstants.{HOLE}
use Rattle.cov_ast.specs.Syntax.{Class, low, high, when, Var, Lock, Modes, State, Cert, Proof, Stm, Block, Thread, Program, Parsed}
use Rattle.cov_ast.specs.Syntax as s
use Rattle.cov_ast.specs.Obligations.{Obligation, declared_obligation}
use Rattle.cov_ast.specs.declared.parsed.NameUse.{NameUse}
use Rattle.cov_ast.specs.declared.refusal.Rule.TheVariants.{W1, W2}
use Rattle.cov_ast.specs.declared.refusal.Detail.TheVariants.{One}
use Rattle.cov_ast.specs.declared.refusal.CheckFault.{CheckFault}
use Rattle.statement_parts.specs.Mapped.{mapped, mapped_in, Mapping, same_parts}

-- Names --------------------------------------------------------------------------------------------------------

-- a declared name, with its place in the text
pub record Named : Type 0 where
  pub name : List ℕ
  pub at : ℕ

abbrev pub var_named : Var → Named
var_named v = record { name = v.name; at = v.at }

abbrev pub lock_named : Lock → Named
lock_named l = record { name = l.name; at = l.at }

abbrev pub thread_named : Thread → Named
thread_named t = record { name = t.name; at = t.at }

-- the declarations in the order of the text
abbrev pub declared_names : Parsed → List Named
declared_names p = map var_named p.vars ++ map lock_named p.locks ++ map thread_named p.threads

abbrev pub is_among : List (List ℕ) → List ℕ → Bool
is_among names name = list_any (bytes_eq name) names

-- W1: no name was declared before
abbrev pub w1_obligation : (before : List (List ℕ)) → Named → Obligation
w1_obligation before n = declared_obligation W1 n.at (One n.name) (not (is_among before n.name))

abbrev pub w1_from : (before : List (List ℕ)) → List Named → List Obligation
w1_from before [] = []
w1_from before (n ∷ ns) = w1_obligation before n ∷ w1_from (before ++ n.name ∷ []) ns

-- the text of a name, by its number
abbrev pub text_of : Parsed → ℕ → List ℕ
text_of p number = get_or p.names number []

abbrev pub var_names : Parsed → List (List ℕ)
var_names p = map (λ v. v.name) p.vars

abbrev pub lock_names : Parsed → List (List ℕ)
lock_names p = map (λ l. l.name) p.locks

-- W2: a name that is used as a lock is that of a lock, and one that is used as a variable that of a variable
abbrev pub is_declared : Parsed → NameUse → Bool
is_declared p u = is_among (if u.lock then lock_names p else var_names p) (text_of p u.name)

abbrev pub use_obligation : Parsed → NameUse → Obligation
use_obligation p u = declared_obligation W2 u.at (One (text_of p u.name)) (is_declared p u)

abbrev pub name_obligations : Parsed → List Obligation
name_obligations p = w1_from [] (declared_names p) ++ map (use_obligation p) p.uses

-- what a call answers about obligations, without the value that it gives where all hold
abbrev pub without_value : {X : Type 0} → Result X CheckFault → Result (Unit {0}) CheckFault
without_value (Ok x) = Ok tt
without_value (Err fault) = Err fault

-- Trees by id --------------------------------------------------------------------------------------------------

-- a variable and a lock, each by its number, become what two functions give
module _ (to_var to_lock : ℕ → ℕ) where
  -- the hole of a template stays
  abbrev pub resolved_var : ℕ → ℕ
  resolved_var x = if x == HOLE then x else to_var x

  abbrev pub resolved_term : Term → Term
  resolved_term (const k) = const k
  resolved_term (var x) = var (resolved_var x)
  resolved_term (neg e) = neg (resolved_term e)
  resolved_term (bin op a b) = bin op (resolved_term a) (resolved_term b)

  abbrev pub resolved_type : ℕ × Term → ℕ × Term
  resolved_type t = (resolved_var t.0, resolved_term t.1)

  abbrev pub resolved_state : State → State
  resolved_state j = record { preds = map resolved_term j.preds; types = map resolved_type j.types }

  abbrev pub resolved_cert : Cert → Cert
  resolved_cert s.auto = s.auto
  resolved_cert (s.hyp i) = s.hyp i
  resolved_cert s.calc = s.calc
  resolved_cert (s.clash i) = s.clash i
  resolved_cert (s.and c d) = s.and (resolved_cert c) (resolved_cert d)
  resolved_cert (s.left c) = s.left (resolved_cert c)
  resolved_cert (s.right c) = s.right (resolved_cert c)
  resolved_cert (s.unpack i c) = s.unpack i (resolved_cert c)
  resolved_cert (s.cases i c d) = s.cases i (resolved_cert c) (resolved_cert d)
  resolved_cert (s.split e c d) = s.split (resolved_term e) (resolved_cert c) (resolved_cert d)
  resolved_cert (s.have e c d) = s.have (resolved_term e) (resolved_cert c) (resolved_cert d)
  resolved_cert (s.absurdity i j) = s.absurdity i j
  resolved_cert (s.negation c) = s.negation (resolved_cert c)
  resolved_cert (s.contra c) = s.contra (resolved_cert c)
  resolved_cert s.reflexive = s.reflexive
  resolved_cert (s.fwd i e c) = s.fwd i (resolved_term e) (resolved_cert c)
  resolved_cert (s.rev i e c) = s.rev i (resolved_term e) (resolved_cert c)
  resolved_cert (s.instance k es c) = s.instance k (map resolved_term es) (resolved_cert c)
  resolved_cert s.ring = s.ring
  resolved_cert s.range = s.range

  abbrev pub resolved_proof : Proof → Proof
  resolved_proof p = record { number = p.number; cert = resolved_cert p.cert }

  -- what each part of a statement becomes
  abbrev pub resolving : Mapping
  resolving = record same_parts {
    variable = resolved_var;
    lock_number = to_lock;
    expression = resolved_term;
    written = option_map resolved_term;
    types = map resolved_type;
    state = resolved_state;
    proofs = λ c at proofs. map resolved_proof proofs;
  }

  abbrev pub resolved_stm : Stm → Stm
  resolved_stm c = mapped resolving c

  abbrev pub resolved_block : Block → Block
  resolved_block b = mapped_in resolving b

  abbrev pub resolved_class : Class → Class
  resolved_class low = low
  resolved_class high = high
  resolved_class (when e) = when (resolved_term e)

  abbrev pub resolved_variable : Var → Var
  resolved_variable v = record { name = v.name; at = v.at; class = resolved_class v.class }

  abbrev pub resolved_lock : Lock → Lock
  resolved_lock l = record { name = l.name; at = l.at; nowrite = map resolved_var l.nowrite; hide = map resolved_var l.hide; inv = option_map resolved_term l.inv }

  abbrev pub resolved_modes : Modes → Modes
  resolved_modes m = record {
    assume_nowrite = map resolved_var m.assume_nowrite;
    assume_hide = map resolved_var m.assume_hide;
    guarantee_nowrite = map resolved_var m.guarantee_nowrite;
    guarantee_hide = map resolved_var m.guarantee_hide;
  }

  abbrev pub resolved_thread : Thread → Thread
  resolved_thread t = record { name = t.name; at = t.at; modes = resolved_modes t.modes; body = resolved_block t.body; end = t.end }

-- the id of the declaration with a name, by the number of the name
abbrev pub var_id : Parsed → ℕ → ℕ
var_id p number = position_or_len (bytes_eq (text_of p number)) (var_names p)

abbrev pub lock_id : Parsed → ℕ → ℕ
lock_id p number = position_or_len (bytes_eq (text_of p number)) (lock_names p)

-- the program that a text stands for, once its names are in order
abbrev pub resolved : Parsed → Program
resolved p = record {
  version = p.version;
  vars = map (resolved_variable (var_id p) (lock_id p)) p.vars;
  locks = map (resolved_lock (var_id p) (lock_id p)) p.locks;
  threads = map (resolved_thread (var_id p) (lock_id p)) p.threads;
}
