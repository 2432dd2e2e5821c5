-- Programs of which it is known what a search puts in, by computation.
use Rattle.std.proofs.Common.{◌≡◌, ℕ, List, [], ◌∷◌, false, Option, Some, None, refl}
use Rattle.cov_expr.specs.declared.expr.Op.TheVariants.{Add, Eq, Le}
use Rattle.cov_expr.specs.declared.expr.TheConstants.{HOLE}
use Rattle.cov_expr.specs.Term.{Term, const, var, bin}
use Rattle.cov_ast.specs.Syntax.{Class, low, high, when, Var, Lock, Modes, Cert, Proof, Stm, assign, lock, unlock, branch, note, Block, Thread, Program, Parsed}
use Rattle.cov_ast.specs.Syntax as by
use Rattle.cov_ast.specs.Declarations.{no_modes}
use Rattle.cov_ast.specs.View.{Placed, block_of}
use Rattle.cov_ast.specs.declared.refusal.Detail.TheVariants.{Nothing, Number}
use Rattle.cov_ast.specs.declared.refusal.Rule.TheVariants.{V9, V12}
use Rattle.cov_ast.specs.declared.refusal.Refusal.{Refusal}
use Rattle.typing_law.specs.Verdicts.{counts}
use Rattle.cov_ast.specs.declared.parsed.NameUse.{NameUse}
use Rattle.policy_class.specs.Resolved.{resolved}
use Rattle.annotate.specs.Annotated.{annotated, first_refused, unproved}
use Rattle.annotate.specs.AnnotatedText.{annotated_text}

abbrev variable : List ℕ → ℕ → Class → Var
variable name at class = record { name = name; at = at; class = class }

abbrev lock_of : List ℕ → ℕ → (nowrite hide : List ℕ) → Option Term → Lock
lock_of name at nowrite hide inv = record { name = name; at = at; nowrite = nowrite; hide = hide; inv = inv }

abbrev thread_of : List ℕ → ℕ → Modes → Block → ℕ → Thread
thread_of name at modes body end = record { name = name; at = at; modes = modes; body = body; end = end }

abbrev stm : ℕ → Stm → List Proof → Placed
stm at s proofs = record { at = at; stm = s; proofs = proofs }

abbrev proof : ℕ → Cert → Proof
proof number cert = record { number = number; cert = cert }

abbrev unproved_at : (place number : ℕ) → Option Refusal
unproved_at place number = Some (record { rule = V9; thread = Some 0; place = place; detail = Number number })

-- the first variable is 0
abbrev is_zero : Term
is_zero = bin Eq (var 0) (const 0)

-- A class is raised -----------------------------------------------------------------------------------------

-- have [1 == 0] (rev 1 [_ == 0] (hyp 2)) auto
abbrev raising : Cert
raising = by.have (bin Eq (const 1) (const 0)) (by.rev 1 (bin Eq (var HOLE) (const 0)) (by.hyp 2)) by.auto

-- var mode: low; var buf: low when mode == 0; var key: high; lock l hide mode, buf; thread w { lock l; buf := key; mode := 1; unlock l; }
-- with proofs of the last statement
abbrev raises : List Proof → Program
raises proofs = record {
  version = 1;
  vars =
      variable (109 ∷ 111 ∷ 100 ∷ 101 ∷ []) 4 low
      ∷ variable (98 ∷ 117 ∷ 102 ∷ []) 19 (when is_zero)
      ∷ variable (107 ∷ 101 ∷ 121 ∷ []) 48 high ∷ [];
  locks = lock_of (108 ∷ []) 64 [] (0 ∷ 1 ∷ []) None ∷ [];
  threads =
      thread_of (119 ∷ []) 89 no_modes (block_of (
      stm 93 (lock 0) []
      ∷ stm 101 (assign 1 (var 2) None []) []
      ∷ stm 113 (assign 0 (const 1) None []) []
      ∷ stm 124 (unlock 0) proofs ∷ [])) 134 ∷ [];
}

raises-found : annotated 1 (raises []) ≡ raises (proof 1 raising ∷ [])
raises-found = refl

raises-accepted : first_refused 1 (raises []) ≡ None
raises-accepted = refl

raises-counts : counts (annotated 1 (raises [])) ≡ record { statements = 4; entailments = 2 }
raises-counts = refl

raises-closed : unproved 1 (raises []) ≡ []
raises-closed = refl

-- a certificate that isn't valid is replaced, and keeps its place
raises-replaced : annotated 1 (raises (proof 2 by.auto ∷ proof 1 by.ring ∷ proof 1 by.calc ∷ [])) ≡ raises (proof 2 by.auto ∷ proof 1 raising ∷ proof 1 by.calc ∷ [])
raises-replaced = refl

-- without a step none is found
raises-kept : annotated 0 (raises []) ≡ raises []
raises-kept = refl

raises-refused : first_refused 0 (raises []) ≡ unproved_at 124 1
raises-refused = refl

raises-open : unproved 0 (raises []) ≡ record { thread = 0; place = 124; number = 1 } ∷ []
raises-open = refl

-- A secret is stored ----------------------------------------------------------------------------------------

-- var a: low; var s: high; thread t { a := s; }
abbrev stores_high : Program
stores_high = record {
  version = 1;
  vars = variable (97 ∷ []) 4 low ∷ variable (115 ∷ []) 16 high ∷ [];
  locks = [];
  threads = thread_of (116 ∷ []) 32 no_modes (block_of (stm 36 (assign 0 (var 1) None []) [] ∷ [])) 44 ∷ [];
}

stores_high-kept : annotated 2 stores_high ≡ stores_high
stores_high-kept = refl

stores_high-refused : first_refused 2 stores_high ≡ unproved_at 36 1
stores_high-refused = refl

stores_high-open : unproved 2 stores_high ≡ record { thread = 0; place = 36; number = 1 } ∷ []
stores_high-open = refl

-- A bounded counter -----------------------------------------------------------------------------------------

abbrev at_most : ℕ → ℕ → Term
at_most x k = bin Le (var x) (const k)

-- fwd N [_ <= K] c
abbrev bounded : ℕ → ℕ → Cert → Cert
bounded n k c = by.fwd n (bin Le (var HOLE) (const k)) c

-- var n: low; var tmp: low; lock l nowrite n inv n <= 3; thread t assume hide tmp { lock l; if n <= 2 { tmp := n; note { tmp <= 2 }; n := tmp + 1; } else { }
-- join { n <= 3 } unlock l; }, with proofs of the note and of the branch
abbrev counts_up : (of_note of_branch : List Proof) → Program
counts_up of_note of_branch = record {
  version = 1;
  vars = variable (110 ∷ []) 4 low ∷ variable (116 ∷ 109 ∷ 112 ∷ []) 16 low ∷ [];
  locks = lock_of (108 ∷ []) 31 (0 ∷ []) [] (Some (at_most 0 3)) ∷ [];
  threads =
      thread_of (116 ∷ []) 62 (record { assume_nowrite = []; assume_hide = 1 ∷ []; guarantee_nowrite = []; guarantee_hide = [] }) (block_of (
      stm 82 (lock 0) []
      ∷ stm 90 (branch (at_most 0 2) (block_of (
      stm 102 (assign 1 (var 0) None []) []
      ∷ stm 112 (note (record { preds = at_most 1 2 ∷ []; types = [] })) of_note
      ∷ stm 131 (assign 0 (bin Add (var 1) (const 1)) None []) [] ∷ [])) (block_of []) (record { preds = at_most 0 3 ∷ []; types = [] })) of_branch
      ∷ stm 172 (unlock 0) [] ∷ [])) 182 ∷ [];
}

counts_up-found : annotated 1 (counts_up [] []) ≡ counts_up (proof 1 (bounded 3 2 by.auto) ∷ []) (proof 2 (bounded 2 3 by.range) ∷ [])
counts_up-found = refl

counts_up-accepted : first_refused 1 (counts_up [] []) ≡ None
counts_up-accepted = refl

counts_up-counts : counts (annotated 1 (counts_up [] [])) ≡ record { statements = 6; entailments = 6 }
counts_up-counts = refl

counts_up-closed : unproved 1 (counts_up [] []) ≡ []
counts_up-closed = refl

-- Several predicates -----------------------------------------------------------------------------------------

abbrev sum : ℕ → ℕ → Term
sum x y = bin Add (var x) (var y)

abbrev assumes_nowrite : List ℕ → Modes
assumes_nowrite xs = record { assume_nowrite = xs; assume_hide = []; guarantee_nowrite = []; guarantee_hide = [] }

-- var x: low; var y: low; var z: low; thread t assume nowrite x, y, z { x := z; note { x + y == z + y; y + x == y + z; x == z }; }, with proofs of the note
abbrev several : List Proof → Program
several proofs = record {
  version = 1;
  vars = variable (120 ∷ []) 4 low ∷ variable (121 ∷ []) 16 low ∷ variable (122 ∷ []) 28 low ∷ [];
  locks = [];
  threads =
      thread_of (116 ∷ []) 43 (assumes_nowrite (0 ∷ 1 ∷ 2 ∷ [])) (block_of (
      stm 70 (assign 0 (var 2) None []) []
      ∷ stm 78 (note (record { preds = bin Eq (sum 0 1) (sum 2 1) ∷ bin Eq (sum 1 0) (sum 1 2) ∷ bin Eq (var 0) (var 2) ∷ []; types = [] })) proofs ∷ [])) 130 ∷ [];
}

-- new proofs stand behind an old one, in order of their numbers
several-found : annotated 1 (several (proof 3 (by.hyp 1) ∷ [])) ≡
    several (proof 3 (by.hyp 1) ∷ proof 1 (by.fwd 1 (bin Eq (sum HOLE 1) (sum 2 1)) by.reflexive) ∷ proof 2 (by.fwd 1 (bin Eq (sum 1 HOLE) (sum 1 2)) by.reflexive) ∷ [])
several-found = refl

-- Behind a false obligation ------------------------------------------------------------------------------------

-- var x: low; var y: low; var z: low; var w: low; thread t assume nowrite x, y, z { x := z; note { w == 0 }; note { x + y == z + y }; }, with proofs of the
-- last statement. Another thread may write w, so that no predicate may speak of it.
abbrev unstable : List Proof → Program
unstable proofs = record {
  version = 1;
  vars = variable (120 ∷ []) 4 low ∷ variable (121 ∷ []) 16 low ∷ variable (122 ∷ []) 28 low ∷ variable (119 ∷ []) 40 low ∷ [];
  locks = [];
  threads =
      thread_of (116 ∷ []) 55 (assumes_nowrite (0 ∷ 1 ∷ 2 ∷ [])) (block_of (
      stm 82 (assign 0 (var 2) None []) []
      ∷ stm 90 (note (record { preds = bin Eq (var 3) (const 0) ∷ []; types = [] })) []
      ∷ stm 106 (note (record { preds = bin Eq (sum 0 1) (sum 2 1) ∷ []; types = [] })) proofs ∷ [])) 131 ∷ [];
}

-- behind it nothing is put in and nothing replaced
unstable-kept : annotated 1 (unstable []) ≡ unstable []
unstable-kept = refl

unstable-stays : annotated 1 (unstable (proof 1 by.ring ∷ [])) ≡ unstable (proof 1 by.ring ∷ [])
unstable-stays = refl

-- and nothing is open
unstable-closed : unproved 1 (unstable []) ≡ []
unstable-closed = refl

unstable-refused : first_refused 1 (unstable []) ≡ Some (record { rule = V12; thread = Some 0; place = 90; detail = Nothing })
unstable-refused = refl

-- The annotated text -------------------------------------------------------------------------------------------

abbrev as_used : (name at : ℕ) → NameUse
as_used name at = record { name = name; lock = false; at = at }

-- var x: low when z == 0; var y: low; var z: low; thread t assume nowrite x, y, z { x := z; note { x + y == z + y }; }, with proofs of the note, further
-- statements and further uses. The names are x, z, y, t, by their numbers.
abbrev sums_and : List Placed → List Proof → List NameUse → Parsed
sums_and rest proofs more = record {
  version = 1;
  names = (120 ∷ []) ∷ (122 ∷ []) ∷ (121 ∷ []) ∷ (116 ∷ []) ∷ [];
  uses = as_used 1 16 ∷ as_used 0 72 ∷ as_used 2 75 ∷ as_used 1 78 ∷ as_used 0 82 ∷ as_used 1 87 ∷ as_used 0 97 ∷ as_used 2 101 ∷ as_used 1 106 ∷ as_used 2 110 ∷ more;
  vars = variable (120 ∷ []) 4 (when (bin Eq (var 1) (const 0))) ∷ variable (121 ∷ []) 28 low ∷ variable (122 ∷ []) 40 low ∷ [];
  locks = [];
  threads =
      thread_of (116 ∷ []) 55 (assumes_nowrite (0 ∷ 2 ∷ 1 ∷ [])) (block_of (
      stm 82 (assign 0 (var 1) None []) []
      ∷ stm 90 (note (record { preds = bin Eq (sum 0 2) (sum 1 2) ∷ []; types = [] })) proofs ∷ rest)) 115 ∷ [];
}

abbrev sums : List Proof → List NameUse → Parsed
sums proofs more = sums_and [] proofs more

-- fwd 1 [_ + y == z + y] refl, in which a variable has the number of its name
abbrev summing : Cert
summing = by.fwd 1 (bin Eq (sum HOLE 2) (sum 1 2)) by.reflexive

sums-found : annotated_text 1 (sums [] []) ≡ sums (proof 1 summing ∷ []) (as_used 2 90 ∷ as_used 1 90 ∷ as_used 2 90 ∷ [])
sums-found = refl

-- the same by the numbers of variables
sums-read : annotated 1 (resolved (sums [] [])) ≡ resolved (sums (proof 1 summing ∷ []) [])
sums-read = refl

-- what is replaced is used no longer
sums-replaced : annotated_text 1 (sums (proof 1 (by.split (var 0) by.auto by.auto) ∷ []) (as_used 0 130 ∷ [])) ≡ annotated_text 1 (sums [] [])
sums-replaced = refl

-- a valid certificate stays, with its uses, where the search comes to another
abbrev splitting : Parsed
splitting =
    sums (proof 1 (by.split (var 0) summing summing) ∷ [])
    (as_used 0 130 ∷ as_used 2 140 ∷ as_used 1 144 ∷ as_used 2 148 ∷ as_used 2 160 ∷ as_used 1 164 ∷ as_used 2 168 ∷ [])

sums-kept : annotated_text 1 splitting ≡ splitting
sums-kept = refl

-- the same in front of y := z, whose uses follow those of the certificate and keep their places
abbrev sums_then : List Proof → List NameUse → Parsed
sums_then proofs more = sums_and (stm 140 (assign 2 (var 1) None []) [] ∷ []) proofs more

sums_then-replaced : annotated_text 1 (sums_then (proof 1 (by.split (var 0) by.auto by.auto) ∷ []) (as_used 0 130 ∷ as_used 2 140 ∷ as_used 1 145 ∷ []))
    ≡ sums_then (proof 1 summing ∷ []) (as_used 2 90 ∷ as_used 1 90 ∷ as_used 2 90 ∷ as_used 2 140 ∷ as_used 1 145 ∷ [])
sums_then-replaced = refl
