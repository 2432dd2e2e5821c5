-- Small programs whose canonical spelling is known, by computation.
use Rattle.std.proofs.Common.{◌≡◌, ℕ, List, [], ◌∷◌, Some, None, refl, codes, lit<}
use Rattle.std.proofs.lemmas.Fmt.{decimal_digit}
use Rattle.cov_expr.specs.Term.{Term, const, var, neg, bin}
use Rattle.cov_expr.specs.declared.expr.TheConstants.{HOLE}
use Rattle.cov_expr.specs.declared.expr.Op.TheVariants.{Add, Sub, Mul, And, Or, Xor, Eq, Ne, Lt, Le, Both, Either}
use Rattle.cov_ast.specs.Syntax as s
use Rattle.cov_print.specs.Spelling.{whole, cert, state, state_of, stated_of, stm, block, var_line, lock_line, thread_lines, spelling}

abbrev names : List (List ℕ)
names = codes "a" ∷ codes "s" ∷ codes "l" ∷ []

abbrev no_modes : s.Modes
no_modes = record { assume_nowrite = []; assume_hide = []; guarantee_nowrite = []; guarantee_hide = [] }

abbrev variable : List ℕ → s.Class → s.Var
variable name class = record { name = name; at = 0; class = class }

abbrev thread : s.Block → s.Thread
thread body = record { name = codes "t"; at = 0; modes = no_modes; body = body; end = 0 }

abbrev program : List s.Var → s.Block → s.Parsed
program vars body = record { version = 1; names = names; uses = []; vars = vars; locks = []; threads = thread body ∷ [] }

abbrev stated : List Term → List (ℕ × Term) → s.State
stated preds types = record { preds = preds; types = types }

abbrev proved : ℕ → s.Cert → s.Proof
proved n c = record { number = n; cert = c }

-- Programs -----------------------------------------------------------------------------------------------------

-- var a: low; var s: high; thread t { a := s; }
assignment : spelling (program (variable (codes "a") s.low ∷ variable (codes "s") s.high ∷ []) (s.more 0 (s.assign 0 (var 1) None []) [] s.done))
    ≡ codes "var a: low;\nvar s: high;\nthread t {\n  a := s;\n}\n"
assignment = refl

-- var a:low;thread t{if a{}else{}while a{note{}by{1:hyp 1};}}
nested : spelling (program (variable (codes "a") s.low ∷ [])
    (s.more 0 (s.branch (var 0) s.done s.done (stated [] [])) []
    (s.more 0 (s.loop (var 0) (stated [] []) (s.more 0 (s.note (stated [] [])) (proved 1 (s.hyp 1) ∷ []) s.done)) [] s.done)))
    ≡ codes "var a: low;\nthread t {\n  if a {\n  } else {\n  }\n  while a {\n    note {} by { 1: hyp 1 };\n  }\n}\n"
unfolding state_of stated_of
nested = simp (decimal_digit 1 (lit< tt))

-- version 2;var a:low;thread t{output a+1 by{3:hyp 1,8:auto};}
put_out : spelling (record {
  version = 2;
  names = names;
  uses = [];
  vars = variable (codes "a") s.low ∷ [];
  locks = [];
  threads = thread (s.more 0 (s.output (bin Add (var 0) (const 1))) (proved 3 (s.hyp 1) ∷ proved 8 s.auto ∷ []) s.done) ∷ [];
})
    ≡ codes "version 2;\nvar a: low;\nthread t {\n  output a + 1 by { 3: hyp 1, 8: auto };\n}\n"
put_out = simp (decimal_digit 1 (lit< tt), decimal_digit 3 (lit< tt), decimal_digit 8 (lit< tt))

-- a text that has nothing but its version
empty_second : spelling (record { version = 2; names = []; uses = []; vars = []; locks = []; threads = [] }) ≡ codes "version 2;\n"
empty_second = refl

empty : spelling (record { version = 1; names = []; uses = []; vars = []; locks = []; threads = [] }) ≡ []
empty = refl

-- Declarations -------------------------------------------------------------------------------------------------

tracked : var_line names (variable (codes "b") (s.when (bin Eq (var 0) (const 0)))) ≡ codes "var b: low when a == 0;\n"
tracked = simp (decimal_digit 0 (lit< tt))

plain_lock : lock_line names (record { name = codes "l"; at = 0; nowrite = []; hide = []; inv = None }) ≡ codes "lock l;\n"
plain_lock = refl

full_lock : lock_line names (record { name = codes "l"; at = 0; nowrite = 0 ∷ 1 ∷ []; hide = 1 ∷ []; inv = Some (bin Lt (var 0) (const 9)) })
    ≡ codes "lock l nowrite a, s hide s inv a < 9;\n"
full_lock = simp (decimal_digit 9 (lit< tt))

all_modes : thread_lines names (record {
  name = codes "t";
  at = 0;
  modes = record { assume_nowrite = 0 ∷ 1 ∷ []; assume_hide = 1 ∷ []; guarantee_nowrite = 0 ∷ []; guarantee_hide = 1 ∷ [] };
  body = s.done;
  end = 0;
})
    ≡ codes "thread t assume nowrite a, s assume hide s guarantee nowrite a guarantee hide s {\n}\n"
all_modes = refl

-- Statements ---------------------------------------------------------------------------------------------------

full_assignment : stm names [] (s.assign 0 (const 7) (Some (var 1)) ((1, const 0) ∷ (0, var 0) ∷ [])) (proved 1 s.auto ∷ proved 2 s.calc ∷ [])
    ≡ codes "a := 7 as s retype s as 0 retype a as a by { 1: auto, 2: calc };"
full_assignment = simp (decimal_digit 0 (lit< tt), decimal_digit 1 (lit< tt), decimal_digit 2 (lit< tt), decimal_digit 7 (lit< tt))

locking : block names (codes "  ") (s.more 0 (s.lock 2) [] (s.more 0 s.skip [] (s.more 0 (s.unlock 2) (proved 1 s.ring ∷ []) s.done)))
    ≡ codes "  lock l;\n  skip;\n  unlock l by { 1: ring };\n"
locking = simp (decimal_digit 1 (lit< tt))

outputs : block names (codes "  ") (s.more 0 (s.output (var 1)) [] (s.more 0 (s.output (const 7)) (proved 2 s.calc ∷ []) s.done))
    ≡ codes "  output s;\n  output 7 by { 2: calc };\n"
outputs = simp (decimal_digit 2 (lit< tt), decimal_digit 7 (lit< tt))

-- margins, a join and an invariant
deep : block names (codes "  ")
    (s.more 0 (s.branch (var 0) (s.more 0 (s.loop (var 1) (stated (var 0 ∷ []) []) (s.more 0 s.skip [] s.done)) [] s.done) (s.more 0 s.skip [] s.done)
    (stated [] ((0, const 1) ∷ []))) (proved 2 s.range ∷ []) s.done)
    ≡ codes "  if a {\n    while s inv { a } {\n      skip;\n    }\n  } else {\n    skip;\n  } join { ; a: 1 } by { 2: range }\n"
unfolding state_of stated_of
deep = simp (decimal_digit 1 (lit< tt), decimal_digit 2 (lit< tt))

states_one : state names (stated (var 0 ∷ var 1 ∷ []) []) ≡ codes "{ a, s }"
unfolding state_of
states_one = refl

states_two : state names (stated (var 0 ∷ []) ((0, const 1) ∷ (1, const 2) ∷ [])) ≡ codes "{ a ; a: 1, s: 2 }"
unfolding state_of
states_two = simp (decimal_digit 1 (lit< tt), decimal_digit 2 (lit< tt))

-- Expressions --------------------------------------------------------------------------------------------------

-- each operand that is a binary operation is in parentheses, the whole isn't
operators : whole names
    (bin Either (bin Both (bin Eq (const 1) (const 2)) (bin Ne (const 3) (const 4)))
    (bin Lt (bin Le (const 5) (const 6)) (bin Or (bin Xor (const 7) (bin And (const 8) (const 9)))
    (bin Add (bin Sub (const 0) (const 1)) (bin Mul (const 2) (const 3))))))
    ≡ codes "((1 == 2) && (3 != 4)) || ((5 <= 6) < ((7 ^ (8 & 9)) | ((0 - 1) + (2 * 3))))"
operators = simp (decimal_digit 0 (lit< tt), decimal_digit 1 (lit< tt), decimal_digit 2 (lit< tt), decimal_digit 3 (lit< tt), decimal_digit 4 (lit< tt), decimal_digit 5 (lit< tt), decimal_digit 6 (lit< tt), decimal_digit 7 (lit< tt), decimal_digit 8 (lit< tt), decimal_digit 9 (lit< tt))

-- grouping to the left is written too
left : whole names (bin Add (bin Add (var 0) (var 1)) (const 0)) ≡ codes "(a + s) + 0"
left = simp (decimal_digit 0 (lit< tt))

negations : whole names (bin And (neg (neg (var 0))) (neg (bin Or (var 0) (neg (const 5))))) ≡ codes "!!a & !(a | !5)"
negations = simp (decimal_digit 5 (lit< tt))

-- Certificates -------------------------------------------------------------------------------------------------

leaves : cert names (s.and (s.and s.auto s.calc) (s.and (s.and s.reflexive s.ring) s.range)) ≡ codes "and (and auto calc) (and (and refl ring) range)"
leaves = refl

numbered : cert names (s.and (s.hyp 1) (s.and (s.clash 2) (s.absurdity 3 4))) ≡ codes "and (hyp 1) (and (clash 2) (absurd 3 4))"
numbered = simp (decimal_digit 1 (lit< tt), decimal_digit 2 (lit< tt), decimal_digit 3 (lit< tt), decimal_digit 4 (lit< tt))

chained : cert names (s.left (s.right (s.negation (s.contra (s.unpack 1 s.auto))))) ≡ codes "left (right (not (contra (use 1 auto))))"
chained = simp (decimal_digit 1 (lit< tt))

branching : cert names (s.cases 1 (s.split (bin Lt (var 0) (const 3)) s.auto (s.hyp 2)) (s.have (var 1) (s.left s.auto) s.calc))
    ≡ codes "cases 1 (split [a < 3] auto (hyp 2)) (have [s] (left auto) calc)"
branching = simp (decimal_digit 1 (lit< tt), decimal_digit 2 (lit< tt), decimal_digit 3 (lit< tt))

rewriting : cert names (s.fwd 1 (bin Eq (var HOLE) (const 0)) (s.rev 2 (var HOLE) (s.instance 5 (var 0 ∷ bin Add (var 1) (const 1) ∷ []) s.auto)))
    ≡ codes "fwd 1 [_ == 0] (rev 2 [_] (axiom 5 (a, s + 1) auto))"
rewriting = simp (decimal_digit 0 (lit< tt), decimal_digit 1 (lit< tt), decimal_digit 2 (lit< tt), decimal_digit 5 (lit< tt))
