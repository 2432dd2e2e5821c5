-- The limits of a tree don't depend on its places.
use Rattle.std.proofs.Common.{◌≡◌, ℕ, zero, suc, ◌+◌, ◌-◌, ◌==◌, nat_lt, nat_le, max, List, [], ◌∷◌, length, map, flat_map, Bool, true, false, not, ◌&&◌, if◌then◌else◌, Option, Some, None, option_map, refl, sym, ap, ◌∙◌, arith, true≢false, length-append}
use Rattle.std.specs.List.{list_all}
use Rattle.cov_expr.specs.Term.{Term}
use Rattle.cov_expr.specs.Trees.{nodes, height}
use Rattle.cov_grammar.specs.PlacedTrees as t
use Rattle.cov_grammar.specs.PlacedTrees.{Placed}
use Rattle.cov_ast.specs.Syntax as s
use Rattle.cov_text.specs.declared.fault.Counted.{Counted}
use Rattle.cov_text.specs.declared.fault.Limit.{Limit}
use Rattle.cov_text.specs.declared.fault.Excess.{Excess}
use Rattle.cov_text.specs.Limits as l
use Rattle.cov_text.specs.Limits.{sooner, least, above, past}
use Rattle.cov_text.specs.GivenTrees.{expr_of, cert_of, proof_of, pair_of, state_of, state_or_none, stm_of, proofs_of, block_of, stms_of, class_of}
use Rattle.cov_print.specs.Unplaced.{unplaced_stm, unplaced_block}
use Rattle.cov_print.proofs.Declarations.{seen_var, seen_lock, seen_thread, seen_program}

-- nothing is past a limit
abbrev pub fine : Option Excess → Bool
fine None = true
fine (Some x) = false

fine_sooner : (x y : Option Excess) → fine (sooner x y) ≡ (fine x && fine y)
fine_sooner None y = refl
fine_sooner (Some x) None = refl
fine_sooner (Some x) (Some y) = by (nat_le x.at y.at)
  where
    by : (b : Bool) → fine (if b then Some x else Some y) ≡ false
    by true = refl
    by false = refl

both_fine : (x y : Option Excess) (a b : Bool) → fine x ≡ a → fine y ≡ b → fine (sooner x y) ≡ (a && b)
both_fine x y a b e g = fine_sooner x y ∙ (λ i. e i && g i)

fine_least : {A B : Type 0} (f : A → Option Excess) (view : A → B) (test : B → Bool) → ((x : A) → fine (f x) ≡ test (view x)) → (xs : List A) → fine (least f xs) ≡ list_all test (map view xs)
fine_least f view test e [] = refl
fine_least f view test e (x ∷ xs) = both_fine (f x) (least f xs) (test (view x)) (list_all test (map view xs)) (e x) (fine_least f view test e xs)

fine_above : (at most n : ℕ) (limit : Limit) (rest : Option Excess) → fine (above at most n limit rest) ≡ (not (nat_lt most n) && fine rest)
fine_above at most n limit rest = by (nat_lt most n)
  where
    by : (b : Bool) → fine (if b then Some (record { at = at; limit = limit }) else rest) ≡ (not b && fine rest)
    by true = refl
    by false = refl

fine_two : (at most n at' most' n' : ℕ) (limit limit' : Limit) → fine (above at most n limit (above at' most' n' limit' None)) ≡ (not (nat_lt most n) && (not (nat_lt most' n') && true))
fine_two at most n at' most' n' limit limit' = fine_above at most n limit (above at' most' n' limit' None) ∙ ap (λ b. not (nat_lt most n) && b) (fine_above at' most' n' limit' None)

-- Measures without places --------------------------------------------------------------------------------------

abbrev pub cert_nodes : s.Cert → ℕ
cert_nodes s.auto = 1
cert_nodes s.calc = 1
cert_nodes s.reflexive = 1
cert_nodes s.ring = 1
cert_nodes s.range = 1
cert_nodes (s.hyp i) = 1
cert_nodes (s.clash i) = 1
cert_nodes (s.absurdity i j) = 1
cert_nodes (s.left c) = 1 + cert_nodes c
cert_nodes (s.right c) = 1 + cert_nodes c
cert_nodes (s.unpack i c) = 1 + cert_nodes c
cert_nodes (s.negation c) = 1 + cert_nodes c
cert_nodes (s.contra c) = 1 + cert_nodes c
cert_nodes (s.fwd i e c) = 1 + cert_nodes c
cert_nodes (s.rev i e c) = 1 + cert_nodes c
cert_nodes (s.instance i es c) = 1 + cert_nodes c
cert_nodes (s.and c d) = 1 + cert_nodes c + cert_nodes d
cert_nodes (s.cases i c d) = 1 + cert_nodes c + cert_nodes d
cert_nodes (s.split e c d) = 1 + cert_nodes c + cert_nodes d
cert_nodes (s.have e c d) = 1 + cert_nodes c + cert_nodes d

abbrev pub cert_height : s.Cert → ℕ
cert_height s.auto = 1
cert_height s.calc = 1
cert_height s.reflexive = 1
cert_height s.ring = 1
cert_height s.range = 1
cert_height (s.hyp i) = 1
cert_height (s.clash i) = 1
cert_height (s.absurdity i j) = 1
cert_height (s.left c) = 1 + cert_height c
cert_height (s.right c) = 1 + cert_height c
cert_height (s.unpack i c) = 1 + cert_height c
cert_height (s.negation c) = 1 + cert_height c
cert_height (s.contra c) = 1 + cert_height c
cert_height (s.fwd i e c) = 1 + cert_height c
cert_height (s.rev i e c) = 1 + cert_height c
cert_height (s.instance i es c) = 1 + cert_height c
cert_height (s.and c d) = 1 + max (cert_height c) (cert_height d)
cert_height (s.cases i c d) = 1 + max (cert_height c) (cert_height d)
cert_height (s.split e c d) = 1 + max (cert_height c) (cert_height d)
cert_height (s.have e c d) = 1 + max (cert_height c) (cert_height d)

abbrev pub term_fine : Term → Bool
term_fine e = not (nat_lt 1000 (nodes e)) && (not (nat_lt 64 (height e)) && true)

abbrev pub pair_fine : ℕ × Term → Bool
pair_fine x = term_fine x.1

abbrev pub inside_fine : s.Cert → Bool
inside_fine s.auto = true
inside_fine s.calc = true
inside_fine s.reflexive = true
inside_fine s.ring = true
inside_fine s.range = true
inside_fine (s.hyp i) = true
inside_fine (s.clash i) = true
inside_fine (s.absurdity i j) = true
inside_fine (s.left c) = inside_fine c
inside_fine (s.right c) = inside_fine c
inside_fine (s.unpack i c) = inside_fine c
inside_fine (s.negation c) = inside_fine c
inside_fine (s.contra c) = inside_fine c
inside_fine (s.fwd i e c) = term_fine e && inside_fine c
inside_fine (s.rev i e c) = term_fine e && inside_fine c
inside_fine (s.instance i es c) = list_all term_fine es && inside_fine c
inside_fine (s.and c d) = inside_fine c && inside_fine d
inside_fine (s.cases i c d) = inside_fine c && inside_fine d
inside_fine (s.split e c d) = term_fine e && (inside_fine c && inside_fine d)
inside_fine (s.have e c d) = term_fine e && (inside_fine c && inside_fine d)

nodes_same : (c : t.Cert) → l.cert_nodes c ≡ cert_nodes (cert_of c)
nodes_same t.auto = refl
nodes_same t.calc = refl
nodes_same t.reflexive = refl
nodes_same t.ring = refl
nodes_same t.range = refl
nodes_same (t.hyp i) = refl
nodes_same (t.clash i) = refl
nodes_same (t.absurdity i j) = refl
nodes_same (t.left c) = ap (λ n. 1 + n) (nodes_same c)
nodes_same (t.right c) = ap (λ n. 1 + n) (nodes_same c)
nodes_same (t.unpack i c) = ap (λ n. 1 + n) (nodes_same c)
nodes_same (t.negation c) = ap (λ n. 1 + n) (nodes_same c)
nodes_same (t.contra c) = ap (λ n. 1 + n) (nodes_same c)
nodes_same (t.fwd i e c) = ap (λ n. 1 + n) (nodes_same c)
nodes_same (t.rev i e c) = ap (λ n. 1 + n) (nodes_same c)
nodes_same (t.instance i es c) = ap (λ n. 1 + n) (nodes_same c)
nodes_same (t.and c d) = λ i. 1 + nodes_same c i + nodes_same d i
nodes_same (t.cases i c d) = λ i. 1 + nodes_same c i + nodes_same d i
nodes_same (t.split e c d) = λ i. 1 + nodes_same c i + nodes_same d i
nodes_same (t.have e c d) = λ i. 1 + nodes_same c i + nodes_same d i

height_same : (c : t.Cert) → l.cert_height c ≡ cert_height (cert_of c)
height_same t.auto = refl
height_same t.calc = refl
height_same t.reflexive = refl
height_same t.ring = refl
height_same t.range = refl
height_same (t.hyp i) = refl
height_same (t.clash i) = refl
height_same (t.absurdity i j) = refl
height_same (t.left c) = ap (λ n. 1 + n) (height_same c)
height_same (t.right c) = ap (λ n. 1 + n) (height_same c)
height_same (t.unpack i c) = ap (λ n. 1 + n) (height_same c)
height_same (t.negation c) = ap (λ n. 1 + n) (height_same c)
height_same (t.contra c) = ap (λ n. 1 + n) (height_same c)
height_same (t.fwd i e c) = ap (λ n. 1 + n) (height_same c)
height_same (t.rev i e c) = ap (λ n. 1 + n) (height_same c)
height_same (t.instance i es c) = ap (λ n. 1 + n) (height_same c)
height_same (t.and c d) = λ i. 1 + max (height_same c i) (height_same d i)
height_same (t.cases i c d) = λ i. 1 + max (height_same c i) (height_same d i)
height_same (t.split e c d) = λ i. 1 + max (height_same c i) (height_same d i)
height_same (t.have e c d) = λ i. 1 + max (height_same c i) (height_same d i)

expr_same : (e : Placed Term) → fine (l.in_expr e) ≡ term_fine (expr_of e)
expr_same e = fine_two e.0 1000 (nodes e.1) e.0 64 (height e.1) (Rattle.cov_text.specs.declared.fault.Limit.TheVariants.TooMany Rattle.cov_text.specs.declared.fault.Counted.TheVariants.Nodes) Rattle.cov_text.specs.declared.fault.Limit.TheVariants.TooDeep

inside_same : (c : t.Cert) → fine (l.inside_cert c) ≡ inside_fine (cert_of c)
inside_same t.auto = refl
inside_same t.calc = refl
inside_same t.reflexive = refl
inside_same t.ring = refl
inside_same t.range = refl
inside_same (t.hyp i) = refl
inside_same (t.clash i) = refl
inside_same (t.absurdity i j) = refl
inside_same (t.left c) = inside_same c
inside_same (t.right c) = inside_same c
inside_same (t.unpack i c) = inside_same c
inside_same (t.negation c) = inside_same c
inside_same (t.contra c) = inside_same c
inside_same (t.fwd i e c) = both_fine (l.in_expr e) (l.inside_cert c) (term_fine (expr_of e)) (inside_fine (cert_of c)) (expr_same e) (inside_same c)
inside_same (t.rev i e c) = both_fine (l.in_expr e) (l.inside_cert c) (term_fine (expr_of e)) (inside_fine (cert_of c)) (expr_same e) (inside_same c)
inside_same (t.instance i es c) = both_fine (least l.in_expr es) (l.inside_cert c) (list_all term_fine (map expr_of es)) (inside_fine (cert_of c)) (fine_least l.in_expr expr_of term_fine expr_same es) (inside_same c)
inside_same (t.and c d) = both_fine (l.inside_cert c) (l.inside_cert d) (inside_fine (cert_of c)) (inside_fine (cert_of d)) (inside_same c) (inside_same d)
inside_same (t.cases i c d) = both_fine (l.inside_cert c) (l.inside_cert d) (inside_fine (cert_of c)) (inside_fine (cert_of d)) (inside_same c) (inside_same d)
inside_same (t.split e c d) = both_fine (l.in_expr e) (sooner (l.inside_cert c) (l.inside_cert d)) (term_fine (expr_of e)) (inside_fine (cert_of c) && inside_fine (cert_of d)) (expr_same e)
    (both_fine (l.inside_cert c) (l.inside_cert d) (inside_fine (cert_of c)) (inside_fine (cert_of d)) (inside_same c) (inside_same d))
inside_same (t.have e c d) = both_fine (l.in_expr e) (sooner (l.inside_cert c) (l.inside_cert d)) (term_fine (expr_of e)) (inside_fine (cert_of c) && inside_fine (cert_of d)) (expr_same e)
    (both_fine (l.inside_cert c) (l.inside_cert d) (inside_fine (cert_of c)) (inside_fine (cert_of d)) (inside_same c) (inside_same d))

abbrev pub proof_fine : s.Proof → Bool
proof_fine p = (not (nat_lt 10000 (cert_nodes p.cert)) && (not (nat_lt 64 (cert_height p.cert)) && true)) && inside_fine p.cert

proof_same : (p : ℕ × Placed t.Cert) → fine (l.in_proof p) ≡ proof_fine (proof_of p)
proof_same p =
    both_fine (above p.1.0 10000 (l.cert_nodes p.1.1) many (above p.1.0 64 (l.cert_height p.1.1) deep None)) (l.inside_cert p.1.1)
    (not (nat_lt 10000 (cert_nodes (cert_of p.1.1))) && (not (nat_lt 64 (cert_height (cert_of p.1.1))) && true)) (inside_fine (cert_of p.1.1))
    (fine_two p.1.0 10000 (l.cert_nodes p.1.1) p.1.0 64 (l.cert_height p.1.1) many deep ∙ (λ i. not (nat_lt 10000 (nodes_same p.1.1 i)) && (not (nat_lt 64 (height_same p.1.1 i)) && true))) (inside_same p.1.1)
  where
    many : Limit
    many = Rattle.cov_text.specs.declared.fault.Limit.TheVariants.TooMany Rattle.cov_text.specs.declared.fault.Counted.TheVariants.CertNodes

    deep : Limit
    deep = Rattle.cov_text.specs.declared.fault.Limit.TheVariants.TooDeep

proofs_same : (ps : t.Proofs) → fine (least l.in_proof ps) ≡ list_all proof_fine (map proof_of ps)
proofs_same ps = fine_least l.in_proof proof_of proof_fine proof_same ps

abbrev pub state_fine : s.State → Bool
state_fine j = (not (nat_lt 64 (length j.preds)) && (not (nat_lt 256 (length j.types)) && true)) && (list_all term_fine j.preds && list_all pair_fine j.types)

map_length : {A B : Type 0} (f : A → B) (xs : List A) → length xs ≡ length (map f xs)
map_length f [] = refl
map_length f (x ∷ xs) = ap suc (map_length f xs)

state_same : (j : t.State) → fine (l.in_state j) ≡ state_fine (state_of j)
state_same j =
    both_fine (above j.at 64 (length j.preds) preds (above j.at 256 (length j.types) types None)) (sooner (least l.in_expr j.preds) (least l.in_pair j.types))
    (not (nat_lt 64 (length (map expr_of j.preds))) && (not (nat_lt 256 (length (map pair_of j.types))) && true)) (list_all term_fine (map expr_of j.preds) && list_all pair_fine (map pair_of j.types))
    (fine_two j.at 64 (length j.preds) j.at 256 (length j.types) preds types ∙ (λ i. not (nat_lt 64 (map_length expr_of j.preds i)) && (not (nat_lt 256 (map_length pair_of j.types i)) && true)))
    (both_fine (least l.in_expr j.preds) (least l.in_pair j.types) (list_all term_fine (map expr_of j.preds)) (list_all pair_fine (map pair_of j.types)) (fine_least l.in_expr expr_of term_fine expr_same j.preds)
    (fine_least l.in_pair pair_of pair_fine (λ x. expr_same x.1) j.types))
  where
    preds : Limit
    preds = Rattle.cov_text.specs.declared.fault.Limit.TheVariants.TooMany Rattle.cov_text.specs.declared.fault.Counted.TheVariants.Predicates

    types : Limit
    types = Rattle.cov_text.specs.declared.fault.Limit.TheVariants.TooMany Rattle.cov_text.specs.declared.fault.Counted.TheVariants.Types

stated_same : (j : Option t.State) → fine (l.in_state_option j) ≡ state_fine (state_or_none j)
stated_same None = refl
stated_same (Some j) = state_same j

abbrev pub option_fine : Option Term → Bool
option_fine None = true
option_fine (Some e) = term_fine e

option_same : (e : Option (Placed Term)) → fine (l.in_option e) ≡ option_fine (option_map expr_of e)
option_same None = refl
option_same (Some e) = expr_same e

-- where so many blocks more may be nested
abbrev mutual
  pub stm_fine : (room : ℕ) → s.Stm → List s.Proof → Bool
  stm_fine room (s.assign x e q rs) ps = term_fine e && (option_fine q && (list_all pair_fine rs && list_all proof_fine ps))
  stm_fine room (s.branch e a b j) ps =
      term_fine e && ((not (room - 1 == 0) && block_fine (room - 1) a) && ((not (room - 1 == 0) && block_fine (room - 1) b) && (state_fine j && list_all proof_fine ps)))
  stm_fine room (s.loop e j b) ps = term_fine e && (state_fine j && ((not (room - 1 == 0) && block_fine (room - 1) b) && list_all proof_fine ps))
  stm_fine room (s.note j) ps = state_fine j && list_all proof_fine ps
  stm_fine room (s.output e) ps = term_fine e && list_all proof_fine ps
  stm_fine room _ ps = list_all proof_fine ps

  pub block_fine : (room : ℕ) → s.Block → Bool
  block_fine room s.done = true
  block_fine room (s.more at x ps rest) = stm_fine room x ps && block_fine room rest

fine_room : (room at : ℕ) → fine (if room == 0 then Some (record { at = at; limit = Rattle.cov_text.specs.declared.fault.Limit.TheVariants.TooDeep }) else None) ≡ not (room == 0)
fine_room room at = by (room == 0)
  where
    by : (b : Bool) → fine (if b then Some (record { at = at; limit = Rattle.cov_text.specs.declared.fault.Limit.TheVariants.TooDeep }) else None) ≡ not b
    by true = refl
    by false = refl

-- the proofs are those of the statement
mutual
  stm_same : (room : ℕ) (x : t.Stm) → fine (l.in_stm room x) ≡ stm_fine room (unplaced_stm (stm_of x)) (proofs_of x)
  stm_same room t.skip = refl
  stm_same room (t.assign x e q rs ps) =
      both_fine (l.in_expr e) _ (term_fine (expr_of e)) _ (expr_same e)
      (both_fine (l.in_option q) _ (option_fine (option_map expr_of q)) _ (option_same q)
      (both_fine (least l.in_pair rs) (least l.in_proof ps) (list_all pair_fine (map pair_of rs)) (list_all proof_fine (map proof_of ps)) (fine_least l.in_pair pair_of pair_fine (λ y. expr_same y.1) rs) (proofs_same ps)))
  stm_same room (t.lock x) = refl
  stm_same room (t.branch e a b j ps) =
      both_fine (l.in_expr e) _ (term_fine (expr_of e)) _ (expr_same e)
      (both_fine (l.in_block (room - 1) a) _ _ _ (block_same (room - 1) a)
      (both_fine (l.in_block (room - 1) b) _ _ _ (block_same (room - 1) b)
      (both_fine (l.in_state_option j) (least l.in_proof ps) (state_fine (state_or_none j)) (list_all proof_fine (map proof_of ps)) (stated_same j) (proofs_same ps))))
  stm_same room (t.loop e j b ps) =
      both_fine (l.in_expr e) _ (term_fine (expr_of e)) _ (expr_same e)
      (both_fine (l.in_state_option j) _ (state_fine (state_or_none j)) _ (stated_same j)
      (both_fine (l.in_block (room - 1) b) (least l.in_proof ps) _ (list_all proof_fine (map proof_of ps)) (block_same (room - 1) b) (proofs_same ps)))
  stm_same room (t.note j ps) = both_fine (l.in_state j) (least l.in_proof ps) (state_fine (state_of j)) (list_all proof_fine (map proof_of ps)) (state_same j) (proofs_same ps)
  stm_same room (t.output e ps) = both_fine (l.in_expr e) (least l.in_proof ps) (term_fine (expr_of e)) (list_all proof_fine (map proof_of ps)) (expr_same e) (proofs_same ps)
  stm_same room _ = simp proofs_same refl

  block_same : (room : ℕ) (b : t.Block) → fine (l.in_block room b) ≡ (not (room == 0) && block_fine room (unplaced_block (block_of b)))
  block_same room (t.block begin end ss) = both_fine _ (l.in_stms room ss) (not (room == 0)) (block_fine room (unplaced_block (stms_of ss))) (fine_room room begin) (stms_same room ss)

  stms_same : (room : ℕ) (ss : t.Stms) → fine (l.in_stms room ss) ≡ block_fine room (unplaced_block (stms_of ss))
  stms_same room t.none = refl
  stms_same room (t.next at x ss) = both_fine (l.in_stm room x) (l.in_stms room ss) _ _ (stm_same room x) (stms_same room ss)

-- Numbers ------------------------------------------------------------------------------------------------------

fine_past : (most : ℕ) (c : Counted) (ats : List ℕ) → fine (past most c ats) ≡ not (nat_lt most (length ats))
fine_past most c [] = by (nat_lt most 0) refl
  where
    by : (b : Bool) → nat_lt most 0 ≡ b → true ≡ not b
    by true e = absurd (grind (arith, e))
    by false e = refl
fine_past zero c (at ∷ ats) = by (nat_lt 0 (length (at ∷ ats))) refl
  where
    by : (b : Bool) → nat_lt 0 (length (at ∷ ats)) ≡ b → false ≡ not b
    by true e = refl
    by false e = absurd (grind (arith, e))
fine_past (suc n) c (at ∷ ats) = fine_past n c ats ∙ by (nat_lt n (length ats)) (nat_lt (suc n) (length (at ∷ ats))) refl refl
  where
    by : (a b : Bool) → nat_lt n (length ats) ≡ a → nat_lt (suc n) (length (at ∷ ats)) ≡ b → not a ≡ not b
    by true true e g = refl
    by false false e g = refl
    by true false e g = absurd (grind (arith, e, g))
    by false true e g = absurd (grind (arith, e, g))

abbrev mutual
  pub stms_in : s.Stm → ℕ
  stms_in (s.branch e a b j) = count a + count b
  stms_in (s.loop e j b) = count b
  stms_in _ = 0

  pub count : s.Block → ℕ
  count s.done = 0
  count (s.more at x ps rest) = 1 + stms_in x + count rest

mutual
  places_same : (ss : t.Stms) → length (l.places ss) ≡ count (unplaced_block (stms_of ss))
  places_same t.none = refl
  places_same (t.next at x ss) = omega (arith, length-append (l.places_in x) (l.places ss), places_in_same x, places_same ss)

  places_in_same : (x : t.Stm) → length (l.places_in x) ≡ stms_in (unplaced_stm (stm_of x))
  places_in_same (t.branch e a b j ps) = omega (arith, length-append (l.places_of a) (l.places_of b), places_of_same a, places_of_same b)
  places_in_same (t.loop e j b ps) = places_of_same b
  places_in_same _ = refl

  places_of_same : (b : t.Block) → length (l.places_of b) ≡ count (unplaced_block (block_of b))
  places_of_same (t.block begin end ss) = places_same ss

-- Programs -----------------------------------------------------------------------------------------------------

abbrev pub counts : List s.Thread → ℕ
counts [] = 0
counts (x ∷ xs) = count x.body + counts xs

counts_same : (all : List (List ℕ)) (hs : List t.Thread) → length (flat_map (λ h. l.places_of h.body) hs) ≡ counts (map (seen_thread all) hs)
counts_same all [] = refl
counts_same all (h ∷ hs) = omega (arith, length-append (l.places_of h.body) (flat_map (λ g. l.places_of g.body) hs), places_of_same h.body, counts_same all hs)

abbrev pub class_fine : s.Class → Bool
class_fine s.low = true
class_fine s.high = true
class_fine (s.when e) = term_fine e

abbrev pub var_fine : s.Var → Bool
var_fine v = class_fine v.class

abbrev pub lock_fine : s.Lock → Bool
lock_fine x = option_fine x.inv

abbrev pub thread_fine : s.Thread → Bool
thread_fine x = block_fine 64 x.body

var_same : (all : List (List ℕ)) (v : t.Var) → fine (l.in_var v) ≡ var_fine (seen_var all v)
var_same all v = by v.class
  where
    by : (c : t.Class) → fine (l.in_class c) ≡ class_fine (class_of c)
    by t.low = refl
    by t.high = refl
    by (t.low_when e) = expr_same e

abbrev pub Seen : Type 0
Seen = ℕ × (List s.Var × (List s.Lock × List s.Thread))

abbrev pub program_fine : Seen → Bool
program_fine p =
    not (nat_lt 256 (length p.1.0)) && (not (nat_lt 64 (length p.1.1.0)) && (not (nat_lt 16 (length p.1.1.1)) && (not (nat_lt 20000 (counts p.1.1.1))
    && (list_all var_fine p.1.0 && (list_all lock_fine p.1.1.0 && list_all thread_fine p.1.1.1)))))

few : {A B : Type 0} (most : ℕ) (c : Counted) (place : A → ℕ) (view : A → B) (xs : List A) → fine (past most c (map place xs)) ≡ not (nat_lt most (length (map view xs)))
few most c place view xs = fine_past most c (map place xs) ∙ ap (λ n. not (nat_lt most n)) (sym (map_length place xs) ∙ map_length view xs)

pub limits_same : (all : List (List ℕ)) (p : t.Program) → fine (l.in_program p) ≡ program_fine (seen_program all p)
unfolding l.past_variables l.past_locks l.past_threads l.past_statements
limits_same all p =
    both_fine _ _ _ _ (few 256 Rattle.cov_text.specs.declared.fault.Counted.TheVariants.Variables (λ v. v.name.1) (seen_var all) p.vars)
    (both_fine _ _ _ _ (few 64 Rattle.cov_text.specs.declared.fault.Counted.TheVariants.Locks (λ v. v.name.1) (seen_lock all) p.locks)
    (both_fine _ _ _ _ (few 16 Rattle.cov_text.specs.declared.fault.Counted.TheVariants.Threads (λ v. v.name.1) (seen_thread all) p.threads)
    (both_fine _ _ _ _ (fine_past 20000 Rattle.cov_text.specs.declared.fault.Counted.TheVariants.Statements (flat_map (λ h. l.places_of h.body) p.threads) ∙ ap (λ n. not (nat_lt 20000 n)) (counts_same all p.threads))
    (both_fine _ _ _ _ (fine_least l.in_var (seen_var all) var_fine (var_same all) p.vars)
    (both_fine _ _ _ _ (fine_least l.in_lock (seen_lock all) lock_fine (λ x. option_same x.inv) p.locks)
    (fine_least l.in_thread (seen_thread all) thread_fine (λ x. block_same 64 x.body) p.threads))))))

pub fine_none : (x : Option Excess) → fine x ≡ true → x ≡ None
fine_none None e = refl
fine_none (Some x) e = absurd (true≢false (sym e))
