-- The canonical tokens open at most 200 brackets and have at most 64 marks in a row, within the limits.
use Rattle.std.proofs.Common.{◌≡◌, ℕ, ◌+◌, ◌-◌, ◌==◌, ◌<◌, ◌≤◌, nat_lt, List, [], ◌∷◌, ◌++◌, length, flat_map, Bool, true, false, not, ◌&&◌, if◌then◌else◌, Option, Some, None, refl, sym, ap, subst, ◌∙◌, arith, true≢false, append_assoc}
use Rattle.std.proofs.lemmas.Bool.{and_parts, ne_eqb}
use Rattle.std.specs.List.{list_all}
use Rattle.cov_expr.specs.Term.{Term, const, var, neg, bin}
use Rattle.cov_expr.specs.Trees.{nodes, height}
use Rattle.cov_expr.specs.declared.expr.Op.{Op}
use Rattle.cov_expr.specs.declared.expr.Op.TheVariants as ops
use Rattle.cov_expr.specs.declared.kind.Kind.{Kind}
use Rattle.cov_expr.specs.declared.kind.Kind.TheVariants as k
use Rattle.cov_grammar.specs.declared.token.Token.{Token}
use Rattle.cov_grammar.specs.LookAhead.{kind_is}
use Rattle.cov_ast.specs.Syntax as s
use Rattle.cov_text.specs.Depth.{Effect, opens, closes, marks, other, effect, counted, deep}
use Rattle.cov_print.specs.Spelling.{is_word}
use Rattle.cov_print.specs.Unplaced.{unplaced_stm, unplaced_block}
use Rattle.cov_print.proofs.Written as w
use Rattle.cov_print.proofs.Written.{Word, plain}
use Rattle.cov_print.proofs.Keeps.{IsAt, Are}
use Rattle.cov_print.proofs.Sizes.{cert_height, term_fine, pair_fine, inside_fine, proof_fine, state_fine, option_fine, stm_fine, block_fine, class_fine}
use Rattle.cov_print.proofs.Texts.{of_3, of_2_2}
use Rattle.cov_print.proofs.Lines.{of_parts, of_branch, of_loop, of_lists, of_thread}

-- Behind so many open brackets and so many marks in a row, the tokens are not too deep.
pub record Calm (n m : ℕ) (ws : List Word) : Type 0 where
  pub calm : (ts : List Token) → Are ws ts → deep n m ts ≡ None

pub same_words : {n m : ℕ} {vs ws : List Word} → vs ≡ ws → Calm n m ws → Calm n m vs
same_words {n} {m} e h = subst (Calm n m) (sym e) h

step : (n m x y : ℕ) (v : Word) (vs : List Word) (j : Kind) (e : Effect) → ((t : Token) → IsAt v t → t.kind ≡ j) → effect j ≡ e → ((at : ℕ) (go : ℕ → ℕ → Option ℕ) → counted e n m at go ≡ go x y) → Calm x y vs → Calm n m (v ∷ vs)
step n m x y v vs j e kind eff goes h = record {
  calm = λ ts are.
      ap (deep n m) are.4 ∙ ap (λ q. counted (effect q) n m are.0.at (λ a b. deep a b are.1)) (kind are.0 are.2) ∙ ap (λ q. counted q n m are.0.at (λ a b. deep a b are.1)) eff
      ∙ goes are.0.at (λ a b. deep a b are.1) ∙ h.calm are.1 are.3;
}

other_ : {n : ℕ} {vs : List Word} (m : ℕ) (j : Kind) → effect j ≡ other → Calm n 0 vs → Calm n m (plain j ∷ vs)
other_ {n} {vs} m j e h = step n m n 0 (plain j) vs j other (λ t i. i) e (λ at go. refl) h

open_ : {n : ℕ} {vs : List Word} (m : ℕ) (j : Kind) → effect j ≡ opens → n < 200 → Calm (n + 1) 0 vs → Calm n m (plain j ∷ vs)
open_ {n} {vs} m j e l h = step n m (n + 1) 0 (plain j) vs j opens (λ t i. i) e (λ at go. ap (λ b. if b then Some at else go (n + 1) 0) (ne_eqb n 200 (λ g. omega (arith, l, g)))) h

close_ : {n : ℕ} {vs : List Word} (j : Kind) → effect j ≡ closes → Calm n 0 vs → Calm (n + 1) 0 (plain j ∷ vs)
close_ {n} {vs} j e h = let back : n + 1 - 1 ≡ n = omega arith in step (n + 1) 0 n 0 (plain j) vs j closes (λ t i. i) e (λ at go. ap (λ x. go x 0) back) h

mark_ : {n m : ℕ} {vs : List Word} → m < 64 → Calm n (m + 1) vs → Calm n m (plain k.Bang ∷ vs)
unfolding kind_is
mark_ {n} {m} {vs} l h = step n m n (m + 1) (plain k.Bang) vs k.Bang marks (λ t i. i) refl (λ at go. ap (λ b. if b then Some at else go n (m + 1)) (ne_eqb m 64 (λ g. omega (arith, l, g)))) h

number_ : {n : ℕ} {vs : List Word} (m i : ℕ) → Calm n 0 vs → Calm n m (w.number i ∷ vs)
unfolding kind_is
number_ {n} {vs} m i h = step n m n 0 (w.number i) vs k.Number other (λ t j. j.0) refl (λ at go. refl) h

name_ : {n : ℕ} {vs : List Word} (m x : ℕ) → Calm n 0 vs → Calm n m (w.name x ∷ vs)
unfolding kind_is
name_ {n} {vs} m x h = step n m n 0 (w.name x) vs k.Name other (λ t j. j.0) refl (λ at go. refl) h

hole_ : {n : ℕ} {vs : List Word} (m x : ℕ) → Calm n 0 vs → Calm n m (w.hole x ∷ vs)
unfolding kind_is
hole_ {n} {vs} m x h = step n m n 0 (w.hole x) vs k.Hole other (λ t j. j) refl (λ at go. refl) h

sign_other : (op : Op) → effect (w.sign_of op) ≡ other
unfolding kind_is
sign_other ops.Add = refl
sign_other ops.Sub = refl
sign_other ops.Mul = refl
sign_other ops.And = refl
sign_other ops.Or = refl
sign_other ops.Xor = refl
sign_other ops.Eq = refl
sign_other ops.Ne = refl
sign_other ops.Lt = refl
sign_other ops.Le = refl
sign_other ops.Both = refl
sign_other ops.Either = refl

height_some : (e : Term) → 1 ≤ height e
height_some (const n) = omega arith
height_some (var x) = omega arith
height_some (neg e) = omega arith
height_some (bin op a b) = omega arith

of_operand : {A : Type 0} (s c : A) (a b m : List A) → ((a ++ s ∷ b) ++ c ∷ []) ++ m ≡ a ++ (s ∷ (b ++ (c ∷ m)))
of_operand s c a b m = simp append_assoc

-- what is written of an item that passes is calm
record EachCalm (n : ℕ) {A : Type 0} (test : A → Bool) (write : A → List Word) : Type 0 where
  each : (x : A) → test x ≡ true → {vs : List Word} → Calm n 0 vs → Calm n 0 (write x ++ vs)

module _ {n : ℕ} {A : Type 0} {test : A → Bool} {write : A → List Word} (f : EachCalm n test write) where
  rest_calm : (xs : List A) → list_all test xs ≡ true → {vs : List Word} → Calm n 0 vs → Calm n 0 (flat_map (λ x. plain k.Comma ∷ write x) xs ++ vs)
  unfolding kind_is
  rest_calm [] p h = h
  rest_calm (x ∷ xs) p {vs} h =
      let q = and_parts (test x) (list_all test xs) p in
      same_words (ap (λ l. plain k.Comma ∷ l) (append_assoc (write x) (flat_map (λ y. plain k.Comma ∷ write y) xs) vs)) (other_ 0 k.Comma refl (f.each x q.0 (rest_calm xs q.1 h)))

  commas_calm : (xs : List A) → list_all test xs ≡ true → {vs : List Word} → Calm n 0 vs → Calm n 0 (w.commas write xs ++ vs)
  commas_calm [] p h = h
  commas_calm (x ∷ xs) p {vs} h =
      let q = and_parts (test x) (list_all test xs) p in
      same_words (append_assoc (write x) (flat_map (λ y. plain k.Comma ∷ write y) xs) vs) (f.each x q.0 (rest_calm xs q.1 h))

  lines_calm : (xs : List A) → list_all test xs ≡ true → {vs : List Word} → Calm n 0 vs → Calm n 0 (flat_map write xs ++ vs)
  lines_calm [] p h = h
  lines_calm (x ∷ xs) p {vs} h =
      let q = and_parts (test x) (list_all test xs) p in
      same_words (append_assoc (write x) (flat_map write xs) vs) (f.each x q.0 (lines_calm xs q.1 h))

module _ (known : ℕ → Bool) where
  expr_calm : (operand : Bool) (e : Term) (n m : ℕ) → n + height e ≤ 200 → m + height e ≤ 65 → {vs : List Word} → Calm n 0 vs → Calm n m (w.expr known operand e ++ vs)
  unfolding kind_is
  expr_calm operand (const i) n m p q h = number_ m i h
  expr_calm operand (var x) n m p q {vs} h = by (known x)
    where
      by : (b : Bool) → Calm n m ((if b then w.name x else w.hole x) ∷ vs)
      by true = name_ m x h
      by false = hole_ m x h
  expr_calm operand (neg e) n m p q h = mark_ (omega (arith, q, height_some e)) (expr_calm true e n (m + 1) (omega (arith, p)) (omega (arith, q)) h)
  expr_calm true (bin op a b) n m p q {vs} h =
      same_words (ap (λ l. plain k.OpenParen ∷ l) (of_operand (plain (w.sign_of op)) (plain k.CloseParen) (w.expr known true a) (w.expr known true b) vs))
      (open_ m k.OpenParen refl (omega (arith, p, height_some a))
      (expr_calm true a (n + 1) 0 (omega (arith, p)) (omega (arith, q))
      (other_ 0 (w.sign_of op) (sign_other op) (expr_calm true b (n + 1) 0 (omega (arith, p)) (omega (arith, q)) (close_ k.CloseParen refl h)))))
  expr_calm false (bin op a b) n m p q {vs} h =
      same_words (append_assoc (w.expr known true a) (plain (w.sign_of op) ∷ w.expr known true b) vs)
      (expr_calm true a n m (omega (arith, p)) (omega (arith, q)) (other_ 0 (w.sign_of op) (sign_other op) (expr_calm true b n 0 (omega (arith, p)) (omega (arith, q)) h)))

  small_height : (e : Term) → term_fine e ≡ true → height e ≤ 64
  small_height e f = by (nat_lt 64 (height e)) refl (and_parts (not (nat_lt 64 (height e))) true (and_parts (not (nat_lt 1000 (nodes e))) (not (nat_lt 64 (height e)) && true) f).1).0
    where
      by : (b : Bool) → nat_lt 64 (height e) ≡ b → not (nat_lt 64 (height e)) ≡ true → height e ≤ 64
      by true g i = absurd (true≢false (sym i ∙ ap not g))
      by false g i = grind (arith, g)

  whole_calm : (e : Term) (n : ℕ) → n ≤ 136 → term_fine e ≡ true → {vs : List Word} → Calm n 0 vs → Calm n 0 (w.whole known e ++ vs)
  whole_calm e n p f h = let l = small_height e f in expr_calm false e n 0 (omega (arith, p, l)) (omega (arith, l)) h

  exprs_calm : (n : ℕ) → n ≤ 136 → EachCalm n term_fine (w.whole known)
  exprs_calm n p = record { each = λ e f {vs} h. whole_calm e n p f h }

  -- Certificates -----------------------------------------------------------------------------------------------

  abbrev inner : s.Cert → List Word
  inner c = w.part c (w.cert known c)

  part_calm : (c : s.Cert) (n : ℕ) → n < 200 → {vs : List Word} → Calm n 0 vs → Calm n 0 (w.cert known c ++ vs) → Calm (n + 1) 0 (w.cert known c ++ plain k.CloseParen ∷ vs) → Calm n 0 (inner c ++ vs)
  unfolding kind_is
  part_calm c n p {vs} r h g = by (is_word c)
    where
      by : (b : Bool) → Calm n 0 ((if b then w.cert known c else w.enclosed (w.cert known c)) ++ vs)
      by true = h
      by false = same_words (ap (λ l. plain k.OpenParen ∷ l) (append_assoc (w.cert known c) (plain k.CloseParen ∷ []) vs)) (open_ 0 k.OpenParen refl p g)

  bracketed_calm : (e : Term) (n : ℕ) → n ≤ 135 → term_fine e ≡ true → {vs : List Word} → Calm n 0 vs → Calm n 0 (plain k.OpenBracket ∷ (w.whole known e ++ plain k.CloseBracket ∷ vs))
  unfolding kind_is
  bracketed_calm e n p f h = open_ 0 k.OpenBracket refl (omega (arith, p)) (whole_calm e (n + 1) (omega (arith, p)) f (close_ k.CloseBracket refl h))

  close : {n : ℕ} {vs : List Word} → Calm n 0 vs → Calm (n + 1) 0 (plain k.CloseParen ∷ vs)
  unfolding kind_is
  close h = close_ k.CloseParen refl h

  cert_calm : (c : s.Cert) (n : ℕ) → n + cert_height c ≤ 135 → inside_fine c ≡ true → {vs : List Word} → Calm n 0 vs → Calm n 0 (w.cert known c ++ vs)
  unfolding kind_is
  cert_calm s.auto n p f h = other_ 0 k.Auto refl h
  cert_calm s.calc n p f h = other_ 0 k.Calc refl h
  cert_calm s.reflexive n p f h = other_ 0 k.Refl refl h
  cert_calm s.ring n p f h = other_ 0 k.Ring refl h
  cert_calm s.range n p f h = other_ 0 k.Range refl h
  cert_calm (s.hyp i) n p f h = other_ 0 k.Hyp refl (number_ 0 i h)
  cert_calm (s.clash i) n p f h = other_ 0 k.Clash refl (number_ 0 i h)
  cert_calm (s.absurdity i j) n p f h = other_ 0 k.Absurd refl (number_ 0 i (number_ 0 j h))
  cert_calm (s.left c) n p f h = let x = part_calm c n (omega (arith, p)) h (cert_calm c n (omega (arith, p)) f h) (cert_calm c (n + 1) (omega (arith, p)) f (close h)) in other_ 0 k.Left refl x
  cert_calm (s.right c) n p f h = let x = part_calm c n (omega (arith, p)) h (cert_calm c n (omega (arith, p)) f h) (cert_calm c (n + 1) (omega (arith, p)) f (close h)) in other_ 0 k.Right refl x
  cert_calm (s.negation c) n p f h = let x = part_calm c n (omega (arith, p)) h (cert_calm c n (omega (arith, p)) f h) (cert_calm c (n + 1) (omega (arith, p)) f (close h)) in other_ 0 k.Not refl x
  cert_calm (s.contra c) n p f h = let x = part_calm c n (omega (arith, p)) h (cert_calm c n (omega (arith, p)) f h) (cert_calm c (n + 1) (omega (arith, p)) f (close h)) in other_ 0 k.Contra refl x
  cert_calm (s.unpack i c) n p f h = let x = part_calm c n (omega (arith, p)) h (cert_calm c n (omega (arith, p)) f h) (cert_calm c (n + 1) (omega (arith, p)) f (close h)) in other_ 0 k.Use refl (number_ 0 i x)
  cert_calm (s.and c d) n p f {vs} h =
      let q = and_parts (inside_fine c) (inside_fine d) f in
      let y = part_calm d n (omega (arith, p)) h (cert_calm d n (omega (arith, p)) q.1 h) (cert_calm d (n + 1) (omega (arith, p)) q.1 (close h)) in
      let x = part_calm c n (omega (arith, p)) y (cert_calm c n (omega (arith, p)) q.0 y) (cert_calm c (n + 1) (omega (arith, p)) q.0 (close y)) in
      same_words (ap (λ l. plain k.And ∷ l) (append_assoc (inner c) (inner d) vs)) (other_ 0 k.And refl x)
  cert_calm (s.cases i c d) n p f {vs} h =
      let q = and_parts (inside_fine c) (inside_fine d) f in
      let y = part_calm d n (omega (arith, p)) h (cert_calm d n (omega (arith, p)) q.1 h) (cert_calm d (n + 1) (omega (arith, p)) q.1 (close h)) in
      let x = part_calm c n (omega (arith, p)) y (cert_calm c n (omega (arith, p)) q.0 y) (cert_calm c (n + 1) (omega (arith, p)) q.0 (close y)) in
      same_words (ap (λ l. plain k.Cases ∷ w.number i ∷ l) (append_assoc (inner c) (inner d) vs)) (other_ 0 k.Cases refl (number_ 0 i x))
  cert_calm (s.split e c d) n p f {vs} h =
      let a = and_parts (term_fine e) (inside_fine c && inside_fine d) f in
      let q = and_parts (inside_fine c) (inside_fine d) a.1 in
      let y = part_calm d n (omega (arith, p)) h (cert_calm d n (omega (arith, p)) q.1 h) (cert_calm d (n + 1) (omega (arith, p)) q.1 (close h)) in
      let x = part_calm c n (omega (arith, p)) y (cert_calm c n (omega (arith, p)) q.0 y) (cert_calm c (n + 1) (omega (arith, p)) q.0 (close y)) in
      same_words (ap (λ l. plain k.Split ∷ plain k.OpenBracket ∷ l) (of_2_2 (w.whole known e) (plain k.CloseBracket ∷ []) (inner c) (inner d) vs))
      (other_ 0 k.Split refl (bracketed_calm e n (omega (arith, p)) a.0 x))
  cert_calm (s.have e c d) n p f {vs} h =
      let a = and_parts (term_fine e) (inside_fine c && inside_fine d) f in
      let q = and_parts (inside_fine c) (inside_fine d) a.1 in
      let y = part_calm d n (omega (arith, p)) h (cert_calm d n (omega (arith, p)) q.1 h) (cert_calm d (n + 1) (omega (arith, p)) q.1 (close h)) in
      let x = part_calm c n (omega (arith, p)) y (cert_calm c n (omega (arith, p)) q.0 y) (cert_calm c (n + 1) (omega (arith, p)) q.0 (close y)) in
      same_words (ap (λ l. plain k.Have ∷ plain k.OpenBracket ∷ l) (of_2_2 (w.whole known e) (plain k.CloseBracket ∷ []) (inner c) (inner d) vs))
      (other_ 0 k.Have refl (bracketed_calm e n (omega (arith, p)) a.0 x))
  cert_calm (s.fwd i e c) n p f {vs} h =
      let a = and_parts (term_fine e) (inside_fine c) f in
      let x = part_calm c n (omega (arith, p)) h (cert_calm c n (omega (arith, p)) a.1 h) (cert_calm c (n + 1) (omega (arith, p)) a.1 (close h)) in
      same_words (ap (λ l. plain k.Fwd ∷ w.number i ∷ plain k.OpenBracket ∷ l) (of_3 (w.whole known e) (plain k.CloseBracket ∷ []) (inner c) vs))
      (other_ 0 k.Fwd refl (number_ 0 i (bracketed_calm e n (omega (arith, p)) a.0 x)))
  cert_calm (s.rev i e c) n p f {vs} h =
      let a = and_parts (term_fine e) (inside_fine c) f in
      let x = part_calm c n (omega (arith, p)) h (cert_calm c n (omega (arith, p)) a.1 h) (cert_calm c (n + 1) (omega (arith, p)) a.1 (close h)) in
      same_words (ap (λ l. plain k.Rev ∷ w.number i ∷ plain k.OpenBracket ∷ l) (of_3 (w.whole known e) (plain k.CloseBracket ∷ []) (inner c) vs))
      (other_ 0 k.Rev refl (number_ 0 i (bracketed_calm e n (omega (arith, p)) a.0 x)))
  cert_calm (s.instance i es c) n p f {vs} h =
      let a = and_parts (list_all term_fine es) (inside_fine c) f in
      let x = part_calm c n (omega (arith, p)) h (cert_calm c n (omega (arith, p)) a.1 h) (cert_calm c (n + 1) (omega (arith, p)) a.1 (close h)) in
      same_words (ap (λ l. plain k.Axiom ∷ w.number i ∷ plain k.OpenParen ∷ l) (of_3 (w.commas (w.whole known) es) (plain k.CloseParen ∷ []) (inner c) vs))
      (other_ 0 k.Axiom refl (number_ 0 i (open_ 0 k.OpenParen refl (omega (arith, p)) (commas_calm (exprs_calm (n + 1) (omega (arith, p))) es a.0 (close x)))))

  -- Proofs and states ------------------------------------------------------------------------------------------

  few : (most n : ℕ) → not (nat_lt most n) ≡ true → n ≤ most
  few most n e = by (nat_lt most n) refl e
    where
      by : (b : Bool) → nat_lt most n ≡ b → not b ≡ true → n ≤ most
      by true g i = absurd (true≢false (sym i))
      by false g i = grind (arith, g)

  proofs_calm : (n : ℕ) → n ≤ 65 → EachCalm n proof_fine (w.proof known)
  unfolding kind_is
  proofs_calm n p = record {
    each = λ x f {vs} h.
        let a = and_parts (not (nat_lt 10000 (Rattle.cov_print.proofs.Sizes.cert_nodes x.cert)) && (not (nat_lt 64 (cert_height x.cert)) && true)) (inside_fine x.cert) f in
        let b = and_parts (not (nat_lt 10000 (Rattle.cov_print.proofs.Sizes.cert_nodes x.cert))) (not (nat_lt 64 (cert_height x.cert)) && true) a.0 in
        let c = few 64 (cert_height x.cert) (and_parts (not (nat_lt 64 (cert_height x.cert))) true b.1).0 in
        number_ 0 x.number (other_ 0 k.Colon refl (cert_calm x.cert n (omega (arith, p, c)) a.1 h));
  }

  by_calm : (ps : List s.Proof) (n : ℕ) → n ≤ 64 → list_all proof_fine ps ≡ true → {vs : List Word} → Calm n 0 vs → Calm n 0 (w.by known ps ++ vs)
  unfolding kind_is
  by_calm [] n p f h = h
  by_calm (x ∷ xs) n p f {vs} h =
      same_words (ap (λ l. plain k.By ∷ plain k.OpenBrace ∷ l) (append_assoc (w.commas (w.proof known) (x ∷ xs)) (plain k.CloseBrace ∷ []) vs))
      (other_ 0 k.By refl (open_ 0 k.OpenBrace refl (omega (arith, p)) (commas_calm (proofs_calm (n + 1) (omega (arith, p))) (x ∷ xs) f (close_ k.CloseBrace refl h))))

  -- and a semicolon behind them
  closed_calm : (ps : List s.Proof) (n : ℕ) → n ≤ 64 → list_all proof_fine ps ≡ true → {vs : List Word} → Calm n 0 vs
      → Calm n 0 ((w.by known ps ++ plain k.Semicolon ∷ []) ++ vs)
  unfolding kind_is
  closed_calm ps n p f {vs} h =
      same_words (append_assoc (w.by known ps) (plain k.Semicolon ∷ []) vs) (by_calm ps n p f (other_ 0 k.Semicolon refl h))

  typed_calm : (n : ℕ) → n ≤ 136 → EachCalm n pair_fine (w.typed known)
  unfolding kind_is
  typed_calm n p = record { each = λ x f {vs} h. name_ 0 x.0 (other_ 0 k.Colon refl (whole_calm x.1 n p f h)) }

  types_calm : (ts : List (ℕ × Term)) (n : ℕ) → n ≤ 136 → list_all pair_fine ts ≡ true → {vs : List Word} → Calm n 0 vs → Calm n 0 (w.types known ts ++ vs)
  unfolding kind_is
  types_calm [] n p f h = h
  types_calm (t ∷ ts) n p f h = other_ 0 k.Semicolon refl (commas_calm (typed_calm n p) (t ∷ ts) f h)

  state_calm : (j : s.State) (n : ℕ) → n ≤ 64 → state_fine j ≡ true → {vs : List Word} → Calm n 0 vs → Calm n 0 (w.state known j ++ vs)
  unfolding kind_is
  state_calm j n p f {vs} h =
      let a = and_parts (not (nat_lt 64 (length j.preds)) && (not (nat_lt 256 (length j.types)) && true)) (list_all term_fine j.preds && list_all pair_fine j.types) f in
      let b = and_parts (list_all term_fine j.preds) (list_all pair_fine j.types) a.1 in
      same_words (ap (λ l. plain k.OpenBrace ∷ l) (of_3 (w.commas (w.whole known) j.preds) (w.types known j.types) (plain k.CloseBrace ∷ []) vs))
      (open_ 0 k.OpenBrace refl (omega (arith, p))
      (commas_calm (exprs_calm (n + 1) (omega (arith, p))) j.preds b.0 (types_calm j.types (n + 1) (omega (arith, p)) b.1 (close_ k.CloseBrace refl h))))

  stated_calm : (word : Kind) → effect word ≡ other → (j : s.State) (n : ℕ) → n ≤ 64 → state_fine j ≡ true → {vs : List Word} → Calm n 0 vs → Calm n 0 (w.stated known word j ++ vs)
  stated_calm word e j n p f {vs} h = by (Rattle.cov_print.specs.Spelling.is_nothing j.preds && Rattle.cov_print.specs.Spelling.is_nothing j.types)
    where
      by : (b : Bool) → Calm n 0 ((if b then [] else plain word ∷ w.state known j) ++ vs)
      by true = h
      by false = other_ 0 word e (state_calm j n p f h)

  maybe_calm : (word : Kind) → effect word ≡ other → (q : Option Term) (n : ℕ) → n ≤ 136 → option_fine q ≡ true → {vs : List Word} → Calm n 0 vs → Calm n 0 (w.maybe known word q ++ vs)
  maybe_calm word e None n p f h = h
  maybe_calm word e (Some x) n p f h = other_ 0 word e (whole_calm x n p f h)

  retype_calm : (n : ℕ) → n ≤ 136 → EachCalm n pair_fine (w.retype known)
  unfolding kind_is
  retype_calm n p = record { each = λ x f {vs} h. other_ 0 k.Retype refl (name_ 0 x.0 (other_ 0 k.As refl (whole_calm x.1 n p f h))) }

  -- Statements -------------------------------------------------------------------------------------------------

  some_room : (room : ℕ) → not (room == 0) ≡ true → 1 ≤ room
  some_room room e = by (room == 0) refl e
    where
      by : (b : Bool) → (room == 0) ≡ b → not b ≡ true → 1 ≤ room
      by true g i = absurd (true≢false (sym i))
      by false g i = grind (arith, g)

  -- a block in its braces
  braced : (n : ℕ) → n < 200 → {ws : List Word} → Calm (n + 1) 0 ws → Calm n 0 (plain k.OpenBrace ∷ ws)
  unfolding kind_is
  braced n p h = open_ 0 k.OpenBrace refl p h

  mutual
    unfolding kind_is

    stm_calm : (x : s.Stm) (ps : List s.Proof) (n room : ℕ) → n + room ≤ 65 → n ≤ 64 → stm_fine room (unplaced_stm x) ps ≡ true → {vs : List Word} → Calm n 0 vs → Calm n 0 (w.stm known x ps ++ vs)
    stm_calm s.skip ps n room p m f h = other_ 0 k.Skip refl (other_ 0 k.Semicolon refl h)
    stm_calm (s.assign x e q rs) ps n room p m f {vs} h =
        let a = and_parts (term_fine e) (option_fine q && (list_all pair_fine rs && list_all proof_fine ps)) f in
        let b = and_parts (option_fine q) (list_all pair_fine rs && list_all proof_fine ps) a.1 in
        let c = and_parts (list_all pair_fine rs) (list_all proof_fine ps) b.1 in
        same_words (ap (λ l. w.name x ∷ plain k.Assign ∷ l) (of_parts (w.whole known e) (w.maybe known k.As q) (flat_map (w.retype known) rs) (w.by known ps) (plain k.Semicolon ∷ []) vs))
        (name_ 0 x (other_ 0 k.Assign refl (whole_calm e n (omega (arith, m)) a.0
        (maybe_calm k.As refl q n (omega (arith, m)) b.0 (lines_calm (retype_calm n (omega (arith, m))) rs c.0 (by_calm ps n m c.1 (other_ 0 k.Semicolon refl h)))))))
    stm_calm (s.branch e a b j) ps n room p m f {vs} h =
        let ub = unplaced_block a in
        let vb = unplaced_block b in
        let fa = not (room - 1 == 0) && block_fine (room - 1) ub in
        let fb = not (room - 1 == 0) && block_fine (room - 1) vb in
        let c = and_parts (term_fine e) (fa && (fb && (state_fine j && list_all proof_fine ps))) f in
        let d = and_parts fa (fb && (state_fine j && list_all proof_fine ps)) c.1 in
        let g = and_parts fb (state_fine j && list_all proof_fine ps) d.1 in
        let i = and_parts (state_fine j) (list_all proof_fine ps) g.1 in
        let ra = and_parts (not (room - 1 == 0)) (block_fine (room - 1) ub) d.0 in
        let rb = and_parts (not (room - 1 == 0)) (block_fine (room - 1) vb) g.0 in
        same_words (ap (λ t. plain k.If ∷ t) (of_branch (plain k.OpenBrace) (plain k.CloseBrace) (plain k.Else) (w.whole known e) (w.block known a) (w.block known b) (w.stated known k.Join j) (w.by known ps) vs))
        (other_ 0 k.If refl (whole_calm e n (omega (arith, m)) c.0
        (braced n (omega (arith, p, some_room (room - 1) ra.0)) (block_calm a (n + 1) (room - 1) (omega (arith, p, some_room (room - 1) ra.0)) (omega (arith, p, some_room (room - 1) ra.0)) ra.1 (close_ k.CloseBrace refl
        (other_ 0 k.Else refl (braced n (omega (arith, p, some_room (room - 1) rb.0)) (block_calm b (n + 1) (room - 1) (omega (arith, p, some_room (room - 1) rb.0)) (omega (arith, p, some_room (room - 1) rb.0)) rb.1 (close_ k.CloseBrace refl
        (stated_calm k.Join refl j n m i.0 (by_calm ps n m i.1 h)))))))))))
    stm_calm (s.loop e j b) ps n room p m f {vs} h =
        let vb = unplaced_block b in
        let fb = not (room - 1 == 0) && block_fine (room - 1) vb in
        let c = and_parts (term_fine e) (state_fine j && (fb && list_all proof_fine ps)) f in
        let d = and_parts (state_fine j) (fb && list_all proof_fine ps) c.1 in
        let g = and_parts fb (list_all proof_fine ps) d.1 in
        let rb = and_parts (not (room - 1 == 0)) (block_fine (room - 1) vb) g.0 in
        same_words (ap (λ t. plain k.While ∷ t) (of_loop (plain k.OpenBrace) (plain k.CloseBrace) (w.whole known e) (w.stated known k.Inv j) (w.block known b) (w.by known ps) vs))
        (other_ 0 k.While refl (whole_calm e n (omega (arith, m)) c.0 (stated_calm k.Inv refl j n m d.0
        (braced n (omega (arith, p, some_room (room - 1) rb.0)) (block_calm b (n + 1) (room - 1) (omega (arith, p, some_room (room - 1) rb.0)) (omega (arith, p, some_room (room - 1) rb.0)) rb.1 (close_ k.CloseBrace refl (by_calm ps n m g.1 h)))))))
    stm_calm (s.note j) ps n room p m f {vs} h =
        let a = and_parts (state_fine j) (list_all proof_fine ps) f in
        same_words (ap (λ t. plain k.Note ∷ t) (of_3 (w.state known j) (w.by known ps) (plain k.Semicolon ∷ []) vs))
        (other_ 0 k.Note refl (state_calm j n m a.0 (by_calm ps n m a.1 (other_ 0 k.Semicolon refl h))))
    stm_calm (s.output e) ps n room p m f {vs} h =
        let a = and_parts (term_fine e) (list_all proof_fine ps) f in
        same_words (ap (λ t. plain k.Output ∷ t) (of_3 (w.whole known e) (w.by known ps) (plain k.Semicolon ∷ []) vs))
        (other_ 0 k.Output refl (whole_calm e n (omega (arith, m)) a.0 (by_calm ps n m a.1 (other_ 0 k.Semicolon refl h))))
    stm_calm _ ps n room p m f h = other_ 0 _ refl (name_ 0 _ (search (f, m, h, other_, closed_calm)))

    block_calm : (b : s.Block) (n room : ℕ) → n + room ≤ 65 → n ≤ 64 → block_fine room (unplaced_block b) ≡ true → {vs : List Word} → Calm n 0 vs → Calm n 0 (w.block known b ++ vs)
    block_calm s.done n room p m f h = h
    block_calm (s.more at x ps rest) n room p m f {vs} h =
        let a = and_parts (stm_fine room (unplaced_stm x) ps) (block_fine room (unplaced_block rest)) f in
        same_words (append_assoc (w.stm known x ps) (w.block known rest) vs) (stm_calm x ps n room p m a.0 (block_calm rest n room p m a.1 h))

  -- Declarations -----------------------------------------------------------------------------------------------

  pub version_calm : (v : ℕ) {vs : List Word} → Calm 0 0 vs → Calm 0 0 (w.version v ++ vs)
  unfolding kind_is
  version_calm v {vs} h = by (v == 2)
    where
      by : (b : Bool) → Calm 0 0 ((if b then plain k.Version ∷ w.number 2 ∷ plain k.Semicolon ∷ [] else []) ++ vs)
      by true = other_ 0 k.Version refl (number_ 0 2 (other_ 0 k.Semicolon refl h))
      by false = h

  names_calm : EachCalm 0 (λ x. true) (λ x. w.name x ∷ [])
  names_calm = record { each = λ x f {vs} h. name_ 0 x h }

  any_true : {A : Type 0} (xs : List A) → list_all (λ x. true) xs ≡ true
  any_true [] = refl
  any_true (x ∷ xs) = any_true xs

  behind_calm : (word : Kind) → effect word ≡ other → (xs : List ℕ) {vs : List Word} → Calm 0 0 vs → Calm 0 0 (w.behind word xs ++ vs)
  behind_calm word e [] h = h
  behind_calm word e (x ∷ xs) h = other_ 0 word e (commas_calm names_calm (x ∷ xs) (any_true (x ∷ xs)) h)

  mode_calm : (word kind : Kind) → effect word ≡ other → effect kind ≡ other → (xs : List ℕ) {vs : List Word} → Calm 0 0 vs → Calm 0 0 (w.mode word kind xs ++ vs)
  mode_calm word kind e g [] h = h
  mode_calm word kind e g (x ∷ xs) h = other_ 0 word e (other_ 0 kind g (commas_calm names_calm (x ∷ xs) (any_true (x ∷ xs)) h))

  modes_calm : (word : Kind) → effect word ≡ other → (xs ys : List ℕ) {vs : List Word} → Calm 0 0 vs → Calm 0 0 (w.modes word xs ys ++ vs)
  unfolding kind_is
  modes_calm word e xs ys {vs} h = same_words (append_assoc (w.mode word k.Nowrite xs) (w.mode word k.Hide ys) vs) (mode_calm word k.Nowrite e refl xs (mode_calm word k.Hide e refl ys h))

  class_calm : (c : s.Class) → class_fine c ≡ true → {vs : List Word} → Calm 0 0 vs → Calm 0 0 (w.class known c ++ vs)
  unfolding kind_is
  class_calm s.low f h = other_ 0 k.Low refl h
  class_calm s.high f h = other_ 0 k.High refl h
  class_calm (s.when e) f h = other_ 0 k.Low refl (other_ 0 k.When refl (whole_calm e 0 (omega arith) f h))

  pub var_calm : (x : ℕ) (c : s.Class) → class_fine c ≡ true → {vs : List Word} → Calm 0 0 vs → Calm 0 0 (w.var_decl known x c ++ vs)
  unfolding kind_is
  var_calm x c f {vs} h =
      same_words (ap (λ l. plain k.Var ∷ w.name x ∷ plain k.Colon ∷ l) (append_assoc (w.class known c) (plain k.Semicolon ∷ []) vs))
      (other_ 0 k.Var refl (name_ 0 x (other_ 0 k.Colon refl (class_calm c f (other_ 0 k.Semicolon refl h)))))

  pub lock_calm : (x : ℕ) (xs ys : List ℕ) (q : Option Term) → option_fine q ≡ true → {vs : List Word} → Calm 0 0 vs → Calm 0 0 (w.lock_decl known x xs ys q ++ vs)
  unfolding kind_is
  lock_calm x xs ys q f {vs} h =
      same_words (ap (λ l. plain k.Lock ∷ w.name x ∷ l) (of_lists (w.behind k.Nowrite xs) (w.behind k.Hide ys) (w.maybe known k.Inv q) (plain k.Semicolon ∷ []) vs))
      (other_ 0 k.Lock refl (name_ 0 x (behind_calm k.Nowrite refl xs (behind_calm k.Hide refl ys (maybe_calm k.Inv refl q 0 (omega arith) f (other_ 0 k.Semicolon refl h))))))

  pub thread_calm : (x : ℕ) (m : s.Modes) (b : s.Block) → block_fine 64 (unplaced_block b) ≡ true → {vs : List Word} → Calm 0 0 vs → Calm 0 0 (w.thread_decl known x m b ++ vs)
  unfolding kind_is
  thread_calm x m b f {vs} h =
      same_words (ap (λ l. plain k.Thread ∷ w.name x ∷ l)
      (of_thread (plain k.OpenBrace) (plain k.CloseBrace) (w.modes k.Assume m.assume_nowrite m.assume_hide) (w.modes k.Guarantee m.guarantee_nowrite m.guarantee_hide) (w.block known b) vs
      ∙ append_assoc (w.modes k.Assume m.assume_nowrite m.assume_hide) (w.modes k.Guarantee m.guarantee_nowrite m.guarantee_hide) (plain k.OpenBrace ∷ (w.block known b ++ (plain k.CloseBrace ∷ vs)))))
      (other_ 0 k.Thread refl (name_ 0 x
      (modes_calm k.Assume refl m.assume_nowrite m.assume_hide (modes_calm k.Guarantee refl m.guarantee_nowrite m.guarantee_hide
      (braced 0 (omega arith) (block_calm b 1 64 (omega arith) (omega arith) f (close_ k.CloseBrace refl h)))))))

  pub nothing_calm : Calm 0 0 []
  nothing_calm = record { calm = λ ts are. ap (deep 0 0) are }
