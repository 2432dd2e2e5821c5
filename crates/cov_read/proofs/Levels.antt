-- Steps of the reader of expressions.
use Rattle.std.proofs.Common.{◌≡◌, ℕ, zero, suc, ◌+◌, ◌<◌, ◌≤◌, List, [], ◌∷◌, ◌++◌, length, take, drop, get_or, Bool, true, false, ◌&&◌, ◌||◌, if◌then◌else◌, Option, Some, None, refl, sym, ap, subst, ◌∙◌, arith, append-nil}
use Rattle.std.proofs.lemmas.Bool.{or_left}
use Rattle.std.proofs.Math.Seq.{drop-cons}
use Rattle.std.proofs.Math.ListN.{drop_of_length-le}
use Rattle.std.proofs.lemmas.List.{length-take, get_or-take}
use Rattle.cov_expr.specs.Term.{Term, neg, bin}
use Rattle.cov_expr.specs.declared.expr.Op.{Op}
use Rattle.cov_expr.specs.declared.kind.Kind.{Kind}
use Rattle.cov_expr.specs.declared.kind.Kind.TheVariants as k
use Rattle.cov_grammar.specs.declared.token.Token.{Token}
use Rattle.cov_read.specs.declared.level.Level.{Level}
use Rattle.cov_read.specs.declared.level.Level.TheVariants.{Prod, Sum, Band, Bxor, Bor, Compare, Both, Either}
use Rattle.cov_grammar.specs.PlacedTrees.{expr, template}
use Rattle.cov_grammar.specs.LookAhead.{kind_is, has, starts, nullable, firsts, fine}
use Rattle.cov_grammar.specs.Shapes.{Shape, opt, many, head}
use Rattle.cov_grammar.specs.Reading.{Reading, got, stopped, spent, ◌>>=◌, Reader, take_kind, reading}
use Rattle.cov_grammar.specs.FirstKinds.{first_kinds, more_of}
use Rattle.cov_grammar.specs.Grammar.{signs, grouped, compared, negated, atom, template_atom, unary, prod, sum, band, bxor, bor, cmp, both, either, body}
use Rattle.cov_read.specs.Templates.{rule_for}
use Rattle.cov_read.specs.Inside.Levels.{first_sign, other_signs, level, operand, repeats, next_index, levels, tail, atom_of, tails_by, tails, onward, levelled, SignOf, SignAt, IsDone, Ends, Skips}
use Rattle.cov_grammar.proofs.Repeats.{Item, pushed, pushed_none, item_goes, item_ends, item_breaks}
use Rattle.cov_grammar.proofs.Basics.{left_false, right_false, kind_one}
use Rattle.cov_grammar.proofs.Many.{Shrinks, many_of, many_is}
use Rattle.cov_grammar.proofs.Turns.{rule_is}

-- Signs --------------------------------------------------------------------------------------------------------

starts_cons : (j : Kind) (ks : List Kind) (o : Option Kind) → starts (j ∷ ks) o ≡ (starts (j ∷ []) o || starts ks o)
starts_cons j ks None = refl
starts_cons j ks (Some x) = elim (kind_is j x) as (λ b. (b || has ks x) ≡ ((b || false) || has ks x)) [ true ↦ refl | false ↦ refl ]

pub sign_last : (x : Kind × Op) (ts : List Token) → starts (x.0 ∷ []) (head ts) ≡ false → SignOf x [] ts None ts
sign_last x ts h = (h, refl)

pub sign_here_last : (x : Kind × Op) (ts rest : List Token) (t : Token) → starts (x.0 ∷ []) (head ts) ≡ true → take_kind x.0 ts ≡ got t rest → SignOf x [] ts (Some x.1) rest
sign_here_last x ts rest t h e = (h, ap (λ o. o >>= λ v us. got x.1 us) e)

pub sign_here : (x y : Kind × Op) (ys : List (Kind × Op)) (ts rest : List Token) (t : Token) → starts (x.0 ∷ []) (head ts) ≡ true → take_kind x.0 ts ≡ got t rest → SignOf x (y ∷ ys) ts (Some x.1) rest
sign_here x y ys ts rest t h e = (
  starts_cons x.0 (firsts first_kinds (signs y ys)) (head ts) ∙ or_left _ _ h,
  ap (λ b. if b then (take_kind x.0 ts >>= λ v us. got x.1 us) else reading (signs y ys) ts) h ∙ ap (λ o. o >>= λ v us. got x.1 us) e,
)

pub sign_later : (x y : Kind × Op) (ys : List (Kind × Op)) (ts rest : List Token) (o : Option Op) → starts (x.0 ∷ []) (head ts) ≡ false → SignOf y ys ts o rest → SignOf x (y ∷ ys) ts o rest
sign_later x y ys ts rest None h g = (starts_cons x.0 (firsts first_kinds (signs y ys)) (head ts) ∙ ap (λ b. b || starts (firsts first_kinds (signs y ys)) (head ts)) h ∙ g.0, g.1)
sign_later x y ys ts rest (Some op) h g = (
  starts_cons x.0 (firsts first_kinds (signs y ys)) (head ts) ∙ ap (λ b. b || starts (firsts first_kinds (signs y ys)) (head ts)) h ∙ g.0,
  ap (λ b. if b then (take_kind x.0 ts >>= λ v us. got x.1 us) else reading (signs y ys) ts) h ∙ g.1,
)

full_signs : (x : Kind × Op) (ys : List (Kind × Op)) → nullable (signs x ys) ≡ false
full_signs x [] = refl
full_signs x (y ∷ ys) = full_signs y ys

-- Readings -----------------------------------------------------------------------------------------------------

abbrev pair : {A B : Type 0} → A → Reading B → Reading (A × B)
pair v o = o >>= λ w last. got (v, w) last

bind_got : {A : Type 0} (o : Reading A) → (o >>= λ v rest. got v rest) ≡ o
bind_got (got v rest) = refl
bind_got (stopped bad) = refl
bind_got spent = refl

-- a value and what is read behind it
split_act : {B : Type 0} (f : Term → B → Term) (M : Reader B) (o : Reading Term) → ((o >>= λ v us. pair v (M us)) >>= λ x last. got (f x.0 x.1) last) ≡ (o >>= λ v us. M us >>= λ w last. got (f v w) last)
split_act f M (got v us) = by (M us)
  where
    by : (p : Reading _) → (pair v p >>= λ x last. got (f x.0 x.1) last) ≡ (p >>= λ w last. got (f v w) last)
    by (got w last) = refl
    by (stopped bad) = refl
    by spent = refl
split_act f M (stopped bad) = refl
split_act f M spent = refl

-- Levels -------------------------------------------------------------------------------------------------------

module _ (a : Shape Term) where
  -- a level is its operand and what stands behind it
  split : (l : Level) (ts : List Token) → reading (level l a) ts ≡ (reading (operand l a) ts >>= λ t us. tails l a t us)
  unfolding prod sum band bxor bor cmp both either tail
  split Prod ts = split_act grouped (reading (many (tail Prod a))) (reading (operand Prod a) ts)
  split Sum ts = split_act grouped (reading (many (tail Sum a))) (reading (operand Sum a) ts)
  split Band ts = split_act grouped (reading (many (tail Band a))) (reading (operand Band a) ts)
  split Bxor ts = split_act grouped (reading (many (tail Bxor a))) (reading (operand Bxor a) ts)
  split Bor ts = split_act grouped (reading (many (tail Bor a))) (reading (operand Bor a) ts)
  split Compare ts = split_act compared (reading (opt (tail Compare a))) (reading (operand Compare a) ts)
  split Both ts = split_act grouped (reading (many (tail Both a))) (reading (operand Both a) ts)
  split Either ts = split_act grouped (reading (many (tail Either a))) (reading (operand Either a) ts)

  onward_last : (ls : List Level) (l : Level) (t : Term) (ts : List Token) → onward (ls ++ l ∷ []) a t ts ≡ (onward ls a t ts >>= λ u us. tails l a u us)
  onward_last [] l t ts = bind_got (tails l a t ts)
  onward_last (j ∷ ls) l t ts = by (tails j a t ts) (λ u us. onward_last ls l u us)
    where
      by : (o : Reading Term) → ((u : Term) (us : List Token) → onward (ls ++ l ∷ []) a u us ≡ (onward ls a u us >>= λ v vs. tails l a v vs))
          → (o >>= λ u us. onward (ls ++ l ∷ []) a u us) ≡ ((o >>= λ u us. onward ls a u us) >>= λ u us. tails l a u us)
      by (got u us) h = h u us
      by (stopped bad) h = refl
      by spent h = refl

  -- one level more
  next_level : (l : Level) (ls : List Level) → ((ts : List Token) → reading (operand l a) ts ≡ levelled ls a ts) → (ts : List Token) → reading (level l a) ts ≡ levelled (ls ++ l ∷ []) a ts
  next_level l ls is ts = split l ts ∙ ap (λ o. o >>= λ t us. tails l a t us) (is ts) ∙ by (reading (unary a) ts)
    where
      by : (o : Reading Term) → ((o >>= λ t us. onward ls a t us) >>= λ t us. tails l a t us) ≡ (o >>= λ t us. onward (ls ++ l ∷ []) a t us)
      by (got t us) = sym (onward_last ls l t us)
      by (stopped bad) = refl
      by spent = refl

  unary_is : (ts : List Token) → reading (unary a) ts ≡ levelled [] a ts
  unary_is ts = sym (bind_got (reading (unary a) ts))

  prod_is : (ts : List Token) → reading (prod a) ts ≡ levelled (take 1 levels) a ts
  prod_is = next_level Prod [] unary_is

  sum_is : (ts : List Token) → reading (sum a) ts ≡ levelled (take 2 levels) a ts
  sum_is = next_level Sum (take 1 levels) prod_is

  band_is : (ts : List Token) → reading (band a) ts ≡ levelled (take 3 levels) a ts
  band_is = next_level Band (take 2 levels) sum_is

  bxor_is : (ts : List Token) → reading (bxor a) ts ≡ levelled (take 4 levels) a ts
  bxor_is = next_level Bxor (take 3 levels) band_is

  bor_is : (ts : List Token) → reading (bor a) ts ≡ levelled (take 5 levels) a ts
  bor_is = next_level Bor (take 4 levels) bxor_is

  cmp_is : (ts : List Token) → reading (cmp a) ts ≡ levelled (take 6 levels) a ts
  cmp_is = next_level Compare (take 5 levels) bor_is

  both_is : (ts : List Token) → reading (both a) ts ≡ levelled (take 7 levels) a ts
  both_is = next_level Both (take 6 levels) cmp_is

  either_is : (ts : List Token) → reading (either a) ts ≡ levelled levels a ts
  either_is = next_level Either (take 7 levels) both_is

  -- the operand of a level is read by the levels in front of it
  operand_is : (i : ℕ) (ts : List Token) → i < 8 → reading (operand (get_or levels i Prod) a) ts ≡ levelled (take i levels) a ts
  operand_is zero ts h = unary_is ts
  operand_is (suc zero) ts h = prod_is ts
  operand_is (suc (suc zero)) ts h = sum_is ts
  operand_is (suc (suc (suc zero))) ts h = band_is ts
  operand_is (suc (suc (suc (suc zero)))) ts h = bxor_is ts
  operand_is (suc (suc (suc (suc (suc zero))))) ts h = bor_is ts
  operand_is (suc (suc (suc (suc (suc (suc zero)))))) ts h = cmp_is ts
  operand_is (suc (suc (suc (suc (suc (suc (suc zero))))))) ts h = both_is ts
  operand_is (suc (suc (suc (suc (suc (suc (suc (suc i)))))))) ts h = absurd (omega arith)

pub rule_levels : (holes : Bool) (ts : List Token) → reading (rule_for holes) ts ≡ levelled levels (atom_of holes) ts
unfolding body
rule_levels true ts = rule_is template ts ∙ either_is template_atom ts
rule_levels false ts = rule_is expr ts ∙ either_is atom ts

-- What stands behind an operand --------------------------------------------------------------------------------

fine_tail : (l : Level) (holes : Bool) → fine first_kinds more_of (tail l (atom_of holes)) ≡ true
unfolding kind_is atom template_atom unary prod sum band bxor bor cmp both either tail
fine_tail Prod true = refl
fine_tail Prod false = refl
fine_tail Sum true = refl
fine_tail Sum false = refl
fine_tail Band true = refl
fine_tail Band false = refl
fine_tail Bxor true = refl
fine_tail Bxor false = refl
fine_tail Bor true = refl
fine_tail Bor false = refl
fine_tail Compare true = refl
fine_tail Compare false = refl
fine_tail Both true = refl
fine_tail Both false = refl
fine_tail Either true = refl
fine_tail Either false = refl

module _ (l : Level) (holes : Bool) where
  abbrev A : Shape Term
  A = atom_of holes

  abbrev S : Shape Op
  S = signs (first_sign l) (other_signs l)

  abbrev X : Shape (Op × Term)
  X = tail l A

  full_tail : nullable X ≡ false
  unfolding tail
  full_tail = ap (λ b. b && nullable (operand l A)) (full_signs (first_sign l) (other_signs l))

  firsts_tail : firsts first_kinds X ≡ firsts first_kinds S
  unfolding tail
  firsts_tail = ap (λ b. firsts first_kinds S ++ (if b then firsts first_kinds (operand l A) else [])) (full_signs (first_sign l) (other_signs l)) ∙ append-nil (firsts first_kinds S)

  tail_item : Item X (firsts first_kinds S)
  tail_item = record { fine = fine_tail l holes; full = full_tail; first = firsts_tail }

  tail_got : (op : Op) (u : Term) (ts us rest : List Token) → reading S ts ≡ got op us → reading (operand l A) us ≡ got u rest → reading X ts ≡ got (op, u) rest
  unfolding tail
  tail_got op u ts us rest h g =
      ap (λ o. o >>= λ v us. pair v (reading (operand l A) us)) h ∙ ap (pair op) g

  tail_stopped : (op : Op) (ts us rest : List Token) → reading S ts ≡ got op us → reading (operand l A) us ≡ stopped rest → reading X ts ≡ stopped rest
  unfolding tail
  tail_stopped op ts us rest h g =
      ap (λ o. o >>= λ v us. pair v (reading (operand l A) us)) h ∙ ap (pair op) g

  abbrev some : Reading (Op × Term) → Reading (Option (Op × Term))
  some o = o >>= λ v rest. got (Some v) rest

  opt_is : (ts : List Token) (b : Bool) → starts (firsts first_kinds S) (head ts) ≡ b → reading (opt X) ts ≡ (if b then some (reading X ts) else got None ts)
  opt_is ts b e = ap (λ c. if c then some (reading X ts) else got None ts) (ap (λ js. starts js (head ts)) firsts_tail ∙ e)

  abbrev folded : Term → Reading (List (Op × Term)) → Reading Term
  folded t o = o >>= λ xs rest. got (grouped t xs) rest

  abbrev settled : Term → Reading (Option (Op × Term)) → Reading Term
  settled t o = o >>= λ x rest. got (compared t x) rest

  -- no operator
  tails_end : (b : Bool) (t : Term) (ts : List Token) → starts (firsts first_kinds S) (head ts) ≡ false → tails_by b l A t ts ≡ got t ts
  tails_end true t ts h = ap (folded t) (sym (pushed_none (reading (many X) ts)) ∙ item_ends (λ x. x) X (firsts first_kinds S) tail_item [] ts h)
  tails_end false t ts h = ap (settled t) (opt_is ts false h)

  -- what is still to come behind an operator and its operand
  abbrev rest_by : Bool → Term → Reader Term
  rest_by true t ts = tails_by true l A t ts
  rest_by false t ts = got t ts

  push_one : (op : Op) (t u : Term) (o : Reading (List (Op × Term))) → folded t (pushed ((op, u) ∷ []) o) ≡ folded (bin op t u) o
  push_one op t u (got xs rest) = refl
  push_one op t u (stopped bad) = refl
  push_one op t u spent = refl

  tails_go : (b : Bool) (op : Op) (t u : Term) (ts rest : List Token) → starts (firsts first_kinds S) (head ts) ≡ true → reading X ts ≡ got (op, u) rest → tails_by b l A t ts ≡ rest_by b (bin op t u) rest
  tails_go true op t u ts rest h g =
      ap (folded t) (sym (item_goes (λ x. x) X (firsts first_kinds S) tail_item [] ((op, u) ∷ []) (op, u) ts rest h g refl ∙ pushed_none (reading (many X) ts)))
      ∙ push_one op t u (reading (many X) rest)
  tails_go false op t u ts rest h g = ap (settled t) (opt_is ts true h ∙ ap some g)

  tails_break : (b : Bool) (t : Term) (ts rest : List Token) → starts (firsts first_kinds S) (head ts) ≡ true → reading X ts ≡ stopped rest → tails_by b l A t ts ≡ stopped rest
  tails_break true t ts rest h g = ap (folded t) (sym (pushed_none (reading (many X) ts)) ∙ item_breaks (λ x. x) X (firsts first_kinds S) tail_item [] ts rest h g)
  tails_break false t ts rest h g = ap (settled t) (opt_is ts true h ∙ ap some g)

-- Levels that are still to come --------------------------------------------------------------------------------

ahead : (ls : List Level) (i : ℕ) → i < length ls → drop i ls ≡ get_or ls i Prod ∷ drop (suc i) ls
ahead ls i h = drop-cons ls i Prod h

-- a level whose operator isn't next
pub skip_level : (ls : List Level) (from i : ℕ) (ts us vs : List Token) → i < length ls → us ≡ ts → SignAt (get_or ls i Prod) us None vs → Skips ls from i ts → Skips ls from (i + 1) ts
skip_level ls from i ts us vs h e s before holes t =
    before holes t
    ∙ ap (λ js. onward js (atom_of holes) t ts) (ahead ls i h)
    ∙ ap (λ o. o >>= λ u rest. onward (drop (suc i) ls) (atom_of holes) u rest)
    (tails_end (get_or ls i Prod) holes (repeats (get_or ls i Prod)) t ts (subst (λ x. starts (firsts first_kinds (signs (first_sign (get_or ls i Prod)) (other_signs (get_or ls i Prod)))) (head x) ≡ false) e s.0))
    ∙ ap (λ n. onward (drop n ls) (atom_of holes) t ts) (let n : suc i ≡ i + 1 = omega arith in n)

pub skip_none : (ls : List Level) (from : ℕ) (ts : List Token) → Skips ls from from ts
skip_none ls from ts holes t = refl

pub all_skipped : (ls : List Level) (from i : ℕ) (ts : List Token) → length ls ≤ i → Skips ls from i ts → IsDone (drop from ls) ts
all_skipped ls from i ts e before holes t = before holes t ∙ ap (λ js. onward js (atom_of holes) t ts) (drop_of_length-le ls e)

take_within : {B : Type 0} (i n : ℕ) (xs : List B) → i ≤ n → take i (take n xs) ≡ take i xs
take_within zero n xs h = refl
take_within (suc i) zero xs h = absurd (omega arith)
take_within (suc i) (suc n) [] h = refl
take_within (suc i) (suc n) (x ∷ xs) h = ap (λ ys. x ∷ ys) (take_within i n xs (omega arith))

-- an operator whose level stands at an index
module _ (ls : List Level) (holes : Bool) (index : ℕ) (front : ls ≡ take (length ls) levels) (inside : index < length ls) where
  abbrev B : Shape Term
  B = atom_of holes

  abbrev L : Level
  L = get_or ls index Prod

  abbrev behind_it : List Level
  behind_it = drop (suc index) ls

  operand_at : (us : List Token) → reading (operand L B) us ≡ levelled (take index ls) B us
  operand_at us =
      let below : length ls ≤ 8 = omega (arith, ap length front, length-take (length ls) levels) in
      let same : get_or ls index Prod ≡ get_or levels index Prod = ap (λ js. get_or js index Prod) front ∙ get_or-take (length ls) levels index Prod inside in
      let prefix : take index ls ≡ take index levels = ap (take index) front ∙ take_within index (length ls) levels (omega arith) in
      ap (λ l. reading (operand l B) us) same ∙ operand_is B index us (omega arith) ∙ ap (λ js. levelled js B us) (sym prefix)

  rest_is : (b : Bool) (t : Term) (ts : List Token) → (rest_by L holes b t ts >>= λ u rest. onward behind_it B u rest) ≡ (if b then (tails_by true L B t ts >>= λ u rest. onward behind_it B u rest) else onward behind_it B t ts)
  rest_is true t ts = refl
  rest_is false t ts = refl

  from_there : (b : Bool) → repeats L ≡ b → (t : Term) (ts : List Token) → (if b then (tails_by true L B t ts >>= λ u rest. onward behind_it B u rest) else onward behind_it B t ts) ≡ onward (drop (if b then index else index + 1) ls) B t ts
  from_there true e t ts = sym (ap (λ js. onward js B t ts) (ahead ls index inside) ∙ ap (λ c. tails_by c L B t ts >>= λ u rest. onward behind_it B u rest) e)
  from_there false e t ts = ap (λ n. onward (drop n ls) B t ts) (let n : suc index ≡ index + 1 = omega arith in n)

  pub operator_goes : (from : ℕ) (op : Op) (t u s : Term) (ts us rest : List Token) → SignAt L ts (Some op) us → Skips ls from index ts → levelled (take index ls) B us ≡ got u rest → s ≡ bin op t u
      → onward (drop (next_index L index) ls) B s rest ≡ onward (drop from ls) B t ts
  operator_goes from op t u s ts us rest sign skips h e =
      ap (λ x. onward (drop (next_index L index) ls) B x rest) e
      ∙ sym (skips holes t
      ∙ ap (λ js. onward js B t ts) (ahead ls index inside)
      ∙ ap (λ o. o >>= λ u rest. onward behind_it B u rest) (tails_go L holes (repeats L) op t u ts rest sign.0 (tail_got L holes op u ts us rest sign.1 (operand_at us ∙ h)))
      ∙ rest_is (repeats L) (bin op t u) rest
      ∙ from_there (repeats L) refl (bin op t u) rest)

  pub operator_breaks : (from : ℕ) (op : Op) (t : Term) (ts us rest : List Token) → SignAt L ts (Some op) us → Skips ls from index ts → levelled (take index ls) B us ≡ stopped rest
      → onward (drop from ls) B t ts ≡ stopped rest
  operator_breaks from op t ts us rest sign skips h =
      skips holes t
      ∙ ap (λ js. onward js B t ts) (ahead ls index inside)
      ∙ ap (λ o. o >>= λ u rest. onward behind_it B u rest) (tails_break L holes (repeats L) t ts rest sign.0 (tail_stopped L holes op ts us rest sign.1 (operand_at us ∙ h)))

-- Tokens that are no operators ---------------------------------------------------------------------------------

abbrev begins : Level → Kind → Bool
begins l j = has (firsts first_kinds (signs (first_sign l) (other_signs l))) j

abbrev any : List Level → Kind → Bool
any [] j = false
any (l ∷ ls) j = begins l j || any ls j

none_at : (j : Kind) (ls : List Level) (i : ℕ) → i < length ls → any ls j ≡ false → begins (get_or ls i Prod) j ≡ false
none_at j [] i inside h = absurd (omega arith)
none_at j (l ∷ ls) zero inside h = left_false (begins l j) (any ls j) h
none_at j (l ∷ ls) (suc i) inside h = none_at j ls i (omega arith) (right_false (begins l j) (any ls j) h)

none_of : (j : Kind) → any levels j ≡ false → (l : Level) → begins l j ≡ false
none_of j h Prod = none_at j levels 0 (omega arith) h
none_of j h Sum = none_at j levels 1 (omega arith) h
none_of j h Band = none_at j levels 2 (omega arith) h
none_of j h Bxor = none_at j levels 3 (omega arith) h
none_of j h Bor = none_at j levels 4 (omega arith) h
none_of j h Compare = none_at j levels 5 (omega arith) h
none_of j h Both = none_at j levels 6 (omega arith) h
none_of j h Either = none_at j levels 7 (omega arith) h

head_is : (j : Kind) (ts : List Token) → starts (j ∷ []) (head ts) ≡ true → head ts ≡ Some j
head_is j [] h = cc
head_is j (t ∷ ts) h = ap Some (sym (kind_one j t.kind (by (kind_is j t.kind) h)))
  where
    by : (b : Bool) → (b || false) ≡ true → b ≡ true
    by true e = refl
    by false e = e

none_begins : (j : Kind) (ts : List Token) → any levels j ≡ false → starts (j ∷ []) (head ts) ≡ true → Ends ts
none_begins j ts none h [] holes t = refl
none_begins j ts none h (l ∷ ls) holes t =
    ap (λ o. o >>= λ u rest. onward ls (atom_of holes) u rest) (tails_end l holes (repeats l) t ts (ap (starts (firsts first_kinds (signs (first_sign l) (other_signs l)))) (head_is j ts h) ∙ none_of j none l))
    ∙ none_begins j ts none h ls holes t

pub ends_semicolon : (ts : List Token) → starts (k.Semicolon ∷ []) (head ts) ≡ true → Ends ts
unfolding kind_is
ends_semicolon ts h = none_begins k.Semicolon ts refl h

pub ends_bracket : (ts : List Token) → starts (k.CloseParen ∷ []) (head ts) ≡ true → Ends ts
unfolding kind_is
ends_bracket ts h = none_begins k.CloseParen ts refl h

pub ends_brace : (ts : List Token) → starts (k.OpenBrace ∷ []) (head ts) ≡ true → Ends ts
unfolding kind_is
ends_brace ts h = none_begins k.OpenBrace ts refl h

-- Negations ----------------------------------------------------------------------------------------------------

negated_in : (n : ℕ) (t : Term) → negated n (neg t) ≡ neg (negated n t)
negated_in zero t = refl
negated_in (suc n) t = ap neg (negated_in n t)

module _ (a : Shape Term) where
  abbrev bangs : Reader (List Token)
  bangs ts = many_of (k.Bang ∷ []) (take_kind k.Bang) ts

  abbrev wrapped : ℕ → Reading (List Token × Term) → Reading Term
  wrapped n o = o >>= λ x last. got (negated n (negated (length x.0) x.1)) last

  -- what is still to come, behind n marks
  abbrev pub behind : ℕ → Reader Term
  behind n ts = wrapped n (bangs ts >>= λ v rest. pair v (reading a rest))

  pub unary_begins : (ts : List Token) → behind 0 ts ≡ reading (unary a) ts
  unfolding unary
  unary_begins ts = refl

  abbrev consed : Reading (Token × List Token) → Reading (List Token)
  consed o = o >>= λ x last. got (x.0 ∷ x.1) last

  take_shrinks : Shrinks (take_kind k.Bang)
  take_shrinks [] v rest h = cc
  take_shrinks (t ∷ ts) v rest h = by (kind_is k.Bang t.kind) h
    where
      by : (b : Bool) → (if b then got t ts else stopped (t ∷ ts)) ≡ got v rest → length rest < length (t ∷ ts)
      by true e = let same : ts ≡ rest = cc in subst (λ us. length us < length (t ∷ ts)) same (omega arith)
      by false e = cc

  turn_bang : (n : ℕ) (ts : List Token) (b : Bool) → starts (k.Bang ∷ []) (head ts) ≡ b
      → behind n ts ≡ wrapped n ((if b then consed (take_kind k.Bang ts >>= λ v rest. pair v (bangs rest)) else got [] ts) >>= λ v rest. pair v (reading a rest))
  turn_bang n ts b e =
      ap (λ o. wrapped n (o >>= λ v rest. pair v (reading a rest)))
      (many_is (k.Bang ∷ []) (take_kind k.Bang) take_shrinks ts ∙ ap (λ c. if c then consed (take_kind k.Bang ts >>= λ v rest. pair v (bangs rest)) else got [] ts) e)

  pub unary_goes : (n : ℕ) (ts us : List Token) (t : Token) → starts (k.Bang ∷ []) (head ts) ≡ true → take_kind k.Bang ts ≡ got t us → behind (suc n) us ≡ behind n ts
  unary_goes n ts us t h g =
      sym (turn_bang n ts true h ∙ ap (λ o. wrapped n (consed (o >>= λ v rest. pair v (bangs rest)) >>= λ v rest. pair v (reading a rest))) g ∙ by (bangs us))
    where
      by_last : (xs : List Token) (o : Reading Term) → wrapped n (pair (t ∷ xs) o) ≡ wrapped (suc n) (pair xs o)
      by_last xs (got e last) = ap (λ z. got z last) (negated_in n (negated (length xs) e))
      by_last xs (stopped bad) = refl
      by_last xs spent = refl

      by : (o : Reading (List Token)) → wrapped n (consed (pair t o) >>= λ v rest. pair v (reading a rest)) ≡ wrapped (suc n) (o >>= λ v rest. pair v (reading a rest))
      by (got xs last) = by_last xs (reading a last)
      by (stopped bad) = refl
      by spent = refl

  pub unary_ends : (n : ℕ) (ts rest : List Token) (t : Term) → starts (k.Bang ∷ []) (head ts) ≡ false → reading a ts ≡ got t rest → behind n ts ≡ got (negated n t) rest
  unary_ends n ts rest t h g = turn_bang n ts false h ∙ ap (λ o. wrapped n (pair [] o)) g

  pub unary_stops : (n : ℕ) (ts rest : List Token) → starts (k.Bang ∷ []) (head ts) ≡ false → reading a ts ≡ stopped rest → behind n ts ≡ stopped rest
  unary_stops n ts rest h g = turn_bang n ts false h ∙ ap (λ o. wrapped n (pair [] o)) g
