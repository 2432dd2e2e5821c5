-- A rule has turns enough: more turns change nothing, and each one takes a token.
use Rattle.std.proofs.Common.{◌≡◌, ℕ, zero, suc, ◌≤◌, ◌<◌, List, [], ◌∷◌, ◌++◌, length, Bool, true, false, not, ◌&&◌, ◌||◌, if◌then◌else◌, Some, None, ◌⊎◌, refl, sym, ap, subst, ◌∙◌, arith, length-append, inl, inr}
use Rattle.cov_expr.specs.declared.kind.Kind.{Kind}
use Rattle.cov_grammar.specs.declared.token.Token.{Token}
use Rattle.cov_grammar.specs.PlacedTrees.{Rule, Meaning, expr, template, cert, block}
use Rattle.cov_grammar.specs.Shapes.{Shape, token, rule, seq, alt, opt, many, act, placed, place, head}
use Rattle.cov_grammar.specs.Grammar.{atom, template_atom, unary, prod, sum, band, bxor, bor, cmp, both, either, part, arguments, last_certs, more_certs, certificate, proof, proofs, retype, assigned, branched, looped, state, statement, braces, body, types}
use Rattle.cov_grammar.specs.Spells.{Within}
use Rattle.cov_grammar.specs.LookAhead.{kind_is, starts, nullable, firsts, fine, more}
use Rattle.cov_grammar.specs.FirstKinds.{first_kinds, more_of}
use Rattle.cov_grammar.specs.Reading.{Reading, got, stopped, spent, ◌>>=◌, Reader, Inner, read_many, read, reads, rule_of}
use Rattle.cov_grammar.proofs.TableLaws.{fine_body, more_body}
use Rattle.cov_grammar.proofs.Honest.{Fact, Honest}
use Rattle.cov_grammar.proofs.Senses.{AtSome, OfShape, top, full_at}
use Rattle.cov_grammar.proofs.Samples.{first_at}
use Rattle.cov_grammar.proofs.Shapely.{honest, shrinks_of, rules_honest}
use Rattle.cov_grammar.proofs.Complete.{complete}
use Rattle.cov_grammar.proofs.Basics.{starts_less, within_not}
use Rattle.cov_expr.proofs.Tests.{left_true, right_true}

-- More turns change nothing ------------------------------------------------------------------------------------

-- The first reader gives what the second does, or lacks turns.
abbrev pub Below : {A : Type 0} → Reader A → Reader A → Type 0
Below R S = (ts : List Token) → (R ts ≡ spent) ⊎ (R ts ≡ S ts)

-- behind equal parts
bind_below : {A B : Type 0} (o p : Reading A) (f g : A → List Token → Reading B) → (o ≡ spent) ⊎ (o ≡ p) → ((v : A) (rest : List Token) → (f v rest ≡ spent) ⊎ (f v rest ≡ g v rest)) → ((o >>= f) ≡ spent) ⊎ ((o >>= f) ≡ (p >>= g))
bind_below (got v rest) p f g (inl h) k = cc
bind_below (stopped bad) p f g (inl h) k = cc
bind_below spent p f g (inl h) k = inl refl
bind_below (got v rest) p f g (inr h) k = by (k v rest)
  where
    by : (f v rest ≡ spent) ⊎ (f v rest ≡ g v rest) → (f v rest ≡ spent) ⊎ (f v rest ≡ (p >>= g))
    by (inl e) = inl e
    by (inr e) = inr (e ∙ ap (λ o. o >>= g) h)
bind_below (stopped bad) p f g (inr h) k = inr (ap (λ o. o >>= g) h)
bind_below spent p f g (inr h) k = inl refl

if_below : {A : Type 0} (b : Bool) (o p q r : Reading A) → (o ≡ spent) ⊎ (o ≡ p) → (q ≡ spent) ⊎ (q ≡ r) → ((if b then o else q) ≡ spent) ⊎ ((if b then o else q) ≡ (if b then p else r))
if_below true o p q r h g = h
if_below false o p q r h g = g

many_below : {A : Type 0} (ks : List Kind) (R S : Reader A) → Below R S → (n : ℕ) → Below (read_many ks R n) (read_many ks S n)
many_below ks R S h zero ts = inr refl
many_below ks R S h (suc n) ts =
    if_below (starts ks (head ts)) _ _ (got [] ts) (got [] ts)
    (bind_below (R ts) (S ts) (λ v rest. read_many ks R n rest >>= λ vs last. got (v ∷ vs) last) (λ v rest. read_many ks S n rest >>= λ vs last. got (v ∷ vs) last) (h ts)
    (λ v rest. bind_below (read_many ks R n rest) (read_many ks S n rest) (λ vs last. got (v ∷ vs) last) (λ vs last. got (v ∷ vs) last) (many_below ks R S h n rest) (λ vs last. inr refl)))
    (inr refl)

module _ (I J : Inner) (h : (r : Rule) → Below (I r) (J r)) where
  below : {A : Type 0} (a : Shape A) → Below (read first_kinds I a) (read first_kinds J a)
  below (token k) ts = inr refl
  below (rule r) ts = h r ts
  below (seq a b) ts =
      bind_below (read first_kinds I a ts) (read first_kinds J a ts) (λ v rest. read first_kinds I b rest >>= λ w last. got (v, w) last) (λ v rest. read first_kinds J b rest >>= λ w last. got (v, w) last) (below a ts)
      (λ v rest. bind_below (read first_kinds I b rest) (read first_kinds J b rest) (λ w last. got (v, w) last) (λ w last. got (v, w) last) (below b rest) (λ w last. inr refl))
  below (alt a b) ts = if_below (starts (firsts first_kinds a) (head ts)) _ _ _ _ (below a ts) (below b ts)
  below (opt a) ts =
      if_below (starts (firsts first_kinds a) (head ts)) _ _ (got None ts) (got None ts)
      (bind_below (read first_kinds I a ts) (read first_kinds J a ts) (λ v rest. got (Some v) rest) (λ v rest. got (Some v) rest) (below a ts) (λ v rest. inr refl)) (inr refl)
  below (many a) ts = many_below (firsts first_kinds a) (read first_kinds I a) (read first_kinds J a) (below a) (length ts) ts
  below (act f a) ts = bind_below (read first_kinds I a ts) (read first_kinds J a ts) (λ v rest. got (f v) rest) (λ v rest. got (f v) rest) (below a ts) (λ v rest. inr refl)
  below (placed a) ts = bind_below (read first_kinds I a ts) (read first_kinds J a ts) (λ v rest. got (place ts, v) rest) (λ v rest. got (place ts, v) rest) (below a ts) (λ v rest. inr refl)

below_left : (d e : ℕ) (r : Rule) → Below (reads d r) (reads (top d e) r)
below_left zero e r ts = inl refl
below_left (suc d) zero r ts = inr refl
below_left (suc d) (suc e) r ts = below (reads d) (reads (top d e)) (below_left d e) (body r) ts

below_right : (d e : ℕ) (r : Rule) → Below (reads e r) (reads (top d e) r)
below_right zero e r ts = inr refl
below_right (suc d) zero r ts = inl refl
below_right (suc d) (suc e) r ts = below (reads e) (reads (top d e)) (below_right d e) (body r) ts

-- Each turn takes a token --------------------------------------------------------------------------------------

-- whether no rule stands before the first token
abbrev pub guarded : {A : Type 0} → Shape A → Bool
guarded (token k) = true
guarded (rule r) = false
guarded (seq a b) = guarded a && (not (nullable a) || guarded b)
guarded (alt a b) = guarded a && guarded b
guarded (opt a) = guarded a
guarded (many a) = guarded a
guarded (act f a) = guarded a
guarded (placed a) = guarded a

guarded_body : (r : Rule) → guarded (body r) ≡ true
unfolding atom template_atom unary prod sum band bxor bor cmp both either part arguments last_certs more_certs certificate proof proofs types retype assigned branched looped state statement braces body
guarded_body expr = refl
guarded_body template = refl
guarded_body cert = refl
guarded_body block = refl

-- turns that tokens pay for: one more behind a guard
abbrev cost : Bool → ℕ → ℕ
cost true d = suc d
cost false d = d

cost_least : (b : Bool) (d : ℕ) → d ≤ cost b d
cost_least true d = omega arith
cost_least false d = omega arith

cost_and_left : (b c : Bool) (d : ℕ) → cost (b && c) d ≤ cost b d
cost_and_left true true d = omega arith
cost_and_left true false d = omega arith
cost_and_left false c d = omega arith

cost_and_right : (b c : Bool) (d : ℕ) → cost (b && c) d ≤ cost c d
cost_and_right true c d = omega arith
cost_and_right false true d = omega arith
cost_and_right false false d = omega arith

-- what a part behind another costs
cost_behind : (g n h : Bool) (d l m : ℕ) → (n ≡ false → m < l) → m ≤ l → cost h d ≤ m → cost (g && (not n || h)) d ≤ l
cost_behind true true true d l m s t c = omega arith
cost_behind true true false d l m s t c = omega arith
cost_behind true false true d l m s t c = omega (arith, s refl)
cost_behind true false false d l m s t c = omega (arith, s refl)
cost_behind false n true d l m s t c = omega arith
cost_behind false n false d l m s t c = omega arith

bind_spent : {A B : Type 0} (o : Reading A) (f : A → List Token → Reading B) → (o >>= f) ≡ spent → (o ≡ spent) ⊎ ((v : A) × (rest : List Token) × (o ≡ got v rest) × (f v rest ≡ spent))
bind_spent (got v rest) f h = inr (v, rest, refl, h)
bind_spent (stopped bad) f h = cc
bind_spent spent f h = inl refl

abbrev pairs : {A B : Type 0} → A → Reading B → Reading (A × B)
pairs v o = o >>= λ w last. got (v, w) last

got_spent : {A B : Type 0} (o : Reading A) (f : A → List Token → B) → (o >>= λ v rest. got (f v rest) rest) ≡ spent → o ≡ spent
got_spent (got v rest) f h = cc
got_spent (stopped bad) f h = cc
got_spent spent f h = refl

no_longer : {A : Type 0} (P : A → List Token → Type 0) (R : Reader A) (ts : List Token) (v : A) (rest : List Token) (out : Reading A) → out ≡ got v rest → Fact P R ts out → length rest ≤ length ts
no_longer P R ts v rest (got w last) e h = let same : last ≡ rest = cc in rw h.split (subst (λ l. length rest ≤ length (h.front ++ l)) (sym same) (simp length-append (omega arith)))
no_longer P R ts v rest (stopped bad) e h = cc
no_longer P R ts v rest spent e h = cc

module _ (d : ℕ) (inner : Inner) (hi : (r : Rule) → Honest (AtSome r) (inner r)) (costs : (r : Rule) (ts : List Token) → inner r ts ≡ spent → d ≤ length ts) where
  many_cost : {A : Type 0} (ks : List Kind) (R : Reader A) (c : ℕ) → ((ts : List Token) → R ts ≡ spent → c ≤ length ts) → ((ts : List Token) (v : A) (rest : List Token) → R ts ≡ got v rest → length rest ≤ length ts)
      → (n : ℕ) (ts : List Token) → read_many ks R n ts ≡ spent → c ≤ length ts
  many_cost ks R c f s zero ts h = cc
  many_cost {A} ks R c f s (suc n) ts h = by (starts ks (head ts)) h (λ rest. many_cost ks R c f s n rest)
    where
      by : (b : Bool) → (if b then (R ts >>= λ v rest. read_many ks R n rest >>= λ vs last. got (v ∷ vs) last) else got [] ts) ≡ spent → ((rest : List Token) → read_many ks R n rest ≡ spent → c ≤ length rest) → c ≤ length ts
      by true e k = on (bind_spent (R ts) (λ v rest. read_many ks R n rest >>= λ vs last. got (v ∷ vs) last) e)
        where
          on : (R ts ≡ spent) ⊎ ((v : A) × (rest : List Token) × (R ts ≡ got v rest) × ((read_many ks R n rest >>= λ vs last. got (v ∷ vs) last) ≡ spent)) → c ≤ length ts
          on (inl q) = f ts q
          on (inr q) = omega (arith, s ts q.0 q.1 q.2, k q.1 (got_spent (read_many ks R n q.1) (λ vs last. q.0 ∷ vs) q.3))
      by false e k = cc

  cost_of : {A : Type 0} (a : Shape A) → fine first_kinds more_of a ≡ true → (ts : List Token) → read first_kinds inner a ts ≡ spent → cost (guarded a) d ≤ length ts
  cost_of (token k) f [] h = cc
  cost_of (token k) f (t ∷ ts) h = by (kind_is k t.kind) h
    where
      by : (b : Bool) → (if b then got t ts else stopped (t ∷ ts)) ≡ spent → suc d ≤ length (t ∷ ts)
      by true e = cc
      by false e = cc
  cost_of (rule r) f ts h = costs r ts h
  cost_of {A} (seq {A = B} a b) f ts h = by (bind_spent (read first_kinds inner a ts) (λ v rest. pairs v (read first_kinds inner b rest)) h)
      (cost_of a (left_true _ _ f) ts) (cost_of b (left_true _ _ (right_true (fine first_kinds more_of a) _ f)))
    where
      by : (read first_kinds inner a ts ≡ spent) ⊎ ((v : B) × (rest : List Token) × (read first_kinds inner a ts ≡ got v rest) × (pairs v (read first_kinds inner b rest) ≡ spent))
          → (read first_kinds inner a ts ≡ spent → cost (guarded a) d ≤ length ts) → ((rest : List Token) → read first_kinds inner b rest ≡ spent → cost (guarded b) d ≤ length rest)
          → cost (guarded (seq a b)) d ≤ length ts
      by (inl e) x y = omega (arith, x e, cost_and_left (guarded a) (not (nullable a) || guarded b) d)
      by (inr q) x y =
          let ha = honest inner hi a (left_true _ _ f) in
          cost_behind (guarded a) (nullable a) (guarded b) d (length ts) (length q.1) (λ n. shrinks_of a (read first_kinds inner a) n ha ts q.0 q.1 q.2)
          (no_longer (OfShape a) (read first_kinds inner a) ts q.0 q.1 (read first_kinds inner a ts) q.2 (ha ts))
          (y q.1 (got_spent (read first_kinds inner b q.1) (λ w last. (q.0, w)) q.3))
  cost_of (alt a b) f ts h = by (starts (firsts first_kinds a) (head ts)) h (cost_of a (left_true _ _ f) ts) (cost_of b (left_true _ _ (right_true (fine first_kinds more_of a) _ f)) ts)
    where
      by : (c : Bool) → (if c then read first_kinds inner a ts else read first_kinds inner b ts) ≡ spent → (read first_kinds inner a ts ≡ spent → cost (guarded a) d ≤ length ts) → (read first_kinds inner b ts ≡ spent → cost (guarded b) d ≤ length ts)
          → cost (guarded a && guarded b) d ≤ length ts
      by true e x y = omega (arith, x e, cost_and_left (guarded a) (guarded b) d)
      by false e x y = omega (arith, y e, cost_and_right (guarded a) (guarded b) d)
  cost_of (opt a) f ts h = by (starts (firsts first_kinds a) (head ts)) h (cost_of a (left_true _ _ f) ts)
    where
      by : (c : Bool) → (if c then (read first_kinds inner a ts >>= λ v rest. got (Some v) rest) else got None ts) ≡ spent → (read first_kinds inner a ts ≡ spent → cost (guarded a) d ≤ length ts) → cost (guarded a) d ≤ length ts
      by true e x = x (got_spent (read first_kinds inner a ts) (λ v rest. Some v) e)
      by false e x = cc
  cost_of (many a) f ts h =
      let ha = honest inner hi a (left_true _ _ f) in
      many_cost (firsts first_kinds a) (read first_kinds inner a) (cost (guarded a) d) (cost_of a (left_true _ _ f))
      (λ us v rest e. no_longer (OfShape a) (read first_kinds inner a) us v rest (read first_kinds inner a us) e (ha us)) (length ts) ts h
  cost_of (act k a) f ts h = cost_of a f ts (got_spent (read first_kinds inner a ts) (λ v rest. k v) h)
  cost_of (placed a) f ts h = cost_of a (left_true _ _ f) ts (got_spent (read first_kinds inner a ts) (λ v rest. (place ts, v)) h)

turns_cost : (d : ℕ) (r : Rule) (ts : List Token) → reads d r ts ≡ spent → d ≤ length ts
turns_cost zero r ts h = omega arith
turns_cost (suc d) r ts h = subst (λ b. cost b d ≤ length ts) (guarded_body r) (cost_of d (reads d) (rules_honest d) (turns_cost d) (body r) (fine_body r) ts h)

-- A rule as what its right side reads --------------------------------------------------------------------------

pub rule_never : (r : Rule) (ts : List Token) → rule_of r ts ≡ spent → ⊥
unfolding rule_of
rule_never r ts h = let l : suc (length ts) ≤ length ts = turns_cost (suc (length ts)) r ts h in omega arith

pub below_rule : (d : ℕ) (r : Rule) → Below (reads d r) (rule_of r)
unfolding rule_of
below_rule d r ts = by (below_left d (suc (length ts)) r ts) (below_right d (suc (length ts)) r ts)
  where
    by : (reads d r ts ≡ spent) ⊎ (reads d r ts ≡ reads (top d (suc (length ts))) r ts) → (reads (suc (length ts)) r ts ≡ spent) ⊎ (reads (suc (length ts)) r ts ≡ reads (top d (suc (length ts))) r ts)
        → (reads d r ts ≡ spent) ⊎ (reads d r ts ≡ reads (suc (length ts)) r ts)
    by (inl e) g = inl e
    by (inr e) (inl g) = let l : suc (length ts) ≤ length ts = turns_cost (suc (length ts)) r ts g in absurd (omega arith)
    by (inr e) (inr g) = inr (e ∙ sym g)

or_spent : {A : Type 0} (o p : Reading A) → (o ≡ spent) ⊎ (o ≡ p) → (o ≡ spent → ⊥) → o ≡ p
or_spent o p (inl e) n = absurd (n e)
or_spent o p (inr e) n = e

-- a rule reads what its right side reads
pub rule_is : (r : Rule) (ts : List Token) → rule_of r ts ≡ read first_kinds rule_of (body r) ts
unfolding rule_of
rule_is r ts = or_spent (reads (suc (length ts)) r ts) (read first_kinds rule_of (body r) ts) (below (reads (length ts)) rule_of (below_rule (length ts)) (body r) ts) (rule_never r ts)

fact_below : {A : Type 0} (P : A → List Token → Type 0) (R S : Reader A) → Below R S → (ts : List Token) (out : Reading A) → Fact P R ts out → Fact P S ts out
fact_below {A} P R S b ts (got v rest) h = record { front = h.front; split = h.split; is = h.is; local = λ x e. onto (got v x) (h.front ++ x) (h.local x e) (λ q. cc) }
  where
    onto : (o : Reading A) (us : List Token) → R us ≡ o → (o ≡ spent → ⊥) → S us ≡ o
    onto o us e n = sym (or_spent (R us) (S us) (b us) (λ q. n (sym e ∙ q))) ∙ e
fact_below {A} P R S b ts (stopped bad) h = record { front = h.front; split = h.split; local = λ x e. onto (stopped x) (h.front ++ x) (h.local x e) (λ q. cc); viable = h.viable }
  where
    onto : (o : Reading A) (us : List Token) → R us ≡ o → (o ≡ spent → ⊥) → S us ≡ o
    onto o us e n = sym (or_spent (R us) (S us) (b us) (λ q. n (sym e ∙ q))) ∙ e
fact_below P R S b ts spent h = tt

enough : (r : Rule) (ts : List Token) → reads (suc (length ts)) r ts ≡ rule_of r ts
unfolding rule_of
enough r ts = refl

pub rule_honest : (r : Rule) → Honest (AtSome r) (rule_of r)
rule_honest r ts =
    let n = suc (length ts) in
    subst (Fact (AtSome r) (rule_of r) ts) (enough r ts) (fact_below (AtSome r) (reads n r) (rule_of r) (below_rule n r) ts (reads n r ts) (rules_honest n r ts))

rules_complete : (d : ℕ) (r : Rule) (v : Meaning r) (us w : List Token) → Within d r v us → starts (more_of r) (head w) ≡ false → reads d r (us ++ w) ≡ got v w
rules_complete zero r v us w h f = absurd h
rules_complete (suc d) r v us w h f =
    complete (Within d) (full_at d) (first_at d) (reads d) (rules_honest d) (rules_complete d) (body r) (fine_body r) v us w h
    (starts_less (more first_kinds more_of (body r)) (more_of r) (head w) (λ k e. within_not (more first_kinds more_of (body r)) (more_of r) k (more_body r) e) f)

pub rule_complete : (r : Rule) (v : Meaning r) (us w : List Token) → AtSome r v us → starts (more_of r) (head w) ≡ false → rule_of r (us ++ w) ≡ got v w
rule_complete r v us w h f =
    let e = rules_complete h.0 r v us w h.1 f in
    sym (or_spent (reads h.0 r (us ++ w)) (rule_of r (us ++ w)) (below_rule h.0 r (us ++ w)) (λ q. let no : got v w ≡ spent = sym e ∙ q in cc)) ∙ e

-- reading always ends
pub never : {A : Type 0} (a : Shape A) → fine first_kinds more_of a ≡ true → (ts : List Token) → read first_kinds rule_of a ts ≡ spent → ⊥
never a f ts h =
    let d = suc (length ts) in
    let l = cost_of d rule_of rule_honest (λ r us e. absurd (rule_never r us e)) a f ts h in
    omega (arith, l, cost_least (guarded a) d)
