-- In the expressions of a text stands no token behind which a name would be that of a level, or would be declared. So their names are
-- those of the variables of the expression.
use Rattle.std.proofs.Common.{◌≡◌, ℕ, zero, suc, ◌≤◌, ◌<◌, List, [], ◌∷◌, ◌++◌, map, Bool, true, false, not, ◌&&◌, ◌||◌, if◌then◌else◌, Some, None, refl, sym, ap, subst, ◌∙◌, inl, inr, arith, append-nil, cond, ◌==◌}
use Rattle.std.proofs.lemmas.List.{map-append}
use Rattle.std.proofs.lemmas.Bool.{ne_eqb}
use Rattle.cov_expr.specs.Term.{Term, const, var, neg, bin}
use Rattle.cov_expr.specs.Words.{HasVarsBelow}
use Rattle.cov_expr.specs.declared.expr.TheConstants.{HOLE}
use Rattle.cov_expr.specs.declared.kind.Kind.{Kind}
use Rattle.cov_expr.specs.declared.kind.Kind.TheVariants as k
use Rattle.cov_expr.proofs.Tests.{left_true, right_true}
use Rattle.cov_grammar.specs.declared.token.Token.{Token}
use Rattle.cov_grammar.specs.LookAhead.{kind_is, has}
use Rattle.cov_grammar.specs.PlacedTrees.{Rule, Meaning, expr, template, cert, block, Named}
use Rattle.cov_grammar.specs.Shapes.{Shape, token, rule, seq, alt, opt, many, act, placed, Each, Sense, Spells}
use Rattle.cov_grammar.specs.Spells.{Within}
use Rattle.cov_grammar.specs.Grammar.{atom, unary, prod, sum, band, bxor, bor, cmp, both, either, body}
use Rattle.cov_ast.specs.Ready.{Use, uses_in}
use Rattle.cov_ast.specs.Ready as ready
use Rattle.cov_ast.specs.declared.parsed.NameUse.{NameUse}
use Rattle.cov_text.specs.Uses.{declares, is_lock, uses_behind}
use Rattle.cov_text.proofs.UseLaws.{uses_from, IsSilent}
use Rattle.cov_text.proofs.Summaries.{AreFine}
use Rattle.cov_text.proofs.StmtSummaries.{rule_summaries}
use Rattle.cov_text.proofs.TermSummaries.{used as term_used}
use Rattle.policy_class.specs.Resolved.{resolved_term}
use Rattle.level_text.specs.TextFaults.{is_level_behind, variables_behind}

abbrev loud : List Kind
loud = k.Level ∷ k.Colon ∷ k.Comma ∷ k.Else ∷ k.Var ∷ k.Thread ∷ k.Lock ∷ []

abbrev is_expr : Rule → Bool
is_expr expr = true
is_expr template = false
is_expr cert = false
is_expr block = false

-- whether no token of a right side is loud, where the same is known of expressions
abbrev calm : {A : Type 0} → Shape A → Bool
calm (token j) = not (has loud j)
calm (rule r) = is_expr r
calm (seq a b) = calm a && calm b
calm (alt a b) = calm a && calm b
calm (opt a) = calm a
calm (many a) = calm a
calm (act f a) = calm a
calm (placed a) = calm a

abbrev pub AreCalm : List Token → Type 0
AreCalm [] = Unit {0}
AreCalm (t ∷ ts) = (has loud t.kind ≡ false) × AreCalm ts

calm_append : (us vs : List Token) → AreCalm us → AreCalm vs → AreCalm (us ++ vs)
calm_append [] vs h g = g
calm_append (u ∷ us) vs h g = (h.0, calm_append us vs h.1 g)

calm_split : (us vs ts : List Token) → ts ≡ us ++ vs → AreCalm us → AreCalm vs → AreCalm ts
calm_split us vs ts e h g = subst AreCalm (sym e) (calm_append us vs h g)

not_true : (b : Bool) → not b ≡ true → b ≡ false
not_true true h = cc
not_true false h = refl

module _ (inside : Sense) (known : (v : Term) (ts : List Token) → inside expr v ts → AreCalm ts) where
  each_calm : {A : Type 0} (P : A → List Token → Type 0) → ((v : A) (ts : List Token) → P v ts → AreCalm ts) → (vs : List A) (ts : List Token) → Each P vs ts → AreCalm ts
  each_calm P f [] ts h = subst AreCalm (sym h) tt
  each_calm P f (v ∷ vs) ts h = calm_split h.0 h.1 ts h.4 (f v h.0 h.2) (each_calm P f vs h.1 h.3)

  rule_calm : (r : Rule) → is_expr r ≡ true → (v : Meaning r) (ts : List Token) → inside r v ts → AreCalm ts
  rule_calm expr c v ts h = known v ts h
  rule_calm template c v ts h = cc
  rule_calm cert c v ts h = cc
  rule_calm block c v ts h = cc

  shape_calm : {A : Type 0} (a : Shape A) → calm a ≡ true → (v : A) (ts : List Token) → Spells inside a v ts → AreCalm ts
  shape_calm (token j) c v ts h = subst AreCalm (sym h.1) (ap (has loud) h.0 ∙ not_true (has loud j) c, tt)
  shape_calm (rule r) c v ts h = rule_calm r c v ts h
  shape_calm (seq a b) c v ts h = calm_split h.0 h.1 ts h.4 (shape_calm a (left_true (calm a) (calm b) c) v.0 h.0 h.2) (shape_calm b (right_true (calm a) (calm b) c) v.1 h.1 h.3)
  shape_calm (alt a b) c v ts (inl h) = shape_calm a (left_true (calm a) (calm b) c) v ts h
  shape_calm (alt a b) c v ts (inr h) = shape_calm b (right_true (calm a) (calm b) c) v ts h
  shape_calm (opt a) c None ts h = subst AreCalm (sym h) tt
  shape_calm (opt a) c (Some v) ts h = shape_calm a c v ts h
  shape_calm (many a) c vs ts h = each_calm (Spells inside a) (shape_calm a c) vs ts h
  shape_calm (act f a) c v ts h = shape_calm a c h.0 ts h.2
  shape_calm (placed a) c v ts h = shape_calm a c v.1 ts h.1

pub expr_calm : (d : ℕ) (v : Term) (ts : List Token) → Within d expr v ts → AreCalm ts
unfolding kind_is atom unary prod sum band bxor bor cmp both either body
expr_calm zero v ts h = absurd h
expr_calm (suc d) v ts h = shape_calm (Within d) (expr_calm d) (body expr) refl v ts h

-- Names of calm tokens ----------------------------------------------------------------------------------------------

no_level : (a b c d e f g : Bool) → (a || (b || (c || (d || (e || (f || (g || false))))))) ≡ false → (a || (b || (c || (d || false)))) ≡ false
no_level true b c d e f g x = cc
no_level false true c d e f g x = cc
no_level false false true d e f g x = cc
no_level false false false true e f g x = cc
no_level false false false false e f g x = refl

no_declared : (a b c d e f g : Bool) → (a || (b || (c || (d || (e || (f || (g || false))))))) ≡ false → ((e || f) || g) ≡ false
no_declared true b c d e f g x = cc
no_declared false true c d e f g x = cc
no_declared false false true d e f g x = cc
no_declared false false false true e f g x = cc
no_declared false false false false true f g x = cc
no_declared false false false false false true g x = cc
no_declared false false false false false false true x = cc
no_declared false false false false false false false x = refl

no_thread : (a b c d e f g : Bool) → (a || (b || (c || (d || (e || (f || (g || false))))))) ≡ false → f ≡ false
no_thread true b c d e f g x = cc
no_thread false true c d e f g x = cc
no_thread false false true d e f g x = cc
no_thread false false false true e f g x = cc
no_thread false false false false true f g x = cc
no_thread false false false false false true g x = cc
no_thread false false false false false false g x = refl

module _ (j : Kind) (h : has loud j ≡ false) where
  calm_level : is_level_behind j ≡ false
  calm_level = no_level (kind_is k.Level j) (kind_is k.Colon j) (kind_is k.Comma j) (kind_is k.Else j) (kind_is k.Var j) (kind_is k.Thread j) (kind_is k.Lock j) h

  calm_declares : declares false j ≡ false
  calm_declares = no_declared (kind_is k.Level j) (kind_is k.Colon j) (kind_is k.Comma j) (kind_is k.Else j) (kind_is k.Var j) (kind_is k.Thread j) (kind_is k.Lock j) h

  calm_thread : kind_is k.Thread j ≡ false
  calm_thread = no_thread (kind_is k.Level j) (kind_is k.Colon j) (kind_is k.Comma j) (kind_is k.Else j) (kind_is k.Var j) (kind_is k.Thread j) (kind_is k.Lock j) h

abbrev pub numbers : List Named → List ℕ
numbers xs = map (λ x. x.0) xs

abbrev used : List NameUse → List ℕ
used us = map (λ u. u.name) (map ready.use_of us)

one_more : (t : Token) (lock n l d : Bool) → l ≡ false → d ≡ false → (xs : List Named) (us : List NameUse) → numbers xs ≡ used us
    → numbers ((if n && not l then (t.value, t.at) ∷ [] else []) ++ xs) ≡ used ((if n then (if d then [] else record { name = t.value; lock = lock; at = t.at } ∷ []) else []) ++ us)
one_more t lock n true d e f xs us h = cc
one_more t lock n false true e f xs us h = cc
one_more t lock true false false e f xs us h = ap (λ ys. t.value ∷ ys) h
one_more t lock false false false e f xs us h = h

-- both walks over calm tokens come by the same names
calm_names : (before : Kind) → has loud before ≡ false → (ts : List Token) → AreCalm ts → numbers (variables_behind before ts) ≡ used (uses_behind false before ts)
calm_names before h [] calm = refl
calm_names before h (t ∷ ts) calm =
    one_more t (is_lock before) (kind_is k.Name t.kind) (is_level_behind before) (declares false before) (calm_level before h) (calm_declares before h)
    (variables_behind t.kind ts) (uses_behind (false || kind_is k.Thread t.kind) t.kind ts)
    (calm_names t.kind calm.0 ts calm.1 ∙ ap (λ b. used (uses_behind (false || b) t.kind ts)) (sym (calm_thread t.kind calm.0)))

-- Expressions --------------------------------------------------------------------------------------------------------

when_calm : has loud k.When ≡ false
unfolding kind_is
when_calm = refl

when_silent : IsSilent k.When
unfolding kind_is
when_silent = refl

-- the names of an expression behind `when` are those of its variables
pub expr_names : (n : ℕ) → n ≤ HOLE → (d : ℕ) (e : Term) (es : List Token) → AreFine n es → Within d expr e es
    → numbers (variables_behind k.When es) ≡ map (λ u. u.name) (uses_in e)
expr_names n few d e es fine spelled =
    let x = ((rule_summaries n few false d).expr.of e es fine spelled).uses k.When when_silent [] in
    calm_names k.When when_calm es (expr_calm d e es spelled)
    ∙ ap (map (λ (u : Use). u.name)) (ap (uses_from false k.When) (sym (append-nil es)) ∙ x.2 ∙ append-nil (uses_in e))

-- What holds of each name holds of each variable ---------------------------------------------------------------------

abbrev pub Every : (ℕ → Type 0) → List ℕ → Type 0
Every P [] = Unit {0}
Every P (x ∷ xs) = P x × Every P xs

pub every_parts : (P : ℕ → Type 0) (xs ys : List ℕ) → Every P (xs ++ ys) → Every P xs × Every P ys
every_parts P [] ys h = (tt, h)
every_parts P (x ∷ xs) ys h = let r = every_parts P xs ys h.1 in ((h.0, r.0), r.1)

module _ (n m : ℕ) (few : n ≤ HOLE) (f : ℕ → ℕ) (P : ℕ → Type 0) (given : (x : ℕ) → P x → f x < m) where
  -- ids of the variables are below a bound
  pub ids_below : (e : Term) → HasVarsBelow e n → Every P (map (λ u. u.name) (uses_in e)) → HasVarsBelow (resolved_term f f e) m
  ids_below (const c) h u = tt
  ids_below (var x) h u =
      let no : (x == HOLE) ≡ false = ne_eqb x HOLE (λ e. omega (arith, e, few, h)) in
      let one : P x = (subst (λ us. Every P (map (λ (u : Use). u.name) us)) (term_used n x few h) u).0 in
      subst (λ b. cond b x (f x) < m) (sym no) (given x one)
  ids_below (neg e) h u = ids_below e h u
  ids_below (bin op a b) h u =
      let parts = every_parts P (map (λ u. u.name) (uses_in a)) (map (λ u. u.name) (uses_in b)) (subst (Every P) (map-append (λ (u : Use). u.name) (uses_in a) (uses_in b)) u) in
      (ids_below a h.0 parts.0, ids_below b h.1 parts.1)
