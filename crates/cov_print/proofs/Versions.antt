-- The tokens of the canonical spelling are those of its version, each as it is written.
use Rattle.std.proofs.Common.{◌≡◌, ℕ, List, [], ◌∷◌, ◌++◌, map, flat_map, Bool, true, false, ◌||◌, if◌then◌else◌, ◌⊎◌, inl, inr, refl, sym, ap, subst, ◌∙◌}
use Rattle.std.proofs.lemmas.Bool.{and_parts}
use Rattle.cov_expr.specs.declared.kind.Kind.TheVariants as k
use Rattle.cov_grammar.specs.declared.token.Token.{Token}
use Rattle.cov_grammar.specs.PlacedTrees as t
use Rattle.cov_grammar.specs.Shapes.{head}
use Rattle.cov_grammar.specs.LookAhead.{kind_is, starts}
use Rattle.cov_grammar.proofs.Basics.{kind_one}
use Rattle.cov_text.specs.Versioned.{foreign, of_first, is_other_number, behind_version, versioned}
use Rattle.cov_text.proofs.SilentLaws.{HasNoOutput}
use Rattle.cov_text.proofs.VersionLaws.{unnamed_same, named_same}
use Rattle.cov_print.proofs.Written as w
use Rattle.cov_print.proofs.Written.{Word, plain}
use Rattle.cov_print.proofs.Keeps.{IsAt, Are, leaf, leaves, HaveNoOutput, IsSilent, IsGood, AreGood}
use Rattle.cov_print.proofs.Declarations.{var_words, lock_words, thread_words, declaration_words}

-- What was read ------------------------------------------------------------------------------------------------

module _ (known : ℕ → Bool) where
  good_made : (b : Bool) (t : Token) → IsGood known t → IsGood known (if b then foreign t else t)
  good_made true t h = record { named = λ e. cc; small = λ e. cc }
  good_made false t h = h

  good_first : (ts : List Token) → AreGood known ts → AreGood known (map of_first ts)
  good_first [] h = tt
  good_first (t ∷ ts) h = (good_made (kind_is k.Output t.kind) t h.0, good_first ts h.1)

  good_behind : (ts : List Token) → AreGood known ts → AreGood known (behind_version ts)
  good_behind [] h = tt
  good_behind (t ∷ ts) h = (good_made (is_other_number t) t h.0, h.1)

  pub versioned_good : (ts : List Token) → AreGood known ts → AreGood known (versioned ts)
  versioned_good [] h = tt
  versioned_good (t ∷ ts) h = by (kind_is k.Version t.kind)
    where
      by : (b : Bool) → AreGood known (if b then t ∷ behind_version ts else map of_first (t ∷ ts))
      by true = (h.0, good_behind ts h.1)
      by false = good_first (t ∷ ts) h

abbrev leaf_at : Token → List ℕ
leaf_at t = leaf t.kind t.value

leaf_first : (t : Token) → leaf_at (of_first t) ≡ leaf_at t
leaf_first t = by (kind_is k.Output t.kind) refl
  where
    by : (b : Bool) → kind_is k.Output t.kind ≡ b → leaf_at (if b then foreign t else t) ≡ leaf_at t
    by true e = ap (λ j. leaf j t.value) (kind_one k.Output t.kind e)
    by false e = refl

leaf_behind : (t : Token) → leaf_at (if is_other_number t then foreign t else t) ≡ leaf_at t
leaf_behind t = by (is_other_number t) refl
  where
    by : (b : Bool) → is_other_number t ≡ b → leaf_at (if b then foreign t else t) ≡ leaf_at t
    by true e = ap (λ j. leaf j t.value) (kind_one k.Number t.kind (and_parts (kind_is k.Number t.kind) _ e).0)
    by false e = refl

leaves_first : (ts : List Token) → leaves (map of_first ts) ≡ leaves ts
leaves_first [] = refl
leaves_first (t ∷ ts) = ap (λ l. l ++ leaves (map of_first ts)) (leaf_first t) ∙ ap (λ l. leaf_at t ++ l) (leaves_first ts)

leaves_behind : (ts : List Token) → leaves (behind_version ts) ≡ leaves ts
leaves_behind [] = refl
leaves_behind (t ∷ ts) = ap (λ l. l ++ leaves ts) (leaf_behind t)

-- the names of a text are those of its words
pub versioned_leaves : (ts : List Token) → leaves (versioned ts) ≡ leaves ts
versioned_leaves [] = refl
versioned_leaves (t ∷ ts) = by (kind_is k.Version t.kind)
  where
    by : (b : Bool) → leaves (if b then t ∷ behind_version ts else map of_first (t ∷ ts)) ≡ leaves (t ∷ ts)
    by true = ap (λ l. leaf_at t ++ l) (leaves_behind ts)
    by false = leaves_first (t ∷ ts)

-- What is written ----------------------------------------------------------------------------------------------

silent_at : (v : Word) (t : Token) → IsAt v t → IsSilent v → t.kind ≡ k.Output → ⊥
silent_at (w.plain j) t is h e = h (sym is ∙ e)
silent_at (w.name x) t is h e = let no : k.Name ≡ k.Output = sym is.0 ∙ e in cc
silent_at (w.hole x) t is h e = let no : k.Hole ≡ k.Output = sym is ∙ e in cc
silent_at (w.number n) t is h e = let no : k.Number ≡ k.Output = sym is.0 ∙ e in cc

silent_tokens : (ws : List Word) (ts : List Token) → Are ws ts → HaveNoOutput ws → HasNoOutput ts
silent_tokens [] ts are h = subst HasNoOutput (sym are) tt
silent_tokens (v ∷ vs) ts are h = subst HasNoOutput (sym are.4) (silent_at v are.0 are.2 h.0, silent_tokens vs are.1 are.3 h.1)

-- the first word isn't `version`
abbrev BeginsOther : List Word → Type 0
BeginsOther [] = Unit {0}
BeginsOther (w.plain j ∷ vs) = kind_is k.Version j ≡ false
BeginsOther (w.name x ∷ vs) = ⊥
BeginsOther (w.hole x ∷ vs) = ⊥
BeginsOther (w.number n ∷ vs) = ⊥

other_tokens : (ws : List Word) (ts : List Token) → Are ws ts → BeginsOther ws → starts (k.Version ∷ []) (head ts) ≡ false
other_tokens [] ts are h = ap (λ us. starts (k.Version ∷ []) (head us)) are
other_tokens (w.plain j ∷ vs) ts are h =
    ap (λ us. starts (k.Version ∷ []) (head us)) are.4 ∙ ap (λ i. kind_is k.Version i || false) are.2 ∙ ap (λ b. b || false) h
other_tokens (w.name x ∷ vs) ts are h = absurd h
other_tokens (w.hole x ∷ vs) ts are h = absurd h
other_tokens (w.number n ∷ vs) ts are h = absurd h

module _ (known : ℕ → Bool) where
  threads_begin : (hs : List t.Thread) → BeginsOther (flat_map (thread_words known) hs)
  unfolding kind_is
  threads_begin [] = tt
  threads_begin (h ∷ hs) = refl

  locks_begin : (ls : List t.Lock) (hs : List t.Thread) → BeginsOther (flat_map (lock_words known) ls ++ flat_map (thread_words known) hs)
  unfolding kind_is
  locks_begin [] hs = threads_begin hs
  locks_begin (l ∷ ls) hs = refl

  declarations_begin : (vs : List t.Var) (ls : List t.Lock) (hs : List t.Thread) → BeginsOther (flat_map (var_words known) vs ++ (flat_map (lock_words known) ls ++ flat_map (thread_words known) hs))
  unfolding kind_is
  declarations_begin [] ls hs = locks_begin ls hs
  declarations_begin (v ∷ vs) ls hs = refl

  first_written : (v : ℕ) (p : t.Program) (ts : List Token) → v ≡ 1 → HaveNoOutput (w.version v ++ declaration_words known p) → Are (w.version v ++ declaration_words known p) ts → versioned ts ≡ ts
  first_written v p ts e h are =
      let i = subst (λ n. HaveNoOutput (w.version n ++ declaration_words known p)) e h in
      let g = subst (λ n. Are (w.version n ++ declaration_words known p) ts) e are in
      unnamed_same ts (other_tokens (declaration_words known p) ts g (declarations_begin p.vars p.locks p.threads)) (silent_tokens (declaration_words known p) ts g i)

  pub second_written : (v : ℕ) (p : t.Program) (ts : List Token) → v ≡ 2 → Are (w.version v ++ declaration_words known p) ts → versioned ts ≡ ts
  second_written v p ts e are =
      let g = subst (λ n. Are (w.version n ++ declaration_words known p) ts) e are in
      let n = g.3 in
      let is : ts ≡ g.0 ∷ n.0 ∷ n.1 = g.4 ∙ ap (λ l. g.0 ∷ l) n.4 in
      ap versioned is ∙ named_same g.0 n.0 n.1 g.2 n.2.1 ∙ sym is

  -- tokens that are those of the words of a program
  pub written_same : (p : t.Program) (ts : List Token) → (p.version ≡ 1) ⊎ (p.version ≡ 2) → (p.version ≡ 1 → HaveNoOutput (w.version p.version ++ declaration_words known p)) → Are (w.version p.version ++ declaration_words known p) ts
      → versioned ts ≡ ts
  written_same p ts (inl e) h are = first_written p.version p ts e (h e) are
  written_same p ts (inr e) h are = second_written p.version p ts e are
