-- Summaries of pieces of a text: the uses of names in a piece, its size, where statements begin, and what holds of its ids.
-- Of pieces one behind the other the summary is that of each, joined.
use Rattle.std.proofs.Common.{◌≡◌, ℕ, ◌+◌, ◌≤◌, ◌<◌, List, [], ◌∷◌, ◌++◌, length, map, Bool, true, false, refl, sym, ap, subst, ◌∙◌, arith, append_assoc, length-append}
use Rattle.cov_expr.specs.declared.kind.Kind.{Kind}
use Rattle.cov_expr.specs.declared.kind.Kind.TheVariants as k
use Rattle.cov_grammar.specs.declared.token.Token.{Token}
use Rattle.cov_grammar.specs.LookAhead.{kind_is}
use Rattle.cov_grammar.proofs.Basics.{left_false}
use Rattle.cov_ast.specs.Ready.{Use, as_variable, as_lock}
use Rattle.cov_text.specs.Uses.{declares, is_lock}
use Rattle.cov_text.proofs.UseLaws.{uses_from, IsSilent, IsPlain, plain_silent, plain_no_thread, uses_at_sign, uses_at_variable, uses_at_declared, uses_at_lock}

-- Places -------------------------------------------------------------------------------------------------------

-- numbers from a first one on, each above those in front of it, below a last one
abbrev pub AreWithin : (low high : ℕ) → List ℕ → Type 0
AreWithin low high [] = low ≤ high
AreWithin low high (n ∷ ns) = (low ≤ n) × AreWithin (n + 1) high ns

abbrev pub places : List Token → List ℕ
places ts = map (λ t. t.at) ts

within_some : (low high : ℕ) (ns : List ℕ) → AreWithin low high ns → low ≤ high
within_some low high [] h = h
within_some low high (n ∷ ns) h = omega (arith, h.0, within_some (n + 1) high ns h.1)

within_lower : (low less high : ℕ) (ns : List ℕ) → less ≤ low → AreWithin low high ns → AreWithin less high ns
within_lower low less high [] l h = omega arith
within_lower low less high (n ∷ ns) l h = (omega (arith, h.0), h.1)

within_join : (low middle high : ℕ) (ms ns : List ℕ) → AreWithin low middle ms → AreWithin middle high ns → AreWithin low high (ms ++ ns)
within_join low middle high [] ns g h = within_lower middle low high ns g h
within_join low middle high (m ∷ ms) ns g h = (g.0, within_join (m + 1) middle high ms ns g.1 h)

-- the places of pieces are those of each
places_split : (low high : ℕ) (us vs : List Token) → AreWithin low high (places (us ++ vs)) → (middle : ℕ) × AreWithin low middle (places us) × AreWithin middle high (places vs)
places_split low high [] vs h = (low, omega arith, h)
places_split low high (u ∷ us) vs h =
    let x = places_split (u.at + 1) high us vs h.1 in
    (x.0, (h.0, x.1), x.2)

-- What tokens are ----------------------------------------------------------------------------------------------

-- names have numbers below a bound
abbrev pub AreBelow : ℕ → List Token → Type 0
AreBelow n [] = Unit {0}
AreBelow n (t ∷ ts) = (t.kind ≡ k.Name → t.value < n) × AreBelow n ts

-- Tokens as a text has them: their names are below a bound, and each is behind the one before.
pub record AreFine (n : ℕ) (ts : List Token) : Type 0 where
  pub names : AreBelow n ts
  pub low : ℕ
  pub high : ℕ
  pub order : AreWithin low high (places ts)

below_left : (n : ℕ) (us vs : List Token) → AreBelow n (us ++ vs) → AreBelow n us
below_left n [] vs h = tt
below_left n (u ∷ us) vs h = (h.0, below_left n us vs h.1)

below_right : (n : ℕ) (us vs : List Token) → AreBelow n (us ++ vs) → AreBelow n vs
below_right n [] vs h = h
below_right n (u ∷ us) vs h = below_right n us vs h.1

pub fine_left : (n : ℕ) (us vs ts : List Token) → ts ≡ us ++ vs → AreFine n ts → AreFine n us
fine_left n us vs ts e f =
    let x = places_split f.low f.high us vs (subst (λ ws. AreWithin f.low f.high (places ws)) e f.order) in
    record { names = below_left n us vs (subst (AreBelow n) e f.names); low = f.low; high = x.0; order = x.1 }

pub fine_right : (n : ℕ) (us vs ts : List Token) → ts ≡ us ++ vs → AreFine n ts → AreFine n vs
fine_right n us vs ts e f =
    let x = places_split f.low f.high us vs (subst (λ ws. AreWithin f.low f.high (places ws)) e f.order) in
    record { names = below_right n us vs (subst (AreBelow n) e f.names); low = x.0; high = f.high; order = x.2 }

-- Summaries ---------------------------------------------------------------------------------------------------

-- uses of names, how much there is, places of statements, and a fact of ids
pub record Summary : Type 1 where
  pub uses : List Use
  pub size : ℕ
  pub places : List ℕ
  pub ids : Type 0

abbrev pub nothing : Summary
nothing = record { uses = []; size = 0; places = []; ids = Unit {0} }

abbrev pub join : Summary → Summary → Summary
join m n = record { uses = m.uses ++ n.uses; size = m.size + n.size; places = m.places ++ n.places; ids = m.ids × n.ids }

-- with a keyword or a sign
abbrev pub more : Summary → Summary
more m = record { uses = m.uses; size = m.size + 1; places = m.places; ids = m.ids }

-- the same behind a place
abbrev pub at : ℕ → Summary → Summary
at place m = record { uses = m.uses; size = m.size; places = place ∷ m.places; ids = m.ids }

-- The second is a summary where the first is.
pub record Kept (m n : Summary) : Type 0 where
  pub uses : m.uses ≡ n.uses
  pub size : n.size ≤ m.size
  pub places : m.places ≡ n.places
  pub ids : n.ids

-- Tokens have a summary, in a thread or in front of all, behind a token of some kinds. A name behind them is that of a
-- variable.
pub record HasSummary (in_thread : Bool) (From : Kind → Type 0) (m : Summary) (ts : List Token) : Type 0 where
  pub uses : (before : Kind) → From before → (rest : List Token) → (last : Kind) × IsSilent last × (uses_from in_thread before (ts ++ rest) ≡ m.uses ++ uses_from in_thread last rest)
  pub size : m.size ≤ length ts
  pub places : (low high : ℕ) → AreWithin low high (places ts) → AreWithin low high m.places
  pub ids : m.ids

module _ (b : Bool) where
  pub summary_nothing : HasSummary b IsSilent nothing []
  summary_nothing = record { uses = λ before s rest. (before, s, refl); size = omega arith; places = λ low high h. h; ids = tt }

  pub summary_kept : (From : Kind → Type 0) (m n : Summary) (ts : List Token) → HasSummary b From m ts → Kept m n → HasSummary b From n ts
  summary_kept From m n ts h e = record {
    uses = λ before s rest. let x = h.uses before s rest in (x.0, x.1, x.2 ∙ ap (λ us. us ++ uses_from b x.0 rest) e.uses);
    size = omega (arith, h.size, e.size);
    places = λ low high w. subst (AreWithin low high) e.places (h.places low high w);
    ids = e.ids;
  }

  pub summary_join : (From : Kind → Type 0) (m n : Summary) (us vs : List Token) → HasSummary b From m us → HasSummary b IsSilent n vs → HasSummary b From (join m n) (us ++ vs)
  summary_join From m n us vs g h = record {
    uses =
        λ before s rest. let x = g.uses before s (vs ++ rest) in
        let y = h.uses x.0 x.1 rest in
        (y.0, y.1, ap (uses_from b before) (append_assoc us vs rest) ∙ x.2 ∙ ap (λ l. m.uses ++ l) y.2 ∙ sym (append_assoc m.uses n.uses (uses_from b y.0 rest)));
    size = omega (arith, g.size, h.size, length-append us vs);
    places = λ low high w. let x = places_split low high us vs w in within_join low x.0 high m.places n.places (g.places low x.0 x.1) (h.places x.0 high x.2);
    ids = (g.ids, h.ids);
  }

  -- a token that is no name and begins no thread, in front
  pub summary_behind : (S From : Kind → Type 0) (m : Summary) (t : Token) (us : List Token) → kind_is k.Name t.kind ≡ false → kind_is k.Thread t.kind ≡ false → From t.kind → HasSummary b From m us → HasSummary b S (more m) (t ∷ us)
  summary_behind S From m t us n h f g = record {
    uses = λ before s rest. let x = g.uses t.kind f rest in (x.0, x.1, uses_at_sign b before t (us ++ rest) n h ∙ x.2);
    size = omega (arith, g.size);
    places = λ low high w. within_lower (t.at + 1) low high m.places (omega (arith, w.0)) (g.places (t.at + 1) high w.1);
    ids = g.ids;
  }

  -- the same, where its place counts
  pub summary_first : (S From : Kind → Type 0) (m : Summary) (t : Token) (us : List Token) → kind_is k.Name t.kind ≡ false → kind_is k.Thread t.kind ≡ false → From t.kind → HasSummary b From m us
      → HasSummary b S (at t.at (more m)) (t ∷ us)
  summary_first S From m t us n h f g = record {
    uses = λ before s rest. let x = g.uses t.kind f rest in (x.0, x.1, uses_at_sign b before t (us ++ rest) n h ∙ x.2);
    size = omega (arith, g.size);
    places = λ low high w. (w.0, g.places (t.at + 1) high w.1);
    ids = g.ids;
  }

  -- a plain token at the end
  pub summary_closed : (From : Kind → Type 0) (m : Summary) (us : List Token) (t : Token) → IsPlain t.kind → HasSummary b From m us → HasSummary b From (more m) (us ++ t ∷ [])
  summary_closed From m us t p g = record {
    uses =
        λ before s rest. let x = g.uses before s (t ∷ rest) in (
          t.kind,
          plain_silent t.kind p,
          ap (uses_from b before) (append_assoc us (t ∷ []) rest) ∙ x.2
              ∙ ap (λ l. m.uses ++ l) (uses_at_sign b x.0 t rest (left_false (kind_is k.Name t.kind) _ p) (plain_no_thread t.kind p)),
        );
    size = omega (arith, g.size, length-append us (t ∷ []));
    places = λ low high w. let x = places_split low high us (t ∷ []) w in
        let y = within_some x.0 high (t.at ∷ []) x.2 in
        within_higher low x.0 high m.places y (g.places low x.0 x.1);
    ids = g.ids;
  }
    where
      within_higher : (low less high : ℕ) (ns : List ℕ) → less ≤ high → AreWithin low less ns → AreWithin low high ns
      within_higher low less high [] l h = omega arith
      within_higher low less high (n ∷ ns) l h = (h.0, within_higher (n + 1) less high ns l h.1)

  -- tokens of which no places count but that of the first
  pub summary_single : (From : Kind → Type 0) (m : Summary) (t : Token) (us : List Token) → m.places ≡ [] → HasSummary b From m (t ∷ us) → HasSummary b From (at t.at m) (t ∷ us)
  summary_single From m t us none g = record {
    uses = g.uses;
    size = g.size;
    places = λ low high w. (w.0, subst (AreWithin (t.at + 1) high) (sym none) (within_some (t.at + 1) high (places us) w.1));
    ids = g.ids;
  }

-- Names --------------------------------------------------------------------------------------------------------

abbrev pub variable : ℕ → ℕ → Summary
variable n x = record { uses = as_variable x; size = 1; places = []; ids = x < n }

abbrev pub lock : ℕ → ℕ → Summary
lock n l = record { uses = as_lock l; size = 1; places = []; ids = l < n }

abbrev pub declared : ℕ → ℕ → Summary
declared n x = record { uses = []; size = 1; places = []; ids = x < n }

module _ (b : Bool) (n : ℕ) (t : Token) (is : t.kind ≡ k.Name) (fine : AreFine n (t ∷ [])) where
  silent : IsSilent k.Name
  unfolding kind_is
  silent = refl

  one : (low high : ℕ) → AreWithin low high (t.at ∷ []) → low ≤ high
  one low high w = within_some low high (t.at ∷ []) w

  pub summary_variable : HasSummary b IsSilent (variable n t.value) (t ∷ [])
  summary_variable = record { uses = λ before s rest. (k.Name, silent, uses_at_variable b before t rest s is); size = omega arith; places = one; ids = fine.names.0 is }

  pub summary_declared : HasSummary b (λ j. declares b j ≡ true) (declared n t.value) (t ∷ [])
  summary_declared = record { uses = λ before s rest. (k.Name, silent, uses_at_declared b before t rest s is); size = omega arith; places = one; ids = fine.names.0 is }

  pub summary_lock : HasSummary b (λ j. (declares b j ≡ false) × (is_lock j ≡ true)) (lock n t.value) (t ∷ [])
  summary_lock = record { uses = λ before s rest. (k.Name, silent, uses_at_lock b before t rest s.0 s.1 is); size = omega arith; places = one; ids = fine.names.0 is }
