-- What is spelled is spelled by the canonical tokens too: from right sides to their parts.
use Rattle.std.proofs.Common.{◌≡◌, ℕ, ◌≤◌, List, [], ◌∷◌, ◌++◌, Bool, true, false, Option, Some, None, map, option_map, flat_map, refl, sym, ap, subst, ◌∙◌, append_assoc, inl, inr}
use Rattle.cov_expr.specs.declared.expr.TheConstants.{HOLE}
use Rattle.cov_expr.specs.declared.kind.Kind.{Kind}
use Rattle.cov_expr.specs.declared.kind.Kind.TheVariants as k
use Rattle.cov_grammar.specs.declared.token.Token.{Token}
use Rattle.cov_grammar.specs.Shapes.{Shape, token, seq, alt, opt, many, act, placed, Each, Sense, Spells, place}
use Rattle.cov_grammar.specs.Grammar.{◌▸◌, ◌◂◌, separated, listed, none_or, sign, name, named, number}
use Rattle.cov_grammar.proofs.Senses.{OfShape}
use Rattle.cov_text.proofs.SilentLaws.{HasNoOutput, silent_left, silent_right}
use Rattle.cov_print.proofs.Written as w
use Rattle.cov_print.proofs.Written.{Word, plain, commas}

-- Tokens of words ----------------------------------------------------------------------------------------------

abbrev pub IsAt : Word → Token → Type 0
IsAt (w.plain j) t = t.kind ≡ j
IsAt (w.name x) t = (t.kind ≡ k.Name) × (t.value ≡ x)
IsAt (w.hole x) t = t.kind ≡ k.Hole
IsAt (w.number n) t = (t.kind ≡ k.Number) × (t.value ≡ n)

-- The tokens are those of the words, at any places.
abbrev pub Are : List Word → List Token → Type 0
Are [] ts = ts ≡ []
Are (v ∷ vs) ts = (t : Token) × (us : List Token) × IsAt v t × Are vs us × (ts ≡ t ∷ us)

pub are_split : (vs ws : List Word) (ts : List Token) → Are (vs ++ ws) ts → (us : List Token) × (rs : List Token) × Are vs us × Are ws rs × (ts ≡ us ++ rs)
are_split [] ws ts h = ([], ts, refl, h, refl)
are_split (v ∷ vs) ws ts h =
    let r = are_split vs ws h.1 h.3 in (h.0 ∷ r.0, r.1, (h.0, r.0, h.2, r.2, refl), r.3, h.4 ∙ ap (λ us. h.0 ∷ us) r.4)

-- the numbers of names and holes, in order
abbrev pub leaf : Kind → ℕ → List ℕ
leaf k.Name v = v ∷ []
leaf k.Hole v = HOLE ∷ []
leaf _ v = []

abbrev pub leaves : List Token → List ℕ
leaves [] = []
leaves (t ∷ ts) = leaf t.kind t.value ++ leaves ts

abbrev pub leaf_of : Word → List ℕ
leaf_of (w.plain j) = []
leaf_of (w.name x) = x ∷ []
leaf_of (w.hole x) = x ∷ []
leaf_of (w.number n) = []

abbrev pub leaves_of : List Word → List ℕ
leaves_of [] = []
leaves_of (v ∷ vs) = leaf_of v ++ leaves_of vs

pub leaves_append : (us vs : List Token) → leaves (us ++ vs) ≡ leaves us ++ leaves vs
leaves_append [] vs = refl
leaves_append (u ∷ us) vs = ap (λ x. leaf u.kind u.value ++ x) (leaves_append us vs) ∙ sym (append_assoc (leaf u.kind u.value) (leaves us) (leaves vs))

pub leaves_of_append : (us vs : List Word) → leaves_of (us ++ vs) ≡ leaves_of us ++ leaves_of vs
leaves_of_append [] vs = refl
leaves_of_append (u ∷ us) vs = ap (λ x. leaf_of u ++ x) (leaves_of_append us vs) ∙ sym (append_assoc (leaf_of u) (leaves_of us) (leaves_of vs))

-- no word is `output`
abbrev pub IsSilent : Word → Type 0
IsSilent (w.plain j) = j ≡ k.Output → ⊥
IsSilent (w.name x) = Unit {0}
IsSilent (w.hole x) = Unit {0}
IsSilent (w.number n) = Unit {0}

abbrev pub HaveNoOutput : List Word → Type 0
HaveNoOutput [] = Unit {0}
HaveNoOutput (v ∷ vs) = IsSilent v × HaveNoOutput vs

pub silent_append : (us vs : List Word) → HaveNoOutput us → HaveNoOutput vs → HaveNoOutput (us ++ vs)
silent_append [] vs h g = g
silent_append (u ∷ us) vs h g = (h.0, silent_append us vs h.1 g)

-- no name and no hole
abbrev pub Quiet : Kind → Type 0
Quiet j = (v : ℕ) → leaf j v ≡ []

module _ (known : ℕ → Bool) where
  -- A name has a number that is known, and a number is a word.
  pub record IsGood (t : Token) : Type 0 where
    pub named : t.kind ≡ k.Name → known t.value ≡ true
    pub small : t.kind ≡ k.Number → t.value ≤ 4294967295

  abbrev pub AreGood : List Token → Type 0
  AreGood [] = Unit {0}
  AreGood (t ∷ ts) = IsGood t × AreGood ts

  abbrev pub Fits : Word → Type 0
  Fits (w.plain j) = Unit {0}
  Fits (w.name x) = known x ≡ true
  Fits (w.hole x) = known x ≡ false
  Fits (w.number n) = n ≤ 4294967295

  abbrev pub AllFit : List Word → Type 0
  AllFit [] = Unit {0}
  AllFit (v ∷ vs) = Fits v × AllFit vs

  pub good_left : (us vs : List Token) → AreGood (us ++ vs) → AreGood us
  good_left [] vs h = tt
  good_left (u ∷ us) vs h = (h.0, good_left us vs h.1)

  pub good_right : (us vs : List Token) → AreGood (us ++ vs) → AreGood vs
  good_right [] vs h = h
  good_right (u ∷ us) vs h = good_right us vs h.1

  pub fit_append : (us vs : List Word) → AllFit us → AllFit vs → AllFit (us ++ vs)
  fit_append [] vs h g = g
  fit_append (u ∷ us) vs h g = (h.0, fit_append us vs h.1 g)

-- Values that tokens of words spell ----------------------------------------------------------------------------

-- Tokens of these words, at any places, spell a value that looks so.
abbrev pub Spelt : {A B : Type 0} → Shape A → (A → B) → B → List Word → Type 0
Spelt {A} a view b ws = (ts : List Token) → Are ws ts → (v : A) × OfShape a v ts × (view v ≡ b)

-- A value that looks so is spelled by these tokens, and by those words.
pub record Kept (known : ℕ → Bool) {A B : Type 0} (a : Shape A) (view : A → B) (b : B) (ws : List Word) (ts : List Token) : Type 0 where
  pub same : leaves ts ≡ leaves_of ws
  pub fit : AreGood known ts → AllFit known ws
  pub silent : HasNoOutput ts → HaveNoOutput ws
  pub spelt : AreGood known ts → Spelt a view b ws

-- Whatever is spelled is spelled by the words that are written for it too.
pub record Keeps (known : ℕ → Bool) (S : Sense) {A B : Type 0} (a : Shape A) (view : A → B) (write : A → List Word) : Type 0 where
  pub kept : (v : A) (ts : List Token) → Spells S a v ts → Kept known a view (view v) (write v) ts

-- the parts of a pair, each as it looks
abbrev pub two : {A B C D : Type 0} → (A → C) → (B → D) → A × B → C × D
two f g p = (f p.0, g p.1)

abbrev pub optional : {A : Type 0} → (A → List Word) → Option A → List Word
optional write None = []
optional write (Some x) = write x

module _ (known : ℕ → Bool) where
  pub recast : {A B : Type 0} (a : Shape A) (view : A → B) (b c : B) (vs ws : List Word) (ts : List Token) → b ≡ c → vs ≡ ws → Kept known a view b vs ts → Kept known a view c ws ts
  recast a view b c vs ws ts e f h = subst (λ d. Kept known a view d ws ts) e (subst (λ us. Kept known a view b us ts) f h)

  -- one after the other
  pub both : {A B C D : Type 0} (a : Shape A) (b : Shape B) (f : A → C) (g : B → D) (x : C) (y : D) (vs ws : List Word) (us rs ts : List Token) → ts ≡ us ++ rs
      → Kept known a f x vs us → Kept known b g y ws rs → Kept known (seq a b) (two f g) (x, y) (vs ++ ws) ts
  both a b f g x y vs ws us rs ts e p q = record {
    same = ap leaves e ∙ leaves_append us rs ∙ ap (λ l. l ++ leaves rs) p.same ∙ ap (λ l. leaves_of vs ++ l) q.same ∙ sym (leaves_of_append vs ws);
    fit = λ h. let i = subst (AreGood known) e h in fit_append known vs ws (p.fit (good_left known us rs i)) (q.fit (good_right known us rs i));
    silent = λ h. let i = subst HasNoOutput e h in silent_append vs ws (p.silent (silent_left us rs i)) (q.silent (silent_right us rs i));
    spelt = λ h ns are.
        let i = subst (AreGood known) e h in
        let r = are_split vs ws ns are in
        let m = p.spelt (good_left known us rs i) r.0 r.2 in
        let n = q.spelt (good_right known us rs i) r.1 r.3 in
        ((m.0, n.0), (r.0, r.1, m.1, n.1, r.4), λ j. (m.2 j, n.2 j));
  }

  -- behind a keyword or a sign
  pub keyed : {A B : Type 0} (j : Kind) (a : Shape A) (view : A → B) (b : B) (ws : List Word) (t : Token) (us ts : List Token) → Quiet j → ts ≡ t ∷ us → t.kind ≡ j
      → Kept known a view b ws us → Kept known (j ▸ a) view b (plain j ∷ ws) ts
  keyed j a view b ws t us ts quiet e g h = record {
    same = ap leaves e ∙ ap (λ i. leaf i t.value ++ leaves us) g ∙ ap (λ l. l ++ leaves us) (quiet t.value) ∙ h.same;
    fit = λ i. (tt, h.fit (subst (AreGood known) e i).1);
    silent = λ i. let x = subst HasNoOutput e i in ((λ o. x.0 (g ∙ o)), h.silent x.1);
    spelt = λ i ns are.
        let m = h.spelt (subst (AreGood known) e i).1 are.1 are.3 in
        (m.0, ((are.0, m.0), refl, (are.0 ∷ [], are.1, (are.2, refl), m.1, are.4)), m.2);
  }

  -- in front of one
  pub closed : {A B : Type 0} (j : Kind) (a : Shape A) (view : A → B) (b : B) (ws : List Word) (t : Token) (us ts : List Token) → Quiet j → ts ≡ us ++ t ∷ [] → t.kind ≡ j
      → Kept known a view b ws us → Kept known (a ◂ j) view b (ws ++ plain j ∷ []) ts
  closed j a view b ws t us ts quiet e g h = record {
    same =
        ap leaves e ∙ leaves_append us (t ∷ []) ∙ ap (λ i. leaves us ++ (leaf i t.value ++ [])) g ∙ ap (λ l. leaves us ++ (l ++ [])) (quiet t.value)
        ∙ ap (λ l. l ++ []) h.same ∙ sym (leaves_of_append ws (plain j ∷ []));
    fit = λ i. fit_append known ws (plain j ∷ []) (h.fit (good_left known us (t ∷ []) (subst (AreGood known) e i))) (tt, tt);
    silent = λ i. let x = subst HasNoOutput e i in silent_append ws (plain j ∷ []) (h.silent (silent_left us (t ∷ []) x)) ((λ o. (silent_right us (t ∷ []) x).0 (g ∙ o)), tt);
    spelt = λ i ns are.
        let r = are_split ws (plain j ∷ []) ns are in
        let m = h.spelt (good_left known us (t ∷ []) (subst (AreGood known) e i)) r.0 r.2 in
        let c = r.3 in
        (m.0, ((m.0, c.0), refl, (r.0, c.0 ∷ [], m.1, (c.2, refl), r.4 ∙ ap (λ l. r.0 ++ l) (c.4 ∙ ap (λ l. c.0 ∷ l) c.3))), m.2);
  }

module _ {known : ℕ → Bool} {S : Sense} where
  pub keeps_seq : {A B C D : Type 0} {a : Shape A} {b : Shape B} {f : A → C} {g : B → D} {v : A → List Word} {u : B → List Word} → Keeps known S a f v → Keeps known S b g u
      → Keeps known S (seq a b) (two f g) (λ p. v p.0 ++ u p.1)
  keeps_seq {a = a} {b = b} {f = f} {g = g} {v = v} {u = u} h i = record {
    kept = λ x ts s. both known a b f g (f x.0) (g x.1) (v x.0) (u x.1) s.0 s.1 ts s.4 (h.kept x.0 s.0 s.2) (i.kept x.1 s.1 s.3);
  }

  pub keeps_act : {A B C D : Type 0} {a : Shape A} {f : A → C} {write : A → List Word} (make : A → B) (view : B → D) (words : B → List Word) (made : C → D)
      → ((x : A) → view (make x) ≡ made (f x)) → ((x : A) → words (make x) ≡ write x) → Keeps known S a f write → Keeps known S (act make a) view words
  keeps_act {a = a} {f = f} {write = write} make view words made seen wrote h = record {
    kept = λ v ts s.
        let m = h.kept s.0 ts s.2 in
        recast known (act make a) view (made (f s.0)) (view v) (write s.0) (words v) ts (sym (seen s.0) ∙ ap view s.1) (sym (wrote s.0) ∙ ap words s.1)
        (record {
          same = m.same;
          fit = m.fit;
          silent = m.silent;
          spelt = λ i ns are. let n = m.spelt i ns are in (make n.0, (n.0, refl, n.1), seen n.0 ∙ ap made n.2);
        });
  }

  pub keeps_alt : {A B : Type 0} {a b : Shape A} {view : A → B} {write : A → List Word} → Keeps known S a view write → Keeps known S b view write → Keeps known S (alt a b) view write
  keeps_alt {A} {B} {a} {b} {view} {write} h i = record { kept = by }
    where
      by : (v : A) (ts : List Token) → Spells S (alt a b) v ts → Kept known (alt a b) view (view v) (write v) ts
      by v ts (inl s) =
          let m = h.kept v ts s in
          record { same = m.same; fit = m.fit; silent = m.silent; spelt = λ g ns are. let n = m.spelt g ns are in (n.0, inl n.1, n.2) }
      by v ts (inr s) =
          let m = i.kept v ts s in
          record { same = m.same; fit = m.fit; silent = m.silent; spelt = λ g ns are. let n = m.spelt g ns are in (n.0, inr n.1, n.2) }

  pub keeps_key : {A B : Type 0} {a : Shape A} {view : A → B} {write : A → List Word} (j : Kind) → Quiet j → Keeps known S a view write → Keeps known S (j ▸ a) view (λ v. plain j ∷ write v)
  keeps_key {a = a} {view = view} {write = write} j quiet h = record {
    kept = λ v ts s.
        let e = s.1 in
        recast known (j ▸ a) view (view s.0.1) (view v) (plain j ∷ write s.0.1) (plain j ∷ write v) ts (ap view e) (ap (λ x. plain j ∷ write x) e)
        (keyed known j a view (view s.0.1) (write s.0.1) s.0.0 s.2.1 ts quiet (s.2.4 ∙ ap (λ l. l ++ s.2.1) s.2.2.1) s.2.2.0 (h.kept s.0.1 s.2.1 s.2.3));
  }

  pub keeps_end : {A B : Type 0} {a : Shape A} {view : A → B} {write : A → List Word} (j : Kind) → Quiet j → Keeps known S a view write → Keeps known S (a ◂ j) view (λ v. write v ++ plain j ∷ [])
  keeps_end {a = a} {view = view} {write = write} j quiet h = record {
    kept = λ v ts s.
        let e = s.1 in
        recast known (a ◂ j) view (view s.0.0) (view v) (write s.0.0 ++ plain j ∷ []) (write v ++ plain j ∷ []) ts (ap view e) (ap (λ x. write x ++ plain j ∷ []) e)
        (closed known j a view (view s.0.0) (write s.0.0) s.0.1 s.2.0 ts quiet (s.2.4 ∙ ap (λ l. s.2.0 ++ l) s.2.3.1) s.2.3.0 (h.kept s.0.0 s.2.0 s.2.2));
  }

  pub keeps_sign : {A B : Type 0} (j : Kind) (v : A) (view : A → B) (write : A → List Word) → Quiet j → write v ≡ plain j ∷ [] → Keeps known S (sign j v) view write
  keeps_sign j v view write quiet wrote = record {
    kept = λ x ts s.
        recast known (sign j v) view (view v) (view x) (plain j ∷ []) (write x) ts (ap view s.1) (sym wrote ∙ ap write s.1)
        (record {
          same = ap leaves s.2.1 ∙ ap (λ i. leaf i s.0.value ++ []) s.2.0 ∙ ap (λ l. l ++ []) (quiet s.0.value);
          fit = λ i. (tt, tt);
          silent = λ i. ((λ o. (subst HasNoOutput s.2.1 i).0 (s.2.0 ∙ o)), tt);
          spelt = λ i ns are. (v, (are.0, refl, (are.2, are.4 ∙ ap (λ l. are.0 ∷ l) are.3)), refl);
        });
  }

  pub keeps_name : Keeps known S name (λ x. x) (λ x. w.name x ∷ [])
  keeps_name = record {
    kept = λ x ts s. record {
      same = ap leaves s.2.1 ∙ ap (λ i. leaf i s.0.value ++ []) s.2.0 ∙ ap (λ v. v ∷ []) s.1;
      fit = λ i. (subst (λ v. known v ≡ true) s.1 ((subst (AreGood known) s.2.1 i).0.named s.2.0), tt);
      silent = λ i. (tt, tt);
      spelt = λ i ns are. (x, (are.0, are.2.1, (are.2.0, are.4 ∙ ap (λ l. are.0 ∷ l) are.3)), refl);
    };
  }

  pub keeps_named : Keeps known S named (λ x. x.0) (λ x. w.name x.0 ∷ [])
  keeps_named = record {
    kept = λ x ts s. record {
      same = ap leaves s.2.1 ∙ ap (λ i. leaf i s.0.value ++ []) s.2.0 ∙ ap (λ v. v.0 ∷ []) s.1;
      fit = λ i. (subst (λ v. known v.0 ≡ true) s.1 ((subst (AreGood known) s.2.1 i).0.named s.2.0), tt);
      silent = λ i. (tt, tt);
      spelt = λ i ns are. ((are.0.value, are.0.at), (are.0, refl, (are.2.0, are.4 ∙ ap (λ l. are.0 ∷ l) are.3)), are.2.1);
    };
  }

  pub keeps_number : Keeps known S number (λ x. x) (λ x. w.number x ∷ [])
  keeps_number = record {
    kept = λ x ts s. record {
      same = ap leaves s.2.1 ∙ ap (λ i. leaf i s.0.value ++ []) s.2.0;
      fit = λ i. (subst (λ v. v ≤ 4294967295) s.1 ((subst (AreGood known) s.2.1 i).0.small s.2.0), tt);
      silent = λ i. (tt, tt);
      spelt = λ i ns are. (x, (are.0, are.2.1, (are.2.0, are.4 ∙ ap (λ l. are.0 ∷ l) are.3)), refl);
    };
  }

  pub keeps_placed : {A B : Type 0} {a : Shape A} {view : A → B} {write : A → List Word} → Keeps known S a view write → Keeps known S (placed a) (λ p. view p.1) (λ p. write p.1)
  keeps_placed {a = a} {view = view} {write = write} h = record {
    kept = λ x ts s.
        let m = h.kept x.1 ts s.1 in
        record { same = m.same; fit = m.fit; silent = m.silent; spelt = λ g ns are. let n = m.spelt g ns are in ((place ns, n.0), (refl, n.1), n.2) };
  }

  pub keeps_opt : {A B : Type 0} {a : Shape A} {view : A → B} {write : A → List Word} → Keeps known S a view write → Keeps known S (opt a) (option_map view) (optional write)
  keeps_opt {A} {B} {a} {view} {write} h = record { kept = by }
    where
      by : (v : Option A) (ts : List Token) → Spells S (opt a) v ts → Kept known (opt a) (option_map view) (option_map view v) (optional write v) ts
      by None ts s = record { same = ap leaves s; fit = λ g. tt; silent = λ g. tt; spelt = λ g ns are. (None, are, refl) }
      by (Some v) ts s =
          let m = h.kept v ts s in
          record { same = m.same; fit = m.fit; silent = m.silent; spelt = λ g ns are. let n = m.spelt g ns are in (Some n.0, n.1, ap Some n.2) }

  pub keeps_many : {A B : Type 0} {a : Shape A} {view : A → B} {write : A → List Word} → Keeps known S a view write → Keeps known S (many a) (map view) (flat_map write)
  keeps_many {A} {B} {a} {view} {write} h = record { kept = by }
    where
      by : (vs : List A) (ts : List Token) → Each (Spells S a) vs ts → Kept known (many a) (map view) (map view vs) (flat_map write vs) ts
      by [] ts s = record { same = ap leaves s; fit = λ g. tt; silent = λ g. tt; spelt = λ g ns are. ([], are, refl) }
      by (v ∷ vs) ts s =
          let x = both known a (many a) view (map view) (view v) (map view vs) (write v) (flat_map write vs) s.0 s.1 ts s.4 (h.kept v s.0 s.2) (by vs s.1 s.3) in
          record { same = x.same; fit = x.fit; silent = x.silent; spelt = λ g ns are. let n = x.spelt g ns are in (n.0.0 ∷ n.0.1, n.1, ap (λ p. p.0 ∷ p.1) n.2) }

  -- written in another way
  pub keeps_so : {A B : Type 0} {a : Shape A} {view : A → B} {write : A → List Word} (words : A → List Word) → ((v : A) (ts : List Token) → Spells S a v ts → write v ≡ words v) → Keeps known S a view write
      → Keeps known S a view words
  keeps_so {a = a} {view = view} {write = write} words e h = record {
    kept = λ v ts s. recast known a view (view v) (view v) (write v) (words v) ts refl (e v ts s) (h.kept v ts s);
  }

  pub keeps_separated : {A B : Type 0} {a : Shape A} {view : A → B} {write : A → List Word} → Keeps known S a view write → Keeps known S (separated k.Comma a) (map view) (commas write)
  keeps_separated {view = view} {write = write} h =
      keeps_act (λ x. x.0 ∷ x.1) (map view) (commas write) (λ p. p.0 ∷ p.1) (λ x. refl) (λ x. refl) (keeps_seq h (keeps_many (keeps_key k.Comma (λ v. refl) h)))

  -- a list that may be left out
  pub keeps_listed : {A B : Type 0} {a : Shape (List A)} {view : A → B} {write : List A → List Word} → write [] ≡ [] → Keeps known S a (map view) write → Keeps known S (listed a) (map view) write
  keeps_listed {A} {B} {a} {view} {write} nothing h = keeps_act none_or (map view) write some seen wrote (keeps_opt h)
    where
      some : Option (List B) → List B
      some None = []
      some (Some xs) = xs

      seen : (x : Option (List A)) → map view (none_or x) ≡ some (option_map (map view) x)
      seen None = refl
      seen (Some xs) = refl

      wrote : (x : Option (List A)) → write (none_or x) ≡ optional write x
      wrote None = nothing
      wrote (Some xs) = refl

-- Other right sides --------------------------------------------------------------------------------------------

-- Whatever a right side spells, another spells by the words that are written for it.
pub record Turns (known : ℕ → Bool) (S : Sense) {A B : Type 0} (a goal : Shape A) (view : A → B) (write : A → List Word) : Type 0 where
  pub kept : (v : A) (ts : List Token) → Spells S a v ts → Kept known goal view (view v) (write v) ts

module _ {known : ℕ → Bool} {S : Sense} {A B : Type 0} {view : A → B} {write : A → List Word} where
  pub turn : {a : Shape A} {goal : Shape A} → ((v : A) (ts : List Token) → OfShape a v ts → OfShape goal v ts) → Keeps known S a view write → Turns known S a goal view write
  turn f h = record {
    kept = λ v ts s. let m = h.kept v ts s in record { same = m.same; fit = m.fit; silent = m.silent; spelt = λ g ns are. let n = m.spelt g ns are in (n.0, f n.0 ns n.1, n.2) };
  }

  pub turn_either : {a b goal : Shape A} → Turns known S a goal view write → Turns known S b goal view write → Turns known S (alt a b) goal view write
  turn_either {a} {b} {goal} h i = record { kept = by }
    where
      by : (v : A) (ts : List Token) → Spells S (alt a b) v ts → Kept known goal view (view v) (write v) ts
      by v ts (inl s) = h.kept v ts s
      by v ts (inr s) = i.kept v ts s

-- Lists that were mapped --------------------------------------------------------------------------------------

pub flat_map_map : {A B C : Type 0} (f : A → B) (write : B → List C) (xs : List A) → flat_map write (map f xs) ≡ flat_map (λ x. write (f x)) xs
flat_map_map f write [] = refl
flat_map_map f write (x ∷ xs) = ap (λ l. write (f x) ++ l) (flat_map_map f write xs)

pub commas_map : {A B : Type 0} (f : A → B) (write : B → List Word) (xs : List A) → commas write (map f xs) ≡ commas (λ x. write (f x)) xs
commas_map f write [] = refl
commas_map f write (x ∷ xs) = ap (λ l. write (f x) ++ l) (flat_map_map f (λ y. plain k.Comma ∷ write y) xs)

-- Lists that are never empty -----------------------------------------------------------------------------------

pub record NeverNil (S : Sense) {A : Type 0} (a : Shape (List A)) : Type 0 where
  pub never : (ts : List Token) → Spells S a [] ts → ⊥

no_cons : {A : Type 0} (x : A) (xs : List A) → x ∷ xs ≡ [] → ⊥
no_cons x xs e = cc

module _ {S : Sense} {A : Type 0} where
  pub separated_never : {a : Shape A} → NeverNil S (separated k.Comma a)
  separated_never = record { never = λ ts s. no_cons s.0.0 s.0.1 s.1 }

  pub key_never : {a : Shape (List A)} (j : Kind) → NeverNil S a → NeverNil S (j ▸ a)
  key_never {a} j h = record { never = λ ts s. h.never s.2.1 (subst (λ v. Spells S a v s.2.1) s.1 s.2.3) }

  pub end_never : {a : Shape (List A)} (j : Kind) → NeverNil S a → NeverNil S (a ◂ j)
  end_never {a} j h = record { never = λ ts s. h.never s.2.0 (subst (λ v. Spells S a v s.2.0) s.1 s.2.2) }

  -- a list that may be left out, and is never empty where it is there
  pub keeps_some : {known : ℕ → Bool} {B : Type 0} {a : Shape (List A)} {view : A → B} {write : List A → List Word} (words : List A → List Word) → NeverNil S a → words [] ≡ [] → ((x : A) (xs : List A) → write (x ∷ xs) ≡ words (x ∷ xs))
      → Keeps known S a (map view) write → Keeps known S (listed a) (map view) words
  keeps_some {known} {B} {a} {view} {write} words never nothing same h = keeps_listed nothing (keeps_so words by h)
    where
      by : (v : List A) (ts : List Token) → Spells S a v ts → write v ≡ words v
      by [] ts s = absurd (never.never ts s)
      by (x ∷ xs) ts s = same x xs

-- More right sides ---------------------------------------------------------------------------------------------

-- a value made of what was kept
pub made_kept : {A B C D : Type 0} (known : ℕ → Bool) (a : Shape A) (f : A → C) (make : A → B) (view : B → D) (made : C → D) (c : C) (ws : List Word) (ts : List Token) → ((x : A) → view (make x) ≡ made (f x)) → Kept known a f c ws ts
    → Kept known (act make a) view (made c) ws ts
made_kept known a f make view made c ws ts seen m = record {
  same = m.same;
  fit = m.fit;
  silent = m.silent;
  spelt = λ g ns are. let n = m.spelt g ns are in (make n.0, (n.0, refl, n.1), seen n.0 ∙ ap made n.2);
}

alike_kept : {A B C D : Type 0} (known : ℕ → Bool) (a : Shape A) (f : A → C) (make : A → B) (view : B → D) (x : A) (ws : List Word) (ts : List Token)
    → ((y z : A) → f y ≡ f z → view (make y) ≡ view (make z)) → Kept known a f (f x) ws ts → Kept known (act make a) view (view (make x)) ws ts
alike_kept known a f make view x ws ts alike m = record {
  same = m.same;
  fit = m.fit;
  silent = m.silent;
  spelt = λ g ns are. let n = m.spelt g ns are in (make n.0, (n.0, refl, n.1), alike n.0 x n.2);
}

module _ {known : ℕ → Bool} {S : Sense} where
  -- seen in another way
  pub keeps_seen : {A B C : Type 0} {a : Shape A} {view : A → B} {write : A → List Word} (looks : A → C) (made : B → C) → ((x : A) → looks x ≡ made (view x)) → Keeps known S a view write → Keeps known S a looks write
  keeps_seen {a = a} {view = view} {write = write} looks made seen h = record {
    kept = λ v ts s.
        let m = h.kept v ts s in
        record { same = m.same; fit = m.fit; silent = m.silent; spelt = λ g ns are. let n = m.spelt g ns are in (n.0, n.1, seen n.0 ∙ ap made n.2 ∙ sym (seen v)) };
  }

  pub keeps_token : {B : Type 0} (j : Kind) (b : B) → Quiet j → Keeps known S (token j) (λ t. b) (λ t. plain j ∷ [])
  keeps_token j b quiet = record {
    kept = λ v ts s. record {
      same = ap leaves s.1 ∙ ap (λ i. leaf i v.value ++ []) s.0 ∙ ap (λ l. l ++ []) (quiet v.value);
      fit = λ g. (tt, tt);
      silent = λ i. ((λ o. (subst HasNoOutput s.1 i).0 (s.0 ∙ o)), tt);
      spelt = λ g ns are. (are.0, (are.2, are.4 ∙ ap (λ l. are.0 ∷ l) are.3), refl);
    };
  }

  -- a word, and what stands behind it
  pub keeps_word : {A B C D : Type 0} {a : Shape A} {f : A → C} {write : A → List Word} (j : Kind) (make : A → B) (view : B → D) (words : B → List Word) (made : C → D)
      → Quiet j → ((x : A) → view (make x) ≡ made (f x)) → ((x : A) → words (make x) ≡ plain j ∷ write x) → Keeps known S a f write → Keeps known S (j ▸ act make a) view words
  keeps_word {a = a} {f = f} {write = write} j make view words made quiet seen wrote h = record {
    kept = λ v ts s.
        let e = s.1 in
        let m = s.2 in
        let u = m.3 in
        recast known (j ▸ act make a) view (made (f u.0)) (view v) (plain j ∷ write u.0) (words v) ts (sym (seen u.0) ∙ ap view (u.1 ∙ e)) (sym (wrote u.0) ∙ ap words (u.1 ∙ e))
        (keyed known j (act make a) view (made (f u.0)) (write u.0) s.0.0 m.1 ts quiet (m.4 ∙ ap (λ l. l ++ m.1) m.2.1) m.2.0
        (made_kept known a f make view made (f u.0) (write u.0) m.1 seen (h.kept u.0 m.1 u.2)));
  }

  -- the same in front of another, where what is made of parts that look alike looks alike
  pub keeps_line : {A B C D : Type 0} {j c : Kind} {a : Shape A} {make : A → B} {f : A → C} {write : A → List Word} {view : B → D} {words : B → List Word}
      → Quiet j → Quiet c → ((x y : A) → f x ≡ f y → view (make x) ≡ view (make y)) → ((x : A) → words (make x) ≡ plain j ∷ (write x ++ plain c ∷ []))
      → Keeps known S a f write → Keeps known S (j ▸ (act make a ◂ c)) view words
  keeps_line {j = j} {c = c} {a = a} {make = make} {f = f} {write = write} {view = view} {words = words} quiet silent alike wrote h = record {
    kept = λ v ts s.
        let e = s.1 in
        let m = s.2 in
        let n = m.3 in
        let r = n.2 in
        let u = r.2 in
        let i = u.1 ∙ n.1 ∙ e in
        recast known (j ▸ (act make a ◂ c)) view (view (make u.0)) (view v) (plain j ∷ (write u.0 ++ plain c ∷ [])) (words v) ts (ap view i) (sym (wrote u.0) ∙ ap words i)
        (keyed known j (act make a ◂ c) view (view (make u.0)) (write u.0 ++ plain c ∷ []) s.0.0 m.1 ts quiet (m.4 ∙ ap (λ l. l ++ m.1) m.2.1) m.2.0
        (closed known c (act make a) view (view (make u.0)) (write u.0) n.0.1 r.0 m.1 silent (r.4 ∙ ap (λ l. r.0 ++ l) r.3.1) r.3.0
        (alike_kept known a f make view u.0 (write u.0) r.0 alike (h.kept u.0 r.0 u.2))));
  }
