-- The canonical spelling has the canonical tokens.
use Rattle.std.proofs.Common.{◌≡◌, ℕ, List, [], ◌∷◌, ◌++◌, Bool, true, false, codes, decimal, flat_map, refl, sym, ap, subst, append_assoc, append-nil, if◌then◌else◌}
use Rattle.cov_expr.specs.Term.{Term, const, var, neg, bin}
use Rattle.cov_expr.specs.Bytes.{is_word}
use Rattle.cov_expr.specs.declared.expr.Op.{Op}
use Rattle.cov_expr.specs.declared.expr.Op.TheVariants as ops
use Rattle.cov_lex.proofs.Fronts.{Stops}
use Rattle.cov_expr.specs.declared.kind.Kind.TheVariants as k
use Rattle.cov_expr.specs.Spellings.{spellings}
use Rattle.cov_expr.specs.Spellings as spelled
use Rattle.cov_ast.specs.Syntax as s
use Rattle.cov_print.specs.Spelling as spec
use Rattle.cov_print.proofs.Written as w
use Rattle.cov_print.proofs.Written.{Word, plain}
use Rattle.cov_print.proofs.Readings as r
use Rattle.cov_print.proofs.Readings.{known, Reads}
use Rattle.cov_print.proofs.Leaves.{AreNames, word_, lead_, number_, name_, variable_, mark_, operand_starts}

-- A text with the tokens of these words may stand behind a word or a number.
pub record Ready (all : List (List ℕ)) (text : List ℕ) (ws : List Word) : Type 0 where
  pub is : Reads all text ws
  pub stop : Stops is_word text

-- What is written of a value is read as its words.
pub record Writes (all : List (List ℕ)) {A : Type 0} (text : A → List ℕ) (write : A → List Word) : Type 0 where
  pub each : (x : A) {more : List ℕ} {vs : List Word} → Ready all more vs → Reads all (text x ++ more) (write x ++ vs)

-- Lists one behind the other, joined from the right
pub of_3 : {A : Type 0} (a b c m : List A) → (a ++ b ++ c) ++ m ≡ a ++ (b ++ (c ++ m))
of_3 a b c m = simp append_assoc

pub of_4 : {A : Type 0} (a b c d m : List A) → (a ++ b ++ c ++ d) ++ m ≡ a ++ (b ++ (c ++ (d ++ m)))
of_4 a b c d m = simp append_assoc

pub of_5 : {A : Type 0} (a b c d e m : List A) → (a ++ b ++ c ++ d ++ e) ++ m ≡ a ++ (b ++ (c ++ (d ++ (e ++ m))))
of_5 a b c d e m = simp append_assoc

pub of_2_2 : {A : Type 0} (a b c d m : List A) → ((a ++ b) ++ (c ++ d)) ++ m ≡ a ++ (b ++ (c ++ (d ++ m)))
of_2_2 a b c d m = simp append_assoc

module _ {all : List (List ℕ)} where
  pub moved : {t u : List ℕ} {vs ws : List Word} → t ≡ u → vs ≡ ws → Reads all u ws → Reads all t vs
  moved {t} {u} {vs} {ws} e f h = subst (λ x. Reads all x vs) (sym e) (subst (Reads all u) (sym f) h)

  pub after : {text : List ℕ} {ws : List Word} → Reads all text ws → Stops is_word text → Ready all text ws
  after h stop = record { is = h; stop = stop }

  pub operator_ : {more : List ℕ} {vs : List Word} (op : Op) → Reads all more vs → Ready all (spec.operator op ++ more) (plain (w.sign_of op) ∷ vs)
  operator_ ops.Add h = after (r.blank (r.plus_ (r.blank h))) refl
  operator_ ops.Sub h = after (r.blank (r.minus_ (r.blank h))) refl
  operator_ ops.Mul h = after (r.blank (r.star_ (r.blank h))) refl
  operator_ ops.And h = after (r.blank (r.ampersand_ (r.blank h))) refl
  operator_ ops.Or h = after (r.blank (r.bar_ (r.blank h))) refl
  operator_ ops.Xor h = after (r.blank (r.caret_ (r.blank h))) refl
  operator_ ops.Eq h = after (r.blank (r.equal_ (r.blank h))) refl
  operator_ ops.Ne h = after (r.blank (r.differs_ (r.blank h))) refl
  operator_ ops.Lt h = after (r.blank (r.less_ (r.blank h))) refl
  operator_ ops.Le h = after (r.blank (r.at_most_ (r.blank h))) refl
  operator_ ops.Both h = after (r.blank (r.both_ (r.blank h))) refl
  operator_ ops.Either h = after (r.blank (r.either_ (r.blank h))) refl

module _ (all : List (List ℕ)) (valid : AreNames all) where
  pub expr_ : (operand : Bool) (e : Term) {more : List ℕ} {vs : List Word} → Ready all more vs → Reads all (spec.expr all operand e ++ more) (w.expr (known all) operand e ++ vs)
  expr_ operand (const n) h = number_ n h.is h.stop
  expr_ operand (var x) h = variable_ all valid x h.is h.stop
  expr_ operand (neg e) {more} {vs} h = mark_ all valid (λ fit. operand_starts all valid e more vs fit) (expr_ true e h)
  expr_ true (bin op a b) h =
      simp append_assoc (r.open_paren_ (expr_ true a (operator_ op (expr_ true b (after (r.close_paren_ h.is) refl)))))
  expr_ false (bin op a b) h =
      simp (append_assoc, append-nil) (expr_ true a (operator_ op (expr_ true b h)))

  pub whole_ : (e : Term) {more : List ℕ} {vs : List Word} → Ready all more vs → Reads all (spec.whole all e ++ more) (w.whole (known all) e ++ vs)
  whole_ e h = expr_ false e h

  -- Lists ------------------------------------------------------------------------------------------------------

  module _ {A : Type 0} {text : A → List ℕ} {write : A → List Word} (f : Writes all text write) where
    rest_ : (xs : List A) {more : List ℕ} {vs : List Word} → Ready all more vs → Ready all (spec.more text xs ++ more) (flat_map (λ x. plain k.Comma ∷ write x) xs ++ vs)
    rest_ [] h = h
    rest_ (x ∷ xs) h = simp append_assoc (after (r.comma_ (r.blank (f.each x (rest_ xs h)))) refl)

    pub listed_ : (xs : List A) {more : List ℕ} {vs : List Word} → Ready all more vs → Reads all (spec.listed text xs ++ more) (w.commas write xs ++ vs)
    listed_ [] h = h.is
    listed_ (x ∷ xs) h = simp append_assoc (f.each x (rest_ xs h))

  exprs_ : Writes all (spec.whole all) (w.whole (known all))
  exprs_ = record { each = whole_ }

  -- Certificates -----------------------------------------------------------------------------------------------

  part_ : (c : s.Cert) {more : List ℕ} {vs : List Word} → Ready all more vs → Reads all (spec.cert all c ++ more) (w.cert (known all) c ++ vs) → Reads all (spec.cert all c ++ (codes ")" ++ more)) (w.cert (known all) c ++ plain k.CloseParen ∷ vs)
      → Ready all (spec.inner c (spec.cert all c) ++ more) (w.part c (w.cert (known all) c) ++ vs)
  part_ c {more} {vs} rest h g = after (r.blank (by (spec.is_word c))) refl
    where
      by : (b : Bool) → Reads all ((if b then spec.cert all c else codes "(" ++ spec.cert all c ++ codes ")") ++ more) ((if b then w.cert (known all) c else w.enclosed (w.cert (known all) c)) ++ vs)
      by true = h
      by false = simp append_assoc (r.open_paren_ g)

  abbrev inner_text : s.Cert → List ℕ
  inner_text c = spec.inner c (spec.cert all c)

  abbrev inner_words : s.Cert → List Word
  inner_words c = w.part c (w.cert (known all) c)

  closing : {more : List ℕ} {vs : List Word} → Ready all more vs → Ready all (codes ")" ++ more) (plain k.CloseParen ∷ vs)
  closing h = after (r.close_paren_ h.is) refl

  bracketed_ : (e : Term) {more : List ℕ} {vs : List Word} → Reads all more vs → Reads all (codes "[" ++ (spec.whole all e ++ (codes "]" ++ more))) (plain k.OpenBracket ∷ (w.whole (known all) e ++ plain k.CloseBracket ∷ vs))
  bracketed_ e h = r.open_bracket_ (whole_ e (after (r.close_bracket_ h) refl))

  pub cert_ : (c : s.Cert) {more : List ℕ} {vs : List Word} → Ready all more vs → Reads all (spec.cert all c ++ more) (w.cert (known all) c ++ vs)
  unfolding spelled.kind_of spellings
  cert_ s.auto h = word_ (codes "auto") refl h.is h.stop
  cert_ s.calc h = word_ (codes "calc") refl h.is h.stop
  cert_ s.reflexive h = word_ (codes "refl") refl h.is h.stop
  cert_ s.ring h = word_ (codes "ring") refl h.is h.stop
  cert_ s.range h = word_ (codes "range") refl h.is h.stop
  cert_ (s.hyp i) h = lead_ refl (r.blank (number_ i h.is h.stop))
  cert_ (s.clash i) h = lead_ refl (r.blank (number_ i h.is h.stop))
  cert_ (s.absurdity i j) {more} {vs} h =
      moved (ap (λ l. codes "absurd " ++ l) (of_3 (decimal i) (codes " ") (decimal j) more)) refl
      (lead_ refl (r.blank (number_ i (r.blank (number_ j h.is h.stop)) refl)))
  cert_ (s.and c d) {more} {vs} h =
      let y = part_ d h (cert_ d h) (cert_ d (closing h)) in
      let x = part_ c y (cert_ c y) (cert_ c (closing y)) in
      moved (ap (λ l. codes "and" ++ l) (append_assoc (inner_text c) (inner_text d) more)) (ap (λ l. plain k.And ∷ l) (append_assoc (inner_words c) (inner_words d) vs))
      (word_ (codes "and") refl x.is x.stop)
  cert_ (s.left c) h = let x = part_ c h (cert_ c h) (cert_ c (closing h)) in word_ (codes "left") refl x.is x.stop
  cert_ (s.right c) h = let x = part_ c h (cert_ c h) (cert_ c (closing h)) in word_ (codes "right") refl x.is x.stop
  cert_ (s.unpack i c) {more} {vs} h =
      let x = part_ c h (cert_ c h) (cert_ c (closing h)) in
      moved (ap (λ l. codes "use " ++ l) (append_assoc (decimal i) (inner_text c) more)) refl (lead_ refl (r.blank (number_ i x.is x.stop)))
  cert_ (s.cases i c d) {more} {vs} h =
      let y = part_ d h (cert_ d h) (cert_ d (closing h)) in
      let x = part_ c y (cert_ c y) (cert_ c (closing y)) in
      moved (ap (λ l. codes "cases " ++ l) (of_3 (decimal i) (inner_text c) (inner_text d) more)) (ap (λ l. plain k.Cases ∷ w.number i ∷ l) (append_assoc (inner_words c) (inner_words d) vs))
      (lead_ refl (r.blank (number_ i x.is x.stop)))
  cert_ (s.split e c d) {more} {vs} h =
      let y = part_ d h (cert_ d h) (cert_ d (closing h)) in
      let x = part_ c y (cert_ c y) (cert_ c (closing y)) in
      moved (ap (λ l. codes "split [" ++ l) (of_4 (spec.whole all e) (codes "]") (inner_text c) (inner_text d) more))
      (ap (λ l. plain k.Split ∷ plain k.OpenBracket ∷ l) (of_2_2 (w.whole (known all) e) (plain k.CloseBracket ∷ []) (inner_words c) (inner_words d) vs))
      (lead_ refl (r.blank (bracketed_ e x.is)))
  cert_ (s.have e c d) {more} {vs} h =
      let y = part_ d h (cert_ d h) (cert_ d (closing h)) in
      let x = part_ c y (cert_ c y) (cert_ c (closing y)) in
      moved (ap (λ l. codes "have [" ++ l) (of_4 (spec.whole all e) (codes "]") (inner_text c) (inner_text d) more))
      (ap (λ l. plain k.Have ∷ plain k.OpenBracket ∷ l) (of_2_2 (w.whole (known all) e) (plain k.CloseBracket ∷ []) (inner_words c) (inner_words d) vs))
      (lead_ refl (r.blank (bracketed_ e x.is)))
  cert_ (s.negation c) h = let x = part_ c h (cert_ c h) (cert_ c (closing h)) in word_ (codes "not") refl x.is x.stop
  cert_ (s.contra c) h = let x = part_ c h (cert_ c h) (cert_ c (closing h)) in word_ (codes "contra") refl x.is x.stop
  cert_ (s.fwd i e c) {more} {vs} h =
      let x = part_ c h (cert_ c h) (cert_ c (closing h)) in
      moved (ap (λ l. codes "fwd " ++ l) (of_5 (decimal i) (codes " [") (spec.whole all e) (codes "]") (inner_text c) more))
      (ap (λ l. plain k.Fwd ∷ w.number i ∷ plain k.OpenBracket ∷ l) (of_3 (w.whole (known all) e) (plain k.CloseBracket ∷ []) (inner_words c) vs))
      (lead_ refl (r.blank (number_ i (r.blank (bracketed_ e x.is)) refl)))
  cert_ (s.rev i e c) {more} {vs} h =
      let x = part_ c h (cert_ c h) (cert_ c (closing h)) in
      moved (ap (λ l. codes "rev " ++ l) (of_5 (decimal i) (codes " [") (spec.whole all e) (codes "]") (inner_text c) more))
      (ap (λ l. plain k.Rev ∷ w.number i ∷ plain k.OpenBracket ∷ l) (of_3 (w.whole (known all) e) (plain k.CloseBracket ∷ []) (inner_words c) vs))
      (lead_ refl (r.blank (number_ i (r.blank (bracketed_ e x.is)) refl)))
  cert_ (s.instance i es c) {more} {vs} h =
      let x = part_ c h (cert_ c h) (cert_ c (closing h)) in
      moved (ap (λ l. codes "axiom " ++ l) (of_5 (decimal i) (codes " (") (spec.listed (spec.whole all) es) (codes ")") (inner_text c) more))
      (ap (λ l. plain k.Axiom ∷ w.number i ∷ plain k.OpenParen ∷ l) (of_3 (w.commas (w.whole (known all)) es) (plain k.CloseParen ∷ []) (inner_words c) vs))
      (lead_ refl (r.blank (number_ i (r.blank (r.open_paren_ (listed_ exprs_ es (closing x)))) refl)))

  -- Proofs and states ------------------------------------------------------------------------------------------

  proof_ : Writes all (spec.proof all) (w.proof (known all))
  proof_ = record { each = λ p {more} {vs} h. simp append_assoc (number_ p.number (r.colon_ (r.blank (cert_ p.cert h))) refl) }

  -- the proofs of a statement, in front of a semicolon or a line feed
  pub by_ : (ps : List s.Proof) {more : List ℕ} {vs : List Word} → Ready all more vs → Ready all (spec.by all ps ++ more) (w.by (known all) ps ++ vs)
  unfolding spelled.kind_of spellings
  by_ [] h = h
  by_ (p ∷ ps) h =
      simp append_assoc (simp append_assoc at (after (r.blank (word_ (codes "by") refl (r.blank (r.open_brace_ (r.blank (listed_ proof_ (p ∷ ps) (after (r.blank (r.close_brace_ h.is)) refl))))) refl)) refl))

  typed_ : Writes all (spec.typed all) (w.typed (known all))
  typed_ = record { each = λ t {more} {vs} h. simp append_assoc (name_ all valid t.0 (r.colon_ (r.blank (whole_ t.1 h))) refl) }

  pub state_ : (preds : List Term) (ts : List (ℕ × Term)) {more : List ℕ} {vs : List Word} → Reads all more vs → Reads all (spec.state_of all preds ts ++ more) (w.state_of (known all) preds ts ++ vs)
  unfolding spec.state_of
  state_ [] [] h = r.open_brace_ (r.close_brace_ h)
  state_ (p ∷ ps) [] h = simp (append_assoc, append-nil) (simp append_assoc at (r.open_brace_ (r.blank (listed_ exprs_ (p ∷ ps) (after (r.blank (r.close_brace_ h)) refl)))))
  state_ [] (t ∷ ts) h = simp append_assoc (simp append_assoc at (r.open_brace_ (r.blank (r.semicolon_ (r.blank (listed_ typed_ (t ∷ ts) (after (r.blank (r.close_brace_ h)) refl)))))))
  state_ (p ∷ ps) (t ∷ ts) h =
      simp append_assoc
      (simp append_assoc at (r.open_brace_ (r.blank (listed_ exprs_ (p ∷ ps) (after (r.blank (r.semicolon_ (r.blank (listed_ typed_ (t ∷ ts) (after (r.blank (r.close_brace_ h)) refl))))) refl)))))
