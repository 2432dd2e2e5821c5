-- The canonical tokens of a found certificate spell it, and a text has each of them.
use Rattle.std.proofs.Common.{◌≡◌, ℕ, ◌≤◌, List, [], ◌∷◌, ◌++◌, map, Bool, true, false, refl, sym, ap, ◌∙◌, inl, inr, if◌then◌else◌, true≢false, arith}
use Rattle.cov_expr.specs.Term.{Term, const, var, neg, bin}
use Rattle.cov_expr.specs.declared.expr.Op.{Op}
use Rattle.cov_expr.specs.declared.expr.Op.TheVariants as ops
use Rattle.cov_expr.specs.declared.kind.Kind.{Kind}
use Rattle.cov_expr.specs.declared.kind.Kind.TheVariants as k
use Rattle.cov_grammar.specs.declared.token.Token.{Token}
use Rattle.cov_grammar.specs.PlacedTrees as t
use Rattle.cov_grammar.specs.Shapes.{Shape, rule, seq, act, placed, place}
use Rattle.cov_grammar.specs.Grammar.{◌▸◌, ◌◂◌, whole, number, part, last_certs, more_certs, certificate, body, proof}
use Rattle.cov_grammar.proofs.Senses.{OfShape, close}
use Rattle.cov_ast.specs.Syntax as s
use Rattle.cov_text.specs.GivenTrees.{cert_of, expr_of, proof_of}
use Rattle.cov_print.specs.Spelling.{is_word}
use Rattle.cov_print.proofs.Written as w
use Rattle.cov_print.proofs.Written.{Word, plain, enclosed}
use Rattle.cov_print.proofs.Keeps.{Are, are_split, IsAt, IsGood, Spelt, two}
use Rattle.cov_print.proofs.Operators.{IsFine, expr_is, template_is}

-- Tokens that are written --------------------------------------------------------------------------------------

-- tokens of these words, at any places, spell a value that looks so
pub record Spelled {A B : Type 0} (a : Shape A) (view : A → B) (b : B) (ws : List Word) : Type 0 where
  pub spelt : Spelt a view b ws

module _ {A B : Type 0} {a : Shape A} {view : A → B} {b : B} {ws : List Word} where
  in_key : (j : Kind) → Spelled a view b ws → Spelled (j ▸ a) view b (plain j ∷ ws)
  in_key j h = record {
    spelt = λ ns are. let m = h.spelt are.1 are.3 in (m.0, ((are.0, m.0), refl, (are.0 ∷ [], are.1, (are.2, refl), m.1, are.4)), m.2);
  }

  in_end : (j : Kind) → Spelled a view b ws → Spelled (a ◂ j) view b (ws ++ plain j ∷ [])
  in_end j h = record {
    spelt = λ ns are.
        let r = are_split ws (plain j ∷ []) ns are in
        let m = h.spelt r.0 r.2 in
        let c = r.3 in
        (m.0, ((m.0, c.0), refl, (r.0, c.0 ∷ [], m.1, (c.2, refl), r.4 ∙ ap (λ l. r.0 ++ l) (c.4 ∙ ap (λ l. c.0 ∷ l) c.3))), m.2);
  }

  in_placed : Spelled a view b ws → Spelled (placed a) (λ p. view p.1) b ws
  in_placed h = record { spelt = λ ns are. let n = h.spelt ns are in ((place ns, n.0), (refl, n.1), n.2) }

  in_turn : {goal : Shape A} → ((v : A) (ts : List Token) → OfShape a v ts → OfShape goal v ts) → Spelled a view b ws → Spelled goal view b ws
  in_turn f h = record { spelt = λ ns are. let n = h.spelt ns are in (n.0, f n.0 ns n.1, n.2) }

  in_act : {C D : Type 0} (make : A → C) (looks : C → D) (made : B → D) → ((x : A) → looks (make x) ≡ made (view x)) → Spelled a view b ws → Spelled (act make a) looks (made b) ws
  in_act make looks made seen h = record { spelt = λ ns are. let n = h.spelt ns are in (make n.0, (n.0, refl, n.1), seen n.0 ∙ ap made n.2) }

  in_view : {D : Type 0} (looks : A → D) (made : B → D) → ((x : A) → looks x ≡ made (view x)) → Spelled a view b ws → Spelled a looks (made b) ws
  in_view looks made seen h = record { spelt = λ ns are. let n = h.spelt ns are in (n.0, n.1, seen n.0 ∙ ap made n.2) }

in_seq : {A B C D : Type 0} {a : Shape A} {b : Shape B} {f : A → C} {g : B → D} {x : C} {y : D} {vs ws : List Word} → Spelled a f x vs → Spelled b g y ws
    → Spelled (seq a b) (two f g) (x, y) (vs ++ ws)
in_seq {vs = vs} {ws = ws} m n = record {
  spelt = λ ts are.
      let r = are_split vs ws ts are in
      let p = m.spelt r.0 r.2 in
      let q = n.spelt r.1 r.3 in
      ((p.0, q.0), (r.0, r.1, p.1, q.1, r.4), λ j. (p.2 j, q.2 j));
}

in_number : (n : ℕ) → Spelled number (λ x. x) n (w.number n ∷ [])
in_number n = record { spelt = λ ns are. (n, (are.0, are.2.1, (are.2.0, are.4 ∙ ap (λ l. are.0 ∷ l) are.3)), refl) }

-- Certificates -------------------------------------------------------------------------------------------------

-- from one list of right sides to the whole
from_cert : (v : t.Cert) (ts : List Token) → OfShape certificate v ts → OfShape (rule t.cert) v ts
unfolding body
from_cert v ts h = close t.cert v ts h

from_more : (v : t.Cert) (ts : List Token) → OfShape more_certs v ts → OfShape (rule t.cert) v ts
unfolding certificate
from_more v ts h = from_cert v ts (inr (inr (inr (inr h))))

from_last : (v : t.Cert) (ts : List Token) → OfShape last_certs v ts → OfShape (rule t.cert) v ts
unfolding more_certs
from_last v ts h = from_more v ts (inr (inr (inr (inr (inr h)))))

from_part : (v : t.Cert) (ts : List Token) → OfShape part v ts → OfShape (rule t.cert) v ts
unfolding last_certs
from_part v ts h = from_last v ts (inr (inr (inr (inr (inr (inr h))))))

module _ (known : ℕ → Bool) where
  -- Numbers are words, variables have names, and it is of a kind that a search finds.
  abbrev pub CertFits : s.Cert → Type 0
  CertFits s.auto = Unit {0}
  CertFits s.reflexive = Unit {0}
  CertFits s.ring = Unit {0}
  CertFits s.range = Unit {0}
  CertFits (s.hyp i) = i ≤ 4294967295
  CertFits (s.absurdity i j) = (i ≤ 4294967295) × (j ≤ 4294967295)
  CertFits (s.and c d) = CertFits c × CertFits d
  CertFits (s.left c) = CertFits c
  CertFits (s.right c) = CertFits c
  CertFits (s.unpack i c) = (i ≤ 4294967295) × CertFits c
  CertFits (s.cases i c d) = (i ≤ 4294967295) × CertFits c × CertFits d
  CertFits (s.have e c d) = IsFine known false e × CertFits c × CertFits d
  CertFits (s.fwd i e c) = (i ≤ 4294967295) × IsFine known true e × CertFits c
  CertFits (s.rev i e c) = (i ≤ 4294967295) × IsFine known true e × CertFits c
  CertFits s.calc = ⊥
  CertFits (s.clash i) = ⊥
  CertFits (s.split e c d) = ⊥
  CertFits (s.negation c) = ⊥
  CertFits (s.contra c) = ⊥
  CertFits (s.instance i es c) = ⊥

  in_whole : (e : Term) → IsFine known false e → Spelled whole expr_of e (w.whole known e)
  in_whole e fine = record { spelt = λ ns are. ((place ns, e), (refl, expr_is known e fine ns are), refl) }

  in_template : (e : Term) → IsFine known true e → Spelled (placed (rule t.template)) expr_of e (w.whole known e)
  in_template e fine = record { spelt = λ ns are. ((place ns, e), (refl, template_is known e fine ns are), refl) }

  -- a lone word needs no parentheses
  alone : (c : s.Cert) → is_word c ≡ true → Spelled part cert_of c (w.cert known c)
  unfolding part
  alone s.auto e = record { spelt = λ ns are. (t.auto, inl (are.0, refl, (are.2, are.4 ∙ ap (λ l. are.0 ∷ l) are.3)), refl) }
  alone s.calc e = record { spelt = λ ns are. (t.calc, inr (inl (are.0, refl, (are.2, are.4 ∙ ap (λ l. are.0 ∷ l) are.3))), refl) }
  alone s.reflexive e = record { spelt = λ ns are. (t.reflexive, inr (inr (inl (are.0, refl, (are.2, are.4 ∙ ap (λ l. are.0 ∷ l) are.3)))), refl) }
  alone s.ring e = record { spelt = λ ns are. (t.ring, inr (inr (inr (inl (are.0, refl, (are.2, are.4 ∙ ap (λ l. are.0 ∷ l) are.3))))), refl) }
  alone s.range e = record { spelt = λ ns are. (t.range, inr (inr (inr (inr (inl (are.0, refl, (are.2, are.4 ∙ ap (λ l. are.0 ∷ l) are.3)))))), refl) }
  alone _ e = cc

  in_parens : {c : s.Cert} {ws : List Word} → Spelled (rule t.cert) cert_of c ws → Spelled part cert_of c (enclosed ws)
  unfolding part
  in_parens h = in_turn (λ v ts g. inr (inr (inr (inr (inr g))))) (in_key k.OpenParen (in_end k.CloseParen h))

  in_part : (c : s.Cert) → Spelled (rule t.cert) cert_of c (w.cert known c) → Spelled part cert_of c (w.part c (w.cert known c))
  in_part c h = by (is_word c) refl
    where
      by : (b : Bool) → is_word c ≡ b → Spelled part cert_of c (if b then w.cert known c else enclosed (w.cert known c))
      by true e = alone c e
      by false e = in_parens h

  cert_spelled : (c : s.Cert) → CertFits c → Spelled (rule t.cert) cert_of c (w.cert known c)
  unfolding certificate more_certs last_certs
  cert_spelled s.auto f = in_turn from_part (alone s.auto refl)
  cert_spelled s.reflexive f = in_turn from_part (alone s.reflexive refl)
  cert_spelled s.ring f = in_turn from_part (alone s.ring refl)
  cert_spelled s.range f = in_turn from_part (alone s.range refl)
  cert_spelled (s.hyp i) f = in_turn (λ v ts h. from_cert v ts (inl h)) (in_key k.Hyp (in_act t.hyp cert_of s.hyp (λ x. refl) (in_number i)))
  cert_spelled (s.absurdity i j) f =
      in_turn (λ v ts h. from_cert v ts (inr (inr (inl h))))
      (in_key k.Absurd (in_act (λ x. t.absurdity x.0 x.1) cert_of (λ x. s.absurdity x.0 x.1) (λ x. refl) (in_seq (in_number i) (in_number j))))
  cert_spelled (s.and c d) f =
      in_turn (λ v ts h. from_cert v ts (inr (inr (inr (inl h)))))
      (in_key k.And (in_act (λ x. t.and x.0 x.1) cert_of (λ x. s.and x.0 x.1) (λ x. refl) (in_seq (in_part c (cert_spelled c f.0)) (in_part d (cert_spelled d f.1)))))
  cert_spelled (s.left c) f = in_turn (λ v ts h. from_more v ts (inl h)) (in_key k.Left (in_act t.left cert_of s.left (λ x. refl) (in_part c (cert_spelled c f))))
  cert_spelled (s.right c) f = in_turn (λ v ts h. from_more v ts (inr (inl h))) (in_key k.Right (in_act t.right cert_of s.right (λ x. refl) (in_part c (cert_spelled c f))))
  cert_spelled (s.unpack i c) f =
      in_turn (λ v ts h. from_more v ts (inr (inr (inl h))))
      (in_key k.Use (in_act (λ x. t.unpack x.0 x.1) cert_of (λ x. s.unpack x.0 x.1) (λ x. refl) (in_seq (in_number i) (in_part c (cert_spelled c f.1)))))
  cert_spelled (s.cases i c d) f =
      in_turn (λ v ts h. from_more v ts (inr (inr (inr (inl h)))))
      (in_key k.Cases (in_act (λ x. t.cases x.0 x.1.0 x.1.1) cert_of (λ x. s.cases x.0 x.1.0 x.1.1) (λ x. refl)
      (in_seq (in_number i) (in_seq (in_part c (cert_spelled c f.1)) (in_part d (cert_spelled d f.2))))))
  cert_spelled (s.have e c d) f =
      in_turn (λ v ts h. from_last v ts (inl h))
      (in_key k.Have (in_act (λ x. t.have x.0 x.1.0 x.1.1) cert_of (λ x. s.have x.0 x.1.0 x.1.1) (λ x. refl)
      (in_seq (in_key k.OpenBracket (in_end k.CloseBracket (in_whole e f.0))) (in_seq (in_part c (cert_spelled c f.1)) (in_part d (cert_spelled d f.2))))))
  cert_spelled (s.fwd i e c) f =
      in_turn (λ v ts h. from_last v ts (inr (inr (inr (inl h)))))
      (in_key k.Fwd (in_act (λ x. t.fwd x.0 x.1.0 x.1.1) cert_of (λ x. s.fwd x.0 x.1.0 x.1.1) (λ x. refl)
      (in_seq (in_number i) (in_seq (in_key k.OpenBracket (in_end k.CloseBracket (in_template e f.1))) (in_part c (cert_spelled c f.2))))))
  cert_spelled (s.rev i e c) f =
      in_turn (λ v ts h. from_last v ts (inr (inr (inr (inr (inl h))))))
      (in_key k.Rev (in_act (λ x. t.rev x.0 x.1.0 x.1.1) cert_of (λ x. s.rev x.0 x.1.0 x.1.1) (λ x. refl)
      (in_seq (in_number i) (in_seq (in_key k.OpenBracket (in_end k.CloseBracket (in_template e f.1))) (in_part c (cert_spelled c f.2))))))
  cert_spelled _ f = absurd f

  proof_spelled : (q : s.Proof) → CertFits q.cert → Spelled proof proof_of q (w.proof known q)
  unfolding proof
  proof_spelled q f =
      in_view proof_of (λ p. record { number = p.0; cert = p.1 }) (λ x. refl) (in_seq (in_number q.number) (in_key k.Colon (in_placed (cert_spelled q.cert f))))

-- Tokens of a text ---------------------------------------------------------------------------------------------

-- neither a name nor `output`
abbrev pub calm : Kind → Bool
calm k.Name = false
calm k.Output = false
calm k.Number = true
calm _ = true

sign_calm : (op : Op) → calm (w.sign_of op) ≡ true
sign_calm ops.Add = refl
sign_calm ops.Sub = refl
sign_calm ops.Mul = refl
sign_calm ops.And = refl
sign_calm ops.Or = refl
sign_calm ops.Xor = refl
sign_calm ops.Eq = refl
sign_calm ops.Ne = refl
sign_calm ops.Lt = refl
sign_calm ops.Le = refl
sign_calm ops.Both = refl
sign_calm ops.Either = refl

-- a token of a word, somewhere
abbrev pub token_of : Word → Token
token_of (w.plain j) = record { kind = j; at = 0; end = 0; value = 0 }
token_of (w.name x) = record { kind = k.Name; at = 0; end = 0; value = x }
token_of (w.hole x) = record { kind = k.Hole; at = 0; end = 0; value = 0 }
token_of (w.number n) = record { kind = k.Number; at = 0; end = 0; value = n }

are_tokens : (ws : List Word) → Are ws (map token_of ws)
are_tokens [] = refl
are_tokens (v ∷ ws) = (token_of v, map token_of ws, is_at v, are_tokens ws, refl)
  where
    is_at : (v : Word) → IsAt v (token_of v)
    is_at (w.plain j) = refl
    is_at (w.name x) = (refl, refl)
    is_at (w.hole x) = refl
    is_at (w.number n) = (refl, refl)

module _ (known : ℕ → Bool) (Quiet : Type 0) where
  -- A token is one of a text with these names; where the text is to be quiet, it isn't `output`.
  pub record IsClean (t : Token) : Type 0 where
    pub good : IsGood known t
    pub silent : Quiet → t.kind ≡ k.Output → ⊥

  abbrev pub AreClean : List Token → Type 0
  AreClean [] = Unit {0}
  AreClean (t ∷ ts) = IsClean t × AreClean ts

  pub clean_append : (us vs : List Token) → AreClean us → AreClean vs → AreClean (us ++ vs)
  clean_append [] vs h g = g
  clean_append (u ∷ us) vs h g = (h.0, clean_append us vs h.1 g)

  pub clean_left : (us vs : List Token) → AreClean (us ++ vs) → AreClean us
  clean_left [] vs h = tt
  clean_left (u ∷ us) vs h = (h.0, clean_left us vs h.1)

  pub clean_right : (us vs : List Token) → AreClean (us ++ vs) → AreClean vs
  clean_right [] vs h = h
  clean_right (u ∷ us) vs h = clean_right us vs h.1

  abbrev CleanWord : Word → Type 0
  CleanWord (w.plain j) = calm j ≡ true
  CleanWord (w.name x) = known x ≡ true
  CleanWord (w.hole x) = Unit {0}
  CleanWord (w.number n) = n ≤ 4294967295

  abbrev CleanWords : List Word → Type 0
  CleanWords [] = Unit {0}
  CleanWords (v ∷ vs) = CleanWord v × CleanWords vs

  words_append : (us vs : List Word) → CleanWords us → CleanWords vs → CleanWords (us ++ vs)
  words_append [] vs h g = g
  words_append (u ∷ us) vs h g = (h.0, words_append us vs h.1 g)

  clean_token : (v : Word) → CleanWord v → IsClean (token_of v)
  clean_token (w.plain j) h = record {
    good = record { named = λ e. absurd (true≢false (sym h ∙ ap calm e)); small = λ e. omega arith };
    silent = λ q e. absurd (true≢false (sym h ∙ ap calm e));
  }
  clean_token (w.name x) h = record { good = record { named = λ e. h; small = λ e. cc }; silent = λ q e. cc }
  clean_token (w.hole x) h = record { good = record { named = λ e. cc; small = λ e. cc }; silent = λ q e. cc }
  clean_token (w.number n) h = record { good = record { named = λ e. cc; small = λ e. h }; silent = λ q e. cc }

  clean_tokens : (ws : List Word) → CleanWords ws → AreClean (map token_of ws)
  clean_tokens [] h = tt
  clean_tokens (v ∷ ws) h = (clean_token v h.0, clean_tokens ws h.1)

  expr_clean : (holes operand : Bool) (e : Term) → IsFine known holes e → CleanWords (w.expr known operand e)
  expr_clean holes operand (const n) f = (f, tt)
  expr_clean holes operand (var x) f = (by (known x) refl, tt)
    where
      by : (b : Bool) → known x ≡ b → CleanWord (if b then w.name x else w.hole x)
      by true e = e
      by false e = tt
  expr_clean holes operand (neg e) f = (refl, expr_clean holes true e f)
  expr_clean holes false (bin op a b) f =
      words_append (w.expr known true a) (plain (w.sign_of op) ∷ w.expr known true b) (expr_clean holes true a f.0) (sign_calm op, expr_clean holes true b f.1)
  expr_clean holes true (bin op a b) f = (
    refl,
    words_append (w.expr known true a ++ plain (w.sign_of op) ∷ w.expr known true b) (plain k.CloseParen ∷ [])
        (words_append (w.expr known true a) (plain (w.sign_of op) ∷ w.expr known true b) (expr_clean holes true a f.0) (sign_calm op, expr_clean holes true b f.1)) (refl, tt),
  )

  bracketed_clean : (holes : Bool) (e : Term) → IsFine known holes e → CleanWords (w.bracketed (w.whole known e))
  bracketed_clean holes e f = (refl, words_append (w.whole known e) (plain k.CloseBracket ∷ []) (expr_clean holes false e f) (refl, tt))

  part_clean : (c : s.Cert) → CleanWords (w.cert known c) → CleanWords (w.part c (w.cert known c))
  part_clean c h = by (is_word c)
    where
      by : (b : Bool) → CleanWords (if b then w.cert known c else enclosed (w.cert known c))
      by true = h
      by false = (refl, words_append (w.cert known c) (plain k.CloseParen ∷ []) h (refl, tt))

  abbrev inner : s.Cert → List Word
  inner c = w.part c (w.cert known c)

  cert_clean : (c : s.Cert) → CertFits known c → CleanWords (w.cert known c)
  cert_clean s.auto f = (refl, tt)
  cert_clean s.reflexive f = (refl, tt)
  cert_clean s.ring f = (refl, tt)
  cert_clean s.range f = (refl, tt)
  cert_clean (s.hyp i) f = (refl, (f, tt))
  cert_clean (s.absurdity i j) f = (refl, (f.0, (f.1, tt)))
  cert_clean (s.and c d) f = (refl, words_append (inner c) (inner d) (part_clean c (cert_clean c f.0)) (part_clean d (cert_clean d f.1)))
  cert_clean (s.left c) f = (refl, part_clean c (cert_clean c f))
  cert_clean (s.right c) f = (refl, part_clean c (cert_clean c f))
  cert_clean (s.unpack i c) f = (refl, (f.0, part_clean c (cert_clean c f.1)))
  cert_clean (s.cases i c d) f = (refl, (f.0, words_append (inner c) (inner d) (part_clean c (cert_clean c f.1)) (part_clean d (cert_clean d f.2))))
  cert_clean (s.have e c d) f = (
    refl,
    words_append (w.bracketed (w.whole known e)) (inner c ++ inner d) (bracketed_clean false e f.0)
        (words_append (inner c) (inner d) (part_clean c (cert_clean c f.1)) (part_clean d (cert_clean d f.2))),
  )
  cert_clean (s.fwd i e c) f = (refl, (f.0, words_append (w.bracketed (w.whole known e)) (inner c) (bracketed_clean true e f.1) (part_clean c (cert_clean c f.2))))
  cert_clean (s.rev i e c) f = (refl, (f.0, words_append (w.bracketed (w.whole known e)) (inner c) (bracketed_clean true e f.1) (part_clean c (cert_clean c f.2))))
  cert_clean _ f = absurd f

  -- A proof, and tokens that spell it.
  pub record Piece (q : s.Proof) : Type 0 where
    pub value : ℕ × t.Placed t.Cert
    pub tokens : List Token
    pub spelled : OfShape proof value tokens
    pub looks : proof_of value ≡ q
    pub clean : AreClean tokens

  -- what is asked of a proof that is put in
  abbrev pub IsNewProof : ℕ × s.Cert → Type 0
  IsNewProof c = (c.0 ≤ 4294967295) × CertFits known c.1

  pub new_piece : (c : ℕ × s.Cert) → IsNewProof c → Piece (record { number = c.0; cert = c.1 })
  new_piece c f =
      let q : s.Proof = record { number = c.0; cert = c.1 } in
      let ts = map token_of (w.proof known q) in
      let m = (proof_spelled known q f.1).spelt ts (are_tokens (w.proof known q)) in
      record { value = m.0; tokens = ts; spelled = m.1; looks = m.2; clean = clean_tokens (w.proof known q) (f.0, (refl, cert_clean c.1 f.1)) }

  pub clean_word : (j : Kind) → calm j ≡ true → IsClean (token_of (w.plain j))
  clean_word j h = clean_token (w.plain j) h
