-- The canonical tokens of a certificate spell it.
use Rattle.std.proofs.Common.{◌≡◌, ℕ, zero, suc, List, [], ◌∷◌, ◌++◌, Bool, true, false, map, refl, sym, ap, subst, ◌∙◌, append-nil, inl, inr, if◌then◌else◌}
use Rattle.cov_expr.specs.declared.kind.Kind.{Kind}
use Rattle.cov_expr.specs.declared.kind.Kind.TheVariants as k
use Rattle.cov_grammar.specs.declared.token.Token.{Token}
use Rattle.cov_grammar.specs.PlacedTrees as t
use Rattle.cov_grammar.specs.PlacedTrees.{Placed}
use Rattle.cov_grammar.specs.Shapes.{Shape, rule, placed, Sense, Spells}
use Rattle.cov_grammar.specs.Grammar.{sign, whole, in_brackets, bracketed, part, arguments, last_certs, more_certs, certificate}
use Rattle.cov_grammar.specs.Grammar.{body}
use Rattle.cov_grammar.specs.Spells.{Within}
use Rattle.cov_grammar.proofs.Senses.{OfShape, close}
use Rattle.cov_text.proofs.SilentLaws.{HasNoOutput, silent_left, silent_right}
use Rattle.cov_print.proofs.Operands.{expr_keeps, template_keeps}
use Rattle.cov_ast.specs.Syntax as s
use Rattle.cov_text.specs.GivenTrees.{expr_of, cert_of}
use Rattle.cov_print.proofs.Written as w
use Rattle.cov_print.proofs.Written.{Word, plain, enclosed, commas}
use Rattle.cov_print.specs.Spelling.{is_word}
use Rattle.cov_print.proofs.Keeps.{Are, Quiet, leaf, leaves, leaves_append, AreGood, good_left, good_right, Kept, Keeps, recast, keeps_seq, keeps_key, keeps_end, keeps_sign, keeps_number, keeps_placed, keeps_separated, keeps_so, commas_map, keeps_word, Turns, turn, turn_either}

module _ (known : ℕ → Bool) (S : Sense) where
  module _ (exprs : Keeps known S (rule t.expr) (λ e. e) (w.expr known false)) where
    pub whole_keeps : Keeps known S whole expr_of (λ e. w.whole known (expr_of e))
    whole_keeps = keeps_placed exprs

    module _ (templates : Keeps known S (rule t.template) (λ e. e) (w.expr known false)) (certs : Keeps known S (rule t.cert) cert_of (λ c. w.cert known (cert_of c))) where
      -- a lone word needs no parentheses
      alone : (c : t.Cert) → is_word (cert_of c) ≡ true → (ns : List Token) → Are (w.cert known (cert_of c)) ns → (v : t.Cert) × OfShape part v ns × (cert_of v ≡ cert_of c)
      unfolding part
      alone t.auto e ns are = (t.auto, inl (are.0, refl, (are.2, are.4 ∙ ap (λ l. are.0 ∷ l) are.3)), refl)
      alone t.calc e ns are = (t.calc, inr (inl (are.0, refl, (are.2, are.4 ∙ ap (λ l. are.0 ∷ l) are.3))), refl)
      alone t.reflexive e ns are = (t.reflexive, inr (inr (inl (are.0, refl, (are.2, are.4 ∙ ap (λ l. are.0 ∷ l) are.3)))), refl)
      alone t.ring e ns are = (t.ring, inr (inr (inr (inl (are.0, refl, (are.2, are.4 ∙ ap (λ l. are.0 ∷ l) are.3))))), refl)
      alone t.range e ns are = (t.range, inr (inr (inr (inr (inl (are.0, refl, (are.2, are.4 ∙ ap (λ l. are.0 ∷ l) are.3)))))), refl)
      alone _ e ns are = cc

      abbrev part_words : t.Cert → List Word
      part_words c = w.part (cert_of c) (w.cert known (cert_of c))

      in_part : (b : Bool) (c : t.Cert) (ts us : List Token) → is_word (cert_of c) ≡ b → Kept known (bracketed t.cert) cert_of (cert_of c) (enclosed (w.cert known (cert_of c))) ts
          → Kept known (rule t.cert) cert_of (cert_of c) (w.cert known (cert_of c)) us → leaves ts ≡ leaves us → (AreGood known ts → AreGood known us) → (HasNoOutput ts → HasNoOutput us)
          → Kept known part cert_of (cert_of c) (if b then w.cert known (cert_of c) else enclosed (w.cert known (cert_of c))) ts
      unfolding part
      in_part true c ts us e h i q g n = record {
        same = q ∙ i.same;
        fit = λ x. i.fit (g x);
        silent = λ x. i.silent (n x);
        spelt = λ x ns are. alone c e ns are;
      }
      in_part false c ts us e h i q g n = record {
        same = h.same;
        fit = h.fit;
        silent = h.silent;
        spelt = λ x ns are. let m = h.spelt x ns are in (m.0, inr (inr (inr (inr (inr m.1)))), m.2);
      }

      bracketed_keeps : Keeps known S (bracketed t.cert) cert_of (λ c. enclosed (w.cert known (cert_of c)))
      bracketed_keeps = keeps_key k.OpenParen (λ v. refl) (keeps_end k.CloseParen (λ v. refl) certs)

      sign_part : (j : Kind) (c : t.Cert) → Quiet j → part_words c ≡ plain j ∷ [] → Keeps known S (sign j c) cert_of part_words
      sign_part j c quiet e = keeps_sign j c cert_of part_words quiet e

      -- what parentheses enclose
      record Inside (c : t.Cert) (ts : List Token) : Type 0 where
        front : List Token
        is : Kept known (rule t.cert) cert_of (cert_of c) (w.cert known (cert_of c)) front
        same : leaves ts ≡ leaves front
        good : AreGood known ts → AreGood known front
        silent : HasNoOutput ts → HasNoOutput front

      inside : (c : t.Cert) (ts : List Token) → Spells S (bracketed t.cert) c ts → Inside c ts
      inside c ts s =
          let m = s.2 in
          let n = m.3 in
          let r = n.2 in
          let o : m.0 ≡ s.0.0 ∷ [] = m.2.1 in
          let d : r.1 ≡ n.0.1 ∷ [] = r.3.1 in
          let e : n.0.0 ≡ c = n.1 ∙ s.1 in
          record {
            front = r.0;
            is = recast known (rule t.cert) cert_of (cert_of n.0.0) (cert_of c) (w.cert known (cert_of n.0.0)) (w.cert known (cert_of c)) r.0 (ap cert_of e) (ap (λ x. w.cert known (cert_of x)) e) (certs.kept n.0.0 r.0 r.2);
            same =
                ap leaves m.4 ∙ leaves_append m.0 m.1 ∙ ap (λ l. l ++ leaves m.1) (ap leaves o ∙ ap (λ i. leaf i s.0.0.value ++ []) m.2.0)
                ∙ ap leaves r.4 ∙ leaves_append r.0 r.1 ∙ ap (λ l. leaves r.0 ++ l) (ap leaves d ∙ ap (λ i. leaf i n.0.1.value ++ []) r.3.0) ∙ append-nil (leaves r.0);
            good = λ g. good_left known r.0 r.1 (subst (AreGood known) r.4 (good_right known m.0 m.1 (subst (AreGood known) m.4 g)));
            silent = λ g. silent_left r.0 r.1 (subst HasNoOutput r.4 (silent_right m.0 m.1 (subst HasNoOutput m.4 g)));
          }

      bracketed_part : Turns known S (bracketed t.cert) part cert_of part_words
      bracketed_part = record {
        kept = λ c ts s. let m = inside c ts s in in_part (is_word (cert_of c)) c ts m.front refl (bracketed_keeps.kept c ts s) m.is m.same m.good m.silent;
      }

      pub part_turns : Turns known S part part cert_of part_words
      unfolding part
      part_turns =
          turn_either (turn (λ v ts h. inl h) (sign_part k.Auto t.auto (λ v. refl) refl))
          (turn_either (turn (λ v ts h. inr (inl h)) (sign_part k.Calc t.calc (λ v. refl) refl))
          (turn_either (turn (λ v ts h. inr (inr (inl h))) (sign_part k.Refl t.reflexive (λ v. refl) refl))
          (turn_either (turn (λ v ts h. inr (inr (inr (inl h)))) (sign_part k.Ring t.ring (λ v. refl) refl))
          (turn_either (turn (λ v ts h. inr (inr (inr (inr (inl h))))) (sign_part k.Range t.range (λ v. refl) refl))
          bracketed_part))))

      pub part_keeps : Keeps known S part cert_of part_words
      part_keeps = record { kept = part_turns.kept }

      -- Certificates ---------------------------------------------------------------------------------------------

      abbrev words : t.Cert → List Word
      words c = w.cert known (cert_of c)

      from_cert : (v : t.Cert) (ts : List Token) → OfShape certificate v ts → OfShape (rule t.cert) v ts
      unfolding body
      from_cert v ts h = close t.cert v ts h

      from_more : (v : t.Cert) (ts : List Token) → OfShape more_certs v ts → OfShape (rule t.cert) v ts
      unfolding certificate
      from_more v ts h = from_cert v ts (inr (inr (inr (inr h))))

      from_last : (v : t.Cert) (ts : List Token) → OfShape last_certs v ts → OfShape (rule t.cert) v ts
      unfolding more_certs
      from_last v ts h = from_more v ts (inr (inr (inr (inr (inr h)))))

      from_part : (v : t.Cert) (ts : List Token) → OfShape part v ts → OfShape (rule t.cert) v ts
      unfolding last_certs
      from_part v ts h = from_last v ts (inr (inr (inr (inr (inr (inr h))))))

      alone_cert : (j : Kind) (c : t.Cert) → Quiet j → words c ≡ plain j ∷ [] → ((v : t.Cert) (ts : List Token) → OfShape (sign j c) v ts → OfShape part v ts) → Turns known S (sign j c) (rule t.cert) cert_of words
      alone_cert j c quiet e f = turn (λ v ts h. from_part v ts (f v ts h)) (keeps_sign j c cert_of words quiet e)

      bracketed_cert : Turns known S (bracketed t.cert) (rule t.cert) cert_of words
      bracketed_cert = record {
        kept = λ c ts s.
            let m = inside c ts s in
            record { same = m.same ∙ m.is.same; fit = λ g. m.is.fit (m.good g); silent = λ g. m.is.silent (m.silent g); spelt = λ g. m.is.spelt (m.good g) };
      }

      parts_turn : Turns known S part (rule t.cert) cert_of words
      unfolding part
      parts_turn =
          turn_either (alone_cert k.Auto t.auto (λ v. refl) refl (λ v ts h. inl h))
          (turn_either (alone_cert k.Calc t.calc (λ v. refl) refl (λ v ts h. inr (inl h)))
          (turn_either (alone_cert k.Refl t.reflexive (λ v. refl) refl (λ v ts h. inr (inr (inl h))))
          (turn_either (alone_cert k.Ring t.ring (λ v. refl) refl (λ v ts h. inr (inr (inr (inl h)))))
          (turn_either (alone_cert k.Range t.range (λ v. refl) refl (λ v ts h. inr (inr (inr (inr (inl h))))))
          bracketed_cert))))

      in_brackets_keeps : {A B : Type 0} {a : Shape A} {view : A → B} {write : A → List Word} → Keeps known S a view write → Keeps known S (in_brackets a) view (λ v. w.bracketed (write v))
      in_brackets_keeps h = keeps_key k.OpenBracket (λ v. refl) (keeps_end k.CloseBracket (λ v. refl) h)

      template_whole : Keeps known S (placed (rule t.template)) expr_of (λ e. w.whole known (expr_of e))
      template_whole = keeps_placed templates

      arguments_keeps : Keeps known S arguments (map expr_of) (λ es. enclosed (commas (w.whole known) (map expr_of es)))
      unfolding arguments
      arguments_keeps =
          keeps_so (λ es. enclosed (commas (w.whole known) (map expr_of es))) (λ es ts s. ap enclosed (sym (commas_map expr_of (w.whole known) es)))
          (keeps_key k.OpenParen (λ v. refl) (keeps_end k.CloseParen (λ v. refl) (keeps_separated whole_keeps)))

      last_turn : Turns known S last_certs (rule t.cert) cert_of words
      unfolding last_certs
      last_turn =
          turn_either (turn (λ v ts h. from_last v ts (inl h)) (keeps_word k.Have (λ x. t.have x.0 x.1.0 x.1.1) cert_of words (λ x. s.have x.0 x.1.0 x.1.1) (λ v. refl) (λ x. refl) (λ x. refl) (keeps_seq (in_brackets_keeps whole_keeps) (keeps_seq part_keeps part_keeps))))
          (turn_either (turn (λ v ts h. from_last v ts (inr (inl h))) (keeps_word k.Not t.negation cert_of words s.negation (λ v. refl) (λ x. refl) (λ x. refl) part_keeps))
          (turn_either (turn (λ v ts h. from_last v ts (inr (inr (inl h)))) (keeps_word k.Contra t.contra cert_of words s.contra (λ v. refl) (λ x. refl) (λ x. refl) part_keeps))
          (turn_either (turn (λ v ts h. from_last v ts (inr (inr (inr (inl h))))) (keeps_word k.Fwd (λ x. t.fwd x.0 x.1.0 x.1.1) cert_of words (λ x. s.fwd x.0 x.1.0 x.1.1) (λ v. refl) (λ x. refl) (λ x. refl) (keeps_seq keeps_number (keeps_seq (in_brackets_keeps template_whole) part_keeps))))
          (turn_either (turn (λ v ts h. from_last v ts (inr (inr (inr (inr (inl h)))))) (keeps_word k.Rev (λ x. t.rev x.0 x.1.0 x.1.1) cert_of words (λ x. s.rev x.0 x.1.0 x.1.1) (λ v. refl) (λ x. refl) (λ x. refl) (keeps_seq keeps_number (keeps_seq (in_brackets_keeps template_whole) part_keeps))))
          (turn_either (turn (λ v ts h. from_last v ts (inr (inr (inr (inr (inr (inl h))))))) (keeps_word k.Axiom (λ x. t.instance x.0 x.1.0 x.1.1) cert_of words (λ x. s.instance x.0 x.1.0 x.1.1) (λ v. refl) (λ x. refl) (λ x. refl) (keeps_seq keeps_number (keeps_seq arguments_keeps part_keeps))))
          parts_turn)))))

      more_turn : Turns known S more_certs (rule t.cert) cert_of words
      unfolding more_certs
      more_turn =
          turn_either (turn (λ v ts h. from_more v ts (inl h)) (keeps_word k.Left t.left cert_of words s.left (λ v. refl) (λ x. refl) (λ x. refl) part_keeps))
          (turn_either (turn (λ v ts h. from_more v ts (inr (inl h))) (keeps_word k.Right t.right cert_of words s.right (λ v. refl) (λ x. refl) (λ x. refl) part_keeps))
          (turn_either (turn (λ v ts h. from_more v ts (inr (inr (inl h)))) (keeps_word k.Use (λ x. t.unpack x.0 x.1) cert_of words (λ x. s.unpack x.0 x.1) (λ v. refl) (λ x. refl) (λ x. refl) (keeps_seq keeps_number part_keeps)))
          (turn_either (turn (λ v ts h. from_more v ts (inr (inr (inr (inl h))))) (keeps_word k.Cases (λ x. t.cases x.0 x.1.0 x.1.1) cert_of words (λ x. s.cases x.0 x.1.0 x.1.1) (λ v. refl) (λ x. refl) (λ x. refl) (keeps_seq keeps_number (keeps_seq part_keeps part_keeps))))
          (turn_either (turn (λ v ts h. from_more v ts (inr (inr (inr (inr (inl h)))))) (keeps_word k.Split (λ x. t.split x.0 x.1.0 x.1.1) cert_of words (λ x. s.split x.0 x.1.0 x.1.1) (λ v. refl) (λ x. refl) (λ x. refl) (keeps_seq (in_brackets_keeps whole_keeps) (keeps_seq part_keeps part_keeps))))
          last_turn))))

      pub cert_turns : Turns known S certificate (rule t.cert) cert_of words
      unfolding certificate
      cert_turns =
          turn_either (turn (λ v ts h. from_cert v ts (inl h)) (keeps_word k.Hyp t.hyp cert_of words s.hyp (λ v. refl) (λ x. refl) (λ x. refl) keeps_number))
          (turn_either (turn (λ v ts h. from_cert v ts (inr (inl h))) (keeps_word k.Clash t.clash cert_of words s.clash (λ v. refl) (λ x. refl) (λ x. refl) keeps_number))
          (turn_either (turn (λ v ts h. from_cert v ts (inr (inr (inl h)))) (keeps_word k.Absurd (λ x. t.absurdity x.0 x.1) cert_of words (λ x. s.absurdity x.0 x.1) (λ v. refl) (λ x. refl) (λ x. refl) (keeps_seq keeps_number keeps_number)))
          (turn_either (turn (λ v ts h. from_cert v ts (inr (inr (inr (inl h))))) (keeps_word k.And (λ x. t.and x.0 x.1) cert_of words (λ x. s.and x.0 x.1) (λ v. refl) (λ x. refl) (λ x. refl) (keeps_seq part_keeps part_keeps)))
          more_turn)))

module _ (known : ℕ → Bool) where
  pub cert_kept : (d : ℕ) (c : t.Cert) (ts : List Token) → Within d t.cert c ts → Kept known (rule t.cert) cert_of (cert_of c) (w.cert known (cert_of c)) ts
  unfolding body
  cert_kept zero c ts h = absurd h
  cert_kept (suc d) c ts h = (cert_turns known (Within d) (expr_keeps known d) (template_keeps known d) (record { kept = cert_kept d })).kept c ts h

  pub cert_keeps : (d : ℕ) → Keeps known (Within d) (rule t.cert) cert_of (λ c. w.cert known (cert_of c))
  cert_keeps d = record { kept = cert_kept d }
