-- Certificates put into the statements of a text that is read: other tokens, which spell the program with them, places aside.
use Rattle.std.proofs.Common.{◌≡◌, ℕ, zero, suc, ◌==◌, List, [], ◌∷◌, ◌++◌, map, Bool, true, false, Option, Some, None, option_map, unwrap_or, refl, sym, ap, subst, ◌∙◌, inl, inr, if◌then◌else◌, eqb-true}
use Rattle.cov_expr.specs.declared.kind.Kind.{Kind}
use Rattle.cov_expr.specs.declared.kind.Kind.TheVariants as k
use Rattle.cov_grammar.specs.declared.token.Token.{Token}
use Rattle.cov_grammar.specs.PlacedTrees as t
use Rattle.cov_grammar.specs.PlacedTrees.{Placed, stms}
use Rattle.cov_grammar.specs.Shapes.{Shape, token, rule, seq, alt, opt, many, act, placed, place, Each, Spells}
use Rattle.cov_grammar.specs.Grammar.{◌▸◌, ◌◂◌, separated, whole, name, named, proof, proofs, state, retype, assigned, branched, looped, statement, braces, body, var_decl, lock_decl, two_modes, thread_decl, version, version_of, program}
use Rattle.cov_grammar.specs.Spells.{Within, Is}
use Rattle.cov_grammar.proofs.Senses.{OfShape, close, spread}
use Rattle.cov_ast.specs.Syntax as s
use Rattle.cov_ast.specs.Syntax.{Cert, Proof}
use Rattle.cov_text.specs.GivenTrees.{expr_of, pair_of, proof_of, state_or_none, stm_of, proofs_of, block_of, stms_of}
use Rattle.cov_print.specs.Unplaced.{unplaced_stm, unplaced_block}
use Rattle.cov_print.proofs.Written as w
use Rattle.cov_print.proofs.Keeps.{two}
use Rattle.annotate.specs.WithCertificates.{chosen_for, for_others, with_certs, with_proofs, with_proofs_stm}
use Rattle.annotate.proofs.SpeltCerts.{AreClean, clean_append, clean_left, clean_right, clean_word, IsNewProof, new_piece, Piece, token_of}

-- What is put in -----------------------------------------------------------------------------------------------

-- the proofs of a statement with chosen certificates; `skip` and `lock` have no proofs
abbrev pub proofs_with : s.Stm → List (ℕ × Cert) → List Proof → List Proof
proofs_with s.skip cs qs = qs
proofs_with (s.lock l) cs qs = qs
proofs_with _ cs qs = with_certs cs qs

module _ (chosen : (place : ℕ) → List (ℕ × Cert)) where
  abbrev pub stm_with : s.Stm → s.Stm
  stm_with c = with_proofs_stm (λ d at proofs. proofs_with d (chosen at) proofs) c

  abbrev pub block_with : s.Block → s.Block
  block_with b = with_proofs (λ d at proofs. proofs_with d (chosen at) proofs) b

-- Changes ------------------------------------------------------------------------------------------------------

-- Tokens of a text spell a value that looks so.
pub record Remade (known : ℕ → Bool) (Quiet : Type 0) {A B : Type 0} (a : Shape A) (view : A → B) (b : B) : Type 0 where
  pub value : A
  pub tokens : List Token
  pub spelled : OfShape a value tokens
  pub looks : view value ≡ b
  pub clean : AreClean known Quiet tokens

-- Whatever tokens of a text spell, others spell with the change.
record Changes (known : ℕ → Bool) (Quiet : Type 0) (d : ℕ) {A B : Type 0} (a : Shape A) (view looks : A → B) : Type 0 where
  remade : (v : A) (ts : List Token) → AreClean known Quiet ts → Spells (Within d) a v ts → Remade known Quiet a view (looks v)

module _ {known : ℕ → Bool} {Quiet : Type 0} {d : ℕ} where
  ch_same : {A B : Type 0} (a : Shape A) (view : A → B) → Changes known Quiet d a view view
  ch_same a view = record { remade = λ v ts c h. record { value = v; tokens = ts; spelled = spread a v ts (d, h); looks = refl; clean = c } }

  ch_seq : {A B C D : Type 0} {a : Shape A} {b : Shape B} {f p : A → C} {g q : B → D} → Changes known Quiet d a f p → Changes known Quiet d b g q
      → Changes known Quiet d (seq a b) (two f g) (two p q)
  ch_seq h i = record {
    remade = λ v ts c s.
        let e = subst (AreClean known Quiet) s.4 c in
        let m = h.remade v.0 s.0 (clean_left known Quiet s.0 s.1 e) s.2 in
        let n = i.remade v.1 s.1 (clean_right known Quiet s.0 s.1 e) s.3 in
        record {
          value = (m.value, n.value);
          tokens = m.tokens ++ n.tokens;
          spelled = (m.tokens, n.tokens, m.spelled, n.spelled, refl);
          looks = λ j. (m.looks j, n.looks j);
          clean = clean_append known Quiet m.tokens n.tokens m.clean n.clean;
        };
  }

  ch_act : {A B C D : Type 0} {a : Shape A} {f p : A → C} (make : A → B) (view looks : B → D) (made : C → D) → ((x : A) → view (make x) ≡ made (f x))
      → ((x : A) → looks (make x) ≡ made (p x)) → Changes known Quiet d a f p → Changes known Quiet d (act make a) view looks
  ch_act make view looks made seen will h = record {
    remade = λ v ts c s.
        let m = h.remade s.0 ts c s.2 in
        record {
          value = make m.value;
          tokens = m.tokens;
          spelled = (m.value, refl, m.spelled);
          looks = seen m.value ∙ ap made m.looks ∙ sym (will s.0) ∙ ap looks s.1;
          clean = m.clean;
        };
  }

  ch_alt : {A B : Type 0} {a b : Shape A} {view looks : A → B} → Changes known Quiet d a view looks → Changes known Quiet d b view looks
      → Changes known Quiet d (alt a b) view looks
  ch_alt {A} {B} {a} {b} {view} {looks} h i = record { remade = by }
    where
      by : (v : A) (ts : List Token) → AreClean known Quiet ts → Spells (Within d) (alt a b) v ts → Remade known Quiet (alt a b) view (looks v)
      by v ts c (inl s) = let m = h.remade v ts c s in record { value = m.value; tokens = m.tokens; spelled = inl m.spelled; looks = m.looks; clean = m.clean }
      by v ts c (inr s) = let m = i.remade v ts c s in record { value = m.value; tokens = m.tokens; spelled = inr m.spelled; looks = m.looks; clean = m.clean }

  ch_key : {A B : Type 0} {a : Shape A} {view looks : A → B} (j : Kind) → Changes known Quiet d a view looks → Changes known Quiet d (j ▸ a) view looks
  ch_key {view = view} {looks = looks} j h = ch_act (λ x. x.1) view looks (λ x. x.1) (λ x. refl) (λ x. refl) (ch_seq (ch_same (token j) (λ x. x)) h)

  ch_end : {A B : Type 0} {a : Shape A} {view looks : A → B} (j : Kind) → Changes known Quiet d a view looks → Changes known Quiet d (a ◂ j) view looks
  ch_end {view = view} {looks = looks} j h = ch_act (λ x. x.0) view looks (λ x. x.0) (λ x. refl) (λ x. refl) (ch_seq h (ch_same (token j) (λ x. x)))

  ch_many : {A B : Type 0} {a : Shape A} {view looks : A → B} → Changes known Quiet d a view looks → Changes known Quiet d (many a) (map view) (map looks)
  ch_many {A} {B} {a} {view} {looks} h = record { remade = by }
    where
      by : (vs : List A) (ts : List Token) → AreClean known Quiet ts → Each (Spells (Within d) a) vs ts → Remade known Quiet (many a) (map view) (map looks vs)
      by [] ts c s = record { value = []; tokens = []; spelled = refl; looks = refl; clean = tt }
      by (v ∷ vs) ts c s =
          let e = subst (AreClean known Quiet) s.4 c in
          let m = h.remade v s.0 (clean_left known Quiet s.0 s.1 e) s.2 in
          let n = by vs s.1 (clean_right known Quiet s.0 s.1 e) s.3 in
          record {
            value = m.value ∷ n.value;
            tokens = m.tokens ++ n.tokens;
            spelled = (m.tokens, n.tokens, m.spelled, n.spelled, refl);
            looks = λ j. m.looks j ∷ n.looks j;
            clean = clean_append known Quiet m.tokens n.tokens m.clean n.clean;
          }

  -- by the place of the first token
  ch_placed : {A B : Type 0} {a : Shape A} {view : A → B} {looks : ℕ → A → B} → ((at : ℕ) → Changes known Quiet d a view (looks at))
      → Changes known Quiet d (placed a) (λ p. view p.1) (λ p. looks p.0 p.1)
  ch_placed h = record {
    remade = λ v ts c s.
        let m = (h v.0).remade v.1 ts c s.1 in
        record { value = (place m.tokens, m.value); tokens = m.tokens; spelled = (refl, m.spelled); looks = m.looks; clean = m.clean };
  }

-- Proofs -------------------------------------------------------------------------------------------------------

module _ (known : ℕ → Bool) (Quiet : Type 0) where
  abbrev Pieces : List Proof → Type 0
  Pieces [] = Unit {0}
  Pieces (q ∷ qs) = Piece known Quiet q × Pieces qs

  abbrev pub AreNewProofs : List (ℕ × Cert) → Type 0
  AreNewProofs [] = Unit {0}
  AreNewProofs (c ∷ cs) = IsNewProof known Quiet c × AreNewProofs cs

  others_new : (n : ℕ) (cs : List (ℕ × Cert)) → AreNewProofs cs → AreNewProofs (for_others n cs)
  others_new n [] h = tt
  others_new n (c ∷ cs) h = by (c.0 == n) (others_new n cs h.1)
    where
      by : (b : Bool) → AreNewProofs (for_others n cs) → AreNewProofs (if b then for_others n cs else c ∷ for_others n cs)
      by true g = g
      by false g = (h.0, g)

  chosen_new : (n : ℕ) (c : Cert) (cs : List (ℕ × Cert)) → AreNewProofs cs → chosen_for cs n ≡ Some c → IsNewProof known Quiet (n, c)
  chosen_new n c [] h e = cc
  chosen_new n c (x ∷ cs) h e = by (x.0 == n) refl e (chosen_new n c cs h.1)
    where
      by : (b : Bool) → (x.0 == n) ≡ b → (if b then Some x.1 else chosen_for cs n) ≡ Some c → (chosen_for cs n ≡ Some c → IsNewProof known Quiet (n, c)) → IsNewProof known Quiet (n, c)
      by true g i rest =
          let same : x.1 ≡ c = cc in
          subst (λ y. IsNewProof known Quiet (y, c)) (eqb-true x.0 n g) (subst (λ y. IsNewProof known Quiet (x.0, y)) same h.0)
      by false g i rest = rest i

  new_pieces : (cs : List (ℕ × Cert)) → AreNewProofs cs → Pieces (map Rattle.annotate.specs.WithCertificates.proof_of cs)
  new_pieces [] h = tt
  new_pieces (c ∷ cs) h = (new_piece known Quiet c h.0, new_pieces cs h.1)

  with_pieces : (cs : List (ℕ × Cert)) (qs : List Proof) → AreNewProofs cs → Pieces qs → Pieces (with_certs cs qs)
  with_pieces cs [] h g = new_pieces cs h
  with_pieces cs (q ∷ qs) h g = (by (chosen_for cs q.number) refl, with_pieces (for_others q.number cs) qs (others_new q.number cs h) g.1)
    where
      by : (o : Option Cert) → chosen_for cs q.number ≡ o → Piece known Quiet (record { number = q.number; cert = unwrap_or o q.cert })
      by None e = g.0
      by (Some c) e = new_piece known Quiet (q.number, c) (chosen_new q.number c cs h e)

  abbrev lone : Kind → Token
  lone j = token_of (w.plain j)

  of_key : {A : Type 0} (j : Kind) (a : Shape A) (v : A) (ts : List Token) → OfShape a v ts → OfShape (j ▸ a) v (lone j ∷ ts)
  of_key j a v ts h = ((lone j, v), refl, (lone j ∷ [], ts, (refl, refl), h, refl))

  of_end : {A : Type 0} (j : Kind) (a : Shape A) (v : A) (ts : List Token) → OfShape a v ts → OfShape (a ◂ j) v (ts ++ lone j ∷ [])
  of_end j a v ts h = ((v, lone j), refl, (ts, lone j ∷ [], h, (refl, refl), refl))

  more_made : (qs : List Proof) → Pieces qs → Remade known Quiet (many (k.Comma ▸ proof)) (map proof_of) qs
  more_made [] h = record { value = []; tokens = []; spelled = refl; looks = refl; clean = tt }
  more_made (q ∷ qs) h =
      let m = h.0 in
      let n = more_made qs h.1 in
      record {
        value = m.value ∷ n.value;
        tokens = (lone k.Comma ∷ m.tokens) ++ n.tokens;
        spelled = (lone k.Comma ∷ m.tokens, n.tokens, of_key k.Comma proof m.value m.tokens m.spelled, n.spelled, refl);
        looks = λ j. m.looks j ∷ n.looks j;
        clean = (clean_word known Quiet k.Comma refl, clean_append known Quiet m.tokens n.tokens m.clean n.clean);
      }

  proofs_made : (qs : List Proof) → Pieces qs → Remade known Quiet proofs (map proof_of) qs
  unfolding proofs
  proofs_made [] h = record { value = []; tokens = []; spelled = (None, refl, refl); looks = refl; clean = tt }
  proofs_made (q ∷ qs) h =
      let m = h.0 in
      let n = more_made qs h.1 in
      let vs = m.value ∷ n.value in
      let us = m.tokens ++ n.tokens in
      record {
        value = vs;
        tokens = lone k.By ∷ lone k.OpenBrace ∷ (us ++ lone k.CloseBrace ∷ []);
        spelled = (
          Some vs,
          refl,
          of_key k.By (k.OpenBrace ▸ separated k.Comma proof ◂ k.CloseBrace) vs (lone k.OpenBrace ∷ (us ++ lone k.CloseBrace ∷ []))
              (of_key k.OpenBrace (separated k.Comma proof ◂ k.CloseBrace) vs (us ++ lone k.CloseBrace ∷ [])
              (of_end k.CloseBrace (separated k.Comma proof) vs us ((m.value, n.value), refl, (m.tokens, n.tokens, m.spelled, n.spelled, refl)))),
        );
        looks = λ j. m.looks j ∷ n.looks j;
        clean = (
          clean_word known Quiet k.By refl,
          (
            clean_word known Quiet k.OpenBrace refl,
            clean_append known Quiet us (lone k.CloseBrace ∷ []) (clean_append known Quiet m.tokens n.tokens m.clean n.clean) (clean_word known Quiet k.CloseBrace refl, tt),
          ),
        );
      }

  -- what tokens of a text spell gives these
  record Gives (d : ℕ) {A : Type 0} (a : Shape A) (P : A → Type 0) : Type 0 where
    gives : (v : A) (ts : List Token) → AreClean known Quiet ts → Spells (Within d) a v ts → P v

  abbrev OnePiece : ℕ × Placed t.Cert → Type 0
  OnePiece v = Piece known Quiet (proof_of v)

  abbrev SomePieces : List (ℕ × Placed t.Cert) → Type 0
  SomePieces vs = Pieces (map proof_of vs)

  module _ {d : ℕ} where
    gives_key : {A : Type 0} {a : Shape A} {P : A → Type 0} (j : Kind) → Gives d a P → Gives d (j ▸ a) P
    gives_key {P = P} j h = record {
      gives = λ v ts c s. subst P s.1 (h.gives s.0.1 s.2.1 (clean_right known Quiet s.2.0 s.2.1 (subst (AreClean known Quiet) s.2.4 c)) s.2.3);
    }

    gives_end : {A : Type 0} {a : Shape A} {P : A → Type 0} (j : Kind) → Gives d a P → Gives d (a ◂ j) P
    gives_end {P = P} j h = record {
      gives = λ v ts c s. subst P s.1 (h.gives s.0.0 s.2.0 (clean_left known Quiet s.2.0 s.2.1 (subst (AreClean known Quiet) s.2.4 c)) s.2.2);
    }

  module _ (d : ℕ) where
    proof_gives : Gives d proof OnePiece
    proof_gives = record { gives = λ v ts c s. record { value = v; tokens = ts; spelled = spread proof v ts (d, s); looks = refl; clean = c } }

    each_gives : (vs : List (ℕ × Placed t.Cert)) (ts : List Token) → AreClean known Quiet ts → Each (Spells (Within d) (k.Comma ▸ proof)) vs ts → SomePieces vs
    each_gives [] ts c s = tt
    each_gives (v ∷ vs) ts c s =
        let e = subst (AreClean known Quiet) s.4 c in
        ((gives_key k.Comma proof_gives).gives v s.0 (clean_left known Quiet s.0 s.1 e) s.2, each_gives vs s.1 (clean_right known Quiet s.0 s.1 e) s.3)

    separated_gives : Gives d (separated k.Comma proof) SomePieces
    separated_gives = record {
      gives = λ v ts c s.
          let e = subst (AreClean known Quiet) s.2.4 c in
          subst SomePieces s.1
          (proof_gives.gives s.0.0 s.2.0 (clean_left known Quiet s.2.0 s.2.1 e) s.2.2, each_gives s.0.1 s.2.1 (clean_right known Quiet s.2.0 s.2.1 e) s.2.3);
    }

    proofs_give : Gives d proofs SomePieces
    unfolding proofs
    proofs_give = record { gives = λ v ts c s. by s.0 v s.1 ts c s.2 }
      where
        by : (o : Option (List (ℕ × Placed t.Cert))) (v : List (ℕ × Placed t.Cert)) → Rattle.cov_grammar.specs.Grammar.none_or o ≡ v → (ts : List Token) → AreClean known Quiet ts
            → Spells (Within d) (opt (k.By ▸ k.OpenBrace ▸ separated k.Comma proof ◂ k.CloseBrace)) o ts → SomePieces v
        by None v e ts c s = subst SomePieces e tt
        by (Some vs) v e ts c s = subst SomePieces e ((gives_key k.By (gives_key k.OpenBrace (gives_end k.CloseBrace separated_gives))).gives vs ts c s)

    ch_proofs : (cs : List (ℕ × Cert)) → AreNewProofs cs → Changes known Quiet d proofs (map proof_of) (λ ps. with_certs cs (map proof_of ps))
    ch_proofs cs new = record {
      remade = λ v ts c s. proofs_made (with_certs cs (map proof_of v)) (with_pieces cs (map proof_of v) new (proofs_give.gives v ts c s));
    }

-- Statements and blocks ----------------------------------------------------------------------------------------

abbrev seen : t.Stm → s.Stm × List Proof
seen x = (unplaced_stm (stm_of x), proofs_of x)

of_items : List (s.Stm × List Proof) → s.Block
of_items [] = s.done
of_items (x ∷ xs) = s.more 0 x.0 x.1 (of_items xs)

module _ (known : ℕ → Bool) (Quiet : Type 0) (chosen : (place : ℕ) → List (ℕ × Cert)) (new : (place : ℕ) → AreNewProofs known Quiet (chosen place)) where
  -- a statement at a place
  abbrev looks : (at : ℕ) → t.Stm → s.Stm × List Proof
  looks at x = (unplaced_stm (stm_with chosen (stm_of x)), proofs_with (stm_of x) (chosen at) (proofs_of x))

  abbrev block_seen : t.Block → s.Block
  block_seen b = unplaced_block (block_of b)

  abbrev block_looks : t.Block → s.Block
  block_looks b = unplaced_block (block_with chosen (block_of b))

  items_seen : (xs : List (Placed t.Stm)) → unplaced_block (stms_of (stms xs)) ≡ of_items (map (λ x. seen x.1) xs)
  unfolding of_items
  items_seen [] = refl
  items_seen (x ∷ xs) = ap (s.more 0 (unplaced_stm (stm_of x.1)) (proofs_of x.1)) (items_seen xs)

  items_look : (xs : List (Placed t.Stm)) → unplaced_block (block_with chosen (stms_of (stms xs))) ≡ of_items (map (λ x. looks x.0 x.1) xs)
  unfolding of_items
  items_look [] = refl
  items_look (x ∷ xs) = ap (s.more 0 (looks x.0 x.1).0 (looks x.0 x.1).1) (items_look xs)

  module _ (d : ℕ) (blocks : Changes known Quiet d (rule t.block) block_seen block_looks) (at : ℕ) where
    abbrev put_in_proofs : Changes known Quiet d proofs (map proof_of) (λ ps. with_certs (chosen at) (map proof_of ps))
    put_in_proofs = ch_proofs known Quiet d (chosen at) (new at)

    assign_changes : Changes known Quiet d (act (λ x. t.assign x.0 x.1.0 x.1.1.0 x.1.1.1.0 x.1.1.1.1) (seq name assigned)) seen (looks at)
    unfolding assigned
    assign_changes =
        ch_act (λ x. t.assign x.0 x.1.0 x.1.1.0 x.1.1.1.0 x.1.1.1.1) seen (looks at) (λ x. (s.assign x.0 x.1.0 x.1.1.0 x.1.1.1.0, x.1.1.1.1)) (λ x. refl) (λ x. refl)
        (ch_seq (ch_same name (λ x. x))
        (ch_seq (ch_same (k.Assign ▸ whole) expr_of)
        (ch_seq (ch_same (opt (k.As ▸ whole)) (option_map expr_of)) (ch_seq (ch_same (many retype) (map pair_of)) (ch_end k.Semicolon put_in_proofs)))))

    branch_changes : Changes known Quiet d (k.If ▸ branched) seen (looks at)
    unfolding branched
    branch_changes =
        ch_key k.If
        (ch_act (λ x. t.branch x.0 x.1.0 x.1.1.0 x.1.1.1.0 x.1.1.1.1) seen (looks at) (λ x. (s.branch x.0 x.1.0 x.1.1.0 x.1.1.1.0, x.1.1.1.1)) (λ x. refl) (λ x. refl)
        (ch_seq (ch_same whole expr_of) (ch_seq blocks (ch_seq (ch_key k.Else blocks) (ch_seq (ch_same (opt (k.Join ▸ state)) state_or_none) put_in_proofs)))))

    loop_changes : Changes known Quiet d (k.While ▸ looped) seen (looks at)
    unfolding looped
    loop_changes =
        ch_key k.While
        (ch_act (λ x. t.loop x.0 x.1.0 x.1.1.0 x.1.1.1) seen (looks at) (λ x. (s.loop x.0 x.1.0 x.1.1.0, x.1.1.1)) (λ x. refl) (λ x. refl)
        (ch_seq (ch_same whole expr_of) (ch_seq (ch_same (opt (k.Inv ▸ state)) state_or_none) (ch_seq blocks put_in_proofs))))

    -- a statement behind a word, with proofs behind its only part
    part_changes : {A : Type 0} (j : Kind) (a : Shape A) (make : A × List (ℕ × Placed t.Cert) → t.Stm)
        → ((x : A) (ps : List (ℕ × Placed t.Cert)) → seen (make (x, ps)) ≡ ((seen (make (x, []))).0, map proof_of ps))
        → ((x : A) (ps : List (ℕ × Placed t.Cert)) → looks at (make (x, ps)) ≡ ((seen (make (x, []))).0, with_certs (chosen at) (map proof_of ps)))
        → Changes known Quiet d (j ▸ act make (seq a proofs) ◂ k.Semicolon) seen (looks at)
    part_changes j a make before after =
        ch_key j
        (ch_end k.Semicolon
        (ch_act make seen (looks at) (λ x. ((seen (make (x.0, []))).0, x.1)) (λ x. before x.0 x.1) (λ x. after x.0 x.1) (ch_seq (ch_same a (λ x. x)) put_in_proofs)))

    statement_changes : Changes known Quiet d statement seen (looks at)
    unfolding statement
    statement_changes =
        ch_alt (ch_key k.Skip (ch_act (λ x. t.skip) seen (looks at) (λ x. (s.skip, [])) (λ x. refl) (λ x. refl) (ch_same (token k.Semicolon) (λ x. x))))
        (ch_alt assign_changes
        (ch_alt (ch_key k.Lock (ch_end k.Semicolon (ch_act t.lock seen (looks at) (λ x. (s.lock x, [])) (λ x. refl) (λ x. refl) (ch_same name (λ x. x)))))
        (ch_alt (part_changes _ name _ (λ x ps. refl) (λ x ps. refl))
        (ch_alt branch_changes
        (ch_alt loop_changes
        (ch_alt (part_changes _ state _ (λ x ps. refl) (λ x ps. refl)) (part_changes _ whole _ (λ x ps. refl) (λ x ps. refl))))))))

  braces_change : (d : ℕ) → Changes known Quiet d (rule t.block) block_seen block_looks → Changes known Quiet d braces block_seen block_looks
  unfolding braces of_items
  braces_change d blocks =
      ch_act (λ x. t.block x.0.at x.1.1.at (stms x.1.0)) block_seen block_looks (λ x. of_items x.1.0) (λ x. items_seen x.1.0) (λ x. items_look x.1.0)
      (ch_seq (ch_same (token k.OpenBrace) (λ x. x)) (ch_seq (ch_many (ch_placed (statement_changes d blocks))) (ch_same (token k.CloseBrace) (λ x. x))))

  block_remade : (d : ℕ) (b : t.Block) (ts : List Token) → AreClean known Quiet ts → Within d t.block b ts → Remade known Quiet (rule t.block) block_seen (block_looks b)
  unfolding body
  block_remade zero b ts c h = absurd h
  block_remade (suc d) b ts c h =
      let m = (braces_change d (record { remade = block_remade d })).remade b ts c h in
      record { value = m.value; tokens = m.tokens; spelled = close t.block m.value m.tokens m.spelled; looks = m.looks; clean = m.clean }

  blocks_change : (d : ℕ) → Changes known Quiet d (rule t.block) block_seen block_looks
  blocks_change d = record { remade = block_remade d }

-- Threads and programs -----------------------------------------------------------------------------------------

-- a thread without places, its name as a number
abbrev pub Shown : Type 0
Shown = ℕ × (t.Modes × s.Block)

abbrev pub shown : t.Thread → Shown
shown h = (h.name.0, (h.modes, unplaced_block (block_of h.body)))

module _ (chosen : (u place : ℕ) → List (ℕ × Cert)) where
  abbrev pub thread_looks : (u : ℕ) → t.Thread → Shown
  thread_looks u h = (h.name.0, (h.modes, unplaced_block (block_with (chosen u) (block_of h.body))))

  abbrev pub threads_look : (u : ℕ) → List t.Thread → List Shown
  threads_look u [] = []
  threads_look u (h ∷ hs) = thread_looks u h ∷ threads_look (suc u) hs

abbrev pub ShownProgram : Type 0
ShownProgram = ℕ × (List t.Var × (List t.Lock × List Shown))

abbrev pub program_shown : t.Program → ShownProgram
program_shown p = (p.version, (p.vars, (p.locks, map shown p.threads)))

abbrev pub program_looks : (chosen : (u place : ℕ) → List (ℕ × Cert)) → t.Program → ShownProgram
program_looks chosen p = (p.version, (p.vars, (p.locks, threads_look chosen 0 p.threads)))

module _ (known : ℕ → Bool) (Quiet : Type 0) (chosen : (u place : ℕ) → List (ℕ × Cert)) (new : (u place : ℕ) → AreNewProofs known Quiet (chosen u place)) where
  thread_changes : (d u : ℕ) → Changes known Quiet d thread_decl shown (thread_looks chosen u)
  unfolding thread_decl
  thread_changes d u =
      ch_act
      (λ x. record { name = x.0; modes = record { assume_nowrite = x.1.0.0; assume_hide = x.1.0.1; guarantee_nowrite = x.1.1.0.0; guarantee_hide = x.1.1.0.1 }; body = x.1.1.1 }) shown
      (thread_looks chosen u)
      (λ x. (x.0, (record { assume_nowrite = x.1.0.0; assume_hide = x.1.0.1; guarantee_nowrite = x.1.1.0.0; guarantee_hide = x.1.1.0.1 }, x.1.1.1))) (λ x. refl) (λ x. refl)
      (ch_key k.Thread
      (ch_seq (ch_same named (λ x. x.0))
      (ch_seq (ch_same (two_modes k.Assume) (λ x. x)) (ch_seq (ch_same (two_modes k.Guarantee) (λ x. x)) (blocks_change known Quiet (chosen u) (new u) d)))))

  threads_remade : (d u : ℕ) (hs : List t.Thread) (ts : List Token) → AreClean known Quiet ts → Each (Spells (Within d) thread_decl) hs ts
      → Remade known Quiet (many thread_decl) (map shown) (threads_look chosen u hs)
  threads_remade d u [] ts c s = record { value = []; tokens = []; spelled = refl; looks = refl; clean = tt }
  threads_remade d u (h ∷ hs) ts c s =
      let e = subst (AreClean known Quiet) s.4 c in
      let m = (thread_changes d u).remade h s.0 (clean_left known Quiet s.0 s.1 e) s.2 in
      let n = threads_remade d (suc u) hs s.1 (clean_right known Quiet s.0 s.1 e) s.3 in
      record {
        value = m.value ∷ n.value;
        tokens = m.tokens ++ n.tokens;
        spelled = (m.tokens, n.tokens, m.spelled, n.spelled, refl);
        looks = λ j. m.looks j ∷ n.looks j;
        clean = clean_append known Quiet m.tokens n.tokens m.clean n.clean;
      }

  program_changes : (d : ℕ) → Changes known Quiet d program program_shown (program_looks chosen)
  unfolding program
  program_changes d =
      ch_act (λ x. record { version = version_of x.0; vars = x.1.0; locks = x.1.1.0; threads = x.1.1.1 }) program_shown (program_looks chosen) (λ x. x) (λ x. refl) (λ x. refl)
      (ch_seq (ch_same (opt version) version_of)
      (ch_seq (ch_same (many var_decl) (λ x. x))
      (ch_seq (ch_same (many lock_decl) (λ x. x)) (record { remade = threads_remade d 0 }))))

  -- other tokens spell the program with what is chosen
  pub program_remade : (p : t.Program) (ts : List Token) → AreClean known Quiet ts → Is program p ts → Remade known Quiet program program_shown (program_looks chosen p)
  program_remade p ts c is = (program_changes is.0).remade p ts c is.1
