-- The certificates, states, statements and declarations in a text, by the ids of their names, are of words.
use Rattle.std.proofs.Common.{ℕ, zero, suc, List, [], ◌∷◌, map, Option, Some, None, arith}
use Rattle.std.specs.Prelude.{option_map}
use Rattle.std.specs.List.{All}
use Rattle.std.proofs.lemmas.List.Elements.{All-nil, All-head, All-tail, All-map, All-weaker}
use Rattle.cov_expr.specs.Term.{Term}
use Rattle.cov_expr.specs.Words.{IsWord, HasWords}
use Rattle.cov_expr.specs.declared.kind.Kind.{Kind}
use Rattle.cov_expr.specs.declared.kind.Kind.TheVariants as k
use Rattle.cov_grammar.specs.declared.token.Token.{Token}
use Rattle.cov_grammar.specs.PlacedTrees.{Placed, Class, Var, Lock, Cert, Proofs, Retypes, State, Stm, Block, Thread, Program, stms, expr, template, cert, block}
use Rattle.cov_grammar.specs.PlacedTrees as t
use Rattle.cov_grammar.specs.Shapes.{Shape, rule, seq, opt, many, act, placed, Sense}
use Rattle.cov_grammar.specs.Grammar.{◌▸◌, ◌◂◌, sign, name, whole, part, in_brackets, arguments, last_certs, more_certs, certificate, proof, proofs, types, state, retype, assigned, branched, looped, statement, braces, low_or, class, var_decl, lock_decl, thread_decl, version_of, program, body}
use Rattle.cov_grammar.specs.Spells.{Is, Within}
use Rattle.cov_ast.specs.Syntax as syntax
use Rattle.cov_ast.specs.Plain.{class_term}
use Rattle.cov_ast.specs.Declarations.{invariant_term}
use Rattle.cov_ast.specs.WellFormed.{CertHasWords, StateHasWords, TypeHasWords, StmHasWords, BlockHasWords, AreOfWords}
use Rattle.cov_text.specs.GivenTrees.{expr_of, cert_of, proof_of, pair_of, state_of, state_or_none, proofs_of, stm_of, block_of, stms_of, class_of, var_of, lock_of, thread_of}
use Rattle.policy_class.specs.Resolved.{resolved_var, resolved_term, resolved_type, resolved_state, resolved_cert, resolved_proof, resolved_stm, resolved_block, resolved_class, resolved_variable, resolved_lock, resolved_thread}
use Rattle.text_law.proofs.NumberWords.{HaveWords}
use Rattle.text_law.proofs.WordShapes.{OfOption, Gives, any_law, act_law, seq_law, alt_law, opt_law, many_law, placed_law, behind_law, closed_law, sign_law, separated_law, listed_law}
use Rattle.text_law.proofs.WordTerms.{expr_words, template_words}

-- The ids of variables and locks are given by two functions.
module _ (to_var to_lock : ℕ → ℕ) where
  abbrev IsOfWords : Term → Type 0
  IsOfWords e = HasWords (resolved_term to_var to_lock e)

  abbrev IsWholeOfWords : Placed Term → Type 0
  IsWholeOfWords e = IsOfWords e.1

  abbrev IsCertOfWords : Cert → Type 0
  IsCertOfWords c = CertHasWords (resolved_cert to_var to_lock (cert_of c))

  abbrev IsProofOfWords : ℕ × Placed Cert → Type 0
  IsProofOfWords p = IsCertOfWords p.1.1

  abbrev AreProofsOfWords : Proofs → Type 0
  AreProofsOfWords ps = All (λ p. CertHasWords p.cert) (map (resolved_proof to_var to_lock) (map proof_of ps))

  abbrev IsTypeOfWords : ℕ × Placed Term → Type 0
  IsTypeOfWords x = IsOfWords x.1.1

  abbrev IsStateOfWords : State → Type 0
  IsStateOfWords x = StateHasWords (resolved_state to_var to_lock (state_of x))

  abbrev IsOptionOfWords : Option (Placed Term) → Type 0
  IsOptionOfWords q = TypeHasWords (option_map (resolved_term to_var to_lock) (option_map expr_of q))

  abbrev IsStateOptionOfWords : Option State → Type 0
  IsStateOptionOfWords x = StateHasWords (resolved_state to_var to_lock (state_or_none x))

  abbrev IsBlockOfWords : Block → Type 0
  IsBlockOfWords b = BlockHasWords (resolved_block to_var to_lock (block_of b))

  -- a statement with its certificates
  abbrev IsStmOfWords : Stm → Type 0
  IsStmOfWords c = StmHasWords (resolved_stm to_var to_lock (stm_of c)) × All (λ p. CertHasWords p.cert) (map (resolved_proof to_var to_lock) (proofs_of c))

  -- Lists ------------------------------------------------------------------------------------------------------

  terms_words : (es : List (Placed Term)) → All IsWholeOfWords es → All HasWords (map (resolved_term to_var to_lock) (map expr_of es))
  terms_words es all = All-map HasWords (resolved_term to_var to_lock) (map expr_of es) (All-map IsOfWords expr_of es all)

  abbrev HasTypeWords : ℕ × Term → Type 0
  HasTypeWords x = HasWords x.1

  types_words : (ts : List (ℕ × Placed Term)) → All IsTypeOfWords ts → All HasTypeWords (map (resolved_type to_var to_lock) (map pair_of ts))
  types_words ts all =
      All-map HasTypeWords (resolved_type to_var to_lock) (map pair_of ts) (All-map (λ x. HasTypeWords (resolved_type to_var to_lock x)) pair_of ts all)

  abbrev HasCertWords : syntax.Proof → Type 0
  HasCertWords p = CertHasWords p.cert

  proofs_words : (ps : Proofs) → All IsProofOfWords ps → AreProofsOfWords ps
  proofs_words ps all =
      All-map HasCertWords (resolved_proof to_var to_lock) (map proof_of ps) (All-map (λ p. HasCertWords (resolved_proof to_var to_lock p)) proof_of ps all)

  no_proofs : All HasCertWords []
  no_proofs = All-nil HasCertWords

  stms_words : (ss : List (Placed Stm)) → All (λ s. IsStmOfWords s.1) ss → BlockHasWords (resolved_block to_var to_lock (stms_of (stms ss)))
  stms_words [] all = tt
  stms_words (s ∷ ss) all =
      let first = All-head (λ x. IsStmOfWords x.1) s ss all in
      (first.0, first.1, stms_words ss (All-tail (λ x. IsStmOfWords x.1) s ss all))

  module _ (inside : Sense) (te : Gives inside (rule expr) IsOfWords) where
    whole_words : Gives inside whole IsWholeOfWords
    whole_words = placed_law inside te

    in_brackets_words : {A : Type 0} {a : Shape A} {P : A → Type 0} → Gives inside a P → Gives inside (in_brackets a) P
    in_brackets_words t = behind_law inside k.OpenBracket (closed_law inside k.CloseBracket t)

    option_words : (j : Kind) → Gives inside (opt (j ▸ whole)) (OfOption IsWholeOfWords)
    option_words j = opt_law inside (behind_law inside j whole_words)

    of_option : (q : Option (Placed Term)) → OfOption IsWholeOfWords q → IsOptionOfWords q
    of_option None h = tt
    of_option (Some e) h = h

    -- States -----------------------------------------------------------------------------------------------------

    type_words : (j : Kind) → Gives inside (seq name (j ▸ whole)) (λ x. Unit {0} × IsTypeOfWords x)
    type_words j = seq_law inside (any_law inside) (behind_law inside j whole_words)

    abbrev HasType : ℕ × Placed Term → Type 0
    HasType x = Unit {0} × IsTypeOfWords x

    all_types : (ts : List (ℕ × Placed Term)) → All HasType ts → All IsTypeOfWords ts
    all_types ts all = All-weaker HasType IsTypeOfWords (λ x h. h.1) ts all

    state_types_words : Gives inside types (All HasType)
    unfolding types
    state_types_words = listed_law inside HasType (behind_law inside k.Semicolon (separated_law inside k.Comma (type_words k.Colon)))

    state_words : Gives inside state IsStateOfWords
    unfolding state
    state_words =
        act_law inside (λ x. record { at = x.0.at; preds = x.1.0; types = x.1.1 }) IsStateOfWords
        (seq_law inside (any_law inside)
        (closed_law inside k.CloseBrace (seq_law inside (listed_law inside IsWholeOfWords (separated_law inside k.Comma whole_words)) state_types_words)))
        (λ x h. record { preds = terms_words x.1.0 h.1.0; types = types_words x.1.1 (all_types x.1.1 h.1.1) })

    state_option_words : (j : Kind) → Gives inside (opt (j ▸ state)) (OfOption IsStateOfWords)
    state_option_words j = opt_law inside (behind_law inside j state_words)

    of_state_option : (x : Option State) → OfOption IsStateOfWords x → IsStateOptionOfWords x
    of_state_option None h = record { preds = All-nil HasWords; types = All-nil HasTypeWords }
    of_state_option (Some x) h = h

    -- Declarations ----------------------------------------------------------------------------------------------

    abbrev IsClassOfWords : Class → Type 0
    IsClassOfWords c = HasWords (class_term (resolved_class to_var to_lock (class_of c)))

    class_words : Gives inside class IsClassOfWords
    unfolding class
    class_words =
        alt_law inside (behind_law inside k.Low (act_law inside low_or IsClassOfWords (option_words k.When) by))
        (sign_law inside k.High t.high IsClassOfWords (omega arith))
      where
        by : (x : Option (Placed Term)) → OfOption IsWholeOfWords x → IsClassOfWords (low_or x)
        by None h = omega arith
        by (Some e) h = h

    abbrev IsVarOfWords : Var → Type 0
    IsVarOfWords v = IsClassOfWords v.class

    var_words : Gives inside var_decl IsVarOfWords
    unfolding var_decl
    var_words =
        act_law inside (λ x. record { name = x.0; class = x.1 }) IsVarOfWords
        (behind_law inside k.Var (closed_law inside k.Semicolon (seq_law inside (any_law inside) (behind_law inside k.Colon class_words))))
        (λ x h. h.1)

    abbrev IsLockOfWords : Lock → Type 0
    IsLockOfWords l = HasWords (invariant_term (option_map (resolved_term to_var to_lock) (option_map expr_of l.inv)))

    invariant_words : (q : Option (Placed Term)) → OfOption IsWholeOfWords q → HasWords (invariant_term (option_map (resolved_term to_var to_lock) (option_map expr_of q)))
    invariant_words None h = omega arith
    invariant_words (Some e) h = h

    lock_words : Gives inside lock_decl IsLockOfWords
    unfolding lock_decl
    lock_words =
        act_law inside (λ x. record { name = x.0; nowrite = x.1.0; hide = x.1.1.0; inv = x.1.1.1 }) IsLockOfWords
        (behind_law inside k.Lock (closed_law inside k.Semicolon
        (seq_law inside (any_law inside) (seq_law inside (any_law inside) (seq_law inside (any_law inside) (option_words k.Inv))))))
        (λ x h. invariant_words x.1.1.1 h.1.1.1)

    -- Certificates ----------------------------------------------------------------------------------------------

    module _ (tt' : Gives inside (rule template) IsOfWords) (tc : Gives inside (rule cert) IsCertOfWords) where
      word : (j : Kind) (c : Cert) → IsCertOfWords c → Gives inside (sign j c) IsCertOfWords
      word j c h = sign_law inside j c IsCertOfWords h

      line : {A : Type 0} {a : Shape A} {P : A → Type 0} (j : Kind) (f : A → Cert) → Gives inside a P → ((v : A) → P v → IsCertOfWords (f v))
          → Gives inside (j ▸ act f a) IsCertOfWords
      line j f t e = behind_law inside j (act_law inside f IsCertOfWords t e)

      part_words : Gives inside part IsCertOfWords
      unfolding part
      part_words =
          alt_law inside (word k.Auto t.auto tt)
          (alt_law inside (word k.Calc t.calc tt)
          (alt_law inside (word k.Refl t.reflexive tt)
          (alt_law inside (word k.Ring t.ring tt)
          (alt_law inside (word k.Range t.range tt)
          (behind_law inside k.OpenParen (closed_law inside k.CloseParen tc))))))

      two : Gives inside (seq part part) (λ x. IsCertOfWords x.0 × IsCertOfWords x.1)
      two = seq_law inside part_words part_words

      arguments_words : Gives inside arguments (All IsWholeOfWords)
      unfolding arguments
      arguments_words = behind_law inside k.OpenParen (closed_law inside k.CloseParen (separated_law inside k.Comma whole_words))

      template_part_words : Gives inside (in_brackets (placed (rule template))) IsWholeOfWords
      template_part_words = in_brackets_words (placed_law inside tt')

      last_words : Gives inside last_certs IsCertOfWords
      unfolding last_certs
      last_words =
          alt_law inside (line k.Have (λ x. t.have x.0 x.1.0 x.1.1) (seq_law inside (in_brackets_words whole_words) two) (λ x h. (h.0, h.1.0, h.1.1)))
          (alt_law inside (line k.Not t.negation part_words (λ x h. h))
          (alt_law inside (line k.Contra t.contra part_words (λ x h. h))
          (alt_law inside (line k.Fwd (λ x. t.fwd x.0 x.1.0 x.1.1) (seq_law inside (any_law inside) (seq_law inside template_part_words part_words)) (λ x h. h.1))
          (alt_law inside (line k.Rev (λ x. t.rev x.0 x.1.0 x.1.1) (seq_law inside (any_law inside) (seq_law inside template_part_words part_words)) (λ x h. h.1))
          (alt_law inside
          (line k.Axiom (λ x. t.instance x.0 x.1.0 x.1.1) (seq_law inside (any_law inside) (seq_law inside arguments_words part_words))
          (λ x h. (terms_words x.1.0 h.1.0, h.1.1)))
          part_words)))))

      more_words : Gives inside more_certs IsCertOfWords
      unfolding more_certs
      more_words =
          alt_law inside (line k.Left t.left part_words (λ x h. h))
          (alt_law inside (line k.Right t.right part_words (λ x h. h))
          (alt_law inside (line k.Use (λ x. t.unpack x.0 x.1) (seq_law inside (any_law inside) part_words) (λ x h. h.1))
          (alt_law inside (line k.Cases (λ x. t.cases x.0 x.1.0 x.1.1) (seq_law inside (any_law inside) two) (λ x h. h.1))
          (alt_law inside (line k.Split (λ x. t.split x.0 x.1.0 x.1.1) (seq_law inside (in_brackets_words whole_words) two) (λ x h. (h.0, h.1.0, h.1.1)))
          last_words))))

      certificate_words : Gives inside certificate IsCertOfWords
      unfolding certificate
      certificate_words =
          alt_law inside (line k.Hyp t.hyp (any_law inside) (λ x h. tt))
          (alt_law inside (line k.Clash t.clash (any_law inside) (λ x h. tt))
          (alt_law inside (line k.Absurd (λ x. t.absurdity x.0 x.1) (any_law inside) (λ x h. tt))
          (alt_law inside (line k.And (λ x. t.and x.0 x.1) two (λ x h. h))
          more_words)))

      abbrev HasProof : ℕ × Placed Cert → Type 0
      HasProof p = Unit {0} × IsProofOfWords p

      proof_words : Gives inside proof HasProof
      unfolding proof
      proof_words = seq_law inside (any_law inside) (behind_law inside k.Colon (placed_law inside tc))

      the_proofs : Gives inside proofs (All HasProof)
      unfolding proofs
      the_proofs =
          listed_law inside HasProof (behind_law inside k.By (behind_law inside k.OpenBrace (closed_law inside k.CloseBrace (separated_law inside k.Comma proof_words))))

      of_proofs : (ps : Proofs) → All HasProof ps → AreProofsOfWords ps
      of_proofs ps all = proofs_words ps (All-weaker HasProof IsProofOfWords (λ p h. h.1) ps all)

      -- Statements ----------------------------------------------------------------------------------------------

      module _ (tb : Gives inside (rule block) IsBlockOfWords) where
        retypes_words : Gives inside (many retype) (All HasType)
        unfolding retype
        retypes_words = many_law inside (behind_law inside k.Retype (type_words k.As))

        assigned_words : Gives inside assigned (λ x. IsWholeOfWords x.0 × (OfOption IsWholeOfWords x.1.0 × (All HasType x.1.1.0 × All HasProof x.1.1.1)))
        unfolding assigned
        assigned_words =
            seq_law inside (behind_law inside k.Assign whole_words)
            (seq_law inside (option_words k.As) (seq_law inside retypes_words (closed_law inside k.Semicolon the_proofs)))

        branched_words : Gives inside branched IsStmOfWords
        unfolding branched
        branched_words =
            act_law inside (λ x. t.branch x.0 x.1.0 x.1.1.0 x.1.1.1.0 x.1.1.1.1) IsStmOfWords
            (seq_law inside whole_words (seq_law inside tb (seq_law inside (behind_law inside k.Else tb) (seq_law inside (state_option_words k.Join) the_proofs))))
            (λ x h. ((h.0, h.1.0, h.1.1.0, of_state_option x.1.1.1.0 h.1.1.1.0), of_proofs x.1.1.1.1 h.1.1.1.1))

        looped_words : Gives inside looped IsStmOfWords
        unfolding looped
        looped_words =
            act_law inside (λ x. t.loop x.0 x.1.0 x.1.1.0 x.1.1.1) IsStmOfWords
            (seq_law inside whole_words (seq_law inside (state_option_words k.Inv) (seq_law inside tb the_proofs)))
            (λ x h. ((h.0, of_state_option x.1.0 h.1.0, h.1.1.0), of_proofs x.1.1.1 h.1.1.1))

        -- a statement of one line behind its word
        line_words : {A : Type 0} {j : Kind} {a : Shape A} {f : A → Stm} {P : A → Type 0} → Gives inside a P → ((v : A) → P v → IsStmOfWords (f v))
            → Gives inside (j ▸ act f a ◂ k.Semicolon) IsStmOfWords
        line_words {j = j} {f = f} t e = behind_law inside j (closed_law inside k.Semicolon (act_law inside f IsStmOfWords t e))

        statement_words : Gives inside statement IsStmOfWords
        unfolding statement
        statement_words =
            alt_law inside (behind_law inside k.Skip (sign_law inside k.Semicolon t.skip IsStmOfWords (tt, no_proofs)))
            (alt_law inside
            (act_law inside (λ x. t.assign x.0 x.1.0 x.1.1.0 x.1.1.1.0 x.1.1.1.1) IsStmOfWords (seq_law inside (any_law inside) assigned_words)
            (λ x h. (
              (h.1.0, of_option x.1.1.0 h.1.1.0, types_words x.1.1.1.0 (all_types x.1.1.1.0 h.1.1.1.0)),
              of_proofs x.1.1.1.1 h.1.1.1.1,
            )))
            (alt_law inside (line_words (any_law inside) (λ x h. (tt, no_proofs)))
            (alt_law inside (line_words (seq_law inside (any_law inside) the_proofs) (λ x h. (tt, of_proofs x.1 h.1)))
            (alt_law inside (behind_law inside k.If branched_words)
            (alt_law inside (behind_law inside k.While looped_words)
            (alt_law inside (line_words (seq_law inside state_words the_proofs) (λ x h. (h.0, of_proofs x.1 h.1)))
            (line_words (seq_law inside whole_words the_proofs) (λ x h. (h.0, of_proofs x.1 h.1)))))))))

        braces_words : Gives inside braces IsBlockOfWords
        unfolding braces
        braces_words =
            act_law inside (λ x. t.block x.0.at x.1.1.at (stms x.1.0)) IsBlockOfWords
            (seq_law inside (any_law inside) (seq_law inside (many_law inside (placed_law inside statement_words)) (any_law inside)))
            (λ x h. stms_words x.1.0 h.1.0)

  -- Rules at every depth -----------------------------------------------------------------------------------------

  -- what the rules inside spell is of words
  record AreRulesOfWords (inside : Sense) : Type 0 where
    expr : Gives inside (rule expr) IsOfWords
    template : Gives inside (rule template) IsOfWords
    cert : Gives inside (rule cert) IsCertOfWords
    block : Gives inside (rule block) IsBlockOfWords

  module _ (ids : (x : ℕ) → IsWord (resolved_var to_var to_lock x)) where
    rule_words : (d : ℕ) → AreRulesOfWords (Within d)
    unfolding body
    rule_words zero = record {
      expr = record { of = λ v ts words s. absurd s };
      template = record { of = λ v ts words s. absurd s };
      cert = record { of = λ v ts words s. absurd s };
      block = record { of = λ v ts words s. absurd s };
    }
    rule_words (suc d) =
        let x = rule_words d in
        record {
          expr = record { of = (expr_words to_var to_lock (Within d) ids x.expr).of };
          template = record { of = (template_words to_var to_lock (Within d) ids x.template).of };
          cert = record { of = (certificate_words (Within d) x.expr x.template x.cert).of };
          block = record { of = (braces_words (Within d) x.expr x.template x.cert x.block).of };
        }

    -- Programs ----------------------------------------------------------------------------------------------------

    -- the declarations of a tree, by the ids of their names
    abbrev IsProgramOfWords : List (List ℕ) → Program → Type 0
    IsProgramOfWords ns p =
        AreOfWords (map (resolved_variable to_var to_lock) (map (var_of ns) p.vars)) (map (resolved_lock to_var to_lock) (map (lock_of ns) p.locks))
        (map (resolved_thread to_var to_lock) (map (thread_of ns) p.threads))

    thread_words : (d : ℕ) → Gives (Within d) thread_decl (λ h. IsBlockOfWords h.body)
    unfolding thread_decl
    thread_words d =
        act_law (Within d)
        (λ x. record { name = x.0; modes = record { assume_nowrite = x.1.0.0; assume_hide = x.1.0.1; guarantee_nowrite = x.1.1.0.0; guarantee_hide = x.1.1.0.1 }; body = x.1.1.1 })
        (λ h. IsBlockOfWords h.body)
        (behind_law (Within d) k.Thread (seq_law (Within d) (any_law (Within d)) (seq_law (Within d) (any_law (Within d)) (seq_law (Within d) (any_law (Within d)) (rule_words d).block))))
        (λ x h. h.1.1.1)

    made_words : (ns : List (List ℕ)) (p : Program) → All (λ v. HasWords (class_term (resolved_class to_var to_lock (class_of v.class)))) p.vars
        → All (λ l. HasWords (invariant_term (option_map (resolved_term to_var to_lock) (option_map expr_of l.inv)))) p.locks → All (λ h. IsBlockOfWords h.body) p.threads
        → IsProgramOfWords ns p
    made_words ns p vars locks threads = record {
      classes =
          All-map (λ v. HasWords (class_term v.class)) (resolved_variable to_var to_lock) (map (var_of ns) p.vars)
          (All-map (λ v. HasWords (class_term (resolved_class to_var to_lock v.class))) (var_of ns) p.vars vars);
      invariants =
          All-map (λ l. HasWords (invariant_term l.inv)) (resolved_lock to_var to_lock) (map (lock_of ns) p.locks)
          (All-map (λ l. HasWords (invariant_term (option_map (resolved_term to_var to_lock) l.inv))) (lock_of ns) p.locks locks);
      bodies =
          All-map (λ h. BlockHasWords h.body) (resolved_thread to_var to_lock) (map (thread_of ns) p.threads)
          (All-map (λ h. BlockHasWords (resolved_block to_var to_lock h.body)) (thread_of ns) p.threads threads);
    }

    program_law : (ns : List (List ℕ)) (d : ℕ) → Gives (Within d) program (IsProgramOfWords ns)
    unfolding program
    program_law ns d =
        act_law (Within d) (λ x. record { version = version_of x.0; vars = x.1.0; locks = x.1.1.0; threads = x.1.1.1 }) (IsProgramOfWords ns)
        (seq_law (Within d) (any_law (Within d))
        (seq_law (Within d) (many_law (Within d) (var_words (Within d) (rule_words d).expr))
        (seq_law (Within d) (many_law (Within d) (lock_words (Within d) (rule_words d).expr)) (many_law (Within d) (thread_words d)))))
        (λ x h. made_words ns (record { version = version_of x.0; vars = x.1.0; locks = x.1.1.0; threads = x.1.1.1 }) h.1.0 h.1.1.0 h.1.1.1)

    -- what such tokens spell is of words, by the ids of its names
    pub program_words : (ns : List (List ℕ)) (p : Program) (ts : List Token) → HaveWords ts → Is program p ts → IsProgramOfWords ns p
    program_words ns p ts words is = (program_law ns is.0).of p ts words is.1
