-- Summaries of certificates and states.
use Rattle.std.proofs.Common.{◌≡◌, ℕ, ◌+◌, ◌<◌, List, [], ◌++◌, map, Bool, Option, Some, None, refl, sym, arith, append_assoc}
use Rattle.std.specs.Prelude.{flat_map}
use Rattle.std.specs.List.{All}
use Rattle.std.proofs.lemmas.List.Elements.{All-nil}
use Rattle.cov_expr.specs.Term.{Term}
use Rattle.cov_expr.specs.Trees.{nodes}
use Rattle.cov_expr.specs.Words.{HasVarsBelow}
use Rattle.cov_expr.specs.declared.kind.Kind.{Kind}
use Rattle.cov_expr.specs.declared.kind.Kind.TheVariants as k
use Rattle.cov_grammar.specs.LookAhead.{kind_is}
use Rattle.cov_grammar.specs.PlacedTrees.{Placed, Cert, Proofs, State, expr, template, cert}
use Rattle.cov_grammar.specs.PlacedTrees as t
use Rattle.cov_grammar.specs.Shapes.{Shape, rule, seq, opt, act, placed, Sense}
use Rattle.cov_grammar.specs.Grammar.{◌▸◌, separated, listed, sign, number, name, whole, part, in_brackets, arguments, last_certs, more_certs, certificate, proof, proofs, types, state}
use Rattle.cov_ast.specs.Ready.{Use, uses_in, uses_in_type, uses_in_state, uses_in_cert, uses_in_proof}
use Rattle.cov_ast.specs.WellFormed.{IsCertInRange, AreTypesInRange, IsStateInRange, types_size, state_size}
use Rattle.cov_text.specs.GivenTrees.{expr_of, cert_of, proof_of, pair_of, state_of, state_or_none}
use Rattle.cov_text.proofs.UseLaws.{IsSilent, IsPlain}
use Rattle.cov_text.proofs.Summaries.{Summary, nothing, join, more, Kept}
use Rattle.cov_text.proofs.ShapeSummaries.{of_option, item, items, less, kept_items, IsSummary, kept_law, act_law, seq_law, alt_law, opt_law, placed_law, behind_law, closed_law, token_law, sign_law, name_law, separated_law, listed_law}
use Rattle.cov_text.proofs.TermSummaries.{of_expr, of_template}

abbrev pub of_cert : ℕ → Cert → Summary
of_cert n c = record { uses = uses_in_cert (cert_of c); size = 0; places = []; ids = IsCertInRange n n (cert_of c) }

abbrev pub of_proofs : ℕ → Proofs → Summary
of_proofs n ps = record { uses = flat_map uses_in_proof (map proof_of ps); size = 0; places = []; ids = All (λ p. IsCertInRange n n p.cert) (map proof_of ps) }

abbrev pub pair_item : ℕ → ℕ × Placed Term → Summary
pair_item n x = item uses_in_type (λ q. nodes q.1) (λ q. (q.0 < n) × HasVarsBelow q.1 n) (pair_of x)

abbrev pub of_pairs : ℕ → List (ℕ × Placed Term) → Summary
of_pairs n xs = record { uses = flat_map uses_in_type (map pair_of xs); size = types_size (map pair_of xs); places = []; ids = AreTypesInRange n n (map pair_of xs) }

abbrev pub of_state : ℕ → State → Summary
of_state n x = record { uses = uses_in_state (state_of x); size = state_size (state_of x); places = []; ids = IsStateInRange n n (state_of x) }

module _ (b : Bool) (n : ℕ) (inside : Sense) where
  abbrev IsPlainSummary : {A : Type 0} → Shape A → (A → Summary) → Type 0
  IsPlainSummary a g = IsSummary b n inside IsSilent a g

  -- a list of items, as it is viewed
  pub list_summary : {A B : Type 0} {a : Shape A} (h : A → B) (uses : B → List Use) (size : B → ℕ) (P : B → Type 0) (j : Kind) → IsPlain j → IsPlainSummary a (λ x. item uses size P (h x)) → IsPlainSummary (separated j a) (λ xs. less (items uses (λ y. size y + 1) P (map h xs)))
  list_summary h uses size P j p t =
      kept_law b n inside (λ xs. less (items uses (λ y. size y + 1) P (map h xs))) (separated_law b n inside j p t)
      (λ xs ids. let x = kept_items h uses (λ y. size y + 1) P xs ids in record { uses = x.uses; size = omega (arith, x.size); places = x.places; ids = x.ids })

  pub number_summary : IsPlainSummary number (λ c. more nothing)
  unfolding kind_is
  number_summary = act_law b n inside (λ x. x.value) (λ c. more nothing) (token_law b n inside k.Number refl) (λ x ids. record { uses = refl; size = omega arith; places = refl; ids = tt })

  module _ (te : IsPlainSummary (rule expr) (of_expr n)) where
    pub whole_summary : IsPlainSummary whole (λ x. of_expr n x.1)
    whole_summary = placed_law b n inside te

    pub option_summary : (j : Kind) → IsPlain j → IsPlainSummary (opt (j ▸ whole)) (of_option (λ x. more (of_expr n x.1)))
    option_summary j p = opt_law b n inside (behind_law b n inside j p whole_summary)

    in_brackets_summary : {A : Type 0} (a : Shape A) (g : A → Summary) → IsPlainSummary a g → IsPlainSummary (in_brackets a) (λ x. more (more (g x)))
    unfolding kind_is
    in_brackets_summary a g t = behind_law b n inside k.OpenBracket refl (closed_law b n inside k.CloseBracket refl t)

    -- Certificates ---------------------------------------------------------------------------------------------

    module _ (tt' : IsPlainSummary (rule template) (of_template n)) (tc : IsPlainSummary (rule cert) (of_cert n)) where
      line : {A : Type 0} {a : Shape A} {g : A → Summary} (j : Kind) → IsPlain j → (f : A → Cert) → IsPlainSummary a g → ((v : A) → (g v).ids → Kept (g v) (of_cert n (f v))) → IsPlainSummary (j ▸ act f a) (of_cert n)
      line j p f t e =
          kept_law b n inside (of_cert n) (behind_law b n inside j p (act_law b n inside f (of_cert n) t e))
          (λ c ids. record { uses = refl; size = omega arith; places = refl; ids = ids })

      word : (j : Kind) → IsPlain j → (c : Cert) → [] ≡ uses_in_cert (cert_of c) → IsCertInRange n n (cert_of c) → IsPlainSummary (sign j c) (of_cert n)
      word j p c e ids = sign_law b n inside j p c (of_cert n) (record { uses = e; size = omega arith; places = refl; ids = ids })

      part_summary : IsPlainSummary part (of_cert n)
      unfolding part kind_is
      part_summary =
          alt_law b n inside (word k.Auto refl t.auto refl tt)
          (alt_law b n inside (word k.Calc refl t.calc refl tt)
          (alt_law b n inside (word k.Refl refl t.reflexive refl tt)
          (alt_law b n inside (word k.Ring refl t.ring refl tt)
          (alt_law b n inside (word k.Range refl t.range refl tt)
          (kept_law b n inside (of_cert n) (behind_law b n inside k.OpenParen refl (closed_law b n inside k.CloseParen refl tc))
          (λ c ids. record { uses = refl; size = omega arith; places = refl; ids = ids }))))))

      arguments_summary : IsPlainSummary arguments (λ xs. record { uses = flat_map uses_in (map expr_of xs); size = 0; places = []; ids = All (λ e. HasVarsBelow e n) (map expr_of xs) })
      unfolding arguments kind_is
      arguments_summary =
          kept_law b n inside (λ xs. record { uses = flat_map uses_in (map expr_of xs); size = 0; places = []; ids = All (λ e. HasVarsBelow e n) (map expr_of xs) })
          (behind_law b n inside k.OpenParen refl (closed_law b n inside k.CloseParen refl (list_summary expr_of uses_in nodes (λ e. HasVarsBelow e n) k.Comma refl whole_summary)))
          (λ xs ids. record { uses = refl; size = omega arith; places = refl; ids = ids })

      two : IsPlainSummary (seq part part) (λ x. join (of_cert n x.0) (of_cert n x.1))
      two = seq_law b n inside part_summary part_summary

      in_threes : (e : Placed Term) (c d : Cert) → uses_in e.1 ++ (uses_in_cert (cert_of c) ++ uses_in_cert (cert_of d)) ≡ uses_in e.1 ++ uses_in_cert (cert_of c) ++ uses_in_cert (cert_of d)
      in_threes e c d = sym (append_assoc (uses_in e.1) (uses_in_cert (cert_of c)) (uses_in_cert (cert_of d)))

      last_summary : IsPlainSummary last_certs (of_cert n)
      unfolding last_certs kind_is
      last_summary =
          alt_law b n inside (line k.Have refl (λ x. t.have x.0 x.1.0 x.1.1) (seq_law b n inside (in_brackets_summary whole (λ x. of_expr n x.1) whole_summary) two) (λ x ids. record { uses = in_threes x.0 x.1.0 x.1.1; size = omega arith; places = refl; ids = (ids.0, ids.1.0, ids.1.1) }))
          (alt_law b n inside (line k.Not refl t.negation part_summary (λ x ids. record { uses = refl; size = omega arith; places = refl; ids = ids }))
          (alt_law b n inside (line k.Contra refl t.contra part_summary (λ x ids. record { uses = refl; size = omega arith; places = refl; ids = ids }))
          (alt_law b n inside (line k.Fwd refl (λ x. t.fwd x.0 x.1.0 x.1.1) (seq_law b n inside number_summary (seq_law b n inside (in_brackets_summary (placed (rule template)) (λ x. of_template n x.1) (placed_law b n inside tt')) part_summary)) (λ x ids. record { uses = refl; size = omega arith; places = refl; ids = ids.1 }))
          (alt_law b n inside (line k.Rev refl (λ x. t.rev x.0 x.1.0 x.1.1) (seq_law b n inside number_summary (seq_law b n inside (in_brackets_summary (placed (rule template)) (λ x. of_template n x.1) (placed_law b n inside tt')) part_summary)) (λ x ids. record { uses = refl; size = omega arith; places = refl; ids = ids.1 }))
          (alt_law b n inside (line k.Axiom refl (λ x. t.instance x.0 x.1.0 x.1.1) (seq_law b n inside number_summary (seq_law b n inside arguments_summary part_summary)) (λ x ids. record { uses = refl; size = omega arith; places = refl; ids = ids.1 }))
          part_summary)))))

      more_summary : IsPlainSummary more_certs (of_cert n)
      unfolding more_certs kind_is
      more_summary =
          alt_law b n inside (line k.Left refl t.left part_summary (λ x ids. record { uses = refl; size = omega arith; places = refl; ids = ids }))
          (alt_law b n inside (line k.Right refl t.right part_summary (λ x ids. record { uses = refl; size = omega arith; places = refl; ids = ids }))
          (alt_law b n inside (line k.Use refl (λ x. t.unpack x.0 x.1) (seq_law b n inside number_summary part_summary) (λ x ids. record { uses = refl; size = omega arith; places = refl; ids = ids.1 }))
          (alt_law b n inside (line k.Cases refl (λ x. t.cases x.0 x.1.0 x.1.1) (seq_law b n inside number_summary two) (λ x ids. record { uses = refl; size = omega arith; places = refl; ids = ids.1 }))
          (alt_law b n inside (line k.Split refl (λ x. t.split x.0 x.1.0 x.1.1) (seq_law b n inside (in_brackets_summary whole (λ x. of_expr n x.1) whole_summary) two) (λ x ids. record { uses = in_threes x.0 x.1.0 x.1.1; size = omega arith; places = refl; ids = (ids.0, ids.1.0, ids.1.1) }))
          last_summary))))

      pub certificate_summary : IsPlainSummary certificate (of_cert n)
      unfolding certificate kind_is
      certificate_summary =
          alt_law b n inside (line k.Hyp refl t.hyp number_summary (λ x ids. record { uses = refl; size = omega arith; places = refl; ids = tt }))
          (alt_law b n inside (line k.Clash refl t.clash number_summary (λ x ids. record { uses = refl; size = omega arith; places = refl; ids = tt }))
          (alt_law b n inside (line k.Absurd refl (λ x. t.absurdity x.0 x.1) (seq_law b n inside number_summary number_summary) (λ x ids. record { uses = refl; size = omega arith; places = refl; ids = tt }))
          (alt_law b n inside (line k.And refl (λ x. t.and x.0 x.1) two (λ x ids. record { uses = refl; size = omega arith; places = refl; ids = ids }))
          more_summary)))

      proof_summary : IsPlainSummary proof (λ p. item uses_in_proof (λ q. 0) (λ q. IsCertInRange n n q.cert) (proof_of p))
      unfolding proof kind_is
      proof_summary =
          kept_law b n inside (λ p. item uses_in_proof (λ q. 0) (λ q. IsCertInRange n n q.cert) (proof_of p))
          (seq_law b n inside number_summary (behind_law b n inside k.Colon refl (placed_law b n inside tc)))
          (λ x ids. record { uses = refl; size = omega arith; places = refl; ids = ids.1 })

      pub proofs_summary : IsPlainSummary proofs (of_proofs n)
      unfolding proofs kind_is
      proofs_summary =
          listed_law b n inside (of_proofs n) (record { uses = refl; size = omega arith; places = refl; ids = All-nil (λ q. IsCertInRange n n q.cert) })
          (kept_law b n inside (of_proofs n)
          (behind_law b n inside k.By refl (behind_law b n inside k.OpenBrace refl (closed_law b n inside k.CloseBrace refl (list_summary proof_of uses_in_proof (λ q. 0) (λ q. IsCertInRange n n q.cert) k.Comma refl proof_summary))))
          (λ x ids. record { uses = refl; size = omega arith; places = refl; ids = ids }))

    -- States ---------------------------------------------------------------------------------------------------

    type_summary : (j : Kind) → IsPlain j → IsPlainSummary (seq name (j ▸ whole)) (pair_item n)
    type_summary j p =
        kept_law b n inside (pair_item n) (seq_law b n inside (name_law b n inside) (behind_law b n inside j p whole_summary))
        (λ x ids. record { uses = refl; size = omega arith; places = refl; ids = ids })

    types_summary : IsPlainSummary types (of_pairs n)
    unfolding types kind_is
    types_summary =
        listed_law b n inside (of_pairs n) (record { uses = refl; size = omega arith; places = refl; ids = All-nil (λ q. (q.0 < n) × HasVarsBelow q.1 n) })
        (kept_law b n inside (of_pairs n)
        (behind_law b n inside k.Semicolon refl (list_summary pair_of uses_in_type (λ q. nodes q.1) (λ q. (q.0 < n) × HasVarsBelow q.1 n) k.Comma refl (type_summary k.Colon refl)))
        (λ xs ids. record { uses = refl; size = omega arith; places = refl; ids = ids }))

    abbrev of_preds : List (Placed Term) → Summary
    of_preds xs = less (items uses_in (λ e. nodes e + 1) (λ e. HasVarsBelow e n) (map expr_of xs))

    preds_summary : IsPlainSummary (listed (separated k.Comma whole)) of_preds
    unfolding kind_is
    preds_summary =
        listed_law b n inside of_preds (record { uses = refl; size = omega arith; places = refl; ids = All-nil (λ e. HasVarsBelow e n) })
        (list_summary expr_of uses_in nodes (λ e. HasVarsBelow e n) k.Comma refl whole_summary)

    pub state_summary : IsPlainSummary state (of_state n)
    unfolding state kind_is
    state_summary =
        act_law b n inside (λ x. record { at = x.0.at; preds = x.1.0; types = x.1.1 }) (of_state n)
        (seq_law b n inside (token_law b n inside k.OpenBrace refl) (closed_law b n inside k.CloseBrace refl (seq_law b n inside preds_summary types_summary)))
        (λ x ids. record { uses = refl; size = omega arith; places = refl; ids = record { preds = ids.1.0; types = ids.1.1 } })

    kept_state : (x : Option State) → (of_option (λ v. more (of_state n v)) x).ids → Kept (of_option (λ v. more (of_state n v)) x) (record { uses = uses_in_state (state_or_none x); size = state_size (state_or_none x); places = []; ids = IsStateInRange n n (state_or_none x) })
    kept_state None ids = record { uses = refl; size = omega arith; places = refl; ids = record { preds = All-nil (λ e. HasVarsBelow e n); types = All-nil (λ q. (q.0 < n) × HasVarsBelow q.1 n) } }
    kept_state (Some v) ids = record { uses = refl; size = omega arith; places = refl; ids = ids }

    pub state_option_summary : (j : Kind) → IsPlain j → IsPlainSummary (opt (j ▸ state)) (λ x. record { uses = uses_in_state (state_or_none x); size = state_size (state_or_none x); places = []; ids = IsStateInRange n n (state_or_none x) })
    state_option_summary j p =
        kept_law b n inside (λ x. record { uses = uses_in_state (state_or_none x); size = state_size (state_or_none x); places = []; ids = IsStateInRange n n (state_or_none x) })
        (opt_law b n inside (behind_law b n inside j p state_summary)) kept_state

    -- new types of variables
    pub retype_summary : (j : Kind) → IsPlain j → IsPlainSummary (j ▸ seq name (k.As ▸ whole)) (λ x. item uses_in_type (λ q. nodes q.1 + 1) (λ q. (q.0 < n) × HasVarsBelow q.1 n) (pair_of x))
    unfolding kind_is
    retype_summary j p =
        kept_law b n inside (λ x. item uses_in_type (λ q. nodes q.1 + 1) (λ q. (q.0 < n) × HasVarsBelow q.1 n) (pair_of x)) (behind_law b n inside j p (type_summary k.As refl))
        (λ x ids. record { uses = refl; size = omega arith; places = refl; ids = ids })
