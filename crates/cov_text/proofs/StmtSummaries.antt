-- Summaries of statements.
use Rattle.std.proofs.Common.{◌≡◌, ℕ, zero, suc, ◌+◌, ◌≤◌, ◌<◌, List, [], ◌∷◌, ◌++◌, map, Bool, true, false, Option, Some, None, refl, sym, ap, ◌∙◌, arith, append_assoc, append-nil}
use Rattle.std.specs.Prelude.{flat_map, option_map}
use Rattle.std.specs.List.{All}
use Rattle.std.proofs.lemmas.List.Elements.{All-nil}
use Rattle.cov_expr.specs.Term.{Term}
use Rattle.cov_expr.specs.Trees.{nodes}
use Rattle.cov_expr.specs.Words.{HasVarsBelow}
use Rattle.cov_expr.specs.declared.expr.TheConstants.{HOLE}
use Rattle.cov_expr.specs.declared.kind.Kind.{Kind}
use Rattle.cov_expr.specs.declared.kind.Kind.TheVariants as k
use Rattle.cov_grammar.specs.LookAhead.{kind_is}
use Rattle.cov_grammar.specs.PlacedTrees.{Placed, Proofs, Retypes, State, Stm, Block, stms, expr, template, cert, block}
use Rattle.cov_grammar.specs.PlacedTrees as t
use Rattle.cov_grammar.specs.Shapes.{Shape, rule, seq, opt, many, act, Sense}
use Rattle.cov_grammar.specs.Grammar.{◌▸◌, ◌◂◌, sign, name, whole, proofs, retype, assigned, branched, looped, statement, braces, body}
use Rattle.cov_grammar.specs.Spells.{Within}
use Rattle.cov_ast.specs.Ready.{Use, as_variable, uses_in, uses_in_type, uses_in_option, uses_in_state, uses_in_proof, uses_in_stm, uses_in_block}
use Rattle.cov_ast.specs.WellFormed.{IsCertInRange, IsTypeInRange, IsStateInRange, IsStmInRange, IsBlockInRange, type_size, state_size, stm_size, block_size, places, places_within}
use Rattle.cov_text.specs.Uses.{declares, is_lock}
use Rattle.cov_text.specs.GivenTrees.{expr_of, pair_of, state_or_none, proofs_of, proof_of, stm_of, block_of, stms_of}
use Rattle.cov_text.proofs.UseLaws.{IsSilent, IsPlain}
use Rattle.cov_text.proofs.Summaries.{Summary, join, more, at, Kept}
use Rattle.cov_text.proofs.ShapeSummaries.{all, of_option, kept_items, IsSummary, IsSummaryAt, kept_law, act_law, seq_law, many_law, placed_at_law, behind_law, closed_law, first_law, token_law, sign_law, lock_name_law, at_act, at_alt, at_name}
use Rattle.cov_text.proofs.TermSummaries.{of_expr, of_template, expr_summary, template_summary}
use Rattle.cov_text.proofs.CertSummaries.{of_cert, of_proofs, of_pairs, whole_summary, option_summary, certificate_summary, proofs_summary, state_summary, state_option_summary, retype_summary}

abbrev pub of_option_expr : ℕ → Option (Placed Term) → Summary
of_option_expr n q = record { uses = uses_in_option (option_map expr_of q); size = type_size (option_map expr_of q); places = []; ids = IsTypeInRange n n (option_map expr_of q) }

abbrev pub of_state_option : ℕ → Option State → Summary
of_state_option n x = record { uses = uses_in_state (state_or_none x); size = state_size (state_or_none x); places = []; ids = IsStateInRange n n (state_or_none x) }

abbrev pub of_stm : ℕ → Stm → Summary
of_stm n v = record { uses = uses_in_stm (stm_of v) (proofs_of v); size = stm_size (stm_of v); places = places_within (stm_of v); ids = IsStmInRange n n (stm_of v) × All (λ p. IsCertInRange n n p.cert) (proofs_of v) }

abbrev pub of_block : ℕ → Block → Summary
of_block n v = record { uses = uses_in_block (block_of v); size = block_size (block_of v); places = places (block_of v); ids = IsBlockInRange n n (block_of v) }

abbrev of_stms : ℕ → List (Placed Stm) → Summary
of_stms n ss = record { uses = uses_in_block (stms_of (stms ss)); size = block_size (stms_of (stms ss)); places = places (stms_of (stms ss)); ids = IsBlockInRange n n (stms_of (stms ss)) }

in_fives : (a b c d e : List Use) → a ++ (b ++ (c ++ (d ++ e))) ≡ a ++ b ++ c ++ d ++ e
in_fives a b c d e = sym (append_assoc a b (c ++ (d ++ e)) ∙ refl) ∙ (sym (append_assoc (a ++ b) c (d ++ e)) ∙ sym (append_assoc ((a ++ b) ++ c) d e))

in_fours : (a b c d : List Use) → a ++ (b ++ (c ++ d)) ≡ a ++ b ++ c ++ d
in_fours a b c d = sym (append_assoc a b (c ++ d)) ∙ sym (append_assoc (a ++ b) c d)

kept_option : (n : ℕ) (q : Option (Placed Term)) → (of_option (λ x. more (of_expr n x.1)) q).ids → Kept (of_option (λ x. more (of_expr n x.1)) q) (of_option_expr n q)
kept_option n None ids = record { uses = refl; size = omega arith; places = refl; ids = tt }
kept_option n (Some x) ids = record { uses = refl; size = omega arith; places = refl; ids = ids }

kept_stms : (n : ℕ) (ss : List (Placed Stm)) → (all (λ s. at s.0 (more (of_stm n s.1))) ss).ids → Kept (all (λ s. at s.0 (more (of_stm n s.1))) ss) (of_stms n ss)
kept_stms n [] ids = record { uses = refl; size = omega arith; places = refl; ids = tt }
kept_stms n (s ∷ ss) ids =
    let rest = kept_stms n ss ids.1 in
    record {
      uses = ap (λ us. uses_in_stm (stm_of s.1) (proofs_of s.1) ++ us) rest.uses;
      size = omega (arith, rest.size);
      places = ap (λ ps. (s.0 ∷ places_within (stm_of s.1)) ++ ps) rest.places;
      ids = (ids.0.0, ids.0.1, rest.ids);
    }

pub option_expr_summary : (b : Bool) (n : ℕ) (inside : Sense) → IsSummary b n inside IsSilent (rule expr) (of_expr n) → (j : Kind) → IsPlain j → IsSummary b n inside IsSilent (opt (j ▸ whole)) (of_option_expr n)
option_expr_summary b n inside te j p = kept_law b n inside (of_option_expr n) (option_summary b n inside te j p) (kept_option n)

module _ (n : ℕ) (inside : Sense) where
  abbrev IsPlainSummary : {A : Type 0} → Shape A → (A → Summary) → Type 0
  IsPlainSummary a g = IsSummary true n inside IsSilent a g

  module _ (te : IsPlainSummary (rule expr) (of_expr n)) (tt' : IsPlainSummary (rule template) (of_template n)) (tc : IsPlainSummary (rule cert) (of_cert n)) (tb : IsPlainSummary (rule block) (of_block n)) where
    the_proofs : IsPlainSummary proofs (of_proofs n)
    the_proofs = proofs_summary true n inside te tt' tc

    the_whole : IsPlainSummary whole (λ x. of_expr n x.1)
    the_whole = whole_summary true n inside te

    retypes_summary : IsPlainSummary (many retype) (of_pairs n)
    unfolding retype kind_is
    retypes_summary = kept_law true n inside (of_pairs n) (many_law true n inside (retype_summary true n inside te k.Retype refl)) (λ xs ids. kept_items pair_of uses_in_type (λ q. nodes q.1 + 1) (λ q. (q.0 < n) × HasVarsBelow q.1 n) xs ids)

    assigned_summary : IsPlainSummary assigned (λ x. join (more (of_expr n x.0.1)) (join (of_option_expr n x.1.0) (join (of_pairs n x.1.1.0) (more (of_proofs n x.1.1.1)))))
    unfolding assigned kind_is
    assigned_summary =
        seq_law true n inside (behind_law true n inside k.Assign refl the_whole)
        (seq_law true n inside (option_expr_summary true n inside te k.As refl) (seq_law true n inside retypes_summary (closed_law true n inside k.Semicolon refl the_proofs)))

    branched_summary : IsPlainSummary branched (of_stm n)
    unfolding branched kind_is
    branched_summary =
        act_law true n inside (λ x. t.branch x.0 x.1.0 x.1.1.0 x.1.1.1.0 x.1.1.1.1) (of_stm n)
        (seq_law true n inside the_whole (seq_law true n inside tb (seq_law true n inside (behind_law true n inside k.Else refl tb) (seq_law true n inside (state_option_summary true n inside te k.Join refl) the_proofs))))
        (λ x ids. record {
          uses = in_fives (uses_in x.0.1) (uses_in_block (block_of x.1.0)) (uses_in_block (block_of x.1.1.0)) (uses_in_state (state_or_none x.1.1.1.0)) (flat_map uses_in_proof (map proof_of x.1.1.1.1));
          size = omega arith;
          places = ap (λ ps. places (block_of x.1.0) ++ ps) (append-nil (places (block_of x.1.1.0)));
          ids = ((ids.0, ids.1.0, ids.1.1.0, ids.1.1.1.0), ids.1.1.1.1);
        })

    looped_summary : IsPlainSummary looped (of_stm n)
    unfolding looped kind_is
    looped_summary =
        act_law true n inside (λ x. t.loop x.0 x.1.0 x.1.1.0 x.1.1.1) (of_stm n)
        (seq_law true n inside the_whole (seq_law true n inside (state_option_summary true n inside te k.Inv refl) (seq_law true n inside tb the_proofs)))
        (λ x ids. record {
          uses = in_fours (uses_in x.0.1) (uses_in_state (state_or_none x.1.0)) (uses_in_block (block_of x.1.1.0)) (flat_map uses_in_proof (map proof_of x.1.1.1));
          size = omega arith;
          places = append-nil (places (block_of x.1.1.0));
          ids = ((ids.0, ids.1.0, ids.1.1.0), ids.1.1.1);
        })

    -- what stands behind the first token of a statement
    behind : {a : Shape Stm} (From : Kind → Type 0) (j : Kind) → kind_is k.Name j ≡ false → kind_is k.Thread j ≡ false → From j → IsSummary true n inside From a (of_stm n) → IsSummaryAt true n inside IsSilent (j ▸ a) (λ v. more (of_stm n v))
    behind From j p q f t = first_law true n inside j p q f t

    closed : {From : Kind → Type 0} {a : Shape Stm} → IsSummary true n inside From a (of_stm n) → IsSummary true n inside From (a ◂ k.Semicolon) (of_stm n)
    unfolding kind_is
    closed t = kept_law true n inside (of_stm n) (closed_law true n inside k.Semicolon refl t) (λ v ids. record { uses = refl; size = omega arith; places = refl; ids = ids })

    skip_summary : IsSummaryAt true n inside IsSilent (k.Skip ▸ sign k.Semicolon t.skip) (λ v. more (of_stm n v))
    unfolding kind_is
    skip_summary = behind IsSilent k.Skip refl refl refl (sign_law true n inside k.Semicolon refl t.skip (of_stm n) (record { uses = refl; size = omega arith; places = refl; ids = (tt, All-nil (λ p. IsCertInRange n n p.cert)) }))

    assign_summary : IsSummaryAt true n inside IsSilent (act (λ x. t.assign x.0 x.1.0 x.1.1.0 x.1.1.1.0 x.1.1.1.1) (seq name assigned)) (λ v. more (of_stm n v))
    assign_summary =
        at_act true n inside (λ x. t.assign x.0 x.1.0 x.1.1.0 x.1.1.1.0 x.1.1.1.1) (λ v. more (of_stm n v)) (at_name true n inside (λ x. refl) assigned_summary)
        (λ x ids. record {
          uses = in_fives (as_variable x.0) (uses_in x.1.0.1) (uses_in_option (option_map expr_of x.1.1.0)) (flat_map uses_in_type (map pair_of x.1.1.1.0)) (flat_map uses_in_proof (map proof_of x.1.1.1.1));
          size = omega arith;
          places = refl;
          ids = ((ids.0, ids.1.0, ids.1.1.0, ids.1.1.1.0), ids.1.1.1.1);
        })

    -- a statement of one line behind its word
    line_summary : {A : Type 0} {j : Kind} {a : Shape A} {f : A → Stm} {g : A → Summary} (From : Kind → Type 0) → kind_is k.Name j ≡ false
        → kind_is k.Thread j ≡ false → From j → IsSummary true n inside From a g → ((v : A) → (g v).ids → Kept (g v) (of_stm n (f v)))
        → IsSummaryAt true n inside IsSilent (j ▸ act f a ◂ k.Semicolon) (λ v. more (of_stm n v))
    line_summary {j = j} {f = f} From p q r t kept = behind From j p q r (closed (act_law true n inside f (of_stm n) t kept))

    -- behind such a word stands the name of a lock
    abbrev IsOfLock : Kind → Type 0
    IsOfLock j = (declares true j ≡ false) × (is_lock j ≡ true)

    statement_summary : IsSummaryAt true n inside IsSilent statement (λ v. more (of_stm n v))
    unfolding statement kind_is
    statement_summary =
        at_alt true n inside skip_summary
        (at_alt true n inside assign_summary
        (at_alt true n inside
        (line_summary IsOfLock refl refl (refl, refl) (lock_name_law true n inside)
        (λ l ids. record { uses = refl; size = omega arith; places = refl; ids = (ids, All-nil (λ p. IsCertInRange n n p.cert)) }))
        (at_alt true n inside
        (line_summary IsOfLock refl refl (refl, refl) (seq_law true n inside (lock_name_law true n inside) the_proofs)
        (λ x ids. record { uses = refl; size = omega arith; places = refl; ids = ids }))
        (at_alt true n inside (behind IsSilent k.If refl refl refl branched_summary)
        (at_alt true n inside (behind IsSilent k.While refl refl refl looped_summary)
        (at_alt true n inside
        (line_summary IsSilent refl refl refl (seq_law true n inside (state_summary true n inside te) the_proofs)
        (λ x ids. record { uses = refl; size = omega arith; places = refl; ids = ids }))
        (line_summary IsSilent refl refl refl (seq_law true n inside the_whole the_proofs)
        (λ x ids. record { uses = refl; size = omega arith; places = refl; ids = ids }))))))))

    pub braces_summary : IsPlainSummary braces (of_block n)
    unfolding braces kind_is
    braces_summary =
        act_law true n inside (λ x. t.block x.0.at x.1.1.at (stms x.1.0)) (of_block n)
        (seq_law true n inside (token_law true n inside k.OpenBrace refl) (seq_law true n inside (many_law true n inside (placed_at_law true n inside statement_summary)) (token_law true n inside k.CloseBrace refl)))
        (λ x ids. let inner = kept_stms n x.1.0 ids.1.0 in
        record {
          uses = append-nil (all (λ s. at s.0 (more (of_stm n s.1))) x.1.0).uses ∙ inner.uses;
          size = omega (arith, inner.size);
          places = append-nil (all (λ s. at s.0 (more (of_stm n s.1))) x.1.0).places ∙ inner.places;
          ids = inner.ids;
        })

-- Rules at every depth -----------------------------------------------------------------------------------------

pub record RuleSummaries (b : Bool) (n : ℕ) (inside : Sense) : Type 0 where
  pub expr : IsSummary b n inside IsSilent (rule expr) (of_expr n)
  pub template : IsSummary b n inside IsSilent (rule template) (of_template n)
  pub cert : IsSummary b n inside IsSilent (rule cert) (of_cert n)

module _ (n : ℕ) (few : n ≤ HOLE) where
  pub rule_summaries : (b : Bool) (d : ℕ) → RuleSummaries b n (Within d)
  unfolding body
  rule_summaries b zero = record { expr = record { of = λ v ts fine s. absurd s }; template = record { of = λ v ts fine s. absurd s }; cert = record { of = λ v ts fine s. absurd s } }
  rule_summaries b (suc d) =
      let x = rule_summaries b d in
      record {
        expr = record { of = (expr_summary b n (Within d) few x.expr).of };
        template = record { of = (template_summary b n (Within d) few x.template).of };
        cert = record { of = (certificate_summary b n (Within d) x.expr x.template x.cert).of };
      }

  pub block_summary : (d : ℕ) → IsSummary true n (Within d) IsSilent (rule block) (of_block n)
  unfolding body
  block_summary zero = record { of = λ v ts fine s. absurd s }
  block_summary (suc d) =
      let x = rule_summaries true d in
      record { of = (braces_summary n (Within d) x.expr x.template x.cert (block_summary d)).of }
