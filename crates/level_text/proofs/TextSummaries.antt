-- In a text of levels each name has a number below the count of its names.
use Rattle.std.proofs.Common.{◌≡◌, ℕ, ◌≤◌, ◌<◌, List, [], ◌∷◌, ◌++◌, length, Bool, true, false, Option, Some, None, refl, subst, sym, ap, arith, All, if◌then◌else◌, not, ◌&&◌}
use Rattle.std.specs.Prelude.{flat_map}
use Rattle.std.proofs.lemmas.List.Elements.{All-nil, All-cons, All-append}
use Rattle.cov_expr.specs.Term.{Term}
use Rattle.cov_expr.specs.declared.expr.TheConstants.{HOLE}
use Rattle.cov_expr.specs.declared.kind.Kind.{Kind}
use Rattle.cov_expr.specs.declared.kind.Kind.TheVariants as k
use Rattle.cov_grammar.specs.declared.token.Token.{Token}
use Rattle.cov_grammar.specs.LookAhead.{kind_is}
use Rattle.cov_grammar.proofs.Basics.{kind_one}
use Rattle.cov_grammar.specs.PlacedTrees.{Placed, Named, expr}
use Rattle.cov_grammar.specs.Shapes.{rule, seq, opt, Sense}
use Rattle.cov_grammar.specs.Spells.{Within, Is}
use Rattle.cov_grammar.specs.Grammar.{◌▸◌, separated, listed, named, whole}
use Rattle.cov_ast.specs.Ready.{as_variable}
use Rattle.cov_text.specs.Text.{IsShallow, words_of, names_of}
use Rattle.cov_text.specs.Uses.{declares}
use Rattle.cov_text.proofs.UseLaws.{IsSilent}
use Rattle.cov_text.proofs.Summaries.{Summary, join, more, Kept, HasSummary, AreFine, AreBelow, variable, summary_variable}
use Rattle.cov_text.proofs.ShapeSummaries.{all, of_option, less, IsSummary, kept_law, act_law, seq_law, opt_law, many_law, behind_law, from_law, closed_law, named_law, separated_law, listed_law}
use Rattle.cov_text.proofs.TermSummaries.{of_expr}
use Rattle.cov_text.proofs.CertSummaries.{whole_summary}
use Rattle.cov_text.proofs.StmtSummaries.{rule_summaries}
use Rattle.cov_text.proofs.WordLaws.{words_fine}
use Rattle.level_text.specs.TextTrees.{Level, Listing, LevelText}
use Rattle.level_text.specs.TextGrammar.{level, listing, levels, level_text}
use Rattle.level_text.specs.TextFaults.{is_level_behind, variables_behind}
use Rattle.level_text.specs.Inside.NamedBelow.{IsChoiceBelow, IsListingBelow, AreNamedBelow}

-- Names -----------------------------------------------------------------------------------------------------------

abbrev of_names : ℕ → List Named → Summary
of_names n xs = record { uses = flat_map (λ x. as_variable x.0) xs; size = 0; places = []; ids = All (λ x. x.0 < n) xs }

kept_names : (n : ℕ) (xs : List Named) → (all (λ v. more (variable n v.0)) xs).ids → Kept (less (all (λ v. more (variable n v.0)) xs)) (of_names n xs)
kept_names n [] ids = record { uses = refl; size = omega arith; places = refl; ids = All-nil (λ (x : Named). x.0 < n) }
kept_names n (x ∷ xs) ids =
    let rest = kept_names n xs ids.1 in
    record { uses = ap (λ us. as_variable x.0 ++ us) rest.uses; size = omega arith; places = rest.places; ids = All-cons (λ y. y.0 < n) x xs ids.0 rest.ids }

abbrev of_level : ℕ → Level → Summary
of_level n v = record { uses = as_variable v.name.0 ++ flat_map (λ x. as_variable x.0) v.lower; size = 0; places = []; ids = v.name.0 < n }

abbrev of_choice : ℕ → Option (Placed Term × Named) → Summary
of_choice n c = of_option (λ x. more (join (of_expr n x.0.1) (more (variable n x.1.0)))) c

abbrev of_listing : ℕ → Listing → Summary
of_listing n c = record { uses = as_variable c.level.0 ++ (of_choice n c.choice).uses; size = 0; places = []; ids = IsListingBelow n c }

no_places : (n : ℕ) (c : Option (Placed Term × Named)) → (of_choice n c).places ≡ []
no_places n None = refl
no_places n (Some x) = refl

choice_below : (n : ℕ) (c : Option (Placed Term × Named)) → (of_choice n c).ids → IsChoiceBelow n c
choice_below n None ids = tt
choice_below n (Some x) ids = ids.0

module _ (n : ℕ) (inside : Sense) (te : IsSummary false n inside IsSilent (rule expr) (of_expr n)) where
  name_summary : IsSummary false n inside IsSilent named (λ x. variable n x.0)
  name_summary = record {
    of = λ v ts fine s. subst (λ w. HasSummary false IsSilent (variable n w.0) ts) s.1 (subst (HasSummary false IsSilent (variable n s.0.value)) (sym s.2.1) (summary_variable false n s.0 s.2.0 (subst (AreFine n) s.2.1 fine)));
  }

  names_summary : IsSummary false n inside IsSilent (separated k.Comma named) (of_names n)
  unfolding kind_is
  names_summary = kept_law false n inside (of_names n) (separated_law false n inside k.Comma refl name_summary) (kept_names n)

  lower_summary : IsSummary false n inside IsSilent (listed (k.Colon ▸ separated k.Comma named)) (of_names n)
  unfolding kind_is
  lower_summary =
      listed_law false n inside (of_names n) (record { uses = refl; size = omega arith; places = refl; ids = All-nil (λ (x : Named). x.0 < n) })
      (kept_law false n inside (of_names n) (behind_law false n inside k.Colon refl names_summary) (λ xs ids. record { uses = refl; size = omega arith; places = refl; ids = ids }))

  level_summary : IsSummary false n inside IsSilent level (of_level n)
  unfolding level kind_is
  level_summary =
      act_law false n inside (λ x. record { name = x.0; lower = x.1 }) (of_level n)
      (behind_law false n inside k.Level refl (closed_law false n inside k.Semicolon refl (seq_law false n inside name_summary lower_summary)))
      (λ x ids. record { uses = refl; size = omega arith; places = refl; ids = ids.0 })

  choice_summary : IsSummary false n inside IsSilent (opt (k.When ▸ seq whole (k.Else ▸ named))) (of_choice n)
  unfolding kind_is
  choice_summary =
      opt_law false n inside (behind_law false n inside k.When refl (seq_law false n inside (whole_summary false n inside te) (behind_law false n inside k.Else refl name_summary)))

  listing_summary : IsSummary false n inside IsSilent listing (of_listing n)
  unfolding listing kind_is
  listing_summary =
      act_law false n inside (λ x. record { var = x.0; level = x.1.0; choice = x.1.1 }) (of_listing n)
      (from_law false n inside {From = λ j. declares false j ≡ true} k.Var refl refl refl
      (closed_law false n inside k.Semicolon refl
      (seq_law false n inside (named_law false n inside) (behind_law false n inside k.Colon refl (seq_law false n inside name_summary choice_summary)))))
      (λ x ids. record { uses = refl; size = omega arith; places = no_places n x.1.1; ids = (ids.0, choice_below n x.1.1 ids.1.1) })

  levels_summary : IsSummary false n inside IsSilent levels (all (of_level n))
  unfolding levels
  levels_summary =
      act_law false n inside (λ x. x.0 ∷ x.1) (all (of_level n)) (seq_law false n inside level_summary (many_law false n inside level_summary))
      (λ x ids. record { uses = refl; size = omega arith; places = refl; ids = ids })

  text_summary : IsSummary false n inside IsSilent level_text (λ t. join (all (of_level n) t.levels) (all (of_listing n) t.listings))
  unfolding level_text
  text_summary =
      act_law false n inside (λ x. record { levels = x.0; listings = x.1 }) (λ t. join (all (of_level n) t.levels) (all (of_listing n) t.listings))
      (seq_law false n inside levels_summary (many_law false n inside listing_summary))
      (λ x ids. record { uses = refl; size = omega arith; places = refl; ids = ids })

ids_all : {A : Type 0} (g : A → Summary) (P : A → Type 0) → ((x : A) → (g x).ids → P x) → (xs : List A) → (all g xs).ids → All P xs
ids_all g P f [] ids = All-nil P
ids_all g P f (x ∷ xs) ids = All-cons P x xs (f x ids.0) (ids_all g P f xs ids.1)

-- the names that are used as variables
variables_below : (n : ℕ) (before : Kind) (ts : List Token) → AreBelow n ts → All (λ x. x.0 < n) (variables_behind before ts)
variables_below n before [] below = All-nil (λ (x : Named). x.0 < n)
variables_below n before (t ∷ ts) below = All-append (λ (x : Named). x.0 < n) _ _ (one (kind_is k.Name t.kind) (not (is_level_behind before)) refl) (variables_below n t.kind ts below.1)
  where
    one : (named other : Bool) → kind_is k.Name t.kind ≡ named → All (λ (x : Named). x.0 < n) (if named && other then (t.value, t.at) ∷ [] else [])
    one true true e = All-cons (λ (x : Named). x.0 < n) (t.value, t.at) [] (below.0 (sym (kind_one k.Name t.kind e))) (All-nil (λ (x : Named). x.0 < n))
    one true false e = All-nil (λ (x : Named). x.0 < n)
    one false other e = All-nil (λ (x : Named). x.0 < n)

pub text_named : (text : List ℕ) → length (names_of text) ≤ HOLE → (names : List (List ℕ)) (ws : List Token) (t : LevelText)
    → IsShallow text → names ≡ names_of text → ws ≡ words_of text → Is level_text t ws → AreNamedBelow (length names) ws t
text_named text few names ws t tokens named read spelled =
    subst (λ us. AreNamedBelow (length names) us t) (sym read) (subst (λ ns. AreNamedBelow (length ns) (words_of text) t) (sym named) made)
  where
    made : AreNamedBelow (length (names_of text)) (words_of text) t
    made =
        let n = length (names_of text) in
        let fine = words_fine text tokens.lexes in
        let is = subst (Is level_text t) read spelled in
        let x = (text_summary n (Within is.0) (rule_summaries n few false is.0).expr).of t (words_of text) fine is.1 in
        record {
          levels = ids_all (of_level n) (λ v. v.name.0 < n) (λ v i. i) t.levels x.ids.0;
          listings = ids_all (of_listing n) (IsListingBelow n) (λ c i. i) t.listings x.ids.1;
          variables = variables_below n k.Semicolon (words_of text) fine.names;
        }
