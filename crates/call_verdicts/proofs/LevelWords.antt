-- The levels that a text without a fault gives for a program are levels over its variables: the numbers in the text are words, and so its classes
-- are of words.
use Rattle.std.proofs.Common.{◌≡◌, ℕ, zero, suc, ◌≤◌, ◌==◌, List, length, Bool, true, false, cond, Option, Some, None, refl, sym, subst, arith, All}
use Rattle.std.specs.Str.{bytes_eq}
use Rattle.std.proofs.lemmas.Bool.{eqb-true}
use Rattle.std.proofs.lemmas.List.{length-map}
use Rattle.std.proofs.lemmas.List.Elements.{All-map, All-weaker}
use Rattle.cov_expr.specs.Term.{Term}
use Rattle.cov_expr.specs.Words.{HasWords, IsWord}
use Rattle.cov_expr.specs.declared.expr.TheConstants.{HOLE}
use Rattle.cov_expr.specs.declared.kind.Kind.TheVariants as k
use Rattle.cov_expr.specs.declared.limits.TheConstants.{MOST_BYTES, MOST_VARIABLES}
use Rattle.cov_grammar.specs.Grammar.{body}
use Rattle.cov_grammar.specs.PlacedTrees.{Placed, Named, expr}
use Rattle.cov_grammar.specs.Shapes.{rule}
use Rattle.cov_grammar.specs.Spells.{Within}
use Rattle.cov_ast.specs.Syntax.{Parsed}
use Rattle.cov_text.proofs.WordLaws.{names_few, words_fine}
use Rattle.cov_text.specs.GivenTrees.{name_of}
use Rattle.cov_text.specs.Text.{IsText, names_of, words_of}
use Rattle.policy_class.specs.Resolved.{resolved_term, resolved_var, var_names}
use Rattle.level_text.specs.Inside.GivenBy.{ClassHasWords}
use Rattle.level_text.specs.Lattice.{AreLevels, LevelClass, Levels}
use Rattle.level_text.specs.LevelReads.{GivesLevels, fault_of_tree}
use Rattle.level_text.specs.TextFaults.{class_given, in_level_text, levels_given, variable_id}
use Rattle.level_text.specs.TextGrammar.{level_text, listing}
use Rattle.level_text.specs.TextTrees.{LevelText, Listing}
use Rattle.level_text.proofs.ReadyLaws.{levels_ready}
use Rattle.level_text.proofs.TextSummaries.{text_named}
use Rattle.call_judge.proofs.FormedLaws.{position_most}
use Rattle.text_law.proofs.NumberWords.{text_words}
use Rattle.text_law.proofs.WordShapes.{Gives, OfOption, act_law, any_law, behind_law, closed_law, many_law, opt_law, placed_law, seq_law}
use Rattle.text_law.proofs.WordTerms.{expr_words}

-- Classes --------------------------------------------------------------------------------------------------------------------

-- The ids of variables are given by a function.
module _ (id : ℕ → ℕ) (ids : (x : ℕ) → IsWord (resolved_var id id x)) where
  abbrev IsOfWords : Term → Type 0
  IsOfWords e = HasWords (resolved_term id id e)

  rule_of_words : (d : ℕ) → Gives (Within d) (rule expr) IsOfWords
  unfolding body
  rule_of_words zero = record { of = λ v ts words s. absurd s }
  rule_of_words (suc d) = record { of = (expr_words id id (Within d) ids (rule_of_words d)).of }

  abbrev IsChoiceOfWords : Placed Term × Named → Type 0
  IsChoiceOfWords x = IsOfWords x.0.1 × Unit {0}

  abbrev IsListingOfWords : Listing → Type 0
  IsListingOfWords c = OfOption IsChoiceOfWords c.choice

  listing_of_words : (d : ℕ) → Gives (Within d) listing IsListingOfWords
  unfolding listing
  listing_of_words d =
      act_law (Within d) (λ x. record { var = x.0; level = x.1.0; choice = x.1.1 }) IsListingOfWords
      (behind_law (Within d) k.Var (closed_law (Within d) k.Semicolon
      (seq_law (Within d) (any_law (Within d)) (behind_law (Within d) k.Colon
      (seq_law (Within d) (any_law (Within d))
      (opt_law (Within d) (behind_law (Within d) k.When (seq_law (Within d) (placed_law (Within d) (rule_of_words d)) (any_law (Within d))))))))))
      (λ x h. h.1.1)

  text_of_words : (d : ℕ) → Gives (Within d) level_text (λ t. All IsListingOfWords t.listings)
  unfolding level_text
  text_of_words d =
      act_law (Within d) (λ x. record { levels = x.0; listings = x.1 }) (λ (t : LevelText). All IsListingOfWords t.listings)
      (seq_law (Within d) (any_law (Within d)) (many_law (Within d) (listing_of_words d))) (λ x h. h.1)

-- Texts ----------------------------------------------------------------------------------------------------------------------

module _ (text : List ℕ) (short : length text ≤ MOST_BYTES) (p : Parsed) (few : length p.vars ≤ MOST_VARIABLES) where
  abbrev id : ℕ → ℕ
  id = variable_id (names_of text) p

  -- the id of a variable, or what stands in its place, is a word
  id_word : (x : ℕ) → IsWord (resolved_var id id x)
  id_word x = go (x == HOLE) refl
    where
      go : (b : Bool) → (x == HOLE) ≡ b → IsWord (cond b x (id x))
      go true e = omega (arith, eqb-true x HOLE e)
      go false e = omega (arith, few, position_most (bytes_eq (name_of (names_of text) x)) (var_names p), length-map p.vars (λ v. v.name))

  class_words : (t : LevelText) (level : Named) (choice : Option (Placed Term × Named)) → OfOption (IsChoiceOfWords id id_word) choice
      → ClassHasWords (class_given (names_of text) p t level choice)
  class_words t level None h = tt
  class_words t level (Some x) h = h.0

  -- the class of a listing has words
  abbrev HasClassWords : LevelText → Listing → Type 0
  HasClassWords t c = ClassHasWords (class_given (names_of text) p t c.level c.choice)

  abbrev PairHasWords : ℕ × LevelClass → Type 0
  PairHasWords c = ClassHasWords c.1

  tree_ready : (t : LevelText) → IsText level_text in_level_text text t → fault_of_tree text p t ≡ None → AreLevels (length p.vars) (levels_given (names_of text) p t)
  tree_ready t is none =
      let few_names = names_few text is.tokens.lexes short in
      let of_words = (text_of_words id id_word is.spelled.0).of t (words_of text) (text_words text is.tokens.lexes) is.spelled.1 in
      levels_ready (names_of text) p (words_of text) t few_names (words_fine text is.tokens.lexes) is.spelled
      (text_named text few_names (names_of text) (words_of text) t is.tokens refl refl is.spelled) none
      (All-map PairHasWords (λ c. (variable_id (names_of text) p c.var.0, class_given (names_of text) p t c.level c.choice)) t.listings
      (All-weaker (IsListingOfWords id id_word) (HasClassWords t) (λ c h. class_words t c.level c.choice h) t.listings of_words))

  pub given_ready : (l : Levels) → GivesLevels text p l → AreLevels (length p.vars) l
  given_ready l (t, spells, none, is) = subst (AreLevels (length p.vars)) (sym is) (tree_ready t spells none)
