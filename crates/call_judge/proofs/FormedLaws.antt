-- A program that a text spells, whose names are in order, is well formed.
use Rattle.std.proofs.Common.{◌≡◌, ℕ, ◌+◌, ◌≤◌, ◌==◌, List, [], ◌∷◌, Bool, true, false, map, length, cond, refl, sym, ap, subst, ◌∙◌, arith}
use Rattle.std.specs.Prelude.{not}
use Rattle.std.specs.List.{position_or_len}
use Rattle.std.specs.Str.{bytes_eq}
use Rattle.std.proofs.lemmas.Bool.{eqb-true}
use Rattle.std.proofs.lemmas.List.{length-map}
use Rattle.cov_expr.specs.Words.{IsWord}
use Rattle.cov_expr.specs.declared.expr.TheConstants.{HOLE}
use Rattle.cov_expr.specs.declared.limits.TheConstants.{MOST_BYTES, MOST_VARIABLES}
use Rattle.cov_grammar.specs.Grammar.{program}
use Rattle.cov_grammar.specs.PlacedTrees as trees
use Rattle.cov_ast.proofs.ObligationLaws.{both_hold}
use Rattle.cov_ast.specs.Ready.{IsReady}
use Rattle.cov_ast.specs.Syntax.{Parsed}
use Rattle.cov_ast.specs.WellFormed.{AreOfWords, IsWellFormed, are_distinct}
use Rattle.cov_text.proofs.ReadyLaws.{text_ready}
use Rattle.cov_text.proofs.WordLaws.{names_few}
use Rattle.cov_text.specs.Limits.{in_program}
use Rattle.cov_text.specs.Text as text
use Rattle.policy_class.specs.Resolved.{declared_names, lock_id, resolved, resolved_var, text_of, use_obligation, var_id, var_names, w1_from}
use Rattle.policy_class.proofs.NameLaws.{names_differ, texts_declared}
use Rattle.policy_class.proofs.ResolvedLaws.{resolved_formed}
use Rattle.call_inputs.specs.Programs.{SpellsProgram}
use Rattle.call_judge.specs.Meaning.{AreNamesInOrder}
use Rattle.call_judge.proofs.CheckLaws.{none_false}
use Rattle.text_law.proofs.NumberWords.{text_words}
use Rattle.text_law.proofs.WordTrees.{program_words}

-- Words ----------------------------------------------------------------------------------------------------------

-- the position of what passes is one of the list, or its end
pub position_most : {X : Type 0} (test : X → Bool) (xs : List X) → position_or_len test xs ≤ length xs
position_most test [] = omega arith
position_most test (x ∷ xs) = go (position_most test xs) (test x)
  where
    go : position_or_len test xs ≤ length xs → (b : Bool) → cond (not b) (1 + position_or_len test xs) 0 ≤ length (x ∷ xs)
    go rest true = omega arith
    go rest false = omega (arith, rest)

module _ (p : Parsed) where
  -- the id of a variable, or what stands in its place, is a word
  id_word : length p.vars ≤ MOST_VARIABLES → (x : ℕ) → IsWord (resolved_var (var_id p) (lock_id p) x)
  id_word few x = go (x == HOLE) refl
    where
      go : (b : Bool) → (x == HOLE) ≡ b → IsWord (cond b x (var_id p x))
      go true e = omega (arith, eqb-true x HOLE e)
      go false e = omega (arith, few, position_most (bytes_eq (text_of p x)) (var_names p), length-map p.vars (λ v. v.name))

  -- where the names are in order
  formed : IsReady p → length p.names ≤ HOLE → AreNamesInOrder p → AreOfWords (resolved p).vars (resolved p).locks (resolved p).threads → IsWellFormed (resolved p)
  formed ready few ordered words =
      let held = both_hold (w1_from [] (declared_names p)) (map (use_obligation p) p.uses) ordered in
      let differ = names_differ (declared_names p) (none_false (w1_from [] (declared_names p)) held.0) in
      resolved_formed p ready few (ap (are_distinct bytes_eq) (sym (texts_declared p)) ∙ differ) (none_false (map (use_obligation p) p.uses) held.1) words

-- Texts ------------------------------------------------------------------------------------------------------------

module _ (bytes : List ℕ) (short : length bytes ≤ MOST_BYTES) where
  -- of a tree that a text spells
  tree_formed : (tree : trees.Program) → text.IsText program in_program bytes tree → AreNamesInOrder (text.program_of bytes tree)
      → IsWellFormed (resolved (text.program_of bytes tree))
  tree_formed tree is ordered =
      let p : Parsed = text.program_of bytes tree in
      let ready = text_ready bytes short tree is in
      formed p ready (names_few bytes is.tokens.lexes short) ordered
      (program_words (var_id p) (lock_id p) (id_word p ready.limits.variables) (text.names_of bytes) tree (text.words_of bytes) (text_words bytes is.tokens.lexes) is.spelled)

  pub text_formed : (p : Parsed) → SpellsProgram bytes p → AreNamesInOrder p → IsWellFormed (resolved p)
  text_formed p (tree, is, same) ordered = subst (λ q. IsWellFormed (resolved q)) (sym same) (tree_formed tree is (subst AreNamesInOrder same ordered))
