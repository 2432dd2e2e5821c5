-- What is read of a text has the names of its variables, and few names.
use Rattle.std.proofs.Common.{ℕ, ◌<◌, ◌≤◌, List, length, map, IsTrue}
use Rattle.std.proofs.lemmas.List.Elements.{All-map, All-weaker}
use Rattle.cov_expr.specs.declared.expr.TheConstants.{HOLE}
use Rattle.cov_expr.specs.declared.limits.TheConstants.{MOST_BYTES}
use Rattle.cov_grammar.specs.Grammar.{program}
use Rattle.cov_grammar.specs.PlacedTrees.{Program}
use Rattle.cov_text.specs.GivenTrees.{var_of}
use Rattle.cov_text.specs.Limits.{in_program}
use Rattle.cov_text.specs.Text.{IsText, names_of, program_of}
use Rattle.cov_text.proofs.NamesInOrder.{text_summary, uses_in_order}
use Rattle.cov_text.proofs.ReadyLaws.{text_ready}
use Rattle.cov_text.proofs.WordLaws.{names_few}
use Rattle.policy_class.specs.Resolved.{is_among}
use Rattle.annotate.specs.AnnotatedText.{AreVariablesNamed, IsAsRead}
use Rattle.annotate.proofs.TextLaws.{among_at}

module _ (text : List ℕ) (short : length text ≤ MOST_BYTES) (tree : Program) (is : IsText program in_program text tree) where
  few : length (names_of text) ≤ HOLE
  few = names_few text is.tokens.lexes short

  abbrev IsNamed : List ℕ → Type 0
  IsNamed name = IsTrue (is_among (names_of text) name)

  variables_named : AreVariablesNamed (program_of text tree)
  variables_named =
      All-map IsNamed (λ v. v.name) (map (var_of (names_of text)) tree.vars)
      (All-map (λ v. IsNamed v.name) (var_of (names_of text)) tree.vars
      (All-weaker (λ v. v.name.0 < length (names_of text)) (λ v. IsNamed (var_of (names_of text) v).name) (λ v below. among_at (names_of text) v.name.0 below) tree.vars
      (text_summary text few tree is.tokens is.spelled).named.vars))

  pub read_as_read : IsAsRead (program_of text tree)
  read_as_read = record { ready = text_ready text short tree is; in_order = uses_in_order text few tree is; named = variables_named; few = few }
