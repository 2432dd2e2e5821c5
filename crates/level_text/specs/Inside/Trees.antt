-- A text of levels as it was read: its names, its tokens and its tree.
use Rattle.std.specs.Prelude.{ℕ, List}
use Rattle.cov_grammar.specs.declared.token.Token.{Token}
use Rattle.cov_text.specs.Text.{names_of, words_of}
use Rattle.level_text.specs.declared.read.ReadText.{ReadText}
use Rattle.level_text.specs.TextTrees.{LevelText}
use Rattle.level_text.specs.TextViews.{level_text}

pub record TextTree : Type 0 where
  pub names : List (List ℕ)
  pub tokens : List Token
  pub tree : LevelText

abbrev pub read_of : ReadText → TextTree
read_of r = record { names = r.names; tokens = r.tokens; tree = level_text r.text }

abbrev pub made_of : List ℕ → LevelText → TextTree
made_of text t = record { names = names_of text; tokens = words_of text; tree = t }
