-- What is said of a program that is annotated.
use Rattle.std.specs.Prelude.{◌≡◌, ℕ, List, [], ◌∷◌, codes, Some, Ok}
use Rattle.annotate.specs.AnnotatedText.{annotated_text}
use Rattle.call_judge.specs.Meaning.{AreNamesInOrder}
use Rattle.call_verdicts.specs.Annotations.{IsSecureAnnotated}
use Rattle.cov_ast.specs.Syntax.{Parsed}
use Rattle.cov_io.specs.Shelves.{File}
use Rattle.cov_io.specs.Sinks.{Sunk, Writes}
use Rattle.cov_print.specs.Spelling.{spelling}
use Rattle.top_call.specs.Commands.{depth_of}
use Rattle.top_call.specs.SwappedPrograms.{HoldsText}

-- A file holds a program, and what is put is the canonical spelling of its annotated text, which is accepted, and means what the program does; and that is
-- secure.
pub record PutsAnnotatedText (files : List File) (name : List ℕ) (depth : ℕ) (before after : Sunk) : Type 0 where
  pub program : Parsed
  pub there : HoldsText files name program
  pub named : AreNamesInOrder program
  pub text : IsSecureAnnotated depth program
  pub put : Writes before after (spelling (annotated_text depth program)) (Ok tt)

-- So it is with what `annotate` puts, by the depth that its last word spells.
abbrev pub PutsAnnotated : List File → (words : List (List ℕ)) → (before after : Sunk) → Type 0
PutsAnnotated files words before after =
    (name word : List ℕ) → words ≡ codes "annotate" ∷ name ∷ word ∷ []
    → (depth : ℕ) × (depth_of word ≡ Some depth) × PutsAnnotatedText files name depth before after
