-- What is written of a tree is read back to it, places aside.
use Rattle.std.proofs.Common.{◌≡◌, ℕ, ◌≤◌, List, [], length, map, Bool, true, false, codes, Ok, refl, sym, ap, subst, ◌∙◌, arith, None}
use Rattle.cov_expr.specs.declared.limits.TheConstants.{MOST_BYTES}
use Rattle.cov_expr.specs.Names.{IsName}
use Rattle.cov_expr.specs.declared.expr.TheConstants.{HOLE}
use Rattle.cov_lex.specs.declared.token.Token as lexed
use Rattle.cov_lex.specs.Lexing.{tokens_of, tokens_from}
use Rattle.cov_grammar.specs.declared.token.Token.{Token}
use Rattle.cov_grammar.specs.PlacedTrees.{Program}
use Rattle.cov_grammar.specs.Grammar.{program}
use Rattle.cov_grammar.specs.Spells.{Is}
use Rattle.cov_grammar.proofs.Senses.{OfShape, gather}
use Rattle.cov_ast.specs.declared.parsed.NameUse.{NameUse}
use Rattle.cov_text.specs.Depth.{deep}
use Rattle.cov_text.specs.Limits.{in_program, past_variables, past_locks, past_threads, past_statements}
use Rattle.cov_text.specs.Numbered as words
use Rattle.cov_text.specs.Versioned.{versioned}
use Rattle.cov_text.specs.Text.{words_of, names_of, IsText}
use Rattle.cov_text.specs.GivenTrees.{parsed_of}
use Rattle.cov_text.proofs.TextLaws.{lexes_so, words_are, names_are}
use Rattle.cov_text.proofs.SilentLaws.{tree_version, tokens_silent}
use Rattle.cov_print.specs.Spelling as spec
use Rattle.cov_print.proofs.Written.{Word}
use Rattle.cov_print.proofs.Keeps.{Are, AreGood, AllFit, Kept}
use Rattle.cov_print.proofs.Readings.{known, Show}
use Rattle.cov_print.proofs.Leaves.{AreNames}
use Rattle.cov_print.proofs.Named.{Every, every_at, AreDistinct, added, added_distinct, added_every, added_length, IsIn, added_all}
use Rattle.cov_print.proofs.Source.{IsSound, sound_tokens}
use Rattle.cov_print.proofs.SameNames.{name_bytes, names_added, all_names, spelled, good_words, own_names, name_leaves, written_names, leaves_few, are_words, tokens_few}
use Rattle.cov_print.proofs.Declarations.{seen_program, program_words, second, program_kept, program_kept_second}
use Rattle.cov_print.proofs.Sizes.{fine, fine_none, program_fine, limits_same}
use Rattle.cov_print.proofs.Programs.{program_, program_calm}
use Rattle.cov_print.proofs.Versions.{versioned_good, versioned_leaves, second_written, written_same}

-- What a text that is written of a program is read as.
pub record Back (all : List (List ℕ)) (out : List ℕ) (made : Program) : Type 0 where
  pub tree_again : Program
  pub is_text : IsText program in_program out tree_again
  pub names_again : names_of out ≡ all
  pub names_few : length all ≤ MOST_BYTES
  pub seen_again : seen_program all tree_again ≡ seen_program all made

-- The tokens of a text that was read, and what is written of a program that keeps them.
module _ (text : List ℕ) (raw : List lexed.Token) (lexes : tokens_of text ≡ Ok raw) where
  abbrev pub all : List (List ℕ)
  all = words.names_of text raw

  names_is : all ≡ added [] (name_bytes text raw)
  names_is = names_added text [] raw

  sound : Every (IsSound text) raw
  sound = sound_tokens text raw lexes

  in_all : Every (IsIn all) (name_bytes text raw)
  in_all = subst (λ ns. Every (IsIn ns) (name_bytes text raw)) (sym names_is) (added_all [] (name_bytes text raw))

  valid : AreNames all
  valid x e = every_at IsName all (codes "_") (subst (Every IsName) (sym names_is) (added_every IsName [] (name_bytes text raw) tt (all_names text raw sound))) x e

  distinct : AreDistinct all
  distinct = subst AreDistinct (sym names_is) (added_distinct [] (name_bytes text raw) tt)

  -- the tokens of the text, and those that its version has
  abbrev numbered : List Token
  numbered = words.words_of text raw

  good : AreGood (known all) (versioned numbered)
  good = versioned_good (known all) numbered (good_words all text raw sound in_all)

  abbrev IsKept : Program → Type 0
  IsKept made = Kept (known all) program (seen_program all) (seen_program all made) (program_words (known all) made) (versioned numbered)

  -- the words that are written are those of their version
  abbrev AreVersioned : Program → Type 0
  AreVersioned made = (ts : List Token) → Are (program_words (known all) made) ts → versioned ts ≡ ts

  module _ (made : Program) (keeps : IsKept made) (same_words : AreVersioned made) (small : in_program made ≡ None) (uses : List NameUse) (short : length (spec.spelling (parsed_of all uses made)) ≤ MOST_BYTES) where
    abbrev out : List ℕ
    out = spec.spelling (parsed_of all uses made)

    abbrev written : List Word
    written = program_words (known all) made

    fit : AllFit (known all) written
    fit = keeps.fit good

    read : (ts : List lexed.Token) × (tokens_from 0 0 out ≡ Ok ts) × Show all out written ts
    read = (program_ all valid uses made).reads fit []

    module _ (ts : List lexed.Token) (tokens : tokens_of out ≡ Ok ts) (show : Show all out written ts) where
      few : length all ≤ MOST_BYTES
      few =
          omega (arith, ap length names_is, added_length [] (name_bytes text raw), name_leaves all text raw, ap length (versioned_leaves numbered), ap length keeps.same, leaves_few all out written ts show, tokens_few out ts tokens, short)

      no_hole : known all HOLE ≡ false
      no_hole = by (known all HOLE) refl
        where
          by : (b : Bool) → known all HOLE ≡ b → b ≡ false
          by false e = refl
          by true e = absurd (grind (arith, e, few))

      bytes_same : name_bytes out ts ≡ name_bytes text raw
      bytes_same = sym (written_names all out written ts fit show) ∙ ap (spelled all) (sym keeps.same ∙ versioned_leaves numbered) ∙ own_names all text no_hole raw sound in_all

      names_same : words.names_of out ts ≡ all
      names_same = names_added out [] ts ∙ ap (added []) bytes_same ∙ sym names_is

      abbrev tokens_again : List Token
      tokens_again = map (words.word_of out all) ts

      are : Are written tokens_again
      are = are_words all out distinct written ts fit show

      words_same : words_of out ≡ tokens_again
      words_same =
          words_are out ts tokens ∙ ap (λ ns. versioned (map (words.word_of out ns) ts)) names_same ∙ same_words tokens_again are

      again : (v : Program) × OfShape program v tokens_again × (seen_program all v ≡ seen_program all made)
      again = keeps.spelt good tokens_again are

      back : Back all out made
      back = record {
        tree_again = again.0;
        is_text = record {
          tokens = record {
            lexes = lexes_so out ts tokens;
            shallow = ap (deep 0 0) words_same ∙ (program_calm (known all) all made (sym (limits_same all made) ∙ ap fine small)).calm tokens_again are;
          };
          spelled = subst (Is program again.0) (sym words_same) (gather program again.0 tokens_again again.1);
          small = fine_none (in_program again.0) (limits_same all again.0 ∙ ap program_fine again.2 ∙ sym (limits_same all made) ∙ ap fine small);
        };
        names_again = names_are out ts tokens ∙ names_same;
        names_few = few;
        seen_again = again.2;
      }

    reads_made : Back all out made
    unfolding tokens_of
    reads_made = back read.0 read.1 read.2

  module _ (tree : Program) (is : Is program tree (versioned numbered)) (small : in_program tree ≡ None) (uses : List NameUse) where
    keeps_tree : IsKept tree
    keeps_tree = program_kept (known all) all tree (versioned numbered) is

    tree_words : AreVersioned tree
    tree_words ts are = written_same (known all) tree ts (tree_version all numbered tree is).known (λ first. keeps_tree.silent (tokens_silent numbered tree is first)) are

    -- what is written of the tree of a text
    pub reads_back : length (spec.spelling (parsed_of all uses tree)) ≤ MOST_BYTES → Back all (spec.spelling (parsed_of all uses tree)) tree
    reads_back short = reads_made tree keeps_tree tree_words small uses short

    small_second : in_program (second tree) ≡ None
    unfolding past_variables past_locks past_threads past_statements
    small_second = small

    -- and what is written of it in version 2
    pub reads_second : length (spec.spelling (parsed_of all uses (second tree))) ≤ MOST_BYTES → Back all (spec.spelling (parsed_of all uses (second tree))) (second tree)
    reads_second short =
        reads_made (second tree) (program_kept_second (known all) all tree (versioned numbered) is) (λ ts are. second_written (known all) 2 tree ts refl are) small_second uses short
