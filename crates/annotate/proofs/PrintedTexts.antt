-- What is printed of a text with certificates put in is read as that text, places aside.
use Rattle.std.proofs.Common.{◌≡◌, ◌⊎◌, ℕ, suc, ◌≤◌, List, [], ◌∷◌, length, map, Bool, true, false, codes, Ok, None, refl, sym, ap, subst, ◌∙◌, arith}
use Rattle.cov_expr.specs.declared.limits.TheConstants.{MOST_BYTES}
use Rattle.cov_expr.specs.Names.{IsName}
use Rattle.cov_expr.specs.declared.expr.TheConstants.{HOLE}
use Rattle.cov_lex.specs.declared.token.Token as lexed
use Rattle.cov_lex.specs.Lexing.{tokens_of, tokens_from}
use Rattle.cov_grammar.specs.declared.token.Token.{Token}
use Rattle.cov_grammar.specs.PlacedTrees as t
use Rattle.cov_grammar.specs.PlacedTrees.{Program}
use Rattle.cov_grammar.specs.Grammar.{program}
use Rattle.cov_grammar.specs.Spells.{Is}
use Rattle.cov_grammar.proofs.Senses.{OfShape, gather}
use Rattle.cov_ast.specs.Syntax as s
use Rattle.cov_ast.specs.Syntax.{Cert}
use Rattle.cov_ast.specs.Ready.{HasUsesInOrder, uses_in_declarations}
use Rattle.cov_ast.specs.declared.parsed.NameUse.{NameUse}
use Rattle.cov_text.specs.Depth.{deep}
use Rattle.cov_text.specs.Limits.{in_program}
use Rattle.cov_text.specs.Numbered as words
use Rattle.cov_text.specs.Versioned.{versioned}
use Rattle.cov_text.specs.Text.{names_of, words_of, IsText}
use Rattle.cov_text.specs.GivenTrees.{block_of, lock_of, modes_of, name_of, parsed_of, thread_of, var_of}
use Rattle.cov_text.proofs.TextLaws.{lexes_so, words_are, names_are}
use Rattle.cov_text.proofs.SilentLaws.{HasNoOutput, tree_version, tokens_silent}
use Rattle.cov_print.specs.Spelling as spec
use Rattle.cov_print.specs.Unplaced.{unplaced, unplaced_block, unplaced_lock, unplaced_thread, unplaced_use, unplaced_var}
use Rattle.cov_print.proofs.Written.{Word}
use Rattle.cov_print.proofs.Keeps.{Are, AreGood, AllFit, Kept, leaves_of}
use Rattle.cov_print.proofs.Readings.{known, Show}
use Rattle.cov_print.proofs.Leaves.{AreNames}
use Rattle.cov_print.proofs.Named.{Every, every_at, AreDistinct, added, added_distinct, added_every, added_all, IsIn}
use Rattle.cov_print.proofs.Source.{IsSound, sound_tokens}
use Rattle.cov_print.proofs.SameNames.{name_bytes, names_added, all_names, spelled, good_words, own_names, written_names, are_words}
use Rattle.cov_print.proofs.PrintLaws.{at_none, map_map, of_seen, uses_are, uses_unplaced}
use Rattle.cov_print.proofs.Declarations.{program_kept, program_words, seen_lock, seen_program, seen_thread, seen_var}
use Rattle.cov_print.proofs.Sizes.{fine, fine_none, program_fine, limits_same}
use Rattle.cov_print.proofs.Programs.{program_, program_calm}
use Rattle.cov_print.proofs.Versions.{versioned_good, versioned_leaves, written_same}
use Rattle.annotate.specs.AnnotatedText.{put_in_text}
use Rattle.annotate.specs.WithCertificates.{put_in, put_in_threads}
use Rattle.annotate.proofs.Changes.{AreNewProofs, block_with, program_looks, program_remade, program_shown, Remade, Shown, shown, threads_look}
use Rattle.annotate.proofs.FineTexts.{seen_of}
use Rattle.annotate.proofs.SameTables.{names_of_vars, tables_same, ThreadsIn}
use Rattle.annotate.proofs.SpeltCerts.{AreClean}

-- What a text that is written of a program is read as.
pub record Back (all : List (List ℕ)) (out : List ℕ) (made : Program) : Type 0 where
  pub tree_again : Program
  pub is_text : IsText program in_program out tree_again
  pub names_again : names_of out ≡ all
  pub seen_again : seen_program all tree_again ≡ seen_program all made

clean_of : (known : ℕ → Bool) (Quiet : Type 0) (ts : List Token) → AreGood known ts → (Quiet → HasNoOutput ts) → AreClean known Quiet ts
clean_of known Quiet [] h f = tt
clean_of known Quiet (t ∷ ts) h f = (record { good = h.0; silent = λ q. (f q).0 }, clean_of known Quiet ts h.1 (λ q. (f q).1))

good_of : (known : ℕ → Bool) (Quiet : Type 0) (ts : List Token) → AreClean known Quiet ts → AreGood known ts
good_of known Quiet [] h = tt
good_of known Quiet (t ∷ ts) h = (h.0.good, good_of known Quiet ts h.1)

silent_of : (known : ℕ → Bool) (Quiet : Type 0) (ts : List Token) → AreClean known Quiet ts → Quiet → HasNoOutput ts
silent_of known Quiet [] h q = tt
silent_of known Quiet (t ∷ ts) h q = (h.0.silent q, silent_of known Quiet ts h.1 q)

-- where there are few names, the hole isn't the number of one
pub no_name : (names : List (List ℕ)) → length names ≤ HOLE → known names HOLE ≡ false
no_name names few = by (known names HOLE) refl
  where
    by : (b : Bool) → known names HOLE ≡ b → b ≡ false
    by false e = refl
    by true e = absurd (grind (arith, e, few))

-- The tokens of a text that was read, and what is written of a program with certificates put in.
module _ (text : List ℕ) (raw : List lexed.Token) (lexes : tokens_of text ≡ Ok raw) (few : length (words.names_of text raw) ≤ HOLE) where
  abbrev all : List (List ℕ)
  all = words.names_of text raw

  names_is : all ≡ added [] (name_bytes text raw)
  names_is = names_added text [] raw

  sound : Every (IsSound text) raw
  sound = sound_tokens text raw lexes

  in_all : Every (IsIn all) (name_bytes text raw)
  in_all = subst (λ ns. Every (IsIn ns) (name_bytes text raw)) (sym names_is) (added_all [] (name_bytes text raw))

  valid : AreNames all
  valid x e = every_at IsName all (codes "_") (subst (Every IsName) (sym names_is) (added_every IsName [] (name_bytes text raw) tt (all_names text raw sound))) x e

  distinct : AreDistinct all
  distinct = subst AreDistinct (sym names_is) (added_distinct [] (name_bytes text raw) tt)

  abbrev numbered : List Token
  numbered = words.words_of text raw

  good : AreGood (known all) (versioned numbered)
  good = versioned_good (known all) numbered (good_words all text raw sound in_all)

  no_hole : known all HOLE ≡ false
  no_hole = no_name all few

  module _ (tree : Program) (is : Is program tree (versioned numbered)) (chosen : (u place : ℕ) → List (ℕ × Cert))
      (new : (u place : ℕ) → AreNewProofs (known all) (tree.version ≡ 1) (chosen u place)) where
    pub remade : Remade (known all) (tree.version ≡ 1) program program_shown (program_looks chosen tree)
    remade =
        program_remade (known all) (tree.version ≡ 1) chosen new tree (versioned numbered)
        (clean_of (known all) (tree.version ≡ 1) (versioned numbered) good (tokens_silent numbered tree is)) is

    module _ (inside : ℕ → Bool) (hole_inside : inside HOLE ≡ true) (uses_inside : ThreadsIn (known all) inside hole_inside chosen 0 tree.threads)
        (declared : (x : ℕ) → inside x ≡ true → known all x ≡ true → IsIn (names_of_vars all tree.vars) (spec.name all x))
        (made : Program) (tokens_made : List Token) (spelled_made : OfShape program made tokens_made) (looks : program_shown made ≡ program_looks chosen tree)
        (clean : AreClean (known all) (tree.version ≡ 1) tokens_made) (small : in_program made ≡ None) (uses : List NameUse)
        (short : length (spec.spelling (parsed_of all uses made)) ≤ MOST_BYTES) where
      abbrev out : List ℕ
      out = spec.spelling (parsed_of all uses made)

      abbrev written : List Word
      written = program_words (known all) made

      keeps : Kept (known all) program (seen_program all) (seen_program all made) written tokens_made
      keeps = program_kept (known all) all made tokens_made (gather program made tokens_made spelled_made)

      keeps_before : Kept (known all) program (seen_program all) (seen_program all tree) (program_words (known all) tree) (versioned numbered)
      keeps_before = program_kept (known all) all tree (versioned numbered) is

      made_good : AreGood (known all) tokens_made
      made_good = good_of (known all) (tree.version ≡ 1) tokens_made clean

      fit : AllFit (known all) written
      fit = keeps.fit made_good

      version_same : made.version ≡ tree.version
      version_same = ap (λ x. x.0) looks

      same_words : (ts : List Token) → Are written ts → versioned ts ≡ ts
      same_words ts are =
          written_same (known all) made ts (subst (λ v. (v ≡ 1) ⊎ (v ≡ 2)) (sym version_same) (tree_version all numbered tree is).known)
          (λ first. keeps.silent (silent_of (known all) (tree.version ≡ 1) tokens_made clean (sym version_same ∙ first))) are

      read : (ts : List lexed.Token) × (tokens_from 0 0 out ≡ Ok ts) × Show all out written ts
      read = (program_ all valid uses made).reads fit []

      table : added [] (spelled all (leaves_of written)) ≡ all
      table =
          tables_same all inside hole_inside chosen tree made looks uses_inside (keeps_before.fit good) declared
          ∙ ap (λ xs. added [] (spelled all xs)) (sym keeps_before.same ∙ versioned_leaves numbered)
          ∙ ap (added []) (own_names all text no_hole raw sound in_all) ∙ sym names_is

      module _ (ts : List lexed.Token) (tokens : tokens_of out ≡ Ok ts) (show : Show all out written ts) where
        names_same : words.names_of out ts ≡ all
        names_same = names_added out [] ts ∙ ap (added []) (sym (written_names all out written ts fit show)) ∙ table

        abbrev tokens_again : List Token
        tokens_again = map (words.word_of out all) ts

        are : Are written tokens_again
        are = are_words all out distinct written ts fit show

        words_same : words_of out ≡ tokens_again
        words_same = words_are out ts tokens ∙ ap (λ ns. versioned (map (words.word_of out ns) ts)) names_same ∙ same_words tokens_again are

        again : (v : Program) × OfShape program v tokens_again × (seen_program all v ≡ seen_program all made)
        again = keeps.spelt made_good tokens_again are

        back : Back all out made
        back = record {
          tree_again = again.0;
          is_text = record {
            tokens = record {
              lexes = lexes_so out ts tokens;
              shallow = ap (deep 0 0) words_same ∙ (program_calm (known all) all made (sym (limits_same all made) ∙ ap fine small)).calm tokens_again are;
            };
            spelled = subst (Is program again.0) (sym words_same) (gather program again.0 tokens_again again.1);
            small = fine_none (in_program again.0) (limits_same all again.0 ∙ ap program_fine again.2 ∙ sym (limits_same all made) ∙ ap fine small);
          };
          names_again = names_are out ts tokens ∙ names_same;
          seen_again = again.2;
        }

      pub read_back : Back all out made
      unfolding tokens_of
      read_back = back read.0 read.1 read.2

-- Programs that look alike --------------------------------------------------------------------------------------

-- two programs that look alike, each with its uses in order, are alike
pub alike : (p q : s.Parsed) → p.names ≡ q.names → seen_of (unplaced p) ≡ seen_of (unplaced q) → HasUsesInOrder p → HasUsesInOrder q → unplaced p ≡ unplaced q
alike p q names e h g =
    let same : uses_in_declarations p ≡ uses_in_declarations q = sym (uses_unplaced p) ∙ ap (λ x. uses_in_declarations (of_seen [] [] x)) e ∙ uses_unplaced q in
    let uses : map unplaced_use p.uses ≡ map unplaced_use q.uses = uses_are p.uses (uses_in_declarations p) h ∙ ap (map at_none) same ∙ sym (uses_are q.uses (uses_in_declarations q) g) in
    λ i. of_seen (names i) (uses i) (e i)

-- The tree of a text with certificates put in ------------------------------------------------------------------

module _ (names : List (List ℕ)) where
  abbrev of_shown : Shown → s.Thread
  of_shown h = record { name = name_of names h.0; at = 0; modes = modes_of h.1.0; body = h.1.1; end = 0 }

  threads_seen : (hs : List t.Thread) → map (seen_thread names) hs ≡ map of_shown (map shown hs)
  threads_seen [] = refl
  threads_seen (h ∷ hs) = ap (λ l. seen_thread names h ∷ l) (threads_seen hs)

  -- nothing is chosen for `skip` and `lock`
  abbrev pub AreQuiet : (chosen : (u place : ℕ) → List (ℕ × Cert)) → (u : ℕ) → List t.Thread → Type 0
  AreQuiet chosen u [] = Unit {0}
  AreQuiet chosen u (h ∷ hs) = (block_with (chosen u) (block_of h.body) ≡ put_in (chosen u) (block_of h.body)) × AreQuiet chosen (suc u) hs

  threads_put : (chosen : (u place : ℕ) → List (ℕ × Cert)) (u : ℕ) (hs : List t.Thread) → AreQuiet chosen u hs
      → map of_shown (threads_look chosen u hs) ≡ map unplaced_thread (put_in_threads chosen u (map (thread_of names) hs))
  threads_put chosen u [] h = refl
  threads_put chosen u (x ∷ hs) h =
      λ i. record { name = name_of names x.name.0; at = 0; modes = modes_of x.modes; body = unplaced_block (h.0 i); end = 0 } ∷ threads_put chosen (suc u) hs h.1 i

  pub put_seen : (chosen : (u place : ℕ) → List (ℕ × Cert)) (uses : List NameUse) (tree made : Program) → program_shown made ≡ program_looks chosen tree → AreQuiet chosen 0 tree.threads
      → seen_program names made ≡ seen_of (unplaced (put_in_text chosen (parsed_of names uses tree)))
  put_seen chosen uses tree made e quiet =
      (λ i. (made.version, (map (seen_var names) made.vars, (map (seen_lock names) made.locks, threads_seen made.threads i))))
      ∙ ap (λ x. (x.0, (map (seen_var names) x.1.0, (map (seen_lock names) x.1.1.0, map of_shown x.1.1.1)))) e
      ∙ (λ i. (
        tree.version,
        (sym (map_map (var_of names) unplaced_var tree.vars) i, (sym (map_map (lock_of names) unplaced_lock tree.locks) i, threads_put chosen 0 tree.threads quiet i)),
      ))
