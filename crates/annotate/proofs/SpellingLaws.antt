-- The spelling of the annotated text is read as that text, places aside.
use Rattle.std.proofs.Common.{◌≡◌, ℕ, suc, ◌≤◌, ◌==◌, ◌||◌, List, [], ◌∷◌, ◌++◌, length, map, flat_map, Bool, true, false, codes, None, refl, sym, ap, subst, ◌∙◌, if◌then◌else◌, All, IsTrue, true≢false, eq-eqb, eqb-true}
use Rattle.std.proofs.lemmas.Bool.{or_left, or_right}
use Rattle.std.proofs.lemmas.List.Elements.{All-head, All-tail}
use Rattle.cov_expr.specs.declared.expr.TheConstants.{HOLE}
use Rattle.cov_expr.specs.declared.limits.TheConstants.{MOST_BYTES}
use Rattle.cov_grammar.specs.Grammar.{program}
use Rattle.cov_grammar.specs.PlacedTrees as t
use Rattle.cov_grammar.specs.PlacedTrees.{Program}
use Rattle.cov_ast.specs.Obligations.{all_hold}
use Rattle.cov_ast.specs.Ready.{Use, use_of, uses_in_block, uses_in_class, uses_in_declarations, uses_in_lock, uses_in_modes, uses_in_thread}
use Rattle.cov_ast.specs.Syntax.{Cert, Parsed}
use Rattle.cov_ast.specs.WellFormed.{IsWellFormed}
use Rattle.cov_ast.specs.declared.parsed.NameUse.{NameUse}
use Rattle.cov_ast.proofs.ObligationLaws.{both_hold}
use Rattle.cov_text.specs.GivenTrees.{block_of, parsed_of, thread_of}
use Rattle.cov_text.specs.Limits.{in_program}
use Rattle.cov_text.specs.Text.{lexed_of, names_of, numbered_of, program_of, words_of, IsText}
use Rattle.cov_text.specs.Uses.{uses_of}
use Rattle.cov_text.proofs.NamesInOrder.{uses_in_order}
use Rattle.cov_print.specs.ReadBack.{SpellsProgram}
use Rattle.cov_print.specs.Spelling as spec
use Rattle.cov_print.specs.Unplaced.{unplaced, unplaced_use}
use Rattle.cov_print.proofs.Declarations.{seen_program}
use Rattle.cov_print.proofs.Named.{get_same, IsIn}
use Rattle.cov_print.proofs.PrintLaws.{of_seen, spelling_unplaced}
use Rattle.cov_print.proofs.Readings.{known}
use Rattle.policy_class.specs.Resolved.{declared_names, is_among, is_declared, lock_names, name_obligations, resolved, text_of, use_obligation, var_names, w1_from}
use Rattle.annotate.specs.AnnotatedText.{annotated_text, IsAsRead, unresolved_choices}
use Rattle.annotate.specs.WithCertificates.{put_in, put_in_threads}
use Rattle.annotate.proofs.Changes.{AreNewProofs, program_looks, program_shown, Remade}
use Rattle.annotate.proofs.FineTexts.{annotated_fine, seen_is, seen_of}
use Rattle.annotate.proofs.NameLaws.{all_declared, annotated_as_read, names_stay}
use Rattle.annotate.proofs.PrintedTexts.{alike, AreQuiet, Back, no_name, put_seen, read_back, remade}
use Rattle.annotate.proofs.ReadTexts.{read_as_read}
use Rattle.annotate.proofs.SameTables.{names_of_vars, ThreadsIn}
use Rattle.annotate.proofs.TextNames.{uses_left, uses_right, UsesIn}

-- Declared names -----------------------------------------------------------------------------------------------

module _ (p : Parsed) where
  -- the hole, or the name of a variable
  abbrev pub inside : ℕ → Bool
  inside x = (x == HOLE) || is_among (var_names p) (text_of p x)

  pub hole_inside : inside HOLE ≡ true
  hole_inside = or_left (HOLE == HOLE) (is_among (var_names p) (text_of p HOLE)) (eq-eqb HOLE HOLE refl)

  module _ (named : ℕ → Bool) where
    abbrev pub AllIn : List Use → Type 0
    AllIn us = UsesIn inside hole_inside named us

    used_in : (us : List NameUse) → All (λ u. IsTrue (is_declared p u)) us → AllIn (map use_of us)
    used_in [] h = tt
    used_in (u ∷ us) h = (
      λ e. or_right (u.name == HOLE) (is_among (var_names p) (text_of p u.name))
          (subst (λ b. IsTrue (is_among (if b then lock_names p else var_names p) (text_of p u.name))) e (All-head (λ u. IsTrue (is_declared p u)) u us h)),
      used_in us (All-tail (λ u. IsTrue (is_declared p u)) u us h),
    )

    threads_in : (names : List (List ℕ)) (chosen : (u place : ℕ) → List (ℕ × Cert)) (u : ℕ) (hs : List t.Thread) → AreQuiet names chosen u hs
        → AllIn (flat_map uses_in_thread (map (thread_of names) hs)) → AllIn (flat_map uses_in_thread (put_in_threads chosen u (map (thread_of names) hs)))
        → ThreadsIn named inside hole_inside chosen u hs
    threads_in names chosen u [] quiet h g = tt
    threads_in names chosen u (x ∷ hs) quiet h g =
        let y = thread_of names x in
        let b = block_of x.body in
        let b' = put_in (chosen u) b in
        let rest = flat_map uses_in_thread (map (thread_of names) hs) in
        let rest' = flat_map uses_in_thread (put_in_threads chosen (suc u) (map (thread_of names) hs)) in
        let m = uses_in_modes y.modes in (
          uses_right inside hole_inside named m (uses_in_block b) (uses_left inside hole_inside named (m ++ uses_in_block b) rest h),
          subst (λ c. AllIn (uses_in_block c)) (sym quiet.0) (uses_right inside hole_inside named m (uses_in_block b') (uses_left inside hole_inside named (m ++ uses_in_block b') rest' g)),
          threads_in names chosen (suc u) hs quiet.1 (uses_right inside hole_inside named (m ++ uses_in_block b) rest h) (uses_right inside hole_inside named (m ++ uses_in_block b') rest' g),
        )

-- The law ------------------------------------------------------------------------------------------------------

module _ (text : List ℕ) (short : length text ≤ MOST_BYTES) (tree : Program) (is : IsText program in_program text tree) (formed : IsWellFormed (resolved (program_of text tree)))
    (named : IsTrue (all_hold (name_obligations (program_of text tree)))) (depth : ℕ) (lt : depth ≤ 2) where
  abbrev p : Parsed
  p = program_of text tree

  abbrev q : Parsed
  q = annotated_text depth p

  abbrev names : List (List ℕ)
  names = names_of text

  abbrev chosen : (u place : ℕ) → List (ℕ × Cert)
  chosen = unresolved_choices depth p

  as_read : IsAsRead p
  as_read = read_as_read text short tree is

  again_as_read : IsAsRead q
  again_as_read = annotated_as_read depth p formed as_read

  abbrev UsesAreIn : List Use → Type 0
  UsesAreIn us = AllIn p (known names) us

  uses_before : UsesAreIn (uses_in_declarations p)
  uses_before =
      subst UsesAreIn as_read.in_order
      (used_in p (known names) p.uses (all_declared p p.uses (both_hold (w1_from [] (declared_names p)) (map (use_obligation p) p.uses) named).1))

  uses_after : UsesAreIn (uses_in_declarations q)
  uses_after =
      subst UsesAreIn again_as_read.in_order
      (used_in p (known names) q.uses
      (all_declared p q.uses (both_hold (w1_from [] (declared_names q)) (map (use_obligation q) q.uses) (names_stay depth p formed as_read named)).1))

  abbrev front : List Use
  front = flat_map (λ v. uses_in_class v.class) p.vars ++ flat_map uses_in_lock p.locks

  module _ (new : (u place : ℕ) → AreNewProofs (known names) (tree.version ≡ 1) (chosen u place)) (quiet : AreQuiet names chosen 0 tree.threads) where
    declared : (x : ℕ) → inside p x ≡ true → known names x ≡ true → IsIn (names_of_vars names tree.vars) (spec.name names x)
    declared x h k = by (x == HOLE) refl h
      where
        by : (b : Bool) → (x == HOLE) ≡ b → (b || is_among (var_names p) (text_of p x)) ≡ true → IsIn (names_of_vars names tree.vars) (spec.name names x)
        by true e i = absurd (true≢false (sym k ∙ ap (known names) (eqb-true x HOLE e) ∙ no_name names as_read.few))
        by false e i = subst (IsIn (names_of_vars names tree.vars)) (get_same names [] (codes "_") x k) i

    inside_threads : ThreadsIn (known names) (inside p) (hole_inside p) chosen 0 tree.threads
    inside_threads =
        threads_in p (known names) names chosen 0 tree.threads quiet
        (uses_right (inside p) (hole_inside p) (known names) front (flat_map uses_in_thread p.threads) uses_before)
        (uses_right (inside p) (hole_inside p) (known names) front (flat_map uses_in_thread q.threads) uses_after)

    made_of : Remade (known names) (tree.version ≡ 1) program program_shown (program_looks chosen tree)
    unfolding names_of words_of numbered_of
    made_of = remade text (lexed_of text) is.tokens.lexes as_read.few tree is.spelled chosen new

    abbrev made : Program
    made = made_of.value

    back_of : in_program made ≡ None → (uses : List NameUse) → length (spec.spelling (parsed_of names uses made)) ≤ MOST_BYTES → Back names (spec.spelling (parsed_of names uses made)) made
    unfolding names_of words_of numbered_of
    back_of small uses few =
        read_back text (lexed_of text) is.tokens.lexes as_read.few tree is.spelled chosen new (inside p) (hole_inside p) inside_threads declared made made_of.tokens made_of.spelled made_of.looks made_of.clean
        small uses few

    seen_made : seen_program names made ≡ seen_of (unplaced q)
    seen_made = put_seen names chosen (uses_of (words_of text)) tree made made_of.looks quiet

    same_made : unplaced (parsed_of names q.uses made) ≡ unplaced q
    same_made = let e : seen_of (unplaced (parsed_of names q.uses made)) ≡ seen_of (unplaced q) = sym (seen_is names q.uses made) ∙ seen_made in λ i. of_seen names (map unplaced_use q.uses) (e i)

    small : in_program made ≡ None
    small = annotated_fine names (uses_of (words_of text)) q.uses tree made depth lt is.small same_made

    spelled_same : spec.spelling (parsed_of names q.uses made) ≡ spec.spelling q
    spelled_same = sym (spelling_unplaced (parsed_of names q.uses made)) ∙ ap spec.spelling same_made ∙ spelling_unplaced q

    pub spelling_is_read : length (spec.spelling q) ≤ MOST_BYTES → SpellsProgram (spec.spelling q) q
    spelling_is_read few =
        let out = spec.spelling (parsed_of names q.uses made) in
        let b = back_of small q.uses (subst (λ u. length u ≤ MOST_BYTES) (sym spelled_same) few) in
        let again = b.tree_again in
        let r = program_of out again in
        let few_again : length (names_of out) ≤ HOLE = subst (λ ns. length ns ≤ HOLE) (sym b.names_again) as_read.few in
        let seen : seen_of (unplaced r) ≡ seen_of (unplaced q) = sym (seen_is (names_of out) (uses_of (words_of out)) again) ∙ ap (λ ns. seen_program ns again) b.names_again ∙ b.seen_again ∙ seen_made in
        subst (λ u. SpellsProgram u q) spelled_same
        (record { tree = again; is_text = b.is_text; same = alike r q b.names_again seen (uses_in_order out few_again again b.is_text) again_as_read.in_order })
