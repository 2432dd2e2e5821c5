-- The uses of names in a text are those of its tree, in the same order, and each id is the number of a name.
use Rattle.std.proofs.Common.{◌≡◌, ℕ, ◌≤◌, ◌<◌, List, [], ◌∷◌, ◌++◌, length, map, Bool, true, false, if◌then◌else◌, ◌||◌, Option, Some, None, refl, sym, ap, subst, ◌∙◌, arith, append_assoc, append-nil, length-append}
use Rattle.std.specs.Prelude.{flat_map}
use Rattle.std.specs.List.{All}
use Rattle.std.proofs.lemmas.List.Elements.{All-nil, All-cons, All-append}
use Rattle.cov_expr.specs.Term.{Term}
use Rattle.cov_expr.specs.Words.{HasVarsBelow}
use Rattle.cov_expr.specs.declared.expr.TheConstants.{HOLE}
use Rattle.cov_expr.specs.declared.kind.Kind.{Kind}
use Rattle.cov_expr.specs.declared.kind.Kind.TheVariants as k
use Rattle.cov_grammar.specs.declared.token.Token.{Token}
use Rattle.cov_grammar.specs.LookAhead.{kind_is}
use Rattle.cov_grammar.specs.PlacedTrees.{Program, Placed}
use Rattle.cov_grammar.specs.Shapes.{opt, Sense}
use Rattle.cov_grammar.specs.Grammar.{version, version_of, program, whole}
use Rattle.cov_grammar.specs.Spells.{Is, Within}
use Rattle.cov_ast.specs.Ready.{uses_in, uses_in_class, uses_in_lock, uses_in_thread, uses_in_declarations}
use Rattle.cov_ast.specs.Ready as ready
use Rattle.cov_ast.specs.declared.parsed.NameUse.{NameUse}
use Rattle.cov_ast.specs.Plain.{class_term}
use Rattle.cov_ast.specs.WellFormed.{IsLockInRange}
use Rattle.cov_grammar.proofs.Basics.{kind_one}
use Rattle.cov_text.specs.Limits.{in_program, in_expr}
use Rattle.cov_text.specs.Named.{AreNamed}
use Rattle.cov_text.specs.Uses.{declares, is_lock, use_of, uses_behind, uses_of, AreUsesOf}
use Rattle.cov_text.specs.GivenTrees.{var_of, lock_of, thread_of, expr_of}
use Rattle.cov_text.specs.Text.{words_of, names_of, IsShallow, IsText, program_of}
use Rattle.cov_text.proofs.UseLaws.{uses_from, IsSilent}
use Rattle.cov_text.proofs.Summaries.{AreBelow, AreFine, Kept, HasSummary, nothing, more, fine_left, fine_right}
use Rattle.cov_text.proofs.ShapeSummaries.{all, of_option, IsSummary, kept_law, opt_law, many_law, behind_law, closed_law}
use Rattle.cov_text.proofs.TermSummaries.{of_expr}
use Rattle.cov_text.proofs.StmtSummaries.{rule_summaries, block_summary}
use Rattle.cov_text.proofs.CertSummaries.{number_summary, whole_summary}
use Rattle.cov_text.proofs.DeclSummaries.{all_ids, all_uses, of_var, of_lock, var_summary, lock_summary, IsGood, threads_summary}
use Rattle.cov_text.proofs.WordLaws.{words_fine}

-- A summary of the tokens of a program, of which so many names are listed.
pub record ProgramSummary (n : ℕ) (ns : List (List ℕ)) (p : Program) (ts : List Token) : Type 0 where
  pub uses : uses_from false k.Semicolon ts ≡ flat_map (λ v. uses_in_class v.class) (map (var_of ns) p.vars) ++ flat_map uses_in_lock (map (lock_of ns) p.locks) ++ flat_map uses_in_thread (map (thread_of ns) p.threads)
  pub named : AreNamed n p
  pub classes : All (λ v. HasVarsBelow (class_term v.class) n) (map (var_of ns) p.vars)
  pub locks : All (IsLockInRange n n) (map (lock_of ns) p.locks)
  pub threads : All (IsGood n (length ts)) (map (thread_of ns) p.threads)

map_same : {A : Type 0} (xs : List A) → map (λ x. x) xs ≡ xs
map_same [] = refl
map_same (x ∷ xs) = ap (λ ys. x ∷ ys) (map_same xs)

begins_silent : IsSilent k.Semicolon
unfolding kind_is
begins_silent = refl

version_of_nothing : (x : Option ℕ) → (of_option (λ v. more (more (more nothing))) x).ids → Kept (of_option (λ v. more (more (more nothing))) x) nothing
version_of_nothing None ids = record { uses = refl; size = omega arith; places = refl; ids = tt }
version_of_nothing (Some v) ids = record { uses = refl; size = omega arith; places = refl; ids = tt }

-- what stands in front of all declarations
version_summary : (b : Bool) (n : ℕ) (inside : Sense) → IsSummary b n inside IsSilent (opt version) (λ x. nothing)
unfolding version kind_is
version_summary b n inside =
    kept_law b n inside (λ x. nothing)
    (opt_law b n inside (behind_law b n inside k.Version refl (closed_law b n inside k.Semicolon refl (number_summary b n inside)))) version_of_nothing

pub program_summary : (n : ℕ) → n ≤ HOLE → (ns : List (List ℕ)) (p : Program) (ts : List Token) → AreFine n ts → Is program p ts → ProgramSummary n ns p ts
unfolding program
program_summary n few ns p ts fine is = subst (λ q. ProgramSummary n ns q ts) is.1.1 made
  where
    made : ProgramSummary n ns (record { version = version_of is.1.0.0; vars = is.1.0.1.0; locks = is.1.0.1.1.0; threads = is.1.0.1.1.1 }) ts
    made =
        let plain = rule_summaries n few false is.0 in
        let w = is.1.2 in
        let s = w.3 in
        let r = s.3 in
        let behind_version = fine_right n w.0 w.1 ts w.4 fine in
        let behind = fine_right n s.0 s.1 w.1 s.4 behind_version in
        let front = (version_summary false n (Within is.0)).of is.1.0.0 w.0 (fine_left n w.0 w.1 ts w.4 fine) w.2 in
        let vars = (many_law false n (Within is.0) (var_summary n (Within is.0) plain.expr)).of is.1.0.1.0 s.0 (fine_left n s.0 s.1 w.1 s.4 behind_version) s.2 in
        let locks = (many_law false n (Within is.0) (lock_summary n (Within is.0) plain.expr ns)).of is.1.0.1.1.0 r.0 (fine_left n r.0 r.1 s.1 r.4 behind) r.2 in
        let shorter : length r.1 ≤ length ts = omega (arith, ap length w.4, length-append w.0 w.1, ap length s.4, length-append s.0 s.1, ap length r.4, length-append r.0 r.1) in
        let threads = threads_summary n (Within is.0) (block_summary n few is.0) ns (length ts) is.1.0.1.1.1 r.1 shorter (fine_right n r.0 r.1 s.1 r.4 behind) r.3 in
        let zero = front.uses k.Semicolon begins_silent w.1 in
        let one = vars.uses zero.0 zero.1 s.1 in
        let two = locks.uses one.0 one.1 r.1 in
        record {
          uses =
              ap (uses_from false k.Semicolon) w.4 ∙ zero.2 ∙ ap (uses_from false zero.0) s.4 ∙ one.2
              ∙ ap (λ us. (all (of_var n) is.1.0.1.0).uses ++ us) (ap (uses_from false one.0) r.4 ∙ two.2 ∙ ap (λ us. (all (of_lock n ns) is.1.0.1.1.0).uses ++ us) (threads.uses false two.0))
              ∙ sym (append_assoc (all (of_var n) is.1.0.1.0).uses (all (of_lock n ns) is.1.0.1.1.0).uses (flat_map uses_in_thread (map (thread_of ns) is.1.0.1.1.1)))
              ∙ ap (λ us. us ++ (all (of_lock n ns) is.1.0.1.1.0).uses ++ flat_map uses_in_thread (map (thread_of ns) is.1.0.1.1.1)) (all_uses (of_var n) (var_of ns) (λ v. uses_in_class v.class) (λ v. refl) is.1.0.1.0)
              ∙ ap (λ us. flat_map (λ v. uses_in_class v.class) (map (var_of ns) is.1.0.1.0) ++ us ++ flat_map uses_in_thread (map (thread_of ns) is.1.0.1.1.1)) (all_uses (of_lock n ns) (lock_of ns) uses_in_lock (λ l. refl) is.1.0.1.1.0);
          named = record {
            vars = subst (All (λ v. v.name.0 < n)) (map_same is.1.0.1.0) (all_ids (of_var n) (λ v. v) (λ v. v.name.0 < n) (λ v ids. ids.0) is.1.0.1.0 vars.ids);
            locks = subst (All (λ l. l.name.0 < n)) (map_same is.1.0.1.1.0) (all_ids (of_lock n ns) (λ l. l) (λ l. l.name.0 < n) (λ l ids. ids.0) is.1.0.1.1.0 locks.ids);
            threads = threads.names;
          };
          classes = all_ids (of_var n) (var_of ns) (λ v. HasVarsBelow (class_term v.class) n) (λ v ids. ids.1) is.1.0.1.0 vars.ids;
          locks = all_ids (of_lock n ns) (lock_of ns) (IsLockInRange n n) (λ l ids. ids.1) is.1.0.1.1.0 locks.ids;
          threads = threads.good;
        }

-- Uses are numbers of names --------------------------------------------------------------------------------------

module _ (n : ℕ) where
  abbrev IsNamed : NameUse → Type 0
  IsNamed u = u.name < n

  abbrev used_at : (before : Kind) → Token → NameUse
  used_at before t = record { name = t.value; lock = is_lock before; at = t.at }

  use_below : (b : Bool) (before : Kind) (t : Token) → (t.kind ≡ k.Name → t.value < n) → All IsNamed (use_of b before t)
  use_below b before t below = by (kind_is k.Name t.kind) refl
    where
      used : (declared : Bool) → t.value < n → All IsNamed (if declared then [] else used_at before t ∷ [])
      used true h = All-nil IsNamed
      used false h = All-cons IsNamed (used_at before t) [] h (All-nil IsNamed)

      by : (named : Bool) → kind_is k.Name t.kind ≡ named → All IsNamed (if named then (if declares b before then [] else used_at before t ∷ []) else [])
      by false e = All-nil IsNamed
      by true e = used (declares b before) (below (sym (kind_one k.Name t.kind e)))

  uses_below : (b : Bool) (before : Kind) (ts : List Token) → AreBelow n ts → All IsNamed (uses_behind b before ts)
  uses_below b before [] below = All-nil IsNamed
  uses_below b before (t ∷ ts) below =
      All-append IsNamed (use_of b before t) (uses_behind (b || kind_is k.Thread t.kind) t.kind ts)
      (use_below b before t below.0) (uses_below (b || kind_is k.Thread t.kind) t.kind ts below.1)

module _ (text : List ℕ) where
  abbrev count : ℕ
  count = length (names_of text)

  pub uses_named : IsShallow text → All (IsNamed count) (uses_of (words_of text))
  uses_named tokens = uses_below count false k.Semicolon (words_of text) (words_fine text tokens.lexes).names

  -- Texts of fewer names than the hole's number ------------------------------------------------------------------

  module _ (few : length (names_of text) ≤ HOLE) where
    -- a summary of a text by its tree
    pub text_summary : (tree : Program) → IsShallow text → Is program tree (words_of text) → ProgramSummary count (names_of text) tree (words_of text)
    text_summary tree tokens spelled = program_summary count few (names_of text) tree (words_of text) (words_fine text tokens.lexes) spelled

    -- The list of uses has each name that the declarations use, in the order of the text.
    pub uses_in_order : (tree : Program) → IsText program in_program text tree → map ready.use_of (uses_of (words_of text)) ≡ uses_in_declarations (program_of text tree)
    uses_in_order tree is = (text_summary tree is.tokens is.spelled).uses

    -- declarations are named by numbers of names
    pub declarations_named : (names : List (List ℕ)) (ws : List Token) (tree : Program) → IsShallow text → names ≡ names_of text → ws ≡ words_of text → Is program tree ws → AreNamed (length names) tree
    declarations_named names ws tree tokens named read spelled =
        subst (λ ns. AreNamed (length ns) tree) (sym named) (text_summary tree tokens (subst (Is program tree) read spelled)).named

    -- a summary of a text that is an expression
    expression_summary : (tree : Placed Term) → IsText whole in_expr text tree → HasSummary false IsSilent (of_expr count (expr_of tree)) (words_of text)
    expression_summary tree is =
        (whole_summary false count (Within is.spelled.0) (rule_summaries count few false is.spelled.0).expr).of
        tree (words_of text) (words_fine text is.tokens.lexes) is.spelled.1

    -- in a text that is an expression, each variable is the number of a name
    pub expr_below : (tree : Placed Term) → IsText whole in_expr text tree → HasVarsBelow (expr_of tree) count
    expr_below tree is = (expression_summary tree is).ids

    -- The list of uses has the variables of the expression, in the order of the text.
    pub expr_uses : (tree : Placed Term) → IsText whole in_expr text tree → AreUsesOf (uses_of (words_of text)) (expr_of tree)
    expr_uses tree is =
        let x = (expression_summary tree is).uses k.Semicolon begins_silent [] in
        ap (uses_from false k.Semicolon) (sym (append-nil (words_of text))) ∙ x.2 ∙ append-nil (uses_in (expr_of tree))
