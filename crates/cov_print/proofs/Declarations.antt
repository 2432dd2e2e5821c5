-- The canonical tokens of declarations and programs spell them.
use Rattle.std.proofs.Common.{◌≡◌, ℕ, arith, List, [], ◌∷◌, ◌++◌, Bool, false, Option, Some, None, map, option_map, flat_map, refl, sym, ap, subst, ◌∙◌, inl, inr}
use Rattle.cov_expr.specs.Term.{Term}
use Rattle.cov_expr.specs.declared.kind.Kind.{Kind}
use Rattle.cov_expr.specs.declared.kind.Kind.TheVariants as k
use Rattle.cov_grammar.specs.declared.token.Token.{Token}
use Rattle.cov_grammar.specs.PlacedTrees as t
use Rattle.cov_grammar.specs.PlacedTrees.{Placed}
use Rattle.cov_grammar.specs.Shapes.{rule, seq, opt, many, act, Sense, Spells}
use Rattle.cov_grammar.specs.Grammar.{◌▸◌, listed, names, class, low_or, var_decl, lock_decl, two_lists, modes_behind, two_modes, thread_decl, version, version_of, program}
use Rattle.cov_grammar.specs.Spells.{Within, Is}
use Rattle.cov_grammar.proofs.Senses.{OfShape}
use Rattle.cov_ast.specs.Syntax as s
use Rattle.cov_text.specs.GivenTrees.{expr_of, class_of, block_of, name_of, var_of, lock_of, modes_of, thread_of}
use Rattle.cov_print.specs.Unplaced.{unplaced_block, unplaced_var, unplaced_lock, unplaced_thread}
use Rattle.cov_print.proofs.Written as w
use Rattle.cov_print.proofs.Written.{Word, plain}
use Rattle.cov_print.proofs.Keeps.{Are, leaves, keeps_number, Quiet, optional, Kept, Keeps, keeps_seq, keeps_act, keeps_alt, keeps_key, keeps_end, both, made_kept, two, keeps_sign, keeps_name, keeps_named, keeps_opt, keeps_many, keeps_separated, keeps_so, keeps_some, keeps_seen, keeps_word, NeverNil, separated_never, key_never}
use Rattle.cov_print.proofs.Operands.{expr_keeps}
use Rattle.cov_print.proofs.Statements.{whole_keeps, maybe_keeps, block_keeps}

map_same : (xs : List ℕ) → map (λ x. x) xs ≡ xs
map_same [] = refl
map_same (x ∷ xs) = ap (λ l. x ∷ l) (map_same xs)

-- what is seen of declarations, among names, without places
abbrev pub seen_var : List (List ℕ) → t.Var → s.Var
seen_var all v = unplaced_var (var_of all v)

abbrev pub seen_lock : List (List ℕ) → t.Lock → s.Lock
seen_lock all l = unplaced_lock (lock_of all l)

abbrev pub seen_thread : List (List ℕ) → t.Thread → s.Thread
seen_thread all h = unplaced_thread (thread_of all h)

abbrev pub seen_program : List (List ℕ) → t.Program → ℕ × (List s.Var × (List s.Lock × List s.Thread))
seen_program all p = (p.version, (map (seen_var all) p.vars, (map (seen_lock all) p.locks, map (seen_thread all) p.threads)))

-- the words of declarations
abbrev pub var_words : (ℕ → Bool) → t.Var → List Word
var_words known v = w.var_decl known v.name.0 (class_of v.class)

abbrev pub lock_words : (ℕ → Bool) → t.Lock → List Word
lock_words known l = w.lock_decl known l.name.0 l.nowrite l.hide (option_map expr_of l.inv)

abbrev pub thread_words : (ℕ → Bool) → t.Thread → List Word
thread_words known h = w.thread_decl known h.name.0 (modes_of h.modes) (block_of h.body)

abbrev pub declaration_words : (ℕ → Bool) → t.Program → List Word
declaration_words known p = flat_map (var_words known) p.vars ++ (flat_map (lock_words known) p.locks ++ flat_map (thread_words known) p.threads)

abbrev pub program_words : (ℕ → Bool) → t.Program → List Word
program_words known p = w.version p.version ++ declaration_words known p

-- the same program in version 2
abbrev pub second : t.Program → t.Program
second p = record { version = 2; vars = p.vars; locks = p.locks; threads = p.threads }

module _ (known : ℕ → Bool) (S : Sense) where
  -- Lists of names ---------------------------------------------------------------------------------------------

  names_keep : Keeps known S names (λ xs. xs) w.names
  unfolding names
  names_keep = keeps_seen (λ xs. xs) (λ xs. xs) (λ xs. sym (map_same xs)) (keeps_separated keeps_name)

  names_never : NeverNil S names
  unfolding names
  names_never = separated_never

  behind_keeps : (j : Kind) → Quiet j → Keeps known S (listed (j ▸ names)) (λ xs. xs) (w.behind j)
  unfolding names
  behind_keeps j quiet =
      keeps_seen (λ xs. xs) (λ xs. xs) (λ xs. sym (map_same xs))
      (keeps_some (w.behind j) (key_never j separated_never) refl (λ x xs. refl) (keeps_key j quiet (keeps_separated keeps_name)))

  module _ (j : Kind) (quiet : Quiet j) where
    hidden_keep : Keeps known S (listed (j ▸ k.Hide ▸ names)) (λ xs. xs) (w.mode j k.Hide)
    unfolding names
    hidden_keep =
        keeps_seen (λ xs. xs) (λ xs. xs) (λ xs. sym (map_same xs))
        (keeps_some (w.mode j k.Hide) (key_never j (key_never k.Hide separated_never)) refl (λ x xs. refl) (keeps_key j quiet (keeps_key k.Hide (λ v. refl) (keeps_separated keeps_name))))

    -- what stands behind the first word
    abbrev words_behind : List ℕ → List ℕ → List Word
    words_behind [] hs = plain k.Hide ∷ w.names hs
    words_behind (x ∷ xs) hs = plain k.Nowrite ∷ (w.names (x ∷ xs) ++ w.mode j k.Hide hs)

    abbrev Pair : Type 0
    Pair = List ℕ × List ℕ

    first_names : (v : Pair) (ts : List Token) → Spells S (k.Nowrite ▸ seq names (listed (j ▸ k.Hide ▸ names))) v ts → (us : List Token) × Spells S names v.0 us
    first_names v ts s = (s.2.3.0, subst (λ p. Spells S names p.0 s.2.3.0) s.1 s.2.3.2)

    first_modes : Keeps known S (k.Nowrite ▸ seq names (listed (j ▸ k.Hide ▸ names))) (λ p. p) (λ p. words_behind p.0 p.1)
    first_modes =
        keeps_so (λ p. words_behind p.0 p.1) (λ v ts s. let m = first_names v ts s in by v.0 v.1 m.0 m.1)
        (keeps_key k.Nowrite (λ v. refl) (keeps_seq names_keep hidden_keep))
      where
        by : (ns hs : List ℕ) (ts : List Token) → Spells S names ns ts → plain k.Nowrite ∷ (w.names ns ++ w.mode j k.Hide hs) ≡ words_behind ns hs
        by [] hs ts s = absurd (names_never.never ts s)
        by (x ∷ xs) hs ts s = refl

    last_names : (v : Pair) (ts : List Token) → Spells S (k.Hide ▸ act {B = List ℕ × List ℕ} (λ xs. ([], xs)) names) v ts → (us : List Token) × Spells S names v.1 us
    last_names v ts s = (s.2.1, subst (λ p. Spells S names p.1 s.2.1) (s.2.3.1 ∙ s.1) s.2.3.2)

    modes_keep : Keeps known S (modes_behind j) (λ p. p) (λ p. words_behind p.0 p.1)
    unfolding modes_behind
    modes_keep = keeps_alt first_modes (keeps_word k.Hide (λ xs. ([], xs)) (λ p. p) (λ p. words_behind p.0 p.1) (λ xs. ([], xs)) (λ v. refl) (λ x. refl) (λ x. refl) names_keep)

    not_both : (ns hs : List ℕ) (ts : List Token) → Spells S (modes_behind j) (ns, hs) ts → plain j ∷ words_behind ns hs ≡ w.modes j ns hs
    unfolding modes_behind
    not_both (x ∷ xs) hs ts s = refl
    not_both [] (y ∷ ys) ts s = refl
    not_both [] [] ts (inl s) = let m = first_names ([], []) ts s in absurd (names_never.never m.0 m.1)
    not_both [] [] ts (inr s) = let m = last_names ([], []) ts s in absurd (names_never.never m.0 m.1)

    some_names : (v : Pair) (ts : List Token) → Spells S (j ▸ modes_behind j) v ts → (us : List Token) × Spells S (modes_behind j) v us
    some_names v ts s = (s.2.1, subst (λ p. Spells S (modes_behind j) p s.2.1) s.1 s.2.3)

    two_keep : Keeps known S (two_modes j) (λ p. p) (λ p. w.modes j p.0 p.1)
    unfolding two_modes
    two_keep =
        keeps_act two_lists (λ p. p) (λ p. w.modes j p.0 p.1) two_lists seen wrote
        (keeps_opt (keeps_so (λ p. w.modes j p.0 p.1) (λ v ts s. let m = some_names v ts s in not_both v.0 v.1 m.0 m.1) (keeps_key j quiet modes_keep)))
      where
        seen : (x : Option Pair) → two_lists x ≡ two_lists (option_map (λ p. p) x)
        seen None = refl
        seen (Some p) = refl

        wrote : (x : Option Pair) → w.modes j (two_lists x).0 (two_lists x).1 ≡ optional (λ p. w.modes j p.0 p.1) x
        wrote None = refl
        wrote (Some p) = refl

  -- Declarations -----------------------------------------------------------------------------------------------

  module _ (names_are : List (List ℕ)) (exprs : Keeps known S (rule t.expr) (λ e. e) (w.expr known false)) where
    class_keeps : Keeps known S class class_of (λ c. w.class known (class_of c))
    unfolding class
    class_keeps =
        keeps_alt (keeps_word k.Low low_or class_of (λ c. w.class known (class_of c)) made (λ v. refl) seen wrote (maybe_keeps known S exprs k.When (keeps_key k.When (λ v. refl) (whole_keeps known S exprs))))
        (keeps_sign k.High t.high class_of (λ c. w.class known (class_of c)) (λ v. refl) refl)
      where
        made : Option Term → s.Class
        made None = s.low
        made (Some e) = s.when e

        seen : (x : Option (Placed Term)) → class_of (low_or x) ≡ made (option_map expr_of x)
        seen None = refl
        seen (Some e) = refl

        wrote : (x : Option (Placed Term)) → w.class known (class_of (low_or x)) ≡ plain k.Low ∷ w.maybe known k.When (option_map expr_of x)
        wrote None = refl
        wrote (Some e) = refl

    var_keeps : Keeps known S var_decl (seen_var names_are) (var_words known)
    unfolding var_decl
    var_keeps =
        keeps_act (λ x. record { name = x.0; class = x.1 }) (seen_var names_are) (var_words known) (λ x. record { name = name_of names_are x.0; at = 0; class = x.1 }) (λ x. refl) (λ x. refl)
        (keeps_key k.Var (λ v. refl) (keeps_end k.Semicolon (λ v. refl) (keeps_seq keeps_named (keeps_key k.Colon (λ v. refl) class_keeps))))

    lock_keeps : Keeps known S lock_decl (seen_lock names_are) (lock_words known)
    unfolding lock_decl
    lock_keeps =
        keeps_act (λ x. record { name = x.0; nowrite = x.1.0; hide = x.1.1.0; inv = x.1.1.1 }) (seen_lock names_are) (lock_words known)
        (λ x. record { name = name_of names_are x.0; at = 0; nowrite = x.1.0; hide = x.1.1.0; inv = x.1.1.1 }) (λ x. refl) (λ x. refl)
        (keeps_key k.Lock (λ v. refl)
        (keeps_end k.Semicolon (λ v. refl)
        (keeps_seq keeps_named
        (keeps_seq (behind_keeps k.Nowrite (λ v. refl))
        (keeps_seq (behind_keeps k.Hide (λ v. refl)) (maybe_keeps known S exprs k.Inv (keeps_key k.Inv (λ v. refl) (whole_keeps known S exprs))))))))

    module _ (blocks : Keeps known S (rule t.block) (λ b. unplaced_block (block_of b)) (λ b. w.braces known (block_of b))) where
      thread_keeps : Keeps known S thread_decl (seen_thread names_are) (thread_words known)
      unfolding thread_decl
      thread_keeps =
          keeps_act
          (λ x. record { name = x.0; modes = record { assume_nowrite = x.1.0.0; assume_hide = x.1.0.1; guarantee_nowrite = x.1.1.0.0; guarantee_hide = x.1.1.0.1 }; body = x.1.1.1 })
          (seen_thread names_are) (thread_words known)
          (λ x. record { name = name_of names_are x.0; at = 0; modes = record { assume_nowrite = x.1.0.0; assume_hide = x.1.0.1; guarantee_nowrite = x.1.1.0.0; guarantee_hide = x.1.1.0.1 }; body = x.1.1.1; end = 0 })
          (λ x. refl) (λ x. refl)
          (keeps_key k.Thread (λ v. refl) (keeps_seq keeps_named (keeps_seq (two_keep k.Assume (λ v. refl)) (keeps_seq (two_keep k.Guarantee (λ v. refl)) blocks))))

      -- Programs -------------------------------------------------------------------------------------------------

      numbered_keeps : Keeps known S version (λ n. n) (λ n. plain k.Version ∷ (w.number n ∷ [] ++ plain k.Semicolon ∷ []))
      unfolding version
      numbered_keeps = keeps_key k.Version (λ v. refl) (keeps_end k.Semicolon (λ v. refl) keeps_number)

      -- these words spell a version, whichever number the text has in their place
      version_again : (ns : List Token) → Are (plain k.Version ∷ w.number 2 ∷ plain k.Semicolon ∷ []) ns → OfShape version 2 ns
      unfolding version
      version_again ns are =
          let n = are.3 in
          let c = n.3 in (
            (are.0, 2),
            refl,
            (
              are.0 ∷ [],
              are.1,
              (are.2, refl),
              ((2, c.0), refl, (n.0 ∷ [], n.1, (n.0, n.2.1, (n.2.0, refl)), (c.2, c.4 ∙ ap (λ l. c.0 ∷ l) c.3), n.4)),
              are.4,
            ),
          )

      version_keeps : Keeps known S (opt version) version_of (λ x. w.version (version_of x))
      version_keeps = record { kept = by }
        where
          by : (x : Option ℕ) (ts : List Token) → Spells S (opt version) x ts → Kept known (opt version) version_of (version_of x) (w.version (version_of x)) ts
          by None ts h = record { same = ap leaves h; fit = λ g. tt; silent = λ g. tt; spelt = λ g ns are. (None, are, refl) }
          by (Some n) ts h =
              let m = numbered_keeps.kept n ts h in
              record {
                same = m.same;
                fit = λ g. (tt, (omega arith, (tt, tt)));
                silent = λ g. let i = m.silent g in (i.0, (tt, (i.1.1.0, tt)));
                spelt = λ g ns are. (Some 2, version_again ns are, refl);
              }

      -- the words of version 2, whichever version the text has
      version_second : (x : Option ℕ) (ts : List Token) → Spells S (opt version) x ts → Kept known (opt version) version_of 2 (w.version 2) ts
      version_second (Some n) ts h = version_keeps.kept (Some n) ts h
      version_second None ts h = record {
        same = ap leaves h;
        fit = λ g. (tt, (omega arith, (tt, tt)));
        silent = λ g. ((λ o. cc), (tt, ((λ o. cc), tt)));
        spelt = λ g ns are. (Some 2, version_again ns are, refl);
      }

      abbrev Declared : Type 0
      Declared = List t.Var × (List t.Lock × List t.Thread)

      abbrev seen_declared : Declared → List s.Var × (List s.Lock × List s.Thread)
      seen_declared = two (map (seen_var names_are)) (two (map (seen_lock names_are)) (map (seen_thread names_are)))

      abbrev declared_words : Declared → List Word
      declared_words x = flat_map (var_words known) x.0 ++ (flat_map (lock_words known) x.1.0 ++ flat_map (thread_words known) x.1.1)

      declared_keep : Keeps known S (seq (many var_decl) (seq (many lock_decl) (many thread_decl))) seen_declared declared_words
      declared_keep = keeps_seq (keeps_many var_keeps) (keeps_seq (keeps_many lock_keeps) (keeps_many thread_keeps))

      -- the program of its parts
      abbrev program_from : Option ℕ × Declared → t.Program
      program_from x = record { version = version_of x.0; vars = x.1.0; locks = x.1.1.0; threads = x.1.1.1 }

      pub program_keeps : Keeps known S program (seen_program names_are) (program_words known)
      unfolding program
      program_keeps = keeps_act program_from (seen_program names_are) (program_words known) (λ x. x) (λ x. refl) (λ x. refl) (keeps_seq version_keeps declared_keep)

      -- what is written of it in version 2 spells it there
      pub program_second : (p : t.Program) (ts : List Token) → Spells S program p ts → Kept known program (seen_program names_are) (seen_program names_are (second p)) (program_words known (second p)) ts
      unfolding program
      program_second p ts h =
          let x = h.0 in
          let parts = h.2 in
          subst (λ q. Kept known program (seen_program names_are) (seen_program names_are (second q)) (program_words known (second q)) ts) h.1
          (made_kept known (seq (opt version) (seq (many var_decl) (seq (many lock_decl) (many thread_decl)))) (two version_of seen_declared) program_from (seen_program names_are) (λ v. v) (2, seen_declared x.1)
          (w.version 2 ++ declared_words x.1) ts (λ v. refl)
          (both known (opt version) (seq (many var_decl) (seq (many lock_decl) (many thread_decl))) version_of seen_declared 2 (seen_declared x.1) (w.version 2) (declared_words x.1) parts.0 parts.1 ts parts.4
          (version_second x.0 parts.0 parts.2) (declared_keep.kept x.1 parts.1 parts.3)))

-- The canonical tokens of a program spell it, places aside.
pub program_kept : (known : ℕ → Bool) (all : List (List ℕ)) (p : t.Program) (ts : List Token) → Is program p ts → Kept known program (seen_program all) (seen_program all p) (program_words known p) ts
program_kept known all p ts h = (program_keeps known (Within h.0) all (expr_keeps known h.0) (block_keeps known h.0)).kept p ts h.1

-- Those of a program in version 2 spell that, places aside, whichever version the text has.
pub program_kept_second : (known : ℕ → Bool) (all : List (List ℕ)) (p : t.Program) (ts : List Token) → Is program p ts → Kept known program (seen_program all) (seen_program all (second p)) (program_words known (second p)) ts
program_kept_second known all p ts h = program_second known (Within h.0) all (expr_keeps known h.0) (block_keeps known h.0) p ts h.1
