-- Summaries of declarations.
use Rattle.std.proofs.Common.{◌≡◌, ℕ, zero, suc, ◌+◌, ◌-◌, ◌≤◌, ◌<◌, ◌==◌, List, [], ◌∷◌, ◌++◌, length, map, Bool, true, false, not, ◌&&◌, Option, Some, None, refl, sym, ap, subst, ◌∙◌, arith, append_assoc, append-nil, length-append}
use Rattle.std.specs.Prelude.{flat_map, option_map}
use Rattle.std.specs.List.{All, list_any}
use Rattle.std.proofs.lemmas.List.Elements.{All-nil, All-cons}
use Rattle.std.proofs.lemmas.Bool.{ne_eqb}
use Rattle.cov_expr.specs.Term.{Term}
use Rattle.cov_expr.specs.Words.{HasVarsBelow}
use Rattle.cov_expr.specs.declared.kind.Kind.{Kind}
use Rattle.cov_expr.specs.declared.kind.Kind.TheVariants as k
use Rattle.cov_grammar.specs.declared.token.Token.{Token}
use Rattle.cov_grammar.specs.LookAhead.{kind_is}
use Rattle.cov_grammar.specs.PlacedTrees.{Placed, Class, Var, Lock, Thread, Block, expr, template, cert, block}
use Rattle.cov_grammar.specs.PlacedTrees as t
use Rattle.cov_grammar.specs.Shapes.{Shape, rule, seq, Sense, Spells, Each}
use Rattle.cov_grammar.specs.Grammar.{◌▸◌, listed, named, names, low_or, class, var_decl, lock_decl, two_lists, modes_behind, two_modes, thread_decl}
use Rattle.cov_ast.specs.Syntax as syntax
use Rattle.cov_ast.specs.Plain.{class_term}
use Rattle.cov_ast.specs.Declarations.{invariant_term}
use Rattle.cov_ast.specs.Ready.{Use, as_variable, uses_in_class, uses_in_option, uses_in_lock, uses_in_thread, uses_in_block}
use Rattle.cov_ast.specs.WellFormed.{IsTypeInRange, IsBlockInRange, IsLockInRange, IsThreadInRange, are_distinct, block_size, places}
use Rattle.cov_text.specs.Uses.{declares}
use Rattle.cov_text.specs.GivenTrees.{expr_of, class_of, lock_of, block_of, thread_of}
use Rattle.cov_text.proofs.UseLaws.{uses_from, IsSilent, IsPlain, uses_at_thread}
use Rattle.cov_text.proofs.Summaries.{Summary, join, more, Kept, HasSummary, variable, declared, AreWithin, AreFine, fine_left, fine_right, summary_kept}
use Rattle.cov_text.proofs.ShapeSummaries.{all, of_option, less, IsSummary, kept_law, act_law, seq_law, alt_law, opt_law, behind_law, from_law, closed_law, sign_law, name_law, named_law, separated_law, listed_law}
use Rattle.cov_text.proofs.TermSummaries.{of_expr}
use Rattle.cov_text.proofs.CertSummaries.{option_summary}
use Rattle.cov_text.proofs.StmtSummaries.{option_expr_summary, of_block}

-- a summary of all items, as a fact of each
pub all_ids : {A B : Type 0} (g : A → Summary) (h : A → B) (P : B → Type 0) → ((x : A) → (g x).ids → P (h x)) → (xs : List A) → (all g xs).ids → All P (map h xs)
all_ids g h P f [] ids = All-nil P
all_ids g h P f (x ∷ xs) ids = All-cons P (h x) (map h xs) (f x ids.0) (all_ids g h P f xs ids.1)

pub all_uses : {A B : Type 0} (g : A → Summary) (h : A → B) (uses : B → List Use) → ((x : A) → (g x).uses ≡ uses (h x)) → (xs : List A) → (all g xs).uses ≡ flat_map uses (map h xs)
all_uses g h uses f [] = refl
all_uses g h uses f (x ∷ xs) = ap (λ us. us ++ (all g xs).uses) (f x) ∙ ap (λ us. uses (h x) ++ us) (all_uses g h uses f xs)

-- Lists of names and modes -------------------------------------------------------------------------------------

abbrev pub of_names : ℕ → List ℕ → Summary
of_names n xs = record { uses = flat_map as_variable xs; size = 0; places = []; ids = All (λ x. x < n) xs }

kept_names : (n : ℕ) (xs : List ℕ) → (all (λ v. more (variable n v)) xs).ids → Kept (less (all (λ v. more (variable n v)) xs)) (of_names n xs)
kept_names n [] ids = record { uses = refl; size = omega arith; places = refl; ids = All-nil (λ x. x < n) }
kept_names n (x ∷ xs) ids =
    let rest = kept_names n xs ids.1 in
    record { uses = ap (λ us. as_variable x ++ us) rest.uses; size = omega arith; places = rest.places; ids = All-cons (λ y. y < n) x xs ids.0 rest.ids }

abbrev pub of_pair : ℕ → List ℕ × List ℕ → Summary
of_pair n x = record { uses = flat_map as_variable x.0 ++ flat_map as_variable x.1; size = 0; places = []; ids = All (λ y. y < n) x.0 × All (λ y. y < n) x.1 }

module _ (b : Bool) (n : ℕ) (inside : Sense) where
  names_summary : IsSummary b n inside IsSilent names (of_names n)
  unfolding names kind_is
  names_summary = kept_law b n inside (of_names n) (separated_law b n inside k.Comma refl (name_law b n inside)) (kept_names n)

  pub name_list_summary : {a : Shape (List ℕ)} → IsSummary b n inside IsSilent a (λ xs. more (of_names n xs)) → IsSummary b n inside IsSilent (listed a) (of_names n)
  name_list_summary t =
      listed_law b n inside (of_names n) (record { uses = refl; size = omega arith; places = refl; ids = All-nil (λ x. x < n) })
      (kept_law b n inside (of_names n) t (λ xs ids. record { uses = refl; size = omega arith; places = refl; ids = ids }))

  behind_summary : (j : Kind) → IsPlain j → IsSummary b n inside IsSilent (listed (j ▸ names)) (of_names n)
  behind_summary j p = name_list_summary (behind_law b n inside j p names_summary)

  hide_summary : (j : Kind) → IsPlain j → IsSummary b n inside IsSilent (listed (j ▸ k.Hide ▸ names)) (of_names n)
  unfolding kind_is
  hide_summary j p =
      name_list_summary
      (kept_law b n inside (λ xs. more (of_names n xs)) (behind_law b n inside j p (behind_law b n inside k.Hide refl names_summary))
      (λ xs ids. record { uses = refl; size = omega arith; places = refl; ids = ids }))

  modes_behind_summary : (j : Kind) → IsPlain j → IsSummary b n inside IsSilent (modes_behind j) (of_pair n)
  unfolding modes_behind kind_is
  modes_behind_summary j p =
      alt_law b n inside
      (kept_law b n inside (of_pair n) (behind_law b n inside k.Nowrite refl (seq_law b n inside names_summary (hide_summary j p)))
      (λ x ids. record { uses = refl; size = omega arith; places = refl; ids = ids }))
      (kept_law b n inside (of_pair n)
      (behind_law b n inside k.Hide refl (act_law b n inside (λ xs. ([], xs)) (of_pair n) names_summary (λ xs ids. record { uses = refl; size = omega arith; places = refl; ids = (All-nil (λ x. x < n), ids) })))
      (λ x ids. record { uses = refl; size = omega arith; places = refl; ids = ids }))

  kept_lists : (x : Option (List ℕ × List ℕ)) → (of_option (λ v. more (of_pair n v)) x).ids → Kept (of_option (λ v. more (of_pair n v)) x) (of_pair n (two_lists x))
  kept_lists None ids = record { uses = refl; size = omega arith; places = refl; ids = (All-nil (λ x. x < n), All-nil (λ x. x < n)) }
  kept_lists (Some x) ids = record { uses = refl; size = omega arith; places = refl; ids = ids }

  pub modes_summary : (j : Kind) → IsPlain j → IsSummary b n inside IsSilent (two_modes j) (of_pair n)
  unfolding two_modes
  modes_summary j p = act_law b n inside two_lists (of_pair n) (opt_law b n inside (behind_law b n inside j p (modes_behind_summary j p))) kept_lists

-- Variables and locks, in front of threads ---------------------------------------------------------------------

abbrev of_class : ℕ → Class → Summary
of_class n c = record { uses = uses_in_class (class_of c); size = 0; places = []; ids = HasVarsBelow (class_term (class_of c)) n }

abbrev pub of_var : ℕ → Var → Summary
of_var n v = record { uses = uses_in_class (class_of v.class); size = 0; places = []; ids = (v.name.0 < n) × HasVarsBelow (class_term (class_of v.class)) n }

abbrev pub of_lock : ℕ → List (List ℕ) → Lock → Summary
of_lock n ns l = record { uses = uses_in_lock (lock_of ns l); size = 0; places = []; ids = (l.name.0 < n) × IsLockInRange n n (lock_of ns l) }

invariant_below : (n : ℕ) (q : Option (Placed Term)) → IsTypeInRange n n (option_map expr_of q) → HasVarsBelow (invariant_term (option_map expr_of q)) n
invariant_below n None h = tt
invariant_below n (Some e) h = h

module _ (n : ℕ) (inside : Sense) (te : IsSummary false n inside IsSilent (rule expr) (of_expr n)) where
  kept_low : (x : Option (Placed Term)) → (of_option (λ v. more (of_expr n v.1)) x).ids → Kept (of_option (λ v. more (of_expr n v.1)) x) (of_class n (low_or x))
  kept_low None ids = record { uses = refl; size = omega arith; places = refl; ids = tt }
  kept_low (Some x) ids = record { uses = refl; size = omega arith; places = refl; ids = ids }

  class_summary : IsSummary false n inside IsSilent class (of_class n)
  unfolding class kind_is
  class_summary =
      alt_law false n inside
      (kept_law false n inside (of_class n) (behind_law false n inside k.Low refl (act_law false n inside low_or (of_class n) (option_summary false n inside te k.When refl) kept_low))
      (λ c ids. record { uses = refl; size = omega arith; places = refl; ids = ids }))
      (sign_law false n inside k.High refl t.high (of_class n) (record { uses = refl; size = omega arith; places = refl; ids = tt }))

  pub var_summary : IsSummary false n inside IsSilent var_decl (of_var n)
  unfolding var_decl kind_is
  var_summary =
      act_law false n inside (λ x. record { name = x.0; class = x.1 }) (of_var n)
      (from_law false n inside {From = λ j. declares false j ≡ true} k.Var refl refl refl
      (closed_law false n inside k.Semicolon refl (seq_law false n inside (named_law false n inside) (behind_law false n inside k.Colon refl class_summary))))
      (λ x ids. record { uses = refl; size = omega arith; places = refl; ids = ids })

  pub lock_summary : (ns : List (List ℕ)) → IsSummary false n inside IsSilent lock_decl (of_lock n ns)
  unfolding lock_decl kind_is
  lock_summary ns =
      act_law false n inside (λ x. record { name = x.0; nowrite = x.1.0; hide = x.1.1.0; inv = x.1.1.1 }) (of_lock n ns)
      (from_law false n inside {From = λ j. declares false j ≡ true} k.Lock refl refl refl
      (closed_law false n inside k.Semicolon refl
      (seq_law false n inside (named_law false n inside)
      (seq_law false n inside (behind_summary false n inside k.Nowrite refl) (seq_law false n inside (behind_summary false n inside k.Hide refl) (option_expr_summary false n inside te k.Inv refl))))))
      (λ x ids. record {
        uses = sym (append_assoc (flat_map as_variable x.1.0) (flat_map as_variable x.1.1.0) (uses_in_option (option_map expr_of x.1.1.1)));
        size = omega arith;
        places = refl;
        ids = (ids.0, record { nowrite = ids.1.0; hide = ids.1.1.0; invariant = invariant_below n x.1.1.1 ids.1.1.1 });
      })

-- Threads ------------------------------------------------------------------------------------------------------

not_among : (x low high : ℕ) (ns : List ℕ) → x < low → AreWithin low high ns → list_any (◌==◌ x) ns ≡ false
not_among x low high [] l h = refl
not_among x low high (y ∷ ns) l h =
    ap (λ c. Rattle.std.proofs.Common.◌||◌ c (list_any (◌==◌ x) ns)) (ne_eqb x y (λ e. let no : ⊥ = omega (arith, h.0) in no)) ∙ not_among x (y + 1) high ns (omega (arith, h.0)) h.1

all_differ : (low high : ℕ) (ns : List ℕ) → AreWithin low high ns → are_distinct (◌==◌) ns ≡ true
all_differ low high [] h = refl
all_differ low high (x ∷ ns) h =
    ap (λ c. not c && are_distinct (◌==◌) ns) (not_among x (x + 1) high ns (omega arith) h.1) ∙ all_differ (x + 1) high ns h.1

-- the places of a body's statements differ
abbrev HaveDistinctPlaces : syntax.Block → Type 0
HaveDistinctPlaces b = are_distinct (◌==◌) (places b) ≡ true

abbrev pub of_body : ℕ → Block → Summary
of_body n v = record { uses = uses_in_block (block_of v); size = block_size (block_of v); places = places (block_of v); ids = IsBlockInRange n n (block_of v) × HaveDistinctPlaces (block_of v) }

-- What the numbers of names in a thread are, and what its body is in a text of at most so many tokens.
pub record IsGood (n most : ℕ) (h : syntax.Thread) : Type 0 where
  pub ids : IsThreadInRange n n h
  pub places_differ : HaveDistinctPlaces h.body
  pub small : block_size h.body ≤ most

module _ (n : ℕ) (inside : Sense) (tb : IsSummary true n inside IsSilent (rule block) (of_block n)) (ns : List (List ℕ)) where
  body_summary : IsSummary true n inside IsSilent (rule block) (of_body n)
  body_summary = record {
    of =
        λ v ts fine s. let x = tb.of v ts fine s in
        record {
          uses = x.uses;
          size = x.size;
          places = x.places;
          ids = (x.ids, all_differ fine.low fine.high (places (block_of v)) (x.places fine.low fine.high fine.order));
        };
  }

  abbrev of_thread : Thread → Summary
  of_thread h = record {
    uses = uses_in_thread (thread_of ns h);
    size = block_size (block_of h.body);
    places = places (block_of h.body);
    ids = (h.name.0 < n) × (IsThreadInRange n n (thread_of ns h) × HaveDistinctPlaces (block_of h.body));
  }

  abbrev Parts : Type 0
  Parts = (ℕ × ℕ) × ((List ℕ × List ℕ) × ((List ℕ × List ℕ) × Block))

  abbrev made : Parts → Thread
  made x = record { name = x.0; modes = record { assume_nowrite = x.1.0.0; assume_hide = x.1.0.1; guarantee_nowrite = x.1.1.0.0; guarantee_hide = x.1.1.0.1 }; body = x.1.1.1 }

  abbrev of_parts : Parts → Summary
  of_parts x = join (declared n x.0.0) (join (of_pair n x.1.0) (join (of_pair n x.1.1.0) (of_body n x.1.1.1)))

  parts_summary : IsSummary true n inside (λ j. declares true j ≡ true) (seq named (seq (two_modes k.Assume) (seq (two_modes k.Guarantee) (rule block)))) of_parts
  unfolding kind_is
  parts_summary = seq_law true n inside (named_law true n inside) (seq_law true n inside (modes_summary true n inside k.Assume refl) (seq_law true n inside (modes_summary true n inside k.Guarantee refl) body_summary))

  regrouped : (p q r s u : List Use) → (p ++ q) ++ ((r ++ s) ++ u) ≡ (((p ++ q) ++ r) ++ s) ++ u
  regrouped p q r s u = sym (append_assoc (p ++ q) (r ++ s) u) ∙ ap (λ us. us ++ u) (sym (append_assoc (p ++ q) r s))

  kept_parts : (x : Parts) → (of_parts x).ids → Kept (of_parts x) (of_thread (made x))
  kept_parts x ids = record {
    uses = regrouped (flat_map as_variable x.1.0.0) (flat_map as_variable x.1.0.1) (flat_map as_variable x.1.1.0.0) (flat_map as_variable x.1.1.0.1) (uses_in_block (block_of x.1.1.1));
    size = omega arith;
    places = refl;
    ids = (
      ids.0,
      (
        record {
          modes = record { assume_nowrite = ids.1.0.0; assume_hide = ids.1.0.1; guarantee_nowrite = ids.1.1.0.0; guarantee_hide = ids.1.1.0.1 };
          body = ids.1.1.1.0;
        },
        ids.1.1.1.1,
      ),
    );
  }

  -- The tokens are of these threads, wherever they begin, in a text of at most so many tokens.
  pub record ThreadsSummary (most : ℕ) (hs : List Thread) (ts : List Token) : Type 0 where
    pub uses : (b : Bool) (before : Kind) → uses_from b before ts ≡ flat_map uses_in_thread (map (thread_of ns) hs)
    pub names : All (λ h. h.name.0 < n) hs
    pub good : All (IsGood n most) (map (thread_of ns) hs)

  one_thread : (h : Thread) (us : List Token) → AreFine n us → Spells inside thread_decl h us
      → (t : Token) × (rest : List Token) × (us ≡ t ∷ rest) × (t.kind ≡ k.Thread) × HasSummary true (λ j. declares true j ≡ true) (of_thread h) rest
  unfolding thread_decl
  one_thread h us fine s =
      let x = s.2.2 in
      let inner = parts_summary.of s.2.0.1 x.1 (fine_right n x.0 x.1 us x.4 fine) x.3 in
      let whole = summary_kept true (λ j. declares true j ≡ true) (of_parts s.2.0.1) (of_thread (made s.2.0.1)) x.1 inner (kept_parts s.2.0.1 inner.ids) in
      (s.2.0.0, x.1, x.4 ∙ ap (λ vs. vs ++ x.1) x.2.1, x.2.0, subst (λ w. HasSummary true (λ j. declares true j ≡ true) (of_thread w) x.1) (ap made s.2.1 ∙ s.1) whole)

  declared_behind : declares true k.Thread ≡ true
  unfolding kind_is
  declared_behind = refl

  pub threads_summary : (most : ℕ) (hs : List Thread) (ts : List Token) → length ts ≤ most → AreFine n ts → Each (Spells inside thread_decl) hs ts → ThreadsSummary most hs ts
  threads_summary most [] ts few fine s = record { uses = λ b before. ap (uses_from b before) s; names = All-nil (λ h. h.name.0 < n); good = All-nil (IsGood n most) }
  threads_summary most (h ∷ hs) ts few fine s =
      let one = one_thread h s.0 (fine_left n s.0 s.1 ts s.4 fine) s.2 in
      let rest = threads_summary most hs s.1 (omega (arith, few, ap length s.4, length-append s.0 s.1)) (fine_right n s.0 s.1 ts s.4 fine) s.3 in
      let x = one.4.uses k.Thread declared_behind s.1 in
      let small : block_size (block_of h.body) ≤ most = omega (arith, few, ap length s.4, length-append s.0 s.1, ap length one.2, one.4.size) in
      record {
        uses =
            λ b before. ap (uses_from b before) (s.4 ∙ ap (λ us. us ++ s.1) one.2) ∙ uses_at_thread b before one.0 (one.1 ++ s.1) one.3 ∙ x.2
            ∙ ap (λ us. uses_in_thread (thread_of ns h) ++ us) (rest.uses true x.0);
        names = All-cons (λ g. g.name.0 < n) h hs one.4.ids.0 rest.names;
        good =
            All-cons (IsGood n most) (thread_of ns h) (map (thread_of ns) hs)
            (record { ids = one.4.ids.1.0; places_differ = one.4.ids.1.1; small = small }) rest.good;
      }
