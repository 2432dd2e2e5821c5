-- The canonical spelling of a program has its canonical tokens, which are not too deep within the limits.
use Rattle.std.proofs.Common.{◌≡◌, ℕ, List, [], ◌∷◌, ◌++◌, length, map, flat_map, get_or, Bool, true, false, not, ◌&&◌, codes, nat_lt, refl, sym, ap, subst, ◌∙◌, append_assoc, append-nil}
use Rattle.std.proofs.lemmas.Bool.{and_parts}
use Rattle.std.specs.List.{list_all}
use Rattle.cov_grammar.specs.PlacedTrees as t
use Rattle.cov_text.specs.GivenTrees.{class_of, block_of, var_of, lock_of, thread_of, parsed_of, modes_of, expr_of}
use Rattle.cov_ast.specs.declared.parsed.NameUse.{NameUse}
use Rattle.cov_print.specs.Spelling as spec
use Rattle.cov_print.proofs.Written as w
use Rattle.cov_print.proofs.Written.{Word}
use Rattle.cov_print.proofs.Readings.{known, Reads}
use Rattle.cov_print.proofs.Leaves.{AreNames}
use Rattle.cov_print.proofs.Named.{get_same}
use Rattle.cov_print.proofs.Texts.{moved}
use Rattle.cov_print.proofs.Lines.{version_, var_, lock_, thread_}
use Rattle.cov_print.proofs.Declarations.{seen_var, seen_lock, seen_thread, seen_program, var_words, lock_words, thread_words, program_words}
use Rattle.cov_print.proofs.Sizes.{var_fine, lock_fine, thread_fine, program_fine, counts}
use Rattle.cov_print.proofs.Shallow.{Calm, same_words, version_calm, var_calm, lock_calm, thread_calm, nothing_calm}

module _ (all : List (List ℕ)) (valid : AreNames all) where
  vars_ : (xs : List t.Var) {more : List ℕ} {vs : List Word} → Reads all more vs → Reads all (flat_map (spec.var_line all) (map (var_of all) xs) ++ more) (flat_map (var_words (known all)) xs ++ vs)
  vars_ [] h = h
  vars_ (x ∷ xs) {more} {vs} h =
      moved (append_assoc (spec.var_line all (var_of all x)) (flat_map (spec.var_line all) (map (var_of all) xs)) more) (append_assoc (var_words (known all) x) (flat_map (var_words (known all)) xs) vs)
      (record { reads = λ fit front. (var_ all valid x.name.0 (class_of x.class) (var_of all x) (get_same all [] (codes "_") x.name.0 fit.1.0) refl (vars_ xs h)).reads fit front })

  locks_ : (xs : List t.Lock) {more : List ℕ} {vs : List Word} → Reads all more vs → Reads all (flat_map (spec.lock_line all) (map (lock_of all) xs) ++ more) (flat_map (lock_words (known all)) xs ++ vs)
  locks_ [] h = h
  locks_ (x ∷ xs) {more} {vs} h =
      moved (append_assoc (spec.lock_line all (lock_of all x)) (flat_map (spec.lock_line all) (map (lock_of all) xs)) more) (append_assoc (lock_words (known all) x) (flat_map (lock_words (known all)) xs) vs)
      (record { reads = λ fit front. (lock_ all valid x.name.0 (lock_of all x) (get_same all [] (codes "_") x.name.0 fit.1.0) (locks_ xs h)).reads fit front })

  threads_ : (xs : List t.Thread) {more : List ℕ} {vs : List Word} → Reads all more vs → Reads all (flat_map (spec.thread_lines all) (map (thread_of all) xs) ++ more) (flat_map (thread_words (known all)) xs ++ vs)
  threads_ [] h = h
  threads_ (x ∷ xs) {more} {vs} h =
      moved (append_assoc (spec.thread_lines all (thread_of all x)) (flat_map (spec.thread_lines all) (map (thread_of all) xs)) more) (append_assoc (thread_words (known all) x) (flat_map (thread_words (known all)) xs) vs)
      (record { reads = λ fit front. (thread_ all valid x.name.0 (thread_of all x) (get_same all [] (codes "_") x.name.0 fit.1.0) (threads_ xs h)).reads fit front })

  nothing_ : Reads all [] []
  nothing_ = record { reads = λ fit front. ([], refl, refl) }

  of_four : {A : Type 0} (a b c d : List A) → a ++ b ++ c ++ d ≡ a ++ (b ++ (c ++ (d ++ [])))
  of_four a b c d = simp (append_assoc, append-nil)

  to_four : {A : Type 0} (a b c d : List A) → a ++ (b ++ (c ++ d)) ≡ a ++ (b ++ (c ++ (d ++ [])))
  to_four a b c d = simp (append_assoc, append-nil)

  pub program_ : (uses : List NameUse) (p : t.Program) → Reads all (spec.spelling (parsed_of all uses p)) (program_words (known all) p)
  program_ uses p =
      moved (of_four (spec.version_line p.version) (flat_map (spec.var_line all) (map (var_of all) p.vars)) (flat_map (spec.lock_line all) (map (lock_of all) p.locks)) (flat_map (spec.thread_lines all) (map (thread_of all) p.threads)))
      (to_four (w.version p.version) (flat_map (var_words (known all)) p.vars) (flat_map (lock_words (known all)) p.locks) (flat_map (thread_words (known all)) p.threads))
      (version_ all valid p.version (vars_ p.vars (locks_ p.locks (threads_ p.threads nothing_))))

module _ (known : ℕ → Bool) (all : List (List ℕ)) where
  vars_calm : (xs : List t.Var) → list_all var_fine (map (seen_var all) xs) ≡ true → {vs : List Word} → Calm 0 0 vs → Calm 0 0 (flat_map (var_words known) xs ++ vs)
  vars_calm [] f h = h
  vars_calm (x ∷ xs) f {vs} h =
      let a = and_parts (var_fine (seen_var all x)) (list_all var_fine (map (seen_var all) xs)) f in
      same_words (append_assoc (var_words known x) (flat_map (var_words known) xs) vs) (var_calm known x.name.0 (class_of x.class) a.0 (vars_calm xs a.1 h))

  locks_calm : (xs : List t.Lock) → list_all lock_fine (map (seen_lock all) xs) ≡ true → {vs : List Word} → Calm 0 0 vs → Calm 0 0 (flat_map (lock_words known) xs ++ vs)
  locks_calm [] f h = h
  locks_calm (x ∷ xs) f {vs} h =
      let a = and_parts (lock_fine (seen_lock all x)) (list_all lock_fine (map (seen_lock all) xs)) f in
      same_words (append_assoc (lock_words known x) (flat_map (lock_words known) xs) vs) (lock_calm known x.name.0 x.nowrite x.hide (Rattle.std.proofs.Common.option_map expr_of x.inv) a.0 (locks_calm xs a.1 h))

  threads_calm : (xs : List t.Thread) → list_all thread_fine (map (seen_thread all) xs) ≡ true → {vs : List Word} → Calm 0 0 vs → Calm 0 0 (flat_map (thread_words known) xs ++ vs)
  threads_calm [] f h = h
  threads_calm (x ∷ xs) f {vs} h =
      let a = and_parts (thread_fine (seen_thread all x)) (list_all thread_fine (map (seen_thread all) xs)) f in
      same_words (append_assoc (thread_words known x) (flat_map (thread_words known) xs) vs) (thread_calm known x.name.0 (modes_of x.modes) (block_of x.body) a.0 (threads_calm xs a.1 h))

  last_parts : (a b c d e f g : Bool) → (a && (b && (c && (d && (e && (f && g)))))) ≡ true → (e ≡ true) × (f ≡ true) × (g ≡ true)
  last_parts a b c d e f g h =
      let i = and_parts e (f && g) (and_parts d (e && (f && g)) (and_parts c (d && (e && (f && g))) (and_parts b (c && (d && (e && (f && g)))) (and_parts a (b && (c && (d && (e && (f && g))))) h).1).1).1).1 in
      let j = and_parts f g i.1 in
      (i.0, j.0, j.1)

  to_end : {A : Type 0} (a b c d : List A) → a ++ (b ++ (c ++ d)) ≡ a ++ (b ++ (c ++ (d ++ [])))
  to_end a b c d = simp (append_assoc, append-nil)

  pub program_calm : (p : t.Program) → program_fine (seen_program all p) ≡ true → Calm 0 0 (program_words known p)
  program_calm p f =
      let i = last_parts (not (nat_lt 256 (length (map (seen_var all) p.vars)))) (not (nat_lt 64 (length (map (seen_lock all) p.locks)))) (not (nat_lt 16 (length (map (seen_thread all) p.threads)))) (not (nat_lt 20000 (counts (map (seen_thread all) p.threads)))) (list_all var_fine (map (seen_var all) p.vars)) (list_all lock_fine (map (seen_lock all) p.locks)) (list_all thread_fine (map (seen_thread all) p.threads)) f in
      same_words (to_end (w.version p.version) (flat_map (var_words known) p.vars) (flat_map (lock_words known) p.locks) (flat_map (thread_words known) p.threads))
      (version_calm known p.version (vars_calm p.vars i.0 (locks_calm p.locks i.1 (threads_calm p.threads i.2 (nothing_calm known)))))
