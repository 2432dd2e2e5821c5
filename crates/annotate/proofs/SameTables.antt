-- The table of names of a text with certificates put in is that of the text.
use Rattle.std.proofs.Common.{◌≡◌, ℕ, suc, ◌||◌, List, [], ◌∷◌, ◌++◌, map, flat_map, Bool, true, false, codes, refl, sym, ap, subst, ◌∙◌, append_assoc, if◌then◌else◌, true≢false}
use Rattle.std.specs.List.{list_any}
use Rattle.std.specs.Str.{bytes_eq}
use Rattle.std.proofs.lemmas.Slice.Eq.{bytes_eq-Decides}
use Rattle.cov_expr.specs.declared.expr.TheConstants.{HOLE}
use Rattle.cov_expr.specs.declared.kind.Kind.TheVariants as k
use Rattle.cov_grammar.specs.PlacedTrees as t
use Rattle.cov_ast.specs.NameTables.{with_name}
use Rattle.cov_ast.specs.Ready.{uses_in_block}
use Rattle.cov_ast.specs.Syntax as s
use Rattle.cov_ast.specs.Syntax.{Cert, Proof}
use Rattle.cov_text.specs.GivenTrees.{block_of, class_of, modes_of, name_of, var_of}
use Rattle.cov_print.specs.Spelling as spec
use Rattle.cov_print.specs.Unplaced.{unplaced_block, unplaced_stm}
use Rattle.cov_print.proofs.Written as w
use Rattle.cov_print.proofs.Written.{Word, plain}
use Rattle.cov_print.proofs.Keeps.{AllFit, leaves_of, leaves_of_append}
use Rattle.cov_print.proofs.Declarations.{lock_words, program_words, thread_words, var_words}
use Rattle.cov_print.proofs.Named.{added, added_all, Every, get_same, IsIn}
use Rattle.cov_print.proofs.Readings.{known}
use Rattle.cov_print.proofs.SameNames.{kept, spelled}
use Rattle.annotate.proofs.Changes.{block_with, program_looks, program_shown, Shown, shown, thread_looks, threads_look}
use Rattle.annotate.proofs.TextNames.{before, behind, braces_alike, out, outside, UsesIn}

-- Words without places -----------------------------------------------------------------------------------------

module _ (named : ℕ → Bool) where
  mutual
    stm_words : (c : s.Stm) (ps : List Proof) → w.stm named (unplaced_stm c) ps ≡ w.stm named c ps
    stm_words (s.branch e a b join) ps =
        λ i. plain k.If ∷ (w.whole named e ++ ((plain k.OpenBrace ∷ (block_words a i ++ plain k.CloseBrace ∷ []))
        ++ (plain k.Else ∷ ((plain k.OpenBrace ∷ (block_words b i ++ plain k.CloseBrace ∷ [])) ++ (w.stated named k.Join join ++ w.by named ps)))))
    stm_words (s.loop e inv b) ps =
        λ i. plain k.While ∷ (w.whole named e ++ (w.stated named k.Inv inv ++ ((plain k.OpenBrace ∷ (block_words b i ++ plain k.CloseBrace ∷ [])) ++ w.by named ps)))
    stm_words _ ps = refl

    block_words : (b : s.Block) → w.block named (unplaced_block b) ≡ w.block named b
    block_words s.done = refl
    block_words (s.more at c ps b) = λ i. stm_words c ps i ++ block_words b i

  abbrev shown_words : Shown → List Word
  shown_words h = w.thread_decl named h.0 (modes_of h.1.0) h.1.1

  body_words : (x : ℕ) (m : t.Modes) (b : s.Block) → shown_words (x, (m, unplaced_block b)) ≡ shown_words (x, (m, b))
  body_words x m b =
      ap (λ ws. plain k.Thread ∷ w.name x ∷ (w.modes k.Assume m.assume_nowrite m.assume_hide ++ (w.modes k.Guarantee m.guarantee_nowrite m.guarantee_hide
      ++ (plain k.OpenBrace ∷ (ws ++ plain k.CloseBrace ∷ []))))) (block_words b)

  threads_shown : (hs : List t.Thread) → flat_map shown_words (map shown hs) ≡ flat_map (thread_words named) hs
  threads_shown [] = refl
  threads_shown (h ∷ hs) = λ i. body_words h.name.0 h.modes (block_of h.body) i ++ threads_shown hs i

  module _ (inside : ℕ → Bool) (hole_inside : inside HOLE ≡ true) (chosen : (u place : ℕ) → List (ℕ × Cert)) where
    -- uses of variables in the threads before and after are inside
    abbrev pub ThreadsIn : (u : ℕ) → List t.Thread → Type 0
    ThreadsIn u [] = Unit {0}
    ThreadsIn u (h ∷ hs) =
        UsesIn inside hole_inside named (uses_in_block (block_of h.body)) × UsesIn inside hole_inside named (uses_in_block (block_with (chosen u) (block_of h.body))) × ThreadsIn (suc u) hs

    abbrev left : List Word → List ℕ
    left ws = out inside hole_inside named ws

    thread_alike : (u : ℕ) (h : t.Thread) → UsesIn inside hole_inside named (uses_in_block (block_of h.body))
        → UsesIn inside hole_inside named (uses_in_block (block_with (chosen u) (block_of h.body))) → left (shown_words (thread_looks chosen u h)) ≡ left (thread_words named h)
    thread_alike u h i j =
        let b = block_of h.body in
        let b' = block_with (chosen u) b in
        let m = h.modes in
        let xs = w.modes k.Assume m.assume_nowrite m.assume_hide in
        let ys = w.modes k.Guarantee m.guarantee_nowrite m.guarantee_hide in
        ap left (body_words h.name.0 m b')
        ∙ behind inside hole_inside named (plain k.Thread ∷ w.name h.name.0 ∷ []) (xs ++ (ys ++ w.braces named b')) (xs ++ (ys ++ w.braces named b))
        (behind inside hole_inside named xs (ys ++ w.braces named b') (ys ++ w.braces named b)
        (behind inside hole_inside named ys (w.braces named b') (w.braces named b) (braces_alike inside hole_inside named (chosen u) b i j)))

    threads_alike : (u : ℕ) (hs : List t.Thread) → ThreadsIn u hs → left (flat_map shown_words (threads_look chosen u hs)) ≡ left (flat_map (thread_words named) hs)
    threads_alike u [] h = refl
    threads_alike u (x ∷ hs) h =
        let us = shown_words (thread_looks chosen u x) in
        let vs = thread_words named x in
        let rest = flat_map shown_words (threads_look chosen (suc u) hs) in
        before inside hole_inside named us vs rest (thread_alike u x h.0 h.1)
        ∙ behind inside hole_inside named vs rest (flat_map (thread_words named) hs) (threads_alike (suc u) hs h.2)

    -- of programs
    made_alike : (p made : t.Program) → program_shown made ≡ program_looks chosen p → ThreadsIn 0 p.threads
        → left (flat_map (thread_words named) made.threads) ≡ left (flat_map (thread_words named) p.threads)
    made_alike p made e h = ap left (sym (threads_shown made.threads) ∙ ap (λ x. flat_map shown_words x.1.1.1) e) ∙ threads_alike 0 p.threads h

  -- what stands in front of threads
  abbrev front_words : ℕ → List t.Var → List t.Lock → List Word
  front_words v vs ls = w.version v ++ (flat_map (var_words named) vs ++ flat_map (lock_words named) ls)

  in_front : (p : t.Program) → front_words p.version p.vars p.locks ++ flat_map (thread_words named) p.threads ≡ program_words named p
  in_front p =
      append_assoc (w.version p.version) (flat_map (var_words named) p.vars ++ flat_map (lock_words named) p.locks) (flat_map (thread_words named) p.threads)
      ∙ ap (λ ws. w.version p.version ++ ws) (append_assoc (flat_map (var_words named) p.vars) (flat_map (lock_words named) p.locks) (flat_map (thread_words named) p.threads))

-- Tables -------------------------------------------------------------------------------------------------------

any_left : (b : List ℕ) (ns ms : List (List ℕ)) → IsIn ns b → IsIn (ns ++ ms) b
any_left b [] ms h = absurd (true≢false (sym h))
any_left b (n ∷ ns) ms h = by (bytes_eq b n) h (any_left b ns ms)
  where
    by : (c : Bool) → (c || list_any (bytes_eq b) ns) ≡ true → (IsIn ns b → IsIn (ns ++ ms) b) → (c || list_any (bytes_eq b) (ns ++ ms)) ≡ true
    by true g f = refl
    by false g f = f g

any_right : (b : List ℕ) (ns ms : List (List ℕ)) → IsIn ms b → IsIn (ns ++ ms) b
any_right b [] ms h = h
any_right b (n ∷ ns) ms h = by (bytes_eq b n) (any_right b ns ms h)
  where
    by : (c : Bool) → IsIn (ns ++ ms) b → (c || list_any (bytes_eq b) (ns ++ ms)) ≡ true
    by true f = refl
    by false f = f

still_in : (a b : List ℕ) (ns : List (List ℕ)) → IsIn ns a → IsIn (with_name ns b) a
still_in a b ns h = by (list_any (bytes_eq b) ns)
  where
    by : (c : Bool) → IsIn (if c then ns else ns ++ b ∷ []) a
    by true = h
    by false = any_left a ns (b ∷ []) h

-- what is in a list of which each is in another is there
in_every : (b : List ℕ) (bs ns : List (List ℕ)) → IsIn bs b → Every (IsIn ns) bs → IsIn ns b
in_every b [] ns h e = absurd (true≢false (sym h))
in_every b (c ∷ bs) ns h e = by (bytes_eq b c) refl h (λ i. in_every b bs ns i e.1)
  where
    by : (x : Bool) → bytes_eq b c ≡ x → (x || list_any (bytes_eq b) bs) ≡ true → (IsIn bs b → IsIn ns b) → IsIn ns b
    by true g i f = subst (IsIn ns) (sym ((bytes_eq-Decides b c).0 g)) e.0
    by false g i f = f i

added_append : (ns xs ys : List (List ℕ)) → added ns (xs ++ ys) ≡ added (added ns xs) ys
added_append ns [] ys = refl
added_append ns (x ∷ xs) ys = added_append (with_name ns x) xs ys

module _ (all : List (List ℕ)) where
  spelled_append : (xs ys : List ℕ) → spelled all (xs ++ ys) ≡ spelled all xs ++ spelled all ys
  spelled_append [] ys = refl
  spelled_append (x ∷ xs) ys = by (known all x) (spelled_append xs ys)
    where
      by : (b : Bool) → spelled all (xs ++ ys) ≡ spelled all xs ++ spelled all ys
          → map (spec.name all) (if b then x ∷ kept (known all) (xs ++ ys) else kept (known all) (xs ++ ys)) ≡ map (spec.name all) (if b then x ∷ kept (known all) xs else kept (known all) xs) ++ spelled all ys
      by true e = ap (λ l. spec.name all x ∷ l) e
      by false e = e

  module _ (inside : ℕ → Bool) (hole_inside : inside HOLE ≡ true) where
    abbrev rest : List ℕ → List ℕ
    rest xs = outside inside hole_inside (known all) xs

    -- the names of numbers inside are in a table
    abbrev HasInside : List (List ℕ) → Type 0
    HasInside ns = (x : ℕ) → inside x ≡ true → known all x ≡ true → IsIn ns (spec.name all x)

    -- and so those numbers add nothing to it
    skip_inside : (ns : List (List ℕ)) (xs : List ℕ) → HasInside ns → added ns (spelled all xs) ≡ added ns (spelled all (rest xs))
    skip_inside ns [] h = refl
    skip_inside ns (x ∷ xs) h = by (inside x) refl (known all x) refl (λ ms. skip_inside ms xs)
      where
        by : (b : Bool) → inside x ≡ b → (c : Bool) → known all x ≡ c → ((ms : List (List ℕ)) → HasInside ms → added ms (spelled all xs) ≡ added ms (spelled all (rest xs)))
            → added ns (map (spec.name all) (if c then x ∷ kept (known all) xs else kept (known all) xs)) ≡ added ns (spelled all (if b then rest xs else x ∷ rest xs))
        by true e true f go = ap (λ c. added (if c then ns else ns ++ spec.name all x ∷ []) (spelled all xs)) (h x e f) ∙ go ns h
        by true e false f go = go ns h
        by false e true f go =
            go (with_name ns (spec.name all x)) (λ y i j. still_in (spec.name all y) (spec.name all x) ns (h y i j))
            ∙ ap (λ c. added ns (map (spec.name all) (if c then x ∷ kept (known all) (rest xs) else kept (known all) (rest xs)))) (sym f)
        by false e false f go = go ns h ∙ ap (λ c. added ns (map (spec.name all) (if c then x ∷ kept (known all) (rest xs) else kept (known all) (rest xs)))) (sym f)

    table_same : (front xs ys : List ℕ) → HasInside (added [] (spelled all front)) → rest xs ≡ rest ys → added [] (spelled all (front ++ xs)) ≡ added [] (spelled all (front ++ ys))
    table_same front xs ys h e = split xs ∙ skip_inside ns xs h ∙ ap (λ zs. added ns (spelled all zs)) e ∙ sym (skip_inside ns ys h) ∙ sym (split ys)
      where
        ns : List (List ℕ)
        ns = added [] (spelled all front)

        split : (zs : List ℕ) → added [] (spelled all (front ++ zs)) ≡ added (added [] (spelled all front)) (spelled all zs)
        split zs = ap (added []) (spelled_append front zs) ∙ added_append [] (spelled all front) (spelled all zs)

  -- Declared variables -----------------------------------------------------------------------------------------

  fit_left : (us vs : List Word) → AllFit (known all) (us ++ vs) → AllFit (known all) us
  fit_left [] vs h = tt
  fit_left (u ∷ us) vs h = (h.0, fit_left us vs h.1)

  fit_right : (us vs : List Word) → AllFit (known all) (us ++ vs) → AllFit (known all) vs
  fit_right [] vs h = h
  fit_right (u ∷ us) vs h = fit_right us vs h.1

  first_spelled : (x : ℕ) (xs : List ℕ) → known all x ≡ true → spelled all (x ∷ xs) ≡ spec.name all x ∷ spelled all xs
  first_spelled x xs e = ap (λ c. map (spec.name all) (if c then x ∷ kept (known all) xs else kept (known all) xs)) e

  abbrev pub names_of_vars : List t.Var → List (List ℕ)
  names_of_vars vs = map (λ v. v.name) (map (var_of all) vs)

  -- each name of a variable is written
  vars_written : (vs : List t.Var) (b : List ℕ) → IsIn (names_of_vars vs) b → AllFit (known all) (flat_map (var_words (known all)) vs)
      → IsIn (spelled all (leaves_of (flat_map (var_words (known all)) vs))) b
  vars_written [] b h f = absurd (true≢false (sym h))
  vars_written (v ∷ vs) b h f =
      let x = v.name.0 in
      let one = w.class (known all) (class_of v.class) ++ plain k.Semicolon ∷ [] in
      let more = flat_map (var_words (known all)) vs in
      let e : known all x ≡ true = f.1.0 in
      subst (λ ns. IsIn ns b) (sym (first_spelled x (leaves_of (one ++ more)) e))
      (by (bytes_eq b (name_of all x)) refl h
      (λ i. subst (λ ns. IsIn ns b) (sym (ap (spelled all) (leaves_of_append one more) ∙ spelled_append (leaves_of one) (leaves_of more)))
      (any_right b (spelled all (leaves_of one)) (spelled all (leaves_of more)) (vars_written vs b i (fit_right (var_words (known all) v) more f)))))
    where
      by : (c : Bool) → bytes_eq b (name_of all v.name.0) ≡ c → (c || list_any (bytes_eq b) (names_of_vars vs)) ≡ true
          → (IsIn (names_of_vars vs) b → IsIn (spelled all (leaves_of ((w.class (known all) (class_of v.class) ++ plain k.Semicolon ∷ []) ++ flat_map (var_words (known all)) vs))) b)
          → IsIn (spec.name all v.name.0 ∷ spelled all (leaves_of ((w.class (known all) (class_of v.class) ++ plain k.Semicolon ∷ []) ++ flat_map (var_words (known all)) vs))) b
      by true g i go =
          ap (λ c. c || list_any (bytes_eq b) (spelled all (leaves_of ((w.class (known all) (class_of v.class) ++ plain k.Semicolon ∷ []) ++ flat_map (var_words (known all)) vs))))
          (ap (bytes_eq b) (get_same all (codes "_") [] v.name.0 f.1.0) ∙ g)
      by false g i go =
          any_right b (spec.name all v.name.0 ∷ [])
          (spelled all (leaves_of ((w.class (known all) (class_of v.class) ++ plain k.Semicolon ∷ []) ++ flat_map (var_words (known all)) vs))) (go i)

  -- The table ------------------------------------------------------------------------------------------------

  module _ (inside : ℕ → Bool) (hole_inside : inside HOLE ≡ true) (chosen : (u place : ℕ) → List (ℕ × Cert)) (p made : t.Program) (looks : program_shown made ≡ program_looks chosen p)
      (uses : ThreadsIn (known all) inside hole_inside chosen 0 p.threads) (fit : AllFit (known all) (program_words (known all) p))
      (declared : (x : ℕ) → inside x ≡ true → known all x ≡ true → IsIn (names_of_vars p.vars) (spec.name all x)) where
    abbrev front : List Word
    front = front_words (known all) p.version p.vars p.locks

    abbrev threads : List Word
    threads = flat_map (thread_words (known all)) p.threads

    abbrev threads_made : List Word
    threads_made = flat_map (thread_words (known all)) made.threads

    all_fit : AllFit (known all) (front ++ threads)
    all_fit = subst (AllFit (known all)) (sym (in_front (known all) p)) fit

    front_has : HasInside inside hole_inside (added [] (spelled all (leaves_of front)))
    front_has x i j =
        let vs = flat_map (var_words (known all)) p.vars in
        let ls = flat_map (lock_words (known all)) p.locks in
        let v = w.version p.version in
        let b = spec.name all x in
        let fits = fit_left vs ls (fit_right v (vs ++ ls) (fit_left front threads all_fit)) in
        let in_vars : IsIn (spelled all (leaves_of vs)) b = vars_written p.vars b (declared x i j) fits in
        let whole : spelled all (leaves_of front) ≡ spelled all (leaves_of v) ++ (spelled all (leaves_of vs) ++ spelled all (leaves_of ls)) =
        ap (spelled all) (leaves_of_append v (vs ++ ls) ∙ ap (λ l. leaves_of v ++ l) (leaves_of_append vs ls)) ∙ spelled_append (leaves_of v) (leaves_of vs ++ leaves_of ls)
        ∙ ap (λ l. spelled all (leaves_of v) ++ l) (spelled_append (leaves_of vs) (leaves_of ls)) in
        in_every b (spelled all (leaves_of front)) (added [] (spelled all (leaves_of front)))
        (subst (λ ns. IsIn ns b) (sym whole) (any_right b (spelled all (leaves_of v)) (spelled all (leaves_of vs) ++ spelled all (leaves_of ls)) (any_left b (spelled all (leaves_of vs)) (spelled all (leaves_of ls)) in_vars)))
        (added_all [] (spelled all (leaves_of front)))

    made_words : front ++ threads_made ≡ program_words (known all) made
    made_words = ap (λ x. front_words (known all) x.0 x.1.0 x.1.1.0 ++ threads_made) (sym looks) ∙ in_front (known all) made

    pub tables_same : added [] (spelled all (leaves_of (program_words (known all) made))) ≡ added [] (spelled all (leaves_of (program_words (known all) p)))
    tables_same =
        ap (λ ws. added [] (spelled all (leaves_of ws))) (sym made_words) ∙ ap (λ xs. added [] (spelled all xs)) (leaves_of_append front threads_made)
        ∙ table_same inside hole_inside (leaves_of front) (leaves_of threads_made) (leaves_of threads) front_has (made_alike (known all) inside hole_inside chosen p made looks uses)
        ∙ ap (λ xs. added [] (spelled all xs)) (sym (leaves_of_append front threads)) ∙ ap (λ ws. added [] (spelled all (leaves_of ws))) (in_front (known all) p)
