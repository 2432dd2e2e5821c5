-- Where the locks at two ends differ, the lines of V8 tell by which statements.
use Rattle.std.proofs.Common.{◌≡◌, ℕ, zero, suc, ◌+◌, ◌<◌, ◌==◌, ◌&&◌, List, [], ◌∷◌, ◌++◌, length, get_or, set, Bool, true, false, if◌then◌else◌, Option, Some, None, codes, true≢false, refl, sym, ap, subst, ◌∙◌, arith, append_assoc, inl, inr}
use Rattle.std.specs.List.{list_all, range_with_len}
use Rattle.std.specs.Option.{option_or}
use Rattle.std.proofs.lemmas.Bool.{cases_eq, eq-eqb, ne_eqb}
use Rattle.std.proofs.lemmas.List.{append-nil, get_or-set_other, get_or-set_same, length-set}
use Rattle.cov_ast.specs.Declarations.{lock_at, no_lock}
use Rattle.cov_ast.specs.Plain.{plain, plain_block, Plain}
use Rattle.cov_ast.specs.Syntax.{Stm, branch, Block, done, more, Lock, Program}
use Rattle.cov_ast.specs.Tables.{has}
use Rattle.statement_paths.specs.LocksHeld.{held_at_end, held_past}
use Rattle.statement_paths.proofs.PlainLaws.{after_the_first}
use Rattle.typing_law.specs.ThreadObligations.{agree, same_held}
use Rattle.refusal_names.specs.LockChanges.{change_by, change_if_apart, change_line, change_where, change_words, changes, last_change}
use Rattle.refusal_names.specs.NameLines.{branch_ends, loop_ends, two_ends}
use Rattle.refusal_names.specs.ToldLocks.{IsApart, IsOfChange, TellsOfBranch, TellsOfEnd, TellsOfTurn}

-- What changes a lock ------------------------------------------------------------------------------------------

-- whether a lock is held behind a change, if there is one
abbrev held_by : Option (ℕ × Bool) → (held : Bool) → Bool
held_by None held = held
held_by (Some c) held = c.1

by_both : (later first : Option (ℕ × Bool)) (held : Bool) → held_by later (held_by first held) ≡ held_by (option_or later first) held
by_both None first held = refl
by_both (Some c) first held = refl

-- as many locks stay
mutual
  same_length : (s : Stm) (held : List Bool) → length (held_past s held) ≡ length held
  same_length (branch e a b join) held = same_length_block a held
  same_length _ held = first_of (assumption, search length-set)

  same_length_block : (b : Block) (held : List Bool) → length (held_at_end b held) ≡ length held
  same_length_block done held = refl
  same_length_block (more at s proofs rest) held =
      ap length (after_the_first s at (plain_block rest) held) ∙ same_length_block rest (held_past s held) ∙ same_length s held

module _ (l : ℕ) where
  turned : (held : List Bool) (k at : ℕ) (takes : Bool) → l < length held → has (set held k takes) l ≡ held_by (change_where (k == l) at takes) (has held l)
  turned held k at takes inside = elim (cases_eq k l) [
    | inl e ↦
        ap (λ m. has (set held m takes) l) e ∙ get_or-set_same held l takes false inside
        ∙ ap (λ b. held_by (change_where b at takes) (has held l)) (sym (eq-eqb k l e))
    | inr ne ↦
        get_or-set_other held k l takes false (λ e. ne (sym e))
        ∙ ap (λ b. held_by (change_where b at takes) (has held l)) (sym (ne_eqb k l ne))
  ]

  mutual
    held_past_is : (s : Stm) (at : ℕ) (held : List Bool) → l < length held → has (held_past s held) l ≡ held_by (change_by l at s) (has held l)
    held_past_is (branch e a b join) at held inside = held_at_end_is a held inside
    held_past_is _ at held inside = first_of (assumption, search turned)

    held_at_end_is : (b : Block) (held : List Bool) → l < length held → has (held_at_end b held) l ≡ held_by (last_change l b) (has held l)
    held_at_end_is done held inside = refl
    held_at_end_is (more at s proofs rest) held inside =
        ap (λ h. has h l) (after_the_first s at (plain_block rest) held)
        ∙ held_at_end_is rest (held_past s held) (subst (λ n. l < n) (sym (same_length s held)) inside)
        ∙ ap (held_by (last_change l rest)) (held_past_is s at held inside)
        ∙ by_both (last_change l rest) (change_by l at s) (has held l)

-- Words for an end ---------------------------------------------------------------------------------------------

module _ (bytes : List ℕ) (held : List Bool) (b : Block) (l : ℕ) (inside : l < length held) where
  abbrev words : List ℕ
  words = change_words bytes (has (held_at_end b held) l) (last_change l b)

  of_change : (c : ℕ × Bool) → last_change l b ≡ Some c → IsOfChange bytes held b l words
  of_change c is = record {
    at = c.0;
    takes = c.1;
    is = is;
    decides = held_at_end_is l b held inside ∙ ap (λ o. held_by o (has held l)) is;
    told = ap (change_words bytes (has (held_at_end b held) l)) is;
  }

  stays : last_change l b ≡ None → has (held_at_end b held) l ≡ has held l
  stays is = held_at_end_is l b held inside ∙ ap (λ o. held_by o (has held l)) is

  by_change : (o : Option (ℕ × Bool)) → last_change l b ≡ o → TellsOfEnd bytes held b l words
  by_change None is = inr (record {
    is = is;
    stays = stays is;
    told = ap (change_words bytes (has (held_at_end b held) l)) is ∙ ap (λ h. change_words bytes h None) (stays is);
  })
  by_change (Some c) is = inl (of_change c is)

  end_told : TellsOfEnd bytes held b l words
  end_told = by_change (last_change l b) refl

  -- where the end differs from the start, something changes the lock
  by_turn : (o : Option (ℕ × Bool)) → last_change l b ≡ o → agree (has (held_at_end b held) l) (has held l) ≡ false → IsOfChange bytes held b l words
  by_turn (Some c) is apart = of_change c is
  by_turn None is apart = absurd (true≢false (sym (same (has held l)) ∙ sym (ap (λ h. agree h (has held l)) (stays is)) ∙ apart))
    where
      same : (h : Bool) → agree h h ≡ true
      same true = refl
      same false = refl

  turn_told : agree (has (held_at_end b held) l) (has held l) ≡ false → IsOfChange bytes held b l words
  turn_told apart = by_turn (last_change l b) refl apart

-- The line of a lock -------------------------------------------------------------------------------------------

-- A text has a part.
record HasPart (part text : List ℕ) : Type 0 where
  pub front : List ℕ
  pub back : List ℕ
  pub is : text ≡ front ++ part ++ back

behind : (part text before : List ℕ) → HasPart part text → HasPart part (before ++ text)
behind part text before h = record {
  front = before ++ h.front;
  back = h.back;
  is =
      ap (λ t. before ++ t) h.is ∙ sym (append_assoc before (h.front ++ part) h.back) ∙ ap (λ t. t ++ h.back) (sym (append_assoc before h.front part));
}

module _ (bytes : List ℕ) (held there : List Bool) (a : Block) (other : Option Block) where
  line_of_lock : (n i : ℕ) (ks : List Lock) → i < length ks → agree (has held (n + i)) (has there (n + i)) ≡ false
      → HasPart (change_line bytes (get_or ks i no_lock).name (n + i) (has held (n + i)) (has there (n + i)) a other) (changes bytes held there a other n ks)
  line_of_lock n i [] inside apart = let no : ⊥ = omega (arith, inside) in absurd no
  line_of_lock n zero (k ∷ ks) inside apart =
      let here : n ≡ n + 0 = omega arith in
      subst (λ m. HasPart (change_line bytes k.name m (has held m) (has there m) a other) (changes bytes held there a other n (k ∷ ks))) here (record {
        front = [];
        back = changes bytes held there a other (suc n) ks;
        is =
            ap (λ b. (if b then [] else change_line bytes k.name n (has held n) (has there n) a other) ++ changes bytes held there a other (suc n) ks)
            (subst (λ m. agree (has held m) (has there m) ≡ false) (sym here) apart);
      })
  line_of_lock n (suc i) (k ∷ ks) inside apart =
      let further : suc n + i ≡ n + suc i = omega arith in
      subst (λ m. HasPart (change_line bytes (get_or ks i no_lock).name m (has held m) (has there m) a other) (changes bytes held there a other n (k ∷ ks))) further
      (behind (change_line bytes (get_or ks i no_lock).name (suc n + i) (has held (suc n + i)) (has there (suc n + i)) a other) (changes bytes held there a other (suc n) ks)
      (change_if_apart bytes k.name n (has held n) (has there n) a other)
      (line_of_lock (suc n) i ks (omega (arith, inside)) (subst (λ m. agree (has held m) (has there m) ≡ false) (sym further) apart)))

  part_of_lock : (l : ℕ) (ks : List Lock) → l < length ks → agree (has held l) (has there l) ≡ false
      → HasPart (change_line bytes (get_or ks l no_lock).name l (has held l) (has there l) a other) (changes bytes held there a other 0 ks)
  part_of_lock l ks inside apart =
      let at : 0 + l ≡ l = omega arith in
      subst (λ m. HasPart (change_line bytes (get_or ks l no_lock).name m (has held m) (has there m) a other) (changes bytes held there a other 0 ks)) at
      (line_of_lock 0 l ks inside (subst (λ m. agree (has held m) (has there m) ≡ false) (sym at) apart))

-- The refusals -------------------------------------------------------------------------------------------------

module _ (p : Program) (bytes : List ℕ) (held : List Bool) (complete : length held ≡ length p.locks) (l : ℕ) (declared : l < length p.locks) where
  inside : l < length held
  inside = subst (λ n. l < n) (sym complete) declared

  pub branch_told : (a b : Block) → agree (has (held_at_end a held) l) (has (held_at_end b held) l) ≡ false
      → TellsOfBranch p bytes held l a b (branch_ends bytes p.locks (held_at_end a held) (held_at_end b held) a b)
  branch_told a b apart =
      let first = held_at_end a held in
      let second = held_at_end b held in
      let lines = changes bytes first second a (Some b) 0 p.locks in
      let part = change_line bytes (lock_at (plain p) l).name l (has first l) (has second l) a (Some b) in
      let found = behind part lines (two_ends (codes "  held at the end of the first block: ") (codes "; at the end of the second: ") p.locks first second)
      (part_of_lock bytes first second a (Some b) l p.locks declared apart) in
      record {
        first_words = change_words bytes (has first l) (last_change l a);
        first = end_told bytes held a l inside;
        second_words = change_words bytes (has second l) (last_change l b);
        second = end_told bytes held b l inside;
        front = found.front;
        back = found.back;
        told = found.is;
      }

  pub turn_is_told : (b : Block) → agree (has (held_at_end b held) l) (has held l) ≡ false
      → TellsOfTurn p bytes held l b (loop_ends bytes p.locks held (held_at_end b held) b)
  turn_is_told b apart =
      let end = held_at_end b held in
      let lines = changes bytes end held b None 0 p.locks in
      let part = change_line bytes (lock_at (plain p) l).name l (has end l) (has held l) b None in
      let words = change_words bytes (has end l) (last_change l b) in
      let front = codes "  " ++ (lock_at (plain p) l).name ++ codes ", in the block: " in
      let found = behind part lines (two_ends (codes "  held at the start of the block: ") (codes "; at its end: ") p.locks held end)
      (part_of_lock bytes end held b None l p.locks declared apart) in
      record {
        words = words;
        change = turn_told bytes held b l inside apart;
        front = found.front;
        back = found.back;
        told = found.is ∙ ap (λ w. found.front ++ (w ++ codes "\n") ++ found.back) (append-nil (front ++ words));
      }

-- Some lock ----------------------------------------------------------------------------------------------------

-- A number of a range fails a test.
record Fails (f : ℕ → Bool) (a n : ℕ) : Type 0 where
  pub l : ℕ
  pub below : l < a + n
  pub fails : f l ≡ false

some_fails : (f : ℕ → Bool) (a n : ℕ) → list_all f (range_with_len a n) ≡ false → Fails f a n
some_fails f a zero broken = absurd (true≢false broken)
some_fails f a (suc n) broken = by_first (some_fails f (a + 1) n) (f a) refl broken
  where
    by_first : (list_all f (range_with_len (a + 1) n) ≡ false → Fails f (a + 1) n) → (b : Bool) → f a ≡ b
        → (b && list_all f (range_with_len (a + 1) n)) ≡ false → Fails f a (suc n)
    by_first rest false is broken = record { l = a; below = omega arith; fails = is }
    by_first rest true is broken = let r = rest broken in record { l = r.l; below = omega (arith, r.below); fails = r.fails }

pub some_apart : (p : Plain) (held other : List Bool) → same_held p held other ≡ false → IsApart p held other
some_apart p held other broken =
    let f = some_fails (λ l. agree (has held l) (has other l)) 0 (length p.locks) broken in
    record { l = f.l; declared = omega (arith, f.below); differs = f.fails }
