-- Where the rules forbid to read a variable, or to write it, the line tells why; and else there is none.
use Rattle.std.proofs.Common.{◌≡◌, ◌⊎◌, ℕ, zero, suc, ◌+◌, ◌<◌, List, [], ◌∷◌, length, get_or, Bool, true, false, ◌&&◌, ◌||◌, if◌then◌else◌, Option, Some, None, codes, true≢false, refl, sym, subst, ap, ◌∙◌, arith, inl, inr}
use Rattle.std.specs.Prelude.{not}
use Rattle.std.specs.List.{list_all}
use Rattle.std.proofs.lemmas.Bool.{and_parts, not-true}
use Rattle.std.proofs.Math.Bool.{or-true, or-false}
use Rattle.std.proofs.lemmas.List.{get_or-map}
use Rattle.cov_expr.specs.Trees.{has_number}
use Rattle.cov_expr.proofs.Tests.{each_below}
use Rattle.cov_ast.specs.Declarations.{lock_at, modes_of, name_of, no_lock, no_thread}
use Rattle.cov_ast.specs.Plain.{plain, plain_thread}
use Rattle.cov_ast.specs.Syntax.{Lock, Program, Proof, Stm}
use Rattle.cov_ast.specs.Tables.{has}
use Rattle.cov_ast.specs.WellFormed.{IsWellFormed}
use Rattle.cov_ast.specs.declared.refusal.Detail.TheVariants.{One}
use Rattle.cov_ast.specs.declared.refusal.Rule.TheVariants.{V1, V2}
use Rattle.text_parts.specs.VariableNames.{variable_names}
use Rattle.mode_compat.specs.Compatible.{numbered}
use Rattle.mode_compat.specs.Compatible as compatible
use Rattle.mode_state.specs.Sets.{may_read, may_write, locks_of}
use Rattle.mode_state.proofs.HeldLaws.{all_from}
use Rattle.refusal_names.proofs.FoundNames.{variable_found}
use Rattle.refusal_names.specs.NameLines.{held_text}
use Rattle.refusal_names.specs.ForbiddenAccess.{forbidding, guarantee_forbidding, lock_forbidding, with_word, first_forbidding, guarantee_or_lock, lock_or_nothing, access_line, access_of_any, shown_access, TellsWhy}
use Rattle.refusal_names.specs.RefusalNames.{line_of}
use Rattle.statement_paths.specs.Paths.{Step}

-- whether two lists forbid to read a variable, or to write it
abbrev forbid : (nowrite hide : List ℕ) → (writes : Bool) → (x : ℕ) → Bool
forbid nowrite hide writes x = if writes then has_number nowrite x || has_number hide x else has_number hide x

-- The word -----------------------------------------------------------------------------------------------------

-- by what is hidden, what is asked and what isn't to be written
abbrev word_of : (h w n : Bool) → Option (List ℕ)
word_of h w n = if h then Some (codes "hide") else if w && n then Some (codes "nowrite") else None

no_word : (h w n : Bool) → (if w then n || h else h) ≡ false → word_of h w n ≡ None
no_word false false n e = refl
no_word false true false e = refl
no_word false true true e = absurd (true≢false e)
no_word true false n e = absurd (true≢false e)
no_word true true false e = absurd (true≢false e)
no_word true true true e = absurd (true≢false e)

none_forbids : (h w n : Bool) → word_of h w n ≡ None → (if w then n || h else h) ≡ false
none_forbids false false n e = refl
none_forbids false true false e = refl
none_forbids false true true e = let no : ⊥ = cc in absurd no
none_forbids true w n e = let no : ⊥ = cc in absurd no

pub permitted : (nowrite hide : List ℕ) (writes : Bool) (x : ℕ) → forbid nowrite hide writes x ≡ false → forbidding nowrite hide writes x ≡ None
permitted nowrite hide writes x e = no_word (has_number hide x) writes (has_number nowrite x) e

pub unforbidden : (nowrite hide : List ℕ) (writes : Bool) (x : ℕ) → forbidding nowrite hide writes x ≡ None → forbid nowrite hide writes x ≡ false
unforbidden nowrite hide writes x e = none_forbids (has_number hide x) writes (has_number nowrite x) e

-- The first lock -----------------------------------------------------------------------------------------------

module _ (held : List Bool) (writes : Bool) (x : ℕ) where
  -- the first of locks from a number on that forbids it
  pub record IsFirst (l : ℕ) (ks : List Lock) : Type 0 where
    pub at : ℕ
    pub inside : at < length ks
    pub apart : has held (l + at) ≡ false
    pub word : List ℕ
    pub forbids : lock_forbidding (get_or ks at no_lock) writes x ≡ Some word
    pub is : first_forbidding held writes x l ks ≡ Some (get_or ks at no_lock, word)

  -- there is none: each of them is held or doesn't forbid it
  pub record IsNone (l : ℕ) (ks : List Lock) : Type 0 where
    pub none : first_forbidding held writes x l ks ≡ None
    pub each : (i : ℕ) → i < length ks → has held (l + i) ≡ false → lock_forbidding (get_or ks i no_lock) writes x ≡ None

  -- what there is of the rest, where the first is passed
  passed : (l : ℕ) (k : Lock) (ks : List Lock) → first_forbidding held writes x l (k ∷ ks) ≡ first_forbidding held writes x (suc l) ks
      → (has held l ≡ false → lock_forbidding k writes x ≡ None) → IsNone (suc l) ks ⊎ IsFirst (suc l) ks → IsNone l (k ∷ ks) ⊎ IsFirst l (k ∷ ks)
  passed l k ks same head (inl n) = inl (record { none = same ∙ n.none; each = each })
    where
      each : (i : ℕ) → i < length (k ∷ ks) → has held (l + i) ≡ false → lock_forbidding (get_or (k ∷ ks) i no_lock) writes x ≡ None
      each zero inside apart = head (ap (has held) (let e : l ≡ l + 0 = omega arith in e) ∙ apart)
      each (suc i) inside apart = n.each i (omega (arith, inside)) (ap (has held) (let e : suc l + i ≡ l + suc i = omega arith in e) ∙ apart)
  passed l k ks same head (inr f) = inr (record {
    at = suc f.at;
    inside = omega (arith, f.inside);
    apart = ap (has held) (let e : l + suc f.at ≡ suc l + f.at = omega arith in e) ∙ f.apart;
    word = f.word;
    forbids = f.forbids;
    is = same ∙ f.is;
  })

  -- by whether the first is held, and its word
  by_head : (l : ℕ) (k : Lock) (ks : List Lock) (b : Bool) (o : Option (List ℕ)) → has held l ≡ b → lock_forbidding k writes x ≡ o
      → IsNone (suc l) ks ⊎ IsFirst (suc l) ks → IsNone l (k ∷ ks) ⊎ IsFirst l (k ∷ ks)
  by_head l k ks true o is_held word rest =
      let later = first_forbidding held writes x (suc l) ks in
      passed l k ks (ap (λ b. if b then later else with_word k (lock_forbidding k writes x) later) is_held) (λ apart. absurd (true≢false (sym is_held ∙ apart))) rest
  by_head l k ks false None apart none rest =
      let later = first_forbidding held writes x (suc l) ks in
      passed l k ks (ap (λ b. if b then later else with_word k (lock_forbidding k writes x) later) apart ∙ ap (λ w. with_word k w later) none) (λ h. none) rest
  by_head l k ks false (Some word) apart is rest =
      let later = first_forbidding held writes x (suc l) ks in
      inr (record {
        at = zero;
        inside = omega arith;
        apart = ap (has held) (let e : l + 0 ≡ l = omega arith in e) ∙ apart;
        word = word;
        forbids = is;
        is = ap (λ b. if b then later else with_word k (lock_forbidding k writes x) later) apart ∙ ap (λ w. with_word k w later) is;
      })

  pub none_or_first : (l : ℕ) (ks : List Lock) → IsNone l ks ⊎ IsFirst l ks
  none_or_first l [] = inl (record { none = refl; each = λ i inside. absurd (let no : ⊥ = omega (arith, inside) in no) })
  none_or_first l (k ∷ ks) = by_head l k ks (has held l) (lock_forbidding k writes x) refl refl (none_or_first (suc l) ks)

-- The line -----------------------------------------------------------------------------------------------------

module _ (p : Program) (bytes : List ℕ) (t : ℕ) (held : List Bool) (writes : Bool) (x : ℕ) (below : t < length p.threads) where
  abbrev names : List (List ℕ)
  names = variable_names p.vars

  -- whether a guarantee of the thread forbids it, and whether a lock does
  abbrev guarantee_forbids : Bool
  guarantee_forbids = forbid (modes_of (plain p) t).guarantee_nowrite (modes_of (plain p) t).guarantee_hide writes x

  abbrev lock_forbids : ℕ → Bool
  lock_forbids l = forbid (lock_at (plain p) l).nowrite (lock_at (plain p) l).hide writes x

  -- whether the thread may do it
  abbrev may : Bool
  may = not guarantee_forbids && list_all (λ l. not (lock_forbids l) || has held l) (locks_of (plain p))

  abbrev the_line : List ℕ
  the_line = access_line names bytes (numbered p t) p.locks held writes x

  abbrev line_by : Option (List ℕ) → List ℕ
  line_by guarantee = guarantee_or_lock names bytes (numbered p t) guarantee (first_forbidding held writes x 0 p.locks) x (held_text p.locks held)

  same_guarantees : guarantee_forbids ≡ forbid (numbered p t).modes.guarantee_nowrite (numbered p t).modes.guarantee_hide writes x
  same_guarantees = ap (λ m. forbid m.guarantee_nowrite m.guarantee_hide writes x) (ap (λ th. th.modes) (get_or-map plain_thread p.threads t compatible.no_thread no_thread below))

  -- a lock that is held, or doesn't forbid it, leaves it permitted
  leaves : (l : ℕ) (b : Bool) → has held l ≡ b → (b ≡ false → lock_forbids l ≡ false) → (not (lock_forbids l) || has held l) ≡ true
  leaves l true e h = ap (λ b. not (lock_forbids l) || b) e ∙ or-true (not (lock_forbids l))
  leaves l false e h = ap (λ b. not b || has held l) (h refl)

  none_leaves : IsNone held writes x 0 p.locks → (l : ℕ) → l < 0 + length p.locks → (not (lock_forbids l) || has held l) ≡ true
  none_leaves n l inside =
      leaves l (has held l) refl
      (λ apart. unforbidden (lock_at (plain p) l).nowrite (lock_at (plain p) l).hide writes x
      (n.each l (omega (arith, inside)) (ap (has held) (let e : 0 + l ≡ l = omega arith in e) ∙ apart)))

  by_lock : guarantee_forbidding (numbered p t) writes x ≡ None → may ≡ false → IsNone held writes x 0 p.locks ⊎ IsFirst held writes x 0 p.locks
      → TellsWhy p bytes t held writes x the_line
  by_lock is h (inr f) = inr (record {
    number = f.at;
    there = f.inside;
    apart = ap (has held) (let e : f.at ≡ 0 + f.at = omega arith in e) ∙ f.apart;
    word = f.word;
    forbids = f.forbids;
    told = ap line_by is ∙ ap (λ k. lock_or_nothing names bytes k x (held_text p.locks held)) f.is;
  })
  by_lock is h (inl n) =
      let free = same_guarantees ∙ unforbidden (numbered p t).modes.guarantee_nowrite (numbered p t).modes.guarantee_hide writes x is in
      let all = all_from (λ l. not (lock_forbids l) || has held l) 0 (length p.locks) (none_leaves n) in
      absurd (true≢false (sym (ap (λ b. not b && list_all (λ l. not (lock_forbids l) || has held l) (locks_of (plain p))) free ∙ all) ∙ h))

  by_guarantee : (o : Option (List ℕ)) → guarantee_forbidding (numbered p t) writes x ≡ o → may ≡ false → TellsWhy p bytes t held writes x the_line
  by_guarantee None is h = by_lock is h (none_or_first held writes x 0 p.locks)
  by_guarantee (Some word) is h = inl (record { word = word; forbids = is; told = ap line_by is })

  why : may ≡ false → TellsWhy p bytes t held writes x the_line
  why h = by_guarantee (guarantee_forbidding (numbered p t) writes x) refl h

  -- where it is permitted, no lock is found
  no_lock_found : list_all (λ l. not (lock_forbids l) || has held l) (locks_of (plain p)) ≡ true → IsNone held writes x 0 p.locks ⊎ IsFirst held writes x 0 p.locks
      → first_forbidding held writes x 0 p.locks ≡ None
  no_lock_found h (inl n) = n.none
  no_lock_found h (inr f) =
      let apart : has held f.at ≡ false = ap (has held) (let e : f.at ≡ 0 + f.at = omega arith in e) ∙ f.apart in
      let leaves : (not (lock_forbids f.at) || has held f.at) ≡ true = each_below (λ l. not (lock_forbids l) || has held l) 0 (length p.locks) f.at (omega arith) (omega (arith, f.inside)) h in
      let free : lock_forbids f.at ≡ false = not-true (lock_forbids f.at) (sym (or-false (not (lock_forbids f.at))) ∙ sym (ap (λ b. not (lock_forbids f.at) || b) apart) ∙ leaves) in
      let none = permitted (lock_at (plain p) f.at).nowrite (lock_at (plain p) f.at).hide writes x free in
      let no : ◌≡◌ {A = Option (List ℕ)} None (Some f.word) = sym none ∙ f.forbids in
      cc

  nothing : may ≡ true → the_line ≡ []
  nothing h =
      let parts = and_parts (not guarantee_forbids) (list_all (λ l. not (lock_forbids l) || has held l) (locks_of (plain p))) h in
      let free = sym same_guarantees ∙ not-true guarantee_forbids parts.0 in
      ap line_by (permitted (numbered p t).modes.guarantee_nowrite (numbered p t).modes.guarantee_hide writes x free)
      ∙ ap (λ k. lock_or_nothing names bytes k x (held_text p.locks held)) (no_lock_found parts.1 (none_or_first held writes x 0 p.locks))

-- The refusals -------------------------------------------------------------------------------------------------

module _ (p : Program) (formed : IsWellFormed p) (bytes : List ℕ) (t x : ℕ) (held : List Bool) (below : t < length p.threads) (inside : x < length p.vars)
    (steps : List Step) (s : Stm) (proofs : List Proof) where
  line_is : (writes : Bool) → shown_access (variable_names p.vars) bytes (numbered p t) p.locks held writes (One (name_of (plain p) x))
      ≡ access_line (variable_names p.vars) bytes (numbered p t) p.locks held writes x
  line_is writes =
      ap (λ o. access_of_any (variable_names p.vars) bytes (numbered p t) p.locks held writes o) (variable_found p.vars p.locks p.threads x formed.names_differ inside)

  pub unreadable : may_read (plain p) t held x ≡ false → TellsWhy p bytes t held false x (line_of p bytes t V1 (One (name_of (plain p) x)) steps held s proofs)
  unreadable h = subst (TellsWhy p bytes t held false x) (sym (line_is false)) (why p bytes t held false x below h)

  pub unwritable : may_write (plain p) t held x ≡ false → TellsWhy p bytes t held true x (line_of p bytes t V2 (One (name_of (plain p) x)) steps held s proofs)
  unwritable h = subst (TellsWhy p bytes t held true x) (sym (line_is true)) (why p bytes t held true x below h)

  pub readable : may_read (plain p) t held x ≡ true → line_of p bytes t V1 (One (name_of (plain p) x)) steps held s proofs ≡ []
  readable h = line_is false ∙ nothing p bytes t held false x below h

  pub writable : may_write (plain p) t held x ≡ true → line_of p bytes t V2 (One (name_of (plain p) x)) steps held s proofs ≡ []
  writable h = line_is true ∙ nothing p bytes t held true x below h
