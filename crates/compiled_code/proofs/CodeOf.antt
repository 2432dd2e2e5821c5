-- What is made of a well formed program is code.
use Rattle.std.proofs.Common.{◌≡◌, ◌⊎◌, ℕ, zero, suc, ◌+◌, ◌<◌, ◌==◌, ◌||◌, not, nat_le, List, [], ◌∷◌, ◌++◌, length, map, Bool, true, false, if◌then◌else◌, Option, Some, None, refl, sym, ◌∙◌, ap, subst, arith, inl, inr, ⊎_elim}
use Rattle.std.specs.Option.{option_or}
use Rattle.std.specs.List.{list_any, range_with_len}
use Rattle.std.specs.Str.{bytes_eq}
use Rattle.std.proofs.Math.ListN.{get_or-map}
use Rattle.std.proofs.lemmas.Bool.{and_parts, or_from, false_from_ne_true, both_ways}
use Rattle.std.proofs.lemmas.List.{length-map}
use Rattle.std.proofs.lemmas.List.Elements.{All-get_or, All-from_get_or}
use Rattle.std.proofs.lemmas.List.Folds.{list_any-append}
use Rattle.std.proofs.lemmas.Slice.Eq.{bytes_eq-Decides}
use Rattle.cov_expr.specs.Words.{IsWord}
use Rattle.cov_ast.specs.Declarations.{thread_at}
use Rattle.cov_ast.specs.LocksAlong.{no_locks}
use Rattle.cov_ast.specs.Plain.{plain, plain_block, plain_thread}
use Rattle.cov_ast.specs.Syntax.{Program}
use Rattle.cov_ast.specs.WellFormed.{IsWellFormed, IsThreadInRange, IsBodyFine, IsSilent, are_distinct, block_size, most_size}
use Rattle.cov_ast.specs.WellFormed as formed
use Rattle.mode_compat.specs.Compatible.{numbered, no_thread}
use Rattle.regalloc.specs.Plan.{start}
use Rattle.compiled_code.specs.Compiled.{compiled, thread_code, thread_lines}
use Rattle.compiled_code.proofs.Assembled.{code_count, code_at, names_are}
use Rattle.compiled_code.proofs.Faultless.{AreFine, fine_block, PassesLine, LinesPass, block_pass}
use Rattle.compiled_code.proofs.Sizes.{cmds_size, block_sized, block_few}
use Rattle.risc_machine.specs.Faults.{first_in, names_of, repeated, has_registers, has_variable, has_lock, has_target, has_version, line_fault, thread_fault, name_fault, fault_of, AreGood}
use Rattle.risc_machine.specs.declared.parts.CodeBad.TheVariants as bad
use Rattle.risc_machine.specs.declared.parts.Line.{Line}
use Rattle.risc_machine.specs.declared.parts.Parts.{Parts}
use Rattle.risc_machine.specs.declared.parts.ThreadCode.{ThreadCode}

-- Names -----------------------------------------------------------------------------------------------------------

abbrev AreNew : (before names : List (List ℕ)) → Type 0
AreNew before [] = Unit {0}
AreNew before (n ∷ ns) = (list_any (bytes_eq n) before ≡ false) × AreNew before ns

others_new : (before ns : List (List ℕ)) (n : List ℕ) → AreNew before ns → list_any (bytes_eq n) ns ≡ false → AreNew (before ++ n ∷ []) ns
others_new before [] n h k = tt
others_new before (m ∷ ns) n h k = (
  list_any-append (bytes_eq m) before (n ∷ [])
      ∙ or_from (list_any (bytes_eq m) before) (bytes_eq m n || false) h.0 (or_from (bytes_eq m n) false (false_from_ne_true (bytes_eq m n) (λ e. other (list_any (bytes_eq n) ns) e k)) refl),
  others_new before ns n h.1 (rest (bytes_eq n m) (list_any (bytes_eq n) ns) k),
)
  where
    other : (b : Bool) → bytes_eq m n ≡ true → (bytes_eq n m || b) ≡ false → ⊥
    other b e f =
        let same : m ≡ n = (bytes_eq-Decides m n).0 e in
        absurd (both_ways (bytes_eq n m || b) f (ap (λ c. c || b) ((bytes_eq-Decides n m).1 (sym same))))

    rest : (a b : Bool) → (a || b) ≡ false → b ≡ false
    rest true b h = absurd (both_ways true h refl)
    rest false b h = h

none_repeated : (before names : List (List ℕ)) → AreNew before names → are_distinct bytes_eq names ≡ true → repeated before names ≡ None
none_repeated before [] new h = refl
none_repeated before (n ∷ ns) new h =
    let both = and_parts (not (list_any (bytes_eq n) ns)) (are_distinct bytes_eq ns) h in
    ap (λ b. if b then Some n else repeated (before ++ n ∷ []) ns) new.0
    ∙ none_repeated (before ++ n ∷ []) ns (others_new before ns n new.1 (absent (list_any (bytes_eq n) ns) both.0)) both.1
  where
    absent : (b : Bool) → not b ≡ true → b ≡ false
    absent true h = sym h
    absent false h = refl

all_new : (names : List (List ℕ)) → AreNew [] names
all_new [] = tt
all_new (n ∷ ns) = (refl, all_new ns)

-- Lines -----------------------------------------------------------------------------------------------------------

passed : {A : Type 0} (b : Bool) (x : A) → b ≡ true → (if b then None else Some x) ≡ None
passed b x h = ap (λ c. if c then None else Some x) h

both_none : {A : Type 0} (o q : Option A) → o ≡ None → q ≡ None → option_or o q ≡ None
both_none o q h k = ap (λ o. option_or o q) h ∙ k

module _ (c : Parts) (t n : ℕ) where
  line_faultless : (i : ℕ) (l : Line) → PassesLine (length c.vars) (length c.locks) c.version n l → line_fault c t n i l ≡ None
  line_faultless i l h =
      both_none _ _ (passed (nat_le l.weight 2) (bad.BadWeight t i) h.weight)
      (both_none _ _ (passed (has_registers l.instr) (bad.BadRegister t i) h.instr.registers)
      (both_none _ _ (passed (has_variable (length c.vars) l.instr) (bad.BadVariable t i) h.instr.variable)
      (both_none _ _ (passed (has_lock (length c.locks) l.instr) (bad.BadLock t i) h.instr.lock)
      (both_none _ _ (passed (has_target n l.instr) (bad.BadTarget t i) h.instr.target) (passed (has_version c.version l.instr) (bad.BadOut t i) h.instr.output)))))

  lines_faultless : (ls : List Line) (i : ℕ) → LinesPass (length c.vars) (length c.locks) c.version n ls → first_in (line_fault c t n) i ls ≡ None
  lines_faultless [] i h = refl
  lines_faultless (l ∷ ls) i h = both_none _ _ (line_faultless i l h.0) (lines_faultless ls (i + 1) h.1)

threads_faultless : (c : Parts) (g : ℕ → ThreadCode) (a n i : ℕ) → ((u : ℕ) → u < a + n → (t : ℕ) → thread_fault c t (g u) ≡ None)
    → first_in (thread_fault c) i (map g (range_with_len a n)) ≡ None
threads_faultless c g a zero i h = refl
threads_faultless c g a (suc n) i h =
    both_none _ _ (h a (omega arith) i) (threads_faultless c g (a + 1) n (i + 1) (λ u lt. h u (omega arith)))

-- Programs --------------------------------------------------------------------------------------------------------

module _ (p : Program) (f : IsWellFormed p) where
  body_is : (t : ℕ) → (thread_at (plain p) t).body ≡ plain_block (numbered p t).body
  body_is t = ap (λ th. th.body) (get_or-map plain_thread p.threads t no_thread)

  in_version : (t : ℕ) → t < length p.threads → (nat_le 2 p.version ≡ true) ⊎ IsSilent (numbered p t).body
  in_version t inside = ⊎_elim
      (λ e. inr (All-get_or (λ t. IsSilent t.body) p.threads t no_thread inside (f.version.silent e)))
      (λ e. inl (ap (nat_le 2) e)) f.version.known

  fine : (t : ℕ) → t < length p.threads → AreFine (length p.vars) (length p.locks) p.version (thread_at (plain p) t).body
  fine t inside =
      subst (AreFine (length p.vars) (length p.locks) p.version) (sym (body_is t))
      (fine_block (length p.vars) (length p.locks) p.version (numbered p t).body
      (All-get_or (IsThreadInRange (length p.vars) (length p.locks)) p.threads t no_thread inside f.ids.of_threads).body (in_version t inside))

  few_lines : (t : ℕ) → t < length p.threads → IsWord (length (thread_lines (plain p) t))
  few_lines t inside =
      let body = (numbered p t).body in
      let small : block_size body < most_size = (All-get_or (λ t. IsBodyFine t.body) p.threads t no_thread inside f.bodies).small in
      let a = block_few (plain p) t (thread_at (plain p) t).body (no_locks (plain p)) start 0 in
      let b = block_sized body in
      let same : cmds_size (thread_at (plain p) t).body ≡ cmds_size (plain_block body) = ap cmds_size (body_is t) in
      omega arith

  thread_faultless : (u : ℕ) → u < length p.threads → (t : ℕ) → thread_fault (compiled p) t (thread_code (plain p) u) ≡ None
  thread_faultless u inside t =
      let n = length (thread_lines (plain p) u) in
      lines_faultless (compiled p) t n (thread_lines (plain p) u) 0
      (subst (λ v. LinesPass v (length (compiled p).locks) p.version n (thread_lines (plain p) u)) (sym (length-map p.vars _))
      (subst (λ k. LinesPass (length p.vars) k p.version n (thread_lines (plain p) u)) (sym (length-map p.locks _))
      (block_pass (length p.vars) (length p.locks) p.version n (plain p) u (thread_at (plain p) u).body (no_locks (plain p)) start 0 refl (fine u inside) (omega arith))))

  known : (p.version == 1 || p.version == 2) ≡ true
  known = ⊎_elim (λ e. ap (λ v. v == 1 || v == 2) e) (λ e. ap (λ v. v == 1 || v == 2) e) f.version.known

  distinct : repeated [] (names_of (compiled p)) ≡ None
  distinct =
      let all = formed.names_of p.vars p.locks p.threads in
      ap (λ ns. repeated [] (((compiled p).vars ++ (compiled p).locks) ++ ns)) (names_are p) ∙ none_repeated [] all (all_new all) f.names_differ

  faultless : fault_of (compiled p) ≡ None
  faultless =
      both_none _ _ (passed (p.version == 1 || p.version == 2) (bad.BadVersion p.version) known)
      (both_none _ _ (ap name_fault distinct) (threads_faultless (compiled p) (thread_code (plain p)) 0 (length p.threads) 0 (λ u lt. thread_faultless u (omega arith))))

  pub code_good : AreGood (compiled p)
  code_good = record {
    counted = record {
      vars = let n : length (compiled p).vars ≡ length p.vars = length-map p.vars _ in let m = f.limits.variables in omega arith;
      locks = let n : length (compiled p).locks ≡ length p.locks = length-map p.locks _ in let m = f.limits.declared_locks in omega arith;
      threads = let n = code_count p in let m = f.limits.declared_threads in omega arith;
      lines = All-from_get_or (λ (t : ThreadCode). IsWord (length t.lines)) (compiled p).threads (record { name = []; lines = [] })
          (λ t lt. subst (λ (c : ThreadCode). IsWord (length c.lines)) (sym (code_at p t _ (omega (arith, lt, code_count p)))) (few_lines t (omega (arith, lt, code_count p))));
    };
    faultless = faultless;
  }
