-- Lines are read exactly.
use Rattle.std.proofs.Common.{◌≡◌, ℕ, ◌+◌, ◌*◌, ◌/◌, ◌%◌, ◌<◌, ◌≤◌, ◌^◌, nat_lt, ◌==◌, List, [], ◌∷◌, refl, ap, sym, ◌∙◌, subst, arith, Bool, true, false, if◌then◌else◌, Option, Some, None}
use Rattle.std.proofs.lemmas.Bool.{and_parts, and_from, lt-ltb, ltb-true, eqb-true}
use Rattle.cov_expr.specs.Words.{IsWord}
use Rattle.cov_expr.specs.declared.expr.Op.{Op}
use Rattle.cov_expr.specs.declared.expr.Op.TheVariants as op
use Rattle.risc_machine.specs.declared.parts.Instr.{Instr}
use Rattle.risc_machine.specs.declared.parts.Instr.TheVariants.{Load, Store, Jump, Jz, Nop, MovC, MovR, Bin, Acquire, Release, Out}
use Rattle.risc_machine.specs.declared.parts.Line.{Line}
use Rattle.object_code.specs.Object.{IsInstrInRange, IsLineInRange, four, place, opcode, operands, line}
use Rattle.object_code.specs.Inside.ObjectReading.{op_of, opcode_of, is_allowed, headed, head_of, head_at, register_at, operator_at, register_number_at, registers_at, number_at, words, within_at, operands_at, line_at}
use Rattle.object_code.specs.declared.opcode.Declared.{Declared}
use Rattle.object_code.specs.declared.opcode.Head.{Head}
use Rattle.object_code.specs.declared.opcode.Opcode.{Opcode}
use Rattle.object_code.specs.declared.opcode.Opcode.TheVariants as kind
use Rattle.object_code.proofs.Exact.{IsExact, then_exact, map_exact, nothing_exact, value_exact, in_exact}
use Rattle.object_code.proofs.Fields.{Within, within_exact, number_exact}

-- Bytes of a table -------------------------------------------------------------------------------------------------

-- a row of a table of bytes
row : {A : Type 0} (byte : A → ℕ) (b n : ℕ) (x y : A) (rest : Option A) → (if b == n then Some x else rest) ≡ Some y → n ≡ byte x → (rest ≡ Some y → b ≡ byte y) → b ≡ byte y
row byte b n x y rest h is further = by (b == n) refl h
  where
    by : (t : Bool) → (b == n) ≡ t → (if t then Some x else rest) ≡ Some y → b ≡ byte y
    by true e g = eqb-true b n e ∙ is ∙ ap byte (let same : x ≡ y = cc (g) in same)
    by false e g = further g

op_means : (b : ℕ) (o : Op) → op_of b ≡ Some o → b ≡ place o
op_means b o h =
    row place b 0 op.Add o _ h refl (λ h. row place b 1 op.Sub o _ h refl (λ h. row place b 2 op.Mul o _ h refl (λ h. row place b 3 op.And o _ h refl
    (λ h. row place b 4 op.Or o _ h refl (λ h. row place b 5 op.Xor o _ h refl (λ h. row place b 6 op.Eq o _ h refl (λ h. row place b 7 op.Ne o _ h refl
    (λ h. row place b 8 op.Lt o _ h refl (λ h. row place b 9 op.Le o _ h refl (λ h. row place b 10 op.Both o _ h refl (λ h. row place b 11 op.Either o None h refl
    (λ h. absurd cc))))))))))))

op_back : (o : Op) → op_of (place o) ≡ Some o
op_back op.Add = refl
op_back op.Sub = refl
op_back op.Mul = refl
op_back op.And = refl
op_back op.Or = refl
op_back op.Xor = refl
op_back op.Eq = refl
op_back op.Ne = refl
op_back op.Lt = refl
op_back op.Le = refl
op_back op.Both = refl
op_back op.Either = refl

-- the number of a kind
abbrev number : Opcode → ℕ
number kind.Load = 0
number kind.Store = 1
number kind.Jump = 2
number kind.Jz = 3
number kind.Nop = 4
number kind.MovC = 5
number kind.MovR = 6
number kind.Bin = 7
number kind.Acquire = 8
number kind.Release = 9
number kind.Out = 10

opcode_means : (b : ℕ) (k : Opcode) → opcode_of b ≡ Some k → b ≡ number k
opcode_means b k h =
    row number b 0 kind.Load k _ h refl (λ h. row number b 1 kind.Store k _ h refl (λ h. row number b 2 kind.Jump k _ h refl (λ h. row number b 3 kind.Jz k _ h refl
    (λ h. row number b 4 kind.Nop k _ h refl (λ h. row number b 5 kind.MovC k _ h refl (λ h. row number b 6 kind.MovR k _ h refl (λ h. row number b 7 kind.Bin k _ h refl
    (λ h. row number b 8 kind.Acquire k _ h refl (λ h. row number b 9 kind.Release k _ h refl (λ h. row number b 10 kind.Out k None h refl
    (λ h. absurd cc)))))))))))

opcode_back : (k : Opcode) → opcode_of (number k) ≡ Some k
opcode_back kind.Load = refl
opcode_back kind.Store = refl
opcode_back kind.Jump = refl
opcode_back kind.Jz = refl
opcode_back kind.Nop = refl
opcode_back kind.MovC = refl
opcode_back kind.MovR = refl
opcode_back kind.Bin = refl
opcode_back kind.Acquire = refl
opcode_back kind.Release = refl
opcode_back kind.Out = refl

number_small : (k : Opcode) → number k < 16
number_small kind.Load = omega arith
number_small kind.Store = omega arith
number_small kind.Jump = omega arith
number_small kind.Jz = omega arith
number_small kind.Nop = omega arith
number_small kind.MovC = omega arith
number_small kind.MovR = omega arith
number_small kind.Bin = omega arith
number_small kind.Acquire = omega arith
number_small kind.Release = omega arith
number_small kind.Out = omega arith

-- the kind of an instruction
abbrev kind_of : Instr → Opcode
kind_of (Load r x) = kind.Load
kind_of (Store x r) = kind.Store
kind_of (Jump i) = kind.Jump
kind_of (Jz r i) = kind.Jz
kind_of Nop = kind.Nop
kind_of (MovC r k) = kind.MovC
kind_of (MovR r q) = kind.MovR
kind_of (Bin o r q) = kind.Bin
kind_of (Acquire l) = kind.Acquire
kind_of (Release l) = kind.Release
kind_of (Out r) = kind.Out

kind_number : (i : Instr) → opcode i ≡ number (kind_of i)
kind_number (Load r x) = refl
kind_number (Store x r) = refl
kind_number (Jump i) = refl
kind_number (Jz r i) = refl
kind_number Nop = refl
kind_number (MovC r k) = refl
kind_number (MovR r q) = refl
kind_number (Bin o r q) = refl
kind_number (Acquire l) = refl
kind_number (Release l) = refl
kind_number (Out r) = refl

-- Fields of lines --------------------------------------------------------------------------------------------------

register_exact : IsExact (λ r. r ∷ []) (λ r. nat_lt r 8 ≡ true) register_at
unfolding register_at
register_exact = in_exact (λ r. r ∷ []) (Within 0 7) (λ r. nat_lt r 8 ≡ true) (within_at 0 7)
    (λ r h. lt-ltb r 8 (omega (arith, h.1)))
    (λ r h. (omega arith, (let l = ltb-true r 8 h in omega (arith, l))))
    (within_exact 0 7 (omega arith))

operator_exact : IsExact (λ o. place o ∷ []) (λ o. Unit {0}) operator_at
unfolding operator_at
operator_exact = value_exact op_of place (λ o. Unit {0}) (λ b o h. (tt, sym (op_means b o h))) (λ o h. op_back o) op.Add tt

abbrev pair_bytes : ℕ × ℕ → List ℕ
pair_bytes a = a.0 ∷ four a.1

abbrev IsPair : ℕ → ℕ × ℕ → Type 0
IsPair below a = (nat_lt a.0 8 ≡ true) × (a.1 < below)

pair_exact : (below : ℕ) → 0 < below → below ≤ 2 ^ 32 → IsExact pair_bytes (IsPair below) (register_number_at below)
unfolding register_number_at
pair_exact below some small = then_exact (λ r. r ∷ []) (λ r. nat_lt r 8 ≡ true) register_at four (λ _ n. n < below) (λ _. number_at below) (λ r n. (r, n)) pair_bytes (IsPair below) (record {
  first = register_exact;
  second = λ r h. number_exact below some small;
  some = λ r h. (0, some);
  spelled = λ r n h g. refl;
  fits = λ r n h g. (h, g);
  parts = λ a h. (a.0, a.1, h.0, h.1, refl);
})

abbrev two_bytes : ℕ × ℕ → List ℕ
two_bytes a = a.0 ∷ a.1 ∷ []

abbrev AreTwo : ℕ × ℕ → Type 0
AreTwo a = (nat_lt a.0 8 ≡ true) × (nat_lt a.1 8 ≡ true)

registers_exact : IsExact two_bytes AreTwo registers_at
unfolding registers_at
registers_exact = then_exact (λ r. r ∷ []) (λ r. nat_lt r 8 ≡ true) register_at (λ r. r ∷ []) (λ _ r. nat_lt r 8 ≡ true) (λ _. register_at) (λ r q. (r, q)) two_bytes AreTwo (record {
  first = register_exact;
  second = λ r h. register_exact;
  some = λ r h. (0, refl);
  spelled = λ r q h g. refl;
  fits = λ r q h g. (h, g);
  parts = λ a h. (a.0, a.1, h.0, h.1, refl);
})

-- Instructions -----------------------------------------------------------------------------------------------------

module _ (d : Declared) where
  abbrev IsOfKind : Opcode → Instr → Type 0
  IsOfKind k i = (kind_of i ≡ k) × IsInstrInRange d.version d.vars d.locks i

  load_parts : (i : Instr) → IsOfKind kind.Load i → (a : ℕ × ℕ) × IsPair d.vars a × (i ≡ Load a.0 a.1)
  load_parts (Load r x) h = ((r, x), (h.1.registers, ltb-true x d.vars h.1.variable), refl)
  load_parts i h = absurd (cc (h.0))

  store_parts : (i : Instr) → IsOfKind kind.Store i → (a : ℕ × ℕ) × IsPair d.vars a × (i ≡ Store a.1 a.0)
  store_parts (Store x r) h = ((r, x), (h.1.registers, ltb-true x d.vars h.1.variable), refl)
  store_parts i h = absurd (cc (h.0))

  jump_parts : (i : Instr) → IsOfKind kind.Jump i → (n : ℕ) × (n < words) × (i ≡ Jump n)
  jump_parts (Jump n) h = (n, h.1.words, refl)
  jump_parts i h = absurd (cc (h.0))

  jz_parts : (i : Instr) → IsOfKind kind.Jz i → (a : ℕ × ℕ) × IsPair words a × (i ≡ Jz a.0 a.1)
  jz_parts (Jz r n) h = ((r, n), (h.1.registers, h.1.words), refl)
  jz_parts i h = absurd (cc (h.0))

  nop_only : (i : Instr) → IsOfKind kind.Nop i → i ≡ Nop
  nop_only Nop h = refl
  nop_only i h = absurd (cc (h.0))

  movc_parts : (i : Instr) → IsOfKind kind.MovC i → (a : ℕ × ℕ) × IsPair words a × (i ≡ MovC a.0 a.1)
  movc_parts (MovC r k) h = ((r, k), (h.1.registers, h.1.words), refl)
  movc_parts i h = absurd (cc (h.0))

  movr_parts : (i : Instr) → IsOfKind kind.MovR i → (a : ℕ × ℕ) × AreTwo a × (i ≡ MovR a.0 a.1)
  movr_parts (MovR r q) h = ((r, q), and_parts (nat_lt r 8) (nat_lt q 8) h.1.registers, refl)
  movr_parts i h = absurd (cc (h.0))

  bin_parts : (i : Instr) → IsOfKind kind.Bin i → (o : Op) × (a : ℕ × ℕ) × (Unit {0}) × AreTwo a × (i ≡ Bin o a.0 a.1)
  bin_parts (Bin o r q) h = (o, (r, q), tt, and_parts (nat_lt r 8) (nat_lt q 8) h.1.registers, refl)
  bin_parts i h = absurd (cc (h.0))

  acquire_parts : (i : Instr) → IsOfKind kind.Acquire i → (l : ℕ) × (l < d.locks) × (i ≡ Acquire l)
  acquire_parts (Acquire l) h = (l, ltb-true l d.locks h.1.lock, refl)
  acquire_parts i h = absurd (cc (h.0))

  release_parts : (i : Instr) → IsOfKind kind.Release i → (l : ℕ) × (l < d.locks) × (i ≡ Release l)
  release_parts (Release l) h = (l, ltb-true l d.locks h.1.lock, refl)
  release_parts i h = absurd (cc (h.0))

  out_parts : (i : Instr) → IsOfKind kind.Out i → (r : ℕ) × (nat_lt r 8 ≡ true) × (i ≡ Out r)
  out_parts (Out r) h = (r, h.1.registers, refl)
  out_parts i h = absurd (cc (h.0))

  module _ (vars : IsWord d.vars) (locks : IsWord d.locks) where
    operands_exact : (k : Opcode) → is_allowed d k ≡ true → IsExact operands (IsOfKind k) (operands_at d k)
    unfolding operands_at
    operands_exact kind.Load ok = map_exact pair_bytes (IsPair d.vars) (register_number_at d.vars) (λ a. Load a.0 a.1) operands (IsOfKind kind.Load) (record {
      first = pair_exact d.vars (ltb-true 0 d.vars ok) (omega (arith, vars));
      spelled = λ a h. refl;
      fits = λ a h. (refl, record { registers = h.0; variable = lt-ltb a.1 d.vars h.1; lock = refl; output = refl; words = tt });
      parts = load_parts;
    })
    operands_exact kind.Store ok = map_exact pair_bytes (IsPair d.vars) (register_number_at d.vars) (λ a. Store a.1 a.0) operands (IsOfKind kind.Store) (record {
      first = pair_exact d.vars (ltb-true 0 d.vars ok) (omega (arith, vars));
      spelled = λ a h. refl;
      fits = λ a h. (refl, record { registers = h.0; variable = lt-ltb a.1 d.vars h.1; lock = refl; output = refl; words = tt });
      parts = store_parts;
    })
    operands_exact kind.Jump ok = map_exact four (λ n. n < words) (number_at words) Jump operands (IsOfKind kind.Jump) (record {
      first = number_exact words (omega arith) (omega arith);
      spelled = λ n h. refl;
      fits = λ n h. (refl, record { registers = refl; variable = refl; lock = refl; output = refl; words = h });
      parts = jump_parts;
    })
    operands_exact kind.Jz ok = map_exact pair_bytes (IsPair words) (register_number_at words) (λ a. Jz a.0 a.1) operands (IsOfKind kind.Jz) (record {
      first = pair_exact words (omega arith) (omega arith);
      spelled = λ a h. refl;
      fits = λ a h. (refl, record { registers = h.0; variable = refl; lock = refl; output = refl; words = h.1 });
      parts = jz_parts;
    })
    operands_exact kind.Nop ok = nothing_exact operands (IsOfKind kind.Nop) Nop refl (refl, record { registers = refl; variable = refl; lock = refl; output = refl; words = tt }) nop_only
    operands_exact kind.MovC ok = map_exact pair_bytes (IsPair words) (register_number_at words) (λ a. MovC a.0 a.1) operands (IsOfKind kind.MovC) (record {
      first = pair_exact words (omega arith) (omega arith);
      spelled = λ a h. refl;
      fits = λ a h. (refl, record { registers = h.0; variable = refl; lock = refl; output = refl; words = h.1 });
      parts = movc_parts;
    })
    operands_exact kind.MovR ok = map_exact two_bytes AreTwo registers_at (λ a. MovR a.0 a.1) operands (IsOfKind kind.MovR) (record {
      first = registers_exact;
      spelled = λ a h. refl;
      fits = λ a h. (refl, record { registers = and_from (nat_lt a.0 8) (nat_lt a.1 8) h.0 h.1; variable = refl; lock = refl; output = refl; words = tt });
      parts = movr_parts;
    })
    operands_exact kind.Bin ok = then_exact (λ o. place o ∷ []) (λ o. Unit {0}) operator_at two_bytes (λ _. AreTwo) (λ _. registers_at) (λ o a. Bin o a.0 a.1) operands (IsOfKind kind.Bin) (record {
      first = operator_exact;
      second = λ o h. registers_exact;
      some = λ o h. ((0, 0), (refl, refl));
      spelled = λ o a h g. refl;
      fits = λ o a h g. (refl, record { registers = and_from (nat_lt a.0 8) (nat_lt a.1 8) g.0 g.1; variable = refl; lock = refl; output = refl; words = tt });
      parts = bin_parts;
    })
    operands_exact kind.Acquire ok = map_exact four (λ l. l < d.locks) (number_at d.locks) Acquire operands (IsOfKind kind.Acquire) (record {
      first = number_exact d.locks (ltb-true 0 d.locks ok) (omega (arith, locks));
      spelled = λ l h. refl;
      fits = λ l h. (refl, record { registers = refl; variable = refl; lock = lt-ltb l d.locks h; output = refl; words = tt });
      parts = acquire_parts;
    })
    operands_exact kind.Release ok = map_exact four (λ l. l < d.locks) (number_at d.locks) Release operands (IsOfKind kind.Release) (record {
      first = number_exact d.locks (ltb-true 0 d.locks ok) (omega (arith, locks));
      spelled = λ l h. refl;
      fits = λ l h. (refl, record { registers = refl; variable = refl; lock = lt-ltb l d.locks h; output = refl; words = tt });
      parts = release_parts;
    })
    operands_exact kind.Out ok = map_exact (λ r. r ∷ []) (λ r. nat_lt r 8 ≡ true) register_at Out operands (IsOfKind kind.Out) (record {
      first = register_exact;
      spelled = λ r h. refl;
      fits = λ r h. (refl, record { registers = h; variable = refl; lock = refl; output = ok; words = tt });
      parts = out_parts;
    })

    -- an instruction of each kind that is allowed
    some_of_kind : (k : Opcode) → is_allowed d k ≡ true → (i : Instr) × IsOfKind k i
    some_of_kind kind.Load ok = (Load 0 0, (refl, record { registers = refl; variable = ok; lock = refl; output = refl; words = tt }))
    some_of_kind kind.Store ok = (Store 0 0, (refl, record { registers = refl; variable = ok; lock = refl; output = refl; words = tt }))
    some_of_kind kind.Jump ok = (Jump 0, (refl, record { registers = refl; variable = refl; lock = refl; output = refl; words = omega arith }))
    some_of_kind kind.Jz ok = (Jz 0 0, (refl, record { registers = refl; variable = refl; lock = refl; output = refl; words = omega arith }))
    some_of_kind kind.Nop ok = (Nop, (refl, record { registers = refl; variable = refl; lock = refl; output = refl; words = tt }))
    some_of_kind kind.MovC ok = (MovC 0 0, (refl, record { registers = refl; variable = refl; lock = refl; output = refl; words = omega arith }))
    some_of_kind kind.MovR ok = (MovR 0 0, (refl, record { registers = refl; variable = refl; lock = refl; output = refl; words = tt }))
    some_of_kind kind.Bin ok = (Bin op.Add 0 0, (refl, record { registers = refl; variable = refl; lock = refl; output = refl; words = tt }))
    some_of_kind kind.Acquire ok = (Acquire 0, (refl, record { registers = refl; variable = refl; lock = ok; output = refl; words = tt }))
    some_of_kind kind.Release ok = (Release 0, (refl, record { registers = refl; variable = refl; lock = ok; output = refl; words = tt }))
    some_of_kind kind.Out ok = (Out 0, (refl, record { registers = refl; variable = refl; lock = refl; output = ok; words = tt }))

    -- the kind of an instruction that is in range is allowed
    allowed_of : (i : Instr) → IsInstrInRange d.version d.vars d.locks i → is_allowed d (kind_of i) ≡ true
    allowed_of (Load r x) h = let l = ltb-true x d.vars h.variable in lt-ltb 0 d.vars (omega (arith, l))
    allowed_of (Store x r) h = let l = ltb-true x d.vars h.variable in lt-ltb 0 d.vars (omega (arith, l))
    allowed_of (Jump i) h = refl
    allowed_of (Jz r i) h = refl
    allowed_of Nop h = refl
    allowed_of (MovC r k) h = refl
    allowed_of (MovR r q) h = refl
    allowed_of (Bin o r q) h = refl
    allowed_of (Acquire l) h = let b = ltb-true l d.locks h.lock in lt-ltb 0 d.locks (omega (arith, b))
    allowed_of (Release l) h = let b = ltb-true l d.locks h.lock in lt-ltb 0 d.locks (omega (arith, b))
    allowed_of (Out r) h = h.output

    -- Lines --------------------------------------------------------------------------------------------------------

    abbrev head_byte : Head → ℕ
    head_byte h = 16 * h.weight + number h.opcode

    abbrev IsHead : Head → Type 0
    IsHead h = (h.weight ≤ 2) × (is_allowed d h.opcode ≡ true)

    headed_means : (b w : ℕ) (o : Option Opcode) (h : Head) → opcode_of (b % 16) ≡ o → w ≡ b / 16 → w ≤ 2 → headed d w o ≡ Some h → IsHead h × (head_byte h ≡ b)
    headed_means b w None h is weight small e = absurd cc
    headed_means b w (Some k) h is weight small e = by (is_allowed d k) refl e
      where
        by : (t : Bool) → is_allowed d k ≡ t → (if t then Some (record { weight = w; opcode = k }) else None) ≡ Some h → IsHead h × (head_byte h ≡ b)
        by true ok g =
            let made : Head = record { weight = w; opcode = k } in
            let same : made ≡ h = cc (g) in
            let low = opcode_means (b % 16) k is in
            subst (λ (x : Head). IsHead x × (head_byte x ≡ b)) same ((small, ok), omega (arith, low, weight))
        by false ok g = absurd cc

    head_means : (b : ℕ) (h : Head) → head_of d b ≡ Some h → IsHead h × (head_byte h ≡ b)
    unfolding head_of
    head_means b h e = by (nat_lt b 48) refl e
      where
        by : (t : Bool) → nat_lt b 48 ≡ t → (if t then headed d (b / 16) (opcode_of (b % 16)) else None) ≡ Some h → IsHead h × (head_byte h ≡ b)
        by true low g = let l = ltb-true b 48 low in headed_means b (b / 16) (opcode_of (b % 16)) h refl refl (omega (arith, l)) g
        by false low g = absurd cc

    head_back : (h : Head) → IsHead h → head_of d (head_byte h) ≡ Some h
    unfolding head_of
    head_back h g =
        let small = number_small h.opcode in
        let low : nat_lt (head_byte h) 48 ≡ true = lt-ltb (head_byte h) 48 (omega (arith, g.0, small)) in
        let weight : head_byte h / 16 ≡ h.weight = omega (arith, small) in
        let rest : head_byte h % 16 ≡ number h.opcode = omega (arith, small) in
        ap (λ t. if t then headed d (head_byte h / 16) (opcode_of (head_byte h % 16)) else None) low
        ∙ ap (λ w. headed d w (opcode_of (head_byte h % 16))) weight
        ∙ ap (λ b. headed d h.weight (opcode_of b)) rest
        ∙ ap (headed d h.weight) (opcode_back h.opcode)
        ∙ ap (λ t. if t then Some (record { weight = h.weight; opcode = h.opcode }) else None) g.1

    head_exact : IsExact (λ h. head_byte h ∷ []) IsHead (head_at d)
    unfolding head_at
    head_exact = value_exact (head_of d) head_byte IsHead head_means head_back (record { weight = 0; opcode = kind.Nop }) (omega arith, refl)

    pub line_exact : IsExact line (IsLineInRange d.version d.vars d.locks) (line_at d)
    unfolding line_at
    line_exact = then_exact (λ h. head_byte h ∷ []) IsHead (head_at d) operands (λ h. IsOfKind h.opcode) (λ h. operands_at d h.opcode) (λ h i. record { weight = h.weight; instr = i }) line (IsLineInRange d.version d.vars d.locks) (record {
      first = head_exact;
      second = λ h g. operands_exact h.opcode g.1;
      some = λ h g. some_of_kind h.opcode g.1;
      spelled = λ h i g k. ap (λ n. (16 * h.weight + n) ∷ operands i) (kind_number i ∙ ap number k.0);
      fits = λ h i g k. record { weight = g.0; instr = k.1 };
      parts = λ l g. (record { weight = l.weight; opcode = kind_of l.instr }, l.instr, (g.weight, allowed_of l.instr g.instr), (refl, g.instr), refl);
    })

-- a line that stands in every code
abbrev pub nothing : Line
nothing = record { weight = 0; instr = Nop }

pub nothing_listed : (version vars locks : ℕ) → IsLineInRange version vars locks nothing
nothing_listed version vars locks = record { weight = omega arith; instr = record { registers = refl; variable = refl; lock = refl; output = refl; words = tt } }
