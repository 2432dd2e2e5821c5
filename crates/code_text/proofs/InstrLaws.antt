-- What is read of the fields of an instruction is spelled as these fields, and has a listing.
use Rattle.std.proofs.Common.{◌≡◌, ℕ, nat_le, ◌&&◌, nat_lt, List, [], ◌∷◌, length, refl, ap, ◌∙◌, subst, codes, true, Option, Some, None, option_map, inl, inr}
use Rattle.std.proofs.lemmas.Bool.{and_parts}
use Rattle.std.specs.Str.{bytes_eq}
use Rattle.risc_machine.specs.declared.parts.Instr.{Instr}
use Rattle.risc_machine.specs.declared.parts.Instr.TheVariants.{Load, Store, Jump, Jz, Nop, MovC, MovR, Bin, Acquire, Release, Out}
use Rattle.risc_machine.specs.declared.parts.Parts.{Parts}
use Rattle.cov_expr.specs.declared.expr.Op.{Op}
use Rattle.code_text.specs.Listing.{instr, register, sign, IsListedInstr}
use Rattle.code_text.specs.Inside.ListingReading.{both, number_of, register_of, id_of, op_of, with_op, no_fields, one_field, two_fields, three_fields, instr_of}
use Rattle.code_text.proofs.BackLaws.{both_true}
use Rattle.code_text.proofs.FieldLaws.{given, chosen, same_word, number_is, register_is, id_is, op_is}
use Rattle.code_text.proofs.RangeLaws.{number_ranges, register_ranges, id_ranges}

pub map_is : {A B : Type 0} (f : A → B) (x : Option A) (v : B) → option_map f x ≡ Some v → (a : A) × (x ≡ Some a) × (f a ≡ v)
map_is f None v h = absurd cc
map_is f (Some a) v h = (a, refl, cc)

pub both_are : {A B C : Type 0} (f : A → B → C) (x : Option A) (y : Option B) (v : C) → both f x y ≡ Some v → (a : A) × (b : B) × (x ≡ Some a) × (y ≡ Some b) × (f a b ≡ v)
both_are f None y v h = absurd cc
both_are f (Some a) None v h = absurd cc
both_are f (Some a) (Some b) v h = (a, b, refl, refl, cc)

module _ (version : ℕ) (vars locks : List (List ℕ)) where
  -- the fields are those of the instruction, which has a listing
  pub record IsReadAs (fs : List (List ℕ)) (i : Instr) : Type 0 where
    pub same : fs ≡ instr vars locks i
    pub listed : IsListedInstr version (length vars) (length locks) i

  abbrev Listed : Instr → Type 0
  Listed i = IsListedInstr version (length vars) (length locks) i

  read_as : (fs : List (List ℕ)) (j i : Instr) → j ≡ i → fs ≡ instr vars locks j → Listed j → IsReadAs fs i
  read_as fs j i e same listed = subst (IsReadAs fs) e (record { same = same; listed = listed })

  none_is : (w : List ℕ) (i : Instr) → no_fields w ≡ Some i → IsReadAs (w ∷ []) i
  none_is w i h =
      let g = given (bytes_eq w (codes "nop")) Nop i h in
      read_as (w ∷ []) Nop i g.1 (ap (λ x. x ∷ []) (same_word w (codes "nop") g.0)) (record { registers = refl; variable = refl; lock = refl; output = refl; words = tt })

  one : (w v a b : List ℕ) → bytes_eq w v ≡ true → a ≡ b → w ∷ a ∷ [] ≡ v ∷ b ∷ []
  one w v a b h e = ap (λ x. x ∷ a ∷ []) (same_word w v h) ∙ ap (λ x. v ∷ x ∷ []) e

  two : (w v a b c d : List ℕ) → bytes_eq w v ≡ true → a ≡ b → c ≡ d → w ∷ a ∷ c ∷ [] ≡ v ∷ b ∷ d ∷ []
  two w v a b c d h e f = ap (λ x. x ∷ a ∷ c ∷ []) (same_word w v h) ∙ ap (λ x. v ∷ x ∷ c ∷ []) e ∙ ap (λ x. v ∷ b ∷ x ∷ []) f

  one_is : (w a : List ℕ) (i : Instr) → one_field version vars locks w a ≡ Some i → IsReadAs (w ∷ a ∷ []) i
  one_is w a i h = elim (chosen (bytes_eq w (codes "jump")) (option_map Jump (number_of a)) _ i h) [
    | inl c ↦ (
        let m = map_is Jump (number_of a) i c.1 in
        read_as (w ∷ a ∷ []) (Jump m.0) i m.2 (one w (codes "jump") a _ c.0 (number_is a m.0 m.1))
        (record { registers = refl; variable = refl; lock = refl; output = refl; words = number_ranges a m.0 m.1 }))
    | inr h ↦ (elim (chosen (bytes_eq w (codes "acquire")) (option_map Acquire (id_of locks a)) _ i h) [
      | inl c ↦ (
          let m = map_is Acquire (id_of locks a) i c.1 in
          read_as (w ∷ a ∷ []) (Acquire m.0) i m.2 (one w (codes "acquire") a _ c.0 (id_is locks a m.0 m.1))
          (record { registers = refl; variable = refl; lock = id_ranges locks a m.0 m.1; output = refl; words = tt }))
      | inr h ↦ (elim (chosen (bytes_eq w (codes "release")) (option_map Release (id_of locks a)) _ i h) [
        | inl c ↦ (
            let m = map_is Release (id_of locks a) i c.1 in
            read_as (w ∷ a ∷ []) (Release m.0) i m.2 (one w (codes "release") a _ c.0 (id_is locks a m.0 m.1))
            (record { registers = refl; variable = refl; lock = id_ranges locks a m.0 m.1; output = refl; words = tt }))
        | inr h ↦ (elim (chosen (bytes_eq w (codes "out") && nat_le 2 version) (option_map Out (register_of a)) None i h) [
          | inl c ↦ (
              let m = map_is Out (register_of a) i c.1 in
              let k = and_parts (bytes_eq w (codes "out")) (nat_le 2 version) c.0 in
              read_as (w ∷ a ∷ []) (Out m.0) i m.2 (one w (codes "out") a _ k.0 (register_is a m.0 m.1))
              (record { registers = register_ranges a m.0 m.1; variable = refl; lock = refl; output = k.1; words = tt }))
          | inr h ↦ absurd cc
        ])
      ])
    ])
  ]

  two_are : (w a b : List ℕ) (i : Instr) → two_fields vars w a b ≡ Some i → IsReadAs (w ∷ a ∷ b ∷ []) i
  two_are w a b i h = elim (chosen (bytes_eq w (codes "load")) (both Load (register_of a) (id_of vars b)) _ i h) [
    | inl c ↦ (
        let m = both_are Load (register_of a) (id_of vars b) i c.1 in
        read_as (w ∷ a ∷ b ∷ []) (Load m.0 m.1) i m.4 (two w (codes "load") a _ b _ c.0 (register_is a m.0 m.2) (id_is vars b m.1 m.3))
        (record { registers = register_ranges a m.0 m.2; variable = id_ranges vars b m.1 m.3; lock = refl; output = refl; words = tt }))
    | inr h ↦ (elim (chosen (bytes_eq w (codes "store")) (both Store (id_of vars a) (register_of b)) _ i h) [
      | inl c ↦ (
          let m = both_are Store (id_of vars a) (register_of b) i c.1 in
          read_as (w ∷ a ∷ b ∷ []) (Store m.0 m.1) i m.4 (two w (codes "store") a _ b _ c.0 (id_is vars a m.0 m.2) (register_is b m.1 m.3))
          (record { registers = register_ranges b m.1 m.3; variable = id_ranges vars a m.0 m.2; lock = refl; output = refl; words = tt }))
      | inr h ↦ (elim (chosen (bytes_eq w (codes "jz")) (both Jz (register_of a) (number_of b)) _ i h) [
        | inl c ↦ (
            let m = both_are Jz (register_of a) (number_of b) i c.1 in
            read_as (w ∷ a ∷ b ∷ []) (Jz m.0 m.1) i m.4 (two w (codes "jz") a _ b _ c.0 (register_is a m.0 m.2) (number_is b m.1 m.3))
            (record { registers = register_ranges a m.0 m.2; variable = refl; lock = refl; output = refl; words = number_ranges b m.1 m.3 }))
        | inr h ↦ (elim (chosen (bytes_eq w (codes "movc")) (both MovC (register_of a) (number_of b)) _ i h) [
          | inl c ↦ (
              let m = both_are MovC (register_of a) (number_of b) i c.1 in
              read_as (w ∷ a ∷ b ∷ []) (MovC m.0 m.1) i m.4 (two w (codes "movc") a _ b _ c.0 (register_is a m.0 m.2) (number_is b m.1 m.3))
              (record { registers = register_ranges a m.0 m.2; variable = refl; lock = refl; output = refl; words = number_ranges b m.1 m.3 }))
          | inr h ↦ (elim (chosen (bytes_eq w (codes "movr")) (both MovR (register_of a) (register_of b)) None i h) [
            | inl c ↦ (
                let m = both_are MovR (register_of a) (register_of b) i c.1 in
                read_as (w ∷ a ∷ b ∷ []) (MovR m.0 m.1) i m.4 (two w (codes "movr") a _ b _ c.0 (register_is a m.0 m.2) (register_is b m.1 m.3))
                (record { registers = both_true (nat_lt m.0 8) (nat_lt m.1 8) (register_ranges a m.0 m.2) (register_ranges b m.1 m.3); variable = refl; lock = refl; output = refl; words = tt }))
            | inr h ↦ absurd cc
          ])
        ])
      ])
    ])
  ]

  with_op_is : (o : Option Op) (x y : Option ℕ) (i : Instr) → with_op o x y ≡ Some i → (op : Op) × (o ≡ Some op) × (both (Bin op) x y ≡ Some i)
  with_op_is None x y i h = absurd cc
  with_op_is (Some op) x y i h = (op, refl, h)

  three_are : (w a b c : List ℕ) (i : Instr) → three_fields w a b c ≡ Some i → IsReadAs (w ∷ a ∷ b ∷ c ∷ []) i
  three_are w a b c i h = elim (chosen (bytes_eq w (codes "op")) (with_op (op_of a) (register_of b) (register_of c)) None i h) [
    | inl t ↦ (
        let o = with_op_is (op_of a) (register_of b) (register_of c) i t.1 in
        let m = both_are (Bin o.0) (register_of b) (register_of c) i o.2 in
        read_as (w ∷ a ∷ b ∷ c ∷ []) (Bin o.0 m.0 m.1) i m.4
        (ap (λ x. x ∷ a ∷ b ∷ c ∷ []) (same_word w (codes "op") t.0) ∙ ap (λ x. codes "op" ∷ x ∷ b ∷ c ∷ []) (op_is a o.0 o.1)
        ∙ ap (λ x. codes "op" ∷ sign o.0 ∷ x ∷ c ∷ []) (register_is b m.0 m.2) ∙ ap (λ x. codes "op" ∷ sign o.0 ∷ register m.0 ∷ x ∷ []) (register_is c m.1 m.3))
        (record { registers = both_true (nat_lt m.0 8) (nat_lt m.1 8) (register_ranges b m.0 m.2) (register_ranges c m.1 m.3); variable = refl; lock = refl; output = refl; words = tt }))
    | inr h ↦ absurd cc
  ]

pub instr_is : (p : Parts) (fs : List (List ℕ)) (i : Instr) → instr_of p fs ≡ Some i → IsReadAs p.version p.vars p.locks fs i
instr_is p [] i h = absurd cc
instr_is p (w ∷ []) i h = none_is p.version p.vars p.locks w i h
instr_is p (w ∷ a ∷ []) i h = one_is p.version p.vars p.locks w a i h
instr_is p (w ∷ a ∷ b ∷ []) i h = two_are p.version p.vars p.locks w a b i h
instr_is p (w ∷ a ∷ b ∷ c ∷ []) i h = three_are p.version p.vars p.locks w a b c i h
instr_is p (w ∷ a ∷ b ∷ c ∷ d ∷ fs) i h = absurd cc
