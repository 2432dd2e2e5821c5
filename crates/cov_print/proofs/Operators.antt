-- The canonical tokens of an expression spell it: at each level of operators.
use Rattle.std.proofs.Common.{◌≡◌, ℕ, ◌≤◌, List, [], ◌∷◌, ◌++◌, Bool, true, false, Some, None, ◌⊎◌, if◌then◌else◌, refl, sym, ap, subst, ◌∙◌, append-nil, inl, inr, true≢false}
use Rattle.cov_expr.specs.Term.{Term, const, var, neg, bin}
use Rattle.cov_expr.specs.declared.expr.Op.{Op}
use Rattle.cov_expr.specs.declared.expr.Op.TheVariants as ops
use Rattle.cov_expr.specs.declared.expr.TheConstants.{HOLE}
use Rattle.cov_expr.specs.declared.kind.Kind.TheVariants as k
use Rattle.cov_grammar.specs.declared.token.Token.{Token}
use Rattle.cov_grammar.specs.PlacedTrees.{Rule}
use Rattle.cov_grammar.specs.PlacedTrees as t
use Rattle.cov_grammar.specs.Shapes.{Shape, rule}
use Rattle.cov_grammar.specs.Grammar.{signs, chain, atom, template_atom, unary, prod, sum, band, bxor, bor, cmp, both, either, body}
use Rattle.cov_grammar.proofs.Senses.{OfShape, close}
use Rattle.cov_print.proofs.Written.{sign_of, expr, plain, name, hole}
use Rattle.cov_print.proofs.Keeps.{IsAt, Are, are_split}

-- an expression, or a template, which may have holes
abbrev pub atom_of : (holes : Bool) → Shape Term
atom_of true = template_atom
atom_of false = atom

abbrev pub rule_of : (holes : Bool) → Shape Term
rule_of true = rule t.template
rule_of false = rule t.expr

-- Levels -------------------------------------------------------------------------------------------------------

-- an operand alone
chain_one : (o : Shape Op) (a : Shape Term) (e : Term) (ts : List Token) → OfShape a e ts → OfShape (chain o a) e ts
chain_one o a e ts h = ((e, []), refl, (ts, [], h, refl, sym (append-nil ts)))

-- two operands
chain_two : (o : Shape Op) (a : Shape Term) (op : Op) (x y : Term) (us vs : List Token) (s : Token) → OfShape a x us → OfShape o op (s ∷ []) → OfShape a y vs → OfShape (chain o a) (bin op x y) (us ++ s ∷ vs)
chain_two o a op x y us vs s h g i =
    ((x, (op, y) ∷ []), refl, (us, s ∷ vs, h, (s ∷ vs, [], (s ∷ [], vs, g, i, refl), refl, ap (λ ws. s ∷ ws) (sym (append-nil vs))), refl))

module _ (a : Shape Term) where
  as_prod : (e : Term) (ts : List Token) → OfShape (unary a) e ts → OfShape (prod a) e ts
  unfolding prod
  as_prod e ts h = chain_one (signs (k.Star, ops.Mul) []) (unary a) e ts h

  prod_as_sum : (e : Term) (ts : List Token) → OfShape (prod a) e ts → OfShape (sum a) e ts
  unfolding sum
  prod_as_sum e ts h = chain_one (signs (k.Plus, ops.Add) ((k.Minus, ops.Sub) ∷ [])) (prod a) e ts h

  sum_as_band : (e : Term) (ts : List Token) → OfShape (sum a) e ts → OfShape (band a) e ts
  unfolding band
  sum_as_band e ts h = chain_one (signs (k.Ampersand, ops.And) []) (sum a) e ts h

  band_as_bxor : (e : Term) (ts : List Token) → OfShape (band a) e ts → OfShape (bxor a) e ts
  unfolding bxor
  band_as_bxor e ts h = chain_one (signs (k.Caret, ops.Xor) []) (band a) e ts h

  bxor_as_bor : (e : Term) (ts : List Token) → OfShape (bxor a) e ts → OfShape (bor a) e ts
  unfolding bor
  bxor_as_bor e ts h = chain_one (signs (k.Bar, ops.Or) []) (bxor a) e ts h

  bor_as_cmp : (e : Term) (ts : List Token) → OfShape (bor a) e ts → OfShape (cmp a) e ts
  unfolding cmp
  bor_as_cmp e ts h = ((e, None), refl, (ts, [], h, refl, sym (append-nil ts)))

  cmp_as_both : (e : Term) (ts : List Token) → OfShape (cmp a) e ts → OfShape (both a) e ts
  unfolding both
  cmp_as_both e ts h = chain_one (signs (k.Both, ops.Both) []) (cmp a) e ts h

  both_as_either : (e : Term) (ts : List Token) → OfShape (both a) e ts → OfShape (either a) e ts
  unfolding either
  both_as_either e ts h = chain_one (signs (k.Either, ops.Either) []) (both a) e ts h

  as_sum : (e : Term) (ts : List Token) → OfShape (unary a) e ts → OfShape (sum a) e ts
  as_sum e ts h = prod_as_sum e ts (as_prod e ts h)

  as_bor : (e : Term) (ts : List Token) → OfShape (unary a) e ts → OfShape (bor a) e ts
  as_bor e ts h = bxor_as_bor e ts (band_as_bxor e ts (sum_as_band e ts (as_sum e ts h)))

  cmp_as_either : (e : Term) (ts : List Token) → OfShape (cmp a) e ts → OfShape (either a) e ts
  cmp_as_either e ts h = both_as_either e ts (cmp_as_both e ts h)

  bor_as_either : (e : Term) (ts : List Token) → OfShape (bor a) e ts → OfShape (either a) e ts
  bor_as_either e ts h = cmp_as_either e ts (bor_as_cmp e ts h)

  pub as_either : (e : Term) (ts : List Token) → OfShape (unary a) e ts → OfShape (either a) e ts
  as_either e ts h = bor_as_either e ts (as_bor e ts h)

  compare : (op : Op) (x y : Term) (us vs : List Token) (s : Token) → OfShape (bor a) x us → OfShape (signs (k.Equal, ops.Eq) ((k.Differs, ops.Ne) ∷ (k.Less, ops.Lt) ∷ (k.AtMost, ops.Le) ∷ [])) op (s ∷ []) → OfShape (bor a) y vs
      → OfShape (cmp a) (bin op x y) (us ++ s ∷ vs)
  unfolding cmp
  compare op x y us vs s h g i = ((x, Some (op, y)), refl, (us, s ∷ vs, h, (s ∷ [], vs, g, i, refl), refl))

  -- operands around an operator
  pub around : (op : Op) (x y : Term) (us vs : List Token) (s : Token) → s.kind ≡ sign_of op → OfShape (unary a) x us → OfShape (unary a) y vs → OfShape (either a) (bin op x y) (us ++ s ∷ vs)
  unfolding prod sum band bxor bor both either
  around ops.Mul x y us vs s e h i =
      bor_as_either _ _ (bxor_as_bor _ _ (band_as_bxor _ _ (sum_as_band _ _ (prod_as_sum _ _ (chain_two (signs (k.Star, ops.Mul) []) (unary a) ops.Mul x y us vs s h (s, refl, (e, refl)) i)))))
  around ops.Add x y us vs s e h i =
      bor_as_either _ _ (bxor_as_bor _ _ (band_as_bxor _ _ (sum_as_band _ _ (chain_two (signs (k.Plus, ops.Add) ((k.Minus, ops.Sub) ∷ [])) (prod a) ops.Add x y us vs s (as_prod x us h) (inl (s, refl, (e, refl))) (as_prod y vs i)))))
  around ops.Sub x y us vs s e h i =
      bor_as_either _ _ (bxor_as_bor _ _ (band_as_bxor _ _ (sum_as_band _ _ (chain_two (signs (k.Plus, ops.Add) ((k.Minus, ops.Sub) ∷ [])) (prod a) ops.Sub x y us vs s (as_prod x us h) (inr (s, refl, (e, refl))) (as_prod y vs i)))))
  around ops.And x y us vs s e h i =
      bor_as_either _ _ (bxor_as_bor _ _ (band_as_bxor _ _ (chain_two (signs (k.Ampersand, ops.And) []) (sum a) ops.And x y us vs s (as_sum x us h) (s, refl, (e, refl)) (as_sum y vs i))))
  around ops.Xor x y us vs s e h i =
      bor_as_either _ _ (bxor_as_bor _ _ (chain_two (signs (k.Caret, ops.Xor) []) (band a) ops.Xor x y us vs s (sum_as_band x us (as_sum x us h)) (s, refl, (e, refl)) (sum_as_band y vs (as_sum y vs i))))
  around ops.Or x y us vs s e h i =
      bor_as_either _ _ (chain_two (signs (k.Bar, ops.Or) []) (bxor a) ops.Or x y us vs s (band_as_bxor x us (sum_as_band x us (as_sum x us h))) (s, refl, (e, refl)) (band_as_bxor y vs (sum_as_band y vs (as_sum y vs i))))
  around ops.Eq x y us vs s e h i = cmp_as_either _ _ (compare ops.Eq x y us vs s (as_bor x us h) (inl (s, refl, (e, refl))) (as_bor y vs i))
  around ops.Ne x y us vs s e h i = cmp_as_either _ _ (compare ops.Ne x y us vs s (as_bor x us h) (inr (inl (s, refl, (e, refl)))) (as_bor y vs i))
  around ops.Lt x y us vs s e h i = cmp_as_either _ _ (compare ops.Lt x y us vs s (as_bor x us h) (inr (inr (inl (s, refl, (e, refl))))) (as_bor y vs i))
  around ops.Le x y us vs s e h i = cmp_as_either _ _ (compare ops.Le x y us vs s (as_bor x us h) (inr (inr (inr (s, refl, (e, refl))))) (as_bor y vs i))
  around ops.Both x y us vs s e h i =
      both_as_either _ _ (chain_two (signs (k.Both, ops.Both) []) (cmp a) ops.Both x y us vs s (bor_as_cmp x us (as_bor x us h)) (s, refl, (e, refl)) (bor_as_cmp y vs (as_bor y vs i)))
  around ops.Either x y us vs s e h i =
      chain_two (signs (k.Either, ops.Either) []) (both a) ops.Either x y us vs s (cmp_as_both x us (bor_as_cmp x us (as_bor x us h))) (s, refl, (e, refl)) (cmp_as_both y vs (bor_as_cmp y vs (as_bor y vs i)))

  -- a mark more
  pub marked : (m : Token) → m.kind ≡ k.Bang → (e : Term) (us : List Token) → OfShape (unary a) e us → OfShape (unary a) (neg e) (m ∷ us)
  unfolding unary
  marked m q e us h =
      ((m ∷ h.0.0, h.0.1), ap neg h.1, (m ∷ h.2.0, h.2.1, (m ∷ [], h.2.0, (q, refl), h.2.2, refl), h.2.3, ap (λ ws. m ∷ ws) h.2.4))

  pub unmarked : (e : Term) (us : List Token) → OfShape a e us → OfShape (unary a) e us
  unfolding unary
  unmarked e us h = (([], e), refl, ([], us, refl, h, refl))

-- Atoms --------------------------------------------------------------------------------------------------------

number_is : (holes : Bool) (n : ℕ) (s : Token) → s.kind ≡ k.Number → s.value ≡ n → OfShape (atom_of holes) (const n) (s ∷ [])
unfolding atom template_atom
number_is true n s e f = inr (inl (n, refl, (s, f, (e, refl))))
number_is false n s e f = inl (n, refl, (s, f, (e, refl)))

name_is : (holes : Bool) (x : ℕ) (s : Token) → s.kind ≡ k.Name → s.value ≡ x → OfShape (atom_of holes) (var x) (s ∷ [])
unfolding atom template_atom
name_is true x s e f = inr (inr (inl (x, refl, (s, f, (e, refl)))))
name_is false x s e f = inr (inl (x, refl, (s, f, (e, refl))))

hole_is : (x : ℕ) (s : Token) → s.kind ≡ k.Hole → x ≡ HOLE → OfShape template_atom (var x) (s ∷ [])
unfolding template_atom
hole_is x s e f = inl (s, ap var (sym f), (e, refl))

-- in parentheses
enclosed_is : (holes : Bool) (e : Term) (o c : Token) (us : List Token) → o.kind ≡ k.OpenParen → c.kind ≡ k.CloseParen → OfShape (either (atom_of holes)) e us → OfShape (atom_of holes) e (o ∷ (us ++ c ∷ []))
unfolding atom template_atom body
enclosed_is true e o c us p q h =
    inr (inr (inr ((o, e), refl, (o ∷ [], us ++ c ∷ [], (p, refl), ((e, c), refl, (us, c ∷ [], close t.template e us h, (q, refl), refl)), refl))))
enclosed_is false e o c us p q h =
    inr (inr ((o, e), refl, (o ∷ [], us ++ c ∷ [], (p, refl), ((e, c), refl, (us, c ∷ [], close t.expr e us h, (q, refl), refl)), refl)))

-- Expressions --------------------------------------------------------------------------------------------------

module _ (known : ℕ → Bool) where
  -- a variable has a name, or may be the hole
  abbrev pub IsAtom : (holes : Bool) → ℕ → Type 0
  IsAtom true x = (known x ≡ true) ⊎ (x ≡ HOLE)
  IsAtom false x = known x ≡ true

  -- Numbers are words, and variables have names; a template may have holes.
  abbrev pub IsFine : (holes : Bool) → Term → Type 0
  IsFine holes (const n) = n ≤ 4294967295
  IsFine holes (var x) = IsAtom holes x
  IsFine holes (neg e) = IsFine holes e
  IsFine holes (bin op a b) = IsFine holes a × IsFine holes b

  variable_is : (holes : Bool) (x : ℕ) (b : Bool) → known x ≡ b → IsAtom holes x → (s : Token) → IsAt (if b then name x else hole x) s → OfShape (atom_of holes) (var x) (s ∷ [])
  variable_is holes x true e h s i = name_is holes x s i.0 i.1
  variable_is true x false e (inl h) s i = absurd (true≢false (sym h ∙ e))
  variable_is true x false e (inr h) s i = hole_is x s i h
  variable_is false x false e h s i = absurd (true≢false (sym h ∙ e))

  operand_is : (holes : Bool) (e : Term) → IsFine holes e → (ts : List Token) → Are (expr known true e) ts → OfShape (unary (atom_of holes)) e ts
  operand_is holes (const n) fine ts h =
      subst (OfShape (unary (atom_of holes)) (const n)) (sym (h.4 ∙ ap (λ us. h.0 ∷ us) h.3)) (unmarked (atom_of holes) (const n) (h.0 ∷ []) (number_is holes n h.0 h.2.0 h.2.1))
  operand_is holes (var x) fine ts h =
      subst (OfShape (unary (atom_of holes)) (var x)) (sym (h.4 ∙ ap (λ us. h.0 ∷ us) h.3))
      (unmarked (atom_of holes) (var x) (h.0 ∷ []) (variable_is holes x (known x) refl fine h.0 h.2))
  operand_is holes (neg e) fine ts h =
      subst (OfShape (unary (atom_of holes)) (neg e)) (sym h.4) (marked (atom_of holes) h.0 h.2 e h.1 (operand_is holes e fine h.1 h.3))
  operand_is holes (bin op x y) fine ts h =
      let r = are_split (expr known true x ++ plain (sign_of op) ∷ expr known true y) (plain k.CloseParen ∷ []) h.1 h.3 in
      let c = r.3 in
      let m = are_split (expr known true x) (plain (sign_of op) ∷ expr known true y) r.0 r.2 in
      let o = m.3 in
      subst (OfShape (unary (atom_of holes)) (bin op x y)) (sym (h.4 ∙ ap (λ us. h.0 ∷ us) (r.4 ∙ ap (λ us. r.0 ++ us) (c.4 ∙ ap (λ us. c.0 ∷ us) c.3))))
      (unmarked (atom_of holes) (bin op x y) (h.0 ∷ (r.0 ++ c.0 ∷ []))
      (enclosed_is holes (bin op x y) h.0 c.0 r.0 h.2 c.2
      (subst (OfShape (either (atom_of holes)) (bin op x y)) (sym (m.4 ∙ ap (λ us. m.0 ++ us) o.4))
      (around (atom_of holes) op x y m.0 o.1 o.0 o.2 (operand_is holes x fine.0 m.0 m.2) (operand_is holes y fine.1 o.1 o.3)))))

  whole_is : (holes : Bool) (e : Term) → IsFine holes e → (ts : List Token) → Are (expr known false e) ts → OfShape (either (atom_of holes)) e ts
  whole_is holes (const n) fine ts h = as_either (atom_of holes) (const n) ts (operand_is holes (const n) fine ts h)
  whole_is holes (var x) fine ts h = as_either (atom_of holes) (var x) ts (operand_is holes (var x) fine ts h)
  whole_is holes (neg e) fine ts h = as_either (atom_of holes) (neg e) ts (operand_is holes (neg e) fine ts h)
  whole_is holes (bin op x y) fine ts h =
      let m = are_split (expr known true x) (plain (sign_of op) ∷ expr known true y) ts h in
      let o = m.3 in
      subst (OfShape (either (atom_of holes)) (bin op x y)) (sym (m.4 ∙ ap (λ us. m.0 ++ us) o.4))
      (around (atom_of holes) op x y m.0 o.1 o.0 o.2 (operand_is holes x fine.0 m.0 m.2) (operand_is holes y fine.1 o.1 o.3))

  -- the canonical tokens of an expression spell it, at any places
  pub expr_is : (e : Term) → IsFine false e → (ts : List Token) → Are (expr known false e) ts → OfShape (rule t.expr) e ts
  unfolding body
  expr_is e fine ts h = close t.expr e ts (whole_is false e fine ts h)

  pub template_is : (e : Term) → IsFine true e → (ts : List Token) → Are (expr known false e) ts → OfShape (rule t.template) e ts
  unfolding body
  template_is e fine ts h = close t.template e ts (whole_is true e fine ts h)
