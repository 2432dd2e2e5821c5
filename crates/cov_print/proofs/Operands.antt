-- What an expression's tokens say of its tree: its names and holes are theirs, in order, and its numbers are words.
use Rattle.std.proofs.Common.{◌≡◌, ℕ, zero, suc, ◌≤◌, List, [], ◌∷◌, ◌++◌, length, Bool, true, false, Option, Some, None, refl, sym, ap, subst, ◌∙◌, append_assoc, append-nil, inl, inr, if◌then◌else◌}
use Rattle.cov_expr.specs.Term.{Term, const, var, neg, bin}
use Rattle.cov_expr.specs.Trees.{occurrences}
use Rattle.cov_expr.specs.declared.expr.Op.{Op}
use Rattle.cov_expr.specs.declared.expr.Op.TheVariants as ops
use Rattle.cov_expr.specs.declared.expr.TheConstants.{HOLE}
use Rattle.cov_expr.specs.declared.kind.Kind.{Kind}
use Rattle.cov_expr.specs.declared.kind.Kind.TheVariants as k
use Rattle.cov_grammar.specs.declared.token.Token.{Token}
use Rattle.cov_grammar.specs.PlacedTrees as t
use Rattle.cov_grammar.specs.Shapes.{Shape, token, rule, seq, alt, opt, act, Each, Sense, Spells}
use Rattle.cov_grammar.specs.Grammar.{sign, signs, grouped, compared, negated, chain, name, number, atom, template_atom, unary, prod, sum, band, bxor, bor, cmp, both, either, body, bracketed}
use Rattle.cov_grammar.specs.Spells.{Within}
use Rattle.cov_print.proofs.Written as w
use Rattle.cov_print.proofs.Written.{Word, plain, sign_of, expr}
use Rattle.cov_print.proofs.Keeps.{Quiet, leaf, leaves, leaves_append, leaves_of, leaves_of_append, AreGood, good_left, good_right, AllFit, fit_append, HaveNoOutput, silent_append, Keeps}
use Rattle.cov_print.proofs.Operators.{IsAtom, IsFine, expr_is, template_is}

-- The operators of a level have no names.
pub record AreSilent (S : Sense) (o : Shape Op) : Type 0 where
  pub silent : (op : Op) (ts : List Token) → Spells S o op ts → leaves ts ≡ []

sign_silent : (S : Sense) (j : Kind) (v : Op) → Quiet j → AreSilent S (sign j v)
sign_silent S j v quiet = record { silent = λ op ts s. ap leaves s.2.1 ∙ ap (λ i. leaf i s.0.value ++ []) s.2.0 ∙ ap (λ l. l ++ []) (quiet s.0.value) }

or_silent : (S : Sense) (a b : Shape Op) → AreSilent S a → AreSilent S b → AreSilent S (alt a b)
or_silent S a b h g = record { silent = by }
  where
    by : (op : Op) (ts : List Token) → Spells S (alt a b) op ts → leaves ts ≡ []
    by op ts (inl s) = h.silent op ts s
    by op ts (inr s) = g.silent op ts s

module _ (known : ℕ → Bool) (holes : Bool) where
  pub record Covered (e : Term) (ts : List Token) : Type 0 where
    pub same : leaves ts ≡ occurrences e
    pub fine : AreGood known ts → IsFine known holes e

  pub record Covers (S : Sense) (a : Shape Term) : Type 0 where
    pub covered : (e : Term) (ts : List Token) → Spells S a e ts → Covered e ts

  binary : (op : Op) (x y : Term) (us os vs ts : List Token) → ts ≡ us ++ (os ++ vs) → leaves os ≡ [] → Covered x us → Covered y vs → Covered (bin op x y) ts
  binary op x y us os vs ts e silent h g = record {
    same = ap leaves e ∙ leaves_append us (os ++ vs) ∙ ap (λ l. leaves us ++ l) (leaves_append os vs ∙ ap (λ l. l ++ leaves vs) silent) ∙ ap (λ l. l ++ leaves vs) h.same ∙ ap (λ l. occurrences x ++ l) g.same;
    fine = λ i.
        let j = subst (AreGood known) e i in
        (h.fine (good_left known us (os ++ vs) j), g.fine (good_right known os vs (good_right known us (os ++ vs) j)));
  }

  moved : (e f : Term) (ts us : List Token) → e ≡ f → ts ≡ us → Covered e us → Covered f ts
  moved e f ts us p q h = subst (λ d. Covered d ts) p (subst (Covered e) (sym q) h)

  module _ (S : Sense) where
    onto : (o : Shape Op) (a : Shape Term) → AreSilent S o → Covers S a → (x : Term) (us : List Token) → Covered x us → (xs : List (Op × Term)) (vs ts : List Token) → ts ≡ us ++ vs → Each (Spells S (seq o a)) xs vs
        → Covered (grouped x xs) ts
    onto o a silent h x us g [] vs ts e s = moved x x ts us refl (e ∙ ap (λ l. us ++ l) s ∙ append-nil us) g
    onto o a silent h x us g (p ∷ ps) vs ts e s =
        let m = s.2 in
        onto o a silent h (bin p.0 x p.1) (us ++ s.0) (binary p.0 x p.1 us m.0 m.1 (us ++ s.0) (ap (λ l. us ++ l) m.4) (silent.silent p.0 m.0 m.2) g (h.covered p.1 m.1 m.3)) ps s.1 ts
        (e ∙ ap (λ l. us ++ l) s.4 ∙ sym (append_assoc us s.0 s.1)) s.3

    chain_covers : (o : Shape Op) (a : Shape Term) → AreSilent S o → Covers S a → Covers S (chain o a)
    chain_covers o a silent h = record {
      covered = λ e ts s.
          let m = s.2 in
          moved (grouped s.0.0 s.0.1) e ts ts s.1 refl (onto o a silent h s.0.0 m.0 (h.covered s.0.0 m.0 m.2) s.0.1 m.1 ts m.4 m.3);
    }

    module _ (a : Shape Term) (h : Covers S a) where
      marks : (n : List Token) (us : List Token) → Each (Spells S (token k.Bang)) n us → leaves us ≡ []
      marks [] us s = ap leaves s
      marks (m ∷ ms) us s =
          ap leaves s.4 ∙ leaves_append s.0 s.1 ∙ ap (λ l. l ++ leaves s.1) (ap leaves s.2.1 ∙ ap (λ i. leaf i m.value ++ []) s.2.0) ∙ marks ms s.1 s.3

      mark_good : (n : ℕ) (e : Term) (ts : List Token) → Covered e ts → Covered (negated n e) ts
      mark_good zero e ts g = g
      mark_good (suc n) e ts g = let i = mark_good n e ts g in record { same = i.same; fine = i.fine }

      behind : (us vs ts : List Token) (e : Term) → ts ≡ us ++ vs → leaves us ≡ [] → Covered e vs → Covered e ts
      behind us vs ts e p silent g = record {
        same = ap leaves p ∙ leaves_append us vs ∙ ap (λ l. l ++ leaves vs) silent ∙ g.same;
        fine = λ i. g.fine (good_right known us vs (subst (AreGood known) p i));
      }

      unary_covers : Covers S (unary a)
      unfolding unary
      unary_covers = record {
        covered = λ e ts s.
            let m = s.2 in
            moved (negated (length s.0.0) s.0.1) e ts ts s.1 refl (mark_good (length s.0.0) s.0.1 ts (behind m.0 m.1 ts s.0.1 m.4 (marks s.0.0 m.0 m.2) (h.covered s.0.1 m.1 m.3)));
      }

      prod_covers : Covers S (prod a)
      unfolding prod
      prod_covers = chain_covers (signs (k.Star, ops.Mul) []) (unary a) (sign_silent S k.Star ops.Mul (λ v. refl)) unary_covers

      sum_covers : Covers S (sum a)
      unfolding sum
      sum_covers =
          chain_covers (signs (k.Plus, ops.Add) ((k.Minus, ops.Sub) ∷ [])) (prod a)
          (or_silent S (sign k.Plus ops.Add) (sign k.Minus ops.Sub) (sign_silent S k.Plus ops.Add (λ v. refl)) (sign_silent S k.Minus ops.Sub (λ v. refl))) prod_covers

      band_covers : Covers S (band a)
      unfolding band
      band_covers = chain_covers (signs (k.Ampersand, ops.And) []) (sum a) (sign_silent S k.Ampersand ops.And (λ v. refl)) sum_covers

      bxor_covers : Covers S (bxor a)
      unfolding bxor
      bxor_covers = chain_covers (signs (k.Caret, ops.Xor) []) (band a) (sign_silent S k.Caret ops.Xor (λ v. refl)) band_covers

      bor_covers : Covers S (bor a)
      unfolding bor
      bor_covers = chain_covers (signs (k.Bar, ops.Or) []) (bxor a) (sign_silent S k.Bar ops.Or (λ v. refl)) bxor_covers

      abbrev comparisons : Shape Op
      comparisons = signs (k.Equal, ops.Eq) ((k.Differs, ops.Ne) ∷ (k.Less, ops.Lt) ∷ (k.AtMost, ops.Le) ∷ [])

      compare_silent : AreSilent S comparisons
      compare_silent =
          or_silent S (sign k.Equal ops.Eq) (signs (k.Differs, ops.Ne) ((k.Less, ops.Lt) ∷ (k.AtMost, ops.Le) ∷ [])) (sign_silent S k.Equal ops.Eq (λ v. refl))
          (or_silent S (sign k.Differs ops.Ne) (signs (k.Less, ops.Lt) ((k.AtMost, ops.Le) ∷ [])) (sign_silent S k.Differs ops.Ne (λ v. refl))
          (or_silent S (sign k.Less ops.Lt) (sign k.AtMost ops.Le) (sign_silent S k.Less ops.Lt (λ v. refl)) (sign_silent S k.AtMost ops.Le (λ v. refl))))

      compared_covers : (x : Term) (o : Option (Op × Term)) (us vs ts : List Token) → ts ≡ us ++ vs → Covered x us → Spells S (opt (seq comparisons (bor a))) o vs → Covered (compared x o) ts
      compared_covers x None us vs ts e g s = moved x x ts us refl (e ∙ ap (λ l. us ++ l) s ∙ append-nil us) g
      compared_covers x (Some p) us vs ts e g s =
          binary p.0 x p.1 us s.0 s.1 ts (e ∙ ap (λ l. us ++ l) s.4) (compare_silent.silent p.0 s.0 s.2) g (bor_covers.covered p.1 s.1 s.3)

      cmp_covers : Covers S (cmp a)
      unfolding cmp
      cmp_covers = record {
        covered = λ e ts s.
            let m = s.2 in
            moved (compared s.0.0 s.0.1) e ts ts s.1 refl (compared_covers s.0.0 s.0.1 m.0 m.1 ts m.4 (bor_covers.covered s.0.0 m.0 m.2) m.3);
      }

      both_covers : Covers S (both a)
      unfolding both
      both_covers = chain_covers (signs (k.Both, ops.Both) []) (cmp a) (sign_silent S k.Both ops.Both (λ v. refl)) cmp_covers

      either_covers : Covers S (either a)
      unfolding either
      either_covers = chain_covers (signs (k.Either, ops.Either) []) (both a) (sign_silent S k.Either ops.Either (λ v. refl)) both_covers

    -- atoms
    alt_covers : (a b : Shape Term) → Covers S a → Covers S b → Covers S (alt a b)
    alt_covers a b h g = record { covered = by }
      where
        by : (e : Term) (ts : List Token) → Spells S (alt a b) e ts → Covered e ts
        by e ts (inl s) = h.covered e ts s
        by e ts (inr s) = g.covered e ts s

    number_covers : Covers S (act const number)
    number_covers = record {
      covered = λ e ts s.
          let m = s.2 in
          moved (const s.0) e ts ts s.1 refl
          (record {
            same = ap leaves m.2.1 ∙ ap (λ i. leaf i m.0.value ++ []) m.2.0;
            fine = λ i. subst (λ n. n ≤ 4294967295) m.1 ((subst (AreGood known) m.2.1 i).0.small m.2.0);
          });
    }

    known_atom : (h : Bool) (x : ℕ) → known x ≡ true → IsAtom known h x
    known_atom true x e = inl e
    known_atom false x e = e

    name_covers : Covers S (act var name)
    name_covers = record {
      covered = λ e ts s.
          let m = s.2 in
          moved (var s.0) e ts ts s.1 refl
          (record {
            same = ap leaves m.2.1 ∙ ap (λ i. leaf i m.0.value ++ []) m.2.0 ∙ ap (λ n. n ∷ []) m.1;
            fine = λ i. known_atom holes s.0 (subst (λ n. known n ≡ true) m.1 ((subst (AreGood known) m.2.1 i).0.named m.2.0));
          });
    }

    enclosed_covers : (a : Shape Term) → Covers S a → Covers S (Rattle.cov_grammar.specs.Grammar.◌▸◌ k.OpenParen (Rattle.cov_grammar.specs.Grammar.◌◂◌ a k.CloseParen))
    enclosed_covers a h = record {
      covered = λ e ts s.
          let m = s.2 in
          let n = m.3 in
          let r = n.2 in
          let o : m.0 ≡ s.0.0 ∷ [] = m.2.1 in
          let c : r.1 ≡ n.0.1 ∷ [] = r.3.1 in
          let g = h.covered n.0.0 r.0 r.2 in
          moved n.0.0 e ts ts (n.1 ∙ s.1) refl
          (behind a h m.0 m.1 ts n.0.0 m.4 (ap leaves o ∙ ap (λ i. leaf i s.0.0.value ++ []) m.2.0)
          (record {
            same = ap leaves r.4 ∙ leaves_append r.0 r.1 ∙ ap (λ l. leaves r.0 ++ l) (ap leaves c ∙ ap (λ i. leaf i n.0.1.value ++ []) r.3.0) ∙ append-nil (leaves r.0) ∙ g.same;
            fine = λ i. g.fine (good_left known r.0 r.1 (subst (AreGood known) r.4 i));
          }));
    }

    hole_covers : holes ≡ true → Covers S (sign k.Hole (var HOLE))
    hole_covers e = record {
      covered = λ v ts s.
          moved (var HOLE) v ts ts s.1 refl
          (record {
            same = ap leaves s.2.1 ∙ ap (λ i. leaf i s.0.value ++ []) s.2.0;
            fine = λ i. subst (λ h. IsAtom known h HOLE) (sym e) (inr refl);
          });
    }

-- Rules --------------------------------------------------------------------------------------------------------

module _ (known : ℕ → Bool) where
  expr_covers : (d : ℕ) (e : Term) (ts : List Token) → Within d t.expr e ts → Covered known false e ts
  unfolding atom body
  expr_covers zero e ts h = absurd h
  expr_covers (suc d) e ts h =
      let inside : Covers known false (Within d) (rule t.expr) = record { covered = expr_covers d } in
      (either_covers known false (Within d) atom
      (alt_covers known false (Within d) (act const number) (alt (act var name) (bracketed t.expr)) (number_covers known false (Within d))
      (alt_covers known false (Within d) (act var name) (bracketed t.expr) (name_covers known false (Within d)) (enclosed_covers known false (Within d) (rule t.expr) inside)))).covered e ts h

  template_covers : (d : ℕ) (e : Term) (ts : List Token) → Within d t.template e ts → Covered known true e ts
  unfolding template_atom body
  template_covers zero e ts h = absurd h
  template_covers (suc d) e ts h =
      let inside : Covers known true (Within d) (rule t.template) = record { covered = template_covers d } in
      (either_covers known true (Within d) template_atom
      (alt_covers known true (Within d) (sign k.Hole (var HOLE)) (alt (act const number) (alt (act var name) (bracketed t.template))) (hole_covers known true (Within d) refl)
      (alt_covers known true (Within d) (act const number) (alt (act var name) (bracketed t.template)) (number_covers known true (Within d))
      (alt_covers known true (Within d) (act var name) (bracketed t.template) (name_covers known true (Within d)) (enclosed_covers known true (Within d) (rule t.template) inside))))).covered e ts h

  of_two : (op : Op) (x y : Term) → leaves_of (expr known true x) ≡ occurrences x → leaves_of (expr known true y) ≡ occurrences y
      → leaves_of (expr known true x ++ plain (sign_of op) ∷ expr known true y) ≡ occurrences (bin op x y)
  of_two op x y h g =
      leaves_of_append (expr known true x) (plain (sign_of op) ∷ expr known true y)
      ∙ ap (λ l. l ++ leaves_of (expr known true y)) h ∙ ap (λ l. occurrences x ++ l) g

  of_variable : (x : ℕ) (b : Bool) → leaves_of ((if b then w.name x else w.hole x) ∷ []) ≡ x ∷ []
  of_variable x true = refl
  of_variable x false = refl

  -- the words of an expression have its names and holes
  pub leaves_of_expr : (operand : Bool) (e : Term) → leaves_of (expr known operand e) ≡ occurrences e
  leaves_of_expr operand (const n) = refl
  leaves_of_expr operand (var x) = of_variable x (known x)
  leaves_of_expr operand (neg e) = leaves_of_expr true e
  leaves_of_expr true (bin op x y) =
      leaves_of_append (expr known true x ++ plain (sign_of op) ∷ expr known true y) (plain k.CloseParen ∷ [])
      ∙ append-nil (leaves_of (expr known true x ++ plain (sign_of op) ∷ expr known true y)) ∙ of_two op x y (leaves_of_expr true x) (leaves_of_expr true y)
  leaves_of_expr false (bin op x y) = of_two op x y (leaves_of_expr true x) (leaves_of_expr true y)

  variable_fits : (x : ℕ) (b : Bool) → known x ≡ b → AllFit known ((if b then w.name x else w.hole x) ∷ [])
  variable_fits x true e = (e, tt)
  variable_fits x false e = (e, tt)

  pub expr_fits : (holes operand : Bool) (e : Term) → IsFine known holes e → AllFit known (expr known operand e)
  expr_fits holes operand (const n) h = (h, tt)
  expr_fits holes operand (var x) h = variable_fits x (known x) refl
  expr_fits holes operand (neg e) h = (tt, expr_fits holes true e h)
  expr_fits holes true (bin op x y) h = (
    tt,
    fit_append known (expr known true x ++ plain (sign_of op) ∷ expr known true y) (plain k.CloseParen ∷ [])
        (fit_append known (expr known true x) (plain (sign_of op) ∷ expr known true y) (expr_fits holes true x h.0) (tt, expr_fits holes true y h.1)) (tt, tt),
  )
  expr_fits holes false (bin op x y) h =
      fit_append known (expr known true x) (plain (sign_of op) ∷ expr known true y) (expr_fits holes true x h.0) (tt, expr_fits holes true y h.1)

  sign_no_output : (op : Op) → sign_of op ≡ k.Output → ⊥
  sign_no_output ops.Add e = cc
  sign_no_output ops.Sub e = cc
  sign_no_output ops.Mul e = cc
  sign_no_output ops.And e = cc
  sign_no_output ops.Or e = cc
  sign_no_output ops.Xor e = cc
  sign_no_output ops.Eq e = cc
  sign_no_output ops.Ne e = cc
  sign_no_output ops.Lt e = cc
  sign_no_output ops.Le e = cc
  sign_no_output ops.Both e = cc
  sign_no_output ops.Either e = cc

  variable_silent : (x : ℕ) (b : Bool) → HaveNoOutput ((if b then w.name x else w.hole x) ∷ [])
  variable_silent x true = (tt, tt)
  variable_silent x false = (tt, tt)

  -- an expression puts nothing out
  expr_silent : (operand : Bool) (e : Term) → HaveNoOutput (expr known operand e)
  expr_silent operand (const n) = (tt, tt)
  expr_silent operand (var x) = variable_silent x (known x)
  expr_silent operand (neg e) = ((λ o. cc), expr_silent true e)
  expr_silent true (bin op x y) = (
    (λ o. cc),
    silent_append (expr known true x ++ plain (sign_of op) ∷ expr known true y) (plain k.CloseParen ∷ [])
        (silent_append (expr known true x) (plain (sign_of op) ∷ expr known true y) (expr_silent true x) (sign_no_output op, expr_silent true y)) ((λ o. cc), tt),
  )
  expr_silent false (bin op x y) = silent_append (expr known true x) (plain (sign_of op) ∷ expr known true y) (expr_silent true x) (sign_no_output op, expr_silent true y)

  pub expr_keeps : (d : ℕ) → Keeps known (Within d) (rule t.expr) (λ e. e) (expr known false)
  expr_keeps d = record {
    kept = λ e ts s.
        let m = expr_covers d e ts s in
        record {
          same = m.same ∙ sym (leaves_of_expr false e);
          fit = λ g. expr_fits false false e (m.fine g);
          silent = λ g. expr_silent false e;
          spelt = λ g ns are. (e, expr_is known e (m.fine g) ns are, refl);
        };
  }

  pub template_keeps : (d : ℕ) → Keeps known (Within d) (rule t.template) (λ e. e) (expr known false)
  template_keeps d = record {
    kept = λ e ts s.
        let m = template_covers d e ts s in
        record {
          same = m.same ∙ sym (leaves_of_expr false e);
          fit = λ g. expr_fits true false e (m.fine g);
          silent = λ g. expr_silent false e;
          spelt = λ g ns are. (e, template_is known e (m.fine g) ns are, refl);
        };
  }
