-- The classes of certificates that a search is compared with, one for each depth, and what a search says.
--
-- The class of depth 0 has certificates of one node: `auto`, `refl`, `ring`, `range` and each `absurd i j`. The class of each depth more has those of
-- the class before it, and one step at the root, whose children are of the class before it for the hypotheses and the goals that they have there:
--
-- - `and c d`, `left c`, `right c`, by the operator of the goal;
-- - `use i c`, `cases i c d`, which take a hypothesis apart;
-- - `fwd i [T] c`, a replacement in the goal by a hypothesis `x == e` with a variable `x`: `T` is the goal with `_` for each `x`;
-- - `have [f] (rev i [T] (hyp j)) c`, such a replacement in another hypothesis, which mentions `x`: `T` is that hypothesis with `_` for each `x`, and
--   `f` is it with `e` there.
--
-- Its templates and expressions are within the limits of those of a text. Whether a certificate is in a class and whether it is valid are two questions.
use Rattle.std.specs.Prelude.{ℕ, zero, suc, ◌==◌, nat_le, List, [], ◌∷◌, ◌++◌, Bool, true, false, not, IsTrue, ◌&&◌, ◌||◌, Option, Some, None, Result, Ok, Err}
use Rattle.cov_expr.specs.declared.expr.Op.TheVariants.{Eq, Both, Either}
use Rattle.cov_expr.specs.declared.expr.TheConstants.{HOLE}
use Rattle.cov_expr.specs.declared.limits.TheConstants.{MOST_NODES, MOST_HEIGHT}
use Rattle.cov_expr.specs.declared.list.NoMemory.{NoMemory}
use Rattle.cov_expr.specs.Term.{Term, const, var, neg, bin}
use Rattle.cov_expr.specs.Trees.{same, mentions, subst, nodes, height}
use Rattle.cov_ast.specs.Syntax as by
use Rattle.cov_ast.specs.declared.cert.Cert.{Cert}
use Rattle.cov_ast.specs.View as view
use Rattle.entail_cert.specs.Axioms.{numbered}
use Rattle.entail_cert.specs.Valid.{is_some_and, operands, operands_of, filled, is_valid}

-- Parts --------------------------------------------------------------------------------------------------------

-- within the limits of an expression of a text
abbrev pub is_within : Term → Bool
is_within e = nat_le (nodes e) MOST_NODES && nat_le (height e) MOST_HEIGHT

-- an expression as a template, with a hole in the place of each occurrence of a variable
abbrev pub opened : Term → ℕ → Term
opened e x = subst e x (var HOLE)

-- the variable and the other side, where the left side of an equation is a variable
abbrev pub variable_and_side : Term → Term → Option (ℕ × Term)
variable_and_side (var x) e = Some (x, e)
variable_and_side (const k) e = None
variable_and_side (neg a) e = None
variable_and_side (bin op a b) e = None

abbrev pub of_sides : Option (Term × Term) → Option (ℕ × Term)
of_sides None = None
of_sides (Some sides) = variable_and_side sides.0 sides.1

-- the variable `x` and the expression `e`, where a hypothesis is there and is `x == e`
abbrev pub definition_in : Option Term → Option (ℕ × Term)
definition_in h = of_sides (operands_of Eq h)

-- the number in `hyp j`
abbrev pub hypothesis_named : by.Cert → Option ℕ
hypothesis_named (by.hyp j) = Some j
hypothesis_named _ = None

-- what `rev i [t] c` says, where `c` is to be `hyp j`
pub record Replacement : Type 0 where
  pub by_equation : ℕ
  pub template : Term
  pub of : Option ℕ

abbrev pub replacement : by.Cert → Option Replacement
replacement (by.rev i t c) = Some (record { by_equation = i; template = t; of = hypothesis_named c })
replacement _ = None

-- Steps --------------------------------------------------------------------------------------------------------

-- A test for the children takes the hypotheses, the goal and the certificate of each.
module _ (child : List Term → Term → by.Cert → Bool) (hyps : List Term) (goal : Term) where
  -- whether `fwd` with this template and child is a step, by the equation `x == e`
  abbrev pub is_forward : Term → by.Cert → Option (ℕ × Term) → Bool
  is_forward t c equation =
      is_some_and (λ (x, e). is_within t && same t (opened goal x) && child hyps (filled t e) c) equation

  -- whether `have [f] (rev i [t] (hyp j)) c` is a step, by the equation `x == e` of number i
  abbrev pub is_of_another : Term → Term → by.Cert → (i : ℕ) → (j : Option ℕ) → Option (ℕ × Term) → Bool
  is_of_another f t c i j equation =
      is_some_and (λ (x, e). is_some_and (λ n. not (i == n) && is_some_and (λ h. mentions h x && same t (opened h x)) (numbered hyps n)) j
      && is_within t && same f (filled t e) && is_within f && child (hyps ++ f ∷ []) goal c) equation

  abbrev pub is_lemma : Term → Option Replacement → by.Cert → Bool
  is_lemma f r c =
      is_some_and (λ r. is_of_another f r.template c r.by_equation r.of (definition_in (numbered hyps r.by_equation))) r

  -- whether a certificate is one step, with children that pass the test
  abbrev pub is_step : by.Cert → Bool
  is_step (by.and c d) = is_some_and (λ (a, b). child hyps a c && child hyps b d) (operands Both goal)
  is_step (by.left c) = is_some_and (λ (a, b). child hyps a c) (operands Either goal)
  is_step (by.right c) = is_some_and (λ (a, b). child hyps b c) (operands Either goal)
  is_step (by.unpack i c) = is_some_and (λ (a, b). child (hyps ++ a ∷ b ∷ []) goal c) (operands_of Both (numbered hyps i))
  is_step (by.cases i c d) =
      is_some_and (λ (a, b). child (hyps ++ a ∷ []) goal c && child (hyps ++ b ∷ []) goal d) (operands_of Either (numbered hyps i))
  is_step (by.fwd i t c) = is_forward t c (definition_in (numbered hyps i))
  is_step (by.have f c d) = is_lemma f (replacement c) d
  is_step _ = false

-- Classes ------------------------------------------------------------------------------------------------------

-- whether a certificate is in the class of depth 0
abbrev pub is_leaf : by.Cert → Bool
is_leaf by.auto = true
is_leaf by.reflexive = true
is_leaf by.ring = true
is_leaf by.range = true
is_leaf (by.absurdity i j) = true
is_leaf _ = false

-- whether a certificate is in the class of a depth, for hypotheses and a goal
abbrev pub is_in_class : ℕ → List Term → Term → by.Cert → Bool
is_in_class zero hyps goal c = is_leaf c
is_in_class (suc d) hyps goal c = is_in_class d hyps goal c || is_step (is_in_class d) hyps goal c

-- What a search says -------------------------------------------------------------------------------------------

-- The certificate is in the class of a depth, and valid.
pub record IsFound (depth : ℕ) (hyps : List Term) (goal : Term) (c : by.Cert) : Type 0 where
  pub in_class : IsTrue (is_in_class depth hyps goal c)
  pub valid : IsTrue (is_valid hyps goal c)

-- No certificate of the class of a depth is valid.
abbrev pub HasNone : ℕ → List Term → Term → Type 0
HasNone depth hyps goal = (c : by.Cert) → IsTrue (is_in_class depth hyps goal c) → IsTrue (is_valid hyps goal c) → ⊥

-- A certificate that is found is in the class and valid, and none is found only where the class has no valid one. Want of memory says nothing.
abbrev pub Finds : ℕ → List Term → Term → Result (Option Cert) NoMemory → Type 0
Finds depth hyps goal (Ok (Some c)) = IsFound depth hyps goal (view.cert c)
Finds depth hyps goal (Ok None) = HasNone depth hyps goal
Finds depth hyps goal (Err _) = Unit {0}
