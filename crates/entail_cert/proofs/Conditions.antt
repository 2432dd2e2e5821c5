-- The conditions of `ring` and `range`, of goals that are made of words.
use Rattle.std.proofs.Common.{◌≡◌, List, Bool, true, false, ◌&&◌, Some, Result, Ok, Err, IfOk, refl, sym, ◌∙◌, ap, subst}
use Rattle.std.proofs.lemmas.Bool.{and_from}
use Rattle.cov_expr.specs.declared.expr.Op.TheVariants.{Eq}
use Rattle.cov_expr.specs.declared.list.NoMemory.{NoMemory}
use Rattle.cov_expr.specs.Term.{Term}
use Rattle.cov_expr.specs.Words.{HasWords}
use Rattle.entail_range.specs.Range.{range_valid}
use Rattle.entail_ring.specs.Ring.{ring_equal}
use Rattle.entail_cert.specs.WordTests.{is_of_words}
use Rattle.entail_cert.specs.Valid.{operands, are_ring_equal, is_ring, is_range}
use Rattle.entail_cert.proofs.Truth.{operands_is, has_words}

and_true : (a b : Bool) → b ≡ true → a ≡ (a && b)
and_true true b h = sym h
and_true false b h = refl

pub ring_told : (goal a b : Term) (r : Result Bool NoMemory) → Some (a, b) ≡ operands Eq goal → HasWords a × HasWords b
    → IfOk r (λ same. same ≡ ring_equal a b) → IfOk r (λ holds. holds ≡ is_ring goal)
ring_told goal a b (Ok same) is w e =
    let words : HasWords goal = subst HasWords (sym (operands_is Eq goal (a, b) (sym is))) w in
    e ∙ ap are_ring_equal is ∙ and_true (are_ring_equal (operands Eq goal)) (is_of_words goal) (has_words goal words)
ring_told goal a b (Err s) is w e = tt

pub range_told : (hyps : List Term) (goal : Term) (r : Bool) → r ≡ range_valid hyps goal → (r ≡ true → HasWords goal) → r ≡ is_range hyps goal
range_told hyps goal true e w = sym (and_from (range_valid hyps goal) (is_of_words goal) (sym e) (has_words goal (w refl)))
range_told hyps goal false e w = ap (λ b. b && is_of_words goal) e

-- the same, where memory may run out
pub range_told_if_ok : (hyps : List Term) (goal : Term) (r : Result Bool NoMemory) → IfOk r (λ b. b ≡ range_valid hyps goal)
    → IfOk r (λ b. b ≡ true → HasWords goal) → IfOk r (λ b. b ≡ is_range hyps goal)
range_told_if_ok hyps goal (Ok b) e w = range_told hyps goal b e w
range_told_if_ok hyps goal (Err n) e w = tt
