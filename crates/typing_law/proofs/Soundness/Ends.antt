-- What the obligation at the end of a thread says of the locks.
use Rattle.std.proofs.Common.{◌≡◌, ℕ, zero, suc, ◌+◌, ◌<◌, ◌≤◌, ◌&&◌, List, [], ◌∷◌, ◌++◌, Bool, true, false, length, refl, sym, ap, ◌∙◌, arith, inl, inr, IsTrue, is_none, Some, if◌then◌else◌}
use Rattle.std.specs.Prelude.{find}
use Rattle.std.specs.List.{range_with_len}
use Rattle.std.proofs.lemmas.Bool.{cases_eq}
use Rattle.cov_ast.specs.Syntax.{Program}
use Rattle.cov_ast.specs.Plain.{plain}
use Rattle.cov_ast.specs.Tables.{has}
use Rattle.cov_ast.specs.Obligations.{Obligation, all_hold}
use Rattle.point_law.specs.After.{start}
use Rattle.typing_law.specs.ThreadObligations.{thread_obligations, block_obligations, end_obligation, end_point}
use Rattle.mode_compat.specs.Compatible.{numbered}

-- of two tests that both pass, the second passes
second : (a b : Bool) → IsTrue (a && b) → IsTrue b
second true b h = h
second false b h = cc

-- the last of obligations that all hold
last_holds : (es : List Obligation) (e : Obligation) → IsTrue (all_hold (es ++ e ∷ [])) → IsTrue e.holds
last_holds [] e h = first e.holds h
  where
    first : (b : Bool) → IsTrue (b && true) → IsTrue b
    first true h = refl
    first false h = h
last_holds (f ∷ es) e h = last_holds es e (second f.holds (all_hold (es ++ e ∷ [])) h)

-- where nothing is found, the first doesn't pass, and nothing is found behind it
passed_over : (f : ℕ → Bool) (a : ℕ) (xs : List ℕ) → IsTrue (is_none (find f (a ∷ xs))) → (f a ≡ false) × IsTrue (is_none (find f xs))
passed_over f a xs h = at (f a) h
  where
    at : (b : Bool) → IsTrue (is_none (if b then Some a else find f xs)) → (b ≡ false) × IsTrue (is_none (find f xs))
    at true k = cc
    at false k = (refl, k)

not_found : (f : ℕ → Bool) (a n l : ℕ) → a ≤ l → l < a + n → IsTrue (is_none (find f (range_with_len a n))) → f l ≡ false
not_found f a zero l from to h = absurd (omega arith)
not_found f a (suc n) l from to h =
    let both = passed_over f a (range_with_len (a + 1) n) h in
    elim (cases_eq a l) [ inl same ↦ ap f (sym same) ∙ both.0 | inr ne ↦ not_found f (a + 1) n l (omega arith) (omega arith) both.1 ]

pub none_held : (p : Program) (t : ℕ) → IsTrue (all_hold (thread_obligations p t)) → (l : ℕ) → l < length p.locks → has (end_point p t).held l ≡ false
none_held p t h l lt =
    not_found (has (end_point p t).held) 0 (length p.locks) l (omega arith) (omega arith)
    (last_holds (block_obligations (plain p) t (numbered p t).body (start (plain p) t)) (end_obligation (plain p) t (numbered p t).end (end_point p t).held) h)
