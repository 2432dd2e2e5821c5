-- Where a number in `by` breaks V13, the line tells what is wrong with it.
use Rattle.std.proofs.Common.{◌≡◌, ℕ, ◌≤◌, ◌==◌, nat_le, List, [], length, Bool, true, false, ◌&&◌, if◌then◌else◌, true≢false, refl, sym, ap, subst, ◌∙◌, arith, inl, inr}
use Rattle.cov_ast.specs.Plain.{plain}
use Rattle.cov_ast.specs.Syntax.{Program, Proof, Stm}
use Rattle.cov_ast.specs.declared.refusal.Detail.TheVariants.{Number}
use Rattle.cov_ast.specs.declared.refusal.Rule.TheVariants.{V13}
use Rattle.point_law.specs.Point.{Point}
use Rattle.statement_paths.specs.Paths.{Step}
use Rattle.typing_law.specs.ThreadObligations.{is_number}
use Rattle.entail_origins.specs.OwnEntailments.{own_entailments}
use Rattle.entail_origins.proofs.QuestionCounts.{as_many}
use Rattle.refusal_names.specs.GivenNumbers.{count_text, number_line, repeated_line, repeated_text, times_given, TellsWhatIsWrong}
use Rattle.refusal_names.specs.RefusalNames.{line_of}

last_fails : (a b c : Bool) → (a && b && c) ≡ false → (a && b) ≡ true → c ≡ false
last_fails true true c h both = h
last_fails true false c h both = absurd (true≢false (sym both))
last_fails false b c h both = absurd (true≢false (sym both))

module _ (count : ℕ) (proofs : List Proof) (n : ℕ) (given : 1 ≤ times_given proofs n) (broken : is_number count proofs n ≡ false) where
  by_count : (b : Bool) → (nat_le 1 n && nat_le n count) ≡ b → TellsWhatIsWrong count proofs n (number_line count proofs n)
  by_count false past = inl (record { past = past; told = ap (λ b. if b then repeated_line proofs n else count_text count) past })
  by_count true inside =
      let times = times_given proofs n in
      let not_once : (times == 1) ≡ false = last_fails (nat_le 1 n) (nat_le n count) (times == 1) broken inside in
      let many : 2 ≤ times = grind (arith, not_once, given) in
      let is_many : nat_le 2 times ≡ true = grind (arith, many) in
      inr (record {
        many = many;
        told = ap (λ b. if b then repeated_line proofs n else count_text count) inside ∙ ap (λ b. if b then repeated_text n else []) is_many;
      })

  is_told : TellsWhatIsWrong count proofs n (number_line count proofs n)
  is_told = by_count (nat_le 1 n && nat_le n count) refl

pub told : (p : Program) → (bytes : List ℕ) → (t n : ℕ) → (s : Stm) → (a : Point) → (steps : List Step) → (proofs : List Proof) → 1 ≤ times_given proofs n
    → is_number (length (own_entailments (plain p) t s a)) proofs n ≡ false
    → TellsWhatIsWrong (length (own_entailments (plain p) t s a)) proofs n (line_of p bytes t V13 (Number n) steps a.held s proofs)
told p bytes t n s a steps proofs given broken =
    let count = length (own_entailments (plain p) t s a) in
    subst (λ m. TellsWhatIsWrong count proofs n (number_line m proofs n)) (sym (as_many (plain p) t s a)) (is_told count proofs n given broken)
