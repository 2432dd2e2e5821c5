-- Each line that accepts is on a program that is secure, where a judge accepts no other.
use Rattle.std.proofs.Common.{◌≡◌, ℕ, List, [], ◌∷◌, refl, Option, All}
use Rattle.std.proofs.lemmas.List.Elements.{All-head, All-tail}
use Rattle.cov_ast.specs.Plain.{plain}
use Rattle.cov_ast.specs.Syntax.{Thread, Program}
use Rattle.cov_ast.specs.WellFormed.{IsWellFormed}
use Rattle.flow_model.specs.Secure.{IsSecure}
use Rattle.typing_law.specs.declared.count.Count.{Count}
use Rattle.thread_swap.specs.Judges.{Judging, Said, risen}
use Rattle.thread_swap.specs.Replacements.{AreAlike, IsReplacement}
use Rattle.thread_swap.specs.SwapLines.{AreSecureIfAccepted, IsSecureIfAccepted, lines_behind, opened, programs_behind, put_in, swap_lines, swapped_programs}
use Rattle.thread_swap.specs.Swaps.{all_open, due, settled, verdict_on}
use Rattle.thread_swap.specs.declared.judged.Judged.{Judged}
use Rattle.thread_swap.specs.declared.judged.Judged.TheVariants.{Accepted, Refused}
use Rattle.thread_swap.proofs.LineLaws.{alike_self, put_alike}

module _ (j : Judging) (secure : (p : Program) → IsWellFormed p → (count : Count) → verdict_on j p ≡ Accepted count → IsSecure (plain p)) where
  verdict_secure : (p : Program) → IsWellFormed p → (v : Judged) → verdict_on j p ≡ v → IsSecureIfAccepted v p
  verdict_secure p fine (Accepted count) is = secure p fine count is
  verdict_secure p fine (Refused refusal) is = tt

  behind_secure : (p q : Program) → AreAlike p q → IsWellFormed q → (answers : List (Option Said)) (count : ℕ) (ds : List Thread) → All (IsReplacement p) ds
      → AreSecureIfAccepted (lines_behind j q answers count ds) (programs_behind q ds)
  behind_secure p q alike fine answers count [] fit = tt
  behind_secure p q alike fine answers count (d ∷ ds) fit =
      let first = All-head (IsReplacement p) d ds fit in
      let next : IsWellFormed (put_in q d) = first.formed q alike fine in (
        verdict_secure (put_in q d) next (verdict_on j (put_in q d)) refl,
        behind_secure p (put_in q d) (put_alike p q d alike first.named) next (settled j (put_in q d) (opened q answers d))
            (risen count (due (put_in q d) (opened q answers d))) ds (All-tail (IsReplacement p) d ds fit),
      )

  pub lines_secure : (p : Program) → IsWellFormed p → (ds : List Thread) → All (IsReplacement p) ds
      → AreSecureIfAccepted (swap_lines j p ds) (swapped_programs p ds)
  lines_secure p fine ds fit = (
    verdict_secure p fine (verdict_on j p) refl,
    behind_secure p p (alike_self p) fine (settled j p (all_open p)) (risen j.judged (due p (all_open p))) ds fit,
  )
