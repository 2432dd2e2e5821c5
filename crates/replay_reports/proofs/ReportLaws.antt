-- Laws of the lines of reports.
use Rattle.std.proofs.Common.{◌≡◌, ℕ, ◌+◌, ◌<◌, List, ◌++◌, length, map, get_or, drop, sym, ap, ◌∙◌, append_assoc}
use Rattle.std.proofs.lemmas.List.{at_drop_more}
use Rattle.replay_reports.specs.RunReports.{lines_from}

-- the line of a declaration and those behind it; `seen` is what reports see of a declaration
module _ {A B : Type 0} (line : ℕ → B → List ℕ) (seen : A → B) where
  pub lines_more : (before whole : List ℕ) (xs : List A) (n : ℕ) (x : A) → n < length xs → x ≡ get_or xs n x
      → before ++ lines_from line n (map seen (drop n xs)) ≡ whole → (before ++ line n (seen x)) ++ lines_from line (n + 1) (map seen (drop (n + 1) xs)) ≡ whole
  lines_more before whole xs n x inside is h =
      append_assoc before (line n (seen x)) (lines_from line (n + 1) (map seen (drop (n + 1) xs)))
      ∙ ap (λ y. before ++ (line n (seen y) ++ lines_from line (n + 1) (map seen (drop (n + 1) xs)))) is
      ∙ ap (λ ys. before ++ ys) (sym (at_drop_more (λ ys. lines_from line n (map seen ys)) xs n x inside)) ∙ h
