-- One round more, and how long all of them are.
use Rattle.std.proofs.Common.{◌≡◌, ℕ, zero, suc, ◌+◌, ◌*◌, List, ◌++◌, length, codes, ap, sym, ◌∙◌, arith, append-nil, append_assoc}
use Rattle.std.proofs.lemmas.List.{length-append}
use Rattle.std.specs.List.{repeat}
use Rattle.cov_gen.specs.Big.{thread}

module _ {A : Type 0} where
  round_behind : (n : ℕ) (round : List A) → repeat n round ++ round ≡ repeat (suc n) round
  round_behind zero round = sym (append-nil round)
  round_behind (suc n) round = append_assoc round (repeat n round) round ∙ ap (λ rest. round ++ rest) (round_behind n round)

  -- what stood before the rounds stays
  pub round_more : (n : ℕ) (start round : List A) → (start ++ repeat n round) ++ round ≡ start ++ repeat (n + 1) round
  round_more n start round =
      let next : suc n ≡ n + 1 = omega arith in
      append_assoc start (repeat n round) round ∙ ap (λ rest. start ++ rest) (round_behind n round ∙ ap (λ k. repeat k round) next)

  length-repeat : (n : ℕ) (round : List A) → length (repeat n round) ≡ n * length round
  length-repeat zero round = omega arith
  length-repeat (suc n) round = let both = length-append round (repeat n round) in let rest = length-repeat n round in omega arith

length-thread : (head round : List ℕ) (n : ℕ) → length (thread head round n) ≡ length head + (n * length round + 2)
length-thread head round n =
    let rounds = length-repeat n round in let begun = length-append head (repeat n round) in
    length-append (head ++ repeat n round) (codes "}\n") ∙ omega arith

pub length-threads : (start head round other_head other_round : List ℕ) (n : ℕ) →
    length (start ++ thread head round n ++ thread other_head other_round n)
    ≡ length start + ((length head + (n * length round + 2)) + (length other_head + (n * length other_round + 2)))
length-threads start head round other_head other_round n =
    let first = length-thread head round n in let second = length-thread other_head other_round n in
    let begun = length-append start (thread head round n) in
    length-append (start ++ thread head round n) (thread other_head other_round n) ∙ omega arith
