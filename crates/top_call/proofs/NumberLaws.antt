-- Laws of the number from 1 to a most that a word spells: a word that spells one is read as it.
use Rattle.std.specs.Prelude.{nat_le, decimal}
use Rattle.std.specs.Result.{result_ok}
use Rattle.std.specs.Str.{bytes_eq}
use Rattle.std.specs.Str.Parse.{AllDigits, ParsesUnsigned, digits_value}
use Rattle.std.proofs.Common.{◌≡◌, ℕ, ◌≤◌, List, Bool, true, false, ◌&&◌, Some, None, Result, Ok, refl, sym, ap, ◌∙◌, subst, cond, arith}
use Rattle.std.proofs.lemmas.Bool.{and_parts}
use Rattle.std.proofs.lemmas.Bool.Decides.{nat_tests}
use Rattle.std.proofs.lemmas.Fmt.{digits_value-decimal, parse-decimal}
use Rattle.std.proofs.lemmas.Slice.Eq.{bytes_eq-Decides}
use Rattle.std.proofs.lemmas.Str.Parse.{numerals_by_value, tells_digits}
use Rattle.cov_expr.specs.declared.limits.TheConstants.{MOST_TRIALS}
use Rattle.top_call.specs.Commands.{is_number, number_of}

at_most : (a b : ℕ) → nat_le a b ≡ true → a ≤ b
at_most a b h = grind (arith, nat_tests)

module _ (most : ℕ) (few : most ≤ MOST_TRIALS) where
  pub within : (word : List ℕ) (n : ℕ) → is_number most word n ≡ true → (1 ≤ n) × (n ≤ most)
  within word n h =
      let least = and_parts (nat_le 1 n) (nat_le n most && bytes_eq word (decimal n)) h in
      let rest = and_parts (nat_le n most) (bytes_eq word (decimal n)) least.1 in
      (at_most 1 n least.0, at_most n most rest.0)

  spelled : (word : List ℕ) (n : ℕ) → is_number most word n ≡ true → word ≡ decimal n
  spelled word n h =
      let least = and_parts (nat_le 1 n) (nat_le n most && bytes_eq word (decimal n)) h in
      (bytes_eq-Decides word (decimal n)).0 (and_parts (nat_le n most) (bytes_eq word (decimal n)) least.1).1

  -- the digits of a number are its value
  value : (word : List ℕ) (n : ℕ) → is_number most word n ≡ true → digits_value 10 word ≡ n
  value word n h =
      let small : n ≤ 1000 = omega (arith, few, (within word n h).1) in
      ap (digits_value 10) (spelled word n h) ∙ digits_value-decimal (numerals_by_value (AllDigits 10) tells_digits) n (omega arith)

  -- a word that spells a number spells no other
  pub said : (word : List ℕ) (n : ℕ) → is_number most word n ≡ true → number_of most word ≡ Some n
  said word n h =
      subst (λ m. cond (is_number most word m) (Some m) None ≡ Some n) (sym (value word n h)) (ap (λ b. cond b (Some n) None) h)

  module _ {E : Type 0} (word : List ℕ) (r : Result ℕ E) (parsed : ParsesUnsigned 32 10 word r) where
    -- and is read as it
    read : (n : ℕ) → is_number most word n ≡ true → r ≡ Ok n
    read n h =
        let small : n ≤ 1000 = omega (arith, few, (within word n h).1) in
        parse-decimal 32 n word r (omega arith) (omega arith) (spelled word n h) parsed

    -- so a word spells none that isn't read
    pub unread : None ≡ result_ok r → number_of most word ≡ None
    unread none = by (is_number most word (digits_value 10 word)) refl
      where
        by : (b : Bool) → is_number most word (digits_value 10 word) ≡ b → cond b (Some (digits_value 10 word)) None ≡ None
        by true h = let wrong : None ≡ Some (digits_value 10 word) = none ∙ ap result_ok (read (digits_value 10 word) h) in cc
        by false h = refl

    -- or is read as a number that it doesn't spell
    pub unsaid : (n : ℕ) → Some n ≡ result_ok r → is_number most word n ≡ false → number_of most word ≡ None
    unsaid n some not = by (is_number most word (digits_value 10 word)) refl
      where
        by : (b : Bool) → is_number most word (digits_value 10 word) ≡ b → cond b (Some (digits_value 10 word)) None ≡ None
        by true h =
            let same : Some n ≡ Some (digits_value 10 word) = some ∙ ap result_ok (read (digits_value 10 word) h) in
            let is : n ≡ digits_value 10 word = cc in
            let wrong : true ≡ false = sym h ∙ ap (is_number most word) (sym is) ∙ not in cc
        by false h = refl
