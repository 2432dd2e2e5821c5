-- Bytes of a range, and numbers.
use Rattle.std.proofs.Common.{◌≡◌, ℕ, zero, suc, ◌+◌, ◌*◌, ◌/◌, ◌%◌, ◌<◌, ◌≤◌, ◌^◌, nat_lt, nat_le, ◌&&◌, List, [], ◌∷◌, get_or, refl, ◌∙◌, arith, Bool, true, false, Result, Ok, Err}
use Rattle.std.proofs.lemmas.Bool.{and_parts, and_from, lt-ltb, ltb-true, leb-true, le-leb}
use Rattle.std.proofs.lemmas.Nat.{le_bytes_4, from_le_bytes-to_le_bytes_4}
use Rattle.object_code.specs.Inside.ObjectReading.{Reader, ◌>>=◌, map_at, scan, within_at, digit_at, number_at}
use Rattle.object_code.specs.Object.{four}
use Rattle.object_code.proofs.Exact.{IsExact, bind_same, bind_done, picked, with_one, AllGo, byte_exact, in_exact, same_exact, map_exact, scan_exact}

-- Bytes ------------------------------------------------------------------------------------------------------------

abbrev pub Within : (low high : ℕ) → ℕ → Type 0
Within low high b = (low ≤ b) × (b ≤ high)

pub within_exact : (low high : ℕ) → low ≤ high → IsExact (λ b. b ∷ []) (Within low high) (within_at low high)
unfolding within_at
within_exact low high order =
    in_exact (λ b. b ∷ []) (λ b. (nat_le low b && nat_le b high) ≡ true) (Within low high) (within_at low high)
    (λ b h. let p = and_parts (nat_le low b) (nat_le b high) h in (leb-true low b p.0, leb-true b high p.1))
    (λ b h. and_from (nat_le low b) (nat_le b high) (le-leb low b h.0) (le-leb b high h.1))
    (byte_exact (λ b. nat_le low b && nat_le b high) low (and_from (nat_le low low) (nat_le low high) (le-leb low low (omega arith)) (le-leb low high order)))

-- Numbers ----------------------------------------------------------------------------------------------------------

-- what the bytes so far are worth, and what the next is worth
abbrev Worth : Type 0
Worth = ℕ × ℕ

abbrev next : Worth → ℕ → Worth
next s b = (s.0 + b * s.1, s.1 * 256)

abbrev total : Worth → List ℕ → ℕ
total s [] = s.0
total s (b ∷ text) = total (next s b) text

module _ (below : ℕ) where
  abbrev goes : ℕ → Worth → ℕ → Bool
  goes left s b = nat_lt b 256 && nat_lt (s.0 + b * s.1) below

  -- the same digits one by one
  abbrev digits : ℕ → (base unit : ℕ) → Reader ℕ
  digits zero base unit bs = Ok (base, bs)
  digits (suc left) base unit bs = digit_at below base unit bs >>= λ n. digits left n.0 (unit * 256) n.1

  number_digits : (bs : List ℕ) → number_at below bs ≡ digits 4 0 1 bs
  unfolding number_at
  number_digits bs =
      bind_same (digit_at below 0 1 bs) _ _ (λ a. bind_same (digit_at below a.0 256 a.1) _ _ (λ b. bind_same (digit_at below b.0 65536 b.1) _ _ (λ c. bind_done (digit_at below c.0 16777216 c.1))))

  -- what a text is worth
  abbrev summed : Worth → List ℕ × List ℕ → Result (ℕ × List ℕ) ℕ
  summed s t = Ok (total s t.0, t.1)

  onto_text : (s : Worth) (b : ℕ) (r : Result (List ℕ × List ℕ) ℕ) → (r >>= summed (next s b)) ≡ ((r >>= with_one b) >>= summed s)
  onto_text s b (Ok t) = refl
  onto_text s b (Err n) = refl

  digits_scan : (left base unit : ℕ) (bs : List ℕ) → digits left base unit bs ≡ map_at (total (base, unit)) (scan goes next left (base, unit)) bs
  unfolding digit_at
  digits_scan zero base unit bs = refl
  digits_scan (suc left) base unit [] = refl
  digits_scan (suc left) base unit (b ∷ bs) =
      by (nat_lt b 256 && nat_lt (base + b * unit) below) (digits_scan left (base + b * unit) (unit * 256) bs ∙ onto_text (base, unit) b (scan goes next left (next (base, unit) b) bs))
    where
      by : (t : Bool) → digits left (base + b * unit) (unit * 256) bs ≡ ((scan goes next left (next (base, unit) b) bs >>= with_one b) >>= summed (base, unit))
          → (picked (base + b * unit) bs t >>= λ n. digits left n.0 (unit * 256) n.1)
          ≡ ((picked b bs t >>= λ a. scan goes next left (next (base, unit) a.0) a.1 >>= with_one a.0) >>= summed (base, unit))
      by true h = h
      by false h = refl

  abbrev Ready : ℕ → Worth → Type 0
  Ready left s = s.0 < below

  step : (left : ℕ) (s : Worth) → Ready (suc left) s → (b : ℕ) × (goes left s b ≡ true)
  step left s ready = (0, lt-ltb (s.0 + 0 * s.1) below (omega (arith, ready)))

  keep : (left : ℕ) (s : Worth) (b : ℕ) → Ready (suc left) s → goes left s b ≡ true → Ready left (next s b)
  keep left s b ready h = ltb-true (s.0 + b * s.1) below (and_parts (nat_lt b 256) (nat_lt (s.0 + b * s.1) below) h).1

  abbrev AreDigits : List ℕ → Type 0
  AreDigits text = AllGo goes next 4 (0, 1) text

  goes_byte : (b n : ℕ) → (nat_lt b 256 && nat_lt n below) ≡ true → (b < 256) × (n < below)
  goes_byte b n h = let p = and_parts (nat_lt b 256) (nat_lt n below) h in (ltb-true b 256 p.0, ltb-true n below p.1)

  goes_back : (b n : ℕ) → b < 256 → n < below → (nat_lt b 256 && nat_lt n below) ≡ true
  goes_back b n h g = and_from (nat_lt b 256) (nat_lt n below) (lt-ltb b 256 h) (lt-ltb n below g)

  number_spelled : (text : List ℕ) → AreDigits text → four (total (0, 1) text) ≡ text
  number_spelled [] h = absurd h
  number_spelled (a ∷ []) h = absurd (h.1)
  number_spelled (a ∷ b ∷ []) h = absurd (h.1.1)
  number_spelled (a ∷ b ∷ c ∷ []) h = absurd (h.1.1.1)
  number_spelled (a ∷ b ∷ c ∷ d ∷ []) h = le_bytes_4 (a ∷ b ∷ c ∷ d ∷ []) (total (0, 1) (a ∷ b ∷ c ∷ d ∷ [])) refl small (omega arith)
    where
      small : (i : ℕ) → get_or (a ∷ b ∷ c ∷ d ∷ []) i 0 < 256
      small zero = (goes_byte a _ h.0).0
      small (suc zero) = (goes_byte b _ h.1.0).0
      small (suc (suc zero)) = (goes_byte c _ h.1.1.0).0
      small (suc (suc (suc zero))) = (goes_byte d _ h.1.1.1.0).0
      small (suc (suc (suc (suc i)))) = omega arith
  number_spelled (a ∷ b ∷ c ∷ d ∷ e ∷ text) h = absurd (h.1.1.1.1)

  number_fits : (text : List ℕ) → AreDigits text → total (0, 1) text < below
  number_fits [] h = absurd h
  number_fits (a ∷ []) h = absurd (h.1)
  number_fits (a ∷ b ∷ []) h = absurd (h.1.1)
  number_fits (a ∷ b ∷ c ∷ []) h = absurd (h.1.1.1)
  number_fits (a ∷ b ∷ c ∷ d ∷ []) h = (goes_byte d _ h.1.1.1.0).1
  number_fits (a ∷ b ∷ c ∷ d ∷ e ∷ text) h = absurd (h.1.1.1.1)

  four_digits : (a b c d n : ℕ) → a < 256 → b < 256 → c < 256 → d < 256 → a + b * 256 + c * 65536 + d * 16777216 ≡ n → n < below → AreDigits (a ∷ b ∷ c ∷ d ∷ []) × (n ≡ total (0, 1) (a ∷ b ∷ c ∷ d ∷ []))
  four_digits a b c d n ha hb hc hd e h = (
    (
      goes_back a (0 + a * 1) ha (omega (arith, e, h)),
      (goes_back b (0 + a * 1 + b * 256) hb (omega (arith, e, h)), (goes_back c (0 + a * 1 + b * 256 + c * 65536) hc (omega (arith, e, h)), (goes_back d (0 + a * 1 + b * 256 + c * 65536 + d * 16777216) hd (omega (arith, e, h)), tt))),
    ),
    omega (arith, e),
  )

  pub number_exact : 0 < below → below ≤ 2 ^ 32 → IsExact four (λ n. n < below) (number_at below)
  number_exact some small =
      same_exact four (λ n. n < below) (number_at below) (map_at (total (0, 1)) (scan goes next 4 (0, 1))) (λ bs. number_digits bs ∙ digits_scan 4 0 1 bs)
      (map_exact (λ text. text) AreDigits (scan goes next 4 (0, 1)) (total (0, 1)) four (λ n. n < below) (record {
        first = scan_exact goes next Ready step keep 4 (0, 1) some;
        spelled = number_spelled;
        fits = number_fits;
        parts = λ n h. let f = from_le_bytes-to_le_bytes_4 n (omega (arith, h, small)) in
            let d = four_digits (n % 256) (n / 256 % 256) (n / 65536 % 256) (n / 16777216 % 256) n (omega arith) (omega arith) (omega arith) (omega arith) f h in
            (four n, d.0, d.1);
      }))
