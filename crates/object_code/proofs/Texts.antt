-- The bytes of a name, read one after another as a loop does.
use Rattle.std.proofs.Common.{◌≡◌, ℕ, suc, ◌+◌, ◌-◌, ◌<◌, ◌≤◌, List, [], ◌∷◌, ◌++◌, length, take, drop, get_or, ap, sym, ◌∙◌, add-one, drop-cons, arith, length-drop, Bool, true, false, Result, Ok, Err}
use Rattle.std.proofs.lemmas.List.{append-nil, take_more, drop_all}
use Rattle.cov_expr.specs.Names.{IsName}
use Rattle.object_code.specs.Inside.ObjectReading.{◌>>=◌, scan, goes_on, with_byte, within_at, text_at, name_at}
use Rattle.object_code.proofs.Exact.{gives, picked, with_one}
use Rattle.object_code.proofs.Fields.{within_exact}
use Rattle.object_code.proofs.Loops.{with_front, regroup, nothing_before}
use Rattle.object_code.proofs.Names.{text_exact, name_of_text}

-- what is read, where so many bytes were passed
abbrev pub passed : (len i : ℕ) → List ℕ → Result (List ℕ × List ℕ) ℕ
passed len i bytes = with_front (take i bytes) (scan goes_on with_byte (len - i) (take i bytes) (drop i bytes))

pub text_begins : (len : ℕ) (bytes : List ℕ) → passed len 0 bytes ≡ text_at len bytes
unfolding text_at
text_begins len bytes =
    let all : len - 0 ≡ len = omega arith in
    ap (λ k. with_front [] (scan goes_on with_byte k [] bytes)) all ∙ nothing_before (scan goes_on with_byte len [] bytes)

-- a byte in front of what is still read
abbrev onto : (left : ℕ) → List ℕ → ℕ → List ℕ → Bool → Result (List ℕ × List ℕ) ℕ
onto left before b bs t = picked b bs t >>= λ a. scan goes_on with_byte left (with_byte before a.0) a.1 >>= with_one a.0

module _ (len i : ℕ) (bytes : List ℕ) (within : i < len) where
  abbrev left : ℕ
  left = len - (i + 1)

  one_more : len - i ≡ suc left
  one_more = omega arith

  -- the bytes end
  pub text_ends : length bytes ≤ i → passed len i bytes ≡ Err 0
  text_ends short =
      ap (λ k. with_front (take i bytes) (scan goes_on with_byte k (take i bytes) (drop i bytes))) one_more
      ∙ ap (λ bs. with_front (take i bytes) (scan goes_on with_byte (suc left) (take i bytes) bs)) (drop_all i bytes short)

  module _ (inside : i < length bytes) where
    abbrev b : ℕ
    b = get_or bytes i 0

    front : drop i bytes ≡ b ∷ drop (i + 1) bytes
    front = drop-cons bytes i 0 inside ∙ ap (λ n. b ∷ drop n bytes) (sym (add-one i))

    next : passed len i bytes ≡ with_front (take i bytes) (onto left (take i bytes) b (drop (i + 1) bytes) (goes_on left (take i bytes) b))
    next =
        ap (λ k. with_front (take i bytes) (scan goes_on with_byte k (take i bytes) (drop i bytes))) one_more
        ∙ ap (λ bs. with_front (take i bytes) (scan goes_on with_byte (suc left) (take i bytes) bs)) front

    pub text_goes : goes_on left (take i bytes) b ≡ true → passed len (i + 1) bytes ≡ passed len i bytes
    text_goes e =
        ap (λ before. with_front before (scan goes_on with_byte left before (drop (i + 1) bytes))) (take_more bytes i 0 inside)
        ∙ sym (regroup (take i bytes) b (scan goes_on with_byte left (take i bytes ++ b ∷ []) (drop (i + 1) bytes)))
        ∙ sym (ap (λ t. with_front (take i bytes) (onto left (take i bytes) b (drop (i + 1) bytes) t)) e)
        ∙ sym next

    pub text_stops : goes_on left (take i bytes) b ≡ false → passed len i bytes ≡ Err (length bytes - i)
    text_stops e =
        next ∙ ap (λ t. with_front (take i bytes) (onto left (take i bytes) b (drop (i + 1) bytes) t)) e
        ∙ ap Err (let n : length (b ∷ drop (i + 1) bytes) ≡ length bytes - i = omega (arith, length-drop (i + 1) bytes, inside) in n)

-- the name behind its length
pub name_read : (bytes rest text : List ℕ) (len : ℕ) → within_at 1 32 bytes ≡ Ok (len, rest) → text_at len rest ≡ Ok (text, drop len rest) → name_at bytes ≡ Ok (text, drop (len + 1) bytes)
unfolding name_at
name_read bytes rest text len h g =
    let s = (within_exact 1 32 (omega arith)).sound bytes len rest h in
    ap (λ r. r >>= λ l. text_at l.0 l.1) h ∙ g ∙ ap (gives text) (sym (ap (drop (len + 1)) s.1 ∙ ap (λ k. drop k (len ∷ rest)) (add-one len)))

pub name_within : (bytes rest : List ℕ) (len : ℕ) → within_at 1 32 bytes ≡ Ok (len, rest) → len ≤ length rest → len + 1 ≤ length bytes
name_within bytes rest len h short =
    let s = (within_exact 1 32 (omega arith)).sound bytes len rest h in
    let whole : length bytes ≡ suc (length rest) = ap length s.1 in
    omega (arith, whole, short)

module _ (len i : ℕ) (bytes : List ℕ) (past : len ≤ i) (most : i ≤ len) where
  pub text_done : passed len i bytes ≡ text_at len bytes → text_at len bytes ≡ Ok (take len bytes, drop len bytes)
  text_done so_far =
      let here : i ≡ len = omega arith in
      let none : len - len ≡ 0 = omega arith in
      sym so_far ∙ ap (λ k. passed len k bytes) here
      ∙ ap (λ k. with_front (take len bytes) (scan goes_on with_byte k (take len bytes) (drop len bytes))) none
      ∙ ap (λ x. Ok (x, drop len bytes)) (append-nil (take len bytes))

  pub text_is_name : 0 < len → len ≤ 32 → passed len i bytes ≡ text_at len bytes → IsName (take len bytes)
  text_is_name some short so_far =
      name_of_text len (take len bytes) some short ((text_exact len).sound bytes (take len bytes) (drop len bytes) (text_done so_far)).0
