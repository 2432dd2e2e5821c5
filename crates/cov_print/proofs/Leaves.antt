-- Keywords, names, holes, numbers and marks in front of a text.
use Rattle.std.proofs.Common.{◌≡◌, ℕ, zero, suc, ◌+◌, ◌%◌, ◌^◌, ◌<◌, ◌≤◌, ◌==◌, nat_lt, nat_le, List, [], ◌∷◌, ◌++◌, length, take, Bool, true, false, not, ◌&&◌, ◌||◌, if◌then◌else◌, codes, Ok, Err, refl, sym, ap, subst, ◌∙◌, arith, decimal, true≢false, IsTrue}
use Rattle.std.proofs.lemmas.Bool.{and_parts, leb-true, le-leb, ne_eqb}
use Rattle.std.proofs.lemmas.Fmt.{decimal_by_steps, decimal_is_IsNumeral}
use Rattle.std.proofs.lemmas.List.Folds.{list_all-append}
use Rattle.std.specs.List.{list_all}
use Rattle.std.specs.Prelude.{Option, Some, None, is_some, unwrap_or}
use Rattle.std.specs.Str.{bytes_eq}
use Rattle.cov_lex.specs.Signs.{is_blank}
use Rattle.cov_expr.specs.Bytes.{is_lower, is_digit, is_word}
use Rattle.cov_expr.specs.Names.{is_word_text, IsName}
use Rattle.cov_expr.specs.Spellings.{begins_with_letter, is_keyword}
use Rattle.cov_lex.specs.declared.token.TokenKind.TheVariants.{Keyword, Name, Number, Sign}
use Rattle.cov_lex.specs.Lexing.{Part}
use Rattle.cov_lex.specs.declared.fault.LexFault.TheVariants.{NameTooLong}
use Rattle.cov_expr.specs.Term.{Term, const, var, neg, bin}
use Rattle.cov_lex.specs.Lexing.{piece_at, word_of, number_of}
use Rattle.cov_lex.proofs.Fronts.{Stops, run_of}
use Rattle.cov_expr.specs.declared.kind.Kind.{Kind}
use Rattle.cov_expr.specs.declared.kind.Kind.TheVariants as k
use Rattle.cov_expr.specs.declared.limits.TheConstants.{MOST_NAME_BYTES}
use Rattle.cov_expr.specs.Spellings.{spellings}
use Rattle.cov_expr.specs.Spellings as spelled
use Rattle.cov_lex.specs.Signs.{signs, doubles, singles}
use Rattle.cov_print.specs.Spelling as spec
use Rattle.cov_print.proofs.Written as w
use Rattle.cov_print.proofs.Written.{Word, plain}
use Rattle.cov_print.proofs.Keeps.{AllFit}
use Rattle.cov_print.proofs.Readings.{known, Reads, token}

-- A text begins with a byte that isn't `=`.
pub record StartsWell (text : List ℕ) : Type 0 where
  pub first : ℕ
  pub rest : List ℕ
  pub is : text ≡ first ∷ rest
  pub other : (first == 61) ≡ false

low_bounds : (b : ℕ) → is_lower b ≡ true → (97 ≤ b) × (b ≤ 122)
low_bounds b h = let p = and_parts (nat_le 97 b) (nat_le b 122) h in (leb-true 97 b p.0, leb-true b 122 p.1)

digit_bounds : (b : ℕ) → is_digit b ≡ true → (48 ≤ b) × (b ≤ 57)
digit_bounds b h = let p = and_parts (nat_le 48 b) (nat_le b 57) h in (leb-true 48 b p.0, leb-true b 57 p.1)

third : {A : Type 0} (x y z : Bool) (a b c d : A) → x ≡ false → y ≡ false → z ≡ true → (if x then a else (if y then b else (if z then c else d))) ≡ c
third x y z a b c d e g h =
    ap (λ v. if v then a else (if y then b else (if z then c else d))) e ∙ ap (λ v. if v then b else (if z then c else d)) g ∙ ap (λ v. if v then c else d) h

fourth : {A : Type 0} (x y z v : Bool) (a b c d e : A) → x ≡ false → y ≡ false → z ≡ false → v ≡ true → (if x then a else (if y then b else (if z then c else (if v then d else e)))) ≡ d
fourth x y z v a b c d e p q r t =
    ap (λ u. if u then a else (if y then b else (if z then c else (if v then d else e)))) p ∙ ap (λ u. if u then b else (if z then c else (if v then d else e))) q
    ∙ ap (λ u. if u then c else (if v then d else e)) r ∙ ap (λ u. if u then d else e) t

no_blank : (b : ℕ) → 48 ≤ b → is_blank b ≡ false
no_blank b h = rw (ne_eqb b 32 (λ e. omega (arith, h, e)), ne_eqb b 9 (λ e. omega (arith, h, e)), ne_eqb b 10 (λ e. omega (arith, h, e)), ne_eqb b 13 (λ e. omega (arith, h, e)))

no_comment : (b : ℕ) (bs : List ℕ) → 48 ≤ b → bytes_eq (take 2 (b ∷ bs)) (codes "//") ≡ false
no_comment b bs h = rw (ne_eqb b 47 (λ e. omega (arith, h, e)))

-- a word in front of what doesn't go on it
word_piece : (b : ℕ) (bs more : List ℕ) (at : ℕ) → is_lower b ≡ true → list_all is_word (b ∷ bs) ≡ true → Stops is_word more → piece_at at (b ∷ bs ++ more) ≡ word_of at (b ∷ bs)
word_piece b bs more at low whole stop =
    let r = low_bounds b low in
    let high : 48 ≤ b = omega (arith, r.0) in
    third (is_blank b) (bytes_eq (take 2 (b ∷ bs ++ more)) (codes "//")) (is_lower b) _ _ _ _ (no_blank b high) (no_comment b (bs ++ more) high) low
    ∙ ap (word_of at) (run_of is_word (b ∷ bs) more whole stop)

-- and a number
number_piece : (b : ℕ) (bs more : List ℕ) (at : ℕ) → list_all is_digit (b ∷ bs) ≡ true → Stops is_digit more → piece_at at (b ∷ bs ++ more) ≡ number_of at (b ∷ bs)
number_piece b bs more at whole stop =
    let p = and_parts (is_digit b) (list_all is_digit bs) whole in
    let r = digit_bounds b p.0 in
    fourth (is_blank b) (bytes_eq (take 2 (b ∷ bs ++ more)) (codes "//")) (is_lower b) (is_digit b) _ _ _ _ _ (no_blank b r.0) (no_comment b (bs ++ more) r.0) (no_lower (nat_le 97 b) (nat_le b 122) refl) p.0
    ∙ ap (number_of at) (run_of is_digit (b ∷ bs) more whole stop)
  where
    no_lower : (x y : Bool) → nat_le 97 b ≡ x → (x && y) ≡ false
    no_lower false y e = refl
    no_lower true y e = let r = digit_bounds b (and_parts (is_digit b) (list_all is_digit bs) whole).0 in let no : ⊥ = omega (arith, r.1, leb-true 97 b e) in absurd no

-- the kind of a word of the table of spellings
abbrev pub keyword_of : List ℕ → Option Kind
keyword_of [] = None
keyword_of (b ∷ bs) = if is_lower b && list_all is_word (b ∷ bs) && not (nat_lt MOST_NAME_BYTES (length (b ∷ bs))) then spelled.kind_of (b ∷ bs) else None

keyword_is : (bytes : List ℕ) (j : Kind) → begins_with_letter bytes ≡ true → spelled.kind_of bytes ≡ Some j → is_keyword bytes ≡ true
unfolding is_keyword
keyword_is bytes j low is = ap (λ b. b && is_some (spelled.kind_of bytes)) low ∙ ap is_some is

-- a keyword in front of what doesn't go on it
pub word_ : {all : List (List ℕ)} {more : List ℕ} {vs : List Word} {j : Kind} (bytes : List ℕ) → keyword_of bytes ≡ Some j
    → Reads all more vs → Stops is_word more → Reads all (bytes ++ more) (plain j ∷ vs)
word_ [] is h stop = cc
word_ {all} {more} {vs} {j} (b ∷ bs) is h stop = by (is_lower b) (list_all is_word (b ∷ bs)) (nat_lt MOST_NAME_BYTES (length (b ∷ bs))) refl refl refl is
  where
    by : (x y z : Bool) → is_lower b ≡ x → list_all is_word (b ∷ bs) ≡ y → nat_lt MOST_NAME_BYTES (length (b ∷ bs)) ≡ z
        → (if x && y && not z then spelled.kind_of (b ∷ bs) else None) ≡ Some j → Reads all ((b ∷ bs) ++ more) (plain j ∷ vs)
    by true true false low whole short i =
        token (b ∷ bs) (plain j) Keyword (omega arith)
        (λ fit at.
        word_piece b bs more at low whole stop
        ∙ ap (λ q. if q then Err (NameTooLong at) else Ok (Part (if is_keyword (b ∷ bs) then Keyword else Name) (length (b ∷ bs)))) short
        ∙ ap (λ q. Ok (Part (if q then Keyword else Name) (length (b ∷ bs)))) (keyword_is (b ∷ bs) j low i))
        (λ fit. (tt, ap (λ q. unwrap_or q k.Name) i)) h
    by true true true low whole short i = cc
    by true false z low whole short i = cc
    by false y z low whole short i = cc

-- the bytes of a word at the front of a text, and what stands behind them
abbrev pub word_at : List ℕ → List ℕ
word_at [] = []
word_at (b ∷ bs) = if is_word b then b ∷ word_at bs else []

abbrev pub behind_word : List ℕ → List ℕ
behind_word [] = []
behind_word (b ∷ bs) = if is_word b then behind_word bs else b ∷ bs

in_two : (text : List ℕ) → word_at text ++ behind_word text ≡ text
in_two [] = refl
in_two (b ∷ bs) = by (is_word b) (in_two bs)
  where
    by : (x : Bool) → word_at bs ++ behind_word bs ≡ bs → (if x then b ∷ word_at bs else []) ++ (if x then behind_word bs else b ∷ bs) ≡ b ∷ bs
    by true e = ap (◌∷◌ b) e
    by false e = refl

word_stops : (text : List ℕ) → Stops is_word (behind_word text)
word_stops [] = tt
word_stops (b ∷ bs) = by (is_word b) refl (word_stops bs)
  where
    by : (x : Bool) → is_word b ≡ x → Stops is_word (behind_word bs) → Stops is_word (if x then behind_word bs else b ∷ bs)
    by true e h = h
    by false e h = e

-- a text that begins with a keyword, by what stands behind that
pub lead_ : {all : List (List ℕ)} {text : List ℕ} {vs : List Word} {j : Kind} → keyword_of (word_at text) ≡ Some j → Reads all (behind_word text) vs → Reads all text (plain j ∷ vs)
lead_ {all} {text} {vs} {j} is h = subst (λ t. Reads all t (plain j ∷ vs)) (in_two text) (word_ (word_at text) is h (word_stops text))

digit_of : (d : ℕ) → d < 10 → is_digit (48 + d) ≡ true
digit_of d h = rw (le-leb 48 (48 + d) (omega arith), le-leb (48 + d) 57 (omega arith))

pub decimal_digits : (n : ℕ) → n < 2 ^ 64 → list_all is_digit (decimal n) ≡ true
decimal_digits n h =
    decimal_by_steps (λ m ds. list_all is_digit ds ≡ true) (λ m s. rw (digit_of m s))
    (λ m ds s all. list_all-append is_digit ds ((48 + m % 10) ∷ []) ∙ rw (all, digit_of (m % 10) (omega arith))) n h

-- A byte that goes on no word goes on no number.
no_digit : (b : ℕ) → is_word b ≡ false → is_digit b ≡ false
no_digit b h = by (is_lower b) (is_digit b) h
  where
    by : (x y : Bool) → (x || y || b == 95) ≡ false → y ≡ false
    by true y e = absurd (true≢false e)
    by false true e = absurd (true≢false e)
    by false false e = refl

stops_digits : (more : List ℕ) → Stops is_word more → Stops is_digit more
stops_digits [] h = tt
stops_digits (b ∷ bs) h = no_digit b h

module _ {all : List (List ℕ)} where
  -- a number is written without leading zeros, and read as itself
  pub number_ : {more : List ℕ} {vs : List Word} (n : ℕ) → Reads all more vs → Stops is_word more → Reads all (decimal n ++ more) (w.number n ∷ vs)
  number_ {more} {vs} n h stop =
      record { reads = λ fit front. let small : n ≤ 4294967295 = fit.0 in (token {all = all} (decimal n) (w.number n) (Number n) (some small) (λ g at. piece small (decimal n) refl at) (λ g. refl) h).reads fit front }
    where
      some : n ≤ 4294967295 → 0 < length (decimal n)
      some small = (decimal_is_IsNumeral n (omega arith)).0.0

      number_is : (at : ℕ) → n ≤ 4294967295 → number_of at (decimal n) ≡ Ok (Part (Number n) (length (decimal n)))
      number_is at small = let e = (decimal_is_IsNumeral n (omega arith)).1 in rw (e, no_lt (nat_lt 4294967295 n) refl)
        where
          no_lt : (x : Bool) → nat_lt 4294967295 n ≡ x → x ≡ false
          no_lt false e = refl
          no_lt true e = let no : ⊥ = grind (arith, e, small) in absurd no

      piece : n ≤ 4294967295 → (ds : List ℕ) → ds ≡ decimal n → (at : ℕ) → piece_at at (ds ++ more) ≡ Ok (Part (Number n) (length ds))
      piece small [] e at = let no : ⊥ = omega (arith, ap length e, some small) in absurd no
      piece small (d ∷ ds) e at =
          number_piece d ds more at (ap (list_all is_digit) e ∙ decimal_digits n (omega arith)) (stops_digits more stop)
          ∙ ap (number_of at) e ∙ number_is at small ∙ ap (λ l. Ok (Part (Number n) (length l))) (sym e)

  hole_ : {more : List ℕ} {vs : List Word} (x : ℕ) → spec.name all x ≡ codes "_" → Reads all more vs → Reads all (spec.name all x ++ more) (w.hole x ∷ vs)
  unfolding spelled.kind_of spellings signs doubles singles
  hole_ {more} {vs} x e h =
      subst (λ text. Reads all (text ++ more) (w.hole x ∷ vs)) (sym e) (token (codes "_") (w.hole x) Sign (omega arith) (λ fit at. refl) (λ fit. (tt, refl)) h)

-- the names of a text are names
abbrev pub AreNames : List (List ℕ) → Type 0
AreNames all = (x : ℕ) → known all x ≡ true → IsName (spec.name all x)

unnamed : (all : List (List ℕ)) (x : ℕ) → known all x ≡ false → spec.name all x ≡ codes "_"
unnamed [] x e = refl
unnamed (a ∷ all) zero e = absurd (true≢false (grind (arith, e)))
unnamed (a ∷ all) (suc x) e = unnamed all x (below (known all x) refl)
  where
    below : (b : Bool) → known all x ≡ b → b ≡ false
    below false h = refl
    below true h = absurd (grind (arith, h, e))

module _ (all : List (List ℕ)) (valid : AreNames all) where
  name_start : (x : ℕ) → known all x ≡ true → (text : List ℕ) → text ≡ spec.name all x → (b : ℕ) × (bs : List ℕ) × (text ≡ b ∷ bs) × (is_lower b ≡ true) × (list_all is_word (b ∷ bs) ≡ true)
  name_start x e [] g = let no : ⊥ = omega (arith, ap length g, (valid x e).some) in absurd no
  name_start x e (b ∷ bs) g =
      let is : is_word_text (b ∷ bs) ≡ true = ap is_word_text g ∙ (valid x e).word in
      let p = and_parts (is_lower b) (list_all is_word bs) is in
      (b, bs, refl, p.0, ap (λ c. (c || is_digit b || b == 95) && list_all is_word bs) p.0 ∙ p.1)

  name_is : (x : ℕ) → known all x ≡ true → (at : ℕ) → word_of at (spec.name all x) ≡ Ok (Part Name (length (spec.name all x)))
  name_is x e at =
      ap (λ a. if a then Err (NameTooLong at) else Ok (Part (if is_keyword (spec.name all x) then Keyword else Name) (length (spec.name all x)))) (short (nat_lt 32 (length (spec.name all x))) refl)
      ∙ ap (λ b. Ok (Part (if b then Keyword else Name) (length (spec.name all x)))) (free (is_keyword (spec.name all x)) (valid x e).free)
    where
      short : (a : Bool) → nat_lt 32 (length (spec.name all x)) ≡ a → a ≡ false
      short false g = refl
      short true g = absurd (grind (arith, g, (valid x e).short))

      free : (b : Bool) → IsTrue (not b) → b ≡ false
      free false g = refl
      free true g = absurd (true≢false (sym g))

  name_piece : (x : ℕ) (more : List ℕ) → known all x ≡ true → Stops is_word more → (at : ℕ) → piece_at at (spec.name all x ++ more) ≡ Ok (Part Name (length (spec.name all x)))
  name_piece x more e stop at =
      let r = name_start x e (spec.name all x) refl in
      let same : spec.name all x ≡ r.0 ∷ r.1 = r.2 in
      ap (λ t. piece_at at (t ++ more)) same ∙ word_piece r.0 r.1 more at r.3 r.4 stop ∙ sym (ap (word_of at) same) ∙ name_is x e at

  pub name_ : {more : List ℕ} {vs : List Word} (x : ℕ) → Reads all more vs → Stops is_word more → Reads all (spec.name all x ++ more) (w.name x ∷ vs)
  name_ {more} {vs} x h stop = record {
    reads = λ fit front.
        (token {all = all} (spec.name all x) (w.name x) Name (valid x fit.0).some (λ g at. name_piece x more fit.0 stop at) (λ g. (refl, refl)) h).reads fit front;
  }

  pub variable_ : {more : List ℕ} {vs : List Word} (x : ℕ) → Reads all more vs → Stops is_word more → Reads all (spec.name all x ++ more) (w.variable (known all) x ∷ vs)
  variable_ {more} {vs} x h stop = by (known all x) refl
    where
      by : (b : Bool) → known all x ≡ b → Reads all (spec.name all x ++ more) ((if b then w.name x else w.hole x) ∷ vs)
      by true e = name_ x h stop
      by false e = hole_ x (unnamed all x e) h

  -- what an operand begins with
  lower_starts : (text : List ℕ) (b : ℕ) (bs more : List ℕ) → text ≡ b ∷ bs → 97 ≤ b → StartsWell (text ++ more)
  lower_starts text b bs more e h = record { first = b; rest = bs ++ more; is = ap (λ t. t ++ more) e; other = ne_eqb b 61 (λ g. omega (arith, g, h)) }

  variable_starts : (x : ℕ) (more : List ℕ) → StartsWell (spec.name all x ++ more)
  variable_starts x more = by (known all x) refl
    where
      by : (b : Bool) → known all x ≡ b → StartsWell (spec.name all x ++ more)
      by true e = let r = name_start x e (spec.name all x) refl in lower_starts (spec.name all x) r.0 r.1 more r.2 (low_bounds r.0 r.3).0
      by false e = record { first = 95; rest = more; is = ap (λ t. t ++ more) (unnamed all x e); other = refl }

  number_starts : (n : ℕ) (more : List ℕ) → n ≤ 4294967295 → (text : List ℕ) → text ≡ decimal n → StartsWell (text ++ more)
  number_starts n more h [] e = let no : ⊥ = omega (arith, ap length e, (decimal_is_IsNumeral n (omega arith)).0.0) in absurd no
  number_starts n more h (d ∷ ds) e =
      let p = and_parts (is_digit d) (list_all is_digit ds) (ap (list_all is_digit) e ∙ decimal_digits n (omega arith)) in
      record { first = d; rest = ds ++ more; is = refl; other = ne_eqb d 61 (λ g. omega (arith, g, (digit_bounds d p.0).1)) }

  pub operand_starts : (e : Term) (more : List ℕ) (vs : List Word) → AllFit (known all) (w.expr (known all) true e ++ vs) → StartsWell (spec.expr all true e ++ more)
  operand_starts (const n) more vs fit = number_starts n more fit.0 (decimal n) refl
  operand_starts (var x) more vs fit = variable_starts x more
  operand_starts (neg e) more vs fit = record { first = 33; rest = spec.expr all true e ++ more; is = refl; other = refl }
  operand_starts (bin op a b) more vs fit = record {
    first = 40;
    rest = (((spec.expr all true a ++ spec.operator op) ++ spec.expr all true b) ++ codes ")") ++ more;
    is = refl;
    other = refl;
  }

  mark_piece : (text : List ℕ) → StartsWell text → (at : ℕ) → piece_at at (33 ∷ text) ≡ Ok (Part Sign 1)
  unfolding spellings signs doubles singles
  mark_piece text h at = ap (λ t. piece_at at (33 ∷ t)) h.is ∙ rw h.other

  -- a mark in front of an operand
  pub mark_ : {text : List ℕ} {ws : List Word} → (AllFit (known all) ws → StartsWell text) → Reads all text ws → Reads all (33 ∷ text) (plain k.Bang ∷ ws)
  unfolding spelled.kind_of spellings signs doubles singles
  mark_ {text} {ws} well h = record {
    reads = λ fit front. (token {all = all} (codes "!") (plain k.Bang) Sign (omega arith) (λ g at. mark_piece text (well fit.1) at) (λ g. (tt, refl)) h).reads fit front;
  }
