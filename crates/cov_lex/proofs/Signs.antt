-- Signs are looked up by their length, and words by their whole run: what the table says of them.
use Rattle.std.proofs.Common.{◌≡◌, ℕ, zero, suc, ◌==◌, ◌<◌, ◌≤◌, nat_lt, List, [], ◌∷◌, length, map, take, Bool, true, false, cond, not, ◌&&◌, ◌||◌, if◌then◌else◌, Option, Some, None, Ok, Err, refl, sym, ap, subst, ◌∙◌, arith, ⊎_elim, true≢false, eqb-true, length-take}
use Rattle.std.proofs.Math.Seq.{take-length}
use Rattle.std.proofs.lemmas.Bool.{and_parts, or_cases}
use Rattle.std.proofs.lemmas.Slice.Eq.{bytes_eq-Decides}
use Rattle.std.specs.List.{list_all, list_any, filter}
use Rattle.std.specs.Option.{is_some, unwrap_or}
use Rattle.std.specs.Str.{bytes_eq}
use Rattle.cov_expr.specs.declared.kind.Kind.{Kind}
use Rattle.cov_expr.specs.declared.kind.Kind.TheVariants as k
use Rattle.cov_expr.specs.Spellings.{spellings, kind_among, kind_of, begins_with_letter, is_keyword}
use Rattle.cov_lex.specs.Signs.{signs, doubles, singles, is_sign}
use Rattle.cov_lex.specs.Classified as spec
use Rattle.cov_lex.specs.Inside.{with_kind}
use Rattle.cov_lex.specs.Lexing.{Part, word_of, sign_of}
use Rattle.cov_lex.specs.declared.token.TokenKind.TheVariants.{Keyword, Name, Sign}
use Rattle.cov_lex.specs.declared.piece.Piece.TheVariants as code
use Rattle.cov_lex.specs.declared.fault.LexFault.TheVariants.{BadByte, NameTooLong}

-- what is one of texts of a length has that length
pub same_length : (text : List ℕ) (n : ℕ) (texts : List (List ℕ)) → list_any (bytes_eq text) texts ≡ true → list_all (λ s. length s == n) texts ≡ true → length text ≡ n
same_length text n [] e h = absurd (true≢false (sym e))
same_length text n (s ∷ texts) e h =
    let parts = and_parts _ _ h in
    ⊎_elim (λ is. ap length ((bytes_eq-Decides text s).0 is) ∙ eqb-true (length s) n parts.0) (λ rest. same_length text n texts rest parts.1) (or_cases (bytes_eq text s) (list_any (bytes_eq text) texts) e)

-- what is one of texts that pass a test passes it
passes_among : (p : List ℕ → Bool) (text : List ℕ) (texts : List (List ℕ)) → list_all p texts ≡ true → list_any (bytes_eq text) texts ≡ true → p text ≡ true
passes_among p text [] all e = absurd (true≢false (sym e))
passes_among p text (s ∷ texts) all e =
    let parts = and_parts (p s) (list_all p texts) all in
    ⊎_elim (λ is. ap p ((bytes_eq-Decides text s).0 is) ∙ parts.0) (λ rest. passes_among p text texts parts.1 rest) (or_cases (bytes_eq text s) (list_any (bytes_eq text) texts) e)

filter_all : (p : List ℕ → Bool) (xs : List (List ℕ)) → list_all p (filter p xs) ≡ true
filter_all p [] = refl
filter_all p (x ∷ xs) = by (p x) refl (filter_all p xs)
  where
    by : (b : Bool) → p x ≡ b → list_all p (filter p xs) ≡ true → list_all p (cond b (x ∷ filter p xs) (filter p xs)) ≡ true
    by true e rest = ap (λ c. c && list_all p (filter p xs)) e ∙ rest
    by false e rest = rest

filter_any : (p q : List ℕ → Bool) (xs : List (List ℕ)) → list_any p (filter q xs) ≡ true → list_any p xs ≡ true
filter_any p q [] h = h
filter_any p q (x ∷ xs) h = by (q x) (p x) refl h (filter_any p q xs)
  where
    by : (b c : Bool) → p x ≡ c → list_any p (cond b (x ∷ filter q xs) (filter q xs)) ≡ true → (list_any p (filter q xs) ≡ true → list_any p xs ≡ true) → (c || list_any p xs) ≡ true
    by b true e g rest = refl
    by true false e g rest = rest (sym (ap (λ d. d || list_any p (filter q xs)) e) ∙ g)
    by false false e g rest = rest g

-- a filter that lets pass what is looked for
any_filter : (p q : List ℕ → Bool) → ((x : List ℕ) → p x ≡ true → q x ≡ true) → (xs : List (List ℕ)) → list_any p (filter q xs) ≡ list_any p xs
any_filter p q passes [] = refl
any_filter p q passes (x ∷ xs) = by (p x) (q x) refl refl (any_filter p q passes xs)
  where
    by : (b c : Bool) → p x ≡ b → q x ≡ c → list_any p (filter q xs) ≡ list_any p xs → list_any p (cond c (x ∷ filter q xs) (filter q xs)) ≡ (b || list_any p xs)
    by true true e f rest = ap (λ d. d || list_any p (filter q xs)) e
    by true false e f rest = absurd (true≢false (sym (passes x e) ∙ f))
    by false true e f rest = ap (λ d. d || list_any p (filter q xs)) e ∙ rest
    by false false e f rest = rest

pub doubles_length : list_all (λ s. length s == 2) doubles ≡ true
unfolding doubles
doubles_length = filter_all (λ s. length s == 2) signs

pub singles_length : list_all (λ s. length s == 1) singles ≡ true
unfolding singles
singles_length = filter_all (λ s. length s == 1) signs

pub double_is_sign : (text : List ℕ) → list_any (bytes_eq text) doubles ≡ true → is_sign text ≡ true
unfolding doubles
double_is_sign text h = filter_any (bytes_eq text) (λ s. length s == 2) signs h

pub single_is_sign : (text : List ℕ) → list_any (bytes_eq text) singles ≡ true → is_sign text ≡ true
unfolding singles
single_is_sign text h = filter_any (bytes_eq text) (λ s. length s == 1) signs h

-- The table ----------------------------------------------------------------------------------------------------

pub is_there : (text : List ℕ) (ss : List (List ℕ × Kind)) → list_any (bytes_eq text) (map (λ s. s.0) ss) ≡ is_some (kind_among ss text)
is_there text [] = refl
is_there text (s ∷ ss) = by (bytes_eq text s.0) (is_there text ss)
  where
    by : (b : Bool) → list_any (bytes_eq text) (map (λ x. x.0) ss) ≡ is_some (kind_among ss text) → (b || list_any (bytes_eq text) (map (λ x. x.0) ss)) ≡ is_some (if b then Some s.1 else kind_among ss text)
    by true rest = refl
    by false rest = rest

-- a text that is no word is a sign exactly where it has a kind
sign_is : (text : List ℕ) → begins_with_letter text ≡ false → list_any (bytes_eq text) signs ≡ is_some (kind_of text)
unfolding signs kind_of
sign_is text letter =
    any_filter (bytes_eq text) (λ t. not (begins_with_letter t)) (λ x e. subst (λ t. not (begins_with_letter t) ≡ true) ((bytes_eq-Decides text x).0 e) (ap not letter)) (map (λ s. s.0) spellings)
    ∙ is_there text spellings

-- what is a sign is no word, and has a kind
pub sign_begins : (text : List ℕ) → is_sign text ≡ true → (begins_with_letter text ≡ false) × (is_some (kind_of text) ≡ true)
unfolding signs
sign_begins text h = by (begins_with_letter text) refl
  where
    rest : List (List ℕ)
    rest = filter (λ t. not (begins_with_letter t)) (map (λ s. s.0) spellings)

    no_letter : list_all (λ t. not (begins_with_letter t)) rest ≡ true → not (begins_with_letter text) ≡ true
    no_letter all = passes_among (λ t. not (begins_with_letter t)) text rest all h

    by : (b : Bool) → begins_with_letter text ≡ b → (begins_with_letter text ≡ false) × (is_some (kind_of text) ≡ true)
    by false e = (e, sym (sign_is text e) ∙ h)
    by true e = absurd (true≢false (sym (no_letter (filter_all (λ t. not (begins_with_letter t)) (map (λ s. s.0) spellings))) ∙ ap not e))

same_len : (text : List ℕ) (n : ℕ) → length text ≡ n → (x : List ℕ) → bytes_eq text x ≡ true → (length x == n) ≡ true
same_len text n len x e = grind (arith, len, ap length ((bytes_eq-Decides text x).0 e))

pub double_is : (text : List ℕ) → begins_with_letter text ≡ false → length text ≡ 2 → list_any (bytes_eq text) doubles ≡ is_some (kind_of text)
unfolding doubles
double_is text letter len = any_filter (bytes_eq text) (λ s. length s == 2) (same_len text 2 len) signs ∙ sign_is text letter

pub single_is : (text : List ℕ) → begins_with_letter text ≡ false → length text ≡ 1 → list_any (bytes_eq text) singles ≡ is_some (kind_of text)
unfolding singles
single_is text letter len = any_filter (bytes_eq text) (λ s. length s == 1) (same_len text 1 len) signs ∙ sign_is text letter

no_double : (text : List ℕ) → length text ≡ 1 → list_any (bytes_eq text) doubles ≡ false
no_double text len = by (list_any (bytes_eq text) doubles) refl
  where
    by : (b : Bool) → list_any (bytes_eq text) doubles ≡ b → b ≡ false
    by false e = refl
    by true e = let no : ⊥ = omega (arith, same_length text 2 doubles e doubles_length, len) in absurd no

-- What code answers --------------------------------------------------------------------------------------------

-- a word that is no keyword is a name
word_kind : (run : List ℕ) → begins_with_letter run ≡ true → spec.kind_of (if is_keyword run then Keyword else Name) run ≡ unwrap_or (kind_of run) k.Name
unfolding is_keyword
word_kind run letter = ap (λ b. spec.kind_of (if b && is_some (kind_of run) then Keyword else Name) run) letter ∙ by (kind_of run) refl
  where
    by : (o : Option Kind) → kind_of run ≡ o → spec.kind_of (if is_some o then Keyword else Name) run ≡ unwrap_or o k.Name
    by None e = refl
    by (Some j) e = ap (λ o. unwrap_or o k.Name) e

no_value : (b : Bool) → spec.number_value (if b then Keyword else Name) ≡ 0
no_value true = refl
no_value false = refl

pub word_is : (at : ℕ) (run : List ℕ) → begins_with_letter run ≡ true → length run ≤ 32 → Ok (code.Part (unwrap_or (kind_of run) k.Name) 0 (length run)) ≡ with_kind run (word_of at run)
word_is at run letter short = by (nat_lt 32 (length run)) refl
  where
    made : Ok (code.Part (unwrap_or (kind_of run) k.Name) 0 (length run)) ≡ with_kind run (Ok (Part (if is_keyword run then Keyword else Name) (length run)))
    made =
        ap (λ j. Ok (code.Part j 0 (length run))) (sym (word_kind run letter) ∙ ap (spec.kind_of (if is_keyword run then Keyword else Name)) (sym (take-length run)))
        ∙ ap (λ v. Ok (code.Part (spec.kind_of (if is_keyword run then Keyword else Name) (take (length run) run)) v (length run))) (sym (no_value (is_keyword run)))

    by : (b : Bool) → nat_lt 32 (length run) ≡ b → Ok (code.Part (unwrap_or (kind_of run) k.Name) 0 (length run)) ≡ with_kind run (if b then Err (NameTooLong at) else Ok (Part (if is_keyword run then Keyword else Name) (length run)))
    by false e = made
    by true e = let no : ⊥ = grind (arith, e, short) in absurd no

pub long_is : (at : ℕ) (run : List ℕ) → 32 < length run → Err (NameTooLong at) ≡ with_kind run (word_of at run)
long_is at run long = by (nat_lt 32 (length run)) refl
  where
    by : (b : Bool) → nat_lt 32 (length run) ≡ b → Err (NameTooLong at) ≡ with_kind run (if b then Err (NameTooLong at) else Ok (Part (if is_keyword run then Keyword else Name) (length run)))
    by true e = refl
    by false e = let no : ⊥ = grind (arith, e, long) in absurd no

-- a sign of two bytes, one of a byte, and none
module _ (at : ℕ) (text : List ℕ) where
  signs_by : (two one : Bool) → list_any (bytes_eq (take 2 text)) doubles ≡ two → list_any (bytes_eq (take 1 text)) singles ≡ one
      → sign_of at text ≡ (if two then Ok (Part Sign 2) else (if one then Ok (Part Sign 1) else Err (BadByte at)))
  signs_by two one d s =
      ap (λ b. if b then Ok (Part Sign 2) else (if list_any (bytes_eq (take 1 text)) singles then Ok (Part Sign 1) else Err (BadByte at))) d
      ∙ ap (λ b. if two then Ok (Part Sign 2) else (if b then Ok (Part Sign 1) else Err (BadByte at))) s

  letter_at : (n : ℕ) → begins_with_letter text ≡ false → begins_with_letter (take n text) ≡ false
  letter_at n letter = by n text letter
    where
      by : (m : ℕ) (bs : List ℕ) → begins_with_letter bs ≡ false → begins_with_letter (take m bs) ≡ false
      by zero bs h = refl
      by (suc m) [] h = refl
      by (suc m) (b ∷ bs) h = h

  pub two_is : (j : Kind) → begins_with_letter text ≡ false → 1 < length text → Some j ≡ kind_of (take 2 text) → Ok (code.Part j 0 2) ≡ with_kind text (sign_of at text)
  two_is j letter long e =
      sym (ap (with_kind text) (signs_by true (list_any (bytes_eq (take 1 text)) singles) (double_is (take 2 text) (letter_at 2 letter) (omega (arith, length-take 2 text)) ∙ ap is_some (sym e)) refl)
      ∙ ap (λ o. Ok (code.Part (unwrap_or o k.Name) 0 2)) (sym e))

  module _ (none : list_any (bytes_eq (take 2 text)) doubles ≡ false) (letter : begins_with_letter text ≡ false) (some : 0 < length text) where
    pub one_is : (j : Kind) → Some j ≡ kind_of (take 1 text) → Ok (code.Part j 0 1) ≡ with_kind text (sign_of at text)
    one_is j e =
        sym (ap (with_kind text) (signs_by false true none (single_is (take 1 text) (letter_at 1 letter) (omega (arith, length-take 1 text)) ∙ ap is_some (sym e)))
        ∙ ap (λ o. Ok (code.Part (unwrap_or o k.Name) 0 1)) (sym e))

    pub none_is : None ≡ kind_of (take 1 text) → Err (BadByte at) ≡ with_kind text (sign_of at text)
    none_is e = sym (ap (with_kind text) (signs_by false false none (single_is (take 1 text) (letter_at 1 letter) (omega (arith, length-take 1 text)) ∙ ap is_some (sym e))))

  pub no_two : begins_with_letter text ≡ false → 1 < length text → None ≡ kind_of (take 2 text) → list_any (bytes_eq (take 2 text)) doubles ≡ false
  no_two letter long e = double_is (take 2 text) (letter_at 2 letter) (omega (arith, length-take 2 text)) ∙ ap is_some (sym e)

  pub too_short : 0 < length text → length text ≤ 1 → list_any (bytes_eq (take 2 text)) doubles ≡ false
  too_short some short = no_double (take 2 text) (omega (arith, length-take 2 text))
