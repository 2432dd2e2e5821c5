-- The spellings that begin with a byte stand side by side in the table.
use Rattle.std.proofs.Common.{◌≡◌, ℕ, zero, suc, ◌+◌, ◌-◌, ◌<◌, ◌≤◌, nat_le, nat_lt, nat_eq, List, [], ◌∷◌, length, map, take, drop, Bor, Bool, true, false, not, ◌&&◌, Some, None, if◌then◌else◌, refl, sym, ap, ◌∙◌, arith}
use Rattle.std.proofs.lemmas.List.{drop-drop, drop-map, length-map}
use Rattle.std.specs.List.{list_all}
use Rattle.std.specs.Str.{bytes_eq}
use Rattle.cov_expr.specs.declared.kind.Kind.{Kind}
use Rattle.cov_expr.specs.Inside.{start_of}
use Rattle.cov_expr.specs.Spellings.{spellings, kind_among, kind_of}

and_left : (a b : Bool) → (a && b) ≡ true → a ≡ true
and_left true b h = refl
and_left false b h = h

and_right : (a b : Bool) → (a && b) ≡ true → b ≡ true
and_right true b h = h
and_right false b h = cc

-- Spellings that begin with another byte -----------------------------------------------------------------------

abbrev begins : ℕ → List ℕ → Bool
begins b [] = false
begins b (c ∷ cs) = nat_eq b c

abbrev none_begins : ℕ → List (List ℕ × Kind) → Bool
none_begins b [] = true
none_begins b (s ∷ ss) = not (begins b s.0) && none_begins b ss

other : (b : ℕ) (rest text : List ℕ) → not (begins b text) ≡ true → bytes_eq (b ∷ rest) text ≡ false
other b rest [] h = refl
other b rest (c ∷ cs) h = by (nat_eq b c) refl h
  where
    by : (x : Bool) → nat_eq b c ≡ x → not x ≡ true → bytes_eq (b ∷ rest) (c ∷ cs) ≡ false
    by false e g = rw e refl
    by true e g = cc

passed : (b : ℕ) (rest : List ℕ) (s : List ℕ × Kind) (ss : List (List ℕ × Kind)) → none_begins b (s ∷ ss) ≡ true → kind_among (s ∷ ss) (b ∷ rest) ≡ kind_among ss (b ∷ rest)
passed b rest s ss h = rw (other b rest s.0 (and_left (not (begins b s.0)) (none_begins b ss) h)) refl

unfound : (b : ℕ) (rest : List ℕ) (ss : List (List ℕ × Kind)) → none_begins b ss ≡ true → kind_among ss (b ∷ rest) ≡ None
unfound b rest [] h = refl
unfound b rest (s ∷ ss) h = passed b rest s ss h ∙ unfound b rest ss (and_right (not (begins b s.0)) (none_begins b ss) h)

-- a front that is of no use
behind_front : (b : ℕ) (rest : List ℕ) (n : ℕ) (ss : List (List ℕ × Kind)) → none_begins b (take n ss) ≡ true → kind_among (drop n ss) (b ∷ rest) ≡ kind_among ss (b ∷ rest)
behind_front b rest zero ss h = refl
behind_front b rest (suc n) [] h = refl
behind_front b rest (suc n) (s ∷ ss) h =
    behind_front b rest n ss (and_right (not (begins b s.0)) (none_begins b (take n ss)) h)
    ∙ sym (rw (other b rest s.0 (and_left (not (begins b s.0)) (none_begins b (take n ss)) h)) refl)

-- an end that is of no use
before_end : (b : ℕ) (rest : List ℕ) (n : ℕ) (ss : List (List ℕ × Kind)) → none_begins b (drop n ss) ≡ true → kind_among (take n ss) (b ∷ rest) ≡ kind_among ss (b ∷ rest)
before_end b rest zero ss h = sym (unfound b rest ss h)
before_end b rest (suc n) [] h = refl
before_end b rest (suc n) (s ∷ ss) h = ap (λ k. if bytes_eq (b ∷ rest) s.0 then Some s.1 else k) (before_end b rest n ss h)

-- The table ----------------------------------------------------------------------------------------------------

abbrev pub all_below : (ℕ → Bool) → ℕ → Bool
all_below test zero = true
all_below test (suc n) = test n && all_below test n

pub is_below : (test : ℕ → Bool) (n k : ℕ) → all_below test n ≡ true → k < n → test k ≡ true
is_below test zero k h l = let no : ⊥ = omega arith in absurd no
is_below test (suc n) k h l = by (nat_eq k n) refl (is_below test n k (and_right (test n) (all_below test n) h))
  where
    by : (x : Bool) → nat_eq k n ≡ x → (k < n → test k ≡ true) → test k ≡ true
    by true e rest = let same : k ≡ n = grind (arith, e) in rw same (and_left (test n) (all_below test n) h)
    by false e rest = rest (grind (arith, e, l))

-- the spellings that begin with a byte are those from its start up to that of the next byte
abbrev in_order_at : ℕ → Bool
in_order_at b = nat_le (start_of b) (start_of (b + 1))

abbrev apart_at : ℕ → Bool
apart_at b = none_begins b (take (start_of b) spellings) && none_begins b (drop (start_of (b + 1)) spellings)

all_in_order : all_below in_order_at 128 ≡ true
unfolding start_of
all_in_order = refl

all_apart : all_below apart_at 128 ≡ true
unfolding start_of spellings
all_apart = refl

all_within : all_below (λ b. nat_le (start_of b) 69) 129 ≡ true
unfolding start_of
all_within = refl

pub in_order : (b : ℕ) → b < 128 → start_of b ≤ start_of (b + 1)
in_order b h = let e = is_below in_order_at 128 b all_in_order h in grind (arith, e)

pub within : (b : ℕ) → b ≤ 128 → start_of b ≤ 69
within b h = let e = is_below (λ k. nat_le (start_of k) 69) 129 b all_within (omega (arith, h)) in grind (arith, e)

found_among : (b : ℕ) (rest : List ℕ) (start end : ℕ) (ss : List (List ℕ × Kind)) → start ≤ end → none_begins b (take start ss) ≡ true → none_begins b (drop end ss) ≡ true
    → kind_among (take (end - start) (drop start ss)) (b ∷ rest) ≡ kind_among ss (b ∷ rest)
found_among b rest start end ss l front back =
    let same : drop (end - start) (drop start ss) ≡ drop end ss = drop-drop (end - start) start ss ∙ ap (λ n. drop n ss) (omega arith) in
    before_end b rest (end - start) (drop start ss) (ap (none_begins b) same ∙ back) ∙ behind_front b rest start ss front

abbrev Row : Type 0
Row = Bor (List ℕ) × Kind

abbrev shown : Row → List ℕ × Kind
shown s = (s.0.now, s.1)

take_shown : (n : ℕ) (rows : List Row) → map shown (take n rows) ≡ take n (map shown rows)
take_shown zero rows = refl
take_shown (suc n) [] = refl
take_shown (suc n) (r ∷ rows) = ap (λ ss. shown r ∷ ss) (take_shown n rows)

pub row_count : (rows : List Row) → map shown rows ≡ spellings → length rows ≡ 69
unfolding spellings
row_count rows all = sym (length-map rows shown) ∙ ap length all

pub found_there : (b : ℕ) (rest : List ℕ) (rows : List Row) (start end : ℕ) → map shown rows ≡ spellings → start ≡ start_of b → end ≡ start_of (b + 1) → b < 128
    → kind_among (map shown (take (end - start) (drop start rows))) (b ∷ rest) ≡ kind_of (b ∷ rest)
unfolding kind_of
found_there b rest rows start end all s e h =
    let a : apart_at b ≡ true = is_below apart_at 128 b all_apart h in
    let same : map shown (take (end - start) (drop start rows)) ≡ take (end - start) (drop start spellings) =
    take_shown (end - start) (drop start rows) ∙ ap (take (end - start)) (sym (drop-map shown start rows) ∙ ap (drop start) all) in
    ap (λ ss. kind_among ss (b ∷ rest)) same
    ∙ found_among b rest start end spellings (omega (arith, s, e, in_order b h))
    (ap (λ n. none_begins b (take n spellings)) s ∙ and_left (none_begins b (take (start_of b) spellings)) (none_begins b (drop (start_of (b + 1)) spellings)) a)
    (ap (λ n. none_begins b (drop n spellings)) e ∙ and_right (none_begins b (take (start_of b) spellings)) (none_begins b (drop (start_of (b + 1)) spellings)) a)

-- no spelling begins with a byte from 128 on
abbrev begins_low : List ℕ → Bool
begins_low [] = false
begins_low (c ∷ cs) = nat_lt c 128

low : (b : ℕ) → 128 ≤ b → (ss : List (List ℕ × Kind)) → list_all (λ s. begins_low s.0) ss ≡ true → none_begins b ss ≡ true
low b l [] h = refl
low b l (s ∷ ss) h = ap (λ x. not x && none_begins b ss) (one s.0 (and_left (begins_low s.0) (list_all (λ t. begins_low t.0) ss) h)) ∙ low b l ss (and_right (begins_low s.0) (list_all (λ t. begins_low t.0) ss) h)
  where
    one : (text : List ℕ) → begins_low text ≡ true → begins b text ≡ false
    one [] e = refl
    one (c ∷ cs) e = by (nat_eq b c) refl
      where
        by : (x : Bool) → nat_eq b c ≡ x → x ≡ false
        by false g = refl
        by true g = let no : ⊥ = grind (arith, e, g, l) in absurd no

all_low : list_all (λ s. begins_low s.0) spellings ≡ true
unfolding spellings
all_low = refl

pub none_from : (b : ℕ) (rest : List ℕ) → 128 ≤ b → None ≡ kind_of (b ∷ rest)
unfolding kind_of
none_from b rest l = sym (unfound b rest spellings (low b l spellings all_low))

pub empty_is_none : (text : List ℕ) → length text < 1 → None ≡ kind_of text
unfolding kind_of spellings
empty_is_none [] h = refl
empty_is_none (b ∷ bs) h = let no : ⊥ = omega (arith, h) in absurd no
