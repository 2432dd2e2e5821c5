-- Readers that read exactly what is spelled, and stop at the first byte with which nothing goes on.
use Rattle.std.proofs.Common.{◌≡◌, ℕ, zero, suc, List, [], ◌∷◌, ◌++◌, length, flat_map, replicate, refl, ap, sym, ◌∙◌, subst, append_assoc, Bool, true, false, if◌then◌else◌, Option, Some, None, Result, Ok, Err, ◌⊎◌, inl, inr}
use Rattle.std.specs.List.{AllByRecursion}
use Rattle.object_code.specs.Inside.ObjectReading.{Reader, ◌>>=◌, then_at, map_at, many_at, found, value_at, byte_at, scan}

bind_ok : {A B : Type 0} (r : Result A ℕ) (f : A → Result B ℕ) (y : B) → (r >>= f) ≡ Ok y → (x : A) × (r ≡ Ok x) × (f x ≡ Ok y)
bind_ok (Ok x) f y e = (x, refl, e)
bind_ok (Err n) f y e = absurd cc

bind_err : {A B : Type 0} (r : Result A ℕ) (f : A → Result B ℕ) (n : ℕ) → (r >>= f) ≡ Err n → (r ≡ Err n) ⊎ ((x : A) × (r ≡ Ok x) × (f x ≡ Err n))
bind_err (Ok x) f n e = inr (x, refl, e)
bind_err (Err m) f n e = inl (ap Err (let same : m ≡ n = cc in same))

pub bind_same : {A B : Type 0} (r : Result A ℕ) (f g : A → Result B ℕ) → ((a : A) → f a ≡ g a) → (r >>= f) ≡ (r >>= g)
bind_same (Ok a) f g h = h a
bind_same (Err n) f g h = refl

pub bind_done : {A : Type 0} (r : Result (A × List ℕ) ℕ) → r ≡ (r >>= λ a. Ok (a.0, a.1))
bind_done (Ok a) = refl
bind_done (Err n) = refl

abbrev pub done : {A : Type 0} → A → Result A ℕ
done x = Ok x

pub done_is : {A : Type 0} (x y : A) → done x ≡ done y → x ≡ y
done_is x y e = cc

pub done_pair : {A B : Type 0} (a c : A) (b d : B) → done {A = A × B} (a, b) ≡ done {A = A × B} (c, d) → (a ≡ c) × (b ≡ d)
done_pair {A} {B} a c b d e =
    let same = done_is {A = A × B} (a, b) (c, d) e in
    (ap (λ (p : A × B). p.0) same, ap (λ (p : A × B). p.1) same)

-- what was read, and what stands behind it
abbrev pub gives : {A : Type 0} → A → List ℕ → Result (A × List ℕ) ℕ
gives a bs = Ok (a, bs)

-- a byte where it passes a test
abbrev pub picked : ℕ → List ℕ → Bool → Result (ℕ × List ℕ) ℕ
picked b bs passes = if passes then Ok (b, bs) else Err (length (b ∷ bs))

-- a byte in front of others that are read
abbrev pub with_one : ℕ → List ℕ × List ℕ → Result (List ℕ × List ℕ) ℕ
with_one b x = Ok (b ∷ x.0, x.1)

-- the first of the bytes behind the front is refused, whatever follows it
abbrev pub Refuses : {A : Type 0} → Reader A → (front back : List ℕ) → Type 0
Refuses read front [] = Unit {0}
Refuses read front (b ∷ back) = (more : List ℕ) → read (front ++ b ∷ more) ≡ Err (length (b ∷ more))

-- Reading stops where so many bytes are left: those before them begin what is spelled of some item.
pub record StopsAt {A : Type 0} (spell : A → List ℕ) (In : A → Type 0) (read : Reader A) (bs : List ℕ) (left : ℕ) : Type 0 where
  pub front : List ℕ
  pub back : List ℕ
  pub parts : bs ≡ front ++ back
  pub count : length back ≡ left
  pub item : A
  pub inside : In item
  pub more : List ℕ
  pub begun : spell item ≡ front ++ more
  pub refuses : Refuses read front back

pub record IsExact {A : Type 0} (spell : A → List ℕ) (In : A → Type 0) (read : Reader A) : Type 0 where
  pub sound : (bs : List ℕ) (a : A) (rest : List ℕ) → read bs ≡ Ok (a, rest) → In a × (bs ≡ spell a ++ rest)
  pub again : (a : A) (rest : List ℕ) → In a → read (spell a ++ rest) ≡ Ok (a, rest)
  pub stops : (bs : List ℕ) (left : ℕ) → read bs ≡ Err left → StopsAt spell In read bs left

-- One behind the other ---------------------------------------------------------------------------------------------

module _ {A B C : Type 0} (spell1 : A → List ℕ) (In1 : A → Type 0) (read1 : Reader A) (spell2 : B → List ℕ) (In2 : A → B → Type 0) (read2 : A → Reader B) (made : A → B → C) (spell : C → List ℕ) (In : C → Type 0) where
  pub record Joins : Type 0 where
    pub first : IsExact spell1 In1 read1
    pub second : (a : A) → In1 a → IsExact spell2 (In2 a) (read2 a)
    pub some : (a : A) → In1 a → (b : B) × In2 a b
    pub spelled : (a : A) (b : B) → In1 a → In2 a b → spell (made a b) ≡ spell1 a ++ spell2 b
    pub fits : (a : A) (b : B) → In1 a → In2 a b → In (made a b)
    pub parts : (c : C) → In c → (a : A) × (b : B) × In1 a × In2 a b × (c ≡ made a b)

  abbrev behind : A × List ℕ → Result (C × List ℕ) ℕ
  behind a = read2 a.0 a.1 >>= λ b. Ok (made a.0 b.0, b.1)

  abbrev joined : Reader C
  joined = then_at read1 read2 made

  module _ (j : Joins) where
    then_sound : (bs : List ℕ) (c : C) (rest : List ℕ) → joined bs ≡ Ok (c, rest) → In c × (bs ≡ spell c ++ rest)
    then_sound bs c rest e =
        let a = bind_ok (read1 bs) behind (c, rest) e in
        let b = bind_ok (read2 a.0.0 a.0.1) (λ b. Ok (made a.0.0 b.0, b.1)) (c, rest) a.2 in
        let s1 = j.first.sound bs a.0.0 a.0.1 a.1 in
        let s2 = (j.second a.0.0 s1.0).sound a.0.1 b.0.0 b.0.1 b.1 in
        let whole : bs ≡ spell (made a.0.0 b.0.0) ++ b.0.1 =
        s1.1 ∙ ap (λ x. spell1 a.0.0 ++ x) s2.1 ∙ sym (append_assoc (spell1 a.0.0) (spell2 b.0.0) b.0.1) ∙ ap (λ x. x ++ b.0.1) (sym (j.spelled a.0.0 b.0.0 s1.0 s2.0)) in
        let made_is : C × List ℕ = (made a.0.0 b.0.0, b.0.1) in
        let last : C × List ℕ = (c, rest) in
        let same = done_is made_is last b.2 in
        subst (λ (p : C × List ℕ). In p.0 × (bs ≡ spell p.0 ++ p.1)) same (j.fits a.0.0 b.0.0 s1.0 s2.0, whole)

    then_again : (c : C) (rest : List ℕ) → In c → joined (spell c ++ rest) ≡ Ok (c, rest)
    then_again c rest h =
        let p = j.parts c h in
        let a = p.0 in
        let b = p.1 in
        let regrouped : spell (made a b) ++ rest ≡ spell1 a ++ (spell2 b ++ rest) = ap (λ x. x ++ rest) (j.spelled a b p.2 p.3) ∙ append_assoc (spell1 a) (spell2 b) rest in
        subst (λ (d : C). joined (spell d ++ rest) ≡ Ok (d, rest)) (sym p.4)
        (ap joined regrouped ∙ ap (λ r. r >>= behind) (j.first.again a (spell2 b ++ rest) p.2) ∙ ap (λ r. r >>= λ x. Ok (made a x.0, x.1)) ((j.second a p.2).again b rest p.3))

    early : (front back : List ℕ) → Refuses read1 front back → Refuses joined front back
    early front [] h = tt
    early front (b ∷ back) h = λ more. ap (λ r. r >>= behind) (h more)

    late : (a : A) → In1 a → (front back : List ℕ) → Refuses (read2 a) front back → Refuses joined (spell1 a ++ front) back
    late a inside front [] h = tt
    late a inside front (b ∷ back) h = λ more.
        ap joined (append_assoc (spell1 a) front (b ∷ more)) ∙ ap (λ r. r >>= behind) (j.first.again a (front ++ b ∷ more) inside)
        ∙ ap (λ r. r >>= λ x. Ok (made a x.0, x.1)) (h more)

    stops_early : (bs : List ℕ) (left : ℕ) → StopsAt spell1 In1 read1 bs left → StopsAt spell In joined bs left
    stops_early bs left s =
        let b = j.some s.item s.inside in
        record {
          front = s.front;
          back = s.back;
          parts = s.parts;
          count = s.count;
          item = made s.item b.0;
          inside = j.fits s.item b.0 s.inside b.1;
          more = s.more ++ spell2 b.0;
          begun = j.spelled s.item b.0 s.inside b.1 ∙ ap (λ x. x ++ spell2 b.0) s.begun ∙ append_assoc s.front s.more (spell2 b.0);
          refuses = early s.front s.back s.refuses;
        }

    stops_late : (bs : List ℕ) (left : ℕ) (a : A) (rest : List ℕ) → In1 a → bs ≡ spell1 a ++ rest → StopsAt spell2 (In2 a) (read2 a) rest left → StopsAt spell In joined bs left
    stops_late bs left a rest inside is s = record {
      front = spell1 a ++ s.front;
      back = s.back;
      parts = is ∙ ap (λ x. spell1 a ++ x) s.parts ∙ sym (append_assoc (spell1 a) s.front s.back);
      count = s.count;
      item = made a s.item;
      inside = j.fits a s.item inside s.inside;
      more = s.more;
      begun = j.spelled a s.item inside s.inside ∙ ap (λ x. spell1 a ++ x) s.begun ∙ sym (append_assoc (spell1 a) s.front s.more);
      refuses = late a inside s.front s.back s.refuses;
    }

    then_stops : (bs : List ℕ) (left : ℕ) → joined bs ≡ Err left → StopsAt spell In joined bs left
    then_stops bs left e = elim (bind_err (read1 bs) behind left e) [
      | inl h ↦ stops_early bs left (j.first.stops bs left h)
      | inr h ↦ (let s = j.first.sound bs h.0.0 h.0.1 h.1 in
          elim (bind_err (read2 h.0.0 h.0.1) (λ b. Ok (made h.0.0 b.0, b.1)) left h.2) [
            | inl k ↦ stops_late bs left h.0.0 h.0.1 s.0 s.1 ((j.second h.0.0 s.0).stops h.0.1 left k)
            | inr k ↦ absurd (cc (k.2))
          ])
    ]

    pub then_exact : IsExact spell In (then_at read1 read2 made)
    then_exact = record { sound = then_sound; again = then_again; stops = then_stops }

-- What is made of what is read -------------------------------------------------------------------------------------

module _ {A C : Type 0} (spell1 : A → List ℕ) (In1 : A → Type 0) (read1 : Reader A) (made : A → C) (spell : C → List ℕ) (In : C → Type 0) where
  pub record Makes : Type 0 where
    pub first : IsExact spell1 In1 read1
    pub spelled : (a : A) → In1 a → spell (made a) ≡ spell1 a
    pub fits : (a : A) → In1 a → In (made a)
    pub parts : (c : C) → In c → (a : A) × In1 a × (c ≡ made a)

  module _ (m : Makes) where
    map_sound : (bs : List ℕ) (c : C) (rest : List ℕ) → map_at made read1 bs ≡ Ok (c, rest) → In c × (bs ≡ spell c ++ rest)
    map_sound bs c rest e =
        let a = bind_ok (read1 bs) (λ a. Ok (made a.0, a.1)) (c, rest) e in
        let s = m.first.sound bs a.0.0 a.0.1 a.1 in
        let made_is : C × List ℕ = (made a.0.0, a.0.1) in
        let last : C × List ℕ = (c, rest) in
        let same = done_is made_is last a.2 in
        subst (λ (p : C × List ℕ). In p.0 × (bs ≡ spell p.0 ++ p.1)) same (m.fits a.0.0 s.0, s.1 ∙ ap (λ x. x ++ a.0.1) (sym (m.spelled a.0.0 s.0)))

    map_again : (c : C) (rest : List ℕ) → In c → map_at made read1 (spell c ++ rest) ≡ Ok (c, rest)
    map_again c rest h =
        let p = m.parts c h in
        subst (λ (d : C). map_at made read1 (spell d ++ rest) ≡ Ok (d, rest)) (sym p.2)
        (ap (λ x. map_at made read1 (x ++ rest)) (m.spelled p.0 p.1) ∙ ap (λ r. r >>= λ a. Ok (made a.0, a.1)) (m.first.again p.0 rest p.1))

    map_refuses : (front back : List ℕ) → Refuses read1 front back → Refuses (map_at made read1) front back
    map_refuses front [] h = tt
    map_refuses front (b ∷ back) h = λ more. ap (λ r. r >>= λ a. Ok (made a.0, a.1)) (h more)

    map_stops : (bs : List ℕ) (left : ℕ) → map_at made read1 bs ≡ Err left → StopsAt spell In (map_at made read1) bs left
    map_stops bs left e = elim (bind_err (read1 bs) (λ a. Ok (made a.0, a.1)) left e) [
      | inl h ↦ (let s = m.first.stops bs left h in
          record {
            front = s.front;
            back = s.back;
            parts = s.parts;
            count = s.count;
            item = made s.item;
            inside = m.fits s.item s.inside;
            more = s.more;
            begun = m.spelled s.item s.inside ∙ s.begun;
            refuses = map_refuses s.front s.back s.refuses;
          })
      | inr h ↦ absurd (cc (h.2))
    ]

    pub map_exact : IsExact spell In (map_at made read1)
    map_exact = record { sound = map_sound; again = map_again; stops = map_stops }

-- The same in other words ------------------------------------------------------------------------------------------

-- a range that is said in another way
pub in_exact : {A : Type 0} (spell : A → List ℕ) (In1 In2 : A → Type 0) (read : Reader A) → ((a : A) → In1 a → In2 a) → ((a : A) → In2 a → In1 a) → IsExact spell In1 read → IsExact spell In2 read
in_exact spell In1 In2 read there back exact = record {
  sound = λ bs a rest e. let s = exact.sound bs a rest e in (there a s.0, s.1);
  again = λ a rest h. exact.again a rest (back a h);
  stops = λ bs left e. let s = exact.stops bs left e in
      record { front = s.front; back = s.back; parts = s.parts; count = s.count; item = s.item; inside = there s.item s.inside; more = s.more; begun = s.begun; refuses = s.refuses };
}

-- a reader that reads the same
module _ {A : Type 0} (spell : A → List ℕ) (In : A → Type 0) (read other : Reader A) (same : (bs : List ℕ) → read bs ≡ other bs) where
  same_refuses : (front back : List ℕ) → Refuses other front back → Refuses read front back
  same_refuses front [] h = tt
  same_refuses front (b ∷ back) h = λ more. same (front ++ b ∷ more) ∙ h more

  pub same_exact : IsExact spell In other → IsExact spell In read
  same_exact exact = record {
    sound = λ bs a rest e. exact.sound bs a rest (sym (same bs) ∙ e);
    again = λ a rest h. same (spell a ++ rest) ∙ exact.again a rest h;
    stops = λ bs left e. let s = exact.stops bs left (sym (same bs) ∙ e) in
        record { front = s.front; back = s.back; parts = s.parts; count = s.count; item = s.item; inside = s.inside; more = s.more; begun = s.begun; refuses = same_refuses s.front s.back s.refuses };
  }

-- Nothing, and one byte --------------------------------------------------------------------------------------------

pub nothing_exact : {A : Type 0} (spell : A → List ℕ) (In : A → Type 0) (a : A) → spell a ≡ [] → In a → ((c : A) → In c → c ≡ a) → IsExact spell In (λ bs. Ok (a, bs))
nothing_exact spell In a none inside only = record {
  sound = λ bs c rest e. let p = done_pair a c bs rest e in (subst In p.0 inside, p.1 ∙ ap (λ x. x ++ rest) (sym (ap spell (sym p.0) ∙ none)));
  again = λ c rest h. let same : c ≡ a = only c h in
      ap (gives a) (ap (λ x. x ++ rest) (ap spell same ∙ none)) ∙ ap (λ x. gives x rest) (sym same);
  stops = λ bs left e. absurd (cc);
}

module _ {A : Type 0} (meaning : ℕ → Option A) (byte : A → ℕ) (In : A → Type 0) (means : (b : ℕ) (a : A) → meaning b ≡ Some a → In a × (byte a ≡ b)) (back : (a : A) → In a → meaning (byte a) ≡ Some a) (some : A) (inside : In some) where
  abbrev one : A → List ℕ
  one a = byte a ∷ []

  value_sound : (bs : List ℕ) (a : A) (rest : List ℕ) → value_at meaning bs ≡ Ok (a, rest) → In a × (bs ≡ one a ++ rest)
  value_sound [] a rest e = absurd cc
  value_sound (b ∷ bs) a rest e = by (meaning b) refl e
    where
      by : (o : Option A) → meaning b ≡ o → found o bs (length (b ∷ bs)) ≡ Ok (a, rest) → In a × (b ∷ bs ≡ one a ++ rest)
      by None is h = absurd cc
      by (Some x) is h =
          let p = done_pair x a bs rest h in
          let m = means b a (is ∙ ap Some p.0) in
          (m.0, ap (λ y. y ∷ bs) (sym m.1) ∙ ap (λ ys. byte a ∷ ys) p.1)

  value_stops : (bs : List ℕ) (left : ℕ) → value_at meaning bs ≡ Err left → StopsAt one In (value_at meaning) bs left
  value_stops [] left e = record { front = []; back = []; parts = refl; count = let is : 0 ≡ left = cc in is; item = some; inside = inside; more = one some; begun = refl; refuses = tt }
  value_stops (b ∷ bs) left e = by (meaning b) refl e
    where
      by : (o : Option A) → meaning b ≡ o → found o bs (length (b ∷ bs)) ≡ Err left → StopsAt one In (value_at meaning) (b ∷ bs) left
      by None is h = record {
        front = [];
        back = b ∷ bs;
        parts = refl;
        count = let same : length (b ∷ bs) ≡ left = cc in same;
        item = some;
        inside = inside;
        more = one some;
        begun = refl;
        refuses = λ more. ap (λ o. found o more (length (b ∷ more))) is;
      }
      by (Some x) is h = absurd cc

  pub value_exact : IsExact (λ a. byte a ∷ []) In (value_at meaning)
  value_exact = record { sound = value_sound; again = λ a rest h. ap (λ o. found o rest (length (byte a ∷ rest))) (back a h); stops = value_stops }

module _ (test : ℕ → Bool) (some : ℕ) (passes : test some ≡ true) where
  byte_sound : (bs : List ℕ) (b : ℕ) (rest : List ℕ) → byte_at test bs ≡ Ok (b, rest) → (test b ≡ true) × (bs ≡ b ∷ [] ++ rest)
  byte_sound [] b rest e = absurd cc
  byte_sound (c ∷ bs) b rest e = by (test c) refl e
    where
      by : (t : Bool) → test c ≡ t → picked c bs t ≡ gives b rest → (test b ≡ true) × (c ∷ bs ≡ b ∷ [] ++ rest)
      by true is h = let p = done_pair c b bs rest h in (subst (λ x. test x ≡ true) p.0 is, ap (λ x. x ∷ bs) p.0 ∙ ap (λ xs. b ∷ xs) p.1)
      by false is h = absurd cc

  byte_stops : (bs : List ℕ) (left : ℕ) → byte_at test bs ≡ Err left → StopsAt (λ b. b ∷ []) (λ b. test b ≡ true) (byte_at test) bs left
  byte_stops [] left e = record { front = []; back = []; parts = refl; count = let is : 0 ≡ left = cc in is; item = some; inside = passes; more = some ∷ []; begun = refl; refuses = tt }
  byte_stops (c ∷ bs) left e = by (test c) refl e
    where
      by : (t : Bool) → test c ≡ t → picked c bs t ≡ Err left → StopsAt (λ b. b ∷ []) (λ b. test b ≡ true) (byte_at test) (c ∷ bs) left
      by true is h = absurd cc
      by false is h = record {
        front = [];
        back = c ∷ bs;
        parts = refl;
        count = let same : length (c ∷ bs) ≡ left = cc in same;
        item = some;
        inside = passes;
        more = some ∷ [];
        begun = refl;
        refuses = λ more. ap (picked c more) is;
      }

  pub byte_exact : IsExact (λ b. b ∷ []) (λ b. test b ≡ true) (byte_at test)
  byte_exact = record { sound = byte_sound; again = λ b rest h. ap (picked b rest) h; stops = byte_stops }

-- Many -------------------------------------------------------------------------------------------------------------

-- so many items that are each in range
abbrev pub AreMany : {A : Type 0} → (A → Type 0) → ℕ → List A → Type 0
AreMany In n items = (length items ≡ n) × AllByRecursion In items

pub copies : {A : Type 0} (In : A → Type 0) (some : A) → In some → (n : ℕ) → AreMany In n (replicate n some)
copies In some inside zero = (refl, tt)
copies In some inside (suc n) = let rest = copies In some inside n in (ap suc rest.0, (inside, rest.1))

module _ {A : Type 0} (spell : A → List ℕ) (In : A → Type 0) (read : Reader A) (exact : IsExact spell In read) (some : A) (inside : In some) where
  pub many_exact : (n : ℕ) → IsExact (flat_map spell) (AreMany In n) (many_at read n)
  many_exact zero = nothing_exact (flat_map spell) (AreMany In 0) [] refl (refl, tt) only
    where
      only : (items : List A) → AreMany In 0 items → items ≡ []
      only [] h = refl
      only (a ∷ items) h = absurd cc
  many_exact (suc n) = then_exact spell In read (flat_map spell) (λ _. AreMany In n) (λ _. many_at read n) (λ a others. a ∷ others) (flat_map spell) (AreMany In (suc n)) (record {
    first = exact;
    second = λ a h. many_exact n;
    some = λ a h. (replicate n some, copies In some inside n);
    spelled = λ a others h g. refl;
    fits = λ a others h g. (ap suc g.0, (h, g.1));
    parts = parts n;
  })
    where
      parts : (n : ℕ) (items : List A) → AreMany In (suc n) items → (a : A) × (others : List A) × In a × AreMany In n others × (items ≡ a ∷ others)
      parts n [] h = absurd cc
      parts n (a ∷ items) h = (a, items, h.1.0, (cc, h.1.1), refl)

-- Bytes of which each may stand behind those before it -------------------------------------------------------------

module _ {S : Type 0} (goes : ℕ → S → ℕ → Bool) (next : S → ℕ → S) where
  -- each byte goes on, and there are so many
  abbrev pub AllGo : ℕ → S → List ℕ → Type 0
  AllGo zero s [] = Unit {0}
  AllGo zero s (b ∷ text) = ⊥
  AllGo (suc left) s [] = ⊥
  AllGo (suc left) s (b ∷ text) = (goes left s b ≡ true) × AllGo left (next s b) text

  module _ (Ready : ℕ → S → Type 0) (step : (left : ℕ) (s : S) → Ready (suc left) s → (b : ℕ) × (goes left s b ≡ true)) (keep : (left : ℕ) (s : S) (b : ℕ) → Ready (suc left) s → goes left s b ≡ true → Ready left (next s b)) where
    pub some_text : (left : ℕ) (s : S) → Ready left s → (text : List ℕ) × AllGo left s text
    some_text zero s ready = ([], tt)
    some_text (suc left) s ready =
        let b = step left s ready in
        let rest = some_text left (next s b.0) (keep left s b.0 ready b.1) in
        (b.0 ∷ rest.0, (b.1, rest.1))

    pub scan_exact : (left : ℕ) (s : S) → Ready left s → IsExact (λ text. text) (AllGo left s) (scan goes next left s)
    scan_exact zero s ready = nothing_exact (λ text. text) (AllGo 0 s) [] refl tt only
      where
        only : (text : List ℕ) → AllGo 0 s text → text ≡ []
        only [] h = refl
        only (b ∷ text) h = absurd h
    scan_exact (suc left) s ready =
        let b = step left s ready in
        then_exact (λ b. b ∷ []) (λ b. goes left s b ≡ true) (byte_at (goes left s)) (λ text. text) (λ b. AllGo left (next s b)) (λ b. scan goes next left (next s b)) (λ b text. b ∷ text) (λ text. text) (AllGo (suc left) s) (record {
          first = byte_exact (goes left s) b.0 b.1;
          second = λ b h. scan_exact left (next s b) (keep left s b ready h);
          some = λ b h. some_text left (next s b) (keep left s b ready h);
          spelled = λ b text h g. refl;
          fits = λ b text h g. (h, g);
          parts = parts left s;
        })
      where
        parts : (left : ℕ) (s : S) (text : List ℕ) → AllGo (suc left) s text → (b : ℕ) × (rest : List ℕ) × (goes left s b ≡ true) × AllGo left (next s b) rest × (text ≡ b ∷ rest)
        parts left s [] h = absurd h
        parts left s (b ∷ text) h = (b, text, h.0, h.1, refl)
