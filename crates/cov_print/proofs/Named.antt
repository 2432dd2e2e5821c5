-- Names of a text by number: each is a name, none stands twice, and they are those of its tokens, in order.
use Rattle.std.proofs.Common.{◌≡◌, ℕ, zero, suc, ◌+◌, ◌≤◌, nat_lt, List, [], ◌∷◌, ◌++◌, length, get_or, Bool, true, false, not, cond, ◌||◌, if◌then◌else◌, refl, sym, ap, ◌∙◌, arith, true≢false, length-append}
use Rattle.std.proofs.lemmas.Slice.Eq.{bytes_eq-Decides}
use Rattle.std.specs.List.{list_any}
use Rattle.std.specs.Str.{bytes_eq}
use Rattle.cov_ast.specs.NameTables.{number_of, with_name}

-- Lists --------------------------------------------------------------------------------------------------------

abbrev pub Every : {A : Type 0} → (A → Type 0) → List A → Type 0
Every P [] = Unit {0}
Every P (x ∷ xs) = P x × Every P xs

pub every_append : {A : Type 0} (P : A → Type 0) (xs ys : List A) → Every P xs → Every P ys → Every P (xs ++ ys)
every_append P [] ys h g = g
every_append P (x ∷ xs) ys h g = (h.0, every_append P xs ys h.1 g)

pub every_map : {A : Type 0} (P Q : A → Type 0) → ((x : A) → P x → Q x) → (xs : List A) → Every P xs → Every Q xs
every_map P Q f [] h = tt
every_map P Q f (x ∷ xs) h = (f x h.0, every_map P Q f xs h.1)

-- a number below the length, as a test
pub below_suc : {A : Type 0} (n : A) (ns : List A) (x : ℕ) → nat_lt (suc x) (length (n ∷ ns)) ≡ true → nat_lt x (length ns) ≡ true
below_suc n ns x e = grind (arith, e)

none_below : (x : ℕ) → nat_lt x 0 ≡ true → ⊥
none_below x e = grind (arith, e)

pub every_at : {A : Type 0} (P : A → Type 0) (xs : List A) (d : A) → Every P xs → (x : ℕ) → nat_lt x (length xs) ≡ true → P (get_or xs x d)
every_at P [] d h x e = absurd (none_below x e)
every_at P (a ∷ xs) d h zero e = h.0
every_at P (a ∷ xs) d h (suc x) e = every_at P xs d h.1 x (below_suc a xs x e)

-- whatever stands for what isn't there
pub get_same : {A : Type 0} (xs : List A) (c d : A) (x : ℕ) → nat_lt x (length xs) ≡ true → get_or xs x c ≡ get_or xs x d
get_same [] c d x e = absurd (none_below x e)
get_same (a ∷ xs) c d zero e = refl
get_same (a ∷ xs) c d (suc x) e = get_same xs c d x (below_suc a xs x e)

-- Distinct names -----------------------------------------------------------------------------------------------

abbrev pub Differs : List ℕ → List ℕ → Type 0
Differs a b = b ≡ a → ⊥

abbrev pub AreDistinct : List (List ℕ) → Type 0
AreDistinct [] = Unit {0}
AreDistinct (n ∷ ns) = Every (Differs n) ns × AreDistinct ns

not_there : (b : List ℕ) (ns : List (List ℕ)) → list_any (bytes_eq b) ns ≡ false → Every (Differs b) ns
not_there b [] e = tt
not_there b (n ∷ ns) e = by (bytes_eq b n) refl e (not_there b ns)
  where
    by : (c : Bool) → bytes_eq b n ≡ c → (c || list_any (bytes_eq b) ns) ≡ false → (list_any (bytes_eq b) ns ≡ false → Every (Differs b) ns) → Every (Differs b) (n ∷ ns)
    by true g h f = absurd (true≢false h)
    by false g h f = (λ same. true≢false (sym ((bytes_eq-Decides b n).1 (sym same)) ∙ g), f h)

one_more : (b : List ℕ) (ns : List (List ℕ)) → AreDistinct ns → Every (Differs b) ns → AreDistinct (ns ++ b ∷ [])
one_more b [] h g = (tt, tt)
one_more b (n ∷ ns) h g = (every_append (Differs n) ns (b ∷ []) h.0 (λ e. g.0 (sym e), tt), one_more b ns h.1 g.1)

with_distinct : (b : List ℕ) (ns : List (List ℕ)) → AreDistinct ns → AreDistinct (with_name ns b)
with_distinct b ns h = by (list_any (bytes_eq b) ns) refl
  where
    by : (c : Bool) → list_any (bytes_eq b) ns ≡ c → AreDistinct (if c then ns else ns ++ b ∷ [])
    by true e = h
    by false e = one_more b ns h (not_there b ns e)

-- the number of a name by number
pub number_name : (ns : List (List ℕ)) (d : List ℕ) → AreDistinct ns → (x : ℕ) → nat_lt x (length ns) ≡ true → number_of ns (get_or ns x d) ≡ x
number_name [] d h x e = absurd (none_below x e)
number_name (n ∷ ns) d h zero e = ap (λ c. cond (not c) (1 + number_of ns n) 0) ((bytes_eq-Decides n n).1 refl)
number_name (n ∷ ns) d h (suc x) e =
    let g = below_suc n ns x e in
    ap (λ c. cond (not c) (1 + number_of ns (get_or ns x d)) 0) (other (bytes_eq (get_or ns x d) n) refl) ∙ ap (λ k. 1 + k) (number_name ns d h.1 x g) ∙ omega arith
  where
    other : (c : Bool) → bytes_eq (get_or ns x d) n ≡ c → c ≡ false
    other false g = refl
    other true g = absurd (every_at (Differs n) ns d h.0 x (below_suc n ns x e) ((bytes_eq-Decides (get_or ns x d) n).0 g))

-- Names of a list ----------------------------------------------------------------------------------------------

-- names behind others, each that isn't there yet
abbrev pub added : List (List ℕ) → List (List ℕ) → List (List ℕ)
added ns [] = ns
added ns (b ∷ bs) = added (with_name ns b) bs

pub added_distinct : (ns bs : List (List ℕ)) → AreDistinct ns → AreDistinct (added ns bs)
added_distinct ns [] h = h
added_distinct ns (b ∷ bs) h = added_distinct (with_name ns b) bs (with_distinct b ns h)

pub added_every : (P : List ℕ → Type 0) (ns bs : List (List ℕ)) → Every P ns → Every P bs → Every P (added ns bs)
added_every P ns [] h g = h
added_every P ns (b ∷ bs) h g = added_every P (with_name ns b) bs (by (list_any (bytes_eq b) ns)) g.1
  where
    by : (c : Bool) → Every P (if c then ns else ns ++ b ∷ [])
    by true = h
    by false = every_append P ns (b ∷ []) h (g.0, tt)

pub added_length : (ns bs : List (List ℕ)) → length (added ns bs) ≤ length ns + length bs
added_length ns [] = omega arith
added_length ns (b ∷ bs) = omega (arith, added_length (with_name ns b) bs, by (list_any (bytes_eq b) ns))
  where
    by : (c : Bool) → length (if c then ns else ns ++ b ∷ []) ≤ length ns + 1
    by true = omega arith
    by false = omega (arith, length-append ns (b ∷ []))

-- a name that is there
abbrev pub IsIn : List (List ℕ) → List ℕ → Type 0
IsIn ns b = list_any (bytes_eq b) ns ≡ true

any_append : (b : List ℕ) (ns ms : List (List ℕ)) → IsIn ns b → IsIn (ns ++ ms) b
any_append b [] ms h = absurd (true≢false (sym h))
any_append b (n ∷ ns) ms h = by (bytes_eq b n) h (any_append b ns ms)
  where
    by : (c : Bool) → (c || list_any (bytes_eq b) ns) ≡ true → (IsIn ns b → IsIn (ns ++ ms) b) → (c || list_any (bytes_eq b) (ns ++ ms)) ≡ true
    by true g f = refl
    by false g f = f g

any_last : (b : List ℕ) (ns : List (List ℕ)) → IsIn (ns ++ b ∷ []) b
any_last b [] = ap (λ c. c || false) ((bytes_eq-Decides b b).1 refl)
any_last b (n ∷ ns) = by (bytes_eq b n) (any_last b ns)
  where
    by : (c : Bool) → IsIn (ns ++ b ∷ []) b → (c || list_any (bytes_eq b) (ns ++ b ∷ [])) ≡ true
    by true f = refl
    by false f = f

with_in : (a b : List ℕ) (ns : List (List ℕ)) → IsIn ns a → IsIn (with_name ns b) a
with_in a b ns h = by (list_any (bytes_eq b) ns)
  where
    by : (c : Bool) → IsIn (if c then ns else ns ++ b ∷ []) a
    by true = h
    by false = any_append a ns (b ∷ []) h

with_itself : (b : List ℕ) (ns : List (List ℕ)) → IsIn (with_name ns b) b
with_itself b ns = by (list_any (bytes_eq b) ns) refl
  where
    by : (c : Bool) → list_any (bytes_eq b) ns ≡ c → IsIn (if c then ns else ns ++ b ∷ []) b
    by true e = e
    by false e = any_last b ns

added_in : (a : List ℕ) (ns bs : List (List ℕ)) → IsIn ns a → IsIn (added ns bs) a
added_in a ns [] h = h
added_in a ns (b ∷ bs) h = added_in a (with_name ns b) bs (with_in a b ns h)

pub added_all : (ns bs : List (List ℕ)) → Every (IsIn (added ns bs)) bs
added_all ns [] = tt
added_all ns (b ∷ bs) = (added_in b (with_name ns b) bs (with_itself b ns), added_all (with_name ns b) bs)

-- a name that is there has a number, and is the name of it
pub number_below : (ns : List (List ℕ)) (b : List ℕ) → IsIn ns b → nat_lt (number_of ns b) (length ns) ≡ true
number_below [] b h = absurd (true≢false (sym h))
number_below (n ∷ ns) b h = by (bytes_eq b n) h (number_below ns b)
  where
    by : (c : Bool) → (c || list_any (bytes_eq b) ns) ≡ true → (IsIn ns b → nat_lt (number_of ns b) (length ns) ≡ true) → nat_lt (cond (not c) (1 + number_of ns b) 0) (length (n ∷ ns)) ≡ true
    by true g f = grind arith
    by false g f = let i = f g in grind (arith, i)

pub name_number : (ns : List (List ℕ)) (d b : List ℕ) → IsIn ns b → get_or ns (number_of ns b) d ≡ b
name_number [] d b h = absurd (true≢false (sym h))
name_number (n ∷ ns) d b h = by (bytes_eq b n) refl h (name_number ns d b)
  where
    by : (c : Bool) → bytes_eq b n ≡ c → (c || list_any (bytes_eq b) ns) ≡ true → (IsIn ns b → get_or ns (number_of ns b) d ≡ b) → get_or (n ∷ ns) (cond (not c) (1 + number_of ns b) 0) d ≡ b
    by true e g f = sym ((bytes_eq-Decides b n).0 e)
    by false e g f = let succ : 1 + number_of ns b ≡ suc (number_of ns b) = omega arith in ap (λ i. get_or (n ∷ ns) i d) succ ∙ f g
