-- Laws of declared names: whether they differ, and which one a name is.
use Rattle.std.proofs.Common.{◌≡◌, ℕ, ◌+◌, ◌<◌, List, [], ◌∷◌, ◌++◌, Bool, true, false, length, map, drop, get_or, refl, sym, ap, ◌∙◌, cond, inl, inr, ◌⊎◌, Option, Some, None, Result, Ok, Err, IfOk, All, append_assoc}
use Rattle.std.specs.Prelude.{◌||◌, not}
use Rattle.std.specs.List.{position_or_len}
use Rattle.std.specs.Str.{bytes_eq}
use Rattle.std.proofs.lemmas.Bool.{cases_Bool, true≢false, not-true, not_from_false, and_from, and_parts}
use Rattle.std.proofs.lemmas.List.{map-append, at_drop_more}
use Rattle.std.proofs.lemmas.List.Folds.{list_any-append}
use Rattle.std.proofs.lemmas.Map.Steps.{list_any_congr}
use Rattle.std.proofs.lemmas.Cmp.{nat_list_eq_equiv}
use Rattle.cov_expr.specs.Names.{IsName}
use Rattle.cov_ast.specs.declared.refusal.CheckFault.{CheckFault}
use Rattle.cov_ast.specs.NameTables.{find_name, with_name}
use Rattle.cov_ast.specs.Obligations.{Obligation, first_false, Decides}
use Rattle.cov_ast.specs.Syntax.{Parsed}
use Rattle.cov_ast.specs.WellFormed.{are_distinct, names_of}
use Rattle.policy_class.specs.declared.names.Declared.{Declared}
use Rattle.policy_class.specs.Inside.DeclaredNames.{IsTableOf, declared_name}
use Rattle.policy_class.specs.Resolved.{Named, is_among, without_value, w1_obligation, w1_from, declared_names, var_named, lock_named, thread_named}
use Rattle.policy_class.proofs.PositionLaws.{is_inside, absent}

pub or_parts : (a b : Bool) → (a || b) ≡ false → (a ≡ false) × (b ≡ false)
or_parts true b h = absurd (true≢false h)
or_parts false b h = (refl, h)

-- The first rule of names ----------------------------------------------------------------------------------------

-- none of these was declared before
abbrev pub AreFresh : List (List ℕ) → List (List ℕ) → Type 0
AreFresh before [] = Unit {0}
AreFresh before (x ∷ xs) = (is_among before x ≡ false) × AreFresh before xs

fresh_split : (before : List (List ℕ)) (y : List ℕ) (xs : List (List ℕ)) → AreFresh (before ++ y ∷ []) xs → AreFresh before xs × (is_among xs y ≡ false)
fresh_split before y [] h = (tt, refl)
fresh_split before y (x ∷ xs) h =
    let apart = or_parts (is_among before x) (is_among (y ∷ []) x) (sym (list_any-append (bytes_eq x) before (y ∷ [])) ∙ h.0) in
    let other = or_parts (bytes_eq x y) false apart.1 in
    let rest = fresh_split before y xs h.1 in
    ((apart.0, rest.0), ap (λ b. b || is_among xs y) (nat_list_eq_equiv.symm y x ∙ other.0) ∙ rest.1)

abbrev texts : List Named → List (List ℕ)
texts ns = map (λ n. n.name) ns

-- of obligations that all hold, the first does, and so do the rest
pub head_holds : (e : Obligation) (es : List Obligation) → first_false (e ∷ es) ≡ None → (e.holds ≡ true) × (first_false es ≡ None)
head_holds e es h = go e.holds h
  where
    go : (b : Bool) → cond b (first_false es) (Some e.refusal) ≡ None → (b ≡ true) × (first_false es ≡ None)
    go true h = (refl, h)
    go false h = cc

w1_holds : (before : List (List ℕ)) (ns : List Named) → first_false (w1_from before ns) ≡ None
    → AreFresh before (texts ns) × (are_distinct bytes_eq (texts ns) ≡ true)
w1_holds before [] h = (tt, refl)
w1_holds before (n ∷ ns) h =
    let parts = head_holds (w1_obligation before n) (w1_from (before ++ n.name ∷ []) ns) h in
    let rest = w1_holds (before ++ n.name ∷ []) ns parts.1 in
    let apart = fresh_split before n.name (texts ns) rest.0 in
    let distinct = and_from (not (is_among (texts ns) n.name)) (are_distinct bytes_eq (texts ns)) (not_from_false (is_among (texts ns) n.name) apart.1) rest.1 in
    ((not-true (is_among before n.name) parts.0, apart.0), distinct)

-- where no name was declared before, all differ
pub names_differ : (ns : List Named) → first_false (w1_from [] ns) ≡ None → are_distinct bytes_eq (texts ns) ≡ true
names_differ ns h = (w1_holds [] ns h).1

pub texts_declared : (p : Parsed) → texts (declared_names p) ≡ names_of p.vars p.locks p.threads
texts_declared p =
    map-append (λ n. n.name) (map var_named p.vars ++ map lock_named p.locks) (map thread_named p.threads)
    ∙ (λ i. first i ++ over (λ t. t.name) thread_named p.threads (λ t. refl) i)
  where
    over : {X : Type 0} (f : X → List ℕ) (g : X → Named) (xs : List X) → ((x : X) → (g x).name ≡ f x) → texts (map g xs) ≡ map f xs
    over f g [] h = refl
    over f g (x ∷ xs) h = λ i. h x i ∷ over f g xs h i

    first : texts (map var_named p.vars ++ map lock_named p.locks) ≡ map (λ v. v.name) p.vars ++ map (λ l. l.name) p.locks
    first =
        map-append (λ n. n.name) (map var_named p.vars) (map lock_named p.locks)
        ∙ (λ i. over (λ v. v.name) var_named p.vars (λ v. refl) i ++ over (λ l. l.name) lock_named p.locks (λ l. refl) i)

texts_named : (ds : List Declared) → texts (map declared_name ds) ≡ map (λ d. d.name) ds
texts_named [] = refl
texts_named (d ∷ ds) = ap (λ ts. d.name ∷ ts) (texts_named ds)

-- what the names of declarations in one table are
pub table_is : (p : Parsed) (ds : List Declared) (r : Result (List (List ℕ)) CheckFault) → map declared_name ds ≡ declared_names p
    → Decides (w1_from [] (map declared_name ds)) (without_value r) → IfOk r (λ t. t ≡ map (λ d. d.name) ds) → IfOk r (All IsName) → IfOk r (IsTableOf p)
table_is p ds (Err fault) e decided names named_all = tt
table_is p ds (Ok t) e decided names named_all =
    record {
      names = names ∙ sym (texts_named ds) ∙ ap texts e ∙ texts_declared p;
      texts = named_all;
      differ = ap (are_distinct bytes_eq) (names ∙ sym (texts_named ds)) ∙ names_differ (map declared_name ds) decided;
    }

-- One more declaration -------------------------------------------------------------------------------------------

-- at a step of a loop over declarations
pub declared_more : {X D : Type 0} (v : X → D) (f : D → Named) (made new : List Declared) (xs : List X) (i : ℕ) (x : X) (d : Declared)
    → i < length xs → x ≡ get_or xs i x → new ≡ made ++ d ∷ [] → declared_name d ≡ f (v x)
    → map declared_name new ++ map f (map v (drop (i + 1) xs)) ≡ map declared_name made ++ map f (map v (drop i xs))
declared_more v f made new xs i x d inside is pushed same =
    let rest = map f (map v (drop (i + 1) xs)) in
    ap (λ ds. map declared_name ds ++ rest) pushed
    ∙ ap (λ ns. ns ++ rest) (map-append declared_name made (d ∷ []))
    ∙ append_assoc (map declared_name made) (declared_name d ∷ []) rest
    ∙ (λ j. map declared_name made ++ same j ∷ rest)
    ∙ (λ j. map declared_name made ++ f (v (is j)) ∷ rest)
    ∙ sym (ap (λ ns. map declared_name made ++ ns) (at_drop_more (λ ys. map f (map v ys)) xs i x inside))

-- Looking a name up ----------------------------------------------------------------------------------------------

number_or_none : List (List ℕ) → List ℕ → Bool → Option ℕ
number_or_none names name b = cond b (Some (position_or_len (bytes_eq name) names)) None

pub found_among : (names : List (List ℕ)) (name : List ℕ) (id : ℕ) → Some id ≡ find_name names name → is_among names name ≡ true
unfolding number_or_none
found_among names name id h = go (cases_Bool (is_among names name))
  where
    go : (is_among names name ≡ true) ⊎ (is_among names name ≡ false) → is_among names name ≡ true
    go (inl a) = a
    go (inr a) = let none : find_name names name ≡ None = ap (number_or_none names name) (is_inside (bytes_eq name) names ∙ a) in cc

pub missing_among : (names : List (List ℕ)) (name : List ℕ) → None ≡ find_name names name → is_among names name ≡ false
unfolding number_or_none
missing_among names name h = go (cases_Bool (is_among names name))
  where
    go : (is_among names name ≡ true) ⊎ (is_among names name ≡ false) → is_among names name ≡ false
    go (inr a) = a
    go (inl a) =
        let some : find_name names name ≡ Some (position_or_len (bytes_eq name) names) = ap (number_or_none names name) (is_inside (bytes_eq name) names ∙ a) in cc

-- the number of a name that was found
pub found_number : (names : List (List ℕ)) (name : List ℕ) (id : ℕ) → Some id ≡ find_name names name → id ≡ position_or_len (bytes_eq name) names
unfolding number_or_none
found_number names name id h =
    let some : find_name names name ≡ Some (position_or_len (bytes_eq name) names) =
    ap (number_or_none names name) (is_inside (bytes_eq name) names ∙ found_among names name id h) in cc

-- behind the last where it isn't there
pub missing_number : (names : List (List ℕ)) (name : List ℕ) → None ≡ find_name names name → length names ≡ position_or_len (bytes_eq name) names
missing_number names name h = sym (absent (bytes_eq name) names (missing_among names name h))

-- a name that isn't there is added at the end
pub added_last : (names : List (List ℕ)) (name : List ℕ) → None ≡ find_name names name → with_name names name ≡ names ++ name ∷ []
added_last names name h = ap (λ b. cond b names (names ++ name ∷ [])) (missing_among names name h)

-- Two lists of names that differ --------------------------------------------------------------------------------

-- a name of the first is none of the second
pub apart : (xs ys : List (List ℕ)) (q : List ℕ) → are_distinct bytes_eq (xs ++ ys) ≡ true → is_among xs q ≡ true → is_among ys q ≡ false
apart [] ys q h a = absurd (true≢false (sym a))
apart (x ∷ xs) ys q h a = go (apart xs ys q (and_parts (not (is_among (xs ++ ys) x)) (are_distinct bytes_eq (xs ++ ys)) h).1) (cases_Bool (bytes_eq q x)) a
  where
    go : (is_among xs q ≡ true → is_among ys q ≡ false) → (bytes_eq q x ≡ true) ⊎ (bytes_eq q x ≡ false)
        → (bytes_eq q x || is_among xs q) ≡ true → is_among ys q ≡ false
    go rest (inl e) a =
        let none : is_among (xs ++ ys) x ≡ false =
        not-true (is_among (xs ++ ys) x) (and_parts (not (is_among (xs ++ ys) x)) (are_distinct bytes_eq (xs ++ ys)) h).0 in
        list_any_congr nat_list_eq_equiv q x ys e ∙ (or_parts (is_among xs x) (is_among ys x) (sym (list_any-append (bytes_eq x) xs ys) ∙ none)).1
    go rest (inr e) a = rest (sym (ap (λ b. b || is_among xs q) e) ∙ a)
