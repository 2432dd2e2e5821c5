-- Names that differ: which is which, and a variable that is found by its own.
use Rattle.std.proofs.Common.{◌≡◌, ◌≢◌, ℕ, zero, suc, ◌<◌, List, [], ◌∷◌, ◌++◌, length, map, get_or, true, false, if◌then◌else◌, Some, None, refl, sym, ap, ◌∙◌, append_assoc, arith}
use Rattle.std.specs.Prelude.{not, nat_lt}
use Rattle.std.specs.List.{list_any, position_or_len}
use Rattle.std.specs.Str.{bytes_eq}
use Rattle.std.proofs.lemmas.Bool.{and_parts, not-true, or_parts, lt-ltb}
use Rattle.std.proofs.lemmas.Cmp.{nat_list_eq_equiv}
use Rattle.std.proofs.lemmas.List.{get_or-map, get_or_append_left, length-append, length-map}
use Rattle.std.proofs.lemmas.List.Sums.{position_or_len_is}
use Rattle.cov_ast.specs.Declarations.{no_var}
use Rattle.cov_ast.specs.NameTables.{find_name}
use Rattle.cov_ast.specs.Syntax.{Var, Lock, Thread}
use Rattle.cov_ast.specs.WellFormed.{are_distinct, names_of}
use Rattle.text_parts.specs.VariableNames.{variable_names}

-- the first of distinct names is none of the others, and these are distinct
pub first_apart : (n : List ℕ) (ns : List (List ℕ)) → are_distinct bytes_eq (n ∷ ns) ≡ true → (list_any (bytes_eq n) ns ≡ false) × (are_distinct bytes_eq ns ≡ true)
first_apart n ns h = let both = and_parts (not (list_any (bytes_eq n) ns)) (are_distinct bytes_eq ns) h in (not-true (list_any (bytes_eq n) ns) both.0, both.1)

-- those behind a front of distinct names are distinct
pub distinct_back : (ns ms : List (List ℕ)) → are_distinct bytes_eq (ns ++ ms) ≡ true → are_distinct bytes_eq ms ≡ true
distinct_back [] ms h = h
distinct_back (n ∷ ns) ms h = distinct_back ns ms (first_apart n (ns ++ ms) h).1

-- a name that is none of a list isn't the one at a number of it
pub none_at : (n : List ℕ) (ns : List (List ℕ)) (i : ℕ) (d : List ℕ) → list_any (bytes_eq n) ns ≡ false → i < length ns → bytes_eq n (get_or ns i d) ≡ false
none_at n [] i d h inside = let no : ⊥ = omega (arith, inside) in absurd no
none_at n (m ∷ ns) zero d h inside = (or_parts (bytes_eq n m) (list_any (bytes_eq n) ns) h).0
none_at n (m ∷ ns) (suc i) d h inside = none_at n ns i d (or_parts (bytes_eq n m) (list_any (bytes_eq n) ns) h).1 (omega (arith, inside))

-- at two numbers of distinct names stand two
pub names_apart : (ns : List (List ℕ)) (i j : ℕ) (d : List ℕ) → are_distinct bytes_eq ns ≡ true → i < length ns → j < length ns → i ≢ j
    → bytes_eq (get_or ns i d) (get_or ns j d) ≡ false
names_apart [] i j d h below_i below_j differ = let no : ⊥ = omega (arith, below_i) in absurd no
names_apart (n ∷ ns) zero zero d h below_i below_j differ = absurd (differ refl)
names_apart (n ∷ ns) zero (suc j) d h below_i below_j differ = none_at n ns j d (first_apart n ns h).0 (omega (arith, below_j))
names_apart (n ∷ ns) (suc i) zero d h below_i below_j differ =
    nat_list_eq_equiv.symm (get_or ns i d) n ∙ none_at n ns i d (first_apart n ns h).0 (omega (arith, below_i))
names_apart (n ∷ ns) (suc i) (suc j) d h below_i below_j differ =
    names_apart ns i j d (first_apart n ns h).1 (omega (arith, below_i)) (omega (arith, below_j)) (λ same. differ (ap suc same))

-- each of distinct names is found at its number, also where others follow that aren't looked at
pub found_at : (ns ms : List (List ℕ)) (i : ℕ) (d : List ℕ) → are_distinct bytes_eq (ns ++ ms) ≡ true → i < length ns → find_name ns (get_or ns i d) ≡ Some i
found_at ns ms i d h inside =
    let n = get_or ns i d in
    let longer = length-append ns ms in
    let differ : (k : ℕ) → k < i → bytes_eq n (get_or ns k d) ≡ false =
    λ k below.
    sym (ap (λ m. bytes_eq m (get_or (ns ++ ms) k d)) (get_or_append_left ns ms d i inside) ∙ ap (λ m. bytes_eq n m) (get_or_append_left ns ms d k (omega (arith, below, inside))))
    ∙ names_apart (ns ++ ms) i k d h (omega (arith, inside, longer)) (omega (arith, below, inside, longer)) (λ same. let no : ⊥ = omega (arith, below, same) in no) in
    let number : position_or_len (bytes_eq n) ns ≡ i = position_or_len_is (bytes_eq n) ns i d (omega (arith, inside)) differ (λ there. nat_list_eq_equiv.refl n) in
    ap (λ k. if nat_lt k (length ns) then Some k else None) number ∙ ap (λ b. if b then Some i else None) (lt-ltb i (length ns) inside)

-- a variable of a program by its name
pub variable_found : (vars : List Var) (locks : List Lock) (threads : List Thread) (x : ℕ) → are_distinct bytes_eq (names_of vars locks threads) ≡ true → x < length vars
    → find_name (variable_names vars) (get_or vars x no_var).name ≡ Some x
variable_found vars locks threads x h inside =
    let names = variable_names vars in
    let of_locks = map (λ l. l.name) locks in
    let of_threads = map (λ t. t.name) threads in
    let distinct = sym (ap (are_distinct bytes_eq) (append_assoc names of_locks of_threads)) ∙ h in
    ap (λ n. find_name names n) (sym (get_or-map (λ v. v.name) vars x no_var [] inside))
    ∙ found_at names (of_locks ++ of_threads) x [] distinct (omega (arith, inside, length-map vars (λ v. v.name)))
