-- The obligations of modes, with sets in the place of lists.
use Rattle.std.proofs.Common.{◌≡◌, ℕ, suc, ◌<◌, ◌||◌, ◌&&◌, not, List, [], ◌∷◌, ◌++◌, Bool, true, false, length, map, get_or, replicate, refl, sym, ap, ◌∙◌, All, arith, ◌≤◌, drop, None, zero-add}
use Rattle.std.specs.List.{flat_map, list_any, list_all, range_with_len}
use Rattle.std.specs.Option.{option_or}
use Rattle.std.proofs.lemmas.List.{map-append, length-map, drop_all}
use Rattle.std.proofs.lemmas.List.FromFn.{length-range_with_len, get_or-range_with_len}
use Rattle.cov_ast.specs.View as view
use Rattle.cov_ast.specs.declared.decl.Program as decl
use Rattle.cov_ast.specs.declared.decl.ThreadDecl.{ThreadDecl}
use Rattle.std.proofs.lemmas.List.Concat.{flat_map-append}
use Rattle.std.proofs.Math.Bool.{or-false}
use Rattle.cov_expr.specs.Words.{HasVarsBelow}
use Rattle.cov_expr.specs.Trees.{has_number}
use Rattle.cov_ast.specs.Syntax.{Lock, Thread, Program}
use Rattle.cov_ast.specs.Plain.{plain}
use Rattle.cov_ast.specs.Declarations.{class_of, lists, have_assumed, have_guaranteed}
use Rattle.cov_ast.specs.Tables.{table, has, with_all}
use Rattle.cov_ast.specs.Obligations.{Obligation, declared_obligation, first_false, distinct}
use Rattle.cov_ast.specs.declared.refusal.Rule.{Rule}
use Rattle.cov_ast.specs.declared.refusal.Rule.TheVariants.{W7, W8}
use Rattle.cov_ast.specs.declared.refusal.Detail.TheVariants.{Two}
use Rattle.cov_ast.proofs.TableLaws.{table_at, table_same, none_table, with_all_table}
use Rattle.cov_ast.proofs.ObligationLaws.{first_false-append, distinct_same, distinct_map_same, marked_found, vars_found}
use Rattle.mode_compat.specs.Compatible.{shown, controls_of, is_locked, all_assume, w6_obligation, w6_obligations, w7_obligation, w7_obligations, w8_obligation, w8_obligations, w9_obligation, w9_pair, threads_of}
use Rattle.mode_compat.specs.Inside.{with_locks, apart_obligation, kept_obligation, kept_obligations, met_obligation}

-- Sets of locks ------------------------------------------------------------------------------------------------

four : (f a b r : Bool) → (((f || a) || b) || r) ≡ (f || ((a || b) || r))
four true a b r = refl
four false a b r = refl

locks_table : (n : ℕ) (f : ℕ → Bool) (ls : List Lock) → with_locks (table n f) ls ≡ table n (λ y. f y || list_any (λ l. lists l y) ls)
locks_table n f [] = table_same n f (λ y. f y || false) (λ x h. sym (or-false (f x)))
locks_table n f (l ∷ ls) =
    ap (λ m. with_locks (with_all m l.hide) ls) (with_all_table n f l.nowrite)
    ∙ ap (λ m. with_locks m ls) (with_all_table n (λ y. f y || has_number l.nowrite y) l.hide)
    ∙ locks_table n (λ y. (f y || has_number l.nowrite y) || has_number l.hide y) ls
    ∙ table_same n (λ y. ((f y || has_number l.nowrite y) || has_number l.hide y) || list_any (λ k. lists k y) ls) (λ y. f y || list_any (λ k. lists k y) (l ∷ ls))
    (λ y h. four (f y) (has_number l.nowrite y) (has_number l.hide y) (list_any (λ k. lists k y) ls))

all_locks : (n : ℕ) (ls : List Lock) → with_locks (replicate n false) ls ≡ table n (λ y. list_any (λ l. lists l y) ls)
all_locks n ls = ap (λ m. with_locks m ls) (none_table n) ∙ locks_table n (λ y. false) ls

-- Lists --------------------------------------------------------------------------------------------------------

tail : (n : ℕ) (x : ℕ) (xs : List ℕ) → All (λ y. y < n) (x ∷ xs) → All (λ y. y < n) xs
tail n x xs all k d h = all (suc k) d (omega arith)

map_same : (n : ℕ) (f g : ℕ → Obligation) (xs : List ℕ) → All (λ x. x < n) xs → ((x : ℕ) → x < n → f x ≡ g x) → map f xs ≡ map g xs
map_same n f g [] all h = refl
map_same n f g (x ∷ xs) all h = λ i. h x (all 0 0 (omega arith)) i ∷ map_same n f g xs (tail n x xs all) h i

flat_same : (n : ℕ) (g k : ℕ → List Obligation) (xs : List ℕ) → All (λ x. x < n) xs → ((x : ℕ) → x < n → first_false (g x) ≡ first_false (k x))
    → first_false (flat_map g xs) ≡ first_false (flat_map k xs)
flat_same n g k [] all h = refl
flat_same n g k (x ∷ xs) all h =
    first_false-append (g x) (flat_map g xs) ∙ (λ i. option_or (h x (all 0 0 (omega arith)) i) (flat_same n g k xs (tail n x xs all) h i))
    ∙ sym (first_false-append (k x) (flat_map k xs))

both_same : (a b c d : List Obligation) → first_false a ≡ first_false c → first_false b ≡ first_false d → first_false (a ++ b) ≡ first_false (c ++ d)
both_same a b c d e f = first_false-append a b ∙ (λ i. option_or (e i) (f i)) ∙ sym (first_false-append c d)

two_maps : (f : ℕ → Obligation) (a b : List ℕ) → first_false (map f a ++ map f b) ≡ first_false (map f (distinct a ++ distinct b))
two_maps f a b =
    both_same (map f a) (map f b) (map f (distinct a)) (map f (distinct b)) (sym (distinct_map_same f a)) (sym (distinct_map_same f b))
    ∙ ap first_false (sym (map-append f (distinct a) (distinct b)))

two_flats : (g : ℕ → List Obligation) (a b : List ℕ) → first_false (flat_map g a ++ flat_map g b) ≡ first_false (flat_map g (distinct a ++ distinct b))
two_flats g a b =
    both_same (flat_map g a) (flat_map g b) (flat_map g (distinct a)) (flat_map g (distinct b)) (sym (distinct_same g a)) (sym (distinct_same g b))
    ∙ ap first_false (sym (flat_map-append g (distinct a) (distinct b)))

-- The rules ----------------------------------------------------------------------------------------------------

module _ (p : Program) (n : ℕ) where
  pub w6_same : (marks : List Bool) → marks ≡ with_locks (replicate n false) p.locks → (t : Thread)
      → All (λ x. x < n) t.modes.assume_nowrite → All (λ x. x < n) t.modes.assume_hide
      → first_false (map (apart_obligation p t marks) t.modes.assume_nowrite ++ map (apart_obligation p t marks) t.modes.assume_hide) ≡ first_false (w6_obligations p t)
  w6_same marks made t below_a below_b =
      let a = t.modes.assume_nowrite in
      let b = t.modes.assume_hide in
      let same : (x : ℕ) → x < n → apart_obligation p t marks x ≡ w6_obligation p t x =
      λ x lt. ap (λ m. apart_obligation p t m x) (made ∙ all_locks n p.locks)
      ∙ ap (λ v. record (w6_obligation p t x) { holds = not v }) (table_at n (is_locked p) x lt) in
      both_same (map (apart_obligation p t marks) a) (map (apart_obligation p t marks) b) (map (w6_obligation p t) a) (map (w6_obligation p t) b)
      (ap first_false (map_same n (apart_obligation p t marks) (w6_obligation p t) a below_a same))
      (ap first_false (map_same n (apart_obligation p t marks) (w6_obligation p t) b below_b same))
      ∙ two_maps (w6_obligation p t) a b

  module _ (classes : (x : ℕ) → x < n → HasVarsBelow (class_of (plain p) x) n) where
    kept_same : (rule : Rule) (place : ℕ) (test : ℕ → Bool) (marks : List Bool) → marks ≡ table n test → (x : ℕ) → x < n
        → first_false (kept_obligations p rule place marks x)
        ≡ first_false (map (λ c. declared_obligation rule place (Two (shown p x) (shown p c)) (test c)) (controls_of p x))
    kept_same rule place test marks made x lt =
        ap (λ m. first_false (kept_obligations p rule place m x)) made
        ∙ marked_found (table n test) (λ c. (kept_obligation p rule place marks x c).refusal) (class_of (plain p) x) (class_of (plain p) x) refl
        ∙ sym (vars_found n test (λ c. (kept_obligation p rule place marks x c).refusal) (class_of (plain p) x) (classes x lt))

    pub w7_same : (l : Lock) (marks : List Bool) → marks ≡ with_all (with_all (table n (all_assume p)) l.nowrite) l.hide
        → All (λ x. x < n) l.nowrite → All (λ x. x < n) l.hide
        → first_false (flat_map (kept_obligations p W7 l.at marks) l.nowrite ++ flat_map (kept_obligations p W7 l.at marks) l.hide) ≡ first_false (w7_obligations p l)
    w7_same l marks made below_a below_b =
        let test : ℕ → Bool = λ c. lists l c || all_assume p c in
        let h : ℕ → List Obligation = λ x. map (w7_obligation p l x) (controls_of p x) in
        let is : marks ≡ table n test =
        made ∙ ap (λ m. with_all m l.hide) (with_all_table n (all_assume p) l.nowrite)
        ∙ with_all_table n (λ y. all_assume p y || has_number l.nowrite y) l.hide
        ∙ table_same n (λ y. (all_assume p y || has_number l.nowrite y) || has_number l.hide y) test
        (λ y lt. turned (all_assume p y) (has_number l.nowrite y) (has_number l.hide y)) in
        both_same (flat_map (kept_obligations p W7 l.at marks) l.nowrite) (flat_map (kept_obligations p W7 l.at marks) l.hide) (flat_map h l.nowrite) (flat_map h l.hide)
        (flat_same n (kept_obligations p W7 l.at marks) h l.nowrite below_a (kept_same W7 l.at test marks is))
        (flat_same n (kept_obligations p W7 l.at marks) h l.hide below_b (kept_same W7 l.at test marks is))
        ∙ ap first_false (sym (flat_map-append h l.nowrite l.hide))
      where
        turned : (r a b : Bool) → ((r || a) || b) ≡ ((a || b) || r)
        turned true true b = refl
        turned true false true = refl
        turned true false false = refl
        turned false true b = refl
        turned false false true = refl
        turned false false false = refl

    pub w8_same : (t : Thread) (marks : List Bool) → marks ≡ table n (have_assumed t.modes)
        → All (λ x. x < n) t.modes.assume_nowrite → All (λ x. x < n) t.modes.assume_hide
        → first_false (flat_map (kept_obligations p W8 t.at marks) t.modes.assume_nowrite ++ flat_map (kept_obligations p W8 t.at marks) t.modes.assume_hide)
        ≡ first_false (w8_obligations p t)
    w8_same t marks made below_a below_b =
        let a = t.modes.assume_nowrite in
        let b = t.modes.assume_hide in
        let h : ℕ → List Obligation = λ x. map (w8_obligation p t x) (controls_of p x) in
        both_same (flat_map (kept_obligations p W8 t.at marks) a) (flat_map (kept_obligations p W8 t.at marks) b) (flat_map h a) (flat_map h b)
        (flat_same n (kept_obligations p W8 t.at marks) h a below_a (kept_same W8 t.at (have_assumed t.modes) marks made))
        (flat_same n (kept_obligations p W8 t.at marks) h b below_b (kept_same W8 t.at (have_assumed t.modes) marks made))
        ∙ two_flats h a b

  pub w9_same : (t u : Thread) (m1 m2 : List Bool) → m1 ≡ table n (have_guaranteed u.modes) → m2 ≡ table n (has_number u.modes.guarantee_hide)
      → All (λ x. x < n) t.modes.assume_nowrite → All (λ x. x < n) t.modes.assume_hide
      → first_false (map (met_obligation p t u m1) t.modes.assume_nowrite ++ map (met_obligation p t u m2) t.modes.assume_hide) ≡ first_false (w9_pair p t u)
  w9_same t u m1 m2 is1 is2 below_a below_b =
      let a = t.modes.assume_nowrite in
      let b = t.modes.assume_hide in
      let f : ℕ → Obligation = λ x. w9_obligation p t u x (have_guaranteed u.modes x) in
      let g : ℕ → Obligation = λ x. w9_obligation p t u x (has_number u.modes.guarantee_hide x) in
      both_same (map (met_obligation p t u m1) a) (map (met_obligation p t u m2) b) (map f (distinct a)) (map g (distinct b))
      (ap first_false (map_same n (met_obligation p t u m1) f a below_a (λ x lt. ap (w9_obligation p t u x) (ap (λ m. has m x) is1 ∙ table_at n (have_guaranteed u.modes) x lt)))
      ∙ sym (distinct_map_same f a))
      (ap first_false (map_same n (met_obligation p t u m2) g b below_b (λ x lt. ap (w9_obligation p t u x) (ap (λ m. has m x) is2 ∙ table_at n (has_number u.modes.guarantee_hide) x lt)))
      ∙ sym (distinct_map_same g b))

over_threads : (n x : ℕ) → x < n → (ts : List Thread) → list_all (λ s. has s x) (map (λ t. table n (have_assumed t.modes)) ts) ≡ list_all (λ t. have_assumed t.modes x) ts
over_threads n x lt [] = refl
over_threads n x lt (t ∷ ts) =
    ap (λ b. b && list_all (λ s. has s x) (map (λ t. table n (have_assumed t.modes)) ts)) (table_at n (have_assumed t.modes) x lt)
    ∙ ap (λ b. have_assumed t.modes x && b) (over_threads n x lt ts)

-- what every thread assumes, of sets that say what each assumes
pub all_assumed : (p : Program) (n : ℕ) (sets : List (List Bool)) → sets ≡ map (λ t. table n (have_assumed t.modes)) p.threads
    → map (λ x. list_all (λ s. has s x) sets) (range_with_len 0 n) ≡ table n (all_assume p)
all_assumed p n sets is = table_same n (λ x. list_all (λ s. has s x) sets) (all_assume p) (λ x lt. ap (list_all (λ s. has s x)) is ∙ over_threads n x lt p.threads)

-- The numbers of the threads -----------------------------------------------------------------------------------

module _ (p : decl.Program) where
  seen_count : length (threads_of (view.program p)) ≡ length p.threads
  seen_count = length-range_with_len 0 (length (map view.thread p.threads)) ∙ length-map p.threads view.thread

  pub number_inside : (i : ℕ) → i < length p.threads → i < length (threads_of (view.program p))
  number_inside i lt = omega (arith, seen_count)

  pub number_is : (i : ℕ) → i < length p.threads → i ≡ get_or (threads_of (view.program p)) i i
  number_is i lt = sym (get_or-range_with_len 0 (length (map view.thread p.threads)) i i (omega (arith, length-map p.threads view.thread)) ∙ zero-add i)

  pub none_left : (g : ℕ → List Obligation) (i : ℕ) → length p.threads ≤ i
      → first_false (flat_map g (drop i (threads_of (view.program p)))) ≡ first_false (flat_map g (threads_of (view.program p)))
      → first_false (flat_map g (threads_of (view.program p))) ≡ None
  none_left g i past kept =
      sym kept ∙ ap (λ ts. first_false (flat_map g ts)) (drop_all i (threads_of (view.program p)) (omega (arith, seen_count)))

pub seen_sets : (n : ℕ) (ts : List ThreadDecl) → map (λ t. table n (have_assumed (view.modes t.modes))) ts ≡ map (λ t. table n (have_assumed t.modes)) (map view.thread ts)
seen_sets n [] = refl
seen_sets n (t ∷ ts) = ap (λ sets. table n (have_assumed (view.modes t.modes)) ∷ sets) (seen_sets n ts)
