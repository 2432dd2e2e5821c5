-- Laws of plans: free registers are registers, variables that are kept stay below a bound, and variables are fetched list by list.
use Rattle.std.proofs.Common.{◌≡◌, ℕ, zero, suc, ◌<◌, List, [], ◌∷◌, ◌++◌, length, get_or, map, replicate, Bool, true, false, if◌then◌else◌, Option, Some, None, refl, sym, ◌∙◌, ap, arith, append_assoc, All, nat_le}
use Rattle.std.proofs.lemmas.List.Elements.{All-append}
use Rattle.cov_expr.specs.Term.{Term, const, var, neg, bin}
use Rattle.cov_expr.specs.Trees.{occurrences, width}
use Rattle.cov_expr.specs.Words.{HasVarsBelow}
use Rattle.regalloc.specs.Plan.{Plan, start, is_for, keep, spoil, stored, only, restrict, both, meet, add_free, frees, room_below, room}
use Rattle.regalloc.specs.Stable.{KeepsBelow}
use Rattle.compiled_code.specs.Compiled.{eval_plan, expr_plan, expr_room, fetch_at, fetch_instrs, fetch_plan, fetched_plan, load_into, store_plan}

-- Free registers -------------------------------------------------------------------------------------------------

add_below : (o : Option ℕ) (r : ℕ) (rs : List ℕ) → r < 8 → ((n : ℕ) → get_or rs n 0 < 8) → (n : ℕ) → get_or (add_free o r rs) n 0 < 8
add_below (Some x) r rs small below n = below n
add_below None r rs small below zero = small
add_below None r rs small below (suc n) = below n

-- each free register, and the one that stands where there is none, is one of eight
pub free_below : (plan : Plan) (n : ℕ) → get_or (frees plan) n 0 < 8
unfolding frees
free_below plan n =
    add_below (get_or plan 0 None) 0 _ (omega arith)
    (add_below (get_or plan 1 None) 1 _ (omega arith)
    (add_below (get_or plan 2 None) 2 _ (omega arith)
    (add_below (get_or plan 3 None) 3 _ (omega arith)
    (add_below (get_or plan 4 None) 4 _ (omega arith)
    (add_below (get_or plan 5 None) 5 _ (omega arith)
    (add_below (get_or plan 6 None) 6 _ (omega arith)
    (λ n. omega arith))))))) n

-- Variables that are kept ----------------------------------------------------------------------------------------

-- What one plan keeps, the other keeps too.
abbrev pub KeepsLess : (less more : Plan) → Type 0
KeepsLess less more = (r x : ℕ) → get_or less r None ≡ Some x → get_or more r None ≡ Some x

pub below_less : (count : ℕ) (less more : Plan) → KeepsLess less more → KeepsBelow count more → KeepsBelow count less
below_less count less more gives below r x e = below r x (gives r x e)

spoil_less : (plan : Plan) (q : ℕ) → KeepsLess (spoil plan q) plan
spoil_less [] q r x e = e
spoil_less (o ∷ os) zero zero x e = absurd (cc)
spoil_less (o ∷ os) zero (suc r) x e = e
spoil_less (o ∷ os) (suc q) zero x e = e
spoil_less (o ∷ os) (suc q) (suc r) x e = spoil_less os q r x e

map_less : (f : Option ℕ → Option ℕ) → ((o : Option ℕ) (x : ℕ) → f o ≡ Some x → o ≡ Some x) → (plan : Plan) → KeepsLess (map f plan) plan
map_less f keeps [] r x e = e
map_less f keeps (o ∷ os) zero x e = keeps o x e
map_less f keeps (o ∷ os) (suc r) x e = map_less f keeps os r x e

where_kept : (b : Bool) (o : Option ℕ) (x : ℕ) → (if b then o else None) ≡ Some x → o ≡ Some x
where_kept true o x e = e
where_kept false o x e = absurd (cc)

where_not : (b : Bool) (o : Option ℕ) (x : ℕ) → (if b then None else o) ≡ Some x → o ≡ Some x
where_not true o x e = absurd (cc)
where_not false o x e = e

pub stored_less : (plan : Plan) (y : ℕ) → KeepsLess (stored plan y) plan
stored_less plan y = map_less (λ o. if is_for y o then None else o) (λ o x e. where_not (is_for y o) o x e) plan

only_less : (test : ℕ → Bool) (o : Option ℕ) (x : ℕ) → only test o ≡ Some x → o ≡ Some x
only_less test None x e = e
only_less test (Some y) x e = where_kept (test y) (Some y) x e

pub restrict_less : (test : ℕ → Bool) (plan : Plan) → KeepsLess (restrict test plan) plan
restrict_less test plan = map_less (only test) (only_less test) plan

both_less : (o q : Option ℕ) (x : ℕ) → both o q ≡ Some x → o ≡ Some x
both_less None q x e = e
both_less (Some y) q x e = where_kept (is_for y q) (Some y) x e

pub meet_less : (plan other : Plan) → KeepsLess (meet plan other) plan
meet_less [] other r x e = e
meet_less (o ∷ os) [] r x e = absurd (cc)
meet_less (o ∷ os) (q ∷ qs) zero x e = both_less o q x e
meet_less (o ∷ os) (q ∷ qs) (suc r) x e = meet_less os qs r x e

kept_either : (b : Bool) (less more plan : Plan) → KeepsLess less plan → KeepsLess more plan → KeepsLess (if b then less else more) plan
kept_either true less more plan one two = one
kept_either false less more plan one two = two

room_below_less : (r : ℕ) (plan : Plan) (n : ℕ) → KeepsLess (room_below r plan n) plan
room_below_less zero plan n = λ q x e. e
room_below_less (suc r) plan n =
    kept_either (nat_le n (length (frees plan))) plan (room_below r (spoil plan r) n) plan (λ q x e. e)
    (λ q x e. spoil_less plan r q x (room_below_less r (spoil plan r) n q x e))

room_less : (plan : Plan) (n : ℕ) → KeepsLess (room plan n) plan
unfolding room
room_less plan n = room_below_less 7 plan n

expr_room_less : (plan : Plan) (e : Term) → KeepsLess (expr_room plan e) plan
expr_room_less plan e r x k = room_less plan (width e) r x (spoil_less (room plan (width e)) 7 r x k)

nothing_kept : (n : ℕ) → KeepsLess (replicate n None) []
nothing_kept zero r x e = e
nothing_kept (suc n) zero x e = absurd (cc)
nothing_kept (suc n) (suc r) x e = nothing_kept n r x e

pub start_below : (count : ℕ) → KeepsBelow count start
start_below count r x e = let nothing : get_or {A = Option ℕ} [] r None ≡ Some x = nothing_kept 8 r x e in absurd (cc)

pub keep_below : (count y : ℕ) → y < count → (plan : Plan) (q : ℕ) → KeepsBelow count plan → KeepsBelow count (keep plan y q)
keep_below count y inside [] q below r x e = below r x e
keep_below count y inside (o ∷ os) zero below zero x e = let same : y ≡ x = cc in omega arith
keep_below count y inside (o ∷ os) zero below (suc r) x e = below (suc r) x e
keep_below count y inside (o ∷ os) (suc q) below zero x e = below zero x e
keep_below count y inside (o ∷ os) (suc q) below (suc r) x e = keep_below count y inside os q (λ r x e. below (suc r) x e) r x e

occurrences_below : (count : ℕ) (e : Term) → HasVarsBelow e count → All (λ x. x < count) (occurrences e)
occurrences_below count (const k) inside = λ i d past. absurd (omega arith)
occurrences_below count (var x) inside = one
  where
    one : All (λ y. y < count) (x ∷ [])
    one zero d past = inside
    one (suc i) d past = absurd (omega arith)
occurrences_below count (neg e) inside = occurrences_below count e inside
occurrences_below count (bin op a b) inside =
    All-append (λ x. x < count) (occurrences a) (occurrences b) (occurrences_below count a inside.0) (occurrences_below count b inside.1)

module _ (count : ℕ) (stable : ℕ → Bool) where
  fetched_below : (plan : Plan) (x : ℕ) (o : Option ℕ) → x < count → KeepsBelow count plan → KeepsBelow count (fetched_plan plan x o)
  fetched_below plan x None inside below = below
  fetched_below plan x (Some r) inside below = keep_below count x inside plan r below

  fetch_below : (parts : ℕ) (xs : List ℕ) (plan : Plan) → All (λ x. x < count) xs → KeepsBelow count plan → KeepsBelow count (fetch_plan stable parts xs plan)
  fetch_below parts [] plan inside below = below
  fetch_below parts (x ∷ xs) plan inside below =
      fetch_below parts xs (fetched_plan plan x (fetch_at stable parts plan x)) (λ i d past. inside (suc i) d (omega arith))
      (fetched_below plan x (fetch_at stable parts plan x) (inside 0 x (omega arith)) below)

  pub expr_below : (e : Term) (plan : Plan) → HasVarsBelow e count → KeepsBelow count plan → KeepsBelow count (expr_plan stable plan e)
  expr_below e plan inside below =
      fetch_below (width e) (occurrences e) (expr_room plan e) (occurrences_below count e inside) (below_less count (expr_room plan e) plan (expr_room_less plan e) below)

  pub eval_below : (e : Term) (plan : Plan) (direct : Option ℕ) → HasVarsBelow e count → KeepsBelow count plan → KeepsBelow count (eval_plan stable plan e direct)
  eval_below e plan None inside below = expr_below e plan inside below
  eval_below e plan (Some r) inside below = below

pub store_below : (count : ℕ) (stable : Bool) (plan : Plan) (x r : ℕ) → x < count → KeepsBelow count plan → KeepsBelow count (store_plan stable plan x r)
store_below count true plan x r inside below = keep_below count x inside (stored plan x) r (below_less count (stored plan x) plan (stored_less plan x) below)
store_below count false plan x r inside below = below_less count (stored plan x) plan (stored_less plan x) below

-- Fetches list by list -------------------------------------------------------------------------------------------

pub fetch_plan_append : (stable : ℕ → Bool) (parts : ℕ) (xs ys : List ℕ) (plan : Plan)
    → fetch_plan stable parts (xs ++ ys) plan ≡ fetch_plan stable parts ys (fetch_plan stable parts xs plan)
fetch_plan_append stable parts [] ys plan = refl
fetch_plan_append stable parts (x ∷ xs) ys plan = fetch_plan_append stable parts xs ys (fetched_plan plan x (fetch_at stable parts plan x))

pub fetch_instrs_append : (stable : ℕ → Bool) (parts : ℕ) (xs ys : List ℕ) (plan : Plan)
    → fetch_instrs stable parts (xs ++ ys) plan ≡ fetch_instrs stable parts xs plan ++ fetch_instrs stable parts ys (fetch_plan stable parts xs plan)
fetch_instrs_append stable parts [] ys plan = refl
fetch_instrs_append stable parts (x ∷ xs) ys plan =
    let next = fetched_plan plan x (fetch_at stable parts plan x) in
    let load = load_into x (fetch_at stable parts plan x) in
    ap (λ cs. load ++ cs) (fetch_instrs_append stable parts xs ys next)
    ∙ sym (append_assoc load (fetch_instrs stable parts xs next) (fetch_instrs stable parts ys (fetch_plan stable parts xs next)))
