-- Laws of points: a variable has a type exactly where it is tracked.
use Rattle.std.proofs.Common.{◌≡◌, eq-eqb, subst, ℕ, zero, suc, ◌+◌, ◌<◌, ◌≤◌, List, [], ◌∷◌, Bool, true, false, length, map, get_or, set, drop, refl, sym, ap, ◌∙◌, arith, ◌==◌, Option, Some, None, option_map, unwrap_or, is_some, if◌then◌else◌, inl, inr}
use Rattle.std.specs.Option.{option_or}
use Rattle.std.proofs.lemmas.List.{length-set, length-replicate, same_lists, get_or-set_same, get_or-set_other, get_or_default, at_drop_more, at_drop_all}
use Rattle.std.proofs.lemmas.List.FromFn.{get_or-map-range_with_len, length-map-range_with_len}
use Rattle.std.proofs.lemmas.Bool.{cases_eq, ne_eqb}
use Rattle.cov_expr.specs.Term.{Term}
use Rattle.cov_ast.specs.Syntax.{State}
use Rattle.cov_ast.specs.Plain.{Plain}
use Rattle.cov_ast.specs.Declarations.{class_of}
use Rattle.point_law.specs.Point.{Point, is_tracked}
use Rattle.point_law.specs.Terms.{listed}
use Rattle.point_law.specs.After.{start, start_type, updated, updated_from, retyped, listed_or, noted, assigned_type, after_assign}
use Rattle.point_law.specs.Point.{IsPoint}

some_if : (b : Bool) (e : Term) → is_some (if b then Some e else None) ≡ b
some_if true e = refl
some_if false e = refl

pub some_mapped : (f : Term → Term) (q : Option Term) → is_some (option_map f q) ≡ is_some q
some_mapped f None = refl
some_mapped f (Some q) = refl

-- The start ----------------------------------------------------------------------------------------------------

pub start_point : (p : Plain) (t : ℕ) → IsPoint p t (start p t)
start_point p t = record {
  complete = length-map-range_with_len (start_type p t (start p t).held) 0 (length p.vars);
  locks = length-replicate (length p.locks) false;
  tracked = λ x lt.
      ap is_some (get_or-map-range_with_len (start_type p t (start p t).held) 0 (length p.vars) x x None lt (omega arith))
      ∙ some_if (is_tracked p t (start p t).held x) (class_of p x);
}

-- Types that are replaced --------------------------------------------------------------------------------------

length-updated_from : (n : ℕ) (f : ℕ → Option Term → Option Term) (qs : List (Option Term)) → length (updated_from n f qs) ≡ length qs
length-updated_from n f [] = refl
length-updated_from n f (q ∷ qs) = ap suc (length-updated_from (suc n) f qs)

pub length-updated : (f : ℕ → Option Term → Option Term) (qs : List (Option Term)) → length (updated f qs) ≡ length qs
length-updated f qs = length-updated_from 0 f qs

updated_from_at : (n : ℕ) (f : ℕ → Option Term → Option Term) (qs : List (Option Term)) (k j : ℕ) (d : Option Term) → k < length qs → j ≡ n + k
    → get_or (updated_from n f qs) k d ≡ f j (get_or qs k d)
updated_from_at n f [] k j d lt e = absurd (omega arith)
updated_from_at n f (q ∷ qs) zero j d lt e = let same : n ≡ j = omega arith in ap (λ i. f i q) same
updated_from_at n f (q ∷ qs) (suc k) j d lt e = updated_from_at (suc n) f qs k j d (omega arith) (omega arith)

pub updated_at : (f : ℕ → Option Term → Option Term) (qs : List (Option Term)) (k : ℕ) (d : Option Term) → k < length qs
    → get_or (updated f qs) k d ≡ f k (get_or qs k d)
updated_at f qs k d lt = updated_from_at 0 f qs k k d lt (omega arith)

-- two functions that agree on each variable
pub updated_same : (f g : ℕ → Option Term → Option Term) (qs rs : List (Option Term)) → length qs ≡ length rs
    → ((k : ℕ) (d : Option Term) → k < length qs → f k (get_or qs k d) ≡ g k (get_or rs k d)) → updated f qs ≡ updated g rs
updated_same f g qs rs e h =
    same_lists (updated f qs) (updated g rs) (length-updated f qs ∙ e ∙ sym (length-updated g rs))
    (λ k d lt. let inside : k < length qs = omega (arith, length-updated f qs) in let there : k < length rs = omega arith in
    updated_at f qs k d inside ∙ h k d inside ∙ sym (updated_at g rs k d there))

-- a function that changes nothing
pub updated_none : (f : ℕ → Option Term → Option Term) (qs : List (Option Term)) → ((k : ℕ) (q : Option Term) → f k q ≡ q) → updated f qs ≡ qs
updated_none f qs h =
    same_lists (updated f qs) qs (length-updated f qs)
    (λ k d lt. let inside : k < length qs = omega (arith, length-updated f qs) in updated_at f qs k d inside ∙ h k (get_or qs k d))

-- a point of which types are replaced, but none is made or dropped
pub retyped_point : (p : Plain) (t : ℕ) (a b : Point) (f : ℕ → Term → Term) → b.held ≡ a.held → b.types ≡ retyped f a.types → IsPoint p t a → IsPoint p t b
retyped_point p t a b f held types h = record {
  complete = ap length types ∙ length-updated (λ x q. option_map (f x) q) a.types ∙ h.complete;
  locks = ap length held ∙ h.locks;
  tracked = λ x lt.
      let inside : x < length a.types = omega (arith, h.complete) in
      ap (λ qs. is_some (get_or qs x None)) types ∙ ap is_some (updated_at (λ y q. option_map (f y) q) a.types x None inside)
      ∙ some_mapped (f x) (get_or a.types x None) ∙ h.tracked x lt ∙ ap (λ ks. is_tracked p t ks x) (sym held);
}

-- Types that a list gives --------------------------------------------------------------------------------------

-- a type in the place of that of a variable, if it has one
abbrev pub put : List (Option Term) → ℕ → Term → List (Option Term)
put qs x r = set qs x (option_map (λ q. r) (get_or qs x None))

-- the last type that a list has for a variable counts
listed_here : (u : Option Term) (b : Bool) (r g : Term) → b ≡ true → unwrap_or (option_or u (if b then Some r else None)) g ≡ unwrap_or u r
listed_here None b r g e = ap (λ c. unwrap_or (if c then Some r else None) g) e
listed_here (Some s) b r g e = refl

listed_there : (u : Option Term) (b : Bool) (r g : Term) → b ≡ false → unwrap_or (option_or u (if b then Some r else None)) g ≡ unwrap_or u g
listed_there None b r g e = ap (λ c. unwrap_or (if c then Some r else None) g) e
listed_there (Some s) b r g e = refl

mapped_same : (f h : Term → Term) (q : Option Term) → ((g : Term) → f g ≡ h g) → option_map f q ≡ option_map h q
mapped_same f h None e = refl
mapped_same f h (Some g) e = ap Some (e g)

mapped_put : (f : Term → Term) (r : Term) (q : Option Term) → option_map f (option_map (λ g. r) q) ≡ option_map (λ g. f r) q
mapped_put f r None = refl
mapped_put f r (Some g) = refl

-- putting the first type and then the others
pub put_more : (qs : List (Option Term)) (x : ℕ) (r : Term) (ts : List (ℕ × Term)) → retyped (listed_or ts) (put qs x r) ≡ retyped (listed_or ((x, r) ∷ ts)) qs
put_more qs x r ts =
    updated_same (λ z q. option_map (listed_or ts z) q) (λ z q. option_map (listed_or ((x, r) ∷ ts) z) q) (put qs x r) qs (length-set qs x (option_map (λ q. r) (get_or qs x None)))
    (λ k d lt. let inside : k < length qs = omega (arith, length-set qs x (option_map (λ q. r) (get_or qs x None))) in
    elim (cases_eq x k) [
      | inl e ↦ subst (λ j. option_map (listed_or ts j) (get_or (put qs x r) j d) ≡ option_map (listed_or ((x, r) ∷ ts) j) (get_or qs j d)) e
          (let here : x < length qs = omega (arith, e) in
          ap (option_map (listed_or ts x)) (get_or-set_same qs x (option_map (λ q. r) (get_or qs x None)) d here)
          ∙ mapped_put (listed_or ts x) r (get_or qs x None)
          ∙ mapped_same (λ g. listed_or ts x r) (listed_or ((x, r) ∷ ts) x) (get_or qs x None) (λ g. sym (listed_here (listed ts x) (x == x) r g (eq-eqb x x refl)))
          ∙ ap (option_map (listed_or ((x, r) ∷ ts) x)) (get_or_default qs x None d here))
      | inr ne ↦ ap (option_map (listed_or ts k)) (get_or-set_other qs x k (option_map (λ q. r) (get_or qs x None)) d (λ e. ne (sym e)))
          ∙ mapped_same (listed_or ts k) (listed_or ((x, r) ∷ ts) k) (get_or qs k d) (λ g. sym (listed_there (listed ts k) (x == k) r g (ne_eqb x k ne)))
    ])

pub put_none : (qs : List (Option Term)) → retyped (listed_or []) qs ≡ qs
put_none qs = updated_none (λ z q. option_map (listed_or [] z) q) qs (λ k q. same q)
  where
    same : (q : Option Term) → option_map (λ g. g) q ≡ q
    same None = refl
    same (Some g) = refl

-- a loop over items that each list a type
module _ {X : Type 0} (g : X → ℕ × Term) (items : List X) (whole : List (Option Term)) (i : ℕ) (qs : List (Option Term))
    (kept : retyped (listed_or (map g (drop i items))) qs ≡ whole) where
  pub put_step : (x : X) (new : List (Option Term)) → i < length items → x ≡ get_or items i x → new ≡ put qs (g x).0 (g x).1
      → retyped (listed_or (map g (drop (i + 1) items))) new ≡ whole
  put_step x new inside is e =
      ap (retyped (listed_or (map g (drop (i + 1) items)))) e ∙ put_more qs (g x).0 (g x).1 (map g (drop (i + 1) items))
      ∙ sym (at_drop_more (λ ys. retyped (listed_or (map g ys)) qs) items i x inside ∙ ap (λ y. retyped (listed_or (g y ∷ map g (drop (i + 1) items))) qs) (sym is))
      ∙ kept

  pub put_end : length items ≤ i → qs ≡ whole
  put_end past = sym (put_none qs) ∙ sym (at_drop_all (λ ys. retyped (listed_or (map g ys)) qs) items i past) ∙ kept

-- a note keeps points
pub noted_point : (p : Plain) (t : ℕ) (a : Point) (j : State) → IsPoint p t a → IsPoint p t (noted a j)
noted_point p t a j h = retyped_point p t a (noted a j) (listed_or j.types) refl refl h

-- types that are replaced twice
mapped_twice : (f g : Term → Term) (q : Option Term) → option_map f (option_map g q) ≡ option_map (λ r. f (g r)) q
mapped_twice f g None = refl
mapped_twice f g (Some q) = refl

twice_from : (n : ℕ) (f g : ℕ → Term → Term) (qs : List (Option Term)) → updated_from n (λ z q. option_map (f z) q) (updated_from n (λ z q. option_map (g z) q) qs)
    ≡ updated_from n (λ z q. option_map (λ r. f z (g z r)) q) qs
twice_from n f g [] = refl
twice_from n f g (q ∷ qs) = λ i. mapped_twice (f n) (g n) q i ∷ twice_from (suc n) f g qs i

pub retyped_twice : (f g : ℕ → Term → Term) (qs : List (Option Term)) → retyped f (retyped g qs) ≡ retyped (λ z q. f z (g z q)) qs
retyped_twice f g qs = twice_from 0 f g qs

-- one type that is replaced
one_listed : (b : Bool) (r g : Term) → unwrap_or (option_or None (if b then Some r else None)) g ≡ (if b then r else g)
one_listed true r g = refl
one_listed false r g = refl

pub put_one : (qs : List (Option Term)) (x : ℕ) (r : Term) → put qs x r ≡ retyped (λ z g. if x == z then r else g) qs
put_one qs x r =
    sym (put_none (put qs x r)) ∙ put_more qs x r []
    ∙ updated_same (λ z q. option_map (listed_or ((x, r) ∷ []) z) q) (λ z q. option_map (λ g. if x == z then r else g) q) qs qs refl
    (λ k d lt. mapped_same (listed_or ((x, r) ∷ []) k) (λ g. if x == k then r else g) (get_or qs k d) (one_listed (x == k) r))

pub assign_point : (p : Plain) (t : ℕ) (a : Point) (x : ℕ) (e q : Term) (retypes : List (ℕ × Term)) → IsPoint p t a → IsPoint p t (after_assign p t a x e q retypes)
assign_point p t a x e q retypes h = retyped_point p t a (after_assign p t a x e q retypes) (assigned_type p t a.held x q retypes) refl refl h
