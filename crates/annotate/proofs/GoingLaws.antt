-- Uses of names that a walk over a text comes by.
use Rattle.std.proofs.Common.{◌≡◌, ℕ, ◌==◌, if◌then◌else◌, ◌+◌, ◌<◌, ◌≤◌, flat_map, get_or, Bor, Option, Some, None, option_map, Result, Ok, Err, OnOk, List, [], ◌∷◌, ◌++◌, length, map, take, drop, refl, sym, ap, ◌∙◌, append_assoc, append-nil, length-append, drop-drop}
use Rattle.std.specs.Option.{option_copied}
use Rattle.std.proofs.Math.Seq.{take-add}
use Rattle.std.proofs.lemmas.List.{at_drop_more, drop_all, map-append}
use Rattle.cov_expr.specs.Term.{var}
use Rattle.cov_expr.specs.View.{term}
use Rattle.cov_expr.specs.declared.expr.Expr.{Expr}
use Rattle.cov_expr.specs.declared.expr.TheConstants.{HOLE}
use Rattle.cov_ast.specs.Ready.{as_variable, Use, uses_in, uses_in_cert, uses_in_option}
use Rattle.cov_ast.specs.Syntax.{Cert}
use Rattle.cov_ast.specs.declared.parsed.NameUse.{NameUse}
use Rattle.annotate.specs.AnnotatedText.{becomes, stays, uses_at, uses_with, UsesPart}
use Rattle.annotate.specs.Inside.Going.{added, gone, Halfway, kept, part_gone, parts_gone, passed, placed}
use Rattle.annotate.specs.declared.uses.Way.{Way}
use Rattle.annotate.specs.declared.uses.Way.TheVariants as ways

kept_more : (n m : ℕ) (h : Halfway) → kept (n + m) h ≡ kept m (kept n h)
kept_more n m h = λ i. record {
  made = (ap (λ us. h.made ++ us) (take-add n m h.rest) ∙ sym (append_assoc h.made (take n h.rest) (take m (drop n h.rest)))) i;
  rest = sym (drop-drop m n h.rest) i;
}

-- uses behind uses
pub gone_append : (way : Way) (us vs : List Use) (h : Halfway) → gone way (us ++ vs) h ≡ gone way vs (gone way us h)
unfolding gone
gone_append ways.Keep us vs h = ap (λ n. kept n h) (length-append us vs) ∙ kept_more (length us) (length vs) h
gone_append ways.Pass us vs h =
    ap (λ n. passed n h) (length-append us vs) ∙ (λ i. record { made = h.made; rest = sym (drop-drop (length vs) (length us) h.rest) i })
gone_append (ways.Add place) us vs h = λ i. record {
  made = (ap (λ ws. h.made ++ ws) (map-append (λ u. record { name = u.name; lock = u.lock; at = place }) us vs)
      ∙ sym (append_assoc h.made (placed place us) (placed place vs))) i;
  rest = h.rest;
}

-- no uses
pub gone_nothing : (way : Way) (h : Halfway) → gone way [] h ≡ h
unfolding gone
gone_nothing ways.Keep h = λ i. record { made = append-nil h.made i; rest = h.rest }
gone_nothing ways.Pass h = refl
gone_nothing (ways.Add place) h = λ i. record { made = append-nil h.made i; rest = h.rest }

-- the hole of a template
pub hole_goes : (way : Way) (x : ℕ) (h : Halfway) → x ≡ HOLE → h ≡ gone way (uses_in (var x)) h
hole_goes way x h is = sym (ap (λ y. gone way (if y == HOLE then [] else as_variable y) h) is ∙ gone_nothing way h)

-- of an answer, where it isn't that memory ran out: some behind others are all
pub two_go : {T E : Type 0} (r : Result T E) (way : Way) (all us vs : List Use) (g h i : Halfway) → h ≡ gone way us g → OnOk r (i ≡ gone way vs h) → all ≡ us ++ vs
    → OnOk r (i ≡ gone way all g)
two_go (Ok x) way all us vs g h i first second parts =
    second ∙ ap (gone way vs) first ∙ sym (gone_append way us vs g) ∙ ap (λ ws. gone way ws g) (sym parts)
two_go (Err e) way all us vs g h i first second parts = tt

pub three_go : {T E : Type 0} (r : Result T E) (way : Way) (all us vs ws : List Use) (f g h i : Halfway) → g ≡ gone way us f → h ≡ gone way vs g → OnOk r (i ≡ gone way ws h)
    → all ≡ us ++ vs ++ ws → OnOk r (i ≡ gone way all f)
three_go r way all us vs ws f g h i first second third parts =
    two_go r way all (us ++ vs) ws f h i (second ∙ ap (gone way vs) first ∙ sym (gone_append way us vs f)) third parts

pub four_go : {T E : Type 0} (r : Result T E) (way : Way) (all us vs ws xs : List Use) (e f g h i : Halfway) → f ≡ gone way us e → g ≡ gone way vs f → h ≡ gone way ws g
    → OnOk r (i ≡ gone way xs h) → all ≡ us ++ vs ++ ws ++ xs → OnOk r (i ≡ gone way all e)
four_go r way all us vs ws xs e f g h i first second third fourth parts =
    three_go r way all (us ++ vs) ws xs e g h i (second ∙ ap (gone way vs) first ∙ sym (gone_append way us vs e)) third fourth parts

-- uses of the items of a list, one item after another
module _ {X A : Type 0} (way : Way) (per : A → List Use) (view : X → A) (xs : List X) (i : ℕ) where
  pub list_goes_on : (x : X) (start now next : Halfway) → i < length xs → x ≡ get_or xs i x → gone way (flat_map per (map view (drop i xs))) now ≡ start
      → next ≡ gone way (per (view x)) now → gone way (flat_map per (map view (drop (i + 1) xs))) next ≡ start
  list_goes_on x start now next inside is so_far more =
      ap (gone way (flat_map per (map view (drop (i + 1) xs)))) more ∙ sym (gone_append way (per (view x)) (flat_map per (map view (drop (i + 1) xs))) now)
      ∙ ap (λ y. gone way (per (view y) ++ flat_map per (map view (drop (i + 1) xs))) now) is
      ∙ sym (at_drop_more (λ ys. gone way (flat_map per (map view ys)) now) xs i x inside) ∙ so_far

  pub list_ends : (start now : Halfway) → length xs ≤ i → gone way (flat_map per (map view (drop i xs))) now ≡ start → now ≡ start
  list_ends start now past so_far =
      sym (gone_nothing way now) ∙ sym (ap (λ ys. gone way (flat_map per (map view ys)) now) (drop_all i xs past)) ∙ so_far

pub numbers_go_on : (way : Way) (per : ℕ → List Use) (xs : List ℕ) (i : ℕ) (start now next : Halfway) → i < length xs → gone way (flat_map per (drop i xs)) now ≡ start
    → next ≡ gone way (per (get_or xs i 0)) now → gone way (flat_map per (drop (i + 1) xs)) next ≡ start
numbers_go_on way per xs i start now next inside so_far more =
    ap (gone way (flat_map per (drop (i + 1) xs))) more ∙ sym (gone_append way (per (get_or xs i 0)) (flat_map per (drop (i + 1) xs)) now)
    ∙ sym (at_drop_more (λ ys. gone way (flat_map per ys) now) xs i 0 inside) ∙ so_far

pub numbers_end : (way : Way) (per : ℕ → List Use) (xs : List ℕ) (i : ℕ) (start now : Halfway) → length xs ≤ i → gone way (flat_map per (drop i xs)) now ≡ start → now ≡ start
numbers_end way per xs i start now past so_far =
    sym (gone_nothing way now) ∙ sym (ap (λ ys. gone way (flat_map per ys) now) (drop_all i xs past)) ∙ so_far

-- one use
pub one_kept : (u : Use) (h : Halfway) → gone ways.Keep (u ∷ []) h ≡ kept 1 h
unfolding gone
one_kept u h = refl

pub one_passed : (u : Use) (h : Halfway) → gone ways.Pass (u ∷ []) h ≡ passed 1 h
unfolding gone
one_passed u h = refl

pub one_added : (place x : ℕ) (h : Halfway) → gone (ways.Add place) (as_variable x) h ≡ added (placed place (as_variable x)) h
unfolding gone
one_added place x h = refl

pub ruleset one_use = (one_kept, one_passed, one_added)

-- where no use is left
pub none_kept : (made : List NameUse) → kept 1 (record { made = made; rest = [] }) ≡ record { made = made; rest = [] }
none_kept made = λ i. record { made = append-nil made i; rest = [] }

pub ruleset none_left = (none_kept)

-- an expression that is lent, if there is one
pub lent_option : (o : Option (Bor Expr)) (p : Option Expr) → option_copied o ≡ p → uses_in_option (option_map term p) ≡ uses_in_option (option_map (λ f. term f.now) o)
lent_option o p is = ap (λ q. uses_in_option (option_map term q)) (sym is) ∙ go o
  where
    go : (o : Option (Bor Expr)) → uses_in_option (option_map term (option_copied o)) ≡ uses_in_option (option_map (λ f. term f.now) o)
    go None = refl
    go (Some e) = refl

-- those in a new certificate
pub cert_added : (place : ℕ) (c : Cert) (h : Halfway) → gone (ways.Add place) (uses_in_cert c) h ≡ added (uses_at place c) h
unfolding gone
cert_added place c h = refl

-- Parts --------------------------------------------------------------------------------------------------------

pub parts_append : (ps qs : List UsesPart) (h : Halfway) → parts_gone (ps ++ qs) h ≡ parts_gone qs (parts_gone ps h)
unfolding parts_gone
parts_append [] qs h = refl
parts_append (p ∷ ps) qs h = parts_append ps qs (part_gone p h)

pub no_parts : (h : Halfway) → parts_gone [] h ≡ h
unfolding parts_gone
no_parts h = refl

pub parts_next : (p : UsesPart) (ps : List UsesPart) (h : Halfway) → parts_gone (p ∷ ps) h ≡ parts_gone ps (part_gone p h)
unfolding parts_gone
parts_next p ps h = refl

-- what parts make
pub parts_made : (ps : List UsesPart) (h : Halfway) → (parts_gone ps h).made ≡ h.made ++ uses_with ps h.rest
unfolding parts_gone gone
parts_made [] h = sym (append-nil h.made)
parts_made (stays us ∷ ps) h =
    parts_made ps (kept (length us) h) ∙ append_assoc h.made (take (length us) h.rest) (uses_with ps (drop (length us) h.rest))
parts_made (becomes before after ∷ ps) h =
    parts_made ps (added after (passed (length before) h)) ∙ append_assoc h.made after (uses_with ps (drop (length before) h.rest))
