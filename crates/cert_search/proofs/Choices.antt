-- What a choice among certificates says, and how hypotheses are met one after another.
use Rattle.std.proofs.Common.{◌≡◌, ℕ, zero, suc, List, [], ◌∷◌, drop, slice_get, Bool, true, false, Option, Some, None, option_map, is_some, ◌⊎◌, refl, sym, ◌∙◌, ap, inl, inr}
use Rattle.cov_expr.specs.Term.{Term, const, var, neg, bin}
use Rattle.cov_expr.specs.declared.expr.Op.TheVariants.{Eq}
use Rattle.cov_ast.specs.Syntax.{Cert}
use Rattle.entail_cert.specs.Valid.{operands_of}
use Rattle.cert_search.specs.Classes.{of_sides, variable_and_side, definition_in}
use Rattle.cert_search.specs.Searching.{first_of, joined, only_where}

-- Where there is one -------------------------------------------------------------------------------------------

pub none_some : {A : Type 0} (C : Type 0) (x : A) → None ≡ Some x → C
none_some C x h = cc

pub first_some : (a b : Option Cert) (c : Cert) → first_of a b ≡ Some c → (a ≡ Some c) ⊎ (b ≡ Some c)
first_some (Some x) b c h = inl h
first_some None b c h = inr h

pub first_none : (a b : Option Cert) → first_of a b ≡ None → (a ≡ None) × (b ≡ None)
first_none (Some c) b h = none_some ((Some c ≡ None) × (b ≡ None)) c (sym h)
first_none None b h = (refl, h)

pub record Mapped (f : Cert → Cert) (o : Option Cert) (c : Cert) : Type 0 where
  pub part : Cert
  pub there : o ≡ Some part
  pub is : f part ≡ c

pub mapped_some : (f : Cert → Cert) (o : Option Cert) (c : Cert) → option_map f o ≡ Some c → Mapped f o c
mapped_some f None c h = none_some (Mapped f None c) c h
mapped_some f (Some x) c h = record { part = x; there = refl; is = cc }

pub record Joined (node : Cert → Cert → Cert) (o p : Option Cert) (c : Cert) : Type 0 where
  pub first : Cert
  pub second : Cert
  pub first_there : o ≡ Some first
  pub second_there : p ≡ Some second
  pub is : node first second ≡ c

pub joined_some : (node : Cert → Cert → Cert) (o p : Option Cert) (c : Cert) → joined node o p ≡ Some c → Joined node o p c
joined_some node None p c h = none_some (Joined node None p c) c h
joined_some node (Some x) None c h = none_some (Joined node (Some x) None c) c h
joined_some node (Some x) (Some y) c h = record { first = x; second = y; first_there = refl; second_there = refl; is = cc }

pub where_true : (b : Bool) (o : Option Cert) (c : Cert) → only_where b o ≡ Some c → b ≡ true
where_true true o c h = refl
where_true false o c h = none_some (false ≡ true) c h

pub where_some : (b : Bool) (o : Option Cert) (c : Cert) → only_where b o ≡ Some c → o ≡ Some c
where_some true o c h = h
where_some false o c h = none_some (o ≡ Some c) c h

-- Whether there is one -----------------------------------------------------------------------------------------

pub some_left : (a b : Option Cert) → is_some a ≡ true → is_some (first_of a b) ≡ true
some_left (Some x) b h = refl
some_left None b h = let c : false ≡ true = h in cc

pub some_right : (a b : Option Cert) → is_some b ≡ true → is_some (first_of a b) ≡ true
some_right (Some x) b h = refl
some_right None b h = h

pub some_mapped : (f : Cert → Cert) (o : Option Cert) → is_some o ≡ true → is_some (option_map f o) ≡ true
some_mapped f (Some x) h = refl
some_mapped f None h = h

pub some_joined : (node : Cert → Cert → Cert) (o p : Option Cert) → is_some o ≡ true → is_some p ≡ true → is_some (joined node o p) ≡ true
some_joined node (Some x) (Some y) h k = refl
some_joined node (Some x) None h k = k
some_joined node None p h k = h

pub some_where : (b : Bool) (o : Option Cert) → b ≡ true → is_some o ≡ true → is_some (only_where b o) ≡ true
some_where true o h k = k
some_where false o h k = let c : false ≡ true = h in cc

-- Hypotheses one after another ---------------------------------------------------------------------------------

pub drop_head : (n : ℕ) (hyps : List Term) (h : Term) (hs : List Term) → drop n hyps ≡ h ∷ hs → slice_get hyps n ≡ Some h
drop_head zero [] h hs e = let c : ◌≡◌ {A = List Term} [] (h ∷ hs) = e in cc
drop_head zero (x ∷ hyps) h hs e = let c : ◌≡◌ {A = List Term} (x ∷ hyps) (h ∷ hs) = e in cc
drop_head (suc n) [] h hs e = let c : ◌≡◌ {A = List Term} [] (h ∷ hs) = e in cc
drop_head (suc n) (x ∷ hyps) h hs e = drop_head n hyps h hs e

pub drop_tail : (n : ℕ) (hyps : List Term) (h : Term) (hs : List Term) → drop n hyps ≡ h ∷ hs → drop (suc n) hyps ≡ hs
drop_tail zero [] h hs e = let c : ◌≡◌ {A = List Term} [] (h ∷ hs) = e in cc
drop_tail zero (x ∷ hyps) h hs e = let c : ◌≡◌ {A = List Term} (x ∷ hyps) (h ∷ hs) = e in let d : hyps ≡ hs = cc in d
drop_tail (suc n) [] h hs e = let c : ◌≡◌ {A = List Term} [] (h ∷ hs) = e in cc
drop_tail (suc n) (x ∷ hyps) h hs e = drop_tail n hyps h hs e

-- Equations `x == e` -------------------------------------------------------------------------------------------

inside : (p q : ℕ × Term) → Some p ≡ Some q → p ≡ q
inside p q h = cc

sides_at : (a b : Term) (x : ℕ) (e : Term) → variable_and_side a b ≡ Some (x, e) → (a ≡ var x) × (b ≡ e)
sides_at (var y) b x e h = let k = inside (y, b) (x, e) h in (ap (λ p. var p.0) k, ap (λ p. p.1) k)
sides_at (const k) b x e h = none_some ((const k ≡ var x) × (b ≡ e)) (x, e) h
sides_at (neg a) b x e h = none_some ((neg a ≡ var x) × (b ≡ e)) (x, e) h
sides_at (bin op a c) b x e h = none_some ((bin op a c ≡ var x) × (b ≡ e)) (x, e) h

paired : (a b c d : Term) → a ≡ c → b ≡ d → ◌≡◌ {A = Option (Term × Term)} (Some (a, b)) (Some (c, d))
paired a b c d h k = ap (λ a. Some (a, b)) h ∙ ap (λ b. Some (c, b)) k

sides_are : (o : Option (Term × Term)) (x : ℕ) (e : Term) → of_sides o ≡ Some (x, e) → o ≡ Some (var x, e)
sides_are None x e h = none_some (None ≡ Some (var x, e)) (x, e) h
sides_are (Some s) x e h = let p = sides_at s.0 s.1 x e h in paired s.0 s.1 (var x) e p.0 p.1

pub definition_sides : (o : Option Term) (x : ℕ) (e : Term) → definition_in o ≡ Some (x, e) → operands_of Eq o ≡ Some (var x, e)
definition_sides o x e h = sides_are (operands_of Eq o) x e h
