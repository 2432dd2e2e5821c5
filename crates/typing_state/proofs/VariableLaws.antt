-- What is declared of variables, by number.
use Rattle.std.proofs.Common.{◌≡◌, ℕ, ◌<◌, inl, inr, None, List, [], Bool, length, map, get_or, sym, ap, ◌∙◌, arith, ◌&&◌, not, true, false, Option, Some, if◌then◌else◌}
use Rattle.std.specs.Prelude.{IfSome}
use Rattle.std.proofs.lemmas.Bool.{cases_lt, not-false, not-true}
use Rattle.std.proofs.lemmas.List.{get_or-map, get_or_past, length-map}
use Rattle.std.proofs.lemmas.Simd.{map-map}
use Rattle.std.proofs.lemmas.List.FromFn.{get_or-map-range_with_len, length-map-range_with_len}
use Rattle.cov_expr.specs.Term.{Term, const}
use Rattle.cov_expr.specs.Trees.{mentions}
use Rattle.cov_ast.specs.Declarations.{class_of, is_control, no_var, under}
use Rattle.cov_ast.specs.Plain.{Plain, class_term}
use Rattle.cov_ast.specs.Tables.{has, table}
use Rattle.cov_ast.proofs.TableLaws.{table_at, table_length}
use Rattle.mode_state.specs.Sets.{Sets, modes_at}
use Rattle.typing_state.specs.Groups.{is_free}
use Rattle.point_law.specs.Point.{vars_of}
use Rattle.point_law.specs.After.{locked_type}

-- the classes of a program
module _ {X : Type 0} (g : X → Term) (classes : List X) (p : Plain) (is : map g classes ≡ map (class_of p) (vars_of p)) where
  pub as_many_classes : length classes ≡ length p.vars
  as_many_classes = sym (length-map classes g) ∙ ap length is ∙ length-map-range_with_len (class_of p) 0 (length p.vars)

  pub class_is : (x : ℕ) (q : X) → x < length p.vars → g (get_or classes x q) ≡ class_of p x
  class_is x q inside =
      sym (get_or-map g classes x q (const 0) (omega (arith, as_many_classes))) ∙ ap (λ es. get_or es x (const 0)) is
      ∙ get_or-map-range_with_len (class_of p) 0 (length p.vars) x x (const 0) inside (omega arith)

-- the same as types
pub some_classes : {X : Type 0} (g : X → Term) (classes : List X) (p : Plain) → map g classes ≡ map (class_of p) (vars_of p)
    → map (λ q. Some (g q)) classes ≡ map (λ x. Some (class_of p x)) (vars_of p)
some_classes g classes p is = sym (map-map Some g classes) ∙ ap (map Some) is ∙ map-map Some (class_of p) (vars_of p)

-- a class that mentions a variable or doesn't
pub class_free : (p : Plain) (types : List (Option Term)) → types ≡ map (λ x. Some (class_of p x)) (vars_of p) → (x y : ℕ)
    → is_free x (get_or types y None) ≡ not (mentions (class_of p y) x)
class_free p types is x y =
    ap (λ qs. is_free x (get_or qs y None)) is
    ∙ elim (cases_lt y (length p.vars)) [
      | inl lt ↦ ap (is_free x) (get_or-map-range_with_len (λ z. Some (class_of p z)) 0 (length p.vars) y y None lt (omega arith))
      | inr le ↦
          ap (is_free x) (get_or_past (map (λ z. Some (class_of p z)) (vars_of p)) y None (omega (arith, length-map-range_with_len (λ z. Some (class_of p z)) 0 (length p.vars))))
          ∙ sym (ap (λ v. not (mentions (class_term v.class) x)) (get_or_past p.vars y no_var le))
    ]

-- a variable whose class isn't free of another
pub class_mentions : (p : Plain) (types : List (Option Term)) → types ≡ map (λ x. Some (class_of p x)) (vars_of p) → (x : ℕ) (y : Option ℕ)
    → IfSome y (λ y. is_free x (get_or types y None) ≡ false) → IfSome y (λ y. mentions (class_of p y) x ≡ true)
class_mentions p types is x None h = tt
class_mentions p types is x (Some y) h = not-false (mentions (class_of p y) x) (sym (class_free p types is x y) ∙ h)

-- the variables that a lock lists
pub lists_is : (p : Plain) (t : ℕ) (held : List Bool) (s : Sets) (l x : ℕ) → s ≡ modes_at p t held → l < length p.locks → x < length p.vars
    → has (get_or s.listed l []) x ≡ under p l x
lists_is p t held s l x is lock inside =
    ap (λ u. has (get_or u.listed l []) x) is
    ∙ ap (λ m. has m x) (get_or-map-range_with_len (λ k. table (length p.vars) (under p k)) 0 (length p.locks) l l [] lock (omega arith))
    ∙ table_at (length p.vars) (under p l) x inside

-- there is a index for each variable
pub lists_long : (p : Plain) (t : ℕ) (held : List Bool) (s : Sets) (l : ℕ) → s ≡ modes_at p t held → l < length p.locks → length (get_or s.listed l []) ≡ length p.vars
lists_long p t held s l is lock =
    ap (λ u. length (get_or u.listed l [])) is
    ∙ ap length (get_or-map-range_with_len (λ k. table (length p.vars) (under p k)) 0 (length p.locks) l l [] lock (omega arith))
    ∙ table_length (length p.vars) (under p l)

-- a variable that a lock doesn't list keeps its type
pub unlisted_keeps : (p : Plain) (t : ℕ) (held : List Bool) (s : Sets) (l x : ℕ) (q : Option Term) → s ≡ modes_at p t held → l < length p.locks → x < length p.vars
    → not (has (get_or s.listed l []) x) ≡ true → locked_type p l x q ≡ q
unlisted_keeps p t held s l x q is lock inside away =
    ap (λ u. if u && not (is_control p x) then Some (class_of p x) else q)
    (sym (lists_is p t held s l x is lock inside) ∙ not-true (has (get_or s.listed l []) x) away)
