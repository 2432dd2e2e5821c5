-- What is marked is what is a control, and what is hidden.
use Rattle.std.proofs.Common.{◌≡◌, ◌≤◌, ◌<◌, ℕ, length, not, arith, ◌||◌, ◌&&◌, List, [], ◌∷◌, Bool, true, false, replicate, is_some, if◌then◌else◌, sym, ◌∙◌, ap}
use Rattle.std.specs.List.{list_any}
use Rattle.std.proofs.Math.Bool.{or-false}
use Rattle.cov_expr.specs.Trees.{has_number, mentions, occurrences}
use Rattle.cov_expr.proofs.Tests.{or_regrouped}
use Rattle.cov_expr.proofs.Trees.{occurs}
use Rattle.cov_ast.specs.Syntax.{Var, Lock}
use Rattle.cov_ast.specs.Declarations.{is_control}
use Rattle.cov_ast.specs.Plain.{Plain, PlainThread, class_term}
use Rattle.cov_ast.specs.Tables.{has, table, with_all}
use Rattle.cov_ast.proofs.TableLaws.{none_table, table_at, table_same, with_all_table}
use Rattle.flow_model.specs.Source.{Holders}
use Rattle.flow_model.specs.FirstDifference.{first_var, hidden_by, is_apart, is_hidden, is_low_in, same_word}
use Rattle.flow_model.specs.Inside.{is_marked_apart, with_assumed, with_controls, with_held}
use Rattle.flow_model.proofs.Firsts.{same_found}

controls_table : (n : ℕ) (f : ℕ → Bool) (vs : List Var)
    → with_controls (table n f) vs ≡ table n (λ x. f x || list_any (λ v. mentions (class_term v.class) x) vs)
controls_table n f [] = table_same n f (λ x. f x || false) (λ x h. sym (or-false (f x)))
controls_table n f (v ∷ vs) =
    ap (λ m. with_controls m vs) (with_all_table n f (occurrences (class_term v.class)))
    ∙ controls_table n (λ x. f x || has_number (occurrences (class_term v.class)) x) vs
    ∙ table_same n (λ x. (f x || has_number (occurrences (class_term v.class)) x) || list_any (λ w. mentions (class_term w.class) x) vs)
    (λ x. f x || list_any (λ w. mentions (class_term w.class) x) (v ∷ vs))
    (λ x h. ap (λ t. (f x || t) || list_any (λ w. mentions (class_term w.class) x) vs) (occurs (class_term v.class) x)
    ∙ sym (or_regrouped (f x) (mentions (class_term v.class) x) (list_any (λ w. mentions (class_term w.class) x) vs)))

pub controls_marked : (n : ℕ) (vs : List Var) → with_controls (replicate n false) vs ≡ table n (λ x. list_any (λ v. mentions (class_term v.class) x) vs)
controls_marked n vs = ap (λ m. with_controls m vs) (none_table n) ∙ controls_table n (λ x. false) vs

held_more : (n : ℕ) (f : ℕ → Bool) (b : Bool) (l : Lock) (hs : Holders) (ls : List Lock)
    → with_held (table n (λ x. f x || has_number l.hide x)) hs ls ≡ table n (λ x. (f x || has_number l.hide x) || hidden_by hs ls x)
    → with_held (table n f) hs ls ≡ table n (λ x. f x || hidden_by hs ls x)
    → with_held (if b then with_all (table n f) l.hide else table n f) hs ls ≡ table n (λ x. f x || ((b && has_number l.hide x) || hidden_by hs ls x))
held_more n f true l hs ls with_it without =
    ap (λ m. with_held m hs ls) (with_all_table n f l.hide) ∙ with_it
    ∙ table_same n (λ x. (f x || has_number l.hide x) || hidden_by hs ls x) (λ x. f x || (has_number l.hide x || hidden_by hs ls x))
    (λ x h. sym (or_regrouped (f x) (has_number l.hide x) (hidden_by hs ls x)))
held_more n f false l hs ls with_it without = without

held_table : (n : ℕ) (f : ℕ → Bool) (hs : Holders) (ls : List Lock) → with_held (table n f) hs ls ≡ table n (λ x. f x || hidden_by hs ls x)
held_table n f [] ls = table_same n f (λ x. f x || false) (λ x h. sym (or-false (f x)))
held_table n f (h ∷ hs) [] = table_same n f (λ x. f x || false) (λ x h. sym (or-false (f x)))
held_table n f (h ∷ hs) (l ∷ ls) = held_more n f (is_some h) l hs ls (held_table n (λ x. f x || has_number l.hide x) hs ls) (held_table n f hs ls)

assumed_table : (n : ℕ) (f : ℕ → Bool) (ts : List PlainThread)
    → with_assumed (table n f) ts ≡ table n (λ x. f x || list_any (λ t. has_number t.modes.assume_hide x) ts)
assumed_table n f [] = table_same n f (λ x. f x || false) (λ x h. sym (or-false (f x)))
assumed_table n f (t ∷ ts) =
    ap (λ m. with_assumed m ts) (with_all_table n f t.modes.assume_hide)
    ∙ assumed_table n (λ x. f x || has_number t.modes.assume_hide x) ts
    ∙ table_same n (λ x. (f x || has_number t.modes.assume_hide x) || list_any (λ u. has_number u.modes.assume_hide x) ts)
    (λ x. f x || list_any (λ u. has_number u.modes.assume_hide x) (t ∷ ts))
    (λ x h. sym (or_regrouped (f x) (has_number t.modes.assume_hide x) (list_any (λ u. has_number u.modes.assume_hide x) ts)))

pub hidden_marked : (n : ℕ) (hs : Holders) (ls : List Lock) (ts : List PlainThread)
    → with_assumed (with_held (replicate n false) hs ls) ts ≡ table n (λ x. hidden_by hs ls x || list_any (λ t. has_number t.modes.assume_hide x) ts)
hidden_marked n hs ls ts =
    ap (λ m. with_assumed m ts) (ap (λ m. with_held m hs ls) (none_table n) ∙ held_table n (λ x. false) hs ls) ∙ assumed_table n (hidden_by hs ls) ts

module _ (p : Plain) (n : ℕ) (few : length p.vars ≤ n) (m1 m2 : List ℕ) (h : Holders) where
  -- the marks of controls and of what is hidden say what is compared
  pub compared_marked : (controls hidden : List Bool) → controls ≡ with_controls (replicate n false) p.vars
      → hidden ≡ with_assumed (with_held (replicate n false) h p.locks) p.threads
      → first_var p (is_marked_apart p m1 m2 controls hidden) ≡ first_var p (is_apart p m1 h m2)
  compared_marked controls hidden c e =
      same_found (is_marked_apart p m1 m2 controls hidden) (is_apart p m1 h m2) (length p.vars)
      (λ x inside. ap (λ b. not (same_word m1 m2 x) && (b || (is_low_in p m1 x && not (has hidden x)))) (control_at x (omega (arith, few, inside)))
      ∙ ap (λ b. not (same_word m1 m2 x) && (is_control p x || (is_low_in p m1 x && not b))) (hidden_at x (omega (arith, few, inside))))
    where
      control_at : (x : ℕ) → x < n → has controls x ≡ is_control p x
      control_at x inside = ap (λ t. has t x) (c ∙ controls_marked n p.vars) ∙ table_at n (is_control p) x inside

      hidden_at : (x : ℕ) → x < n → has hidden x ≡ is_hidden p h x
      hidden_at x inside = ap (λ t. has t x) (e ∙ hidden_marked n h p.locks p.threads) ∙ table_at n (is_hidden p h) x inside
