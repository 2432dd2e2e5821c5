use Rattle.std.proofs.Common.{◌≡◌, ◌+◌, ◌<◌, ◌++◌, ◌∙◌, ℕ, List, length, map, ap, arith, append_assoc, option_map, subst, sym, Option, Some, None, MatchOption}
use Rattle.std.proofs.lemmas.List.{length-append, length-map}
use Rattle.cov_expr.specs.Term.{Term}
use Rattle.cov_expr.specs.View.{term}
use Rattle.cov_ast.specs.Syntax.{assign}
use Rattle.cov_ast.specs.View as view
use Rattle.cov_ast.specs.WellFormed.{stm_size, most_size}
use Rattle.point_law.specs.Point.{Point}
use Rattle.typing_law.specs.Blocks.{value_type}
use Rattle.typing_law.specs.Entailments.{Entailment, controlled_values, retype_follows, shown_value, written_type}
use Rattle.typing_law.proofs.Bounds.{few_entailments_assign}
use Rattle.typing_rules.specs.Listed.{AreListed, entailment_of}
use Rattle.typing_rules.specs.Inside.Walking.{IsWalk, Tries, plain_of}
use Rattle.typing_rules.specs.declared.asked.Entailment as rust
use Rattle.typing_rules.specs.declared.walk.Walk.{Walk}
use Rattle.typing_rules.proofs.walk.Walk.try_assign.Goals as goal

few_made : (preds : List Term) (gs : List Entailment) (from n : ℕ) (made : Option (List rust.Entailment)) → AreListed preds gs made → from + length gs < n
    → MatchOption made (Unit {0}) (λ entailments. from + length entailments < n)
few_made preds gs from n None is few = tt
few_made preds gs from n (Some entailments) is few = omega (arith, ap length is, length-map entailments (entailment_of preds), few)

-- what is asked of an assignment, in three parts
module _ (w : Walk) (a : Point) (x : ℕ) (e : Term) (q : Option Term) (rs : List (ℕ × Term)) where
  abbrev first : List Entailment
  first = written_type (plain_of w) w.thread a e q

  abbrev shown : Term → List Entailment
  shown v = shown_value (plain_of w) w.thread a x v

  abbrev changed : List Entailment
  changed = controlled_values (plain_of w) w.thread a x e ++ map (retype_follows (plain_of w) w.thread a x e) rs

  few : IsWalk w → (v : Term) → v ≡ value_type (plain_of w) w.thread a q e → stm_size (assign x e q rs) < most_size
      → length first + length (shown v) + length changed < 2147484673
  few walk v typed small =
      let shown_type = shown (value_type (plain_of w) w.thread a q e) in
      let controlled = controlled_values (plain_of w) w.thread a x e in
      let retyped = map (retype_follows (plain_of w) w.thread a x e) rs in
      omega (
        arith,
        ap (λ u. length (shown u)) typed,
        length-append (first ++ shown_type ++ controlled) retyped,
        length-append (first ++ shown_type) controlled,
        length-append first shown_type,
        length-append controlled retyped,
        few_entailments_assign (view.program w.program.now) w.thread walk.formed walk.declared a x e q rs,
        small,
      )

pub try_listed-requires : goal.try_listed-requires
try_listed-requires c =
    let w = c.args.self.now in
    let a = c.requires.point.at in
    let k = c.requires.point.keeps in
    let e = term c.args.e.now in
    let q = option_map term c.args.written.now in
    let rs = map view.retype c.args.retypes.now in
    let typed = c.requires.typed a k in
    few_made a.preds (first w a c.args.x e q rs) 1 4294967296 c.in_ok-written.written (c.in_ok-written.ensures w.thread a k typed)
    (omega (arith, few w a c.args.x e q rs c.requires.walk (term c.args.q.now) typed c.requires.small))

pub overflow_add-first : goal.overflow_add-first
overflow_add-first c =
    let w = c.args.self.now in
    let a = c.requires.point.at in
    let k = c.requires.point.keeps in
    let e = term c.args.e.now in
    let q = option_map term c.args.written.now in
    let rs = map view.retype c.args.retypes.now in
    let typed = c.requires.typed a k in
    let one = c.in_ok-first.ensures a k (first w a c.args.x e q rs) (c.in_ok-written.ensures w.thread a k typed) in
    omega (arith, one.few, few w a c.args.x e q rs c.requires.walk (term c.args.q.now) typed c.requires.small)

pub try_shown-requires-clause-few : goal.try_shown-requires-clause-few
try_shown-requires-clause-few c =
    let w = c.args.self.now in
    let a = c.requires.point.at in
    let k = c.requires.point.keeps in
    let e = term c.args.e.now in
    let q = option_map term c.args.written.now in
    let rs = map view.retype c.args.retypes.now in
    let typed = c.requires.typed a k in
    let one = c.in_ok-first.ensures a k (first w a c.args.x e q rs) (c.in_ok-written.ensures w.thread a k typed) in
    omega (arith, one.few, few w a c.args.x e q rs c.requires.walk (term c.args.q.now) typed c.requires.small)

pub and-before-requires : goal.and-before-requires
and-before-requires c =
    let w = c.args.self.now in
    let a = c.requires.point.at in
    let k = c.requires.point.keeps in
    let e = term c.args.e.now in
    let q = option_map term c.args.written.now in
    let rs = map view.retype c.args.retypes.now in
    let typed = c.requires.typed a k in
    let one = c.in_ok-first.ensures a k (first w a c.args.x e q rs) (c.in_ok-written.ensures w.thread a k typed) in
    omega (arith, one.few, (c.in_ok-shown.ensures a k).few, few w a c.args.x e q rs c.requires.walk (term c.args.q.now) typed c.requires.small)

pub overflow_add-before : goal.overflow_add-before
overflow_add-before c =
    let w = c.args.self.now in
    let a = c.requires.point.at in
    let k = c.requires.point.keeps in
    let e = term c.args.e.now in
    let q = option_map term c.args.written.now in
    let rs = map view.retype c.args.retypes.now in
    let typed = c.requires.typed a k in
    let v = term c.args.q.now in
    let one = c.in_ok-first.ensures a k (first w a c.args.x e q rs) (c.in_ok-written.ensures w.thread a k typed) in
    let both = c.and-before.ensures w.purpose c.args.at (map view.proof c.args.proofs.now) 1 (first w a c.args.x e q rs) (shown w a c.args.x e q rs v) c.args.kept.now c.try_listed.new.kept
    c.try_shown.new.kept one (c.in_ok-shown.ensures a k) in
    omega (arith, both.few, length-append (first w a c.args.x e q rs) (shown w a c.args.x e q rs v), few w a c.args.x e q rs c.requires.walk v typed c.requires.small)

pub try_listed-requires-2 : goal.try_listed-requires-2
try_listed-requires-2 c =
    let w = c.args.self.now in
    let a = c.requires.point.at in
    let k = c.requires.point.keeps in
    let e = term c.args.e.now in
    let q = option_map term c.args.written.now in
    let rs = map view.retype c.args.retypes.now in
    let typed = c.requires.typed a k in
    let v = term c.args.q.now in
    let one = c.in_ok-first.ensures a k (first w a c.args.x e q rs) (c.in_ok-written.ensures w.thread a k typed) in
    let both = c.and-before.ensures w.purpose c.args.at (map view.proof c.args.proofs.now) 1 (first w a c.args.x e q rs) (shown w a c.args.x e q rs v) c.args.kept.now c.try_listed.new.kept
    c.try_shown.new.kept one (c.in_ok-shown.ensures a k) in
    few_made a.preds (changed w a c.args.x e q rs) (1 + c.and-before.result.count) 4294967296 c.in_ok-changed.changed (c.in_ok-changed.ensures w.thread a k)
    (omega (arith, both.few, length-append (first w a c.args.x e q rs) (shown w a c.args.x e q rs v), few w a c.args.x e q rs c.requires.walk v typed c.requires.small))

pub and-requires : goal.and-requires
and-requires c =
    let w = c.args.self.now in
    let a = c.requires.point.at in
    let k = c.requires.point.keeps in
    let e = term c.args.e.now in
    let q = option_map term c.args.written.now in
    let rs = map view.retype c.args.retypes.now in
    let typed = c.requires.typed a k in
    let v = term c.args.q.now in
    let one = c.in_ok-first.ensures a k (first w a c.args.x e q rs) (c.in_ok-written.ensures w.thread a k typed) in
    let both = c.and-before.ensures w.purpose c.args.at (map view.proof c.args.proofs.now) 1 (first w a c.args.x e q rs) (shown w a c.args.x e q rs v) c.args.kept.now c.try_listed.new.kept
    c.try_shown.new.kept one (c.in_ok-shown.ensures a k) in
    let last = c.in_ok-last.ensures a k (changed w a c.args.x e q rs) (c.in_ok-changed.ensures w.thread a k) in
    omega (arith, both.few, last.few, length-append (first w a c.args.x e q rs) (shown w a c.args.x e q rs v), few w a c.args.x e q rs c.requires.walk v typed c.requires.small)

pub returns : goal.returns
returns c =
    let w = c.args.self.now in
    let p = plain_of w in
    let t = w.thread in
    let x = c.args.x in
    let e = term c.args.e.now in
    let q = option_map term c.args.written.now in
    let rs = map view.retype c.args.retypes.now in
    let proofs = map view.proof c.args.proofs.now in
    let v = term c.args.q.now in
    λ a k.
    let typed = c.requires.typed a k in
    let before = first w a x e q rs ++ shown w a x e q rs v in
    let controlled = controlled_values p t a x e in
    let retyped = map (retype_follows p t a x e) rs in
    let one = c.in_ok-first.ensures a k (first w a x e q rs) (c.in_ok-written.ensures t a k typed) in
    let both = c.and-before.ensures w.purpose c.args.at proofs 1 (first w a x e q rs) (shown w a x e q rs v) c.args.kept.now c.try_listed.new.kept c.try_shown.new.kept one
    (c.in_ok-shown.ensures a k) in
    let last = c.in_ok-last.ensures a k (changed w a x e q rs) (c.in_ok-changed.ensures t a k) in
    subst (λ gs. Tries w.purpose c.args.at proofs 1 gs c.args.kept.now c.try_listed-2.new.kept c.and.result)
    (sym (append_assoc before controlled retyped) ∙ ap (λ u. first w a x e q rs ++ shown w a x e q rs u ++ controlled ++ retyped) typed)
    (c.and.ensures w.purpose c.args.at proofs 1 before (controlled ++ retyped) c.args.kept.now c.try_shown.new.kept c.try_listed-2.new.kept both last)
