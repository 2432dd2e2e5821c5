use Rattle.std.proofs.Common.{◌≡◌, ◌∙◌, true, false, not, [], ◌∷◌, ◌++◌, ap, sym, map, subst, if◌then◌else◌}
use Rattle.std.specs.Prelude.{IfSome}
use Rattle.std.proofs.lemmas.Bool.{not-false, not-true}
use Rattle.cov_expr.specs.Trees.{has_term}
use Rattle.cov_expr.specs.View.{term}
use Rattle.typing_state.specs.Keys.{key}
use Rattle.point_law.specs.Terms.{is_false, is_small}
use Rattle.typing_state.proofs.DropLaws.{counted_more}
use Rattle.typing_state.proofs.OnceLaws.{distinct_added, keys_more}
use Rattle.typing_state.proofs.KeyedLaws.{with_new}
use Rattle.typing_state.proofs.predicates.Predicates.add_next.Goals as goal

pub returns-then-not-branch : goal.returns-then-not-branch
returns-then-not-branch c =
    let old = c.args.self.now in
    let e = term c.args.e in
    let there : has_term (map term c.self.inside.list) e ≡ true =
    ap (λ l. has_term (map term l) e) (sym c.as_slice.ensures) ∙ not-false _ (sym c.in_ok-add_key.ensures.added ∙ c.if-not-branch.true) in
    ap (map term) c.self.view_is ∙ sym (ap (λ b. if b then map term old else map term old ++ e ∷ []) (ap (λ l. has_term (map term l) e) (sym c.self.view_is) ∙ there))

pub returns : goal.returns
returns c =
    let absent : has_term (map term c.args.self.now) (term c.args.e) ≡ false =
    ap (λ l. has_term (map term l) (term c.args.e)) (sym c.self.view_is ∙ sym c.as_slice.ensures) ∙ not-true _ (sym c.in_ok-add_key.ensures.added ∙ c.if-not-branch.false) in
    with_new c.self.inside.list c.push.new.self c.args.self.now c.args.e c.self.view_is c.in_default.ensures.ok absent

pub invariant_of-self-2 : goal.invariant_of-self-2
invariant_of-self-2 c =
    let list = c.self.inside.list in
    let e = term c.args.e in
    let new = c.push.new.self in
    let pushed = c.in_default.ensures.ok in
    let absent : has_term (map term list) e ≡ false =
    ap (λ l. has_term (map term l) e) (sym c.as_slice.ensures) ∙ not-true _ (sym c.in_ok-add_key.ensures.added ∙ c.if-not-branch.false) in
    let seen = map key (map term c.as_slice.result.now) in
    let keys : (if c.in_ok-add_key.field-0 then seen ++ key e ∷ [] else seen) ≡ map key (map term new) =
    ap (λ b. if b then seen ++ key e ∷ [] else seen) c.if-not-branch.false ∙ ap (λ l. map key (map term l) ++ key e ∷ []) c.as_slice.ensures ∙ keys_more list new c.args.e pushed in (
      distinct_added list c.self.invariant.0 new c.args.e pushed absent,
      subst (λ ks. IfSome c.add_key.new.keys (λ i. i.keys ≡ ks)) keys c.in_ok-add_key.ensures.keys,
      counted_more is_false list new c.args.e c.self.inside.false_ones c.count_false-false_ones.result pushed c.self.invariant.2 c.count_false-false_ones.ensures,
      counted_more (λ t. not (is_small t)) list new c.args.e c.self.inside.large_ones c.count_large-large_ones.result pushed c.self.invariant.3 c.count_large-large_ones.ensures,
    )
