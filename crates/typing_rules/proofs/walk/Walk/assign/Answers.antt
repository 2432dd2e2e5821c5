use Rattle.std.proofs.Common.{◌≡◌, ◌+◌, None, [], ◌∷◌, length, map, option_map, refl, sym, ◌∙◌, subst, arith, zero-add, Option}
use Rattle.cov_expr.specs.View.{term}
use Rattle.cov_expr.specs.Words.{HasVarsBelow}
use Rattle.cov_expr.specs.declared.expr.Expr.{Expr}
use Rattle.cov_ast.specs.Obligations.{Decides, first_false}
use Rattle.cov_ast.specs.Syntax as syntax
use Rattle.cov_ast.specs.View as view
use Rattle.point_law.specs.After.{after_assign}
use Rattle.typing_state.specs.KeptPoints.{Keeps}
use Rattle.typing_law.specs.Blocks.{value_type}
use Rattle.typing_law.specs.Counts.{entailment_count}
use Rattle.typing_law.specs.Entailments.{assign_entailments}
use Rattle.typing_law.specs.ThreadEntailments.{stm_entailments}
use Rattle.typing_law.specs.ThreadObligations.{few_preds, flat, stm_parts}
use Rattle.typing_law.proofs.Counting.{count_own}
use Rattle.typing_rules.specs.Inside.Passing.{Stops}
use Rattle.typing_rules.specs.Inside.Walking.{plain_of, value_parts}
use Rattle.typing_rules.proofs.Assigning.{large_stops, value_stops, value_walks}
use Rattle.typing_rules.proofs.Ranges.{classes_below, value_below}
use Rattle.typing_rules.proofs.walk.Walk.assign.Goals as goal

pub check_value-requires-clause-typed : goal.check_value-requires-clause-typed
check_value-requires-clause-typed c =
    let w = c.args.self.now in
    let program = w.program.now in
    let a = c.requires.point.at in
    let is = (rw c.in-Some.is at c.in_ok-q.ensures) a c.requires.point.keeps in
    subst (λ q. HasVarsBelow q (length program.vars)) (sym is)
    (value_below (plain_of w) w.thread (length program.vars) (length program.locks) (classes_below program c.requires.walk.formed) a c.requires.point.types
    (option_map term c.args.written.now) c.requires.range.2 (term c.args.e.now))

pub returns-in_default : goal.returns-in_default
returns-in_default c a k =
    let w = c.args.self.now in
    let proofs = map view.proof c.args.proofs.now in
    let rs = map view.retype c.args.retypes.now in
    let s = λ (o : Option Expr). syntax.assign c.args.x (term c.args.e.now) (option_map term o) rs in
    let large = (rw c.in_default.is at c.in_ok-q.ensures) a k in
    subst (λ o. Stops w.purpose (flat (stm_parts (plain_of w) w.thread (s o) c.args.at proofs a)) (stm_entailments (plain_of w) w.thread (s o) c.args.at a) c.args.kept.now c.args.kept.now c.refuse_large.result)
    (sym large.0)
    (large_stops w.purpose (plain_of w) w.thread c.args.at proofs a c.args.x (term c.args.e.now) rs c.args.kept.now c.refuse_large.result (c.refuse_large.ensures a k large.1))

pub returns-in-Err : goal.returns-in-Err
returns-in-Err c a k =
    let w = c.args.self.now in
    let p = plain_of w in
    let t = w.thread in
    let at = c.args.at in
    let x = c.args.x in
    let e = term c.args.e.now in
    let written = option_map term c.args.written.now in
    let rs = map view.retype c.args.retypes.now in
    let is = (rw c.in-Some.is at c.in_ok-q.ensures) a k in
    let fault = c.in-Err.fault in
    value_stops w.purpose p t at (map view.proof c.args.proofs.now) a x e written rs c.args.kept.now fault
    (subst (λ r. Decides (flat (value_parts p t at a x e (value_type p t a written e) rs)) r) c.in-Err.is
    (subst (λ q. Decides (flat (value_parts p t at a x e q rs)) c.check_value.result) is ((rw c.as_slice-items.ensures at c.check_value.ensures) a k)))

pub returns : goal.returns
returns c a k =
    let w = c.args.self.now in
    let p = plain_of w in
    let t = w.thread in
    let at = c.args.at in
    let x = c.args.x in
    let e = term c.args.e.now in
    let written = option_map term c.args.written.now in
    let rs = map view.retype c.args.retypes.now in
    let proofs = map view.proof c.args.proofs.now in
    let q = value_type p t a written e in
    let is = (rw c.in-Some.is at c.in_ok-q.ensures) a k in
    let gs = assign_entailments p t a x e written rs in
    let after = after_assign p t a x e q rs in
    let keeps = subst (λ q. Keeps p t (after_assign p t a x e q rs) c.in_ok-after.after) is (c.in_ok-after.ensures t a k) in
    let first_held : first_false (flat (value_parts p t at a x e q rs)) ≡ None =
    subst (λ q. first_false (flat (value_parts p t at a x e q rs)) ≡ None) is ((rw c.as_slice-items.ensures at c.in_default-check_value.ensures) a k) in
    let few = few_preds p t at (after ∷ []) in
    let few_ok = (rw c.site.ensures at c.check_few_preds-few.ensures) after keeps in
    let tries = (rw c.as_slice-items.ensures at c.in_ok-tried.ensures) a k in
    let count = entailment_count (flat (stm_parts p t (syntax.assign x e written rs) at proofs a)) in
    let counted : 0 + 0 + length gs ≡ count = (let none : 0 + 0 + length gs ≡ length gs = omega arith in none) ∙ sym (count_own p t at proofs a (syntax.assign x e written rs) gs refl) in
    value_walks w.purpose p t at proofs a x e written rs count c.args.kept.now c.conclude.new.kept c.conclude.result first_held
    (c.conclude.ensures after keeps few gs c.args.kept.now (length gs) count refl few_ok (sym c.len-mark.ensures) tries (zero-add (length gs)) counted)
