use Rattle.std.proofs.Common.{◌≡◌, ◌+◌, [], ◌∷◌, ◌++◌, length, map, refl, sym, ◌∙◌, arith, zero-add}
use Rattle.cov_ast.specs.Obligations.{Decides}
use Rattle.cov_ast.specs.Syntax.{note}
use Rattle.cov_ast.specs.View as view
use Rattle.point_law.specs.After.{noted}
use Rattle.typing_law.specs.Counts.{entailment_count}
use Rattle.typing_law.specs.Entailments.{state_follows}
use Rattle.typing_law.specs.ThreadObligations.{flat, state_obligations}
use Rattle.typing_law.proofs.Counting.{count_own}
use Rattle.typing_rules.specs.Inside.Walking.{plain_of, last_parts}
use Rattle.typing_rules.proofs.Others.{others_state}
use Rattle.typing_rules.proofs.walk.Walk.note.Goals as goal

pub returns : goal.returns
returns c a k =
    let w = c.args.self.now in
    let p = plain_of w in
    let t = w.thread in
    let at = c.args.at in
    let j = view.state c.args.j.now in
    let proofs = map view.proof c.args.proofs.now in
    let gs = state_follows a j in
    let after = noted a j in
    let keeps = c.in_ok-after.ensures p t a k in
    let tries = c.in_ok-tried.ensures a k in
    let first = state_obligations p t at a.held j in
    let stated : Decides first c.check_state-stated.result = (rw c.site.ensures at c.check_state-stated.ensures) a k in
    let counted : 0 + 0 + length gs ≡ entailment_count (first ++ flat (last_parts p t at proofs 1 (length gs) gs (after ∷ []))) =
    (let none : 0 + 0 + length gs ≡ length gs = omega arith in none) ∙ sym (count_own p t at proofs a (note j) gs refl) in
    c.conclude.ensures after keeps first gs c.args.kept.now (length gs) (entailment_count (first ++ flat (last_parts p t at proofs 1 (length gs) gs (after ∷ []))))
    (others_state p t at a.held j) stated (sym c.len-mark.ensures) tries (zero-add (length gs)) counted
