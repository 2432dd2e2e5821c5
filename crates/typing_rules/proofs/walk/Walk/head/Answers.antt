use Rattle.std.proofs.Common.{[], ◌∷◌, ◌++◌, map, length, sym, arith, append_assoc, subst}
use Rattle.cov_expr.specs.View.{term}
use Rattle.cov_ast.specs.View as view
use Rattle.point_law.specs.After.{meet}
use Rattle.typing_law.specs.Entailments.{guard_follows, state_follows}
use Rattle.typing_law.specs.ThreadObligations.{flat, guard_obligations, state_obligations}
use Rattle.typing_law.proofs.Bounds.{few_entailments_state}
use Rattle.typing_rules.specs.Inside.Walking.{GuardsAt, first_parts, plain_of, starts_of}
use Rattle.typing_rules.proofs.Others.{others_guard, others_state}
use Rattle.typing_rules.proofs.Reaching.{others-append}
use Rattle.typing_rules.proofs.Ranges.{classes_below, meet_below}
use Rattle.typing_rules.proofs.walk.Walk.head.Goals as goal

pub guard-requires-clause-point : goal.guard-requires-clause-point
guard-requires-clause-point c =
    let w = c.args.self.now in
    let program = w.program.now in
    let p = plain_of w in
    let a = c.requires.point.at in
    let j = view.state c.args.inv.now in
    record {
      at = meet p w.thread a j;
      keeps = c.in_ok-top.ensures w.thread a c.requires.point.keeps;
      types = meet_below p w.thread (length program.vars) (length program.locks) (classes_below program c.requires.walk.formed) a j c.requires.range.types;
    }

pub guard-requires-clause-few : goal.guard-requires-clause-few
guard-requires-clause-few c =
    let a = c.requires.point.at in
    omega (arith, (c.in_ok-entered.ensures a c.requires.point.keeps).few, few_entailments_state a (view.state c.args.inv.now), c.requires.small)

pub returns : goal.returns
returns c a k =
    let w = c.args.self.now in
    let p = plain_of w in
    let t = w.thread in
    let at = c.args.at in
    let e = term c.args.e.now in
    let j = view.state c.args.inv.now in
    let proofs = map view.proof c.args.proofs.now in
    let top = meet p t a j in
    let first = state_obligations p t at a.held j in
    let second = guard_obligations p t at a.held e in
    let gs = state_follows a j in
    let hs = guard_follows p t top e ∷ [] in
    let stated = (rw c.site-site.ensures at c.check_state-stated.ensures) a k in
    let evaluated = (rw c.site-site.ensures at c.check_guard-evaluated.ensures) a.held (c.modes.ensures p t a k) in
    let rest = flat (first_parts p t at proofs (gs ++ hs) (starts_of w top e)) in
    subst (λ es. GuardsAt w at es (gs ++ hs) top e c.args.kept.now c.guard.new.kept c.guard.result) (append_assoc first second rest)
    (c.guard.ensures top (c.in_ok-top.ensures t a k) (first ++ second) gs c.args.kept.now (others-append first second (others_state p t at a.held j) (others_guard p t at a.held e))
    (c.both.ensures first second stated (λ _. evaluated)) (sym c.len-mark.ensures) (c.in_ok-entered.ensures a k))
