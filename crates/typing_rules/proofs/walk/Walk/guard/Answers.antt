use Rattle.std.proofs.Common.{[], ◌∷◌, ◌++◌, map, arith}
use Rattle.cov_expr.specs.Term.{neg}
use Rattle.cov_expr.specs.View.{term}
use Rattle.cov_ast.specs.View as view
use Rattle.point_law.specs.After.{with_guard}
use Rattle.typing_law.specs.Entailments.{guard_follows}
use Rattle.typing_rules.specs.Inside.Walking.{plain_of}
use Rattle.typing_rules.proofs.walk.Walk.guard.Goals as goal

pub and-all-requires : goal.and-all-requires
and-all-requires c = omega (arith, (c.in_ok-tried.ensures c.requires.point.at c.requires.point.keeps).few, c.requires.few)

pub returns : goal.returns
returns c a k front gs start others before marked tries =
    let w = c.args.self.now in
    let p = plain_of w in
    let t = w.thread in
    let e = term c.args.e.now in
    let proofs = map view.proof c.args.proofs.now in
    let hs = guard_follows p t a e ∷ [] in
    let all = c.and-all.ensures w.purpose c.args.at proofs 1 gs hs start c.args.kept.now c.try_guard.new.kept tries (c.in_ok-tried.ensures a k) in
    c.guarded.ensures (with_guard p t a e) (c.in_ok-holds.ensures a k) (with_guard p t a (neg e)) (c.in_ok-fails.ensures a k) front proofs (gs ++ hs) start others before marked all
