use Rattle.std.proofs.Common.{length, map, refl, ap, ◌∙◌, arith, ◌<◌}
use Rattle.std.proofs.lemmas.List.{length-map}
use Rattle.cov_ast.specs.Syntax.{unlock}
use Rattle.cov_ast.specs.View as view
use Rattle.typing_law.specs.Entailments.{unlock_entailments}
use Rattle.typing_law.proofs.Bounds.{few_own}
use Rattle.typing_rules.specs.Listed.{entailment_of, entailments_of}
use Rattle.typing_rules.specs.Inside.Walking.{plain_of}
use Rattle.typing_rules.proofs.TryLaws.{tried_same}
use Rattle.typing_rules.proofs.walk.Walk.try_unlock.Goals as goal

pub try_entailments-requires : goal.try_entailments-requires
try_entailments-requires c =
    let w = c.args.self.now in
    let program = w.program.now in
    let a = c.requires.point.at in
    let is = ap (entailments_of a.preds) c.as_slice.ensures ∙ c.in_ok-entailments.ensures w.thread a c.requires.point.keeps in
    let inside : c.args.l < length (map view.lock program.locks) = omega (arith, length-map program.locks view.lock, c.requires.lock) in
    omega (
      arith,
      ap length is,
      length-map c.as_slice.result.now (entailment_of a.preds),
      few_own (view.program program) w.thread c.requires.walk.formed c.requires.walk.declared (unlock c.args.l) c.args.at a (unlock_entailments (plain_of w) w.thread a c.args.l)
          refl inside,
    )

pub returns : goal.returns
returns c =
    let w = c.args.self.now in
    tried_same w c.args.at c.args.point.now (map view.proof c.args.proofs.now) 1 (λ a. entailments_of a.preds c.as_slice.result.now) (λ a. unlock_entailments (plain_of w) w.thread a c.args.l)
    c.args.kept.now c.try_entailments.new.kept c.try_entailments.result (λ a k. ap (entailments_of a.preds) c.as_slice.ensures ∙ c.in_ok-entailments.ensures w.thread a k) c.try_entailments.ensures
