use Rattle.std.proofs.Common.{◌∙◌, refl}
use Rattle.cov_ast.specs.Plain.{plain}
use Rattle.cov_ast.specs.View as view
use Rattle.cov_ast.specs.declared.refusal.Detail.TheVariants.{Nothing}
use Rattle.cov_ast.specs.declared.refusal.Rule.TheVariants.{V8}
use Rattle.typing_law.specs.ThreadObligations.{same_held}
use Rattle.typing_rules.proofs.GuardLaws.{same_test}
use Rattle.typing_rules.proofs.locks.check_same_locks.Goals as goal

pub returns : goal.returns
returns c held modes another others =
    let p = plain (view.program c.args.p.now) in
    let site = c.args.site in
    same_test site.thread site.place V8 Nothing Nothing c.hold_same-same.result (same_held p held another) c.require_at.result refl
    (c.hold_same-same.ensures ∙ (λ i. same_held p (modes i).held (others i).held)) c.require_at.ensures
