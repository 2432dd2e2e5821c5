use Rattle.std.proofs.Common.{◌∷◌, [], ◌∙◌, List, map, refl, sym}
use Rattle.cov_ast.specs.Obligations.{Obligation}
use Rattle.cov_ast.specs.Plain.{plain}
use Rattle.cov_ast.specs.Syntax.{Proof}
use Rattle.cov_ast.specs.View as view
use Rattle.cov_ast.specs.declared.cert.Proof as written
use Rattle.cov_ast.specs.declared.refusal.Detail.TheVariants.{Number}
use Rattle.cov_ast.specs.declared.refusal.Rule.TheVariants.{V13}
use Rattle.cov_ast.proofs.ObligationLaws.{loop_refused, loop_more}
use Rattle.typing_law.specs.ThreadObligations.{obligation, is_number}
use Rattle.typing_law.proofs.VerdictLaws.{obligation_refused, obligation_held}
use Rattle.typing_rules.proofs.certificates.check_numbers.Goals as goal

pub returns-then-not-is_number : goal.returns-then-not-is_number
returns-then-not-is_number c =
    let proofs = c.args.proofs.now in
    let one : Proof → Obligation = λ q. obligation (plain (view.program c.args.p.now)) c.args.site.thread c.args.site.place V13 (Number q.number)
    (is_number c.args.count (map view.proof proofs) q.number) in
    let F : List written.Proof → List Obligation = λ qs. map one (map view.proof qs) in
    let q = c.proof-item.result in
    loop_refused F F (one (view.proof q) ∷ []) (F proofs) proofs c.loop-proof.proof-index q c.loop-proof-test.true c.proof-item.is (λ qs. refl) c.loop-proof.invariant
    c.refused_at.result (obligation_refused (one (view.proof q)) c.refused_at.result (sym c.is_number.ensures ∙ c.if-not-is_number.true) c.refused_at.ensures)

pub loop-proof-preserved : goal.loop-proof-preserved
loop-proof-preserved c =
    let proofs = c.args.proofs.now in
    let one : Proof → Obligation = λ q. obligation (plain (view.program c.args.p.now)) c.args.site.thread c.args.site.place V13 (Number q.number)
    (is_number c.args.count (map view.proof proofs) q.number) in
    let F : List written.Proof → List Obligation = λ qs. map one (map view.proof qs) in
    let q = c.proof-item.result in
    loop_more F F (one (view.proof q) ∷ []) (F proofs) proofs c.loop-proof.proof-index q c.loop-proof-test.true c.proof-item.is (λ qs. refl) c.loop-proof.invariant
    (obligation_held (one (view.proof q)) (sym c.is_number.ensures ∙ c.if-not-is_number.false))
