use Rattle.std.proofs.Common.{◌≡◌, drop, map}
use Rattle.cov_ast.specs.Obligations.{first_false}
use Rattle.cov_ast.specs.Plain.{plain}
use Rattle.cov_ast.specs.View as view
use Rattle.cov_ast.specs.declared.refusal.Detail.TheVariants.{Number}
use Rattle.cov_ast.specs.declared.refusal.Rule.TheVariants.{V13}
use Rattle.typing_law.specs.ThreadObligations.{obligation, is_number, numbers}
use Rattle.typing_rules.proofs.certificates.check_numbers.Given as goal

abbrev pub invariant-loop-proof : goal.invariant-loop-proof
invariant-loop-proof l =
    first_false (map (λ q. obligation (plain (view.program l.p)) l.site.thread l.site.place V13 (Number q.number) (is_number l.count (map view.proof l.proofs) q.number))
    (map view.proof (drop l.proof-index l.proofs)))
    ≡ first_false (numbers (plain (view.program l.p)) l.site.thread l.site.place l.count (map view.proof l.proofs))
