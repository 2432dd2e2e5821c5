use Rattle.cov_ast.specs.View as view
use Rattle.typing_law.proofs.verdict.Verdict.new.Goals as goal

pub invariant_of-result : goal.invariant_of-result
invariant_of-result c =
    let p = view.program c.args.program.now in
    record {
      formed = ∣ c.requires.formed ∣₁;
      accepted = c.requires.accepted;
      secure = ∣ c.accepted_is_secure.ensures p c.requires.formed c.requires.accepted ∣₁;
      disciplined = c.accepted_is_disciplined.ensures p c.requires.formed c.requires.accepted;
      counted = c.requires.counted;
    }
