use Rattle.std.proofs.Common.{refl}
use Rattle.policy_class.specs.Resolved.{name_obligations, resolved}
use Rattle.call_judge.proofs.CheckLaws.{accepted_program, names_hold, none_false}
use Rattle.call_judge.specs.Check.{IsAcceptedText}
use Rattle.cov_ast.specs.Syntax.{Parsed}
use Rattle.typing_law.specs.Accepted.{IsAccepted}
use Rattle.call_code.proofs.laws.accepted_programs_have_good_code.Goals as goal

of_text : (p : Parsed) → IsAcceptedText p → IsAccepted (resolved p)
of_text p accepted = accepted_program p (resolved p) refl (none_false (name_obligations p) (names_hold p accepted)) accepted

pub returns-clause-good : goal.returns-clause-good
returns-clause-good c bytes p short spells accepted =
    c.compiled_is_good.ensures (resolved p) (c.spelled_programs_are_formed.ensures bytes p short spells (names_hold p accepted)) (of_text p accepted)

pub returns-clause-code : goal.returns-clause-code
returns-clause-code c bytes p short spells accepted =
    c.compiled_is_code.ensures (resolved p) (c.spelled_programs_are_formed.ensures bytes p short spells (names_hold p accepted))
