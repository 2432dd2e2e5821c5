use Rattle.std.proofs.Common.{refl}
use Rattle.policy_class.specs.Resolved.{name_obligations, resolved}
use Rattle.call_judge.proofs.CheckLaws.{accepted_program, names_hold, none_false}
use Rattle.call_judge.proofs.laws.accepted_programs_are_secure.Goals as goal

pub returns : goal.returns
returns c bytes p short spells accepted =
    c.accepted_is_secure.ensures (resolved p) (c.spelled_programs_are_formed.ensures bytes p short spells (names_hold p accepted))
    (accepted_program p (resolved p) refl (none_false (name_obligations p) (names_hold p accepted)) accepted)
