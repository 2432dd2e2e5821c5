use Rattle.std.proofs.Common.{◌≡◌, ◌++◌, [], None, IsTrue, cond, sym, ap, subst, ◌∙◌}
use Rattle.annotate.specs.Annotated.{annotated, first_refused}
use Rattle.annotate.specs.AnnotatedText.{IsAsRead, annotated_text}
use Rattle.call_verdicts.proofs.AnnotationsLaws.{none_unproved}
use Rattle.call_verdicts.proofs.laws.annotated_programs_are_secure.Goals as goal
use Rattle.cov_ast.proofs.ObligationLaws.{none_refused}
use Rattle.cov_ast.specs.Obligations.{all_hold}
use Rattle.cov_ast.specs.Plain.{plain}
use Rattle.flow_model.specs.Secure.{IsSecure}
use Rattle.policy_class.specs.Resolved.{name_obligations, resolved}
use Rattle.typing_law.specs.Accepted.{IsAccepted, program_obligations}

pub returns : goal.returns
returns c bytes depth p short (tree, is, spelled) ordered unrejected =
    let program = resolved p in
    let text = annotated_text depth p in
    let read : IsAsRead p = subst IsAsRead (sym spelled) (c.texts_are_as_read.ensures bytes short tree is) in
    let formed = c.spelled_programs_are_formed.ensures bytes p short (tree, is, spelled) ordered in
    let first : first_refused depth program ≡ None = none_unproved depth p unrejected in
    let refusals = c.refusals_are_of_the_annotated_text.ensures in
    let named : IsTrue (all_hold (name_obligations text)) = refusals.names depth p formed read ordered in
    let accepted : IsAccepted (annotated depth program) = (refusals.accepted depth program).0 first in
    let same = c.proofs_alone_change.ensures.plain depth program in
    record {
      accepted = subst (λ b. IsTrue (all_hold (name_obligations text ++ cond b (program_obligations (resolved text)) []))) (sym named)
          (none_refused (name_obligations text ++ program_obligations (resolved text)) (refusals.first depth p formed read ordered ∙ first));
      same = ap plain (c.annotated_text_is_read.ensures.program depth p formed read) ∙ same;
      secure = subst IsSecure same (c.accepted_is_secure.ensures (annotated depth program) (c.annotated_programs_are_formed.ensures depth program formed) accepted);
    }
