use Rattle.std.proofs.Common.{◌≡◌, ◌∙◌, [], Err, IsTrue, None, Some, ap, append-nil, subst, sym}
use Rattle.cov_ast.specs.Obligations.{Decides, all_hold, first_false}
use Rattle.cov_ast.specs.View as view
use Rattle.mode_compat.specs.Declared.{declaration_obligations}
use Rattle.policy_class.specs.Resolved.{name_obligations, resolved}
use Rattle.annotate.proofs.NameLaws.{first_behind}
use Rattle.deeper_text.proofs.TextLaws.{first_of, unproved_of}
use Rattle.deeper_text.proofs.annotation.annotate_text.Goals as goal

pub annotate-requires-clause-declared : goal.annotate-requires-clause-declared
annotate-requires-clause-declared c =
    let is = c.in-Ok.ensures.program ∙ ap resolved c.in_ok-again.ensures in
    subst (λ q. IsTrue (all_hold (declaration_obligations q))) (sym is) c.requires.declared

-- the names are in order
pub unreachable-requires : goal.unreachable-requires
unreachable-requires c =
    let again = view.parsed c.in_ok-again.again in
    let fails = subst (λ fault. Decides (name_obligations again) (Err fault)) c.in-Err-Refused.field-0-is c.in-Err-Refused.ensures.names in
    let some : first_false (name_obligations (view.parsed c.args.text)) ≡ Some c.in-Err-Refused.field-0-0 =
    subst (λ q. first_false (name_obligations q) ≡ Some c.in-Err-Refused.field-0-0) c.in_ok-again.ensures fails in
    let es = name_obligations (view.parsed c.args.text) in
    let none : first_false es ≡ None = ap first_false (sym (append-nil es)) ∙ first_behind es [] c.requires.names in
    cc

pub returns-in-Ok-clause-first : goal.returns-in-Ok-clause-first
returns-in-Ok-clause-first c =
    first_of c.annotate.result (view.program c.in-Ok.program) (resolved (view.parsed c.args.text)) (c.in-Ok.ensures.program ∙ ap resolved c.in_ok-again.ensures) c.annotate.ensures.first

pub returns-in-Ok-clause-unproved : goal.returns-in-Ok-clause-unproved
returns-in-Ok-clause-unproved c =
    unproved_of c.annotate.result (view.program c.in-Ok.program) (resolved (view.parsed c.args.text)) (c.in-Ok.ensures.program ∙ ap resolved c.in_ok-again.ensures) c.annotate.ensures.unproved
