use Rattle.std.proofs.Common.{◌≡◌, ◌++◌, OnOk, codes, ap, ◌∙◌, subst, append_assoc}
use Rattle.cov_ast.specs.Declarations.{lock_at}
use Rattle.cov_ast.specs.Plain.{plain}
use Rattle.cov_ast.specs.View as view
use Rattle.entail_origins.proofs.remark.add_invariant_of.Goals as goal

pub returns : goal.returns
returns c =
    let name = (lock_at (plain (view.program c.args.p.now)) c.args.l).name in
    subst (λ t. OnOk c.add_lock_name.result (c.add_lock_name.new.text ≡ t))
    (ap (λ t. t ++ name) c.in_ok-extend_from_slice.ensures.ok ∙ append_assoc c.args.text.now (codes "invariant of ") name) c.add_lock_name.ensures
