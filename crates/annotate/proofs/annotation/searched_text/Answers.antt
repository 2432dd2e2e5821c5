use Rattle.std.proofs.Common.{◌∙◌, ◌++◌, length, ap, sym, arith}
use Rattle.std.proofs.lemmas.List.{length-map}
use Rattle.cov_ast.specs.View as view
use Rattle.policy_class.specs.Resolved.{lock_id, resolved_thread, var_id}
use Rattle.annotate.specs.Inside.Choosing.{chosen_in}
use Rattle.annotate.proofs.AnnotationLaws.{on_ok, text_given}
use Rattle.annotate.proofs.annotation.searched_text.Goals as goal

pub text_with-requires : goal.text_with-requires
text_with-requires c =
    let p = view.parsed c.args.p in
    let q = c.args.q.now in
    omega (
      arith,
      ap length c.as_slice.ensures,
      c.in_ok-chosen.ensures.count,
      ap (λ r. length r.threads) c.requires.resolved,
      length-map q.threads view.thread,
      length-map p.threads (resolved_thread (var_id p) (lock_id p)),
      length-map c.args.p.threads view.thread,
    )

pub returns-clause-unproved : goal.returns-clause-unproved
returns-clause-unproved c =
    on_ok c.text_with.result
    (c.in_ok-chosen.ensures.unproved
    ∙ ap (λ os. c.args.unproved.now ++ os) (sym (c.unproved_entailments_are_not_found.ensures c.args.depth (view.program c.args.q.now) c.requires.formed)))

pub returns-clause-text : goal.returns-clause-text
returns-clause-text c =
    text_given c.args.depth (view.parsed c.args.p) (view.program c.args.q.now) c.in_ok-numbers.numbers (chosen_in c.as_slice.result.now) c.text_with.result
    c.in_ok-numbers.ensures c.requires.resolved
    (λ t place. ap (λ cs. chosen_in cs t place) c.as_slice.ensures ∙ c.in_ok-chosen.ensures.chosen t place) c.text_with.ensures
