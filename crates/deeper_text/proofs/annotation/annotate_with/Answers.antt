use Rattle.std.proofs.Common.{◌≡◌, ◌∙◌, IsTrue, ap, length, map, subst, sym}
use Rattle.std.proofs.lemmas.List.{length-map}
use Rattle.annotate.specs.AnnotatedText.{IsAsRead, with_choices}
use Rattle.cov_ast.specs.Obligations.{all_hold}
use Rattle.cov_ast.specs.View as view
use Rattle.mode_compat.specs.Declared.{declaration_obligations}
use Rattle.policy_class.specs.Resolved.{lock_id, name_obligations, resolved, resolved_thread, var_id}
use Rattle.deeper_text.proofs.FoundRange.{of_threads}
use Rattle.deeper_text.proofs.TextLaws.{first_of, spelled_of, unproved_of}
use Rattle.deeper_text.specs.DeeperText.{all_found, chosen_among, deeper_text, tried}
use Rattle.deeper_text.specs.Inside.{AreOfThreads, found}
use Rattle.deeper_text.proofs.annotation.annotate_with.Goals as goal

pub text_with_found-requires : goal.text_with_found-requires
text_with_found-requires c =
    let p = view.parsed c.args.p in
    let fs = map found c.args.all.now in
    let same : fs ≡ all_found (resolved p) (tried (resolved p)) = c.requires.found in
    let count : length (resolved p).threads ≡ length c.args.p.threads =
    length-map p.threads (resolved_thread (var_id p) (lock_id p)) ∙ length-map c.args.p.threads view.thread in
    subst (λ n. AreOfThreads n fs) count (subst (AreOfThreads (length (resolved p).threads)) (sym same) (of_threads (resolved p) (tried (resolved p))))

pub annotate_text-requires-clause-read : goal.annotate_text-requires-clause-read
annotate_text-requires-clause-read c =
    let p = view.parsed c.args.p in
    let same : view.parsed c.in_ok-text.text ≡ deeper_text p = c.in_ok-text.ensures ∙ ap (λ fs. with_choices (chosen_among fs) p) c.requires.found in
    subst IsAsRead (sym same) (c.deeper_texts_are_read.ensures.read p c.requires.formed c.requires.read)

pub annotate_text-requires-clause-names : goal.annotate_text-requires-clause-names
annotate_text-requires-clause-names c =
    let p = view.parsed c.args.p in
    let same : view.parsed c.in_ok-text.text ≡ deeper_text p = c.in_ok-text.ensures ∙ ap (λ fs. with_choices (chosen_among fs) p) c.requires.found in
    subst (λ q. IsTrue (all_hold (name_obligations q))) (sym same) (c.deeper_texts_are_read.ensures.names p c.requires.formed c.requires.read c.requires.names)

pub annotate_text-requires-clause-declared : goal.annotate_text-requires-clause-declared
annotate_text-requires-clause-declared c =
    let p = view.parsed c.args.p in
    let same : view.parsed c.in_ok-text.text ≡ deeper_text p = c.in_ok-text.ensures ∙ ap (λ fs. with_choices (chosen_among fs) p) c.requires.found in
    subst (λ q. IsTrue (all_hold (declaration_obligations (resolved q)))) (sym same)
    (subst (λ os. IsTrue (all_hold os)) (sym (c.deeper_texts_are_read.ensures.declarations p c.requires.formed c.requires.read)) c.requires.declared)

pub returns-clause-spelled : goal.returns-clause-spelled
returns-clause-spelled c =
    let p = view.parsed c.args.p in
    let same : view.parsed c.in_ok-text.text ≡ deeper_text p = c.in_ok-text.ensures ∙ ap (λ fs. with_choices (chosen_among fs) p) c.requires.found in
    spelled_of c.annotate_text.result (view.parsed c.in_ok-text.text) (deeper_text p) same c.annotate_text.ensures.spelled

pub returns-clause-first : goal.returns-clause-first
returns-clause-first c =
    let p = view.parsed c.args.p in
    let same : view.parsed c.in_ok-text.text ≡ deeper_text p = c.in_ok-text.ensures ∙ ap (λ fs. with_choices (chosen_among fs) p) c.requires.found in
    first_of c.annotate_text.result (resolved (view.parsed c.in_ok-text.text)) (resolved (deeper_text p)) (ap resolved same) c.annotate_text.ensures.first

pub returns-clause-unproved : goal.returns-clause-unproved
returns-clause-unproved c =
    let p = view.parsed c.args.p in
    let same : view.parsed c.in_ok-text.text ≡ deeper_text p = c.in_ok-text.ensures ∙ ap (λ fs. with_choices (chosen_among fs) p) c.requires.found in
    unproved_of c.annotate_text.result (resolved (view.parsed c.in_ok-text.text)) (resolved (deeper_text p)) (ap resolved same) c.annotate_text.ensures.unproved
