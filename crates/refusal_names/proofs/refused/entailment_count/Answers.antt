use Rattle.std.proofs.Common.{◌∙◌, ap, length, subst, sym}
use Rattle.std.proofs.lemmas.List.{length-map}
use Rattle.cov_ast.specs.Plain.{plain}
use Rattle.cov_ast.specs.Tables.{has}
use Rattle.cov_ast.specs.View as view
use Rattle.cov_ast.specs.WellFormed.{IsStmInRange}
use Rattle.mode_state.specs.Sets.{is_hidden}
use Rattle.entail_origins.specs.Questions.{of_statement}
use Rattle.entail_origins.proofs.SameQuestions.{of_table}
use Rattle.refusal_names.proofs.refused.entailment_count.Goals as goal

pub returns : goal.returns
returns c t held is =
    let p = c.args.p.now in
    let q = view.program p in
    let s = view.kind c.args.kind.now in
    let range : IsStmInRange (length q.vars) (length q.locks) s
    = subst (λ n. IsStmInRange n (length q.locks) s) (sym (length-map p.vars view.var))
    (subst (λ m. IsStmInRange (length p.vars) m s) (sym (length-map p.locks view.lock)) c.requires.range) in
    c.len.ensures
    ∙ ap length (c.in_ok-all.ensures
    ∙ ap (λ h. of_statement (plain q) (has h) s) (c.in_ok-hidden.ensures t held is)
    ∙ of_table (plain q) (is_hidden (plain q) t held) (length q.locks) s range)
