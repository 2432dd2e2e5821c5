use Rattle.std.proofs.Common.{◌≡◌, ◌∙◌, length, Err, ap, sym, subst}
use Rattle.std.proofs.lemmas.List.{length-map}
use Rattle.std.proofs.lemmas.Result.{IfOk-weaker}
use Rattle.call_verdicts.specs.Levels.{LevelsInput}
use Rattle.cov_ast.specs.Obligations.{Decides}
use Rattle.cov_ast.specs.View as view
use Rattle.level_text.specs.Lattice.{AreLevels}
use Rattle.level_text.specs.Views as level_view
use Rattle.policy_class.specs.Resolved.{lock_id, name_obligations, resolved_variable, var_id}
use Rattle.explain.proofs.LevelLaws.{told_named, told_unnamed}
use Rattle.explain.proofs.observers.tell_text.Goals as goal

pub tell_named-requires-clause-levels : goal.tell_named-requires-clause-levels
tell_named-requires-clause-levels c =
    let p = view.parsed c.args.parsed in
    let vars = c.in-Ok.program.vars in
    let as_many : length c.args.parsed.vars ≡ length vars =
    sym (length-map c.args.parsed.vars view.var) ∙ sym (length-map p.vars (resolved_variable (var_id p) (lock_id p)))
    ∙ sym (ap (λ q. length q.vars) c.in-Ok.ensures.program) ∙ length-map vars view.var in
    subst (λ n. AreLevels n (level_view.levels c.args.l.now)) as_many c.requires.levels

pub returns-in-Ok : goal.returns-in-Ok
returns-in-Ok c =
    let i : LevelsInput = record { program = view.parsed c.args.parsed; levels = level_view.levels c.args.l.now } in
    IfOk-weaker c.tell_named.result _ _
    (λ status h. told_named c.args.name.now c.args.bytes.now i c.args.text.now c.tell_named.new.text status (view.program c.in-Ok.program) c.in-Ok.ensures.program
    c.in-Ok.ensures.names h) c.tell_named.ensures

pub returns-in-Err-Refused : goal.returns-in-Err-Refused
returns-in-Err-Refused c =
    let i : LevelsInput = record { program = view.parsed c.args.parsed; levels = level_view.levels c.args.l.now } in
    IfOk-weaker c.tell_unnamed.result _ _
    (λ status h. told_unnamed c.args.name.now c.args.bytes.now i c.args.text.now c.tell_unnamed.new.text status c.in-Err-Refused.refusal
    (subst (λ fault. Decides (name_obligations i.program) (Err fault)) c.in-Err-Refused.field-0-is c.in-Err-Refused.ensures.names) h) (c.tell_unnamed.ensures i.program c.requires.spelled)
