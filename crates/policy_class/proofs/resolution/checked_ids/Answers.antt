use Rattle.std.proofs.Common.{◌∙◌, [], map, arith, ◌≤◌, length, sym, ap}
use Rattle.std.specs.Str.{bytes_eq}
use Rattle.cov_expr.specs.declared.expr.TheConstants.{HOLE}
use Rattle.cov_ast.specs.View as view
use Rattle.cov_ast.specs.WellFormed.{are_distinct}
use Rattle.cov_ast.proofs.ObligationLaws.{append_held}
use Rattle.policy_class.specs.Resolved.{w1_from, declared_names, use_obligation}
use Rattle.policy_class.proofs.ResolvedLaws.{resolved_formed, first_refused, rest_refused}
use Rattle.policy_class.proofs.resolution.checked_ids.Goals as goal

pub check_uses-requires-clause-range : goal.check_uses-requires-clause-range
check_uses-requires-clause-range c = c.requires.used_ids

pub returns-in_err-declared-clause-names : goal.returns-in_err-declared-clause-names
returns-in_err-declared-clause-names c =
    let p = view.parsed c.args.p.now in
    first_refused (w1_from [] (declared_names p)) (map (use_obligation p) p.uses) c.in_err-declared.field-0.0 c.from_residual.result
    c.from_residual.ensures.1 c.in_err-declared.ensures.decided

pub returns-in_err-check_uses-clause-names : goal.returns-in_err-check_uses-clause-names
returns-in_err-check_uses-clause-names c =
    let p = view.parsed c.args.p.now in
    rest_refused (w1_from [] (declared_names p)) (map (use_obligation p) p.uses) c.in_err-check_uses.field-0.0 c.from_residual-in_err-check_uses.result
    c.from_residual-in_err-check_uses.ensures.1 c.in_ok-declared.ensures.decided c.in_err-check_uses.ensures

pub returns-clause-names : goal.returns-clause-names
returns-clause-names c =
    let p = view.parsed c.args.p.now in
    append_held (w1_from [] (declared_names p)) (map (use_obligation p) p.uses) c.in_ok-declared.ensures.decided ∙ c.in_ok-check_uses.ensures

pub returns-clause-formed : goal.returns-clause-formed
returns-clause-formed c words =
    let p = view.parsed c.args.p.now in
    let few : length p.names ≤ HOLE = omega (arith, c.in_ok-ids.ensures.few) in
    let table = c.in_ok-declared.ensures.table in
    resolved_formed p c.requires few (ap (are_distinct bytes_eq) (sym table.names) ∙ table.differ) c.in_ok-check_uses.ensures words
