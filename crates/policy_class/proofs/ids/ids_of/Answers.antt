use Rattle.std.proofs.Common.{◌∙◌, ◌<◌, ◌≤◌, length, arith}
use Rattle.std.specs.List.{position_or_len}
use Rattle.std.specs.Str.{bytes_eq}
use Rattle.cov_ast.specs.View as view
use Rattle.policy_class.specs.Resolved.{var_names, lock_names}
use Rattle.policy_class.proofs.IdLaws.{column_more, column_made, are_ids}
use Rattle.policy_class.proofs.ids.ids_of.Goals as goal

pub loop-number-preserved : goal.loop-number-preserved
loop-number-preserved c =
    let p = c.args.p.now in
    let inside : c.loop-number.number < length p.names = omega (arith, c.len-number-end.ensures.len, c.loop-number-test.true) in
    record {
      vars =
          column_more (λ name. position_or_len (bytes_eq name) (var_names (view.parsed p))) c.loop-number.vars _ p.names c.loop-number.number c.name-name.result _
          inside c.name-name.ensures c.in_ok-push.ensures.ok c.var_id.ensures
          ∙ c.loop-number.invariant.vars;
      locks =
          column_more (λ name. position_or_len (bytes_eq name) (lock_names (view.parsed p))) c.loop-number.locks _ p.names c.loop-number.number c.name-name.result _
          inside c.name-name.ensures c.in_ok-push-2.ensures.ok c.lock_id.ensures
          ∙ c.loop-number.invariant.locks;
    }

pub returns-clause-ids : goal.returns-clause-ids
returns-clause-ids c =
    let p = c.args.p.now in
    let past : length p.names ≤ c.loop-number.number = omega (arith, c.len-number-end.ensures.len, c.loop-number-test.false) in
    are_ids p c.args.declared.now c.requires.table (record { vars = c.loop-number.vars; locks = c.loop-number.locks; var_count = c.len.result; lock_count = c.len-2.result })
    (column_made (λ name. position_or_len (bytes_eq name) (var_names (view.parsed p))) c.loop-number.vars p.names c.loop-number.number past c.loop-number.invariant.vars)
    (column_made (λ name. position_or_len (bytes_eq name) (lock_names (view.parsed p))) c.loop-number.locks p.names c.loop-number.number past c.loop-number.invariant.locks)
    c.len.ensures c.len-2.ensures
