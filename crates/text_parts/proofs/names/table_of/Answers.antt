use Rattle.std.proofs.Common.{length, map, drop, ap, arith}
use Rattle.std.proofs.lemmas.List.{length-append, length-map}
use Rattle.cov_ast.specs.View as view
use Rattle.text_parts.specs.VariableNames.{variable_names}
use Rattle.text_parts.proofs.NameLaws.{names_kept, new_kept}
use Rattle.text_parts.proofs.names.table_of.Goals as goal

pub add-requires : goal.add-requires
add-requires c =
    let vars = c.args.vars.now in
    let rest = variable_names (map view.var (drop c.loop-var.var-index vars)) in
    omega (
      arith,
      ap length c.loop-var.invariant.names,
      length-append c.loop-var.names rest,
      length-map (map view.var vars) (λ v. v.name),
      length-map vars view.var,
      c.requires.few,
    )

pub loop-var-preserved : goal.loop-var-preserved
loop-var-preserved c = record {
  names = names_kept c.args.vars.now c.loop-var.var-index c.var-item.result c.loop-var-test.true c.var-item.is c.loop-var.names c.add.new.self
      c.loop-var.invariant.new c.in_ok-add.ensures.ok c.loop-var.invariant.names;
  new = new_kept c.args.vars.now c.loop-var.var-index c.var-item.result c.loop-var-test.true c.var-item.is c.loop-var.names c.add.new.self
      c.loop-var.invariant.new c.in_ok-add.ensures.ok;
}
