use Rattle.std.proofs.Common.{◌+◌, ◌<◌, ◌≤◌, ◌∙◌, length, ap, arith}
use Rattle.std.proofs.lemmas.List.{length-take-le, take_all}
use Rattle.cov_ast.proofs.NameTables.{name_copied}
use Rattle.cov_ast.proofs.names.NameTable.copy.Goals as goal

pub loop-number-preserved : goal.loop-number-preserved
loop-number-preserved c =
    let names = c.args.self.now in
    let number = c.loop-number.number in
    let inside : number < length names = omega (arith, c.len-number-end.ensures.len, c.loop-number-test.true) in
    let more = name_copied names c.loop-number.made c.add.new.self number c.name-name.result inside c.len-number-end.ensures.distinct c.name-name.ensures
    c.loop-number.invariant.names c.in_ok-add.ensures.ok in
    record {
      count = ap length more ∙ length-take-le (number + 1) names (omega (arith, inside));
      names = more;
    }

pub returns : goal.returns
returns c =
    let names = c.args.self.now in
    let past : length names ≤ c.loop-number.number = omega (arith, c.len-number-end.ensures.len, c.loop-number-test.false) in
    c.loop-number.invariant.names ∙ take_all c.loop-number.number names past
