use Rattle.std.proofs.Common.{◌<◌, length, map, ap, sym, subst, arith}
use Rattle.std.proofs.lemmas.List.{length-map}
use Rattle.cov_expr.specs.Words.{HasVarsBelow, IsMemory}
use Rattle.cov_ast.specs.Plain.{class_term, plain}
use Rattle.cov_ast.specs.View as view
use Rattle.cov_ast.proofs.WellFormedLaws.{class_in_range}
use Rattle.refute.specs.Trials.{second_word}
use Rattle.refute.proofs.TrialLaws.{as_long, list_more, list_whole, second_made, second_of_program}
use Rattle.refute.proofs.inputs.second_memory.Goals as goal

pub second_word-requires-clause-class : goal.second_word-requires-clause-class
second_word-requires-clause-class g c =
    subst (HasVarsBelow (class_term (view.class c.var-item.result.class))) (sym (as_long c.args.p.now c.args.i c.args.left.now c.requires.left))
    (class_in_range c.args.p.now c.requires.formed c.loop-x.x c.var-item.result
    (rw c.as_slice-var-items.ensures at c.loop-x-test.true) (rw c.as_slice-var-items.ensures at c.var-item.is))

pub second_word-requires-clause-inside : goal.second_word-requires-clause-inside
second_word-requires-clause-inside g c =
    subst (λ n. c.loop-x.x < n) (sym (as_long c.args.p.now c.args.i c.args.left.now c.requires.left)) (rw c.as_slice-var-items.ensures at c.loop-x-test.true)

pub loop-x-preserved : goal.loop-x-preserved
loop-x-preserved g c =
    list_more (second_word (plain (view.program c.args.p.now)) c.args.i) c.loop-x.x c.second_word.result c.loop-x.made c.push.new.self c.loop-x.invariant
    (second_made c.args.p.now c.args.i c.loop-x.x c.second_word.result c.var-item.result c.args.left.now
    (rw c.as_slice-var-items.ensures at c.loop-x-test.true) (rw c.as_slice-var-items.ensures at c.var-item.is) c.requires.left c.second_word.ensures)
    c.in_ok-push.ensures.ok

pub returns-clause-words : goal.returns-clause-words
returns-clause-words g c =
    list_whole (second_word (plain (view.program c.args.p.now)) c.args.i) c.loop-x.x (length (map view.var c.args.p.now.vars)) c.loop-x.made c.loop-x.invariant
    (omega (arith, length-map c.args.p.now.vars view.var, ap length c.as_slice-var-items.ensures))

pub returns-clause-memory : goal.returns-clause-memory
returns-clause-memory g c =
    subst (IsMemory (length c.args.p.now.vars))
    (sym (list_whole (second_word (plain (view.program c.args.p.now)) c.args.i) c.loop-x.x (length (map view.var c.args.p.now.vars)) c.loop-x.made c.loop-x.invariant
    (omega (arith, length-map c.args.p.now.vars view.var, ap length c.as_slice-var-items.ensures))))
    (second_of_program c.args.p.now c.args.i)
