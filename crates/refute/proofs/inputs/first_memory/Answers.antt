use Rattle.std.proofs.Common.{length, map, sym, subst, arith}
use Rattle.std.proofs.lemmas.List.{length-map}
use Rattle.cov_expr.specs.Words.{IsMemory}
use Rattle.cov_ast.specs.View as view
use Rattle.watch.specs.TrialWords.{raw_word}
use Rattle.refute.proofs.TrialLaws.{first_of_program, list_more, list_whole}
use Rattle.refute.proofs.inputs.first_memory.Goals as goal

pub loop-x-preserved : goal.loop-x-preserved
loop-x-preserved g c = list_more (raw_word c.args.i 1) c.loop-x.x c.word.result c.loop-x.made c.push.new.self c.loop-x.invariant c.word.ensures c.in_ok-push.ensures.ok

pub returns-clause-words : goal.returns-clause-words
returns-clause-words g c =
    list_whole (raw_word c.args.i 1) c.loop-x.x (length (map view.var c.args.p.now.vars)) c.loop-x.made c.loop-x.invariant (omega (arith, length-map c.args.p.now.vars view.var))

pub returns-clause-memory : goal.returns-clause-memory
returns-clause-memory g c =
    subst (IsMemory (length c.args.p.now.vars))
    (sym (list_whole (raw_word c.args.i 1) c.loop-x.x (length (map view.var c.args.p.now.vars)) c.loop-x.made c.loop-x.invariant (omega (arith, length-map c.args.p.now.vars view.var))))
    (first_of_program c.args.p.now c.args.i)
