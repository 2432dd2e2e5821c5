use Rattle.std.proofs.Common.{List, ap, ◌∙◌, arith, get_or}
use Rattle.compiled_code.specs.Compiled.{line}
use Rattle.risc_compile.specs.declared.emitter.Emitter.{Emitter}
use Rattle.risc_compile.proofs.ExprLaws.{weighed_first}
use Rattle.risc_compile.proofs.emitter.Emitter.weigh.Goals as goal
use Rattle.risc_machine.specs.declared.parts.Instr.TheVariants.{Load}
use Rattle.risc_machine.specs.declared.parts.Line.{Line}

pub returns-then-position-len-clause-code : goal.returns-then-position-len-clause-code
returns-then-position-len-clause-code c before instrs is at =
    let s = c.args.self.now in
    ap (λ (lines : List Line). let e : Emitter = record s { lines = lines } in e)
    (c.set.ensures ∙ weighed_first before instrs s.lines c.args.position _ (line 0 (Load 0 0)) is at (omega (arith, c.if-position-len.true, c.len.ensures))
    (ap (λ (lines : List Line). line 1 (get_or lines c.args.position (line 0 (Load 0 0))).instr) c.as_slice.ensures))
