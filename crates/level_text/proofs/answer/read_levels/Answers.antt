use Rattle.std.proofs.Common.{◌∙◌, sym, subst, arith}
use Rattle.std.proofs.lemmas.List.{length-map}
use Rattle.cov_ast.specs.View as program_view
use Rattle.level_text.specs.Lattice.{AreLevels}
use Rattle.level_text.specs.TextViews as views
use Rattle.level_text.specs.Views as level_view
use Rattle.level_text.proofs.ReadLaws.{read_spells, read_named, read_fault, fault_reads, levels_few}
use Rattle.level_text.proofs.ReadyLaws.{read_ready}
use Rattle.level_text.proofs.answer.read_levels.Goals as goal

pub first_fault-requires : goal.first_fault-requires
first_fault-requires c = read_named c.args.bytes.now c.requires.short c.in_ok-read.read c.in_ok-read.ensures c.as_slice.result.now c.as_slice.ensures

pub returns-in-Some-clause-answer : goal.returns-in-Some-clause-answer
returns-in-Some-clause-answer c =
    let p = program_view.parsed c.args.p.now in
    fault_reads c.args.bytes.now p (views.level_text c.in_ok-read.read.text) c.in-Some.fault (read_spells c.args.bytes.now c.requires.short c.in_ok-read.read c.in_ok-read.ensures)
    (read_fault c.args.bytes.now c.requires.short c.in_ok-read.read c.in_ok-read.ensures p c.as_slice.result.now c.in_ok-fault.field-0 c.as_slice.ensures c.in_ok-fault.ensures ∙ c.in-Some.is)

pub given-requires-clause-few : goal.given-requires-clause-few
given-requires-clause-few c =
    let r = c.in_ok-read.read in
    let few = levels_few r.names (program_view.parsed c.args.p.now) c.as_slice.result.now (views.level_text r.text) (sym c.in_ok-fault.ensures ∙ c.in-None.is) in
    omega (arith, length-map r.text.levels views.level, few)

pub given-requires-clause-levels : goal.given-requires-clause-levels
given-requires-clause-levels c = (read_named c.args.bytes.now c.requires.short c.in_ok-read.read c.in_ok-read.ensures c.as_slice.result.now c.as_slice.ensures).levels

pub given-requires-clause-listings : goal.given-requires-clause-listings
given-requires-clause-listings c = (read_named c.args.bytes.now c.requires.short c.in_ok-read.read c.in_ok-read.ensures c.as_slice.result.now c.as_slice.ensures).listings

pub returns-clause-levels : goal.returns-clause-levels
returns-clause-levels c =
    let p = c.args.p.now in
    let none = sym c.in_ok-fault.ensures ∙ c.in-None.is in
    let made = c.in_ok-given-in-None in
    subst (λ n. AreLevels n (level_view.levels made.field-0)) (length-map p.vars program_view.var)
    (read_ready c.args.bytes.now c.requires.short c.in_ok-read.read c.in_ok-read.ensures (program_view.parsed p) c.as_slice.result.now c.as_slice.ensures none (level_view.levels made.field-0) made.ensures.levels made.ensures.words)
