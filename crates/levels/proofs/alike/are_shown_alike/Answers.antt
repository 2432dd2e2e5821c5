use Rattle.std.proofs.Common.{map, subst}
use Rattle.cov_ast.specs.View as program_view
use Rattle.level_text.specs.Views as view
use Rattle.levels.specs.Inside.Alike.{HaveClassesAlike, HaveMarksAlike}
use Rattle.levels.proofs.AlikeLaws.{shown_alike}
use Rattle.levels.proofs.alike.are_shown_alike.Goals as goal

pub returns-then-have_marks_alike : goal.returns-then-have_marks_alike
returns-then-have_marks_alike c h =
    let one = c.args.one.now in
    let two = c.args.two.now in
    let classes = subst (λ cs. HaveClassesAlike one two (map view.listed cs)) c.as_slice-then-have_marks_alike.ensures (c.have_classes_alike.ensures h) in
    let marks = subst (λ names. HaveMarksAlike one two names (map program_view.var c.args.p.now.vars)) c.as_slice.ensures
    (subst (λ vars. HaveMarksAlike one two c.as_slice.result.now (map program_view.var vars)) c.as_slice-2.ensures (c.have_marks_alike.ensures c.if-have_marks_alike.true)) in
    shown_alike one two (view.levels c.args.l.now) classes (program_view.program c.args.p.now) marks
