use Rattle.std.proofs.Common.{drop, map}
use Rattle.level_text.specs.Views as view
use Rattle.levels.specs.Inside.Alike.{HaveClassesAlike}
use Rattle.levels.proofs.alike.have_classes_alike.Given as goal

-- where what is left is alike, all is
abbrev pub invariant-loop-listed : goal.invariant-loop-listed
invariant-loop-listed l =
    HaveClassesAlike l.one l.two (map view.listed (drop l.listed-index l.classes)) → HaveClassesAlike l.one l.two (map view.listed l.classes)
