use Rattle.std.proofs.Common.{map, take, string_bytes}
use Rattle.call_reports.specs.declared.answers.Status.TheVariants as s
use Rattle.explain.specs.FileCalls.{TellsAll, told}
use Rattle.explain.specs.Inside.Told.{IsLeft}
use Rattle.explain.proofs.files.tell_all.Given as goal

-- what is told of the files so far
abbrev pub invariant-loop-name : goal.invariant-loop-name
invariant-loop-name g l =
    let shelved = g.S.Shelf.shelved in
    TellsAll (IsLeft (shelved l.shelf) (told l.text l.status)) l.manner (shelved l.fn.shelf) (map string_bytes (take l.name-index l.names)) l.fn.text s.Done
