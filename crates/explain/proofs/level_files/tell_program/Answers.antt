use Rattle.std.proofs.Common.{refl, inl, inr}
use Rattle.cov_ast.specs.View as view
use Rattle.explain.proofs.LevelLaws.{malformed_follows}
use Rattle.explain.proofs.level_files.tell_program.Goals as goal

pub returns-in-Ok : goal.returns-in-Ok
returns-in-Ok g c = inl (view.parsed c.in-Ok.parsed, c.in-Ok.ensures.read, c.tell_over.ensures)

pub returns-in-Err-Some : goal.returns-in-Err-Some
returns-in-Err-Some g c =
    malformed_follows c.args.name.now c.args.over.now c.args.text.now c.tell_malformed.new.text (g.S.Shelf.shelved c.args.shelf.now) c.args.bytes.now
    c.in-Err-Some.fault c.tell_malformed.result (rw c.in-Err-Some.field-0-is at c.in-Err-Some.ensures.read) c.tell_malformed.ensures

pub returns-in-Err-None : goal.returns-in-Err-None
returns-in-Err-None g c = inr (inr (refl, refl))
