use Rattle.std.proofs.Common.{map}
use Rattle.code_text.proofs.SoundLaws.{can_stand}
use Rattle.code_text.proofs.read.add_line.Goals as goal

pub add-requires-clause-stands : goal.add-requires-clause-stands
add-requires-clause-stands c = can_stand c.args.draft.now (map (λ f. f.now) c.args.fields.now) c.in-Some.row c.in-Some.ensures

pub returns-clause-known : goal.returns-clause-known
returns-clause-known c =
    λ known. rw c.in_ok-add.ensures
    (c.in_ok-add_row.ensures c.args.draft.now (can_stand c.args.draft.now (map (λ f. f.now) c.args.fields.now) c.in-Some.row c.in-Some.ensures) known)
