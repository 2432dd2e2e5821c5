use Rattle.std.proofs.Common.{sym, ◌∷◌, map, arith}
use Rattle.std.proofs.lemmas.List.{length-map}
use Rattle.code_text.proofs.ReadLaws.{many_instr}
use Rattle.code_text.proofs.row.instr_with.Goals as goal

pub returns-in_default : goal.returns-in_default
returns-in_default c =
    sym (many_instr c.args.draft.now.parts (c.args.word.now ∷ map (λ f. f.now) c.args.operands.now) (omega (arith, length-map c.args.operands.now (λ f. f.now), c.in_default.len_at_least)))
