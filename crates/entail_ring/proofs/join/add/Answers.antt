use Rattle.std.proofs.Common.{◌+◌, ◌%◌, ◌^◌, [], ◌∷◌, ◌++◌, sym, ◌∙◌, ap}
use Rattle.std.proofs.lemmas.List.{append-nil}
use Rattle.entail_ring.specs.Polys.{term_of}
use Rattle.entail_ring.proofs.Adding.{put_last, put_none, put_some}
use Rattle.entail_ring.proofs.join.add.Goals as goal

pub returns-in_ok-push : goal.returns-in_ok-push
returns-in_ok-push c =
    let rest = c.taken.new.made.items in
    let t = c.args.t.now in
    let sum = c.taken.result + t.coefficient in
    c.in_ok-push.ensures.items
    ∙ ap (λ a. rest ++ term_of (sum % 2 ^ 32) a ∷ []) c.copy.ensures
    ∙ ap (λ p. rest ++ p) (sym (put_some sum t.atoms [] c.if-coefficient-ne0.true))
    ∙ put_last c.args.made.now.items rest c.taken.result t c.as_slice.result.now c.as_slice.ensures c.taken.ensures.rest c.taken.ensures.poly c.taken.ensures.before

pub returns-else-coefficient-ne0 : goal.returns-else-coefficient-ne0
returns-else-coefficient-ne0 c =
    let rest = c.taken.new.made.items in
    let t = c.args.t.now in
    let sum = c.taken.result + t.coefficient in
    sym (append-nil rest)
    ∙ ap (λ p. rest ++ p) (sym (put_none sum t.atoms [] c.if-coefficient-ne0.false))
    ∙ put_last c.args.made.now.items rest c.taken.result t c.as_slice.result.now c.as_slice.ensures c.taken.ensures.rest c.taken.ensures.poly c.taken.ensures.before
