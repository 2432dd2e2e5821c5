use Rattle.std.proofs.Common.{◌≡◌, ◌-◌, List, Some, length, take, sym, ◌∙◌, ap}
use Rattle.std.specs.List.{slice_get}
use Rattle.entail_ring.specs.declared.monomials.Monomial.{Monomial}
use Rattle.entail_ring.proofs.Adding.{Taken, last_gone, last_kept}
use Rattle.entail_ring.proofs.join.taken.Goals as goal

abbrev last_of : List Monomial → Monomial → Type 0
last_of all t = Some t ≡ slice_get all (length all - 1)

pub returns-then-ne-clause-before : goal.returns-then-ne-clause-before
returns-then-ne-clause-before c =
    let last : last_of c.args.made.now.items c.in-Some.last.now =
    c.in-Some.ensures.value ∙ ap (λ p. slice_get p (length p - 1)) c.deref.ensures.value in
    last_kept c.args.atoms.now c.as_slice.result.now c.args.made.now.items c.in-Some.last.now last c.as_slice.ensures (sym c.if-ne.true ∙ c.ne.ensures)
    c.requires.poly c.requires.last

taken : (c : goal.After-pop) → Taken c.args.atoms.now c.args.made.now.items c.pop.new.self.items c.in-Some.last.now.coefficient
taken c =
    let last : last_of c.args.made.now.items c.in-Some.last.now =
    c.in-Some.ensures.value ∙ ap (λ p. slice_get p (length p - 1)) c.deref.ensures.value in
    last_gone c.args.atoms.now c.as_slice.result.now c.args.made.now.items c.pop.new.self.items c.in-Some.last.now last c.as_slice.ensures
    (sym c.if-ne.false ∙ c.ne.ensures)
    (c.pop.ensures.rest ∙ ap (λ n. take (n - 1) c.args.made.now.items) (sym c.deref.ensures.len ∙ ap length c.deref.ensures.value)) c.requires.poly

pub returns-clause-rest : goal.returns-clause-rest
returns-clause-rest c = (taken c).rest

pub returns-clause-poly : goal.returns-clause-poly
returns-clause-poly c = (taken c).poly

pub returns-clause-before : goal.returns-clause-before
returns-clause-before c = (taken c).before
