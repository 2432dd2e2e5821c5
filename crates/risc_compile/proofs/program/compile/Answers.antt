use Rattle.std.proofs.Common.{◌≡◌, ◌∙◌, ap, subst, sym}
use Rattle.cov_ast.specs.View as view
use Rattle.compiled_code.specs.Compiled.{compiled}
use Rattle.compiled_code.specs.GoodCode.{IsGoodCode}
use Rattle.risc_compile.proofs.Propositions.{well_formed}
use Rattle.risc_compile.proofs.ThreadLaws.{names_distinct}
use Rattle.risc_compile.proofs.program.compile.Goals as goal
use Rattle.risc_machine.specs.Faults.{AreCounted, fault_of}

pub parts_of-requires : goal.parts_of-requires
parts_of-requires c = well_formed (view.program c.program-program.result.now) c.program-program.ensures.formed

pub with_distinct_names-requires-clause-counted : goal.with_distinct_names-requires-clause-counted
with_distinct_names-requires-clause-counted c =
    let p = view.program c.program-program.result.now in
    subst AreCounted (sym c.in_ok-parts.ensures) (c.compiled_is_code.ensures p (well_formed p c.program-program.ensures.formed)).counted

pub with_distinct_names-requires-clause-distinct : goal.with_distinct_names-requires-clause-distinct
with_distinct_names-requires-clause-distinct c =
    let p = view.program c.program-program.result.now in
    names_distinct _ _ _ (ap fault_of c.in_ok-parts.ensures ∙ (c.compiled_is_code.ensures p (well_formed p c.program-program.ensures.formed)).faultless)

-- the parts have no fault
pub unreachable-requires : goal.unreachable-requires
unreachable-requires c =
    let p = view.program c.program-program.result.now in
    let none = ap fault_of c.in_ok-parts.ensures ∙ (c.compiled_is_code.ensures p (well_formed p c.program-program.ensures.formed)).faultless in
    let some = c.in-Err.ensures.1 in
    cc

pub returns-clause-good : goal.returns-clause-good
returns-clause-good c =
    let p = view.program c.program-program.result.now in
    let formed = well_formed p c.program-program.ensures.formed in
    let is : c.in-Ok.code ≡ compiled p = c.in-Ok.ensures.0 ∙ c.in_ok-parts.ensures in
    subst (λ v. IsGoodCode (view.program v.now) c.in-Ok.code) c.program-program.ensures.same
    (subst (IsGoodCode p) (sym is) (c.compiled_is_good.ensures p formed c.program-program.ensures.accepted))
