use Rattle.std.proofs.Common.{◌≡◌, ◌↔◌, ℕ, List, length, IsNone, Option, Some, rules, sym, ◌∙◌}
use Rattle.std.proofs.lemmas.List.{length-map}
use Rattle.cov_ast.specs.Plain.{plain}
use Rattle.cov_ast.specs.View as view
use Rattle.cov_ast.specs.declared.decl.Program.{Program}
use Rattle.flow_model.specs.Agreement.{MemoriesAgree}
use Rattle.flow_model.specs.FirstDifference.{first_difference, held_by, holders_of}
use Rattle.flow_model.specs.declared.agreement.Differ.{Differ}
use Rattle.flow_model.specs.declared.agreement.Differ.TheVariants.{Lock}
use Rattle.flow_model.specs.declared.machine.Holder.{Holder}
use Rattle.flow_model.proofs.Decided.{none_is_agreement}
use Rattle.flow_model.proofs.agreement.agree.Goals as goal

answers : (p : Program) (m1 : List ℕ) (h1 : List Holder) (m2 : List ℕ) (h2 : List Holder)
    → length m1 ≡ length p.vars → length h1 ≡ length p.locks → length m2 ≡ length p.vars → length h2 ≡ length p.locks
    → (o : Option Differ) → o ≡ first_difference (plain (view.program p)) m1 (holders_of h1) m2 (holders_of h2)
    → IsNone o ↔ MemoriesAgree (plain (view.program p)) m1 (holders_of h1) m2 (holders_of h2)
answers p m1 h1 m2 h2 long1 locks1 long2 locks2 =
    none_is_agreement (plain (view.program p)) m1 (holders_of h1) m2 (holders_of h2)
    (long1 ∙ sym (length-map p.vars view.var)) (length-map h1 held_by ∙ locks1 ∙ sym (length-map p.locks view.lock))
    (long2 ∙ sym (length-map p.vars view.var)) (length-map h2 held_by ∙ locks2 ∙ sym (length-map p.locks view.lock))

pub returns-in-Some-clause-agree : goal.returns-in-Some-clause-agree
returns-in-Some-clause-agree c =
    let r = c.requires in
    answers c.args.p.now c.args.m1.now c.args.h1.now c.args.m2.now c.args.h2.now r.first_memory r.first_holders r.second_memory r.second_holders
    (Some (Lock c.in-Some.l)) (search rules)

pub returns-clause-agree : goal.returns-clause-agree
returns-clause-agree c =
    let r = c.requires in
    answers c.args.p.now c.args.m1.now c.args.h1.now c.args.m2.now c.args.h2.now r.first_memory r.first_holders r.second_memory r.second_holders
    c.map.result (search rules)
