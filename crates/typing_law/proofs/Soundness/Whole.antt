-- A thread of which every obligation holds is secure.
--
-- The proof has three layers. `Fits` and `Play` know no rule: they say what each statement owes between two points, and that
-- a thread whose statements give it is secure. `FromObligations` and `FromDeclarations` read conditions, as `Conditions` has
-- them, off the truth of obligations. `Assign`, `Others` and `Sound` show that each rule gives what is owed; `Static`, `Lists`
-- and `Exprs` have what they share.
use Rattle.std.proofs.Common.{◌≡◌, ℕ, ◌<◌, [], ◌∷◌, length, ap, arith, IsTrue}
use Rattle.std.proofs.lemmas.List.{get_or-map, length-map}
use Rattle.cov_ast.specs.Declarations.{no_thread, thread_at}
use Rattle.cov_ast.specs.Obligations.{all_hold}
use Rattle.cov_ast.specs.Plain.{plain, plain_block, plain_thread}
use Rattle.cov_ast.specs.Syntax.{Program}
use Rattle.cov_ast.specs.WellFormed.{IsWellFormed}
use Rattle.flow_model.specs.Game.{IsSecureThread}
use Rattle.mode_compat.specs.Compatible.{numbered}
use Rattle.mode_compat.specs.Compatible as rules
use Rattle.mode_compat.specs.Declared.{declaration_obligations}
use Rattle.point_law.specs.After.{start}
use Rattle.typing_law.specs.ThreadObligations.{thread_obligations, block_obligations, end_obligation, end_point}
use Rattle.typing_law.proofs.Soundness.FromDeclarations.{declared}
use Rattle.typing_law.proofs.Soundness.FromObligations.{all_true, true_left}
use Rattle.typing_law.proofs.Soundness.Sound.{thread_secure}

body_is : (p : Program) (t : ℕ) → t < length p.threads → (thread_at (plain p) t).body ≡ plain_block (numbered p t).body
body_is p t lt = ap (λ th. th.body) (get_or-map plain_thread p.threads t rules.no_thread no_thread lt)

pub true_is_secure : (p : Program) → IsWellFormed p → IsTrue (all_hold (declaration_obligations p)) → (t : ℕ)
    → t < length p.threads
    → IsTrue (all_hold (thread_obligations p t)) → IsSecureThread (plain p) t
true_is_secure p fine h t t_in k =
    let body = (numbered p t).body in
    let obligations = block_obligations (plain p) t body (start (plain p) t) in
    let end = end_obligation (plain p) t (numbered p t).end (end_point p t).held in
    thread_secure (plain p) (declared p h) t (omega (arith, t_in, length-map p.threads plain_thread)) body (body_is p t t_in)
    (fine.ids.of_threads t rules.no_thread t_in).body (fine.words.bodies t rules.no_thread t_in)
    (true_left obligations (end ∷ []) (all_true (thread_obligations p t) k))
