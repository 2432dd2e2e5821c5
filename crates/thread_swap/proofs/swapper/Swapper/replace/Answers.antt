use Rattle.std.proofs.Common.{◌≡◌, ℕ, ◌≤◌, ◌∙◌, ap, set, subst, arith, None}
use Rattle.cov_ast.specs.View as view
use Rattle.thread_swap.specs.Judges.{risen}
use Rattle.thread_swap.specs.Swaps.{IsStanding, due, swapped}
use Rattle.thread_swap.proofs.AloneLaws.{alone_rises}
use Rattle.thread_swap.proofs.ReplaceLaws.{answers_back, due_is, fits_again, fits_behind, open_fits, program_is, settled_is, stands_again, stands_behind, still_formed, unchanged, verdict_is}
use Rattle.thread_swap.proofs.SwapLaws.{put_back}
use Rattle.thread_swap.proofs.swapper.Swapper.replace.Goals as goal

pub settle-requires-clause-formed : goal.settle-requires-clause-formed
settle-requires-clause-formed g c =
    let fields = c.self.inside in
    still_formed fields.program fields.answers fields.verdict c.args.self.now c.self.view_is c.args.t c.args.d c.put-thread.new.threads c.put-thread.ensures.put c.requires.formed

pub settle-requires-clause-fits : goal.settle-requires-clause-fits
settle-requires-clause-fits g c =
    let fields = c.self.inside in
    open_fits fields.program fields.answers fields.verdict c.args.self.now c.self.view_is c.args.t c.args.d c.put-thread.new.threads c.put-thread.ensures.put
    c.as_slice-2.result.now (c.as_slice-2.ensures ∙ c.set.ensures) c.self.invariant c.requires.thread (g.J.Judge.judging c.args.judge.now) c.requires.fits

pub invariant_of-self : goal.invariant_of-self
invariant_of-self g c =
    let fields = c.self.inside in
    stands_behind fields.program fields.answers fields.verdict c.args.self.now c.self.view_is c.args.t c.args.d c.put-thread.new.threads c.put-thread.ensures.put
    c.as_slice-2.result.now (c.as_slice-2.ensures ∙ c.set.ensures) c.self.invariant c.requires.thread (g.J.Judge.judging c.args.judge.now)
    c.in-Ok.settled.answers c.in-Ok.settled.verdict c.in-Ok.ensures.answers c.in-Ok.ensures.verdict c.requires.formed

pub returns-in-Ok-clause-program : goal.returns-in-Ok-clause-program
returns-in-Ok-clause-program g c =
    let fields = c.self.inside in
    program_is fields.program fields.answers fields.verdict c.args.self.now c.self.view_is c.args.t c.args.d c.put-thread.new.threads c.put-thread.ensures.put

pub returns-in-Ok-clause-answers : goal.returns-in-Ok-clause-answers
returns-in-Ok-clause-answers g c =
    let fields = c.self.inside in
    c.in-Ok.ensures.answers
    ∙ settled_is fields.program fields.answers fields.verdict c.args.self.now c.self.view_is c.args.t c.args.d c.put-thread.new.threads c.put-thread.ensures.put
    c.as_slice-2.result.now (c.as_slice-2.ensures ∙ c.set.ensures) (g.J.Judge.judging c.args.judge.now)

pub returns-in-Ok-clause-verdict : goal.returns-in-Ok-clause-verdict
returns-in-Ok-clause-verdict g c =
    let fields = c.self.inside in
    c.in-Ok.ensures.verdict
    ∙ verdict_is fields.program fields.answers fields.verdict c.args.self.now c.self.view_is c.args.t c.args.d c.put-thread.new.threads c.put-thread.ensures.put
    c.as_slice-2.result.now (c.as_slice-2.ensures ∙ c.set.ensures) (g.J.Judge.judging c.args.judge.now)

pub returns-in-Ok-clause-fits : goal.returns-in-Ok-clause-fits
returns-in-Ok-clause-fits g c =
    let fields = c.self.inside in
    fits_behind fields.program fields.answers fields.verdict c.args.self.now c.self.view_is c.args.t c.args.d c.put-thread.new.threads c.put-thread.ensures.put
    c.as_slice-2.result.now (c.as_slice-2.ensures ∙ c.set.ensures) c.self.invariant c.requires.thread (g.J.Judge.judging c.args.judge.now)
    c.in-Ok.settled.answers c.in-Ok.settled.verdict c.in-Ok.ensures.answers c.in-Ok.ensures.verdict (g.J.Judge.judging c.settle.new.judge)
    c.in-Ok.ensures.passes c.requires.fits

pub returns-in-Ok-clause-asks : goal.returns-in-Ok-clause-asks
returns-in-Ok-clause-asks g c =
    let fields = c.self.inside in
    c.in-Ok.ensures.asks
    ∙ ap (risen (g.J.Judge.judging c.args.judge.now).judged)
    (due_is fields.program fields.answers fields.verdict c.args.self.now c.self.view_is c.args.t c.args.d c.put-thread.new.threads c.put-thread.ensures.put
    c.as_slice-2.result.now (c.as_slice-2.ensures ∙ c.set.ensures))

pub invariant_of-self-in-Err : goal.invariant_of-self-in-Err
invariant_of-self-in-Err g c =
    let fields = c.self.inside in
    stands_again fields.program fields.answers fields.verdict c.args.self.now c.self.view_is c.set-in-Err.new.self c.set-in-Err-2.new.self
    (c.set-in-Err.ensures ∙ ap (λ ts. set ts c.args.t c.put-thread.result) c.put-thread.ensures.put ∙ put_back fields.program c.args.t c.args.d c.put-thread.result c.put-thread.ensures.old)
    (answers_back fields.answers c.set.new.self c.set-in-Err-2.new.self c.args.t c.index-as_slice-t.result (rw c.as_slice.ensures at c.index-as_slice-t.is) c.set.ensures c.set-in-Err-2.ensures)
    c.self.invariant

pub returns-in-Err-clause-unchanged : goal.returns-in-Err-clause-unchanged
returns-in-Err-clause-unchanged g c =
    let fields = c.self.inside in
    unchanged fields.program fields.answers fields.verdict c.args.self.now c.self.view_is c.set-in-Err.new.self c.set-in-Err-2.new.self
    (c.set-in-Err.ensures ∙ ap (λ ts. set ts c.args.t c.put-thread.result) c.put-thread.ensures.put ∙ put_back fields.program c.args.t c.args.d c.put-thread.result c.put-thread.ensures.old)
    (answers_back fields.answers c.set.new.self c.set-in-Err-2.new.self c.args.t c.index-as_slice-t.result (rw c.as_slice.ensures at c.index-as_slice-t.is) c.set.ensures c.set-in-Err-2.ensures)

pub returns-in-Err-clause-fits : goal.returns-in-Err-clause-fits
returns-in-Err-clause-fits g c =
    let fields = c.self.inside in
    fits_again fields.program fields.answers fields.verdict c.args.self.now c.self.view_is c.set-in-Err.new.self c.set-in-Err-2.new.self
    (c.set-in-Err.ensures ∙ ap (λ ts. set ts c.args.t c.put-thread.result) c.put-thread.ensures.put ∙ put_back fields.program c.args.t c.args.d c.put-thread.result c.put-thread.ensures.old)
    (answers_back fields.answers c.set.new.self c.set-in-Err-2.new.self c.args.t c.index-as_slice-t.result (rw c.as_slice.ensures at c.index-as_slice-t.is) c.set.ensures c.set-in-Err-2.ensures)
    (g.J.Judge.judging c.args.judge.now) (g.J.Judge.judging c.settle.new.judge) c.in-Err.ensures.passes c.requires.fits

pub returns-in-Err-clause-asks : goal.returns-in-Err-clause-asks
returns-in-Err-clause-asks g c =
    let fields = c.self.inside in
    let before = (g.J.Judge.judging c.args.judge.now).judged in
    let after = (g.J.Judge.judging c.settle.new.judge).judged in
    subst (λ x. (n : ℕ) × (n ≤ x) × (after ≡ risen before n))
    (due_is fields.program fields.answers fields.verdict c.args.self.now c.self.view_is c.args.t c.args.d c.put-thread.new.threads c.put-thread.ensures.put
    c.as_slice-2.result.now (c.as_slice-2.ensures ∙ c.set.ensures)) c.in-Err.ensures.asks

pub returns-in-Ok-clause-alone : goal.returns-in-Ok-clause-alone
returns-in-Ok-clause-alone g c none =
    let fields = c.self.inside in
    let s = c.args.self.now in
    let judging = g.J.Judge.judging in
    alone_rises s (subst (λ r. IsStanding (view.program r.program) r.answers r.verdict) c.self.view_is c.self.invariant) none c.args.t (view.thread c.args.d) c.requires.thread
    (judging c.args.judge.now).judged (judging c.settle.new.judge).judged (
      due (swapped (view.program s.program) c.args.t (view.thread c.args.d)) (set s.answers c.args.t None),
      omega arith,
      c.in-Ok.ensures.asks
          ∙ ap (risen (judging c.args.judge.now).judged)
          (due_is fields.program fields.answers fields.verdict s c.self.view_is c.args.t c.args.d c.put-thread.new.threads c.put-thread.ensures.put
          c.as_slice-2.result.now (c.as_slice-2.ensures ∙ c.set.ensures)),
    )

pub returns-in-Err-clause-alone : goal.returns-in-Err-clause-alone
returns-in-Err-clause-alone g c none =
    let fields = c.self.inside in
    let s = c.args.self.now in
    let before = (g.J.Judge.judging c.args.judge.now).judged in
    let after = (g.J.Judge.judging c.settle.new.judge).judged in
    alone_rises s (subst (λ r. IsStanding (view.program r.program) r.answers r.verdict) c.self.view_is c.self.invariant) none c.args.t (view.thread c.args.d) c.requires.thread
    before after
    (subst (λ x. (n : ℕ) × (n ≤ x) × (after ≡ risen before n))
    (due_is fields.program fields.answers fields.verdict s c.self.view_is c.args.t c.args.d c.put-thread.new.threads c.put-thread.ensures.put
    c.as_slice-2.result.now (c.as_slice-2.ensures ∙ c.set.ensures)) c.in-Err.ensures.asks)
