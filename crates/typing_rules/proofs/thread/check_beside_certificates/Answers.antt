use Rattle.std.proofs.Common.{◌≡◌, ◌<◌, ◌∙◌, ap, get_or, length, sym, subst}
use Rattle.cov_ast.specs.Plain.{plain}
use Rattle.cov_ast.specs.View as view
use Rattle.cov_ast.specs.WellFormed.{IsBlockInRange, block_size, most_size}
use Rattle.point_law.specs.After.{start}
use Rattle.typing_law.specs.Blocks.{after_block}
use Rattle.typing_law.specs.ThreadEntailments.{block_entailments}
use Rattle.typing_law.specs.ThreadObligations.{block_obligations}
use Rattle.typing_rules.specs.declared.purpose.Wanted.TheVariants.{Numbered}
use Rattle.typing_rules.proofs.Ranges.{classes_below, start_below}
use Rattle.typing_rules.proofs.Threads.{body_in_range, body_small, others_at_end, others_refused, others_stopped, thread_seen}
use Rattle.typing_rules.proofs.thread.check_beside_certificates.Goals as goal

pub block-requires-clause-range : goal.block-requires-clause-range
block-requires-clause-range c =
    let p = c.args.p.now in
    let thread = c.index-as_slice-t.result in
    let is : thread ≡ get_or p.threads c.args.t thread = rw c.as_slice.ensures at c.index-as_slice-t.is in
    subst (λ ss. IsBlockInRange (length p.vars) (length p.locks) (view.block ss)) (sym c.as_slice-2.ensures)
    (body_in_range p c.requires.formed c.args.t thread c.requires.thread is)

pub block-requires-clause-small : goal.block-requires-clause-small
block-requires-clause-small c =
    let p = c.args.p.now in
    let thread = c.index-as_slice-t.result in
    let is : thread ≡ get_or p.threads c.args.t thread = rw c.as_slice.ensures at c.index-as_slice-t.is in
    subst (λ ss. block_size (view.block ss) < most_size) (sym c.as_slice-2.ensures)
    (body_small p c.requires.formed c.args.t thread c.requires.thread is)

pub block-requires-clause-point : goal.block-requires-clause-point
block-requires-clause-point c =
    let p = c.args.p.now in
    record {
      at = start (plain (view.program p)) c.args.t;
      keeps = c.in_ok-start.ensures;
      types = start_below (plain (view.program p)) c.args.t (length p.vars) 0 (classes_below p c.requires.formed);
    }

pub returns-in-Ok : goal.returns-in-Ok
returns-in-Ok c =
    let p = c.args.p.now in
    let t = c.args.t in
    let thread = c.index-as_slice-t.result in
    let is : thread ≡ get_or p.threads t thread = rw c.as_slice.ensures at c.index-as_slice-t.is in
    let seen = thread_seen p t thread c.requires.thread is in
    let b = view.block c.as_slice-2.result.now in
    let walked = c.in-Ok.ensures (start (plain (view.program p)) t) c.in_ok-start.ensures in
    let after = after_block (plain (view.program p)) t b (start (plain (view.program p)) t) in
    others_at_end (view.program p) t b thread.end (ap view.block c.as_slice-2.ensures ∙ ap (λ s. s.body) seen) (ap (λ s. s.end) seen) walked.0.0 c.check_end.result
    (c.check_end.ensures after.held (c.modes.ensures (plain (view.program p)) t after walked.1))

pub returns : goal.returns
returns c =
    let p = c.args.p.now in
    let t = c.args.t in
    let thread = c.index-as_slice-t.result in
    let is : thread ≡ get_or p.threads t thread = rw c.as_slice.ensures at c.index-as_slice-t.is in
    let seen = thread_seen p t thread c.requires.thread is in
    let b = view.block c.as_slice-2.result.now in
    others_refused (view.program p) t b thread.end (ap view.block c.as_slice-2.ensures ∙ ap (λ s. s.body) seen) (ap (λ s. s.end) seen) c.in-Err.fault
    (others_stopped (Numbered 0 0) (block_obligations (plain (view.program p)) t b (start (plain (view.program p)) t)) (block_entailments (plain (view.program p)) t b (start (plain (view.program p)) t))
    c.new-none.result c.block.new.kept c.in-Err.fault (c.in-Err.ensures (start (plain (view.program p)) t) c.in_ok-start.ensures))
