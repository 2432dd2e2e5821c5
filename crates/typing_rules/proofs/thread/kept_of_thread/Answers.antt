use Rattle.std.proofs.Common.{◌≡◌, ◌<◌, ◌∙◌, ap, get_or, length, sym, subst}
use Rattle.cov_ast.specs.Plain.{plain}
use Rattle.cov_ast.specs.View as view
use Rattle.cov_ast.specs.WellFormed.{IsBlockInRange, block_size, most_size}
use Rattle.mode_compat.specs.Compatible.{numbered}
use Rattle.point_law.specs.After.{start}
use Rattle.typing_rules.proofs.Ranges.{classes_below, start_below}
use Rattle.typing_rules.proofs.Threads.{body_in_range, body_small, kept_held, kept_refused, thread_seen}
use Rattle.typing_rules.proofs.thread.kept_of_thread.Goals as goal

pub block-requires-clause-range : goal.block-requires-clause-range
block-requires-clause-range c =
    let p = c.args.p.now in
    let thread = c.index-as_slice-t.result in
    let is : thread ≡ get_or p.threads c.args.t thread = rw c.as_slice.ensures at c.index-as_slice-t.is in
    subst (λ ss. IsBlockInRange (length p.vars) (length p.locks) (view.block ss)) (sym c.as_slice-2.ensures)
    (body_in_range p c.requires.formed c.args.t thread c.requires.thread is)

pub block-requires-clause-small : goal.block-requires-clause-small
block-requires-clause-small c =
    let p = c.args.p.now in
    let thread = c.index-as_slice-t.result in
    let is : thread ≡ get_or p.threads c.args.t thread = rw c.as_slice.ensures at c.index-as_slice-t.is in
    subst (λ ss. block_size (view.block ss) < most_size) (sym c.as_slice-2.ensures)
    (body_small p c.requires.formed c.args.t thread c.requires.thread is)

pub block-requires-clause-point : goal.block-requires-clause-point
block-requires-clause-point c =
    let p = c.args.p.now in
    record {
      at = start (plain (view.program p)) c.args.t;
      keeps = c.in_ok-start.ensures;
      types = start_below (plain (view.program p)) c.args.t (length p.vars) 0 (classes_below p c.requires.formed);
    }

pub returns-in-Ok : goal.returns-in-Ok
returns-in-Ok c =
    let p = c.args.p.now in
    let t = c.args.t in
    let thread = c.index-as_slice-t.result in
    let is : thread ≡ get_or p.threads t thread = rw c.as_slice.ensures at c.index-as_slice-t.is in
    let seen = thread_seen p t thread c.requires.thread is in
    let body : view.block c.as_slice-2.result.now ≡ (numbered (view.program p) t).body = ap view.block c.as_slice-2.ensures ∙ ap (λ s. s.body) seen in
    kept_held c.args.purpose (view.program p) t (view.block c.as_slice-2.result.now) body c.new-kept.result c.block.new.kept c.new-kept.ensures
    (c.in-Ok.ensures (start (plain (view.program p)) t) c.in_ok-start.ensures).0

pub returns-in-Err-Refused : goal.returns-in-Err-Refused
returns-in-Err-Refused c =
    let p = c.args.p.now in
    let t = c.args.t in
    let thread = c.index-as_slice-t.result in
    let is : thread ≡ get_or p.threads t thread = rw c.as_slice.ensures at c.index-as_slice-t.is in
    let seen = thread_seen p t thread c.requires.thread is in
    let body : view.block c.as_slice-2.result.now ≡ (numbered (view.program p) t).body = ap view.block c.as_slice-2.ensures ∙ ap (λ s. s.body) seen in
    kept_refused c.args.purpose (view.program p) t (view.block c.as_slice-2.result.now) body c.new-kept.result c.block.new.kept c.new-kept.ensures c.in-Err-Refused.field-0-0
    ((rw c.in-Err-Refused.field-0-is at c.in-Err-Refused.ensures) (start (plain (view.program p)) t) c.in_ok-start.ensures)
