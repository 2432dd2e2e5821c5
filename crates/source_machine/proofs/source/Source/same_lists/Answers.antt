use Rattle.std.proofs.Common.{◌≡◌, ℕ, ◌<◌, ◌≤◌, length, ap, sym, ◌∙◌, subst, arith, below_more, ◌⊎◌, inl, inr}
use Rattle.source_machine.specs.Inside.Sound.{IsSound}
use Rattle.source_machine.specs.SourceMachine.{run_of}
use Rattle.flow_model.specs.Agreement.{IsAlikeAt}
use Rattle.source_machine.proofs.SourceLaws.{count, few, counts, alike_at, apart_at, alike_past}
use Rattle.source_machine.proofs.source.Source.same_lists.Goals as goal

pub index-requires-in-loop-t : goal.index-requires-in-loop-t
index-requires-in-loop-t c =
    let e : c.self.inside.program.now ≡ c.other.inside.program.now = ap (λ x. x.program) c.self.view_is ∙ c.requires ∙ sym (ap (λ x. x.program) c.other.view_is) in
    let b = subst (λ p. IsSound p c.other.inside.shared c.other.inside.threads.items) (sym e) c.other.invariant in
    let k = counts _ _ _ c.self.invariant _ _ b in omega arith

pub overflow_cast-result : goal.overflow_cast-result
overflow_cast-result c =
    let k = few _ _ _ c.self.invariant in omega arith

pub returns-then-not-stands_like : goal.returns-then-not-stands_like
returns-then-not-stands_like c =
    let e : c.self.inside.program.now ≡ c.other.inside.program.now = ap (λ x. x.program) c.self.view_is ∙ c.requires ∙ sym (ap (λ x. x.program) c.other.view_is) in
    let b = subst (λ p. IsSound p c.other.inside.shared c.other.inside.threads.items) (sym e) c.other.invariant in
    let k = count _ _ _ c.self.invariant in
    let x = apart_at _ _ _ c.self.invariant _ _ b c.loop-t.t c.index.result.now c.index-in-loop-t.result.now (omega arith) c.index.ensures c.index-in-loop-t.ensures (sym c.stands_like.ensures ∙ c.if-not-stands_like.true) in
    record {
      inside = subst (λ m. c.loop-t.t < length m.program.threads) c.self.view_is (omega arith);
      apart = rw (← c.self.view_is, ← c.other.view_is) x;
      before = c.loop-t.invariant;
    }

pub loop-t-preserved : goal.loop-t-preserved
loop-t-preserved c =
    let e : c.self.inside.program.now ≡ c.other.inside.program.now = ap (λ x. x.program) c.self.view_is ∙ c.requires ∙ sym (ap (λ x. x.program) c.other.view_is) in
    let b = subst (λ p. IsSound p c.other.inside.shared c.other.inside.threads.items) (sym e) c.other.invariant in
    let x = alike_at _ _ _ c.self.invariant _ _ b c.loop-t.t c.index.result.now c.index-in-loop-t.result.now (omega arith) c.index.ensures c.index-in-loop-t.ensures (sym c.stands_like.ensures ∙ c.if-not-stands_like.false) in
    below_more (λ u. IsAlikeAt (run_of c.args.self.now) (run_of c.args.other.now) u) c.loop-t.t c.loop-t.invariant (rw (← c.self.view_is, ← c.other.view_is) x)

either : (n t : ℕ) → (t < n) ⊎ (n ≤ t)
either n t = grind arith

pub returns : goal.returns
returns c =
    let e : c.self.inside.program.now ≡ c.other.inside.program.now = ap (λ x. x.program) c.self.view_is ∙ c.requires ∙ sym (ap (λ x. x.program) c.other.view_is) in
    let b = subst (λ p. IsSound p c.other.inside.shared c.other.inside.threads.items) (sym e) c.other.invariant in
    λ t. elim (either c.len-t-end.result t) [
      | inl inside ↦ c.loop-t.invariant t (omega arith)
      | inr past ↦ rw (← c.self.view_is, ← c.other.view_is) (alike_past _ _ _ c.self.invariant _ _ b t (omega arith))
    ]
