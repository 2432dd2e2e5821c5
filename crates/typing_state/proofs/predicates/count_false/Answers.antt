use Rattle.std.proofs.Common.{◌≡◌, ◌∙◌, true, sym, true≢false}
use Rattle.std.proofs.lemmas.Bool.{and_parts}
use Rattle.cov_expr.specs.Term.{Term, const, var, neg, bin}
use Rattle.cov_expr.specs.Trees.{is_closed}
use Rattle.cov_expr.specs.View.{term}
use Rattle.cov_expr.specs.Words.{HasVarsBelow}
use Rattle.typing_state.proofs.predicates.count_false.Goals as goal

-- what is closed needs no memory
needs_none : (e : Term) → is_closed e ≡ true → HasVarsBelow e 0
needs_none (const k) h = tt
needs_none (var x) h = absurd (true≢false (sym h))
needs_none (neg e) h = needs_none e h
needs_none (bin op a b) h =
    let both = and_parts (is_closed a) (is_closed b) h in
    (needs_none a both.0, needs_none b both.1)

pub eval-requires : goal.eval-requires
eval-requires c = needs_none (term c.args.e.now) (sym c.closed.ensures ∙ c.if-closed.true)
