use Rattle.std.proofs.Common.{◌≡◌, ◌++◌, drop, flat_map}
use Rattle.cov_ast.specs.View as view
use Rattle.explain.specs.OtherTellings.{refusal_text}
use Rattle.explain.proofs.others.add_each.Given as goal

-- what is told so far, and of the rest, is what is told of all
abbrev pub invariant-loop-refusal : goal.invariant-loop-refusal
invariant-loop-refusal l =
    l.text ++ flat_map (refusal_text l.name l.bytes (view.program l.program)) (drop l.refusal-index l.others)
    ≡ l.fn.text ++ flat_map (refusal_text l.name l.bytes (view.program l.program)) l.others
