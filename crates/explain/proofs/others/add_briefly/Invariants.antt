use Rattle.std.proofs.Common.{◌≡◌, ◌++◌, drop, flat_map}
use Rattle.cov_ast.specs.View as view
use Rattle.explain.specs.OtherTellings.{brief_text}
use Rattle.explain.proofs.others.add_briefly.Given as goal

-- what is told so far, and of the rest, is what is told of all
abbrev pub invariant-loop-one : goal.invariant-loop-one
invariant-loop-one l =
    l.text ++ flat_map (brief_text l.name l.bytes (view.program l.program)) (drop l.one-index l.found)
    ≡ l.fn.text ++ flat_map (brief_text l.name l.bytes (view.program l.program)) l.found
