use Rattle.std.proofs.Common.{◌≡◌, ◌++◌, drop}
use Rattle.cov_print.specs.Spelling.{more}
use Rattle.entail_text.specs.BrokenLines.{binding_text, memory_text}
use Rattle.entail_text.proofs.broken.add_memory.Given as goal

-- what is written, and what is left, are the whole list
abbrev pub invariant-loop-b : goal.invariant-loop-b
invariant-loop-b l = l.text ++ more (binding_text l.names) (drop l.b-index l.rest) ≡ l.fn.text ++ memory_text l.names l.m
