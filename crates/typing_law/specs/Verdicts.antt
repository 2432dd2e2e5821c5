-- What a verdict says of a program.
use Rattle.std.specs.Prelude.{sum_by}
use Rattle.cov_ast.specs.Syntax.{Program}
use Rattle.mode_compat.specs.Compatible.{threads_of}
use Rattle.typing_law.specs.Counts as thread
use Rattle.typing_law.specs.declared.count.Count.{Count}

-- how many statements and entailments the threads of a program have
abbrev pub counts : Program → Count
counts p = record {
  statements = sum_by (λ t. (thread.counts p t).statements) (threads_of p);
  entailments = sum_by (λ t. (thread.counts p t).entailments) (threads_of p);
}
