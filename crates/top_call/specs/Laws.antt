-- Laws of what is replied.
use Rattle.std.specs.Prelude.{◌≡◌, ℕ, List}
use Rattle.call_reports.specs.Replies.{Reply}
use Rattle.cov_io.specs.Shelves.{File}
use Rattle.thread_swap.specs.Judges.{Judging}
use Rattle.top_call.specs.Outcome.{Outcome}

-- Over the same files, by the same judge, words have one reply at most.
abbrev pub IsOneReply : Type 0
IsOneReply =
    (j : Judging) (files : List File) (words : List (List ℕ)) (reply other : Reply) → Outcome j files words reply → Outcome j files words other → reply ≡ other
