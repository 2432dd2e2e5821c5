use Rattle.std.proofs.Common.{◌≡◌, ◌+◌, ◌++◌, drop, map}
use Rattle.cov_ast.specs.View as view
use Rattle.cov_ast.specs.WellFormed.{IsWellFormed}
use Rattle.thread_swap.specs.Judges.{Passes}
use Rattle.thread_swap.specs.Replacements.{AreAlike}
use Rattle.thread_swap.specs.SwapLines.{all_checked, lines_behind, swap_lines}
use Rattle.thread_swap.specs.Swaps.{Fits}
use Rattle.thread_swap.proofs.lines.swap_lines.Given as goal

-- the lines so far, with those behind them, are those of all replacements
abbrev pub invariant-loop-i : goal.invariant-loop-i
invariant-loop-i g l =
    let judging = g.J.Judge.judging in
    let p = view.program l.swapper.program in
    record {
      left : l.rest ≡ drop l.i l.fn.replacements;
      formed : IsWellFormed p;
      alike : AreAlike (view.program l.fn.p) p;
      fits : Fits l.swapper (judging l.judge);
      passes : Passes (judging l.fn.judge) (judging l.judge);
      lines : l.lines ++ lines_behind (judging l.fn.judge) p l.swapper.answers (judging l.judge).judged (map view.thread l.rest)
          ≡ swap_lines (judging l.fn.judge) (view.program l.fn.p) (map view.thread l.fn.replacements);
      count : (judging l.judge).judged ≡ (judging l.fn.judge).judged + all_checked l.lines;
    }
