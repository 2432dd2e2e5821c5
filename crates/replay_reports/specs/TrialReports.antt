-- The texts of reports on trials.
use Rattle.std.specs.Prelude.{ℕ, List, ◌++◌, flat_map, codes, decimal}
use Rattle.cov_ast.specs.Syntax.{Program}
use Rattle.schedule_replay.specs.declared.replays.Found.{Found}
use Rattle.call_reports.specs.Differences.{differ_text}
use Rattle.call_reports.specs.Replies.{differ}
use Rattle.call_reports.specs.Reports.{report_of}
use Rattle.call_reports.specs.Lines.{number_line}
use Rattle.replay_reports.specs.RunReports.{lines_from, pair_line}

-- an entry of a schedule, behind what stands before it
abbrev pub entry_text : ℕ → List ℕ
entry_text t = codes " " ++ decimal t

-- the line of a schedule: its entries in their order, which are numbers of threads
abbrev pub schedule_line : (entries : List ℕ) → List ℕ
schedule_line entries = codes "schedule" ++ flat_map entry_text entries ++ codes "\n"

-- the report on a trial whose two runs don't agree: its number, the first step after which they don't and what they differ in there, the
-- words of each variable at the start, and entries of the schedule
abbrev pub apart_report : Program → (trial : ℕ) → Found → (left right entries : List ℕ) → List ℕ
apart_report p trial found left right entries =
    number_line (codes "trial ") trial ++ report_of (differ found.step (differ_text p found.differ)) ++ lines_from (pair_line left right) 0 p.vars ++ schedule_line entries

-- the report on so many trials of which none has two runs that don't agree, and of which so many were fit
abbrev pub none_report : (trials fit : ℕ) → List ℕ
none_report trials fit = codes "none of " ++ decimal trials ++ codes " trials, " ++ decimal fit ++ codes " fit\n"
