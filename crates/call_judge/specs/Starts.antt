-- Two starts of a program: why they aren't fit.
use Rattle.std.specs.Prelude.{ℕ, List, Option, Some, None}
use Rattle.call_inputs.specs.Rejections.{Rejection, unfit}
use Rattle.call_judge.specs.Meaning.{meaning}
use Rattle.call_reports.specs.Differences.{bad_name}
use Rattle.cov_ast.specs.Syntax.{Parsed, Program}
use Rattle.flow_model.specs.FirstDifference.{first_bad_start}
use Rattle.flow_model.specs.declared.start.BadStart.{BadStart}
use Rattle.policy_class.specs.Resolved.{resolved}

-- the rejection of two starts of a program of which something says that they aren't fit
abbrev pub unfit_by : Program → Option BadStart → Option Rejection
unfit_by p None = None
unfit_by p (Some found) = Some (unfit (bad_name p found))

-- why two memories aren't fit starts of what a text spells: the first variable, else the first lock, that says so
abbrev pub unfit_starts : Parsed → (left right : List ℕ) → Option Rejection
unfit_starts p left right = unfit_by (resolved p) (first_bad_start (meaning p) left right)
