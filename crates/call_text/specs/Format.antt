-- `fmt` and `migrate`: what is replied to what a text spells.
use Rattle.std.specs.Prelude.{◌≡◌, ℕ, List}
use Rattle.call_inputs.specs.Plans.{Plan, does}
use Rattle.call_inputs.specs.Steps as step
use Rattle.call_reports.specs.Replies.{Reply, spelled}
use Rattle.cov_ast.specs.Syntax.{Parsed}
use Rattle.cov_print.specs.ReadBack.{in_second}
use Rattle.cov_print.specs.Spelling.{spelling}

-- The reply that formats a program is its canonical spelling.
abbrev pub Formats : Parsed → Reply → Type 0
Formats p reply = reply ≡ spelled (spelling p)

-- The reply that migrates a program is its canonical spelling with version 2 in place of its own.
abbrev pub Migrates : Parsed → Reply → Type 0
Migrates p reply = reply ≡ spelled (spelling (in_second p))

-- what `fmt` does
abbrev pub fmt_plan : (name : List ℕ) → Plan
fmt_plan name = does (step.program name) Formats

-- what `migrate` does
abbrev pub migrate_plan : (name : List ℕ) → Plan
migrate_plan name = does (step.program name) Migrates
