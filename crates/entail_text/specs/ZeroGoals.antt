-- What is told of a goal that is 0.
use Rattle.std.specs.Prelude.{ℕ, ◌==◌, List, [], codes, if◌then◌else◌}
use Rattle.cov_expr.specs.Term.{Term, const, var, neg, bin}

abbrev pub zero_text : List ℕ
zero_text = codes "  a goal of 0 follows only where the hypotheses can't all hold: where they can, no certificate helps, and more has to be known there, of values or of types, or less to be asked\n"

-- nothing of any other goal
abbrev pub zero_line : (goal : Term) → List ℕ
zero_line (const k) = if k == 0 then zero_text else []
zero_line (var x) = []
zero_line (neg e) = []
zero_line (bin op a b) = []
