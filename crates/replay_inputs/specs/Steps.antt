-- The steps of readings for runs: what a file or a word is read as, one by one and together.
use Rattle.std.specs.Prelude.{ℕ, List, codes}
use Rattle.cov_ast.specs.Syntax.{Parsed}
use Rattle.cov_expr.specs.Term.{Term}
use Rattle.cov_expr.specs.declared.limits.TheConstants.{MOST_INPUT_BYTES}
use Rattle.call_inputs.specs.Readings.{Reading, argument, file, gives, then_read}
use Rattle.call_inputs.specs.Steps.{program}
use Rattle.replay_inputs.specs.Expressions.{IsExpression, IsExpressionFault}
use Rattle.replay_inputs.specs.Inputs.{IsScheduleFault, IsScheduleText, IsStart, IsStartFault, PairInput, RunInput}

-- a file that is a start of a program
abbrev pub memory : Parsed → (name : List ℕ) → Reading (List ℕ)
memory p name = file name MOST_INPUT_BYTES (IsStart p) (IsStartFault p) (λ m. gives m)

-- a file that is a schedule of a program
abbrev pub entries : Parsed → (name : List ℕ) → Reading (List ℕ)
entries p name = file name MOST_INPUT_BYTES (IsScheduleText p) (IsScheduleFault p) (λ k. gives k)

-- a word that is an expression over the variables of a program
abbrev pub expression : Parsed → (word : List ℕ) → Reading Term
expression p word = argument (codes "expression") word (IsExpression p) (IsExpressionFault p) (λ e. gives e)

-- a program, a start and a schedule of it
abbrev pub run_input : (name start schedule : List ℕ) → Reading RunInput
run_input name start schedule =
    then_read (program name) (λ p. then_read (memory p start) (λ m. then_read (entries p schedule) (λ k.
    gives (record { program = p; memory = m; schedule = k }))))

-- two starts and a schedule of a program
abbrev pub starts : Parsed → (first second schedule : List ℕ) → Reading PairInput
starts p first second schedule =
    then_read (memory p first) (λ l. then_read (memory p second) (λ r. then_read (entries p schedule) (λ k.
    gives (record { program = p; left = l; right = r; schedule = k }))))

-- a program, two starts and a schedule of it
abbrev pub pair_input : (name first second schedule : List ℕ) → Reading PairInput
pair_input name first second schedule = then_read (program name) (λ p. starts p first second schedule)
