-- What is told of the predicates that were lost on the way to the point of which an entailment asks: those of which one alone would help, where there are
-- such; else none, where a memory breaks the entailment even with all of them; and else all. Then why nothing is known of variables of the goal that no
-- hypothesis mentions.
use Rattle.std.specs.Prelude.{ℕ, List, [], ◌∷◌, ◌++◌, map, Bool, true, not, ◌&&◌, if◌then◌else◌}
use Rattle.cov_expr.specs.Term.{Term, const}
use Rattle.cov_ast.specs.Plain.{Plain, plain}
use Rattle.cov_ast.specs.Syntax.{Program}
use Rattle.cov_print.specs.Spelling.{Names}
use Rattle.entail_losses.specs.Forgotten.{ForgottenPart, forgotten_parts}
use Rattle.entail_losses.specs.ForgottenLines.{forgotten_line, forgotten_lines}
use Rattle.entail_losses.specs.Joined.{with_joined}
use Rattle.entail_losses.specs.LeftOut.{LeftOut, left_out}
use Rattle.entail_losses.specs.LeftOutLines.{left_out_line, left_out_lines}
use Rattle.entail_losses.specs.UnknownLines.{unknown_lines}
use Rattle.entail_text.specs.Findings.{is_hopeless, would_help}
use Rattle.statement_paths.specs.Paths.{Step}
use Rattle.statement_paths.specs.VariableSets.{stable_after_steps}
use Rattle.text_parts.specs.VariableNames.{variable_names}

-- the predicates that were left out, and the parts that stores forgot
abbrev pub lost_terms : List LeftOut → List ForgottenPart → List Term
lost_terms os fs = map (λ o. o.term) os ++ map (λ f. f.part) fs

-- a text, and another one where the first is empty
abbrev pub or_else : (text other : List ℕ) → List ℕ
or_else [] other = other
or_else (b ∷ bs) other = b ∷ bs

-- a line for each
abbrev pub all_lines : Plain → Names → (bytes : List ℕ) → List LeftOut → List ForgottenPart → List ℕ
all_lines p names bytes os fs = left_out_lines p names bytes os ++ forgotten_lines p names bytes fs

-- these lines, where it isn't hopeless with some predicates more; none where there are no such predicates
abbrev pub unless_hopeless : (hyps : List Term) → (goal : Term) → (more : List Term) → (lines : List ℕ) → List ℕ
unless_hopeless hyps goal [] lines = []
unless_hopeless hyps goal (e ∷ es) lines = if is_hopeless hyps goal (e ∷ es) then [] else lines

-- Whether a predicate alone would help, of an entailment with these hypotheses, of which these are known, and this goal. One that is contrary to
-- what is known doesn't, as it can't be known too.
abbrev pub helps : (known hyps : List Term) → (goal : Term) → Term → Bool
helps known hyps goal e = would_help hyps goal e && not (would_help known (const 0) e)

module _ (p : Plain) (names : Names) (bytes : List ℕ) (known hyps : List Term) (goal : Term) where
  -- a line where it alone would help
  abbrev pub helping_left_out_line : LeftOut → List ℕ
  helping_left_out_line o = if helps known hyps goal o.term then left_out_line p names bytes true o else []

  abbrev pub helping_left_out : List LeftOut → List ℕ
  helping_left_out [] = []
  helping_left_out (o ∷ os) = helping_left_out_line o ++ helping_left_out os

  abbrev pub helping_forgotten_line : ForgottenPart → List ℕ
  helping_forgotten_line f = if helps known hyps goal f.part then forgotten_line p names bytes true f else []

  abbrev pub helping_forgotten : List ForgottenPart → List ℕ
  helping_forgotten [] = []
  helping_forgotten (f ∷ fs) = helping_forgotten_line f ++ helping_forgotten fs

  -- the lines of those of which one alone would help
  abbrev pub helping : List LeftOut → List ForgottenPart → List ℕ
  helping os fs = helping_left_out os ++ helping_forgotten fs

  abbrev pub lost_lines : List LeftOut → List ForgottenPart → List ℕ
  lost_lines os fs = or_else (helping os fs) (unless_hopeless hyps goal (lost_terms os fs) (all_lines p names bytes os fs))

  -- what states left out, where these variables are stable at the point: of what steps give, and of what both blocks of a branch do
  abbrev pub all_left_out : (stable : List Bool) → List Step → List LeftOut
  all_left_out stable steps = with_joined hyps p (left_out p hyps stable steps) stable steps

  abbrev pub lines_along : (stable : List Bool) → List Step → List ℕ
  lines_along stable steps = lost_lines (all_left_out stable steps) (forgotten_parts hyps (all_left_out stable steps) p stable steps)

-- of an entailment that is asked behind steps of a thread
abbrev pub losses : Program → (t : ℕ) → (bytes : List ℕ) → List Step → (known hyps : List Term) → (goal : Term) → List ℕ
losses p t bytes steps known hyps goal =
    lines_along (plain p) (variable_names p.vars) bytes known hyps goal (stable_after_steps (plain p) t steps) steps
    ++ unknown_lines (plain p) t (variable_names p.vars) bytes (stable_after_steps (plain p) t steps) steps hyps goal
