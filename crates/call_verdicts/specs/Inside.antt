-- Words of private contracts: what is given of a text of threads, what is refused for a level, and what is replied to a program that is annotated. To believe
-- what `covern` promises, nothing here need be read.
use Rattle.std.specs.Prelude.{◌≡◌, ℕ, List, [], get_or, Option, Some, None}
use Rattle.call_inputs.specs.Rejections.{Rejection, UnlessRejected, rejected}
use Rattle.call_judge.specs.Check.{name_in, name_rejection}
use Rattle.call_reports.specs.Replies.{Reply, refused_for, refused_open, spelled}
use Rattle.cov_ast.specs.Syntax.{Parsed, Program, Thread}
use Rattle.cov_ast.specs.declared.refusal.Refusal.{Refusal}
use Rattle.level_text.specs.Lattice.{Levels}
use Rattle.levels.specs.Accepted.{first_refused}
use Rattle.annotate.specs.declared.outcome.Open.{Open}
use Rattle.call_verdicts.specs.Annotations.{Annotates, annotation_rejection, declared_rejection, unproved_lines}
use Rattle.call_verdicts.specs.Levels.{AcceptsForAll, LevelsInput, level_rejection}
use Rattle.call_verdicts.specs.Swap.{misfit_rejection}

-- the reply to a text of threads that can't stand in the place of those of a program
abbrev pub IsMisfit : (name : List ℕ) → Program → Parsed → Reply → Type 0
IsMisfit name p e reply = (q : Rejection) × (misfit_rejection name p e ≡ Some q) × (reply ≡ rejected q)

-- the reply to a program that isn't accepted for every level: the first for which it isn't, and its first obligation that doesn't hold
abbrev pub IsRefusedFor : Levels → Program → Reply → Type 0
IsRefusedFor l p reply =
    (r : ℕ × Refusal) × (first_refused l p ≡ Some r) × (reply ≡ refused_for (get_or l.names r.0 []) r.1 (name_in p.threads r.1.thread))

-- the reply to a program and levels
abbrev pub JudgesForAll : LevelsInput → Reply → Type 0
JudgesForAll i reply = UnlessRejected (name_rejection i.program) (UnlessRejected (level_rejection i) (AcceptsForAll i)) reply

-- the reply to a program whose declarations aren't in order
abbrev pub IsUndeclared : Parsed → Reply → Type 0
IsUndeclared p reply = (q : Rejection) × (declared_rejection p ≡ Some q) × (reply ≡ rejected q)

-- the reply by an annotated text, as it is spelled, by what is left unproved of it, and by the first obligation that doesn't hold, if one doesn't
abbrev pub reply_by : List Thread → (text : List ℕ) → (unproved : List Open) → (first : Option Refusal) → Reply
reply_by threads text unproved None = spelled text
reply_by threads text unproved (Some refusal) = refused_open refusal (name_in threads refusal.thread) (unproved_lines threads unproved)

-- the reply to a program that is annotated, of which names, then declarations, are asked first
abbrev pub JudgesAnnotated : (depth : ℕ) → Parsed → Reply → Type 0
JudgesAnnotated depth p reply =
    UnlessRejected (name_rejection p) (UnlessRejected (declared_rejection p) (UnlessRejected (annotation_rejection depth p) (Annotates depth p))) reply
