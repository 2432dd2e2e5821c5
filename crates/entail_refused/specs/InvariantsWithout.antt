-- Which variables of a predicate that is asked a hypothesis mentions, and no invariant of the lock over them.
use Rattle.std.specs.Prelude.{ℕ, List, [], ◌∷◌, ◌++◌, codes, decimal, if◌then◌else◌, Option, Some, None}
use Rattle.cov_expr.specs.Term.{Term}
use Rattle.cov_expr.specs.Trees.{mentions, vars}
use Rattle.cov_ast.specs.Declarations.{name_of}
use Rattle.cov_ast.specs.Plain.{plain}
use Rattle.cov_ast.specs.Syntax.{Lock, Program}
use Rattle.entail_losses.specs.About.{is_mentioned}
use Rattle.entail_origins.specs.LocksOver.{lock_over}
use Rattle.entail_origins.specs.declared.kinds.Question.{Question}
use Rattle.entail_refused.specs.Noted.{is_predicate}
use Rattle.text_parts.specs.Lines.{line}

abbrev pub front_of : Program → (x : ℕ) → List ℕ
front_of p x = codes "  no invariant: " ++ name_of (plain p) x

abbrev pub lock_part : Lock → List ℕ
lock_part k = codes "   (the lock " ++ k.name

abbrev pub place_part : (bytes : List ℕ) → (at : ℕ) → List ℕ
place_part bytes at = codes ", line " ++ (decimal (line bytes at) ++ codes ", has none that mentions it)\n")

module _ (p : Program) (bytes : List ℕ) where
  -- of a variable under a lock
  abbrev pub line_of : Lock → (x : ℕ) → List ℕ
  line_of k x = front_of p x ++ (lock_part k ++ place_part bytes k.at)

  -- where the lock has no invariant that mentions it
  abbrev pub line_by_invariant : Option Term → Lock → (x : ℕ) → List ℕ
  line_by_invariant None k x = line_of k x
  line_by_invariant (Some e) k x = if mentions e x then [] else line_of k x

  abbrev pub line_by_lock : Option Lock → (x : ℕ) → List ℕ
  line_by_lock None x = []
  line_by_lock (Some k) x = line_by_invariant k.inv k x

  module _ (hyps : List Term) where
    -- where a hypothesis mentions it
    abbrev pub line_if_mentioned : (x : ℕ) → List ℕ
    line_if_mentioned x = if is_mentioned hyps x then line_by_lock (lock_over x p.locks) x else []

    abbrev pub lines_of : List ℕ → List ℕ
    lines_of [] = []
    lines_of (x ∷ xs) = line_if_mentioned x ++ lines_of xs

    -- of the variables of a goal, where that is a predicate that is asked
    abbrev pub invariant_lines : Question → (goal : Term) → List ℕ
    invariant_lines question goal = if is_predicate question then lines_of (vars goal) else []
