-- V3: what its line tells of.
use Rattle.std.specs.Prelude.{◌≡◌, ◌≢◌, ◌⊎◌, ℕ, List, [], ◌∷◌, ◌++◌, Bool, true, false}
use Rattle.std.specs.List.{list_all}
use Rattle.cov_expr.specs.Term.{Term}
use Rattle.cov_expr.specs.Trees.{occurrences}
use Rattle.cov_ast.specs.Plain.{plain}
use Rattle.cov_ast.specs.Syntax.{Program}
use Rattle.mode_state.specs.Sets.{is_stable}
use Rattle.text_parts.specs.VariableNames.{variable_names}
use Rattle.refusal_names.specs.NameLines.{two_reads}
use Rattle.refusal_names.specs.UnstableVariables.{TellsWhyUnstable}

-- of a thread of a program that holds these locks
module _ (p : Program) (bytes : List ℕ) (t : ℕ) (held : List Bool) where
  -- of the second of two reads a text tells why it isn't stable, and nothing where it reads the variable of the first once more
  abbrev pub TellsOfSecond : (x y : ℕ) → (text : List ℕ) → Type 0
  TellsOfSecond x y text = ((x ≡ y) × (text ≡ [])) ⊎ ((x ≢ y) × TellsWhyUnstable p bytes t held y text)

  -- Of an expression a text tells of the first two occurrences of variables that aren't stable, and why these aren't.
  pub record TellsOfReads (e : Term) (text : List ℕ) : Type 0 where
    pub before : List ℕ
    pub x : ℕ
    pub between : List ℕ
    pub y : ℕ
    pub after : List ℕ
    pub is : occurrences e ≡ before ++ x ∷ (between ++ y ∷ after)
    pub first : list_all (is_stable (plain p) t held) before ≡ true
    pub unstable : is_stable (plain p) t held x ≡ false
    pub next : list_all (is_stable (plain p) t held) between ≡ true
    pub second_unstable : is_stable (plain p) t held y ≡ false
    pub cause : List ℕ
    pub why : TellsWhyUnstable p bytes t held x cause
    pub second_cause : List ℕ
    pub why_second : TellsOfSecond x y second_cause
    pub told : text ≡ two_reads (variable_names p.vars) x y ++ (cause ++ second_cause)
