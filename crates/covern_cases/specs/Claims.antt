-- What a note claims, and the lines that are printed of it.
use Rattle.std.specs.Prelude.{◌≡◌, ◌⊎◌, ℕ, List, [], ◌∷◌, ◌++◌, Option, Some, None, option_map, codes, decimal}
use Rattle.std.specs.List.{flat_map}
use Rattle.cov_expr.specs.Term.{Term}
use Rattle.cov_ast.specs.Syntax.{State, Cert, Proof, Stm, Block, Thread}
use Rattle.cov_ast.specs.Syntax as s
use Rattle.cov_grammar.specs.PlacedTrees.{Program}
use Rattle.cov_grammar.specs.Grammar as grammar
use Rattle.cov_text.specs.Limits as limits
use Rattle.cov_text.specs.Text.{IsText, program_of}
use Rattle.entail_cert.specs.Valid.{first_bad}

-- Claims -------------------------------------------------------------------------------------------------------

-- that a goal follows from hypotheses, and why
pub record Claimed : Type 0 where
  pub hyps : List Term
  pub goal : Term
  pub cert : Cert

-- all items of a list but the last, and the last; the first item is given apart
abbrev pub last_apart : Term → List Term → List Term × Term
last_apart e [] = ([], e)
last_apart e (next ∷ rest) = let apart = last_apart next rest in (e ∷ apart.0, apart.1)

abbrev pub untyped_sides : (preds : List Term) → Option (List Term × Term)
untyped_sides [] = None
untyped_sides (e ∷ preds) = Some (last_apart e preds)

abbrev pub sides_of : (preds : List Term) → (types : List (ℕ × Term)) → Option (List Term × Term)
sides_of preds (t ∷ types) = Some (preds, t.1)
sides_of preds [] = untyped_sides preds

-- The hypotheses and the goal that a note states by its predicates and types: the predicates, and the expression of the
-- first type. Where there is no type, the last predicate is the goal, and the others are the hypotheses.
abbrev pub sides : State → Option (List Term × Term)
sides state = sides_of state.preds state.types

abbrev pub note_claims : State → List Proof → Option Claimed
note_claims state [] = None
note_claims state (p ∷ proofs) = option_map (λ found. record { hyps = found.0; goal = found.1; cert = p.cert }) (sides state)

-- what a statement with these proofs claims of the first
abbrev pub claimed : Stm → List Proof → Option Claimed
claimed (s.note state) proofs = note_claims state proofs
claimed s.skip proofs = None
claimed (s.assign x e q retypes) proofs = None
claimed (s.lock l) proofs = None
claimed (s.unlock l) proofs = None
claimed (s.branch e first second state) proofs = None
claimed (s.loop e state turn) proofs = None
claimed (s.output e) proofs = None

-- Lines --------------------------------------------------------------------------------------------------------

-- numbers, with a blank before each
abbrev pub steps : List ℕ → List ℕ
steps = flat_map (λ n. codes " " ++ decimal n)

abbrev pub path_text : List ℕ → List ℕ
path_text [] = codes " top"
path_text (n ∷ path) = steps (n ∷ path)

-- what is said where no node fails, or where the first that fails is at this path
abbrev pub verdict : Option (List ℕ) → List ℕ
verdict None = codes "valid"
verdict (Some path) = codes "invalid at" ++ path_text path

abbrev pub claim_lines : Option Claimed → List ℕ
claim_lines None = []
claim_lines (Some c) = verdict (first_bad c.hyps c.goal c.cert) ++ 10 ∷ []

abbrev pub block_lines : Block → List ℕ
block_lines s.done = []
block_lines (s.more at stm proofs rest) = claim_lines (claimed stm proofs) ++ block_lines rest

-- the lines of the threads of a program, one for each claim of a statement that stands in no other
abbrev pub thread_lines : List Thread → List ℕ
thread_lines = flat_map (λ t. block_lines t.body)

-- Texts --------------------------------------------------------------------------------------------------------

-- What is added for a text are the lines of the threads of a program that it spells within the limits, or the line that
-- it is malformed.
abbrev pub AddsLines : (text before after : List ℕ) → Type 0
AddsLines text before after =
    ((tree : Program) × IsText grammar.program limits.in_program text tree × (after ≡ before ++ thread_lines (program_of text tree).threads))
    ⊎ (after ≡ before ++ codes "malformed\n")
