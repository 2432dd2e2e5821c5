-- What is promised of a certificate that is found.
use Rattle.std.specs.Prelude.{List, Option, Some, None, Result, Ok, Err, IsTrue}
use Rattle.cov_expr.specs.declared.list.NoMemory.{NoMemory}
use Rattle.cov_expr.specs.Term.{Term}
use Rattle.cov_expr.specs.Entailment.{Entails}
use Rattle.cov_ast.specs.Syntax as by
use Rattle.cov_ast.specs.declared.cert.Cert.{Cert}
use Rattle.cov_ast.specs.View as view
use Rattle.entail_cert.specs.Valid.{is_valid}
use Rattle.entail_search.specs.Within.{is_cert_within}

-- It is valid, it and its expressions are within the limits of those of a text, and these mention no other variables than the hypotheses and the goal.
pub record IsSound (hyps : List Term) (goal : Term) (c : by.Cert) : Type 0 where
  pub valid : IsTrue (is_valid hyps goal c)
  pub within : IsTrue (is_cert_within hyps goal c)

-- So is one that is found. That none is found says nothing, nor does want of memory.
abbrev pub FindsSound : List Term → Term → Result (Option Cert) NoMemory → Type 0
FindsSound hyps goal (Ok (Some c)) = IsSound hyps goal (view.cert c)
FindsSound hyps goal (Ok None) = Unit {0}
FindsSound hyps goal (Err _) = Unit {0}

-- Where one is found, the hypotheses entail the goal.
abbrev pub FindsTrue : List Term → Term → Result (Option Cert) NoMemory → Type 0
FindsTrue hyps goal (Ok (Some c)) = Entails hyps goal
FindsTrue hyps goal (Ok None) = Unit {0}
FindsTrue hyps goal (Err _) = Unit {0}
