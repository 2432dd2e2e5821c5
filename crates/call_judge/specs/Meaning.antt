-- What a text means: whether its names are in order, and what the program does that it stands for.
use Rattle.std.specs.Prelude.{IsTrue}
use Rattle.cov_ast.specs.Syntax.{Parsed}
use Rattle.cov_ast.specs.Plain.{Plain, plain}
use Rattle.cov_ast.specs.Obligations.{all_hold}
use Rattle.policy_class.specs.Resolved.{name_obligations, resolved}

-- Each name is declared once, and is used as what it is declared.
abbrev pub AreNamesInOrder : Parsed → Type 0
AreNamesInOrder p = IsTrue (all_hold (name_obligations p))

-- what the program does that a text stands for
abbrev pub meaning : Parsed → Plain
meaning p = plain (resolved p)
