-- Words of private contracts: what could stand behind the tokens of a text, each of which is as its version has it.
use Rattle.std.specs.Prelude.{List, [], ◌∷◌, ◌++◌, Bool, ◌&&◌, not, if◌then◌else◌}
use Rattle.cov_expr.specs.declared.kind.Kind.{Kind}
use Rattle.cov_expr.specs.declared.kind.Kind.TheVariants as k
use Rattle.cov_grammar.specs.declared.token.Token.{Token}
use Rattle.cov_grammar.specs.LookAhead.{kind_is, starts}
use Rattle.cov_grammar.specs.Shapes.{head}
use Rattle.cov_text.specs.Versioned.{foreign}
use Rattle.explain.specs.ExpectedTokens.{is_front, is_whole, token_of}
use Rattle.explain.specs.declared.next.Next.{Next}
use Rattle.explain.specs.declared.next.Next.TheVariants as n

-- whether a text that begins with these tokens names its version
abbrev pub names_version : List Token → Bool
names_version ts = starts (k.Version ∷ []) (head ts)

-- a token of a kind, as the version of a text has it that begins with these tokens
abbrev pub fitted : List Token → Kind → Token
fitted ts j = if kind_is k.Output j && not (names_version ts) then foreign (token_of j) else token_of j

abbrev pub could_follow : List Token → Next → Bool
could_follow ts (n.Token j) = is_front (ts ++ fitted ts j ∷ [])
could_follow ts n.End = is_whole ts
