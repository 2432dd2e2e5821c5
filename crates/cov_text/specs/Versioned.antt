-- Which tokens of a text its version has. A text that begins with `version` is one of version 2, and each other of version 1.
--
-- A token that its version doesn't have is foreign, and stands in no rule of the grammar, which is one for both versions. What is
-- spelled, and which token is the first wrong one, is so that of the text's own version: a front without foreign tokens goes on
-- in the grammar exactly where it goes on in its version, since an output can be left out, and 2 can stand behind `version`.
use Rattle.std.specs.Prelude.{◌==◌, ◌&&◌, List, [], ◌∷◌, map, Bool, not, if◌then◌else◌}
use Rattle.cov_expr.specs.declared.kind.Kind.TheVariants as k
use Rattle.cov_grammar.specs.declared.token.Token.{Token}
use Rattle.cov_grammar.specs.LookAhead.{kind_is}

abbrev pub foreign : Token → Token
foreign t = record { kind = k.Foreign; at = t.at; end = t.end; value = t.value }

-- version 1 has no outputs
abbrev pub of_first : Token → Token
of_first t = if kind_is k.Output t.kind then foreign t else t

-- whether it is a number other than 2
abbrev pub is_other_number : Token → Bool
is_other_number t = kind_is k.Number t.kind && not (t.value == 2)

-- behind `version`: there is no version but 2 that a text may name
abbrev pub behind_version : List Token → List Token
behind_version [] = []
behind_version (t ∷ ts) = (if is_other_number t then foreign t else t) ∷ ts

-- the tokens of a text, each as its version has it
abbrev pub versioned : List Token → List Token
versioned [] = []
versioned (t ∷ ts) = if kind_is k.Version t.kind then t ∷ behind_version ts else map of_first (t ∷ ts)
