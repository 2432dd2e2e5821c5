-- Uses of names that a walk over a text comes by: those that are made so far, and those that the text has still.
use Rattle.std.specs.Prelude.{◌≡◌, ℕ, List, [], ◌∷◌, ◌++◌, length, map, take, drop}
use Rattle.cov_ast.specs.Ready.{Use}
use Rattle.cov_ast.specs.declared.parsed.NameUse.{NameUse}
use Rattle.cov_ast.specs.Syntax.{Cert}
use Rattle.cov_ast.specs.View.{Placed}
use Rattle.annotate.specs.AnnotatedText.{becomes, parts_in_stm, parts_of_proofs, stays, UsesPart}
use Rattle.annotate.specs.declared.uses.Uses.{Uses}
use Rattle.annotate.specs.declared.uses.Way.{Way}
use Rattle.annotate.specs.declared.uses.Way.TheVariants as ways

-- those that are made, and what is left of those of the text
pub record Halfway : Type 0 where
  pub made : List NameUse
  pub rest : List NameUse

abbrev pub halfway : Uses → Halfway
halfway u = record { made = u.made; rest = u.rest.now }

-- so many stay
abbrev pub kept : ℕ → Halfway → Halfway
kept n h = record { made = h.made ++ take n h.rest; rest = drop n h.rest }

-- so many go
abbrev pub passed : ℕ → Halfway → Halfway
passed n h = record { made = h.made; rest = drop n h.rest }

-- these are new
abbrev pub added : List NameUse → Halfway → Halfway
added us h = record { made = h.made ++ us; rest = h.rest }

abbrev pub placed : (place : ℕ) → List Use → List NameUse
placed place us = map (λ u. record { name = u.name; lock = u.lock; at = place }) us

-- behind the uses of a part, of which this becomes
unfoldable pub gone : Way → List Use → Halfway → Halfway
gone ways.Keep us h = kept (length us) h
gone ways.Pass us h = passed (length us) h
gone (ways.Add place) us h = added (placed place us) h

-- behind parts
abbrev pub part_gone : UsesPart → Halfway → Halfway
part_gone (stays us) h = gone ways.Keep us h
part_gone (becomes before after) h = added after (gone ways.Pass before h)

unfoldable pub parts_gone : List UsesPart → Halfway → Halfway
parts_gone [] h = h
parts_gone (p ∷ ps) h = parts_gone ps (part_gone p h)

-- the parts of a statement with its proofs
abbrev pub parts_in_stmt : (chosen : (place : ℕ) → List (ℕ × Cert)) → Placed → List UsesPart
parts_in_stmt chosen s = parts_in_stm chosen s.stm ++ parts_of_proofs s.at (chosen s.at) s.proofs

-- A walk has come by the uses of a part, of which this becomes; and by parts.
abbrev pub Goes : Way → List Use → (before after : Uses) → Type 0
Goes way us before after = halfway after ≡ gone way us (halfway before)

abbrev pub Makes : List UsesPart → (before after : Uses) → Type 0
Makes parts before after = halfway after ≡ parts_gone parts (halfway before)
