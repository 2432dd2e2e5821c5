-- Texts of levels without where their parts lie.
use Rattle.std.specs.Prelude.{map, option_map}
use Rattle.cov_expr.specs.Term.{Term}
use Rattle.cov_grammar.specs.PlacedTrees.{Placed, Named}
use Rattle.cov_read.specs.CertViews.{whole}
use Rattle.level_text.specs.declared.text.NamedAt.{NamedAt}
use Rattle.level_text.specs.declared.text.LevelDecl.{LevelDecl}
use Rattle.level_text.specs.declared.text.Choice.{Choice}
use Rattle.level_text.specs.declared.text.ListedVar.{ListedVar}
use Rattle.level_text.specs.declared.text.PlacedLevels.{PlacedLevels}
use Rattle.level_text.specs.TextTrees.{Level, Listing, LevelText}

abbrev pub named : NamedAt → Named
named n = (n.name, n.at)

abbrev pub level : LevelDecl → Level
level v = record { name = named v.name; lower = map named v.lower }

abbrev pub choice : Choice → Placed Term × Named
choice c = (whole c.condition, named c.other)

abbrev pub listing : ListedVar → Listing
listing c = record { var = named c.var; level = named c.level; choice = option_map choice c.choice }

abbrev pub level_text : PlacedLevels → LevelText
level_text t = record { levels = map level t.levels; listings = map listing t.listings }
