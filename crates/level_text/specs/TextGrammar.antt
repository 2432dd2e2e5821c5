-- The grammar of texts of levels. It has the expressions of the grammar of programs, and is read and understood as that is.
use Rattle.std.specs.Prelude.{List, ◌∷◌}
use Rattle.cov_expr.specs.declared.kind.Kind.TheVariants as k
use Rattle.cov_grammar.specs.Shapes.{Shape, seq, opt, many, act}
use Rattle.cov_grammar.specs.Grammar.{◌▸◌, ◌◂◌, separated, listed, named, whole}
use Rattle.level_text.specs.TextTrees.{Level, Listing, LevelText}

-- level := "level" NAME [ ":" names ] ";"
unfoldable pub level : Shape Level
level = act (λ x. record { name = x.0; lower = x.1 }) (k.Level ▸ seq named (listed (k.Colon ▸ separated k.Comma named)) ◂ k.Semicolon)

-- class := "var" NAME ":" NAME [ "when" expr "else" NAME ] ";"
unfoldable pub listing : Shape Listing
listing =
    act (λ x. record { var = x.0; level = x.1.0; choice = x.1.1 })
    (k.Var ▸ seq named (k.Colon ▸ seq named (opt (k.When ▸ seq whole (k.Else ▸ named)))) ◂ k.Semicolon)

-- level level*
unfoldable pub levels : Shape (List Level)
levels = act (λ x. x.0 ∷ x.1) (seq level (many level))

-- text := level level* class*
unfoldable pub level_text : Shape LevelText
level_text = act (λ x. record { levels = x.0; listings = x.1 }) (seq levels (many listing))
