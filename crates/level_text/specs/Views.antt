-- The plain data that levels of the code stand for.
use Rattle.std.specs.Prelude.{ℕ, map}
use Rattle.cov_expr.specs.View.{term}
use Rattle.level_text.specs.declared.lattice.LevelClass as code
use Rattle.level_text.specs.declared.lattice.LevelClass.TheVariants as classes
use Rattle.level_text.specs.declared.lattice.Levels as given
use Rattle.level_text.specs.Lattice.{LevelClass, at_level, either_level, Levels}

abbrev pub class : code.LevelClass → LevelClass
class (classes.At b) = at_level b
class (classes.When e b c) = either_level (term e) b c

-- a variable with its class
abbrev pub listed : ℕ × code.LevelClass → ℕ × LevelClass
listed c = (c.0, class c.1)

abbrev pub levels : given.Levels → Levels
levels l = record { names = l.names; below = l.below; classes = map listed l.classes }
