-- Repeated declarations.
use Rattle.std.proofs.Common.{[], ◌∷◌, refl}
use Rattle.cov_expr.specs.declared.kind.Kind.TheVariants as k
use Rattle.cov_grammar.specs.LookAhead.{kind_is}
use Rattle.cov_grammar.specs.Grammar.{◌▸◌, name, class, var_decl, names, lock_decl, modes_behind, two_modes, thread_decl}
use Rattle.cov_grammar.proofs.Repeats.{Item}

pub var_item : Item var_decl (k.Var ∷ [])
unfolding kind_is class var_decl
var_item = record { fine = refl; full = refl; first = refl }

pub lock_item : Item lock_decl (k.Lock ∷ [])
unfolding kind_is names lock_decl
lock_item = record { fine = refl; full = refl; first = refl }

pub thread_item : Item thread_decl (k.Thread ∷ [])
unfolding kind_is names modes_behind two_modes thread_decl
thread_item = record { fine = refl; full = refl; first = refl }

pub comma_name : Item (k.Comma ▸ name) (k.Comma ∷ [])
unfolding kind_is
comma_name = record { fine = refl; full = refl; first = refl }
