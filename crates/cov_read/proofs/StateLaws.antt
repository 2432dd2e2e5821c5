-- Items behind commas.
use Rattle.std.proofs.Common.{[], ◌∷◌, refl}
use Rattle.cov_expr.specs.declared.kind.Kind.TheVariants as k
use Rattle.cov_grammar.specs.LookAhead.{kind_is}
use Rattle.cov_grammar.specs.Grammar.{◌▸◌, type_of_name, proof}
use Rattle.cov_grammar.proofs.Repeats.{Item}

pub comma_type : Item (k.Comma ▸ type_of_name) (k.Comma ∷ [])
unfolding kind_is
comma_type = record { fine = refl; full = refl; first = refl }

pub comma_proof : Item (k.Comma ▸ proof) (k.Comma ∷ [])
unfolding kind_is proof
comma_proof = record { fine = refl; full = refl; first = refl }
