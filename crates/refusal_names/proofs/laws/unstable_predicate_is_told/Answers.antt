use Rattle.std.proofs.Common.{refl}
use Rattle.refusal_names.proofs.PredicateLaws.{told}
use Rattle.refusal_names.specs.RefusalNames.{line_of}
use Rattle.refusal_names.specs.SpokenParts.{stated_predicates}
use Rattle.refusal_names.specs.StableSets.{held_where_stated}
use Rattle.cov_ast.specs.declared.refusal.Rule.TheVariants.{V12}
use Rattle.refusal_names.proofs.laws.unstable_predicate_is_told.Goals as goal

pub returns : goal.returns
returns c p bytes t held steps proofs detail s below broken =
    told p bytes t (held_where_stated s held) (stated_predicates s) below broken (line_of p bytes t V12 detail steps held s proofs) refl
