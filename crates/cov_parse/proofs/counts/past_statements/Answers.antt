use Rattle.std.proofs.Common.{◌∙◌, sym, ap, map, flat_map}
use Rattle.cov_text.specs.declared.fault.Counted.TheVariants.{Statements}
use Rattle.cov_text.specs.Limits.{places_of, past_statements}
use Rattle.cov_parse.specs.Inside.Measures.{counted}
use Rattle.cov_read.specs.DeclViews as views
use Rattle.cov_parse.proofs.LimitLaws.{excess_of, past_counted}
use Rattle.cov_parse.proofs.counts.past_statements.Goals as goal

pub returns-in-Left : goal.returns-in-Left
unfolding past_statements
returns-in-Left c =
    ap (excess_of Statements) (sym c.in-Left.is ∙ c.count_threads.ensures ∙ ap (λ hs. counted 20000 (flat_map (λ h. places_of h.body) (map views.thread hs))) c.as_slice.ensures) ∙ sym (past_counted 20000 Statements (flat_map (λ h. places_of h.body) (map views.thread c.args.program.now.threads)))

pub returns-in-Past : goal.returns-in-Past
unfolding past_statements
returns-in-Past c =
    ap (excess_of Statements) (sym c.in-Past.is ∙ c.count_threads.ensures ∙ ap (λ hs. counted 20000 (flat_map (λ h. places_of h.body) (map views.thread hs))) c.as_slice.ensures) ∙ sym (past_counted 20000 Statements (flat_map (λ h. places_of h.body) (map views.thread c.args.program.now.threads)))
