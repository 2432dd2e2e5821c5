use Rattle.std.proofs.Common.{sym, subst, ap, ◌∙◌, Some}
use Rattle.std.specs.Str.{bytes_eq}
use Rattle.indexmap.specs.IndexMap.{Updates}
use Rattle.code_text.proofs.LookupLaws.{indexed_new, indexed_old, id_old, id_new, still_indexed, on_err}
use Rattle.code_text.proofs.names.add_id.Goals as goal

pub returns-in-Some-clause-ok : goal.returns-in-Some-clause-ok
returns-in-Some-clause-ok c = λ names named count is. (
  indexed_old c.args.ids.now names c.args.name is named _ c.in-Some.ensures.value,
  sym (id_old names c.args.name _ (sym (is.ids c.args.name) ∙ sym c.in-Some.ensures.value)),
)

pub returns-in_ok-insert-in-None-clause-ok : goal.returns-in_ok-insert-in-None-clause-ok
returns-in_ok-insert-in-None-clause-ok c = λ names named count is. (
  indexed_new c.args.ids.now names c.args.name is named c.insert.new.self c.in-None.ensures.value
      (subst (λ k. Updates bytes_eq c.args.ids.now c.insert.new.self c.args.name (Some k)) (sym count) c.in_ok-insert-in-None.ensures.updates),
  sym (id_new names c.args.name (sym (is.ids c.args.name) ∙ sym c.in-None.ensures.value) ∙ ap Some count),
)

pub returns-in_err-insert-in-None-clause-err : goal.returns-in_err-insert-in-None-clause-err
returns-in_err-insert-in-None-clause-err c =
    on_err c.from_residual.result (λ names is. still_indexed c.args.ids.now c.insert.new.self names c.in_err-insert-in-None.ensures.err is)
