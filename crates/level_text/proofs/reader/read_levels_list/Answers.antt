use Rattle.std.proofs.Common.{◌∙◌, ◌∷◌, [], sym, map, arith}
use Rattle.std.proofs.lemmas.Result.{err_from_is_err_and}
use Rattle.cov_expr.specs.declared.kind.Kind.TheVariants as k
use Rattle.cov_grammar.specs.Reading.{reading}
use Rattle.cov_grammar.proofs.Repeats.{item_goes, item_ends, item_breaks}
use Rattle.cov_grammar.proofs.Stops.{stop_onward}
use Rattle.level_text.specs.TextGrammar as spec
use Rattle.level_text.specs.TextViews as views
use Rattle.level_text.proofs.TextItems.{level_item}
use Rattle.level_text.proofs.reader.read_levels_list.Goals as goal

pub returns-in_err-next-clause-reads : goal.returns-in_err-next-clause-reads
returns-in_err-next-clause-reads c =
    let p = err_from_is_err_and c.from_residual-in_err-next.result c.from_residual-in_err-next.ensures.1 in
    rw (p.1, p.2)
    (stop_onward views.level (map views.level) _ c.read_level-in-items.new.reader (reading spec.level c.items.reader) _
    (λ e. sym c.items.invariant.same ∙ item_breaks views.level spec.level (k.Level ∷ []) level_item c.items.list c.items.reader c.read_level-in-items.new.reader (sym c.at.ensures ∙ c.items-test.true) e)
    c.in_err-next.ensures.reads)

pub items-preserved : goal.items-preserved
items-preserved c = record {
  same =
      item_goes views.level spec.level (k.Level ∷ []) level_item c.items.list c.push-in-items.new.self c.in_ok-next.next c.items.reader c.read_level-in-items.new.reader (sym c.at.ensures ∙ c.items-test.true) c.in_ok-next.ensures.reads c.in_ok-push-2.ensures.ok
      ∙ c.items.invariant.same;
  shorter = omega (arith, c.in_ok-next.ensures.shorter, c.items.invariant.shorter);
}

pub returns-clause-reads : goal.returns-clause-reads
returns-clause-reads c =
    sym c.items.invariant.same ∙ item_ends views.level spec.level (k.Level ∷ []) level_item c.items.list c.items.reader (sym c.at.ensures ∙ c.items-test.false)
