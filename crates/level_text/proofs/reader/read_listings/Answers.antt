use Rattle.std.proofs.Common.{◌∙◌, ◌∷◌, [], sym, map, arith}
use Rattle.std.proofs.lemmas.Result.{err_from_is_err_and}
use Rattle.cov_expr.specs.declared.kind.Kind.TheVariants as k
use Rattle.cov_grammar.specs.Reading.{reading}
use Rattle.cov_grammar.proofs.Repeats.{item_goes, item_ends, item_breaks}
use Rattle.cov_grammar.proofs.Stops.{stop_onward}
use Rattle.level_text.specs.TextGrammar as spec
use Rattle.level_text.specs.TextViews as views
use Rattle.level_text.proofs.TextItems.{listing_item}
use Rattle.level_text.proofs.reader.read_listings.Goals as goal

pub returns-in_err-next-clause-reads : goal.returns-in_err-next-clause-reads
returns-in_err-next-clause-reads c =
    let p = err_from_is_err_and c.from_residual.result c.from_residual.ensures.1 in
    rw (p.1, p.2)
    (stop_onward views.listing (map views.listing) _ c.read_listing.new.reader (reading spec.listing c.items.reader) _
    (λ e. sym c.items.invariant.same ∙ item_breaks views.listing spec.listing (k.Var ∷ []) listing_item c.items.list c.items.reader c.read_listing.new.reader (sym c.at.ensures ∙ c.items-test.true) e)
    c.in_err-next.ensures.reads)

pub items-preserved : goal.items-preserved
items-preserved c = record {
  same =
      item_goes views.listing spec.listing (k.Var ∷ []) listing_item c.items.list c.push.new.self c.in_ok-next.next c.items.reader c.read_listing.new.reader (sym c.at.ensures ∙ c.items-test.true) c.in_ok-next.ensures.reads c.in_ok-push.ensures.ok
      ∙ c.items.invariant.same;
  shorter = omega (arith, c.in_ok-next.ensures.shorter, c.items.invariant.shorter);
}

pub returns-clause-reads : goal.returns-clause-reads
returns-clause-reads c =
    sym c.items.invariant.same ∙ item_ends views.listing spec.listing (k.Var ∷ []) listing_item c.items.list c.items.reader (sym c.at.ensures ∙ c.items-test.false)
