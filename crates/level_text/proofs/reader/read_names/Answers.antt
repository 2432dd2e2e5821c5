use Rattle.std.proofs.Common.{◌∙◌, ◌∷◌, [], arith}
use Rattle.cov_expr.specs.declared.kind.Kind.TheVariants as k
use Rattle.cov_grammar.specs.Grammar.{◌▸◌, named}
use Rattle.cov_grammar.proofs.Repeats.{item_goes, behind_sign}
use Rattle.level_text.specs.TextViews as views
use Rattle.level_text.proofs.TextItems.{comma_named}
use Rattle.level_text.proofs.reader.read_names.Goals as goal

pub items-preserved : goal.items-preserved
items-preserved c = record {
  same =
      item_goes views.named (k.Comma ▸ named) (k.Comma ∷ []) comma_named c.items.list c.push-in-Some.new.self c.in_ok-next.next c.items.reader c.read_named-in-Some.new.reader c.in-Some.ensures.found
      (behind_sign k.Comma named (views.named c.in_ok-next.next) c.in-Some.field-0 c.items.reader c.take.new.self c.read_named-in-Some.new.reader c.in-Some.ensures.left c.in_ok-next.ensures.reads)
      c.in_ok-push-2.ensures.ok
      ∙ c.items.invariant.same;
  shorter = omega (arith, c.in-Some.ensures.shorter, c.in_ok-next.ensures.shorter, c.items.invariant.shorter);
}
