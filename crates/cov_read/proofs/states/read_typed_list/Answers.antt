use Rattle.std.proofs.Common.{◌∙◌, ◌∷◌, [], arith}
use Rattle.cov_expr.specs.declared.kind.Kind.TheVariants as k
use Rattle.cov_grammar.specs.Grammar.{◌▸◌, type_of_name}
use Rattle.cov_read.specs.StateViews as views
use Rattle.cov_grammar.proofs.Repeats.{item_goes, behind_sign}
use Rattle.cov_read.proofs.StateLaws.{comma_type}
use Rattle.cov_read.proofs.states.read_typed_list.Goals as goal

pub items-preserved : goal.items-preserved
items-preserved c = record {
  same =
      item_goes views.typed (k.Comma ▸ type_of_name) (k.Comma ∷ []) comma_type c.items.list c.push-in-Some.new.self c.in_ok-next.next c.items.reader c.read_typed-in-Some.new.reader c.in-Some.ensures.found
      (behind_sign k.Comma type_of_name (views.typed c.in_ok-next.next) c.in-Some.field-0 c.items.reader c.take.new.self c.read_typed-in-Some.new.reader c.in-Some.ensures.left c.in_ok-next.ensures.reads)
      c.in_ok-push-2.ensures.ok
      ∙ c.items.invariant.same;
  shorter = omega (arith, c.in-Some.ensures.shorter, c.in_ok-next.ensures.shorter, c.items.invariant.shorter);
}
