use Rattle.std.proofs.Common.{◌∙◌, ◌∷◌, [], arith}
use Rattle.cov_expr.specs.declared.kind.Kind.TheVariants as k
use Rattle.cov_grammar.specs.Grammar.{◌▸◌, name}
use Rattle.cov_read.specs.DeclViews as views
use Rattle.cov_grammar.proofs.Repeats.{item_goes, behind_sign}
use Rattle.cov_read.proofs.DeclLaws.{comma_name}
use Rattle.cov_read.proofs.decls.read_name_list.Goals as goal

pub items-preserved : goal.items-preserved
items-preserved c = record {
  same =
      item_goes views.number (k.Comma ▸ name) (k.Comma ∷ []) comma_name c.items.list c.push-in-Some.new.self c.in_ok-next.next c.items.reader c.read_name-in-Some.new.reader c.in-Some.ensures.found
      (behind_sign k.Comma name (views.number c.in_ok-next.next) c.in-Some.field-0 c.items.reader c.take.new.self c.read_name-in-Some.new.reader c.in-Some.ensures.left c.in_ok-next.ensures.reads)
      c.in_ok-push-2.ensures.ok
      ∙ c.items.invariant.same;
  shorter = omega (arith, c.in-Some.ensures.shorter, c.in_ok-next.ensures.shorter, c.items.invariant.shorter);
}
