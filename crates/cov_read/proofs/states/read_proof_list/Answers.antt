use Rattle.std.proofs.Common.{◌∙◌, ◌∷◌, [], arith}
use Rattle.cov_expr.specs.declared.kind.Kind.TheVariants as k
use Rattle.cov_grammar.specs.Grammar.{◌▸◌, proof}
use Rattle.cov_read.specs.StateViews as views
use Rattle.cov_grammar.proofs.Repeats.{item_goes, behind_sign}
use Rattle.cov_read.proofs.StateLaws.{comma_proof}
use Rattle.cov_read.proofs.states.read_proof_list.Goals as goal

pub items-preserved : goal.items-preserved
items-preserved c = record {
  same =
      item_goes views.proof (k.Comma ▸ proof) (k.Comma ∷ []) comma_proof c.items.list c.push-in-Some.new.self c.in_ok-next.next c.items.reader c.read_proof-in-Some.new.reader c.in-Some.ensures.found
      (behind_sign k.Comma proof (views.proof c.in_ok-next.next) c.in-Some.field-0 c.items.reader c.take.new.self c.read_proof-in-Some.new.reader c.in-Some.ensures.left c.in_ok-next.ensures.reads)
      c.in_ok-push-2.ensures.ok
      ∙ c.items.invariant.same;
  shorter = omega (arith, c.in-Some.ensures.shorter, c.in_ok-next.ensures.shorter, c.items.invariant.shorter);
}
