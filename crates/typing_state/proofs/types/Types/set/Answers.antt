use Rattle.std.proofs.Common.{◌∙◌, ap, subst, sym, map, set, option_map, get_or, length, None, rules, arith}
use Rattle.std.proofs.lemmas.Grind.{common_steps}
use Rattle.std.proofs.lemmas.List.{length-set}
use Rattle.cov_ast.specs.Tables.{has}
use Rattle.typing_state.specs.Groups.{AreGrouped}
use Rattle.point_law.specs.Terms.{is_closed_type}
use Rattle.typing_state.proofs.GroupLaws.{grouped_set}
use Rattle.typing_state.proofs.NextLaws.{marked_set}
use Rattle.cov_expr.specs.View.{term}
use Rattle.typing_state.proofs.SharedLaws.{types_set}
use Rattle.typing_state.proofs.types.Types.set.Goals as goal

pub returns-then-index-len : goal.returns-then-index-len
returns-then-index-len c =
    ap (λ ks. map (option_map term) (map (option_map (λ q. q.value)) ks)) c.set.ensures ∙ types_set (λ q. q.value) c.self.inside.known c.args.x c.args.q
    ∙ ap (λ qs. set (map (option_map term) qs) c.args.x (option_map (λ q. term q.value) c.args.q)) c.self.view_is

pub invariant_of-self : goal.invariant_of-self
invariant_of-self c =
    let known = c.self.inside.known in
    let x = c.args.x in
    let put = c.put.ensures in
    let types = ap (λ ks. map (option_map term) (map (option_map (λ q. q.value)) ks)) c.set.ensures ∙ types_set (λ q. q.value) known x c.args.q in
    let marked =
    marked_set c.self.inside.varying c.self.invariant.1 (map (option_map term) (map (option_map (λ q. q.value)) known)) c.self.invariant.2 c.is_varying-varies.result
    (option_map (λ q. term q.value) c.args.q) c.is_varying-varies.ensures x in (
      first_of (search rules, grind (arith, common_steps)),
      ap length put ∙ length-set c.self.inside.varying x c.is_varying-varies.result ∙ c.self.invariant.1,
      λ k lt away. ap (λ qs. is_closed_type (get_or qs k None)) types ∙ marked k lt (ap (λ m. has m k) (sym put) ∙ away),
      subst (AreGrouped c.mark.new.self) (sym types)
          (grouped_set c.self.inside.groups c.mark.new.self (map (option_map term) (map (option_map (λ q. q.value)) known)) c.self.invariant.3 c.mark.ensures.kept x
          (option_map (λ q. term q.value) c.args.q) c.mark.ensures.free),
    )
