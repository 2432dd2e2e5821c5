-- Chains: facts of order that follow from others by transitivity.
use Rattle.std.specs.Prelude.{ℕ, zero, suc, ◌+◌, List, [], ◌∷◌, Bool, true, false, ◌&&◌, ◌||◌, Option, Some, None, if◌then◌else◌}
use Rattle.cov_expr.specs.declared.expr.Op.{Op}
use Rattle.cov_expr.specs.declared.expr.Op.TheVariants.{Lt, Le, Both}
use Rattle.cov_expr.specs.declared.expr.TheConstants.{HOLE}
use Rattle.cov_expr.specs.Term.{Term, var, bin}
use Rattle.cov_expr.specs.Trees.{same}
use Rattle.cov_ast.specs.Syntax.{Cert}
use Rattle.cov_ast.specs.Syntax as by
use Rattle.entail_search.specs.declared.chains.TheConstants.{MOST_LINKS}
use Rattle.entail_search.specs.Facts.{Fact, by_premise, order_of, with_any}
use Rattle.entail_search.specs.Readings.{gathered_each}

-- Certificates -------------------------------------------------------------------------------------------------

abbrev pub is_auto : Cert → Bool
is_auto by.auto = true
is_auto _ = false

-- `and c d`, or `auto` where it does
abbrev pub paired : Cert → Cert → Cert
paired c d = if is_auto c && is_auto d then by.auto else by.and c d

-- `a < c` where hypotheses, m in number, have `a < b` and `b < c`
abbrev pub strictly : (m : ℕ) → (a b c : Term) → Cert
strictly m a b c =
    by.have (bin Both (bin Lt a b) (bin Lt b c)) by.auto (by.instance 8 (a ∷ b ∷ c ∷ []) (by_premise (m + 1) (m + 2)))

-- `a < c`, where one of `a`, `b` and `b`, `c` is compared by `<=` in hypothesis i, the other by `<`, and hypothesis m, the last, is
-- `!(d <= e) || d < e || d == e` for the former two. The certificate is for where they are equal.
abbrev pub by_less_or_equal : (i m : ℕ) → (a b c : Term) → Cert → Cert
by_less_or_equal i m a b c equal = by.cases m (by.cases (m + 1) (by.absurdity i (m + 2)) (strictly (m + 2) a b c)) equal

-- `a` and `c` compared, where hypothesis n + 1, the last, has `a` compared with `b` and `b` with `c`, each strictly or not
abbrev pub joining : (n : ℕ) → (first second : Bool) → (a b c : Term) → Cert
joining n false false a b c = by.instance 12 (a ∷ b ∷ c ∷ []) (by_premise (n + 1) (n + 2))
joining n true true a b c = by.instance 8 (a ∷ b ∷ c ∷ []) (by_premise (n + 1) (n + 2))
joining n false true a b c =
    by.unpack (n + 1) (by.instance 10 (a ∷ b ∷ []) (by_less_or_equal (n + 2) (n + 4) a b c (by.fwd (n + 5) (bin Lt (var HOLE) c) by.auto)))
joining n true false a b c =
    by.unpack (n + 1) (by.instance 10 (b ∷ c ∷ []) (by_less_or_equal (n + 3) (n + 4) a b c (by.rev (n + 5) (bin Lt a (var HOLE)) by.auto)))

-- Links --------------------------------------------------------------------------------------------------------

abbrev pub comparison : (strict : Bool) → Op
comparison true = Lt
comparison false = Le

-- `a` compared with `c`, where facts compare `a` with `b` and `b` with `c`, with so many hypotheses
abbrev pub linked : ℕ → Fact → Fact → Bool × Term × Term → Bool × Term × Term → Fact
linked n f g p q = record {
  says = bin (comparison (p.0 || q.0)) p.1 q.2;
  shown = by.have (bin Both f.says g.says) (paired f.shown g.shown) (joining n p.0 q.0 p.1 p.2 q.2);
}

abbrev pub linked_where : ℕ → Fact → Fact → Option (Bool × Term × Term) → Option (Bool × Term × Term) → Option Fact
linked_where n f g None o = None
linked_where n f g (Some p) None = None
linked_where n f g (Some p) (Some q) = if same p.2 q.1 then Some (linked n f g p q) else None

-- two facts as one, where the second begins with what the first ends with
abbrev pub chained : ℕ → Fact → Fact → Option Fact
chained n f g = linked_where n f g (order_of f.says) (order_of g.says)

-- Facts and a fact continued by each of the others.
abbrev pub continued : ℕ → Fact → List Fact → List Fact → List Fact
continued n f [] facts = facts
continued n f (g ∷ gs) facts = continued n f gs (with_any facts (chained n f g))

-- Facts and each of these continued by each of the links.
abbrev pub continued_each : ℕ → (links : List Fact) → List Fact → List Fact → List Fact
continued_each n links [] facts = facts
continued_each n links (f ∷ fs) facts = continued_each n links fs (continued n f links facts)

-- The facts of hypotheses, and those that chains of them give: of so many links more than one, at most.
abbrev pub chains : ℕ → List Term → (links : List Fact) → ℕ → List Fact
chains n hyps links zero = gathered_each n [] hyps
chains n hyps links (suc k) = continued_each n links (chains n hyps links k) (gathered_each n [] hyps)

abbrev pub facts_of : ℕ → List Term → List Fact
facts_of n hyps = chains n hyps (gathered_each n [] hyps) MOST_LINKS
