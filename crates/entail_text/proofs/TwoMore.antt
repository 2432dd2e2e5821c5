-- A child with two hypotheses more, one behind the other.
use Rattle.std.proofs.Common.{◌≡◌, ◌∙◌, [], ◌∷◌, ◌++◌, List, Option, Some, None, ap, append_assoc, refl}
use Rattle.cov_expr.specs.Term.{Term}
use Rattle.cov_ast.specs.Syntax.{Cert}
use Rattle.entail_text.specs.Nodes.{Node, node, with}

same_node : (m n : Node) → Some m ≡ Some n → m ≡ n
same_node m n e = cc

pub under_both : (first second : Option Term) (hyps : List Term) (goal : Term) (c : Cert) (child : Node)
    → Some child ≡ with first (λ a. Some (node (hyps ++ a ∷ []) goal c))
    → with second (λ b. Some (node (child.hyps ++ b ∷ []) child.goal c)) ≡ with first (λ a. with second (λ b. Some (node (hyps ++ a ∷ b ∷ []) goal c)))
under_both None second hyps goal c child e = cc
under_both (Some a) None hyps goal c child e = refl
under_both (Some a) (Some b) hyps goal c child e =
    ap (λ n. Some (node (n.hyps ++ b ∷ []) n.goal c)) (same_node child (node (hyps ++ a ∷ []) goal c) e)
    ∙ ap (λ h. Some (node h goal c)) (append_assoc hyps (a ∷ []) (b ∷ []))
