-- What a walk over a certificate has found.
use Rattle.std.specs.Prelude.{◌≡◌, ℕ, List, ◌++◌, map, Option, Some, None, Result, Ok, Err, option_map, IfSome, Bool, true, false}
use Rattle.std.specs.Borrow.{Bor}
use Rattle.cov_expr.specs.declared.expr.Expr.{Expr}
use Rattle.cov_expr.specs.Term.{Term}
use Rattle.cov_expr.specs.View.{term}
use Rattle.cov_expr.specs.Words.{HasWords}
use Rattle.cov_ast.specs.Syntax.{Cert}
use Rattle.cov_ast.specs.Syntax as by
use Rattle.entail_cert.specs.declared.held.Held.{Held}
use Rattle.entail_cert.specs.declared.walk.Walk.{Walk}
use Rattle.entail_cert.specs.declared.walk.Stop.{Stop}
use Rattle.entail_cert.specs.declared.walk.Stop.TheVariants as stop
use Rattle.cov_expr.specs.Trees.{same}
use Rattle.entail_cert.specs.Axioms.{axiom_for}
use Rattle.entail_cert.specs.HeldTerms.{held_term}
use Rattle.entail_cert.specs.Valid.{filled}

-- the given hypotheses, and those that the walk has added
abbrev pub hypotheses : List Expr → Walk → List Term
hypotheses given walk = map term given ++ map held_term walk.added

-- the operands that there are, or a condition that fails
abbrev pub Parts : Option (Term × Term) → Result (Bor Expr × Bor Expr) Stop → Type 0
Parts parts (Ok found) = parts ≡ Some (term found.0.now, term found.1.now)
Parts parts (Err stop.Bad) = parts ≡ None
Parts parts (Err stop.NoMemory) = Unit {0}

-- the operands that there are, as hypotheses, or a condition that fails
abbrev pub Halves : Option (Term × Term) → Result (Held × Held) Stop → Type 0
Halves parts (Ok halves) = parts ≡ Some (held_term halves.0, held_term halves.1)
Halves parts (Err stop.Bad) = parts ≡ None
Halves parts (Err stop.NoMemory) = Unit {0}

-- what a goal becomes where it has a form, or a condition that fails
abbrev pub Replaces : Bool → Term → Result Expr Stop → Type 0
Replaces fits next (Ok made) = (fits ≡ true) × (term made ≡ next)
Replaces fits next (Err stop.Bad) = fits ≡ false
Replaces fits next (Err stop.NoMemory) = Unit {0}

abbrev pub RewritesSides : Bool → Term → Term → (a b : Term) → Result Expr Stop → Type 0
RewritesSides true t goal a b result = Replaces (same (filled t a) goal) (filled t b) result
RewritesSides false t goal a b result = Replaces (same (filled t b) goal) (filled t a) result

abbrev pub Rewrites : Option (Term × Term) → Bool → Term → Term → Result Expr Stop → Type 0
Rewrites None forward t goal result = result ≡ Err stop.Bad
Rewrites (Some sides) forward t goal result = RewritesSides forward t goal sides.0 sides.1 result

-- The walk has looked for the first node that fails below the node at which it stood. Where there is none it stands
-- there again, with the same hypotheses. Where there is one it stands at that node.
abbrev pub Finds : Walk → Walk → Option (List ℕ) → Result (Unit {0}) Stop → Type 0
Finds before after bad (Ok _) = (bad ≡ None) × ((map held_term after.added ≡ map held_term before.added) × (after.path ≡ before.path))
Finds before after bad (Err stop.Bad) = option_map (λ path. before.path ++ path) bad ≡ Some after.path
Finds before after bad (Err stop.NoMemory) = Unit {0}

-- how many children a node has
abbrev pub children : Cert → ℕ
children by.auto = 0
children (by.hyp i) = 0
children by.calc = 0
children (by.clash i) = 0
children (by.and c d) = 2
children (by.left c) = 1
children (by.right c) = 1
children (by.unpack i c) = 1
children (by.cases i c d) = 2
children (by.split e c d) = 2
children (by.have e c d) = 2
children (by.absurdity i j) = 0
children (by.negation c) = 1
children (by.contra c) = 1
children by.reflexive = 0
children (by.fwd i t c) = 1
children (by.rev i t c) = 1
children (by.instance k es c) = 1
children by.ring = 0
children by.range = 0

-- each instance of an axiom in a certificate is made of words
abbrev pub InstancesHaveWords : Cert → Type 0
InstancesHaveWords by.auto = Unit {0}
InstancesHaveWords (by.hyp i) = Unit {0}
InstancesHaveWords by.calc = Unit {0}
InstancesHaveWords (by.clash i) = Unit {0}
InstancesHaveWords (by.and c d) = InstancesHaveWords c × InstancesHaveWords d
InstancesHaveWords (by.left c) = InstancesHaveWords c
InstancesHaveWords (by.right c) = InstancesHaveWords c
InstancesHaveWords (by.unpack i c) = InstancesHaveWords c
InstancesHaveWords (by.cases i c d) = InstancesHaveWords c × InstancesHaveWords d
InstancesHaveWords (by.split e c d) = InstancesHaveWords c × InstancesHaveWords d
InstancesHaveWords (by.have e c d) = InstancesHaveWords c × InstancesHaveWords d
InstancesHaveWords (by.absurdity i j) = Unit {0}
InstancesHaveWords (by.negation c) = InstancesHaveWords c
InstancesHaveWords (by.contra c) = InstancesHaveWords c
InstancesHaveWords by.reflexive = Unit {0}
InstancesHaveWords (by.fwd i t c) = InstancesHaveWords c
InstancesHaveWords (by.rev i t c) = InstancesHaveWords c
InstancesHaveWords (by.instance k es c) = IfSome (axiom_for k es) HasWords × InstancesHaveWords c
InstancesHaveWords by.ring = Unit {0}
InstancesHaveWords by.range = Unit {0}
