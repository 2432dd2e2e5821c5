-- Which programs are well formed: ids in range, expressions of words, names and places distinct, within the limits, and of
-- their version.
use Rattle.std.specs.Prelude.{◌≡◌, ◌⊎◌, ℕ, ◌+◌, ◌*◌, ◌<◌, ◌≤◌, ◌==◌, ◌&&◌, List, [], ◌∷◌, ◌++◌, length, map, sum_by, Bool, true, not, IsTrue, Option, Some, None, All}
use Rattle.std.specs.List.{list_any}
use Rattle.std.specs.Str.{bytes_eq}
use Rattle.cov_expr.specs.Term.{Term, const, var, neg, bin}
use Rattle.cov_expr.specs.Trees.{nodes}
use Rattle.cov_expr.specs.Words.{HasVarsBelow, HasWords}
use Rattle.cov_expr.specs.declared.expr.TheConstants.{HOLE}
use Rattle.cov_expr.specs.declared.limits.TheConstants.{MOST_BYTES, MOST_VARIABLES, MOST_LOCKS, MOST_THREADS}
use Rattle.cov_ast.specs.Syntax.{Class, low, high, when, Var, Lock, Modes, State, Cert, Proof, Stm, Block, done, more, Thread, Program}
use Rattle.cov_ast.specs.Syntax as s
use Rattle.cov_ast.specs.Plain.{class_term}
use Rattle.cov_ast.specs.Declarations.{invariant_term}

-- Ids in range -------------------------------------------------------------------------------------------------

-- each variable is below a bound or is the hole
abbrev pub IsTemplateBelow : Term → ℕ → Type 0
IsTemplateBelow (const k) n = Unit {0}
IsTemplateBelow (var x) n = (x < n) ⊎ (x ≡ HOLE)
IsTemplateBelow (neg e) n = IsTemplateBelow e n
IsTemplateBelow (bin op a b) n = IsTemplateBelow a n × IsTemplateBelow b n

-- variables are below a first bound, locks below a second
module _ (vars locks : ℕ) where
  abbrev pub AreInRange : List ℕ → Type 0
  AreInRange xs = All (λ x. x < vars) xs

  abbrev pub IsExprInRange : Term → Type 0
  IsExprInRange e = HasVarsBelow e vars

  abbrev pub AreTypesInRange : List (ℕ × Term) → Type 0
  AreTypesInRange ts = All (λ t. (t.0 < vars) × IsExprInRange t.1) ts

  pub record IsStateInRange (j : State) : Type 0 where
    pub preds : All IsExprInRange j.preds
    pub types : AreTypesInRange j.types

  abbrev pub IsCertInRange : Cert → Type 0
  IsCertInRange s.auto = Unit {0}
  IsCertInRange (s.hyp i) = Unit {0}
  IsCertInRange s.calc = Unit {0}
  IsCertInRange (s.clash i) = Unit {0}
  IsCertInRange (s.and c d) = IsCertInRange c × IsCertInRange d
  IsCertInRange (s.left c) = IsCertInRange c
  IsCertInRange (s.right c) = IsCertInRange c
  IsCertInRange (s.unpack i c) = IsCertInRange c
  IsCertInRange (s.cases i c d) = IsCertInRange c × IsCertInRange d
  IsCertInRange (s.split e c d) = IsExprInRange e × IsCertInRange c × IsCertInRange d
  IsCertInRange (s.have e c d) = IsExprInRange e × IsCertInRange c × IsCertInRange d
  IsCertInRange (s.absurdity i j) = Unit {0}
  IsCertInRange (s.negation c) = IsCertInRange c
  IsCertInRange (s.contra c) = IsCertInRange c
  IsCertInRange s.reflexive = Unit {0}
  IsCertInRange (s.fwd i e c) = IsTemplateBelow e vars × IsCertInRange c
  IsCertInRange (s.rev i e c) = IsTemplateBelow e vars × IsCertInRange c
  IsCertInRange (s.instance k es c) = All IsExprInRange es × IsCertInRange c
  IsCertInRange s.ring = Unit {0}
  IsCertInRange s.range = Unit {0}

  abbrev pub IsTypeInRange : Option Term → Type 0
  IsTypeInRange None = Unit {0}
  IsTypeInRange (Some q) = IsExprInRange q

  abbrev mutual
    pub IsStmInRange : Stm → Type 0
    IsStmInRange s.skip = Unit {0}
    IsStmInRange (s.assign x e q retypes) = (x < vars) × IsExprInRange e × IsTypeInRange q × AreTypesInRange retypes
    IsStmInRange (s.lock l) = l < locks
    IsStmInRange (s.unlock l) = l < locks
    IsStmInRange (s.branch e a b join) = IsExprInRange e × IsBlockInRange a × IsBlockInRange b × IsStateInRange join
    IsStmInRange (s.loop e inv b) = IsExprInRange e × IsStateInRange inv × IsBlockInRange b
    IsStmInRange (s.note j) = IsStateInRange j
    IsStmInRange (s.output e) = IsExprInRange e

    pub IsBlockInRange : Block → Type 0
    IsBlockInRange done = Unit {0}
    IsBlockInRange (more at c proofs b) = IsStmInRange c × All (λ p. IsCertInRange p.cert) proofs × IsBlockInRange b

  pub record IsLockInRange (l : Lock) : Type 0 where
    pub nowrite : AreInRange l.nowrite
    pub hide : AreInRange l.hide
    pub invariant : IsExprInRange (invariant_term l.inv)

  pub record AreModesInRange (m : Modes) : Type 0 where
    pub assume_nowrite : AreInRange m.assume_nowrite
    pub assume_hide : AreInRange m.assume_hide
    pub guarantee_nowrite : AreInRange m.guarantee_nowrite
    pub guarantee_hide : AreInRange m.guarantee_hide

  pub record IsThreadInRange (t : Thread) : Type 0 where
    pub modes : AreModesInRange t.modes
    pub body : IsBlockInRange t.body

  -- Each id of the declarations is in range, the hole of templates excepted.
  pub record AreIdsInRange (variables : List Var) (declared_locks : List Lock) (threads : List Thread) : Type 0 where
    pub classes : All (λ v. IsExprInRange (class_term v.class)) variables
    pub of_locks : All IsLockInRange declared_locks
    pub of_threads : All IsThreadInRange threads

-- Words --------------------------------------------------------------------------------------------------------

-- each expression of a certificate is of words
abbrev pub CertHasWords : Cert → Type 0
CertHasWords s.auto = Unit {0}
CertHasWords (s.hyp i) = Unit {0}
CertHasWords s.calc = Unit {0}
CertHasWords (s.clash i) = Unit {0}
CertHasWords (s.and c d) = CertHasWords c × CertHasWords d
CertHasWords (s.left c) = CertHasWords c
CertHasWords (s.right c) = CertHasWords c
CertHasWords (s.unpack i c) = CertHasWords c
CertHasWords (s.cases i c d) = CertHasWords c × CertHasWords d
CertHasWords (s.split e c d) = HasWords e × CertHasWords c × CertHasWords d
CertHasWords (s.have e c d) = HasWords e × CertHasWords c × CertHasWords d
CertHasWords (s.absurdity i j) = Unit {0}
CertHasWords (s.negation c) = CertHasWords c
CertHasWords (s.contra c) = CertHasWords c
CertHasWords s.reflexive = Unit {0}
CertHasWords (s.fwd i e c) = HasWords e × CertHasWords c
CertHasWords (s.rev i e c) = HasWords e × CertHasWords c
CertHasWords (s.instance k es c) = All HasWords es × CertHasWords c
CertHasWords s.ring = Unit {0}
CertHasWords s.range = Unit {0}

abbrev pub TypesHaveWords : List (ℕ × Term) → Type 0
TypesHaveWords ts = All (λ t. HasWords t.1) ts

pub record StateHasWords (j : State) : Type 0 where
  pub preds : All HasWords j.preds
  pub types : TypesHaveWords j.types

abbrev pub TypeHasWords : Option Term → Type 0
TypeHasWords None = Unit {0}
TypeHasWords (Some q) = HasWords q

abbrev mutual
  pub StmHasWords : Stm → Type 0
  StmHasWords s.skip = Unit {0}
  StmHasWords (s.assign x e q retypes) = HasWords e × TypeHasWords q × TypesHaveWords retypes
  StmHasWords (s.lock l) = Unit {0}
  StmHasWords (s.unlock l) = Unit {0}
  StmHasWords (s.branch e a b join) = HasWords e × BlockHasWords a × BlockHasWords b × StateHasWords join
  StmHasWords (s.loop e inv b) = HasWords e × StateHasWords inv × BlockHasWords b
  StmHasWords (s.note j) = StateHasWords j
  StmHasWords (s.output e) = HasWords e

  -- each expression of statements, of what they state and of their certificates is of words
  pub BlockHasWords : Block → Type 0
  BlockHasWords done = Unit {0}
  BlockHasWords (more at c proofs b) = StmHasWords c × All (λ p. CertHasWords p.cert) proofs × BlockHasWords b

-- Each expression of the declarations is of words of 32 bits: as plain data, numbers may be larger.
pub record AreOfWords (variables : List Var) (declared_locks : List Lock) (threads : List Thread) : Type 0 where
  pub classes : All (λ v. HasWords (class_term v.class)) variables
  pub invariants : All (λ l. HasWords (invariant_term l.inv)) declared_locks
  pub bodies : All (λ t. BlockHasWords t.body) threads

-- Names and places ---------------------------------------------------------------------------------------------

-- whether no two of a list are equal
abbrev pub are_distinct : {X : Type 0} → (X → X → Bool) → List X → Bool
are_distinct same [] = true
are_distinct same (x ∷ xs) = not (list_any (same x) xs) && are_distinct same xs

abbrev pub names_of : List Var → List Lock → List Thread → List (List ℕ)
names_of vars locks threads = map (λ v. v.name) vars ++ map (λ l. l.name) locks ++ map (λ t. t.name) threads

abbrev mutual
  -- the places of nested statements, notes included
  pub places_within : Stm → List ℕ
  places_within s.skip = []
  places_within (s.assign x e q retypes) = []
  places_within (s.lock l) = []
  places_within (s.unlock l) = []
  places_within (s.branch e a b join) = places a ++ places b
  places_within (s.loop e inv b) = places b
  places_within (s.note j) = []
  places_within (s.output e) = []

  -- the places of statements and of those in them
  pub places : Block → List ℕ
  places done = []
  places (more at c proofs b) = at ∷ places_within c ++ places b

-- Limits -------------------------------------------------------------------------------------------------------

pub record IsWithinLimits (vars : List Var) (locks : List Lock) (threads : List Thread) : Type 0 where
  pub variables : length vars ≤ MOST_VARIABLES
  pub declared_locks : length locks ≤ MOST_LOCKS
  pub declared_threads : length threads ≤ MOST_THREADS

-- types with the nodes of their expressions
abbrev pub types_size : List (ℕ × Term) → ℕ
types_size ts = sum_by (λ t. nodes t.1 + 1) ts

-- predicates and types with the nodes of their expressions
abbrev pub state_size : State → ℕ
state_size j = sum_by (λ e. nodes e + 1) j.preds + types_size j.types

abbrev pub type_size : Option Term → ℕ
type_size None = 0
type_size (Some q) = nodes q

abbrev mutual
  pub stm_size : Stm → ℕ
  stm_size s.skip = 0
  stm_size (s.assign x e q retypes) = nodes e + type_size q + types_size retypes
  stm_size (s.lock l) = 0
  stm_size (s.unlock l) = 0
  stm_size (s.branch e a b join) = nodes e + block_size a + block_size b + state_size join
  stm_size (s.loop e inv b) = nodes e + state_size inv + block_size b
  stm_size (s.note j) = state_size j
  stm_size (s.output e) = nodes e

  -- statements, retypes, predicates, types and nodes of expressions, those of certificates left out
  pub block_size : Block → ℕ
  block_size done = 0
  block_size (more at c proofs b) = 1 + stm_size c + block_size b

-- No text has a block of so many.
abbrev pub most_size : ℕ
most_size = 2 * MOST_BYTES

-- what is asked of the body of a thread
pub record IsBodyFine (b : Block) : Type 0 where
  pub places_differ : IsTrue (are_distinct (◌==◌) (places b))
  pub small : block_size b < most_size

-- Versions -----------------------------------------------------------------------------------------------------

abbrev mutual
  pub IsSilentStm : Stm → Type 0
  IsSilentStm s.skip = Unit {0}
  IsSilentStm (s.assign x e q retypes) = Unit {0}
  IsSilentStm (s.lock l) = Unit {0}
  IsSilentStm (s.unlock l) = Unit {0}
  IsSilentStm (s.branch e a b join) = IsSilent a × IsSilent b
  IsSilentStm (s.loop e inv b) = IsSilent b
  IsSilentStm (s.note j) = Unit {0}
  IsSilentStm (s.output e) = ⊥

  -- nothing is put out
  pub IsSilent : Block → Type 0
  IsSilent done = Unit {0}
  IsSilent (more at c proofs b) = IsSilentStm c × IsSilent b

-- The language has two versions, and the first has no outputs.
pub record IsOfVersion (version : ℕ) (threads : List Thread) : Type 0 where
  pub known : (version ≡ 1) ⊎ (version ≡ 2)
  pub silent : version ≡ 1 → All (λ t. IsSilent t.body) threads

-- Well formed programs -----------------------------------------------------------------------------------------

pub record IsWellFormed (p : Program) : Type 0 where
  pub ids : AreIdsInRange (length p.vars) (length p.locks) p.vars p.locks p.threads
  pub words : AreOfWords p.vars p.locks p.threads
  pub names_differ : IsTrue (are_distinct bytes_eq (names_of p.vars p.locks p.threads))
  pub limits : IsWithinLimits p.vars p.locks p.threads
  pub bodies : All (λ t. IsBodyFine t.body) p.threads
  pub version : IsOfVersion p.version p.threads
