-- Two proofs that a program is well formed are equal, so that a verdict, which tells no more than that there is one, has it.
use Rattle.std.proofs.Common.{◌≡◌, ℕ, ◌≤◌, Option, None, Some, length, ap, arith}
use Rattle.std.proofs.Math.Bridge.{le_prop}
use Rattle.std.proofs.Math.Logic.{∥∥₁_elim, ◌⊎◌, inl, inr}
use Rattle.std.proofs.Math.Nat.{ℕ_set}
use Rattle.std.proofs.Math.Bool.{Bool-set}
use Rattle.cov_expr.specs.Term.{Term, const, var, neg, bin}
use Rattle.cov_expr.specs.Words.{HasVarsBelow, HasWords}
use Rattle.cov_expr.specs.declared.expr.TheConstants.{HOLE}
use Rattle.cov_ast.specs.Syntax.{Cert, Stm, Block, done, more, Program}
use Rattle.cov_ast.specs.Syntax as s
use Rattle.cov_ast.specs.WellFormed.{BlockHasWords, CertHasWords, IsBlockInRange, IsCertInRange, IsSilent, IsSilentStm, IsStmInRange, IsTemplateBelow, IsTypeInRange, IsWellFormed, StmHasWords, TypeHasWords}

either_prop : {A B : Type 0} → IsProp A → IsProp B → (A → B → ⊥) → IsProp (A ⊎ B)
either_prop one two apart (inl x) (inl y) = ap inl (one x y)
either_prop one two apart (inl x) (inr y) = absurd (apart x y)
either_prop one two apart (inr x) (inl y) = absurd (apart y x)
either_prop one two apart (inr x) (inr y) = ap inr (two x y)

words_prop : (e : Term) → IsProp (HasWords e)
words_prop (const k) = hlevel le_prop
words_prop (var x) = hlevel le_prop
words_prop (neg e) = words_prop e
words_prop (bin op a b) = hlevel (words_prop a, words_prop b)

vars_prop : (e : Term) (n : ℕ) → IsProp (HasVarsBelow e n)
vars_prop (const k) n = hlevel
vars_prop (var x) n = hlevel le_prop
vars_prop (neg e) n = vars_prop e n
vars_prop (bin op a b) n = hlevel (vars_prop a n, vars_prop b n)

cert_words_prop : (c : Cert) → IsProp (CertHasWords c)
cert_words_prop s.auto = hlevel
cert_words_prop (s.hyp i) = hlevel
cert_words_prop s.calc = hlevel
cert_words_prop (s.clash i) = hlevel
cert_words_prop (s.and c d) = hlevel (cert_words_prop c, cert_words_prop d)
cert_words_prop (s.left c) = cert_words_prop c
cert_words_prop (s.right c) = cert_words_prop c
cert_words_prop (s.unpack i c) = cert_words_prop c
cert_words_prop (s.cases i c d) = hlevel (cert_words_prop c, cert_words_prop d)
cert_words_prop (s.split e c d) = hlevel (words_prop, cert_words_prop c, cert_words_prop d)
cert_words_prop (s.have e c d) = hlevel (words_prop, cert_words_prop c, cert_words_prop d)
cert_words_prop (s.absurdity i j) = hlevel
cert_words_prop (s.negation c) = cert_words_prop c
cert_words_prop (s.contra c) = cert_words_prop c
cert_words_prop s.reflexive = hlevel
cert_words_prop (s.fwd i e c) = hlevel (words_prop, cert_words_prop c)
cert_words_prop (s.rev i e c) = hlevel (words_prop, cert_words_prop c)
cert_words_prop (s.instance k es c) = hlevel (words_prop, cert_words_prop c)
cert_words_prop s.ring = hlevel
cert_words_prop s.range = hlevel

type_words_prop : (q : Option Term) → IsProp (TypeHasWords q)
type_words_prop None = hlevel
type_words_prop (Some q) = words_prop q

mutual
  stm_words_prop : (c : Stm) → IsProp (StmHasWords c)
  stm_words_prop (s.assign x e q retypes) = hlevel (words_prop, type_words_prop)
  stm_words_prop (s.branch e a b join) = hlevel (words_prop, block_words_prop a, block_words_prop b)
  stm_words_prop (s.loop e inv b) = hlevel (words_prop, block_words_prop b)
  stm_words_prop (s.note j) = hlevel words_prop
  stm_words_prop (s.output e) = words_prop e
  stm_words_prop _ = hlevel

  block_words_prop : (b : Block) → IsProp (BlockHasWords b)
  block_words_prop done = hlevel
  block_words_prop (more at c proofs b) = hlevel (stm_words_prop c, cert_words_prop, block_words_prop b)

mutual
  stm_silent_prop : (c : Stm) → IsProp (IsSilentStm c)
  stm_silent_prop (s.branch e a b join) = hlevel (silent_prop a, silent_prop b)
  stm_silent_prop (s.loop e inv b) = silent_prop b
  stm_silent_prop _ = hlevel

  silent_prop : (b : Block) → IsProp (IsSilent b)
  silent_prop done = hlevel
  silent_prop (more at c proofs b) = hlevel (stm_silent_prop c, silent_prop b)

module _ (vars locks : ℕ) (few : vars ≤ 256) where
  template_prop : (e : Term) → IsProp (IsTemplateBelow e vars)
  template_prop (const k) = hlevel
  template_prop (var x) = either_prop (hlevel le_prop) (ℕ_set x HOLE) (λ below hole. omega arith)
  template_prop (neg e) = template_prop e
  template_prop (bin op a b) = hlevel (template_prop a, template_prop b)

  cert_range_prop : (c : Cert) → IsProp (IsCertInRange vars locks c)
  cert_range_prop s.auto = hlevel
  cert_range_prop (s.hyp i) = hlevel
  cert_range_prop s.calc = hlevel
  cert_range_prop (s.clash i) = hlevel
  cert_range_prop (s.and c d) = hlevel (cert_range_prop c, cert_range_prop d)
  cert_range_prop (s.left c) = cert_range_prop c
  cert_range_prop (s.right c) = cert_range_prop c
  cert_range_prop (s.unpack i c) = cert_range_prop c
  cert_range_prop (s.cases i c d) = hlevel (cert_range_prop c, cert_range_prop d)
  cert_range_prop (s.split e c d) = hlevel (vars_prop, cert_range_prop c, cert_range_prop d)
  cert_range_prop (s.have e c d) = hlevel (vars_prop, cert_range_prop c, cert_range_prop d)
  cert_range_prop (s.absurdity i j) = hlevel
  cert_range_prop (s.negation c) = cert_range_prop c
  cert_range_prop (s.contra c) = cert_range_prop c
  cert_range_prop s.reflexive = hlevel
  cert_range_prop (s.fwd i e c) = hlevel (template_prop e, cert_range_prop c)
  cert_range_prop (s.rev i e c) = hlevel (template_prop e, cert_range_prop c)
  cert_range_prop (s.instance k es c) = hlevel (vars_prop, cert_range_prop c)
  cert_range_prop s.ring = hlevel
  cert_range_prop s.range = hlevel

  type_range_prop : (q : Option Term) → IsProp (IsTypeInRange vars locks q)
  type_range_prop None = hlevel
  type_range_prop (Some q) = vars_prop q vars

  mutual
    stm_range_prop : (c : Stm) → IsProp (IsStmInRange vars locks c)
    stm_range_prop s.skip = hlevel
    stm_range_prop (s.assign x e q retypes) = hlevel (le_prop, vars_prop, type_range_prop q)
    stm_range_prop (s.branch e a b join) = hlevel (le_prop, vars_prop, block_range_prop a, block_range_prop b)
    stm_range_prop (s.loop e inv b) = hlevel (le_prop, vars_prop, block_range_prop b)
    stm_range_prop (s.note j) = hlevel (le_prop, vars_prop)
    stm_range_prop (s.output e) = vars_prop e vars
    stm_range_prop _ = hlevel le_prop

    block_range_prop : (b : Block) → IsProp (IsBlockInRange vars locks b)
    block_range_prop done = hlevel
    block_range_prop (more at c proofs b) = hlevel (stm_range_prop c, cert_range_prop, block_range_prop b)

version_prop : (n : ℕ) → IsProp ((n ≡ 1) ⊎ (n ≡ 2))
version_prop n = either_prop (ℕ_set n 1) (ℕ_set n 2) (λ one two. omega arith)

well_formed_prop : (p : Program) → IsProp (IsWellFormed p)
well_formed_prop p x y = same x y
  where
    same : IsProp (IsWellFormed p)
    same = hlevel (le_prop, Bool-set, vars_prop, words_prop, block_words_prop, silent_prop, version_prop p.version, block_range_prop (length p.vars) (length p.locks) x.limits.variables)

pub well_formed : (p : Program) → ∥ IsWellFormed p ∥₁ → IsWellFormed p
well_formed p h = ∥∥₁_elim h (well_formed_prop p) (λ x. x)
