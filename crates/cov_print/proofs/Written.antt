-- The tokens of the canonical spelling, without their places: what a printer writes, as the grammar takes it.
--
-- `named` says of which numbers there are names; a variable whose number has none is the hole of a template.
use Rattle.std.proofs.Common.{ℕ, List, [], ◌∷◌, ◌++◌, ◌==◌, Bool, true, false, ◌&&◌, Option, Some, None, if◌then◌else◌, flat_map}
use Rattle.cov_expr.specs.Term.{Term, const, var, neg, bin}
use Rattle.cov_expr.specs.declared.expr.Op.{Op}
use Rattle.cov_expr.specs.declared.expr.Op.TheVariants as ops
use Rattle.cov_expr.specs.declared.kind.Kind.{Kind}
use Rattle.cov_expr.specs.declared.kind.Kind.TheVariants as k
use Rattle.cov_ast.specs.Syntax as s
use Rattle.cov_print.specs.Spelling.{is_nothing, is_word}

-- a keyword or a sign, the name of a number, the hole, a number
pub data Word : Type 0 where
  plain : Kind → Word
  name : ℕ → Word
  hole : ℕ → Word
  number : ℕ → Word

-- item ( "," item )*
abbrev pub commas : {A : Type 0} → (A → List Word) → List A → List Word
commas write [] = []
commas write (x ∷ xs) = write x ++ flat_map (λ y. plain k.Comma ∷ write y) xs

abbrev pub names : List ℕ → List Word
names xs = commas (λ x. name x ∷ []) xs

abbrev pub sign_of : Op → Kind
sign_of ops.Add = k.Plus
sign_of ops.Sub = k.Minus
sign_of ops.Mul = k.Star
sign_of ops.And = k.Ampersand
sign_of ops.Or = k.Bar
sign_of ops.Xor = k.Caret
sign_of ops.Eq = k.Equal
sign_of ops.Ne = k.Differs
sign_of ops.Lt = k.Less
sign_of ops.Le = k.AtMost
sign_of ops.Both = k.Both
sign_of ops.Either = k.Either

-- in parentheses
abbrev pub enclosed : List Word → List Word
enclosed ws = plain k.OpenParen ∷ (ws ++ plain k.CloseParen ∷ [])

abbrev pub bracketed : List Word → List Word
bracketed ws = plain k.OpenBracket ∷ (ws ++ plain k.CloseBracket ∷ [])

-- in parentheses where it is an operand
abbrev pub grouped : (operand : Bool) → List Word → List Word
grouped false ws = ws
grouped true ws = enclosed ws

-- a certificate inside of another
abbrev pub part : s.Cert → List Word → List Word
part c ws = if is_word c then ws else enclosed ws

module _ (named : ℕ → Bool) where
  abbrev pub variable : ℕ → Word
  variable x = if named x then name x else hole x

  abbrev pub expr : (operand : Bool) → Term → List Word
  expr operand (const n) = number n ∷ []
  expr operand (var x) = variable x ∷ []
  expr operand (neg e) = plain k.Bang ∷ expr true e
  expr operand (bin op a b) = grouped operand (expr true a ++ plain (sign_of op) ∷ expr true b)

  abbrev pub whole : Term → List Word
  whole e = expr false e

  abbrev pub cert : s.Cert → List Word
  cert s.auto = plain k.Auto ∷ []
  cert s.calc = plain k.Calc ∷ []
  cert s.reflexive = plain k.Refl ∷ []
  cert s.ring = plain k.Ring ∷ []
  cert s.range = plain k.Range ∷ []
  cert (s.hyp i) = plain k.Hyp ∷ number i ∷ []
  cert (s.clash i) = plain k.Clash ∷ number i ∷ []
  cert (s.absurdity i j) = plain k.Absurd ∷ number i ∷ number j ∷ []
  cert (s.and c d) = plain k.And ∷ (part c (cert c) ++ part d (cert d))
  cert (s.left c) = plain k.Left ∷ part c (cert c)
  cert (s.right c) = plain k.Right ∷ part c (cert c)
  cert (s.unpack i c) = plain k.Use ∷ number i ∷ part c (cert c)
  cert (s.cases i c d) = plain k.Cases ∷ number i ∷ (part c (cert c) ++ part d (cert d))
  cert (s.split e c d) = plain k.Split ∷ (bracketed (whole e) ++ (part c (cert c) ++ part d (cert d)))
  cert (s.have e c d) = plain k.Have ∷ (bracketed (whole e) ++ (part c (cert c) ++ part d (cert d)))
  cert (s.negation c) = plain k.Not ∷ part c (cert c)
  cert (s.contra c) = plain k.Contra ∷ part c (cert c)
  cert (s.fwd i e c) = plain k.Fwd ∷ number i ∷ (bracketed (whole e) ++ part c (cert c))
  cert (s.rev i e c) = plain k.Rev ∷ number i ∷ (bracketed (whole e) ++ part c (cert c))
  cert (s.instance i es c) = plain k.Axiom ∷ number i ∷ (enclosed (commas whole es) ++ part c (cert c))

  abbrev pub proof : s.Proof → List Word
  proof p = number p.number ∷ plain k.Colon ∷ cert p.cert

  abbrev pub by : List s.Proof → List Word
  by [] = []
  by (p ∷ ps) = plain k.By ∷ plain k.OpenBrace ∷ (commas proof (p ∷ ps) ++ plain k.CloseBrace ∷ [])

  abbrev pub typed : ℕ × Term → List Word
  typed t = name t.0 ∷ plain k.Colon ∷ whole t.1

  abbrev pub types : List (ℕ × Term) → List Word
  types [] = []
  types (t ∷ ts) = plain k.Semicolon ∷ commas typed (t ∷ ts)

  abbrev pub state_of : List Term → List (ℕ × Term) → List Word
  state_of preds ts = plain k.OpenBrace ∷ ((commas whole preds ++ types ts) ++ plain k.CloseBrace ∷ [])

  abbrev pub state : s.State → List Word
  state j = state_of j.preds j.types

  -- a state behind its word; an empty one is left out
  abbrev pub stated_of : Kind → List Term → List (ℕ × Term) → List Word
  stated_of word preds ts = if is_nothing preds && is_nothing ts then [] else plain word ∷ state_of preds ts

  abbrev pub stated : Kind → s.State → List Word
  stated word j = stated_of word j.preds j.types

  abbrev pub maybe : Kind → Option Term → List Word
  maybe word None = []
  maybe word (Some e) = plain word ∷ whole e

  abbrev pub retype : ℕ × Term → List Word
  retype r = plain k.Retype ∷ name r.0 ∷ plain k.As ∷ whole r.1

  abbrev mutual
    pub stm : s.Stm → List s.Proof → List Word
    stm s.skip ps = plain k.Skip ∷ plain k.Semicolon ∷ []
    stm (s.assign x e q rs) ps =
        name x ∷ plain k.Assign ∷ (whole e ++ (maybe k.As q ++ (flat_map retype rs ++ (by ps ++ plain k.Semicolon ∷ []))))
    stm (s.lock l) ps = plain k.Lock ∷ name l ∷ plain k.Semicolon ∷ []
    stm (s.unlock l) ps = plain k.Unlock ∷ name l ∷ (by ps ++ plain k.Semicolon ∷ [])
    stm (s.branch e a b join) ps =
        plain k.If ∷ (whole e ++ ((plain k.OpenBrace ∷ (block a ++ plain k.CloseBrace ∷ []))
        ++ (plain k.Else ∷ ((plain k.OpenBrace ∷ (block b ++ plain k.CloseBrace ∷ [])) ++ (stated k.Join join ++ by ps)))))
    stm (s.loop e inv b) ps =
        plain k.While ∷ (whole e ++ (stated k.Inv inv ++ ((plain k.OpenBrace ∷ (block b ++ plain k.CloseBrace ∷ [])) ++ by ps)))
    stm (s.note j) ps = plain k.Note ∷ ((state j ++ by ps) ++ plain k.Semicolon ∷ [])
    stm (s.output e) ps = plain k.Output ∷ ((whole e ++ by ps) ++ plain k.Semicolon ∷ [])

    -- the statements of a block, without its braces
    pub block : s.Block → List Word
    block s.done = []
    block (s.more at x ps rest) = stm x ps ++ block rest

  abbrev pub braces : s.Block → List Word
  braces b = plain k.OpenBrace ∷ (block b ++ plain k.CloseBrace ∷ [])

  abbrev pub class : s.Class → List Word
  class s.low = plain k.Low ∷ []
  class s.high = plain k.High ∷ []
  class (s.when e) = plain k.Low ∷ plain k.When ∷ whole e

-- Declarations -------------------------------------------------------------------------------------------------

-- names behind a word; an empty list is left out
abbrev pub behind : Kind → List ℕ → List Word
behind word [] = []
behind word (x ∷ xs) = plain word ∷ names (x ∷ xs)

-- the same behind two words
abbrev pub mode : Kind → Kind → List ℕ → List Word
mode word kind [] = []
mode word kind (x ∷ xs) = plain word ∷ plain kind ∷ names (x ∷ xs)

abbrev pub modes : Kind → List ℕ → List ℕ → List Word
modes word nowrite hide = mode word k.Nowrite nowrite ++ mode word k.Hide hide

-- The declared name is told by its number.
module _ (named : ℕ → Bool) where
  abbrev pub var_decl : ℕ → s.Class → List Word
  var_decl x c = plain k.Var ∷ name x ∷ plain k.Colon ∷ (class named c ++ plain k.Semicolon ∷ [])

  abbrev pub lock_decl : ℕ → (nowrite hide : List ℕ) → Option Term → List Word
  lock_decl x nowrite hide inv =
      plain k.Lock ∷ name x ∷ ((behind k.Nowrite nowrite ++ (behind k.Hide hide ++ maybe named k.Inv inv)) ++ plain k.Semicolon ∷ [])

  abbrev pub thread_decl : ℕ → s.Modes → s.Block → List Word
  thread_decl x m b =
      plain k.Thread ∷ name x ∷ (modes k.Assume m.assume_nowrite m.assume_hide ++ (modes k.Guarantee m.guarantee_nowrite m.guarantee_hide ++ braces named b))

-- the line of the version; the first isn't named
abbrev pub version : ℕ → List Word
version v = if v == 2 then plain k.Version ∷ number 2 ∷ plain k.Semicolon ∷ [] else []
