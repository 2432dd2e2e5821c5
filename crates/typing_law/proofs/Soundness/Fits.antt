-- What a point says of two copies of a thread, and what a statement has to do between two points.
use Rattle.std.proofs.Common.{◌≡◌, ◌≢◌, ◌⊎◌, ℕ, List, [], ◌∷◌, ◌++◌, length, set, false, Option, Some, None, IsTrue}
use Rattle.cov_expr.specs.Entailment.{Holds, AllHold}
use Rattle.cov_expr.specs.Term.{Term, value}
use Rattle.cov_expr.specs.Trees.{mentions}
use Rattle.cov_expr.specs.Words.{IsMemory, IsWord, HasWords}
use Rattle.cov_ast.specs.Declarations.{assumes_hide, is_control}
use Rattle.cov_ast.specs.Plain.{Cmd, assign, branch, loop, output, Cmds, none, next, ◌then_all◌, Plain}
use Rattle.statement_parts.specs.PlainParts.{Inside, nothing, turns, either, parts, made_inside, made}
use Rattle.flow_model.specs.Source.{Item, run, put, test, emit, Holders, Outputs, holder, local, items_then, after_cmd}
use Rattle.flow_model.specs.Holdings.{IsStableNow, IsWritableNow}
use Rattle.flow_model.specs.Agreement.{SameAt, MemoriesAgree}
use Rattle.flow_model.specs.Game.{FreeInvariantsHold}
use Rattle.mode_compat.specs.HeldSets.{AreHeldBy}
use Rattle.point_law.specs.Point.{Point, type_at}

-- the memories of two copies, and the holders of locks and the outputs, which are the same in both
pub record World : Type 0 where
  pub left : List ℕ
  pub right : List ℕ
  pub holders : Holders
  pub outputs : Outputs

module _ (t : ℕ) where
  -- No holder changes but from none to the thread or from the thread to none.
  abbrev pub ChangesOwn : (before after : Holders) → Type 0
  ChangesOwn h k =
      (l : ℕ) → (holder k l ≡ holder h l) ⊎ ((holder h l ≡ None) × (holder k l ≡ Some t)) ⊎ ((holder h l ≡ Some t) × (holder k l ≡ None))

  -- What one turn does with a statement that evaluates nothing: it waits, or is done, and something is so of the holders then.
  pub data Turned (c : Cmd) (h : Holders) (After : Holders → Type 0) : Type 0 where
    waits : ((m : List ℕ) (o : Outputs) (at : ℕ) (is : List Item) → after_cmd t m h o at c is ≡ local m h o (run at c ∷ is)) → Turned c h After
    proceeds : (k : Holders) → ((m : List ℕ) (o : Outputs) (at : ℕ) (is : List Item) → after_cmd t m h o at c is ≡ local m k o is) → ChangesOwn h k → After k
        → Turned c h After

module _ (p : Plain) (t : ℕ) where
  -- no other thread assumes that nobody else reads or writes the variable
  abbrev pub IsNotForeign : ℕ → Type 0
  IsNotForeign x = (u : ℕ) → u ≢ t → assumes_hide p u x ≡ false

  abbrev pub AllStable : Holders → Term → Type 0
  AllStable h e = (y : ℕ) → IsTrue (mentions e y) → IsStableNow p h t y

  abbrev pub OverStableControls : Holders → Term → Type 0
  OverStableControls h e = (y : ℕ) → IsTrue (mentions e y) → IsStableNow p h t y × IsTrue (is_control p y)

  abbrev pub AllOver : Holders → List Term → Type 0
  AllOver h [] = Unit {0}
  AllOver h (e ∷ es) = AllStable h e × AllOver h es

  -- What holds of the copies at every point.
  pub record Settled (w : World) : Type 0 where
    pub memory1 : IsMemory (length p.vars) w.left
    pub memory2 : IsMemory (length p.vars) w.right
    pub locks : length w.holders ≡ length p.locks
    pub agree : MemoriesAgree p w.left w.holders w.right w.holders
    pub free1 : FreeInvariantsHold p w.left w.holders
    pub free2 : FreeInvariantsHold p w.right w.holders

  -- What the point says of the copies: the locks that the thread holds, predicates that hold in both and are over stable
  -- variables, and types of stable variables, over stable controls: where one holds, the copies agree on the variable.
  pub record Fits (a : Point) (w : World) : Type 0 where
    pub settled : Settled w
    pub sized : length a.held ≡ length p.locks
    pub held : AreHeldBy w.holders t a.held
    pub preds1 : AllHold a.preds w.left
    pub preds2 : AllHold a.preds w.right
    pub over : AllOver w.holders a.preds
    pub types : (x : ℕ) → IsStableNow p w.holders t x → is_control p x ≡ false → IsNotForeign x → Holds (type_at a x) w.left → SameAt w.left w.right x
    pub types_over : (x : ℕ) → IsStableNow p w.holders t x → is_control p x ≡ false → OverStableControls w.holders (type_at a x)

  -- what fits the first point fits the second
  abbrev pub Weaker : Point → Point → Type 0
  Weaker a b = (w : World) → Fits a w → Fits b w

  -- each copy stores a word of its own to the variable
  abbrev pub stored : World → ℕ → ℕ → ℕ → World
  stored w x v1 v2 = record { left = set w.left x v1; right = set w.right x v2; holders = w.holders; outputs = w.outputs }

  -- others hold the locks
  abbrev pub with_holders : World → Holders → World
  with_holders w h = record { left = w.left; right = w.right; holders = h; outputs = w.outputs }

  -- both copies put out a word
  abbrev pub saying : World → ℕ → World
  saying w v = record { left = w.left; right = w.right; holders = w.holders; outputs = w.outputs ++ v ∷ [] }

  -- The words of a store of e that is pending in the copies: where the type q holds they are the same, and where e is stable
  -- they are still its values.
  pub record Pending (e q : Term) (w : World) (v1 v2 : ℕ) : Type 0 where
    pub word1 : IsWord v1
    pub word2 : IsWord v2
    pub same : Holds q w.left → v1 ≡ v2
    pub value1 : AllStable w.holders e → v1 ≡ value e w.left
    pub value2 : AllStable w.holders e → v2 ≡ value e w.right

  -- What statements owe between the points before and after them: one that evaluates nothing,
  pub record TurnOk (c : Cmd) (a b : Point) : Type 0 where
    pub turned : (w : World) → Fits a w → Turned t c w.holders (λ h. Fits b (with_holders w h))

  -- an assignment,
  pub record AssignOk (x : ℕ) (e : Term) (a b : Point) : Type 0 where
    pub q : Term
    pub words : HasWords e
    pub q_stable : (w : World) → Fits a w → AllStable w.holders q
    pub writable : (w : World) → Fits a w → IsWritableNow p w.holders t x
    pub evaluated : (w : World) → Fits a w → Holds q w.left → value e w.left ≡ value e w.right
    pub after_store : (w : World) (v1 v2 : ℕ) → Fits a w → Pending e q w v1 v2 → Fits b (stored w x v1 v2)

  -- an output, which has one value in both,
  pub record OutputOk (e : Term) (a b : Point) : Type 0 where
    pub words : HasWords e
    pub same : (w : World) → Fits a w → value e w.left ≡ value e w.right
    pub after : Weaker a b

  -- and a guard, which has one value in both and tells either branch of it.
  pub record GuardOk (e : Term) (a yes no : Point) : Type 0 where
    pub same : (w : World) → Fits a w → value e w.left ≡ value e w.right
    pub taken : (w : World) → Fits a w → (AllStable w.holders e → Holds e w.left × Holds e w.right) → Fits yes w
    pub other : (w : World) → Fits a w → (AllStable w.holders e → (value e w.left ≡ 0) × (value e w.right ≡ 0)) → Fits no w

  -- Each statement owes that between two points, and those of a block one after another. A loop has a point of its own that
  -- fits where it is entered and where its body ends.
  abbrev TypedBy : Cmd → (evaluated : Option Term) → (assigned : Option ℕ) → Inside (Point → Point → Type 0) → Point → Point → Type 0
  TypedBy c None assigned inside a b = TurnOk c a b
  TypedBy c (Some e) (Some x) inside a b = AssignOk x e a b
  TypedBy c (Some e) None nothing a b = OutputOk e a b
  TypedBy c (Some e) None (turns g Body) a b = (head : Point) × (yes : Point) × Weaker a head × GuardOk e head yes b × Body yes head
  TypedBy c (Some e) None (either g First Second) a b = (yes : Point) × (no : Point) × GuardOk e a yes no × First yes b × Second no b

  abbrev typed_first : (at : ℕ) → Cmd → Inside (Point → Point → Type 0) → (Rest : Point → Point → Type 0) → Point → Point → Type 0
  typed_first at c inside Rest a b = (mid : Point) × TypedBy c (parts c).evaluated (parts c).assigned inside a mid × Rest mid b

  abbrev pub TypedCmd : Cmd → Point → Point → Type 0
  TypedCmd c = TypedBy c (parts c).evaluated (parts c).assigned (made_inside Weaker typed_first c)

  abbrev pub Typed : Cmds → Point → Point → Type 0
  Typed cs = made Weaker typed_first cs

  -- the same of items that are all statements
  abbrev pub TypedItem : Item → Point → Point → Type 0
  TypedItem (run at c) a b = TypedCmd c a b
  TypedItem (put at x w) a b = ⊥
  TypedItem (test at w c d) a b = ⊥
  TypedItem (emit at w) a b = ⊥

  abbrev pub TypedItems : List Item → Point → Type 0
  TypedItems [] a = Unit {0}
  TypedItems (i ∷ is) a = (mid : Point) × TypedItem i a mid × TypedItems is mid

  -- A stronger point in front -----------------------------------------------------------------------------------

  pub assign_from : (x : ℕ) (e : Term) (a b c : Point) → Weaker a b → AssignOk x e b c → AssignOk x e a c
  assign_from x e a b c k o = record {
    q = o.q;
    words = o.words;
    q_stable = λ w f. o.q_stable w (k w f);
    writable = λ w f. o.writable w (k w f);
    evaluated = λ w f. o.evaluated w (k w f);
    after_store = λ w v1 v2 f. o.after_store w v1 v2 (k w f);
  }

  pub guard_from : (e : Term) (a b c d : Point) → Weaker a b → GuardOk e b c d → GuardOk e a c d
  guard_from e a b c d k o = record { same = λ w f. o.same w (k w f); taken = λ w f. o.taken w (k w f); other = λ w f. o.other w (k w f) }

  pub cmd_from : (c : Cmd) (a b d : Point) → Weaker a b → TypedCmd c b d → TypedCmd c a d
  cmd_from (assign x e) a b d k o = assign_from x e a b d k o
  cmd_from (branch e c c') a b d k o = (o.0, o.1, guard_from e a b o.0 o.1 k o.2, o.3, o.4)
  cmd_from (loop e c) a b d k o = (o.0, o.1, (λ w f. o.2 w (k w f)), o.3, o.4)
  cmd_from (output e) a b d k o = record { words = o.words; same = λ w f. o.same w (k w f); after = λ w f. o.after w (k w f) }
  cmd_from _ a b d k o = record { turned = λ w f. o.turned w (k w f) }

  pub typed_from : (cs : Cmds) (a b d : Point) → Weaker a b → Typed cs b d → Typed cs a d
  typed_from none a b d k o = λ w f. o w (k w f)
  typed_from (next at c cs) a b d k o = (o.0, cmd_from c a b o.0 k o.1, o.2)

  pub item_from : (i : Item) (a b d : Point) → Weaker a b → TypedItem i b d → TypedItem i a d
  item_from (run at c) a b d k o = cmd_from c a b d k o
  item_from (put at x w) a b d k o = o
  item_from (test at w c c') a b d k o = o
  item_from (emit at w) a b d k o = o

  pub items_from : (is : List Item) (a b : Point) → Weaker a b → TypedItems is b → TypedItems is a
  items_from [] a b k o = tt
  items_from (i ∷ is) a b k o = (o.0, item_from i a b o.0 k o.1, o.2)

  -- a block in front of typed items
  pub typed_then : (cs : Cmds) (is : List Item) (a b : Point) → Typed cs a b → TypedItems is b → TypedItems (items_then cs is) a
  typed_then none is a b k o = items_from is a b k o
  typed_then (next at c cs) is a b k o = (k.0, k.1, typed_then cs is k.0 b k.2 o)

  pub typed_append : (cs ds : Cmds) (a b d : Point) → Typed cs a b → Typed ds b d → Typed (◌then_all◌ cs ds) a d
  typed_append none ds a b d k o = typed_from ds a b d k o
  typed_append (next at c cs) ds a b d k o = (k.0, k.1, typed_append cs ds k.0 b d k.2 o)
