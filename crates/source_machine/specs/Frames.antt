-- The frames of a thread, and the items for which they stand.
--
-- A frame is what is left of a block that the thread stands in, the innermost first. A frame below the body of a loop begins
-- with that loop: the items are those of the body, and then the loop itself.
use Rattle.std.specs.Prelude.{ℕ, List, [], ◌∷◌, Option, Some, None}
use Rattle.cov_expr.specs.Term.{Term}
use Rattle.cov_ast.specs.Plain.{Cmd, Cmds, next, none, ◌then_all◌, plain_block}
use Rattle.cov_ast.specs.Syntax.{Block}
use Rattle.statement_parts.specs.PlainParts.{either, Inside, nothing, parts, turns}
use Rattle.flow_model.specs.Source.{Item, run, put, test, emit, items_then}

-- the items that frames stand for
abbrev pub items : List Block → List Item
items [] = []
items (b ∷ bs) = items_then (plain_block b) (items bs)

-- what a statement is once its expression was evaluated and gave a word, if it has one
abbrev pub pending_by : (at word : ℕ) → Cmd → (assigned : Option ℕ) → (evaluated : Option Term) → Inside Cmds → Item
pending_by at word c (Some x) e inside = put at x word
pending_by at word c None e (turns guard b) = test at word (◌then_all◌ b (next at c none)) none
pending_by at word c None e (either guard a b) = test at word a b
pending_by at word c None (Some e) nothing = emit at word
pending_by at word c None None nothing = run at c

abbrev pub pending_item : (at word : ℕ) → Cmd → Item
pending_item at word c = pending_by at word c (parts c).assigned (parts c).evaluated (parts c).inside

-- the items, where the expression of the first statement was evaluated and gave a word
abbrev pub with_word : Option ℕ → List Item → List Item
with_word None is = is
with_word (Some word) [] = []
with_word (Some word) (run at c ∷ rest) = pending_item at word c ∷ rest
with_word (Some word) (put at x w ∷ rest) = put at x w ∷ rest
with_word (Some word) (test at w a b ∷ rest) = test at w a b ∷ rest
with_word (Some word) (emit at w ∷ rest) = emit at w ∷ rest
