-- Which kinds of tokens a right side begins with and goes on with, and when one token of look-ahead is enough.
--
-- This is the LL(1) condition: where there is a choice, the next token alone decides it.
use Rattle.std.specs.Prelude.{List, [], ◌∷◌, ◌++◌, Bool, true, false, not, ◌&&◌, ◌||◌, if◌then◌else◌, Option, Some, None}
use Rattle.cov_expr.specs.declared.kind.Kind.{Kind}
use Rattle.cov_expr.specs.contracts.kind.KindPartialEq.TheImpl as kinds
use Rattle.cov_grammar.specs.PlacedTrees.{Rule}
use Rattle.cov_grammar.specs.Shapes.{Shape, token, rule, seq, alt, opt, many, act, placed}

-- Kinds --------------------------------------------------------------------------------------------------------

-- whether two kinds are the same, as `==` says; it stays closed in proofs, since there are 72 of them
unfoldable pub kind_is : Kind → Kind → Bool
kind_is a b = kinds.eq-value.it a b

-- whether a kind is among these
abbrev pub has : List Kind → Kind → Bool
has [] k = false
has (j ∷ js) k = kind_is j k || has js k

-- whether there is a next token, of one of these kinds
abbrev pub starts : List Kind → (next : Option Kind) → Bool
starts ks None = false
starts ks (Some k) = has ks k

-- whether the lists have no kind in common
abbrev pub apart : List Kind → List Kind → Bool
apart [] ks = true
apart (j ∷ js) ks = not (has ks j) && apart js ks

-- whether each kind of the first is among the second
abbrev pub within : List Kind → List Kind → Bool
within [] ks = true
within (j ∷ js) ks = has ks j && within js ks

-- Begins and continuations of right sides ----------------------------------------------------------------------

-- whether the right side spells the empty list; no rule does
abbrev pub nullable : {A : Type 0} → Shape A → Bool
nullable (token k) = false
nullable (rule r) = false
nullable (seq a b) = nullable a && nullable b
nullable (alt a b) = nullable a || nullable b
nullable (opt a) = true
nullable (many a) = true
nullable (act f a) = nullable a
nullable (placed a) = nullable a

-- the kinds that a spelling may begin with, given those of the rules (FIRST)
abbrev pub firsts : (of_rule : Rule → List Kind) → {A : Type 0} → Shape A → List Kind
firsts of_rule (token k) = k ∷ []
firsts of_rule (rule r) = of_rule r
firsts of_rule (seq a b) = firsts of_rule a ++ (if nullable a then firsts of_rule b else [])
firsts of_rule (alt a b) = firsts of_rule a ++ firsts of_rule b
firsts of_rule (opt a) = firsts of_rule a
firsts of_rule (many a) = firsts of_rule a
firsts of_rule (act f a) = firsts of_rule a
firsts of_rule (placed a) = firsts of_rule a

-- The kinds by which a spelling that could end may go on, given the first ones and these of the rules. It stands for the
-- usual FOLLOW, but depends on the right side alone, and not on where it is used.
abbrev pub more : (of_first of_more : Rule → List Kind) → {A : Type 0} → Shape A → List Kind
more f m (token k) = []
more f m (rule r) = m r
more f m (seq a b) = more f m b ++ (if nullable b then more f m a else [])
more f m (alt a b) = more f m a ++ more f m b
more f m (opt a) = firsts f a ++ more f m a
more f m (many a) = firsts f a ++ more f m a
more f m (act g a) = more f m a
more f m (placed a) = more f m a

-- whether the next token decides each choice in the right side, and a value with a place has a token
abbrev pub fine : (of_first of_more : Rule → List Kind) → {A : Type 0} → Shape A → Bool
fine f m (token k) = true
fine f m (rule r) = true
fine f m (seq a b) = fine f m a && (fine f m b && apart (more f m a) (firsts f b))
fine f m (alt a b) = fine f m a && (fine f m b && (apart (firsts f a) (firsts f b) && not (nullable a || nullable b)))
fine f m (opt a) = fine f m a && not (nullable a)
fine f m (many a) = fine f m a && (not (nullable a) && apart (more f m a) (firsts f a))
fine f m (act g a) = fine f m a
fine f m (placed a) = fine f m a && not (nullable a)
