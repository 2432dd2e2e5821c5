-- What the code that reads tokens answers, said by what reading gives.
use Rattle.std.specs.Prelude.{◌≡◌, ℕ, ◌<◌, ◌≤◌, List, [], ◌∷◌, length, Result, Ok, Err}
use Rattle.cov_grammar.specs.declared.token.Token.{Token}
use Rattle.cov_grammar.specs.declared.stop.Stop.{Stop}
use Rattle.cov_grammar.specs.declared.stop.Stop.TheVariants as stops
use Rattle.cov_grammar.specs.declared.fault.TokenFault.{TokenFault}
use Rattle.cov_grammar.specs.declared.fault.TokenFault.TheVariants as faults
use Rattle.cov_grammar.specs.Shapes.{Shape}
use Rattle.cov_grammar.specs.Spells.{Is, FirstWrong, spot}
use Rattle.cov_grammar.specs.Reading.{Reading, got, stopped}

-- A part of a text ---------------------------------------------------------------------------------------------

-- What a reader answered is what reading gives, and it then stands in front of what reading leaves: behind the value, or
-- in front of the first wrong token. Where memory ran out nothing is said. A `view` says what a value of the code stands for.
abbrev pub Gives : {X A : Type 0} → (view : X → A) → (after : List Token) → Result X Stop → Reading A → Type 0
Gives view after (Ok x) o = o ≡ got (view x) after
Gives view after (Err stops.Unexpected) o = o ≡ stopped after
Gives view after (Err stops.NoMemory) o = Unit {0}

-- A value takes a token at least, and no answer puts one back.
abbrev pub Shorter : {X : Type 0} → (old new : List Token) → Result X Stop → Type 0
Shorter old new (Ok x) = length new < length old
Shorter old new (Err e) = length new ≤ length old

-- All of a text ------------------------------------------------------------------------------------------------

-- the answer for all tokens of a text, where a reader answered for its front and left some
abbrev pub whole_answer : {X : Type 0} → (end : ℕ) → (left : List Token) → Result X Stop → Result X TokenFault
whole_answer end [] (Ok x) = Ok x
whole_answer end (t ∷ ts) (Ok x) = Err (faults.Unexpected t.at)
whole_answer end left (Err stops.Unexpected) = Err (faults.Unexpected (spot end left))
whole_answer end left (Err stops.NoMemory) = Err faults.NoMemory

-- What was answered for all tokens is what reading them gives, unless memory ran out.
abbrev pub Stands : {X A : Type 0} → (view : X → A) → (end : ℕ) → Result X TokenFault → Reading A → Type 0
Stands view end (Ok x) o = o ≡ got (view x) []
Stands view end (Err (faults.Unexpected at)) o = (bad : List Token) × (o ≡ stopped bad) × (at ≡ spot end bad)
Stands view end (Err faults.NoMemory) o = Unit {0}

-- What was answered for all tokens is what the grammar says of them: a value is one that they spell, and a fault is at the
-- first wrong token.
abbrev pub Answers : {X A : Type 0} → Shape A → (view : X → A) → (end : ℕ) → List Token → Result X TokenFault → Type 0
Answers a view end ts (Ok x) = Is a (view x) ts
Answers a view end ts (Err (faults.Unexpected at)) = (bad : List Token) × FirstWrong a ts bad × (at ≡ spot end bad)
Answers a view end ts (Err faults.NoMemory) = Unit {0}

-- The answer is this value, unless memory ran out.
abbrev pub Only : {X A : Type 0} → (view : X → A) → A → Result X TokenFault → Type 0
Only view v (Ok x) = view x ≡ v
Only view v (Err (faults.Unexpected at)) = ⊥
Only view v (Err faults.NoMemory) = Unit {0}
