-- The grammar of programs: a right side for each rule, with the tree that it means.
--
-- Above each definition stands the rule in the usual notation: `[ ]` without quotes is one or none, `*` any number, and
-- quotes mark tokens. Two rules are written differently here, so that the next token decides each choice; their comments
-- say why they spell the same.
use Rattle.std.specs.Prelude.{ℕ, zero, suc, List, [], ◌∷◌, length, Option, Some, None}
use Rattle.cov_expr.specs.Term.{Term, const, var, neg, bin}
use Rattle.cov_expr.specs.declared.expr.Op.{Op}
use Rattle.cov_expr.specs.declared.expr.Op.TheVariants as ops
use Rattle.cov_expr.specs.declared.expr.TheConstants.{HOLE}
use Rattle.cov_expr.specs.declared.kind.Kind.{Kind}
use Rattle.cov_expr.specs.declared.kind.Kind.TheVariants as k
use Rattle.cov_grammar.specs.PlacedTrees.{Placed, Class, low, high, low_when, Named, Var, Lock, State, Cert, Proofs, Retypes, Stm, Block, stms, Thread, Program, Rule, Meaning, expr, template, cert, block, skip, assign, lock, unlock, branch, loop, note, output}
use Rattle.cov_grammar.specs.PlacedTrees as t
use Rattle.cov_grammar.specs.Shapes.{Shape, token, rule, seq, alt, opt, many, act, placed}

-- Notation ----------------------------------------------------------------------------------------------------

-- a token, then a right side, whose value it is
infixr 12 ◌▸◌
abbrev pub ◌▸◌ : {A : Type 0} → Kind → Shape A → Shape A
j ▸ a = act (λ x. x.1) (seq (token j) a)

-- a right side, whose value it is, then a token
infixl 13 ◌◂◌
abbrev pub ◌◂◌ : {A : Type 0} → Shape A → Kind → Shape A
a ◂ j = act (λ x. x.0) (seq a (token j))

-- item ( separator item )*
abbrev pub separated : {A : Type 0} → Kind → Shape A → Shape (List A)
separated j a = act (λ x. x.0 ∷ x.1) (seq a (many (j ▸ a)))

abbrev pub none_or : {A : Type 0} → Option (List A) → List A
none_or None = []
none_or (Some xs) = xs

-- [ list ], whose value is the empty list where it is left out
abbrev pub listed : {A : Type 0} → Shape (List A) → Shape (List A)
listed a = act none_or (opt a)

-- a token of one kind, which means a value
abbrev pub sign : {A : Type 0} → Kind → A → Shape A
sign j v = act (λ x. v) (token j)

-- one of these signs, each of which means an operator
abbrev pub signs : Kind × Op → List (Kind × Op) → Shape Op
signs x [] = sign x.0 x.1
signs x (y ∷ ys) = alt (sign x.0 x.1) (signs y ys)

-- NAME, as its number
abbrev pub name : Shape ℕ
name = act (λ x. x.value) (token k.Name)

-- NAME, as its number and its place
abbrev pub named : Shape Named
named = act (λ x. (x.value, x.at)) (token k.Name)

-- NUMBER, as its value
abbrev pub number : Shape ℕ
number = act (λ x. x.value) (token k.Number)

-- names := NAME ( "," NAME )*
unfoldable pub names : Shape (List ℕ)
names = separated k.Comma name

-- Expressions -------------------------------------------------------------------------------------------------
--
-- The levels take the atom: an expression has that of `atom`, a template that of `template_atom`.

-- repeated operators group to the left
abbrev pub grouped : Term → List (Op × Term) → Term
grouped a [] = a
grouped a (x ∷ xs) = grouped (bin x.0 a x.1) xs

-- operand ( operator operand )*
abbrev pub chain : Shape Op → Shape Term → Shape Term
chain o a = act (λ x. grouped x.0 x.1) (seq a (many (seq o a)))

-- so many marks `!` in front of an expression
abbrev pub negated : ℕ → Term → Term
negated zero a = a
negated (suc n) a = neg (negated n a)

abbrev pub compared : Term → Option (Op × Term) → Term
compared a None = a
compared a (Some x) = bin x.0 a x.1

-- "(" rule ")": brackets leave no node in a tree
abbrev pub bracketed : (r : Rule) → Shape (Meaning r)
bracketed r = k.OpenParen ▸ rule r ◂ k.CloseParen

-- atom := NUMBER | NAME | "(" expr ")"
unfoldable pub atom : Shape Term
atom = alt (act const number) (alt (act var name) (bracketed expr))

-- the same of a template, in which "_" is an atom too, the variable HOLE
unfoldable pub template_atom : Shape Term
template_atom = alt (sign k.Hole (var HOLE)) (alt (act const number) (alt (act var name) (bracketed template)))

-- unary := "!" unary | atom, written as any number of marks in front of an atom, which is the same
unfoldable pub unary : Shape Term → Shape Term
unary a = act (λ x. negated (length x.0) x.1) (seq (many (token k.Bang)) a)

-- prod := unary ( "*" unary )*
unfoldable pub prod : Shape Term → Shape Term
prod a = chain (signs (k.Star, ops.Mul) []) (unary a)

-- sum := prod ( ( "+" | "-" ) prod )*
unfoldable pub sum : Shape Term → Shape Term
sum a = chain (signs (k.Plus, ops.Add) ((k.Minus, ops.Sub) ∷ [])) (prod a)

-- band := sum ( "&" sum )*
unfoldable pub band : Shape Term → Shape Term
band a = chain (signs (k.Ampersand, ops.And) []) (sum a)

-- bxor := band ( "^" band )*
unfoldable pub bxor : Shape Term → Shape Term
bxor a = chain (signs (k.Caret, ops.Xor) []) (band a)

-- bor := bxor ( "|" bxor )*
unfoldable pub bor : Shape Term → Shape Term
bor a = chain (signs (k.Bar, ops.Or) []) (bxor a)

-- cmp := bor [ ( "==" | "!=" | "<" | "<=" ) bor ]
unfoldable pub cmp : Shape Term → Shape Term
cmp a = act (λ x. compared x.0 x.1) (seq (bor a) (opt (seq (signs (k.Equal, ops.Eq) ((k.Differs, ops.Ne) ∷ (k.Less, ops.Lt) ∷ (k.AtMost, ops.Le) ∷ [])) (bor a))))

-- both := cmp ( "&&" cmp )*
unfoldable pub both : Shape Term → Shape Term
both a = chain (signs (k.Both, ops.Both) []) (cmp a)

-- expr := both ( "||" both )*
unfoldable pub either : Shape Term → Shape Term
either a = chain (signs (k.Either, ops.Either) []) (both a)

-- a whole expression, with its place
abbrev pub whole : Shape (Placed Term)
whole = placed (rule expr)

-- Certificates ------------------------------------------------------------------------------------------------

-- part := "auto" | "calc" | "refl" | "ring" | "range" | "(" cert ")"
unfoldable pub part : Shape Cert
part =
    alt (sign k.Auto t.auto)
    (alt (sign k.Calc t.calc)
    (alt (sign k.Refl t.reflexive)
    (alt (sign k.Ring t.ring)
    (alt (sign k.Range t.range)
    (bracketed cert)))))

-- "[" a "]"
abbrev pub in_brackets : {A : Type 0} → Shape A → Shape A
in_brackets a = k.OpenBracket ▸ a ◂ k.CloseBracket

-- "(" expr ( "," expr )* ")"
unfoldable pub arguments : Shape (List (Placed Term))
arguments = k.OpenParen ▸ separated k.Comma whole ◂ k.CloseParen

-- cert := "hyp" NUMBER | "clash" NUMBER | "absurd" NUMBER NUMBER
--       | "and" part part | "left" part | "right" part
--       | "use" NUMBER part | "cases" NUMBER part part
--       | "split" "[" expr "]" part part | "have" "[" expr "]" part part
--       | "not" part | "contra" part
--       | "fwd" NUMBER "[" template "]" part | "rev" NUMBER "[" template "]" part
--       | "axiom" NUMBER "(" expr ( "," expr )* ")" part
--       | part
--
-- in three definitions: the last ones, those in front of them, and all.
unfoldable pub last_certs : Shape Cert
last_certs =
    alt (k.Have ▸ act (λ x. t.have x.0 x.1.0 x.1.1) (seq (in_brackets whole) (seq part part)))
    (alt (k.Not ▸ act t.negation part)
    (alt (k.Contra ▸ act t.contra part)
    (alt (k.Fwd ▸ act (λ x. t.fwd x.0 x.1.0 x.1.1) (seq number (seq (in_brackets (placed (rule template))) part)))
    (alt (k.Rev ▸ act (λ x. t.rev x.0 x.1.0 x.1.1) (seq number (seq (in_brackets (placed (rule template))) part)))
    (alt (k.Axiom ▸ act (λ x. t.instance x.0 x.1.0 x.1.1) (seq number (seq arguments part)))
    part)))))

unfoldable pub more_certs : Shape Cert
more_certs =
    alt (k.Left ▸ act t.left part)
    (alt (k.Right ▸ act t.right part)
    (alt (k.Use ▸ act (λ x. t.unpack x.0 x.1) (seq number part))
    (alt (k.Cases ▸ act (λ x. t.cases x.0 x.1.0 x.1.1) (seq number (seq part part)))
    (alt (k.Split ▸ act (λ x. t.split x.0 x.1.0 x.1.1) (seq (in_brackets whole) (seq part part)))
    last_certs))))

unfoldable pub certificate : Shape Cert
certificate =
    alt (k.Hyp ▸ act t.hyp number)
    (alt (k.Clash ▸ act t.clash number)
    (alt (k.Absurd ▸ act (λ x. t.absurdity x.0 x.1) (seq number number))
    (alt (k.And ▸ act (λ x. t.and x.0 x.1) (seq part part))
    more_certs)))

-- proof := NUMBER ":" cert
unfoldable pub proof : Shape (ℕ × Placed Cert)
proof = seq number (k.Colon ▸ placed (rule cert))

-- [ by ], by := "by" "{" proof ( "," proof )* "}"
unfoldable pub proofs : Shape Proofs
proofs = listed (k.By ▸ k.OpenBrace ▸ separated k.Comma proof ◂ k.CloseBrace)

-- Statements --------------------------------------------------------------------------------------------------

-- type := NAME ":" expr
abbrev pub type_of_name : Shape (ℕ × Placed Term)
type_of_name = seq name (k.Colon ▸ whole)

-- [ ";" type ( "," type )* ]
unfoldable pub types : Shape (List (ℕ × Placed Term))
types = listed (k.Semicolon ▸ separated k.Comma type_of_name)

-- state := "{" [ expr ( "," expr )* ] [ ";" type ( "," type )* ] "}"
unfoldable pub state : Shape State
state =
    act (λ x. record { at = x.0.at; preds = x.1.0; types = x.1.1 })
    (seq (token k.OpenBrace) (seq (listed (separated k.Comma whole)) types ◂ k.CloseBrace))

-- "retype" NAME "as" expr
unfoldable pub retype : Shape (ℕ × Placed Term)
retype = k.Retype ▸ seq name (k.As ▸ whole)

-- stmt := "skip" ";"
--       | NAME ":=" expr [ "as" expr ] ( "retype" NAME "as" expr )* [ by ] ";"
--       | "lock" NAME ";"
--       | "unlock" NAME [ by ] ";"
--       | "if" expr block "else" block [ "join" state ] [ by ]
--       | "while" expr [ "inv" state ] block [ by ]
--       | "note" state [ by ] ";"
--       | "output" expr [ by ] ";"
--
-- The longer ones have a definition of their own: what stands behind the name, behind "if" and behind "while".
unfoldable pub assigned : Shape (Placed Term × (Option (Placed Term) × (Retypes × Proofs)))
assigned = seq (k.Assign ▸ whole) (seq (opt (k.As ▸ whole)) (seq (many retype) (proofs ◂ k.Semicolon)))

unfoldable pub branched : Shape Stm
branched = act (λ x. branch x.0 x.1.0 x.1.1.0 x.1.1.1.0 x.1.1.1.1) (seq whole (seq (rule block) (seq (k.Else ▸ rule block) (seq (opt (k.Join ▸ state)) proofs))))

unfoldable pub looped : Shape Stm
looped = act (λ x. loop x.0 x.1.0 x.1.1.0 x.1.1.1) (seq whole (seq (opt (k.Inv ▸ state)) (seq (rule block) proofs)))

unfoldable pub statement : Shape Stm
statement =
    alt (k.Skip ▸ sign k.Semicolon skip)
    (alt (act (λ x. assign x.0 x.1.0 x.1.1.0 x.1.1.1.0 x.1.1.1.1) (seq name assigned))
    (alt (k.Lock ▸ act lock name ◂ k.Semicolon)
    (alt (k.Unlock ▸ act (λ x. unlock x.0 x.1) (seq name proofs) ◂ k.Semicolon)
    (alt (k.If ▸ branched)
    (alt (k.While ▸ looped)
    (alt (k.Note ▸ act (λ x. note x.0 x.1) (seq state proofs) ◂ k.Semicolon)
    (k.Output ▸ act (λ x. output x.0 x.1) (seq whole proofs) ◂ k.Semicolon)))))))

-- block := "{" stmt* "}"
unfoldable pub braces : Shape Block
braces = act (λ x. t.block x.0.at x.1.1.at (stms x.1.0)) (seq (token k.OpenBrace) (seq (many (placed statement)) (token k.CloseBrace)))

-- Declarations ------------------------------------------------------------------------------------------------

abbrev pub low_or : Option (Placed Term) → Class
low_or None = low
low_or (Some e) = low_when e

-- class := "low" | "high" | "low" "when" expr, written as "low" [ "when" expr ] | "high", which is the same: two of the
-- three begin with "low"
unfoldable pub class : Shape Class
class = alt (k.Low ▸ act low_or (opt (k.When ▸ whole))) (sign k.High high)

-- var := "var" NAME ":" class ";"
unfoldable pub var_decl : Shape Var
var_decl = act (λ x. record { name = x.0; class = x.1 }) (k.Var ▸ seq named (k.Colon ▸ class) ◂ k.Semicolon)

-- lock := "lock" NAME [ "nowrite" names ] [ "hide" names ] [ "inv" expr ] ";"
unfoldable pub lock_decl : Shape Lock
lock_decl =
    act (λ x. record { name = x.0; nowrite = x.1.0; hide = x.1.1.0; inv = x.1.1.1 })
    (k.Lock ▸ seq named (seq (listed (k.Nowrite ▸ names)) (seq (listed (k.Hide ▸ names)) (opt (k.Inv ▸ whole)))) ◂ k.Semicolon)

abbrev pub two_lists : Option (List ℕ × List ℕ) → List ℕ × List ℕ
two_lists None = ([], [])
two_lists (Some x) = x

-- behind the word: "nowrite" names [ word "hide" names ] | "hide" names
unfoldable pub modes_behind : Kind → Shape (List ℕ × List ℕ)
modes_behind j = alt (k.Nowrite ▸ seq names (listed (j ▸ k.Hide ▸ names))) (k.Hide ▸ act (λ xs. ([], xs)) names)

-- [ word "nowrite" names ] [ word "hide" names ], written as [ word modes_behind ]. Both parts begin with the same word, so
-- it takes the token behind that to know which one begins. The same is spelled: both parts, either of them, or none.
unfoldable pub two_modes : Kind → Shape (List ℕ × List ℕ)
two_modes j = act two_lists (opt (j ▸ modes_behind j))

-- thread := "thread" NAME [ "assume" "nowrite" names ] [ "assume" "hide" names ]
--           [ "guarantee" "nowrite" names ] [ "guarantee" "hide" names ] block
unfoldable pub thread_decl : Shape Thread
thread_decl =
    act (λ x. record { name = x.0; modes = record { assume_nowrite = x.1.0.0; assume_hide = x.1.0.1; guarantee_nowrite = x.1.1.0.0; guarantee_hide = x.1.1.0.1 }; body = x.1.1.1 })
    (k.Thread ▸ seq named (seq (two_modes k.Assume) (seq (two_modes k.Guarantee) (rule block))))

-- the version of a text: 2 is the one that a text names, since another number is foreign there
abbrev pub version_of : Option ℕ → ℕ
version_of None = 1
version_of (Some n) = 2

-- "version" NUMBER ";"
unfoldable pub version : Shape ℕ
version = k.Version ▸ number ◂ k.Semicolon

-- program := [ "version" NUMBER ";" ] var* lock* thread*
unfoldable pub program : Shape Program
program =
    act (λ x. record { version = version_of x.0; vars = x.1.0; locks = x.1.1.0; threads = x.1.1.1 })
    (seq (opt version) (seq (many var_decl) (seq (many lock_decl) (many thread_decl))))

-- Rules -------------------------------------------------------------------------------------------------------

-- the right sides of the rules that stand within themselves
unfoldable pub body : (r : Rule) → Shape (Meaning r)
body expr = either atom
body template = either template_atom
body cert = certificate
body block = braces
