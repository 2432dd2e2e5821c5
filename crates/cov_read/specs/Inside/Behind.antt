-- What stands behind the word of a certificate and of a statement, where it is more than one thing, and parts of longer rules.
use Rattle.std.specs.Prelude.{ℕ, List, Option}
use Rattle.cov_expr.specs.Term.{Term}
use Rattle.cov_expr.specs.declared.kind.Kind.TheVariants as k
use Rattle.cov_grammar.specs.PlacedTrees.{Placed, Named, Cert, Proofs, Retypes, State, Stm, Block, template, block}
use Rattle.cov_grammar.specs.PlacedTrees as t
use Rattle.cov_grammar.specs.Shapes.{Shape, rule, seq, opt, many, act, placed}
use Rattle.cov_grammar.specs.Grammar.{◌▸◌, ◌◂◌, listed, name, named, names, number, whole, in_brackets, arguments, part, proofs, state, retype, assigned, two_modes}

-- Certificates -------------------------------------------------------------------------------------------------

abbrev pub absurd : Shape Cert
absurd = act (λ x. t.absurdity x.0 x.1) (seq number number)

abbrev pub both : Shape Cert
both = act (λ x. t.and x.0 x.1) (seq part part)

abbrev pub unpack : Shape Cert
unpack = act (λ x. t.unpack x.0 x.1) (seq number part)

abbrev pub cases : Shape Cert
cases = act (λ x. t.cases x.0 x.1.0 x.1.1) (seq number (seq part part))

abbrev pub split : Shape Cert
split = act (λ x. t.split x.0 x.1.0 x.1.1) (seq (in_brackets whole) (seq part part))

abbrev pub have : Shape Cert
have = act (λ x. t.have x.0 x.1.0 x.1.1) (seq (in_brackets whole) (seq part part))

abbrev pub fwd : Shape Cert
fwd = act (λ x. t.fwd x.0 x.1.0 x.1.1) (seq number (seq (in_brackets (placed (rule template))) part))

abbrev pub rev : Shape Cert
rev = act (λ x. t.rev x.0 x.1.0 x.1.1) (seq number (seq (in_brackets (placed (rule template))) part))

abbrev pub instance : Shape Cert
instance = act (λ x. t.instance x.0 x.1.0 x.1.1) (seq number (seq arguments part))

-- Statements ---------------------------------------------------------------------------------------------------

-- an assignment, its name too
abbrev pub assign : Shape Stm
assign = act (λ x. t.assign x.0 x.1.0 x.1.1.0 x.1.1.1.0 x.1.1.1.1) (seq name assigned)

-- what stands behind the class of an assignment
abbrev pub retyped : Shape (Retypes × Proofs)
retyped = seq (many retype) (proofs ◂ k.Semicolon)

abbrev pub lock : Shape Stm
lock = act t.lock name ◂ k.Semicolon

abbrev pub unlock : Shape Stm
unlock = act (λ x. t.unlock x.0 x.1) (seq name proofs) ◂ k.Semicolon

abbrev pub note : Shape Stm
note = act (λ x. t.note x.0 x.1) (seq state proofs) ◂ k.Semicolon

abbrev pub output : Shape Stm
output = act (λ x. t.output x.0 x.1) (seq whole proofs) ◂ k.Semicolon

-- what stands behind the first block of a branch
abbrev pub otherwise : Shape (Block × (Option State × Proofs))
otherwise = seq (k.Else ▸ rule block) (seq (opt (k.Join ▸ state)) proofs)

-- what stands behind both blocks of a branch
abbrev pub joined : Shape (Option State × Proofs)
joined = seq (opt (k.Join ▸ state)) proofs

-- Declarations -------------------------------------------------------------------------------------------------

-- what stands between "lock" and its semicolon
abbrev pub lock_parts : Shape (Named × (List ℕ × (List ℕ × Option (Placed Term))))
lock_parts = seq named (seq (listed (k.Nowrite ▸ names)) (seq (listed (k.Hide ▸ names)) (opt (k.Inv ▸ whole))))

-- what stands behind the name of a thread
abbrev pub thread_parts : Shape ((List ℕ × List ℕ) × ((List ℕ × List ℕ) × Block))
thread_parts = seq (two_modes k.Assume) (seq (two_modes k.Guarantee) (rule block))
