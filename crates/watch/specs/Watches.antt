-- What a watch keeps. The type of its test has parameters of the form that each boxed closure has.
use Rattle.std.specs.Prelude.{ℕ}
use Rattle.cov_expr.specs.Term.{Term}
use Rattle.cov_expr.specs.View.{term}
use Rattle.watch.specs.declared.watch.Watch.{Watch}

-- the expression that the test is for
abbrev pub expr_of : {X : Type 0} {F : X → Type 0} {M : _} → Watch X F M → Term
expr_of w = term w.expr

-- of how many words the memories are that it may be asked of
abbrev pub words_of : {X : Type 0} {F : X → Type 0} {M : _} → Watch X F M → ℕ
words_of w = w.words
