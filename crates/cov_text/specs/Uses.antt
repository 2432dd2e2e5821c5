-- The names that a text uses.
use Rattle.std.specs.Prelude.{◌≡◌, List, [], ◌∷◌, ◌++◌, map, Bool, false, if◌then◌else◌, ◌||◌}
use Rattle.cov_expr.specs.Term.{Term}
use Rattle.cov_ast.specs.Ready as ready
use Rattle.cov_ast.specs.declared.parsed.NameUse.{NameUse}
use Rattle.cov_expr.specs.declared.kind.Kind.{Kind}
use Rattle.cov_expr.specs.declared.kind.Kind.TheVariants as k
use Rattle.cov_grammar.specs.declared.token.Token.{Token}
use Rattle.cov_grammar.specs.LookAhead.{kind_is}

-- A name behind a token is declared there: a variable, a thread, or, in front of all threads, a lock.
abbrev pub declares : (in_thread : Bool) → (before : Kind) → Bool
declares in_thread before = kind_is k.Var before || kind_is k.Thread before || (if in_thread then false else kind_is k.Lock before)

-- A name behind a token is that of a lock.
abbrev pub is_lock : (before : Kind) → Bool
is_lock before = kind_is k.Lock before || kind_is k.Unlock before

-- the use that a token is behind another
abbrev pub use_of : (in_thread : Bool) → (before : Kind) → Token → List NameUse
use_of in_thread before t =
    if kind_is k.Name t.kind then (if declares in_thread before then [] else record { name = t.value; lock = is_lock before; at = t.at } ∷ []) else []

abbrev pub uses_behind : (in_thread : Bool) → (before : Kind) → List Token → List NameUse
uses_behind in_thread before [] = []
uses_behind in_thread before (t ∷ ts) = use_of in_thread before t ++ uses_behind (in_thread || kind_is k.Thread t.kind) t.kind ts

-- Every use of a name, in the order of the text. In front of the first token nothing is declared.
abbrev pub uses_of : List Token → List NameUse
uses_of ts = uses_behind false k.Semicolon ts

-- The uses are those of the variables of an expression, in the order of the text: one for each place of a variable, and
-- none of a lock.
abbrev pub AreUsesOf : List NameUse → Term → Type 0
AreUsesOf uses e = map ready.use_of uses ≡ ready.uses_in e
