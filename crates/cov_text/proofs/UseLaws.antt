-- The uses of names in a text, token by token.
use Rattle.std.proofs.Common.{◌≡◌, List, [], ◌∷◌, ◌++◌, map, Bool, true, false, if◌then◌else◌, ◌||◌, refl, ap, ◌∙◌}
use Rattle.std.proofs.Math.Bool.{or-true, or-false}
use Rattle.cov_expr.specs.declared.kind.Kind.{Kind}
use Rattle.cov_expr.specs.declared.kind.Kind.TheVariants as k
use Rattle.cov_grammar.specs.declared.token.Token.{Token}
use Rattle.cov_grammar.specs.LookAhead.{kind_is}
use Rattle.cov_grammar.proofs.Basics.{kind_itself, left_false, right_false}
use Rattle.cov_ast.specs.Ready.{Use, as_variable, as_lock}
use Rattle.cov_ast.specs.Ready as ready
use Rattle.cov_text.specs.Uses.{declares, is_lock, uses_behind}

-- Uses of names behind a token ---------------------------------------------------------------------------------

abbrev pub uses_from : (in_thread : Bool) → (before : Kind) → List Token → List Use
uses_from in_thread before ts = map ready.use_of (uses_behind in_thread before ts)

-- a name behind such a token is that of a variable: it isn't declared there, and no lock
abbrev pub IsSilent : Kind → Type 0
IsSilent before = (declares false before || is_lock before) ≡ false

-- such a token is no name, and silent
abbrev pub IsPlain : Kind → Type 0
IsPlain j = (kind_is k.Name j || (declares false j || is_lock j)) ≡ false

pub plain_silent : (j : Kind) → IsPlain j → IsSilent j
plain_silent j p = right_false (kind_is k.Name j) (declares false j || is_lock j) p

pub plain_no_thread : (j : Kind) → IsPlain j → kind_is k.Thread j ≡ false
plain_no_thread j p =
    right_false (kind_is k.Var j) (kind_is k.Thread j)
    (left_false (kind_is k.Var j || kind_is k.Thread j) (kind_is k.Lock j)
    (left_false (declares false j) (is_lock j) (right_false (kind_is k.Name j) (declares false j || is_lock j) p)))

abbrev token_uses : (b name thread lock declared : Bool) → Token → (Bool → List Use) → List Use
token_uses b name thread lock declared t rest =
    map ready.use_of (if name then (if declared then [] else record { name = t.value; lock = lock; at = t.at } ∷ []) else []) ++ rest (b || thread)

map_if : (name declared lock : Bool) (t : Token) (us : List Rattle.cov_ast.specs.declared.parsed.NameUse.NameUse) (b : Bool) → map ready.use_of ((if name then (if declared then [] else record { name = t.value; lock = lock; at = t.at } ∷ []) else []) ++ us) ≡ token_uses b name false lock declared t (λ c. map ready.use_of us)
map_if true true lock t us b = refl
map_if true false lock t us b = refl
map_if false declared lock t us b = refl

-- a token by its kind
uses_at_token : (b : Bool) (before : Kind) (t : Token) (ts : List Token) (name thread lock declared : Bool)
    → kind_is k.Name t.kind ≡ name → kind_is k.Thread t.kind ≡ thread → is_lock before ≡ lock → declares b before ≡ declared
    → uses_from b before (t ∷ ts) ≡ token_uses b name thread lock declared t (λ c. uses_from c t.kind ts)
uses_at_token b before t ts name thread lock declared n h l d =
    map_if (kind_is k.Name t.kind) (declares b before) (is_lock before) t (uses_behind (b || kind_is k.Thread t.kind) t.kind ts) b
    ∙ ap (λ x. token_uses b x (kind_is k.Thread t.kind) (is_lock before) (declares b before) t (λ c. uses_from c t.kind ts)) n
    ∙ ap (λ x. token_uses b name x (is_lock before) (declares b before) t (λ c. uses_from c t.kind ts)) h
    ∙ ap (λ x. token_uses b name thread x (declares b before) t (λ c. uses_from c t.kind ts)) l
    ∙ ap (λ x. token_uses b name thread lock x t (λ c. uses_from c t.kind ts)) d

-- what isn't declared in front of all threads isn't declared in them either
no_declare : (x l b : Bool) → (x || l) ≡ false → (x || (if b then false else l)) ≡ false
no_declare true l b h = h
no_declare false l true h = refl
no_declare false l false h = h

-- a token that is no name and begins no thread
pub uses_at_sign : (b : Bool) (before : Kind) (t : Token) (ts : List Token) → kind_is k.Name t.kind ≡ false → kind_is k.Thread t.kind ≡ false → uses_from b before (t ∷ ts) ≡ uses_from b t.kind ts
uses_at_sign b before t ts n h =
    uses_at_token b before t ts false false (is_lock before) (declares b before) n h refl refl
    ∙ ap (λ c. uses_from c t.kind ts) (or-false b)

-- a token that begins a thread
pub uses_at_thread : (b : Bool) (before : Kind) (t : Token) (ts : List Token) → t.kind ≡ k.Thread → uses_from b before (t ∷ ts) ≡ uses_from true k.Thread ts
unfolding kind_is
uses_at_thread b before t ts e =
    uses_at_token b before t ts false true (is_lock before) (declares b before) (ap (kind_is k.Name) e) (ap (kind_is k.Thread) e) refl refl
    ∙ ap (λ c. uses_from c t.kind ts) (or-true b) ∙ ap (λ j. uses_from true j ts) e

name_is : (t : Token) → t.kind ≡ k.Name → kind_is k.Name t.kind ≡ true
name_is t e = ap (kind_is k.Name) e ∙ kind_itself k.Name

no_thread : (t : Token) → t.kind ≡ k.Name → kind_is k.Thread t.kind ≡ false
unfolding kind_is
no_thread t e = ap (kind_is k.Thread) e

-- a name, by what stands in front of it
pub uses_at_variable : (b : Bool) (before : Kind) (t : Token) (ts : List Token) → IsSilent before → t.kind ≡ k.Name → uses_from b before (t ∷ ts) ≡ as_variable t.value ++ uses_from b k.Name ts
uses_at_variable b before t ts s e =
    uses_at_token b before t ts true false false false (name_is t e) (no_thread t e)
    (right_false (declares false before) (is_lock before) s)
    (no_declare (kind_is k.Var before || kind_is k.Thread before) (kind_is k.Lock before) b (left_false (declares false before) (is_lock before) s))
    ∙ ap (λ c. as_variable t.value ++ uses_from c t.kind ts) (or-false b) ∙ ap (λ j. as_variable t.value ++ uses_from b j ts) e

pub uses_at_declared : (b : Bool) (before : Kind) (t : Token) (ts : List Token) → declares b before ≡ true → t.kind ≡ k.Name → uses_from b before (t ∷ ts) ≡ uses_from b k.Name ts
uses_at_declared b before t ts d e =
    uses_at_token b before t ts true false (is_lock before) true (name_is t e) (no_thread t e) refl d
    ∙ ap (λ c. uses_from c t.kind ts) (or-false b) ∙ ap (λ j. uses_from b j ts) e

pub uses_at_lock : (b : Bool) (before : Kind) (t : Token) (ts : List Token) → declares b before ≡ false → is_lock before ≡ true → t.kind ≡ k.Name → uses_from b before (t ∷ ts) ≡ as_lock t.value ++ uses_from b k.Name ts
uses_at_lock b before t ts d l e =
    uses_at_token b before t ts true false true false (name_is t e) (no_thread t e) l d
    ∙ ap (λ c. as_lock t.value ++ uses_from c t.kind ts) (or-false b) ∙ ap (λ j. as_lock t.value ++ uses_from b j ts) e
