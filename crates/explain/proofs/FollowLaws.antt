-- What could stand behind the tokens of a text could stand behind its bytes.
use Rattle.std.proofs.Common.{◌≡◌, ℕ, List, [], ◌∷◌, ◌++◌, map, Bool, true, false, ◌&&◌, ◌||◌, not, if◌then◌else◌, Ok, Err, is_ok, refl, sym, ap, subst, ◌∙◌}
use Rattle.std.specs.List.{filter}
use Rattle.cov_expr.specs.Spellings.{spellings}
use Rattle.cov_expr.specs.declared.kind.Kind.{Kind}
use Rattle.cov_expr.specs.declared.kind.Kind.TheVariants as k
use Rattle.cov_grammar.proofs.Basics.{kind_one}
use Rattle.cov_grammar.specs.declared.token.Token.{Token}
use Rattle.cov_grammar.specs.LookAhead.{kind_is}
use Rattle.cov_lex.specs.Lexing.{tokens_of}
use Rattle.cov_lex.specs.declared.fault.LexFault.{LexFault}
use Rattle.cov_parse.specs.ReadTokens.{AreRead}
use Rattle.cov_parse.specs.declared.tokens.Tokens.{Tokens}
use Rattle.cov_text.specs.Numbered as numbered
use Rattle.cov_text.specs.Text.{or_none, lexed_of, numbered_of, words_of}
use Rattle.cov_text.specs.Versioned.{versioned, of_first, foreign, behind_version, is_other_number}
use Rattle.explain.specs.ExpectedLines.{are_version}
use Rattle.explain.specs.ExpectedTokens.{is_front, is_whole, token_of, could_stand, of_kinds, candidates, following}
use Rattle.explain.specs.Inside.Following.{fitted, names_version, could_follow}
use Rattle.explain.specs.declared.next.Next.{Next}
use Rattle.explain.specs.declared.next.Next.TheVariants as n

-- Lists --------------------------------------------------------------------------------------------------------

-- all but the last
front_of : {A : Type 0} → List A → List A
front_of [] = []
front_of (x ∷ []) = []
front_of (x ∷ y ∷ ys) = x ∷ front_of (y ∷ ys)

front_snoc : {A : Type 0} (xs : List A) (x : A) → front_of (xs ++ x ∷ []) ≡ xs
unfolding front_of
front_snoc [] x = refl
front_snoc (y ∷ []) x = refl
front_snoc (y ∷ z ∷ zs) x = ap (λ us. y ∷ us) (front_snoc (z ∷ zs) x)

-- a list whose last item was put there and is taken off again
pub last_off : {A : Type 0} (old long new : List A) (x y : A) → long ≡ old ++ x ∷ [] → long ≡ new ++ y ∷ [] → new ≡ old
last_off old long new x y put taken = sym (front_snoc new y) ∙ ap front_of (sym taken ∙ put) ∙ front_snoc old x

map_snoc : {A B : Type 0} (f : A → B) (xs : List A) (x : A) → map f (xs ++ x ∷ []) ≡ map f xs ++ f x ∷ []
map_snoc f [] x = refl
map_snoc f (y ∷ ys) x = ap (λ us. f y ∷ us) (map_snoc f ys x)

filter_alike : {A : Type 0} (f g : A → Bool) → ((x : A) → f x ≡ g x) → (xs : List A) → filter f xs ≡ filter g xs
filter_alike f g h [] = refl
filter_alike f g h (x ∷ xs) = ap (λ b. if b then x ∷ filter f xs else filter f xs) (h x) ∙ ap (λ us. if g x then x ∷ us else us) (filter_alike f g h xs)

filter_none : {A : Type 0} (f : A → Bool) → ((x : A) → f x ≡ false) → (xs : List A) → filter f xs ≡ []
filter_none f h [] = refl
filter_none f h (x ∷ xs) = ap (λ b. if b then x ∷ filter f xs else filter f xs) (h x) ∙ filter_none f h xs

-- Versions -----------------------------------------------------------------------------------------------------

-- 2 may stand behind `version`
no_other : (j : Kind) → is_other_number (token_of j) ≡ false
no_other j = by (kind_is k.Number j)
  where
    by : (b : Bool) → (b && false) ≡ false
    by true = refl
    by false = refl

-- a token as version 1 has it
of_version_one : (j : Kind) → of_first (token_of j) ≡ (if kind_is k.Output j && true then foreign (token_of j) else token_of j)
of_version_one j = by (kind_is k.Output j)
  where
    by : (b : Bool) → (if b then foreign (token_of j) else token_of j) ≡ (if b && true then foreign (token_of j) else token_of j)
    by true = refl
    by false = refl

-- a token as version 2 has it
of_version_two : (j : Kind) → token_of j ≡ (if kind_is k.Output j && false then foreign (token_of j) else token_of j)
of_version_two j = by (kind_is k.Output j)
  where
    by : (b : Bool) → token_of j ≡ (if b && false then foreign (token_of j) else token_of j)
    by true = refl
    by false = refl

-- a token behind others of a version, by whether they name it
fitted_two : (j : Kind) (us : List Token) → names_version us ≡ true → fitted us j ≡ token_of j
fitted_two j us h = ap (λ b. if kind_is k.Output j && not b then foreign (token_of j) else token_of j) h ∙ sym (of_version_two j)

fitted_one : (j : Kind) (us : List Token) → names_version us ≡ false → of_first (token_of j) ≡ fitted us j
fitted_one j us h = of_version_one j ∙ ap (λ b. if kind_is k.Output j && not b then foreign (token_of j) else token_of j) (sym h)

-- behind `version`
behind_snoc : (j : Kind) (ts : List Token) → behind_version (ts ++ token_of j ∷ []) ≡ behind_version ts ++ token_of j ∷ []
behind_snoc j [] = ap (λ b. (if b then foreign (token_of j) else token_of j) ∷ []) (no_other j)
behind_snoc j (u ∷ us) = refl

abbrev is_version : Token → Bool
is_version t = kind_is k.Version t.kind

foreign_other : (t : Token) → is_version (foreign t) ≡ false
unfolding kind_is
foreign_other t = refl

-- no token becomes `version`
first_other : (t : Token) → is_version t ≡ false → is_version (of_first t) ≡ false
first_other t h = by (kind_is k.Output t.kind)
  where
    by : (b : Bool) → is_version (if b then foreign t else t) ≡ false
    by true = foreign_other t
    by false = h

version_fits : token_of k.Version ≡ fitted [] k.Version
unfolding kind_is
version_fits = refl

abbrev FitsAfter : Kind → (one two : List Token) → Type 0
FitsAfter j one two = one ≡ two ++ fitted two j ∷ []

first_fits : (j : Kind) (b : Bool) → kind_is k.Version j ≡ b → (if b then token_of j ∷ [] else of_first (token_of j) ∷ []) ≡ fitted [] j ∷ []
first_fits j true e = ap (λ t. t ∷ []) (subst (λ i. token_of i ≡ fitted [] i) (kind_one k.Version j e) version_fits)
first_fits j false e = ap (λ t. t ∷ []) (fitted_one j [] refl)

later_fits : (j : Kind) (t : Token) (ts : List Token) (b : Bool) → is_version t ≡ b
    → FitsAfter j (if b then t ∷ behind_version (ts ++ token_of j ∷ []) else map of_first (t ∷ (ts ++ token_of j ∷ []))) (if b then t ∷ behind_version ts else map of_first (t ∷ ts))
later_fits j t ts true e =
    ap (λ us. t ∷ us) (behind_snoc j ts)
    ∙ ap (λ u. t ∷ (behind_version ts ++ u ∷ [])) (sym (fitted_two j (t ∷ behind_version ts) (ap (λ b. b || false) e)))
later_fits j t ts false e =
    ap (λ us. of_first t ∷ us) (map_snoc of_first ts (token_of j))
    ∙ ap (λ u. of_first t ∷ (map of_first ts ++ u ∷ [])) (fitted_one j (of_first t ∷ map of_first ts) (ap (λ b. b || false) (first_other t e)))

-- tokens and one behind them, each as its version has it
versioned_snoc : (j : Kind) (ts : List Token) → FitsAfter j (versioned (ts ++ token_of j ∷ [])) (versioned ts)
versioned_snoc j [] = first_fits j (kind_is k.Version j) refl
versioned_snoc j (t ∷ ts) = later_fits j t ts (is_version t) refl

-- Texts --------------------------------------------------------------------------------------------------------

follows_alike : (front : List ℕ) (ws : List Token) → ws ≡ words_of front → (next : Next) → could_follow ws next ≡ could_stand front next
unfolding words_of
follows_alike front ws same (n.Token j) = ap (λ us. is_front (us ++ fitted us j ∷ [])) same ∙ ap is_front (sym (versioned_snoc j (numbered_of front)))
follows_alike front ws same n.End = ap is_whole same

-- behind bytes that have tokens
pub behind_tokens : (front : List ℕ) (r : Tokens) → AreRead front (Ok r) → filter (could_follow r.tokens) candidates ≡ following front
unfolding following
behind_tokens front r read =
    filter_alike (could_follow r.tokens) (λ next. is_ok (tokens_of front) && could_stand front next)
    (λ next. follows_alike front r.tokens read.2 next ∙ sym (ap (λ b. b && could_stand front next) (ap is_ok read.0))) candidates

-- behind bytes that have none
pub behind_fault : (front : List ℕ) (e : LexFault) → tokens_of front ≡ Err e → [] ≡ following front
unfolding following
behind_fault front e h =
    sym (filter_none (λ next. is_ok (tokens_of front) && could_stand front next) (λ next. ap (λ b. b && could_stand front next) (ap is_ok h)) candidates)

-- whether bytes are `version` alone, by their tokens
pub version_read : (front : List ℕ) (r : Tokens) → AreRead front (Ok r) → are_version r.tokens ≡ are_version (words_of front)
version_read front r read = ap are_version read.2

pub version_fault : (front : List ℕ) (e : LexFault) → tokens_of front ≡ Err e → false ≡ are_version (words_of front)
unfolding words_of numbered_of lexed_of
version_fault front e h = sym (ap (λ r. are_version (versioned (numbered.words_of front (or_none r)))) h)

-- Candidates ---------------------------------------------------------------------------------------------------

pub filter_parts : {A : Type 0} (f : A → Bool) (xs ys : List A) → filter f (xs ++ ys) ≡ filter f xs ++ filter f ys
filter_parts f [] ys = refl
filter_parts f (x ∷ xs) ys = by (f x) (filter_parts f xs ys)
  where
    by : (b : Bool) → filter f (xs ++ ys) ≡ filter f xs ++ filter f ys
        → (if b then x ∷ filter f (xs ++ ys) else filter f (xs ++ ys)) ≡ (if b then x ∷ filter f xs else filter f xs) ++ filter f ys
    by true h = ap (λ us. x ∷ us) h
    by false h = h

-- the candidates in four parts
in_parts : (f : Next → Bool)
    → ((filter f (n.Token k.Name ∷ []) ++ filter f (n.Token k.Number ∷ [])) ++ filter f (of_kinds spellings)) ++ filter f (n.End ∷ []) ≡ filter f candidates
in_parts f =
    sym (ap (λ us. (us ++ filter f (of_kinds spellings)) ++ filter f (n.End ∷ [])) (filter_parts f (n.Token k.Name ∷ []) (n.Token k.Number ∷ [])))
    ∙ sym (ap (λ us. us ++ filter f (n.End ∷ [])) (filter_parts f (n.Token k.Name ∷ n.Token k.Number ∷ []) (of_kinds spellings)))
    ∙ sym (filter_parts f (n.Token k.Name ∷ n.Token k.Number ∷ of_kinds spellings) (n.End ∷ []))

-- what is found part by part, while the tokens stay, is all that is found
pub all_found : (ts one two three : List Token) (none first second third all : List Next) → none ≡ [] → one ≡ ts → two ≡ one → three ≡ two
    → first ≡ none ++ filter (could_follow ts) (n.Token k.Name ∷ []) → second ≡ first ++ filter (could_follow one) (n.Token k.Number ∷ [])
    → third ≡ second ++ filter (could_follow two) (of_kinds spellings) → all ≡ third ++ filter (could_follow three) (n.End ∷ [])
    → all ≡ filter (could_follow ts) candidates
all_found ts one two three none first second third all empty h1 h2 h3 e1 e2 e3 e4 =
    let f = could_follow ts in
    let g2 : two ≡ ts = h2 ∙ h1 in
    let g3 : three ≡ ts = h3 ∙ g2 in
    let a1 : first ≡ filter f (n.Token k.Name ∷ []) = e1 ∙ ap (λ us. us ++ filter f (n.Token k.Name ∷ [])) empty in
    let a2 : second ≡ filter f (n.Token k.Name ∷ []) ++ filter f (n.Token k.Number ∷ []) =
    e2 ∙ ap (λ us. first ++ filter (could_follow us) (n.Token k.Number ∷ [])) h1 ∙ ap (λ us. us ++ filter f (n.Token k.Number ∷ [])) a1 in
    let a3 : third ≡ (filter f (n.Token k.Name ∷ []) ++ filter f (n.Token k.Number ∷ [])) ++ filter f (of_kinds spellings) =
    e3 ∙ ap (λ us. second ++ filter (could_follow us) (of_kinds spellings)) g2 ∙ ap (λ us. us ++ filter f (of_kinds spellings)) a2 in
    e4 ∙ ap (λ us. third ++ filter (could_follow us) (n.End ∷ [])) g3 ∙ ap (λ us. us ++ filter f (n.End ∷ [])) a3 ∙ in_parts f
