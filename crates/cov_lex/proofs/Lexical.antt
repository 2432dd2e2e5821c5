-- The tokens without their kinds are those of the lexer's reading.
use Rattle.std.proofs.Common.{◌≡◌, ℕ, ◌-◌, ◌<◌, List, [], ◌∷◌, length, length-take, length-drop, map, get_or, drop, Bool, true, false, if◌then◌else◌, Some, Result, Ok, Err, refl, sym, ap, ◌∙◌, arith, true≢false}
use Rattle.std.proofs.lemmas.Bool.{and_parts}
use Rattle.std.proofs.lemmas.List.{get_or-drop, get_or-take, get_or-map, length-map}
use Rattle.std.proofs.lemmas.List.Elements.{recursion_from_All}
use Rattle.std.specs.List.{list_all, AllByRecursion}
use Rattle.std.specs.Option.{is_some, unwrap_or}
use Rattle.std.specs.Str.{bytes_eq}
use Rattle.cov_expr.specs.Bytes.{is_lower}
use Rattle.cov_expr.specs.declared.kind.Kind.{Kind}
use Rattle.cov_expr.specs.declared.kind.Kind.TheVariants as k
use Rattle.cov_expr.specs.Spellings.{spellings, kind_among, kind_of, begins_with_letter, is_keyword}
use Rattle.cov_grammar.specs.declared.token.Token as grammar
use Rattle.cov_lex.specs.declared.token.Token.{Token}
use Rattle.cov_lex.specs.declared.token.TokenKind.{TokenKind}
use Rattle.cov_lex.specs.declared.token.TokenKind.TheVariants.{Keyword, Name, Number, Sign}
use Rattle.cov_lex.specs.declared.fault.LexFault.{LexFault}
use Rattle.cov_lex.specs.declared.fault.LexFault.TheVariants as faults
use Rattle.cov_lex.specs.Tokens.{Spells, IsToken, bytes_of}
use Rattle.cov_lex.specs.Classified as spec
use Rattle.cov_lex.specs.Classified.{classified, all_classified, classified_of, AreClassified}
use Rattle.cov_lex.specs.Lexing.{Lexed, tokens_of, Gives}
use Rattle.cov_lex.specs.Inside.{lexical, lexical_kind}
use Rattle.cov_lex.proofs.Signs.{sign_begins}
use Rattle.cov_lex.proofs.Spelled.{are_tokens}

-- Kinds of the table -------------------------------------------------------------------------------------------

-- neither a name nor a number
abbrev pub is_mute : Kind → Bool
is_mute k.Name = false
is_mute k.Number = false
is_mute _ = true

all_mute : list_all (λ s. is_mute s.1) spellings ≡ true
unfolding spellings
all_mute = refl

mute_among : (text : List ℕ) (ss : List (List ℕ × Kind)) → list_all (λ s. is_mute s.1) ss ≡ true → is_some (kind_among ss text) ≡ true → is_mute (unwrap_or (kind_among ss text) k.Name) ≡ true
mute_among text [] all h = absurd (true≢false (sym h))
mute_among text (s ∷ ss) all h =
    let parts = and_parts (is_mute s.1) (list_all (λ x. is_mute x.1) ss) all in
    by (bytes_eq text s.0) h parts.0 (mute_among text ss parts.1)
  where
    by : (b : Bool) → is_some (if b then Some s.1 else kind_among ss text) ≡ true → is_mute s.1 ≡ true → (is_some (kind_among ss text) ≡ true → is_mute (unwrap_or (kind_among ss text) k.Name) ≡ true)
        → is_mute (unwrap_or (if b then Some s.1 else kind_among ss text) k.Name) ≡ true
    by true g m rest = m
    by false g m rest = rest g

-- a spelling's kind is neither that of a name nor that of a number
pub spelled_is_mute : (text : List ℕ) → is_some (kind_of text) ≡ true → is_mute (unwrap_or (kind_of text) k.Name) ≡ true
unfolding kind_of
spelled_is_mute text h = mute_among text spellings all_mute h

pub keyword_parts : (text : List ℕ) → is_keyword text ≡ true → (begins_with_letter text ≡ true) × (is_some (kind_of text) ≡ true)
unfolding is_keyword
keyword_parts text h = and_parts (begins_with_letter text) (is_some (kind_of text)) h

mute_kind : (j : Kind) (value first : ℕ) → is_mute j ≡ true → lexical_kind j value first ≡ (if is_lower first then Keyword else Sign)
mute_kind k.Name value first h = absurd (true≢false (sym h))
mute_kind k.Number value first h = absurd (true≢false (sym h))
mute_kind _ value first h = refl

-- a token that has the kind of a name is one
pub only_names : (kind : TokenKind) (bytes : List ℕ) → Spells bytes kind → spec.kind_of kind bytes ≡ k.Name → kind ≡ Name
only_names Keyword bytes is e = absurd (true≢false (sym (spelled_is_mute bytes (keyword_parts bytes is).1) ∙ ap is_mute e))
only_names Name bytes is e = refl
only_names (Number n) bytes is e = cc
only_names Sign bytes is e = absurd (true≢false (sym (spelled_is_mute bytes (sign_begins bytes is).1) ∙ ap is_mute e))

-- Tokens -------------------------------------------------------------------------------------------------------

first_of : (b : Bool) (text : List ℕ) → 0 < length text → begins_with_letter text ≡ b → is_lower (get_or text 0 0) ≡ b
first_of b [] some h = let no : ⊥ = omega arith in absurd no
first_of b (c ∷ cs) some h = h

kind_back : (kind : TokenKind) (bytes : List ℕ) (first : ℕ) → 0 < length bytes → get_or bytes 0 0 ≡ first → Spells bytes kind → lexical_kind (spec.kind_of kind bytes) (spec.number_value kind) first ≡ kind
kind_back Keyword bytes first some e is =
    let parts = keyword_parts bytes is in
    mute_kind (unwrap_or (kind_of bytes) k.Name) 0 first (spelled_is_mute bytes parts.1)
    ∙ ap (λ b. if b then Keyword else Sign) (ap is_lower (sym e) ∙ first_of true bytes some parts.0)
kind_back Name bytes first some e is = refl
kind_back (Number n) bytes first some e is = refl
kind_back Sign bytes first some e is =
    let parts = sign_begins bytes is in
    mute_kind (unwrap_or (kind_of bytes) k.Name) 0 first (spelled_is_mute bytes parts.1)
    ∙ ap (λ b. if b then Keyword else Sign) (ap is_lower (sym e) ∙ first_of false bytes some parts.0)

some_bytes : (text : List ℕ) (t : Token) → IsToken text t → 0 < length (bytes_of text t)
some_bytes text t is = omega (arith, length-take (t.end - t.at) (drop t.at text), length-drop t.at text, is.some, is.within)

first_byte : (text : List ℕ) (t : Token) → IsToken text t → get_or (bytes_of text t) 0 0 ≡ get_or text t.at 0
first_byte text t is = get_or-take (t.end - t.at) (drop t.at text) 0 0 (omega (arith, is.some)) ∙ get_or-drop t.at text 0 0 ∙ ap (λ n. get_or text n 0) (omega arith)

lexical_back : (text : List ℕ) (t : Token) → IsToken text t → lexical text (classified text t) ≡ t
lexical_back text t is = ap (λ kind. record { kind = kind; at = t.at; end = t.end }) (kind_back t.kind (bytes_of text t) (get_or text t.at 0) (some_bytes text t is) (first_byte text t is) is.spelled)

all_back : (text : List ℕ) (ts : List Token) → AllByRecursion (IsToken text) ts → map (lexical text) (map (classified text) ts) ≡ ts
all_back text [] are = refl
all_back text (t ∷ ts) are = ap (λ u. u ∷ map (lexical text) (map (classified text) ts)) (lexical_back text t are.0) ∙ ap (λ us. t ∷ us) (all_back text ts are.1)

pub are_classified : (text : List ℕ) (cs : List grammar.Token) → classified_of text ≡ Ok cs → AreClassified text cs
unfolding classified_of
are_classified text cs e = by (tokens_of text) refl e
  where
    by : (r : Lexed) → tokens_of text ≡ r → all_classified text r ≡ Ok cs → AreClassified text cs
    by (Ok ts) is g = record { read = ts; lexes = is; tokens = are_tokens text ts is; same = cc }
    by (Err fault) is g = cc

pub fault_of : (text : List ℕ) (fault : LexFault) → classified_of text ≡ Err fault → tokens_of text ≡ Err fault
unfolding classified_of
fault_of text fault e = by (tokens_of text) refl e
  where
    by : (r : Lexed) → tokens_of text ≡ r → all_classified text r ≡ Err fault → tokens_of text ≡ Err fault
    by (Ok ts) is g = cc
    by (Err other) is g = let same : other ≡ fault = cc in is ∙ ap Err same

pub read_back : (text : List ℕ) (cs : List grammar.Token) → AreClassified text cs → tokens_of text ≡ Ok (map (lexical text) cs)
read_back text cs a =
    a.lexes ∙ ap Ok (sym (all_back text a.read (recursion_from_All (IsToken text) a.read a.tokens.each)) ∙ ap (map (lexical text)) (sym a.same))

-- each stands in the text
pub places_inside : (text : List ℕ) (cs : List grammar.Token) → AreClassified text cs → (i : ℕ) (d : grammar.Token) → i < length cs → (get_or cs i d).at < length text
places_inside text cs a i d h =
    let e : Token = record { kind = Sign; at = 0; end = 0 } in
    let long : i < length a.read = omega (arith, ap length a.same, length-map a.read (classified text), h) in
    let is : IsToken text (get_or a.read i e) = a.tokens.each i e long in
    let same : get_or cs i d ≡ classified text (get_or a.read i e) = ap (λ us. get_or us i d) a.same ∙ get_or-map (classified text) a.read i e d long in
    rw same (omega (arith, is.some, is.within))

-- A fault is answered as such.
pub fault_gives : {A : Type 0} (fault : LexFault) (reading : Result A LexFault) → reading ≡ Err fault → Gives (Err fault) reading
fault_gives (faults.BadByte at) reading e = e
fault_gives (faults.NumberTooLarge at) reading e = e
fault_gives (faults.NameTooLong at) reading e = e
fault_gives faults.NoMemory reading e = tt

pub fault_back : (text : List ℕ) (fault : LexFault) → Gives (Err fault) (classified_of text) → Gives (Err fault) (tokens_of text)
fault_back text (faults.BadByte at) e = fault_of text (faults.BadByte at) e
fault_back text (faults.NumberTooLarge at) e = fault_of text (faults.NumberTooLarge at) e
fault_back text (faults.NameTooLong at) e = fault_of text (faults.NameTooLong at) e
fault_back text faults.NoMemory e = tt
