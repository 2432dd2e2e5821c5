-- Texts read by the definition alone, worked out by hand.
use Rattle.std.proofs.Common.{◌≡◌, ℕ, [], ◌∷◌, codes, Ok, Err, refl}
use Rattle.cov_lex.specs.declared.token.Token.{Token}
use Rattle.cov_lex.specs.declared.token.TokenKind.{TokenKind}
use Rattle.cov_lex.specs.declared.token.TokenKind.TheVariants.{Keyword, Name, Number, Sign}
use Rattle.cov_lex.specs.declared.fault.LexFault.TheVariants.{BadByte, NumberTooLarge, NameTooLong}
use Rattle.cov_expr.specs.Spellings.{spellings, kind_of, is_keyword}
use Rattle.cov_lex.specs.Lexing.{tokens_of}
use Rattle.cov_lex.specs.Signs.{signs, doubles, singles}

abbrev token : TokenKind → ℕ → ℕ → Token
token kind at end = record { kind = kind; at = at; end = end }

longest_tokens : tokens_of (codes "a:=1abc//<") ≡ Ok (token Name 0 1 ∷ token Sign 1 3 ∷ token (Number 1) 3 4 ∷ token Name 4 7 ∷ [])
unfolding tokens_of is_keyword kind_of spellings signs doubles singles
longest_tokens = refl

keywords_and_blanks : tokens_of (codes "if a1 <= 007;") ≡ Ok (token Keyword 0 2 ∷ token Name 3 5 ∷ token Sign 6 8 ∷ token (Number 7) 9 12 ∷ token Sign 12 13 ∷ [])
unfolding tokens_of is_keyword kind_of spellings signs doubles singles
keywords_and_blanks = refl

a_comment_ends_at_a_line_feed : tokens_of (47 ∷ 47 ∷ 13 ∷ 255 ∷ 10 ∷ 97 ∷ []) ≡ Ok (token Name 5 6 ∷ [])
unfolding tokens_of is_keyword kind_of spellings signs doubles singles
a_comment_ends_at_a_line_feed = refl

a_third_equals_sign : tokens_of (codes "a === 4294967296") ≡ Err (BadByte 4)
unfolding tokens_of is_keyword kind_of spellings signs doubles singles
a_third_equals_sign = refl

a_large_number : tokens_of (codes "4294967295 4294967296 =") ≡ Err (NumberTooLarge 11)
unfolding tokens_of signs doubles singles spellings
a_large_number = refl

a_long_word : tokens_of (codes "abcdefghijklmnopqrstuvwxyz_01234 abcdefghijklmnopqrstuvwxyz_012345 =") ≡ Err (NameTooLong 33)
unfolding tokens_of is_keyword kind_of spellings signs doubles singles
a_long_word = refl
