-- Tokens, each as the version of its text has it, by computation.
use Rattle.std.proofs.Common.{◌≡◌, ℕ, [], ◌∷◌, refl}
use Rattle.cov_expr.specs.declared.kind.Kind.{Kind}
use Rattle.cov_expr.specs.declared.kind.Kind.TheVariants as k
use Rattle.cov_grammar.specs.declared.token.Token.{Token}
use Rattle.cov_grammar.specs.LookAhead.{kind_is}
use Rattle.cov_text.specs.Versioned.{versioned}

abbrev one : Kind → Token
one j = record { kind = j; at = 0; end = 0; value = 0 }

abbrev number : ℕ → Token
number n = record { kind = k.Number; at = 0; end = 0; value = n }

abbrev no_number : ℕ → Token
no_number n = record { kind = k.Foreign; at = 0; end = 0; value = n }

-- thread { output 3 }
no_output : versioned (one k.Thread ∷ one k.OpenBrace ∷ one k.Output ∷ number 3 ∷ one k.CloseBrace ∷ [])
    ≡ one k.Thread ∷ one k.OpenBrace ∷ one k.Foreign ∷ number 3 ∷ one k.CloseBrace ∷ []
unfolding kind_is
no_output = refl

-- output 3
first_output : versioned (one k.Output ∷ number 3 ∷ []) ≡ one k.Foreign ∷ number 3 ∷ []
unfolding kind_is
first_output = refl

-- version 2 ; thread { output 3 }
put_out : versioned (one k.Version ∷ number 2 ∷ one k.Semicolon ∷ one k.Thread ∷ one k.OpenBrace ∷ one k.Output ∷ number 3 ∷ one k.CloseBrace ∷ [])
    ≡ one k.Version ∷ number 2 ∷ one k.Semicolon ∷ one k.Thread ∷ one k.OpenBrace ∷ one k.Output ∷ number 3 ∷ one k.CloseBrace ∷ []
unfolding kind_is
put_out = refl

-- version 3 ;
third_version : versioned (one k.Version ∷ number 3 ∷ one k.Semicolon ∷ []) ≡ one k.Version ∷ no_number 3 ∷ one k.Semicolon ∷ []
unfolding kind_is
third_version = refl

-- version 1 ;
first_version : versioned (one k.Version ∷ number 1 ∷ one k.Semicolon ∷ []) ≡ one k.Version ∷ no_number 1 ∷ one k.Semicolon ∷ []
unfolding kind_is
first_version = refl

-- ; version 3 output, whose version isn't named
late_version : versioned (one k.Semicolon ∷ one k.Version ∷ number 3 ∷ one k.Output ∷ []) ≡ one k.Semicolon ∷ one k.Version ∷ number 3 ∷ one k.Foreign ∷ []
unfolding kind_is
late_version = refl
