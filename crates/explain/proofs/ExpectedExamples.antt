-- What could stand behind the tokens of a few texts, and a few lines of it, by computation.
use Rattle.std.proofs.Common.{◌≡◌, [], ◌∷◌, codes, true, false, refl}
use Rattle.std.specs.List.{filter}
use Rattle.cov_expr.specs.Spellings.{spellings}
use Rattle.cov_expr.specs.declared.kind.Kind.TheVariants as k
use Rattle.cov_grammar.specs.LookAhead.{kind_is}
use Rattle.cov_grammar.specs.Reading.{rule_of}
use Rattle.cov_grammar.specs.Grammar.{names, atom, template_atom, unary, prod, sum, band, bxor, bor, cmp, both, either, part, arguments, last_certs, more_certs, certificate, proof, proofs, types, state, retype, assigned, branched, looped, statement, braces, class, var_decl, lock_decl, modes_behind, two_modes, thread_decl, version, program, body}
use Rattle.explain.specs.ExpectedTokens.{token_of, candidates, is_front, is_whole}
use Rattle.explain.specs.ExpectedLines.{line_of, line_front, semicolon_line, semicolon_text, spelling_of}
use Rattle.explain.specs.Inside.Following.{could_follow}
use Rattle.explain.specs.declared.next.Next.TheVariants as n

-- Tokens -------------------------------------------------------------------------------------------------------

-- an empty text
first : filter (could_follow []) candidates ≡ n.Token k.Lock ∷ n.Token k.Thread ∷ n.Token k.Var ∷ n.Token k.Version ∷ n.End ∷ []
unfolding kind_is spellings is_front is_whole rule_of names atom template_atom unary prod sum band bxor bor cmp both either part arguments last_certs more_certs certificate proof proofs types state retype assigned branched looped statement braces class var_decl lock_decl modes_behind two_modes thread_decl version program body
first = refl

-- var a
behind_variable : filter (could_follow (token_of k.Var ∷ token_of k.Name ∷ [])) candidates ≡ n.Token k.Colon ∷ []
unfolding kind_is spellings is_front is_whole rule_of names atom template_atom unary prod sum band bxor bor cmp both either part arguments last_certs more_certs certificate proof proofs types state retype assigned branched looped statement braces class var_decl lock_decl modes_behind two_modes thread_decl version program body
behind_variable = refl

-- var a : low ;
behind_declaration : filter (could_follow (token_of k.Var ∷ token_of k.Name ∷ token_of k.Colon ∷ token_of k.Low ∷ token_of k.Semicolon ∷ [])) candidates
    ≡ n.Token k.Lock ∷ n.Token k.Thread ∷ n.Token k.Var ∷ n.End ∷ []
unfolding kind_is spellings is_front is_whole rule_of names atom template_atom unary prod sum band bxor bor cmp both either part arguments last_certs more_certs certificate proof proofs types state retype assigned branched looped statement braces class var_decl lock_decl modes_behind two_modes thread_decl version program body
behind_declaration = refl

-- thread t {
in_block : filter (could_follow (token_of k.Thread ∷ token_of k.Name ∷ token_of k.OpenBrace ∷ [])) candidates
    ≡ n.Token k.Name ∷ n.Token k.If ∷ n.Token k.Lock ∷ n.Token k.Note ∷ n.Token k.Skip ∷ n.Token k.Unlock ∷ n.Token k.While ∷ n.Token k.CloseBrace ∷ []
unfolding kind_is spellings is_front is_whole rule_of names atom template_atom unary prod sum band bxor bor cmp both either part arguments last_certs more_certs certificate proof proofs types state retype assigned branched looped statement braces class var_decl lock_decl modes_behind two_modes thread_decl version program body
in_block = refl

-- version 2 ; thread t {
in_block_of_two : filter (could_follow (token_of k.Version ∷ token_of k.Number ∷ token_of k.Semicolon ∷ token_of k.Thread ∷ token_of k.Name ∷ token_of k.OpenBrace ∷ [])) candidates
    ≡ n.Token k.Name ∷ n.Token k.If ∷ n.Token k.Lock ∷ n.Token k.Note ∷ n.Token k.Output ∷ n.Token k.Skip ∷ n.Token k.Unlock ∷ n.Token k.While ∷ n.Token k.CloseBrace ∷ []
unfolding kind_is spellings is_front is_whole rule_of names atom template_atom unary prod sum band bxor bor cmp both either part arguments last_certs more_certs certificate proof proofs types state retype assigned branched looped statement braces class var_decl lock_decl modes_behind two_modes thread_decl version program body
in_block_of_two = refl

-- thread t { a := b
behind_value : filter (could_follow (token_of k.Thread ∷ token_of k.Name ∷ token_of k.OpenBrace ∷ token_of k.Name ∷ token_of k.Assign ∷ token_of k.Name ∷ [])) candidates
    ≡ n.Token k.Differs ∷ n.Token k.Both ∷ n.Token k.Ampersand ∷ n.Token k.Star ∷ n.Token k.Plus ∷ n.Token k.Minus ∷ n.Token k.Semicolon ∷ n.Token k.AtMost
    ∷ n.Token k.Less ∷ n.Token k.Equal ∷ n.Token k.Caret ∷ n.Token k.As ∷ n.Token k.By ∷ n.Token k.Retype ∷ n.Token k.Either ∷ n.Token k.Bar ∷ []
unfolding kind_is spellings is_front is_whole rule_of names atom template_atom unary prod sum band bxor bor cmp both either part arguments last_certs more_certs certificate proof proofs types state retype assigned branched looped statement braces class var_decl lock_decl modes_behind two_modes thread_decl version program body
behind_value = refl

-- var ;, whose tokens no program begins with
behind_fault : filter (could_follow (token_of k.Var ∷ token_of k.Semicolon ∷ [])) candidates ≡ []
unfolding kind_is spellings is_front is_whole rule_of names atom template_atom unary prod sum band bxor bor cmp both either part arguments last_certs more_certs certificate proof proofs types state retype assigned branched looped statement braces class var_decl lock_decl modes_behind two_modes thread_decl version program body
behind_fault = refl

-- Lines --------------------------------------------------------------------------------------------------------

three : line_of false (n.Token k.Name ∷ n.Token k.Semicolon ∷ n.Token k.As ∷ n.End ∷ []) ≡ codes "  here could stand: a name, `;`, `as`, the end of the text\n"
unfolding kind_is spellings spelling_of line_front
three = refl

one : line_of false (n.Token k.Number ∷ []) ≡ codes "  here could stand: a number\n"
unfolding kind_is spellings spelling_of line_front
one = refl

none : line_of false [] ≡ []
none = refl

-- behind `version`
two : line_of true (n.Token k.Number ∷ []) ≡ codes "  here could stand: the number 2\n"
unfolding kind_is spellings spelling_of line_front
two = refl

-- where a `;` could stand, in front of `unlock`, of `}` and of a sign
missing : semicolon_line (codes "unlock l;") (n.Token k.Name ∷ n.Token k.Semicolon ∷ n.End ∷ []) ≡ codes "  a `;` may be missing in front of it\n"
unfolding kind_is
missing = refl

missing_in_block : semicolon_line (codes "}") (n.Token k.Semicolon ∷ []) ≡ semicolon_text
unfolding kind_is
missing_in_block = refl

another : semicolon_line (codes "= b") (n.Token k.Semicolon ∷ []) ≡ []
unfolding kind_is
another = refl

-- where none could
elsewhere : semicolon_line (codes "unlock l;") (n.Token k.Name ∷ n.End ∷ []) ≡ []
unfolding kind_is
elsewhere = refl
