-- Worked examples: the trees of a few texts, and where a few wrong ones are wrong, by computation.
use Rattle.std.proofs.Common.{◌≡◌, ℕ, ◌+◌, List, [], ◌∷◌, refl}
use Rattle.cov_expr.specs.Term.{const, var, neg, bin}
use Rattle.cov_expr.specs.declared.expr.Op.TheVariants as ops
use Rattle.cov_expr.specs.declared.kind.Kind.{Kind}
use Rattle.cov_expr.specs.declared.kind.Kind.TheVariants as k
use Rattle.cov_grammar.specs.declared.token.Token.{Token}
use Rattle.cov_grammar.specs.PlacedTrees as t
use Rattle.cov_grammar.specs.LookAhead.{kind_is}
use Rattle.cov_grammar.specs.Reading.{got, stopped, rule_of, all_of}
use Rattle.cov_grammar.specs.Grammar.{names, atom, template_atom, unary, prod, sum, band, bxor, bor, cmp, both, either, whole, part, arguments, last_certs, more_certs, certificate, proof, proofs, types, state, retype, assigned, branched, looped, statement, braces, class, var_decl, lock_decl, modes_behind, two_modes, thread_decl, version, program, body}

-- words, each with its value, as tokens one behind the other, each a byte long
abbrev tokens_at : ℕ → List (Kind × ℕ) → List Token
tokens_at at [] = []
tokens_at at (w ∷ ws) = record { kind = w.0; at = at; end = at + 1; value = w.1 } ∷ tokens_at (at + 1) ws

abbrev n : ℕ → Kind × ℕ
n x = (k.Name, x)

abbrev w : Kind → Kind × ℕ
w j = (j, 0)

-- 1 - 2 - 3, of the names 1, 2 and 3
left_grouping : all_of whole (tokens_at 0 (n 1 ∷ w k.Minus ∷ n 2 ∷ w k.Minus ∷ n 3 ∷ [])) ≡ got (0, bin ops.Sub (bin ops.Sub (var 1) (var 2)) (var 3)) []
unfolding kind_is rule_of atom template_atom unary prod sum band bxor bor cmp both either body
left_grouping = refl

-- !1 + 2 * 3 == 4 && 5
levels : all_of whole (tokens_at 0 (w k.Bang ∷ n 1 ∷ w k.Plus ∷ n 2 ∷ w k.Star ∷ n 3 ∷ w k.Equal ∷ n 4 ∷ w k.Both ∷ n 5 ∷ [])) ≡ got (0, bin ops.Both (bin ops.Eq (bin ops.Add (neg (var 1)) (bin ops.Mul (var 2) (var 3))) (var 4)) (var 5)) []
unfolding kind_is rule_of atom template_atom unary prod sum band bxor bor cmp both either body
levels = refl

-- 1 < 2 < 3 is wrong at the second comparison
one_comparison : all_of whole (tokens_at 0 (n 1 ∷ w k.Less ∷ n 2 ∷ w k.Less ∷ n 3 ∷ [])) ≡ stopped (tokens_at 3 (w k.Less ∷ n 3 ∷ []))
unfolding kind_is rule_of atom template_atom unary prod sum band bxor bor cmp both either body
one_comparison = refl

-- ( 1 is wrong at its end
open_bracket : all_of whole (tokens_at 0 (w k.OpenParen ∷ n 1 ∷ [])) ≡ stopped []
unfolding kind_is rule_of atom template_atom unary prod sum band bxor bor cmp both either body
open_bracket = refl

-- thread 1 assume hide 2 { }, which has the second of two parts alone
hide_alone : all_of program (tokens_at 0 (w k.Thread ∷ n 1 ∷ w k.Assume ∷ w k.Hide ∷ n 2 ∷ w k.OpenBrace ∷ w k.CloseBrace ∷ [])) ≡ got (record {
  version = 1;
  vars = [];
  locks = [];
  threads = record {
    name = (1, 1);
    modes = record { assume_nowrite = []; assume_hide = 2 ∷ []; guarantee_nowrite = []; guarantee_hide = [] };
    body = t.block 5 6 t.none;
  } ∷ [];
}) []
unfolding kind_is rule_of names atom template_atom unary prod sum band bxor bor cmp both either part arguments last_certs more_certs certificate proof proofs types state retype assigned branched looped statement braces class var_decl lock_decl modes_behind two_modes thread_decl version program body
hide_alone = refl

-- var 1 : low when 2 ;
low_when : all_of program (tokens_at 0 (w k.Var ∷ n 1 ∷ w k.Colon ∷ w k.Low ∷ w k.When ∷ n 2 ∷ w k.Semicolon ∷ [])) ≡ got (record {
  version = 1;
  vars = record { name = (1, 1); class = t.low_when (5, var 2) } ∷ [];
  locks = [];
  threads = [];
}) []
unfolding kind_is rule_of names atom template_atom unary prod sum band bxor bor cmp both either part arguments last_certs more_certs certificate proof proofs types state retype assigned branched looped statement braces class var_decl lock_decl modes_behind two_modes thread_decl version program body
low_when = refl

-- thread 1 { note { ; } is wrong at the brace behind the semicolon, which wants a type
no_type : all_of program (tokens_at 0 (w k.Thread ∷ n 1 ∷ w k.OpenBrace ∷ w k.Note ∷ w k.OpenBrace ∷ w k.Semicolon ∷ w k.CloseBrace ∷ [])) ≡ stopped (tokens_at 6 (w k.CloseBrace ∷ []))
unfolding kind_is rule_of names atom template_atom unary prod sum band bxor bor cmp both either part arguments last_certs more_certs certificate proof proofs types state retype assigned branched looped statement braces class var_decl lock_decl modes_behind two_modes thread_decl version program body
no_type = refl

-- var 1 : low ; thread 2 { } var is wrong at the second declaration of a variable, which has to stand in front of threads
late_variable : all_of program (tokens_at 0 (w k.Var ∷ n 1 ∷ w k.Colon ∷ w k.Low ∷ w k.Semicolon ∷ w k.Thread ∷ n 2 ∷ w k.OpenBrace ∷ w k.CloseBrace ∷ w k.Var ∷ [])) ≡ stopped (tokens_at 9 (w k.Var ∷ []))
unfolding kind_is rule_of names atom template_atom unary prod sum band bxor bor cmp both either part arguments last_certs more_certs certificate proof proofs types state retype assigned branched looped statement braces class var_decl lock_decl modes_behind two_modes thread_decl version program body
late_variable = refl

-- no tokens are a program without declarations
nothing : all_of program [] ≡ got (record { version = 1; vars = []; locks = []; threads = [] }) []
unfolding kind_is rule_of names atom template_atom unary prod sum band bxor bor cmp both either part arguments last_certs more_certs certificate proof proofs types state retype assigned branched looped statement braces class var_decl lock_decl modes_behind two_modes thread_decl version program body
nothing = refl

-- version 2 ; thread 1 { output 3 ; }
put_out : all_of program (tokens_at 0 (w k.Version ∷ (k.Number, 2) ∷ w k.Semicolon ∷ w k.Thread ∷ n 1 ∷ w k.OpenBrace ∷ w k.Output ∷ (k.Number, 3) ∷ w k.Semicolon ∷ w k.CloseBrace ∷ [])) ≡ got (record {
  version = 2;
  vars = [];
  locks = [];
  threads = record {
    name = (1, 4);
    modes = record { assume_nowrite = []; assume_hide = []; guarantee_nowrite = []; guarantee_hide = [] };
    body = t.block 5 9 (t.next 6 (t.output (7, const 3) []) t.none);
  } ∷ [];
}) []
unfolding kind_is rule_of names atom template_atom unary prod sum band bxor bor cmp both either part arguments last_certs more_certs certificate proof proofs types state retype assigned branched looped statement braces class var_decl lock_decl modes_behind two_modes thread_decl version program body
put_out = refl

-- version 2 ; version 2 ; is wrong at the second version
two_versions : all_of program (tokens_at 0 (w k.Version ∷ (k.Number, 2) ∷ w k.Semicolon ∷ w k.Version ∷ (k.Number, 2) ∷ w k.Semicolon ∷ [])) ≡ stopped (tokens_at 3 (w k.Version ∷ (k.Number, 2) ∷ w k.Semicolon ∷ []))
unfolding kind_is rule_of names atom template_atom unary prod sum band bxor bor cmp both either part arguments last_certs more_certs certificate proof proofs types state retype assigned branched looped statement braces class var_decl lock_decl modes_behind two_modes thread_decl version program body
two_versions = refl

-- version and a number that is foreign are wrong at the number
other_version : all_of program (tokens_at 0 (w k.Version ∷ (k.Foreign, 3) ∷ w k.Semicolon ∷ [])) ≡ stopped (tokens_at 1 ((k.Foreign, 3) ∷ w k.Semicolon ∷ []))
unfolding kind_is rule_of names atom template_atom unary prod sum band bxor bor cmp both either part arguments last_certs more_certs certificate proof proofs types state retype assigned branched looped statement braces class var_decl lock_decl modes_behind two_modes thread_decl version program body
other_version = refl

-- version 2 without its semicolon is wrong at its end
open_version : all_of program (tokens_at 0 (w k.Version ∷ (k.Number, 2) ∷ [])) ≡ stopped []
unfolding kind_is rule_of names atom template_atom unary prod sum band bxor bor cmp both either part arguments last_certs more_certs certificate proof proofs types state retype assigned branched looped statement braces class var_decl lock_decl modes_behind two_modes thread_decl version program body
open_version = refl

-- thread 1 { output : where the output is foreign it is wrong
foreign_output : all_of program (tokens_at 0 (w k.Thread ∷ n 1 ∷ w k.OpenBrace ∷ w k.Foreign ∷ n 2 ∷ w k.Semicolon ∷ w k.CloseBrace ∷ [])) ≡ stopped (tokens_at 3 (w k.Foreign ∷ n 2 ∷ w k.Semicolon ∷ w k.CloseBrace ∷ []))
unfolding kind_is rule_of names atom template_atom unary prod sum band bxor bor cmp both either part arguments last_certs more_certs certificate proof proofs types state retype assigned branched looped statement braces class var_decl lock_decl modes_behind two_modes thread_decl version program body
foreign_output = refl
