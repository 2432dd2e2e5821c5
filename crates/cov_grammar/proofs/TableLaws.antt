-- One token of look-ahead is enough for the grammar, and its tables are right: by computation.
use Rattle.std.proofs.Common.{◌≡◌, true, false, refl}
use Rattle.cov_grammar.specs.PlacedTrees.{Rule, expr, template, cert, block}
use Rattle.cov_grammar.specs.Grammar.{atom, template_atom, unary, prod, sum, band, bxor, bor, cmp, both, either, part, arguments, last_certs, more_certs, certificate, proof, proofs, retype, assigned, branched, looped, state, statement, braces, var_decl, names, lock_decl, modes_behind, two_modes, thread_decl, version, program, types, class, body}
use Rattle.cov_grammar.specs.LookAhead.{kind_is, nullable, firsts, more, fine, within}
use Rattle.cov_grammar.specs.FirstKinds.{first_kinds, more_of}

pub fine_body : (r : Rule) → fine first_kinds more_of (body r) ≡ true
unfolding kind_is atom template_atom unary prod sum band bxor bor cmp both either part arguments last_certs more_certs certificate proof proofs types retype assigned branched looped state statement braces class var_decl names lock_decl modes_behind two_modes thread_decl version program body
fine_body expr = refl
fine_body template = refl
fine_body cert = refl
fine_body block = refl

pub full_body : (r : Rule) → nullable (body r) ≡ false
unfolding kind_is atom template_atom unary prod sum band bxor bor cmp both either part arguments last_certs more_certs certificate proof proofs types retype assigned branched looped state statement braces class var_decl names lock_decl modes_behind two_modes thread_decl version program body
full_body expr = refl
full_body template = refl
full_body cert = refl
full_body block = refl

pub firsts_body : (r : Rule) → within (firsts first_kinds (body r)) (first_kinds r) ≡ true
unfolding kind_is atom template_atom unary prod sum band bxor bor cmp both either part arguments last_certs more_certs certificate proof proofs types retype assigned branched looped state statement braces class var_decl names lock_decl modes_behind two_modes thread_decl version program body
firsts_body expr = refl
firsts_body template = refl
firsts_body cert = refl
firsts_body block = refl

pub more_body : (r : Rule) → within (more first_kinds more_of (body r)) (more_of r) ≡ true
unfolding kind_is atom template_atom unary prod sum band bxor bor cmp both either part arguments last_certs more_certs certificate proof proofs types retype assigned branched looped state statement braces class var_decl names lock_decl modes_behind two_modes thread_decl version program body
more_body expr = refl
more_body template = refl
more_body cert = refl
more_body block = refl

pub fine_program : fine first_kinds more_of program ≡ true
unfolding kind_is atom template_atom unary prod sum band bxor bor cmp both either part arguments last_certs more_certs certificate proof proofs types retype assigned branched looped state statement braces class var_decl names lock_decl modes_behind two_modes thread_decl version program body
fine_program = refl
