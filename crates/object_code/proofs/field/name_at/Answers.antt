use Rattle.std.proofs.Common.{arith}
use Rattle.object_code.proofs.Fields.{within_exact}
use Rattle.object_code.proofs.Texts.{name_read, name_within}
use Rattle.object_code.proofs.field.name_at.Goals as goal

pub text_at-requires-clause-some : goal.text_at-requires-clause-some
text_at-requires-clause-some c =
    let w = ((within_exact 1 32 (omega arith)).sound c.args.bytes.now c.in_ok-len.len c.in_ok-len.rest.now c.in_ok-len.ensures).0 in omega (arith, w.0)

pub text_at-requires-clause-short : goal.text_at-requires-clause-short
text_at-requires-clause-short c =
    ((within_exact 1 32 (omega arith)).sound c.args.bytes.now c.in_ok-len.len c.in_ok-len.rest.now c.in_ok-len.ensures).0.1

pub returns-clause-name : goal.returns-clause-name
returns-clause-name c = name_read c.args.bytes.now c.in_ok-len.rest.now c.in_ok-name.name c.in_ok-len.len c.in_ok-len.ensures c.in_ok-name.ensures.text

pub returns-clause-within : goal.returns-clause-within
returns-clause-within c = name_within c.args.bytes.now c.in_ok-len.rest.now c.in_ok-len.len c.in_ok-len.ensures c.in_ok-name.ensures.within
