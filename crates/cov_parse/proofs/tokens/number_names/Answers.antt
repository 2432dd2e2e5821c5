use Rattle.std.proofs.Common.{◌+◌, ◌<◌, ◌∙◌, length, get_or, arith, sym, ap, subst}
use Rattle.cov_expr.specs.declared.kind.Kind.TheVariants as k
use Rattle.cov_grammar.specs.declared.token.Token.{Token}
use Rattle.cov_text.proofs.NameNumbers.{Numbering, started, numbered_names, numbered_tokens, classified_are, as_many, within_now, within_text, ordered, within, is_name, name_goes, other_goes}
use Rattle.cov_parse.proofs.tokens.number_names.Goals.{then-is+in_ok-value, else-is}
use Rattle.cov_parse.proofs.tokens.number_names.Goals as goal

-- what an index past the end would give
abbrev blank : Token
blank = record { kind = k.Name; at = 0; end = 0; value = 0 }

pub loop-i-init : goal.loop-i-init
loop-i-init c = subst (λ names. Numbering c.args.bytes.now names c.args.tokens.now 0) (sym c.new-names.ensures) (started c.args.bytes.now c.args.tokens.now (classified_are c.args.bytes.now c.args.tokens.now c.requires.tokens))

pub offset_bounds-as_slice-i : goal.offset_bounds-as_slice-i
offset_bounds-as_slice-i c =
    let old : c.loop-i.i < length c.args.tokens.now = omega (arith, c.loop-i-test.true, c.len-i-end.ensures) in
    omega (arith, within_text c.args.bytes.now c.args.tokens.now c.requires.tokens c.loop-i.i old c.loop-i.names c.loop-i.tokens c.loop-i.invariant, c.requires.short)

pub bounds-as_slice-i : goal.bounds-as_slice-i
bounds-as_slice-i c =
    let old : c.loop-i.i < length c.args.tokens.now = omega (arith, c.loop-i-test.true, c.len-i-end.ensures) in
    omega (arith, within_now c.args.bytes.now c.args.tokens.now c.requires.tokens c.loop-i.i old c.loop-i.names c.loop-i.tokens c.loop-i.invariant, ap length c.as_slice.ensures)

pub number_of-requires-clause-room : goal.number_of-requires-clause-room
number_of-requires-clause-room c =
    let old : c.loop-i.i < length c.args.tokens.now = omega (arith, c.loop-i-test.true, c.len-i-end.ensures) in
    omega (arith, within_text c.args.bytes.now c.args.tokens.now c.requires.tokens c.loop-i.i old c.loop-i.names c.loop-i.tokens c.loop-i.invariant, c.requires.short, c.loop-i.invariant.few)

pub number_of-requires-clause-order : goal.number_of-requires-clause-order
number_of-requires-clause-order c =
    let old : c.loop-i.i < length c.args.tokens.now = omega (arith, c.loop-i-test.true, c.len-i-end.ensures) in
    ordered c.args.bytes.now c.args.tokens.now c.requires.tokens c.loop-i.i old c.loop-i.names c.loop-i.tokens c.loop-i.invariant (get_or c.as_slice.result.now c.loop-i.i blank) blank (ap (λ ts. get_or ts c.loop-i.i blank) c.as_slice.ensures)

pub number_of-requires-clause-within : goal.number_of-requires-clause-within
number_of-requires-clause-within c =
    let old : c.loop-i.i < length c.args.tokens.now = omega (arith, c.loop-i-test.true, c.len-i-end.ensures) in
    within c.args.bytes.now c.args.tokens.now c.requires.tokens c.loop-i.i old c.loop-i.names c.loop-i.tokens c.loop-i.invariant (get_or c.as_slice.result.now c.loop-i.i blank) blank (ap (λ ts. get_or ts c.loop-i.i blank) c.as_slice.ensures)

pub number_of-requires-clause-name : goal.number_of-requires-clause-name
number_of-requires-clause-name c =
    let old : c.loop-i.i < length c.args.tokens.now = omega (arith, c.loop-i-test.true, c.len-i-end.ensures) in
    is_name c.args.bytes.now c.args.tokens.now c.requires.tokens c.loop-i.i old c.loop-i.names c.loop-i.tokens c.loop-i.invariant (get_or c.as_slice.result.now c.loop-i.i blank) blank (ap (λ ts. get_or ts c.loop-i.i blank) c.as_slice.ensures) (sym c.is.ensures ∙ c.if-is.true)

pub set-requires : goal.set-requires
set-requires c =
    let old : c.loop-i.i < length c.args.tokens.now = omega (arith, c.loop-i-test.true, c.len-i-end.ensures) in
    within_now c.args.bytes.now c.args.tokens.now c.requires.tokens c.loop-i.i old c.loop-i.names c.loop-i.tokens c.loop-i.invariant

pub loop-i-preserved : goal.loop-i-preserved
loop-i-preserved c =
    let old : c.loop-i.i < length c.args.tokens.now = omega (arith, c.loop-i-test.true, c.len-i-end.ensures) in
    elim c.if-is.branch [
      | then-is+in_ok-value w ↦
          name_goes c.args.bytes.now c.args.tokens.now c.requires.tokens c.loop-i.i old c.loop-i.names c.loop-i.tokens c.loop-i.invariant (get_or c.as_slice.result.now c.loop-i.i blank) blank (ap (λ ts. get_or ts c.loop-i.i blank) c.as_slice.ensures) (sym c.is.ensures ∙ w.if-is.true)
          c.if-is.names c.if-is.tokens w.in_ok-value.value w.in_ok-value.ensures.number (w.names-is ∙ w.in_ok-value.ensures.names) (w.tokens-is ∙ w.set.ensures)
      | else-is w ↦
          subst (λ names. Numbering c.args.bytes.now names c.if-is.tokens (c.loop-i.i + 1)) (sym w.names-is)
          (subst (λ tokens. Numbering c.args.bytes.now c.loop-i.names tokens (c.loop-i.i + 1)) (sym w.tokens-is)
          (other_goes c.args.bytes.now c.args.tokens.now c.requires.tokens c.loop-i.i old c.loop-i.names c.loop-i.tokens c.loop-i.invariant (get_or c.as_slice.result.now c.loop-i.i blank) blank (ap (λ ts. get_or ts c.loop-i.i blank) c.as_slice.ensures) (sym c.is.ensures ∙ w.if-is.false)))
    ]

pub returns-clause-names : goal.returns-clause-names
returns-clause-names c =
    numbered_names c.args.bytes.now c.loop-i.names c.loop-i.tokens c.loop-i.i c.loop-i.invariant
    (omega (arith, c.loop-i-test.false, c.len-i-end.ensures, as_many c.args.bytes.now c.args.tokens.now c.requires.tokens))

pub returns-clause-tokens : goal.returns-clause-tokens
returns-clause-tokens c =
    numbered_tokens c.args.bytes.now c.loop-i.names c.loop-i.tokens c.loop-i.i c.loop-i.invariant
    (omega (arith, c.loop-i-test.false, c.len-i-end.ensures, as_many c.args.bytes.now c.args.tokens.now c.requires.tokens))
