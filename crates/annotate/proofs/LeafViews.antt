-- What the view of a certificate without children is.
use Rattle.std.proofs.Common.{◌≡◌, ap, ◌∙◌, sym}
use Rattle.cov_ast.specs.Syntax as s
use Rattle.cov_ast.specs.View.{cert, cert_step}
use Rattle.cov_ast.specs.declared.cert.Cert.TheFolds.{fold-roll-Cert}
use Rattle.cov_ast.specs.declared.cert.Cert.TheVariants as certs

pub cert-Auto : cert certs.Auto ≡ s.auto
cert-Auto = ap cert (sym certs.rolls-Auto) ∙ fold-roll-Cert s.Cert cert_step _

pub cert-Hyp : (i : _) → cert (certs.Hyp i) ≡ s.hyp i
cert-Hyp i = ap cert (sym (certs.rolls-Hyp i)) ∙ fold-roll-Cert s.Cert cert_step _

pub cert-Calc : cert certs.Calc ≡ s.calc
cert-Calc = ap cert (sym certs.rolls-Calc) ∙ fold-roll-Cert s.Cert cert_step _

pub cert-Clash : (i : _) → cert (certs.Clash i) ≡ s.clash i
cert-Clash i = ap cert (sym (certs.rolls-Clash i)) ∙ fold-roll-Cert s.Cert cert_step _

pub cert-Absurd : (i j : _) → cert (certs.Absurd i j) ≡ s.absurdity i j
cert-Absurd i j = ap cert (sym (certs.rolls-Absurd i j)) ∙ fold-roll-Cert s.Cert cert_step _

pub cert-Refl : cert certs.Refl ≡ s.reflexive
cert-Refl = ap cert (sym certs.rolls-Refl) ∙ fold-roll-Cert s.Cert cert_step _

pub cert-Ring : cert certs.Ring ≡ s.ring
cert-Ring = ap cert (sym certs.rolls-Ring) ∙ fold-roll-Cert s.Cert cert_step _

pub cert-Range : cert certs.Range ≡ s.range
cert-Range = ap cert (sym certs.rolls-Range) ∙ fold-roll-Cert s.Cert cert_step _
