-- What the view of a certificate is at each variant with parts.
use Rattle.std.proofs.Common.{◌≡◌, ap, ◌∙◌, sym, map}
use Rattle.cov_expr.specs.View.{term}
use Rattle.cov_ast.specs.Syntax as s
use Rattle.cov_ast.specs.View.{cert, cert_step}
use Rattle.cov_ast.specs.declared.cert.Cert.TheVariants as certs
use Rattle.cov_ast.specs.declared.cert.Cert.TheFolds.{fold-roll-Cert}

pub cert-And : (c d : _) → cert (certs.And c d) ≡ s.and (cert c.value) (cert d.value)
cert-And c d = ap cert (sym (certs.rolls-And c d)) ∙ fold-roll-Cert s.Cert cert_step _

pub cert-Left : (c : _) → cert (certs.Left c) ≡ s.left (cert c.value)
cert-Left c = ap cert (sym (certs.rolls-Left c)) ∙ fold-roll-Cert s.Cert cert_step _

pub cert-Right : (c : _) → cert (certs.Right c) ≡ s.right (cert c.value)
cert-Right c = ap cert (sym (certs.rolls-Right c)) ∙ fold-roll-Cert s.Cert cert_step _

pub cert-Unpack : (i c : _) → cert (certs.Unpack i c) ≡ s.unpack i (cert c.value)
cert-Unpack i c = ap cert (sym (certs.rolls-Unpack i c)) ∙ fold-roll-Cert s.Cert cert_step _

pub cert-Cases : (i c d : _) → cert (certs.Cases i c d) ≡ s.cases i (cert c.value) (cert d.value)
cert-Cases i c d = ap cert (sym (certs.rolls-Cases i c d)) ∙ fold-roll-Cert s.Cert cert_step _

pub cert-Split : (e c d : _) → cert (certs.Split e c d) ≡ s.split (term e) (cert c.value) (cert d.value)
cert-Split e c d = ap cert (sym (certs.rolls-Split e c d)) ∙ fold-roll-Cert s.Cert cert_step _

pub cert-Have : (e c d : _) → cert (certs.Have e c d) ≡ s.have (term e) (cert c.value) (cert d.value)
cert-Have e c d = ap cert (sym (certs.rolls-Have e c d)) ∙ fold-roll-Cert s.Cert cert_step _

pub cert-Not : (c : _) → cert (certs.Not c) ≡ s.negation (cert c.value)
cert-Not c = ap cert (sym (certs.rolls-Not c)) ∙ fold-roll-Cert s.Cert cert_step _

pub cert-Contra : (c : _) → cert (certs.Contra c) ≡ s.contra (cert c.value)
cert-Contra c = ap cert (sym (certs.rolls-Contra c)) ∙ fold-roll-Cert s.Cert cert_step _

pub cert-Fwd : (i e c : _) → cert (certs.Fwd i e c) ≡ s.fwd i (term e) (cert c.value)
cert-Fwd i e c = ap cert (sym (certs.rolls-Fwd i e c)) ∙ fold-roll-Cert s.Cert cert_step _

pub cert-Rev : (i e c : _) → cert (certs.Rev i e c) ≡ s.rev i (term e) (cert c.value)
cert-Rev i e c = ap cert (sym (certs.rolls-Rev i e c)) ∙ fold-roll-Cert s.Cert cert_step _

pub cert-Axiom : (k es c : _) → cert (certs.Axiom k es c) ≡ s.instance k (map term es) (cert c.value)
cert-Axiom k es c = ap cert (sym (certs.rolls-Axiom k es c)) ∙ fold-roll-Cert s.Cert cert_step _
