use Rattle.std.proofs.Common.{refl, sym}
use Rattle.cov_ast.proofs.CertViews.{cert-And, cert-Axiom, cert-Cases, cert-Fwd, cert-Have, cert-Rev, cert-Split}
use Rattle.annotate.proofs.LeafViews.{cert-Absurd, cert-Auto, cert-Calc, cert-Clash, cert-Hyp, cert-Range, cert-Refl, cert-Ring}
use Rattle.annotate.proofs.GoingLaws.{gone_nothing, two_go}
use Rattle.annotate.proofs.uses.Uses.+certs.Goals as goal

pub cert-returns-in-Auto : goal.cert-returns-in-Auto
cert-returns-in-Auto t c = rw (c.in-Auto.is, cert-Auto) (sym (gone_nothing _ _))

pub cert-returns-in-Hyp : goal.cert-returns-in-Hyp
cert-returns-in-Hyp t c = rw (c.in-Hyp.is, cert-Hyp) (sym (gone_nothing _ _))

pub cert-returns-in-Calc : goal.cert-returns-in-Calc
cert-returns-in-Calc t c = rw (c.in-Calc.is, cert-Calc) (sym (gone_nothing _ _))

pub cert-returns-in-Clash : goal.cert-returns-in-Clash
cert-returns-in-Clash t c = rw (c.in-Clash.is, cert-Clash) (sym (gone_nothing _ _))

pub cert-returns-in-Absurd : goal.cert-returns-in-Absurd
cert-returns-in-Absurd t c = rw (c.in-Absurd.is, cert-Absurd) (sym (gone_nothing _ _))

pub cert-returns-in-Refl : goal.cert-returns-in-Refl
cert-returns-in-Refl t c = rw (c.in-Refl.is, cert-Refl) (sym (gone_nothing _ _))

pub cert-returns-in-Ring : goal.cert-returns-in-Ring
cert-returns-in-Ring t c = rw (c.in-Ring.is, cert-Ring) (sym (gone_nothing _ _))

pub cert-returns-in-Range : goal.cert-returns-in-Range
cert-returns-in-Range t c = rw (c.in-Range.is, cert-Range) (sym (gone_nothing _ _))

pub cert-returns-in_ok-cert-in-And : goal.cert-returns-in_ok-cert-in-And
cert-returns-in_ok-cert-in-And t c =
    rw (c.in-And.is, cert-And, ← c.deref-in-And.ensures, ← c.deref-in-And-2.ensures)
    (two_go c.cert-in-And-2.result _ _ _ _ _ _ _ c.in_ok-cert-in-And.ensures c.cert-in-And-2.ensures refl)

pub cert-returns-in_ok-cert-in-Cases : goal.cert-returns-in_ok-cert-in-Cases
cert-returns-in_ok-cert-in-Cases t c =
    rw (c.in-Cases.is, cert-Cases, ← c.deref-in-Cases.ensures, ← c.deref-in-Cases-2.ensures)
    (two_go c.cert-in-Cases-2.result _ _ _ _ _ _ _ c.in_ok-cert-in-Cases.ensures c.cert-in-Cases-2.ensures refl)

pub cert-returns-in_ok-cert_behind-in-Split : goal.cert-returns-in_ok-cert_behind-in-Split
cert-returns-in_ok-cert_behind-in-Split t c =
    rw (c.in-Split.is, cert-Split, ← c.deref-in-Split.ensures, ← c.deref-in-Split-2.ensures)
    (two_go c.cert-in-Split.result _ _ _ _ _ _ _ c.in_ok-cert_behind-in-Split.ensures c.cert-in-Split.ensures refl)

pub cert-returns-in_ok-cert_behind-in-Have : goal.cert-returns-in_ok-cert_behind-in-Have
cert-returns-in_ok-cert_behind-in-Have t c =
    rw (c.in-Have.is, cert-Have, ← c.deref-in-Have.ensures, ← c.deref-in-Have-2.ensures)
    (two_go c.cert-in-Have.result _ _ _ _ _ _ _ c.in_ok-cert_behind-in-Have.ensures c.cert-in-Have.ensures refl)

pub cert-returns-in-Fwd : goal.cert-returns-in-Fwd
cert-returns-in-Fwd t c = rw (c.in-Fwd.is, cert-Fwd, ← c.deref-in-Fwd.ensures) c.cert_behind-in-Fwd.ensures

pub cert-returns-in-Rev : goal.cert-returns-in-Rev
cert-returns-in-Rev t c = rw (c.in-Rev.is, cert-Rev, ← c.deref-in-Rev.ensures) c.cert_behind-in-Rev.ensures

pub cert-returns-in_ok-exprs-in-Axiom : goal.cert-returns-in_ok-exprs-in-Axiom
cert-returns-in_ok-exprs-in-Axiom t c =
    rw (c.in-Axiom.is, cert-Axiom, ← c.deref-in-Axiom.ensures, ← c.as_slice.ensures)
    (two_go c.cert-in-Axiom.result _ _ _ _ _ _ _ c.in_ok-exprs-in-Axiom.ensures c.cert-in-Axiom.ensures refl)

pub cert_behind-returns : goal.cert_behind-returns
cert_behind-returns t c = two_go c.cert.result _ _ _ _ _ _ _ c.in_ok-expr.ensures c.cert.ensures refl
