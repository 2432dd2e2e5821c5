-- Certificates without where their parts lie.
use Rattle.std.specs.Prelude.{map, Box}
use Rattle.cov_expr.specs.Term.{Term}
use Rattle.cov_read.specs.WrittenViews.{written}
use Rattle.cov_read.specs.declared.cert.Whole.{Whole}
use Rattle.cov_read.specs.declared.cert.PlacedCert.{PlacedCert, fold-PlacedCert}
use Rattle.cov_read.specs.declared.cert.PlacedCert.TheOpen.{PlacedCert-F}
use Rattle.cov_grammar.specs.PlacedTrees.{Placed}
use Rattle.cov_grammar.specs.PlacedTrees as t

abbrev pub whole : Whole → Placed Term
whole w = (w.at, written w.expr)

abbrev pub cert_step : PlacedCert-F t.Cert → t.Cert
cert_step PlacedCert-F.Auto = t.auto
cert_step PlacedCert-F.Calc = t.calc
cert_step PlacedCert-F.Refl = t.reflexive
cert_step PlacedCert-F.Ring = t.ring
cert_step PlacedCert-F.Range = t.range
cert_step (PlacedCert-F.Hyp i) = t.hyp i
cert_step (PlacedCert-F.Clash i) = t.clash i
cert_step (PlacedCert-F.Absurd i j) = t.absurdity i j
cert_step (PlacedCert-F.And x y) = t.and x.value y.value
cert_step (PlacedCert-F.Left x) = t.left x.value
cert_step (PlacedCert-F.Right x) = t.right x.value
cert_step (PlacedCert-F.Unpack i x) = t.unpack i x.value
cert_step (PlacedCert-F.Cases i x y) = t.cases i x.value y.value
cert_step (PlacedCert-F.Split e x y) = t.split (whole e) x.value y.value
cert_step (PlacedCert-F.Have e x y) = t.have (whole e) x.value y.value
cert_step (PlacedCert-F.Not x) = t.negation x.value
cert_step (PlacedCert-F.Contra x) = t.contra x.value
cert_step (PlacedCert-F.Fwd i e x) = t.fwd i (whole e) x.value
cert_step (PlacedCert-F.Rev i e x) = t.rev i (whole e) x.value
cert_step (PlacedCert-F.Axiom i es x) = t.instance i (map whole es) x.value

abbrev pub cert : PlacedCert → t.Cert
cert = fold-PlacedCert t.Cert cert_step

abbrev pub boxed : {Z : Type 0} → Box PlacedCert Z → t.Cert
boxed b = cert b.value

abbrev pub two : {Y Z : Type 0} → Box PlacedCert Y × Box PlacedCert Z → t.Cert × t.Cert
two x = (cert x.0.value, cert x.1.value)
