-- What a deeper search comes to is valid and within the limits.
use Rattle.std.proofs.Common.{◌≡◌, List, Bool, true, false, ◌&&◌, Option, Some, None, option_map, Result, Ok, Err, IfOk, refl, sym, subst}
use Rattle.cov_expr.specs.declared.list.NoMemory.{NoMemory}
use Rattle.cov_expr.specs.Term.{Term}
use Rattle.cov_ast.specs.Syntax as by
use Rattle.cov_ast.specs.declared.cert.Cert.{Cert}
use Rattle.cov_ast.specs.View as view
use Rattle.entail_cert.specs.Valid.{is_valid}
use Rattle.cert_search.specs.Searching.{only_where}
use Rattle.entail_search.specs.declared.splits.TheConstants.{MOST_SPLITS}
use Rattle.entail_search.specs.Within.{is_cert_within}
use Rattle.entail_search.specs.Deeper.{tested, by_splits, deeper}
use Rattle.entail_search.specs.Sound.{IsSound, FindsSound}

passed : (hyps : List Term) (goal : Term) (d c : by.Cert) (w v : Bool) → is_cert_within hyps goal d ≡ w → is_valid hyps goal d ≡ v
    → only_where (w && v) (Some d) ≡ Some c → IsSound hyps goal c
passed hyps goal d c true true p q e =
    let same : d ≡ c = cc in
    subst (IsSound hyps goal) same (record { valid = q; within = p })
passed hyps goal d c true false p q e = absurd (cc)
passed hyps goal d c false v p q e = absurd (cc)

tested_sound : (hyps : List Term) (goal : Term) (o : Option by.Cert) (c : by.Cert) → tested hyps goal o ≡ Some c → IsSound hyps goal c
tested_sound hyps goal None c e = absurd (cc)
tested_sound hyps goal (Some d) c e = passed hyps goal d c (is_cert_within hyps goal d) (is_valid hyps goal d) refl refl e

pub deeper_sound : (hyps : List Term) (goal : Term) (c : by.Cert) → deeper hyps goal ≡ Some c → IsSound hyps goal c
deeper_sound hyps goal c e = tested_sound hyps goal (by_splits MOST_SPLITS hyps goal) c e

pub told : (hyps : List Term) (goal : Term) (r : Result (Option Cert) NoMemory) → IfOk r (λ o. option_map view.cert o ≡ deeper hyps goal) → FindsSound hyps goal r
told hyps goal (Ok (Some c)) e = deeper_sound hyps goal (view.cert c) (sym e)
told hyps goal (Ok None) e = tt
told hyps goal (Err s) e = tt
