-- What the search is told to be says what is found, and that nothing is missed.
use Rattle.std.proofs.Common.{◌≡◌, ℕ, List, true, false, Option, Some, None, option_map, is_some, Result, Ok, Err, IfOk, refl, sym}
use Rattle.cov_expr.specs.declared.list.NoMemory.{NoMemory}
use Rattle.cov_expr.specs.Term.{Term}
use Rattle.cov_ast.specs.declared.cert.Cert.{Cert}
use Rattle.cov_ast.specs.View as view
use Rattle.entail_cert.specs.Valid.{first_bad}
use Rattle.entail_cert.proofs.Sound.{none_is}
use Rattle.cert_search.specs.Classes.{Finds, HasNone}
use Rattle.cert_search.specs.Searching.{search}
use Rattle.cert_search.proofs.Sound.{search_sound}
use Rattle.cert_search.proofs.Complete.{search_complete}

none_missed : (d : ℕ) (hyps : List Term) (goal : Term) → None ≡ search d hyps goal → HasNone d hyps goal
none_missed d hyps goal e c i v =
    let f : first_bad hyps goal c ≡ None = none_is (first_bad hyps goal c) v in
    let k : is_some (search d hyps goal) ≡ true = search_complete d hyps goal c i f in
    let l : false ≡ true = (rw (← e) at k) in
    cc

pub told : (d : ℕ) (hyps : List Term) (goal : Term) (r : Result (Option Cert) NoMemory) → IfOk r (λ o. option_map view.cert o ≡ search d hyps goal) → Finds d hyps goal r
told d hyps goal (Ok (Some c)) e =
    let f = search_sound d hyps goal (view.cert c) (sym e) in
    record { in_class = f.passes; valid = rw f.free refl }
told d hyps goal (Ok None) e = none_missed d hyps goal e
told d hyps goal (Err s) e = tt
