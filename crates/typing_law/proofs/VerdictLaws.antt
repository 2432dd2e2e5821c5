-- Laws of the verdict on one obligation, and on obligations behind which no other stands.
use Rattle.std.proofs.Common.{◌≡◌, List, [], ◌∷◌, ◌++◌, true, false, cond, sym, ap, subst, Some, None, Result, Err}
use Rattle.std.proofs.lemmas.List.{append-nil}
use Rattle.cov_ast.specs.Obligations.{Obligation, Decides, first_false}
use Rattle.cov_ast.specs.declared.refusal.CheckFault.{CheckFault}
use Rattle.cov_ast.specs.declared.refusal.CheckFault.TheVariants.{Refused}

pub obligation_refused : (e : Obligation) (fault : CheckFault) → e.holds ≡ false → fault ≡ Refused e.refusal → Decides (e ∷ []) (Err fault)
obligation_refused e fault h is = subst (λ f. Decides (e ∷ []) (Err f)) (sym is) (ap (λ b. cond b None (Some e.refusal)) h)

pub obligation_held : (e : Obligation) → e.holds ≡ true → first_false (e ∷ []) ≡ None
obligation_held e h = ap (λ b. cond b None (Some e.refusal)) h

pub padded : (a : List Obligation) (r : Result (Unit {0}) CheckFault) → Decides a r → Decides (a ++ []) r
padded a r h = subst (λ b. Decides b r) (sym (append-nil a)) h
