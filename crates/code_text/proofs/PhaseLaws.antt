-- The rows of parts with a listing are taken one after another: names, and the lines of each thread.
use Rattle.std.proofs.Common.{◌≡◌, ℕ, ◌-◌, nat_lt, List, [], ◌∷◌, ◌++◌, length, map, flat_map, decimal, ap, sym, ◌∙◌, subst, arith, codes, append_assoc, Some, option_map}
use Rattle.std.proofs.lemmas.Bool.{lt-ltb}
use Rattle.std.proofs.lemmas.List.{append-nil}
use Rattle.cov_expr.specs.Names.{IsName}
use Rattle.risc_machine.specs.declared.parts.Line.{Line}
use Rattle.risc_machine.specs.declared.parts.Parts.{Parts}
use Rattle.risc_machine.specs.declared.parts.ThreadCode.{ThreadCode}
use Rattle.code_text.specs.Inside.ListingReading.{both, number_of, line_of, head_of, begun}
use Rattle.code_text.specs.Listing.{declared, line, thread_rows, IsListedLine}
use Rattle.code_text.specs.Inside.ListingReading.{Draft}
use Rattle.code_text.specs.declared.row.Row.TheVariants as row
use Rattle.code_text.proofs.BackLaws.{taken, name_back, number_back}
use Rattle.code_text.proofs.ChainLaws.{Chain, chain_append}
use Rattle.code_text.proofs.DraftLaws.{with_line_last}
use Rattle.code_text.proofs.Every.{Every}
use Rattle.code_text.proofs.Filled.{HasListing, IsThread}
use Rattle.code_text.proofs.InstrBack.{first_line, line_back}

abbrev parts_of : ℕ → (vars locks : List (List ℕ)) → List ThreadCode → Parts
parts_of version vars locks threads = record { version = version; vars = vars; locks = locks; threads = threads }

abbrev draft : ℕ → (vars locks : List (List ℕ)) → List ThreadCode → ℕ → Draft
draft version vars locks threads left = record { parts = parts_of version vars locks threads; left = left }

chain_vars : (version : ℕ) (xs vs : List (List ℕ)) → Every IsName vs → Chain (draft version xs [] [] 0) (map (declared (codes "var")) vs) (draft version (xs ++ vs) [] [] 0)
chain_vars version xs [] a = ap (λ ys. draft version ys [] [] 0) (sym (append-nil xs))
chain_vars version xs (v ∷ vs) a = (
  row.Var v,
  ap (option_map row.Var) (name_back v a.0),
  subst (λ ys. Chain (draft version (xs ++ v ∷ []) [] [] 0) (map (declared (codes "var")) vs) (draft version ys [] [] 0)) (append_assoc xs (v ∷ []) vs) (chain_vars version (xs ++ v ∷ []) vs a.1),
)

chain_locks : (version : ℕ) (vars xs ls : List (List ℕ)) → Every IsName ls → Chain (draft version vars xs [] 0) (map (declared (codes "lock")) ls) (draft version vars (xs ++ ls) [] 0)
chain_locks version vars xs [] a = ap (λ ys. draft version vars ys [] 0) (sym (append-nil xs))
chain_locks version vars xs (l ∷ ls) a = (
  row.Lock l,
  ap (option_map row.Lock) (name_back l a.0),
  subst (λ ys. Chain (draft version vars (xs ++ l ∷ []) [] 0) (map (declared (codes "lock")) ls) (draft version vars ys [] 0)) (append_assoc xs (l ∷ []) ls) (chain_locks version vars (xs ++ l ∷ []) ls a.1),
)

module _ (version : ℕ) (vars locks : List (List ℕ)) where
  abbrev Listed : Line → Type 0
  Listed l = IsListedLine version (length vars) (length locks) l

  abbrev First : Line → Line
  First l = first_line vars locks l

  abbrev pub first_thread : ThreadCode → ThreadCode
  first_thread t = record { name = t.name; lines = map (first_line vars locks) t.lines }

  abbrev standing : List ThreadCode → ℕ → Draft
  standing ts left = draft version vars locks ts left

  chain_lines : (ts : List ThreadCode) (n : List ℕ) (done rest : List Line) → Every Listed rest
      → Chain (standing (ts ++ record { name = n; lines = done } ∷ []) (length rest)) (map (line vars locks) rest) (standing (ts ++ record { name = n; lines = done ++ map First rest } ∷ []) 0)
  chain_lines ts n done [] a = ap (λ ys. standing (ts ++ record { name = n; lines = ys } ∷ []) 0) (sym (append-nil done))
  chain_lines ts n done (l ∷ rest) a =
      let t : ThreadCode = record { name = n; lines = done } in
      let p : Parts = parts_of version vars locks (ts ++ t ∷ []) in
      let last : List Line = done ++ First l ∷ map First rest in
      let k : length rest ≡ length (l ∷ rest) - 1 = omega arith in (
        row.Line (First l),
        taken (nat_lt 0 (length (l ∷ rest))) (line_of p (line vars locks l)) (head_of p (line vars locks l)) (lt-ltb 0 (length (l ∷ rest)) (omega arith)) ∙ line_back p l a.0,
        subst (λ us. Chain (standing us (length (l ∷ rest) - 1)) (map (line vars locks) rest) (standing (ts ++ record { name = n; lines = last } ∷ []) 0)) (sym (with_line_last ts t (First l)))
            (subst (λ j. Chain (standing (ts ++ record { name = n; lines = done ++ First l ∷ [] } ∷ []) j) (map (line vars locks) rest) (standing (ts ++ record { name = n; lines = last } ∷ []) 0)) k
            (subst (λ ys. Chain (standing (ts ++ record { name = n; lines = done ++ First l ∷ [] } ∷ []) (length rest)) (map (line vars locks) rest) (standing (ts ++ record { name = n; lines = ys } ∷ []) 0)) (append_assoc done (First l ∷ []) (map First rest))
            (chain_lines ts n (done ++ First l ∷ []) rest a.1))),
      )

  chain_threads : (ts us : List ThreadCode) → Every (IsThread version (length vars) (length locks)) us → Chain (standing ts 0) (flat_map (thread_rows vars locks) us) (standing (ts ++ map first_thread us) 0)
  chain_threads ts [] a = ap (λ ys. standing ys 0) (sym (append-nil ts))
  chain_threads ts (u ∷ us) a = (
    row.Thread u.name (length u.lines),
    ap (λ o. both row.Thread o (number_of (decimal (length u.lines)))) (name_back u.name a.0.name) ∙ ap (both row.Thread (Some u.name)) (number_back (length u.lines) a.0.count),
    chain_append (map (line vars locks) u.lines) (flat_map (thread_rows vars locks) us)
        (standing (ts ++ record { name = u.name; lines = [] } ∷ []) (length u.lines)) (standing (ts ++ first_thread u ∷ []) 0) (standing (ts ++ map first_thread (u ∷ us)) 0)
        (chain_lines ts u.name [] u.lines a.0.lines)
        (subst (λ ys. Chain (standing (ts ++ first_thread u ∷ []) 0) (flat_map (thread_rows vars locks) us) (standing ys 0)) (append_assoc ts (first_thread u ∷ []) (map first_thread us)) (chain_threads (ts ++ first_thread u ∷ []) us a.1)),
  )

-- the parts in which each number of a variable or a lock is that of the first declaration of its name
abbrev pub first_parts : Parts → Parts
first_parts p = record p { threads = map (first_thread p.version p.vars p.locks) p.threads }

abbrev pub body : Parts → List (List (List ℕ))
body p = (map (declared (codes "var")) p.vars ++ map (declared (codes "lock")) p.locks) ++ flat_map (thread_rows p.vars p.locks) p.threads

pub chain_body : (p : Parts) → HasListing p → Chain (begun p.version) (body p) (record { parts = first_parts p; left = 0 })
chain_body p h =
    chain_append (map (declared (codes "var")) p.vars ++ map (declared (codes "lock")) p.locks) (flat_map (thread_rows p.vars p.locks) p.threads)
    (begun p.version) (draft p.version p.vars p.locks [] 0) (record { parts = first_parts p; left = 0 })
    (chain_append (map (declared (codes "var")) p.vars) (map (declared (codes "lock")) p.locks)
    (begun p.version) (draft p.version p.vars [] [] 0) (draft p.version p.vars p.locks [] 0)
    (chain_vars p.version [] p.vars h.vars) (chain_locks p.version p.vars [] p.locks h.locks))
    (chain_threads p.version p.vars p.locks [] p.threads h.threads)
