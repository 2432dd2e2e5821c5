use Rattle.std.proofs.Common.{◌≡◌, ℕ, List, ◌++◌, length, take, drop, sym, ap, subst, ◌∙◌, rules}
use Rattle.std.proofs.lemmas.List.{drop-replicate}
use Rattle.std.proofs.Math.ListN.{replicate}
use Rattle.std.proofs.Math.Seq.{take-append_seam}
use Rattle.cov_expr.specs.Names.{IsName, padded}
use Rattle.cov_expr.specs.declared.limits.TheConstants.{MOST_NAME_BYTES}
use Rattle.cov_expr.proofs.name.Name.known.Goals as goal

-- what the copied bytes and the zeros behind them are
padded_kept : (text front : List ℕ) → front ≡ text → IsName text
    → let bytes = front ++ drop (length text) (replicate MOST_NAME_BYTES 0) in
    IsName (take (length text) bytes) × (bytes ≡ padded (take (length text) bytes)) × (length text ≡ length (take (length text) bytes))
padded_kept text front e name =
    let text_is = ap (λ f. take (length text) (f ++ drop (length text) (replicate MOST_NAME_BYTES 0))) e ∙ take-append_seam text (drop (length text) (replicate MOST_NAME_BYTES 0)) in (
      subst IsName (sym text_is) name,
      rw text_is (ap (λ f. f ++ drop (length text) (replicate MOST_NAME_BYTES 0)) e ∙ ap (λ z. text ++ z) (drop-replicate (length text) MOST_NAME_BYTES 0)),
      sym (ap length text_is),
    )

pub invariant_of-result : goal.invariant_of-result
invariant_of-result c = padded_kept c.args.text.now _ c.copy_from_slice.ensures.after (search rules)
