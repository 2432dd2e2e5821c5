use Rattle.std.proofs.Common.{append_assoc}
use Rattle.std.proofs.lemmas.Result.{on_ok_weaker}
use Rattle.entail_origins.proofs.type_classes.add_spelled.Goals as goal

pub returns : goal.returns
returns c =
    on_ok_weaker c.extend_from_slice-3.result (λ is. simp (append_assoc, c.as_bytes.ensures.value, c.as_bytes.ensures.utf8, c.as_bytes.ensures.len, c.level_part.ensures, c.in_ok-extend_from_slice-2.ensures.ok, c.in_ok-add_term.ensures, c.in_ok-extend_from_slice.ensures.ok) at is) c.extend_from_slice-3.ensures.ok
