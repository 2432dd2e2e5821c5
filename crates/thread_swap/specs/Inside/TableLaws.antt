-- What a table says is lawful.
use Rattle.std.proofs.Common.{◌≡◌, ℕ, ◌==◌, List, [], ◌∷◌, true, false, refl, Ok, Err, IsTrue}
use Rattle.std.proofs.lemmas.Bool.{and_parts, cond_both, ltb-true}
use Rattle.typing_law.specs.declared.count.Count.{Count}
use Rattle.thread_swap.specs.Judges.{IsLawful, IsSound, Said, most_said}
use Rattle.thread_swap.specs.MemJudges.{are_lawful, by_table, is_lawful, is_small, listed_said, said_of}
use Rattle.thread_swap.specs.declared.row.Row.{Row}

listed_lawful : (rows : List Row) (at : ℕ) (rest : Said) → IsTrue (are_lawful rows) → IsTrue (is_lawful rest) → IsTrue (is_lawful (listed_said rows at rest))
listed_lawful [] at rest h k = k
listed_lawful (r ∷ rows) at rest h k =
    let parts = and_parts (is_lawful r.said) (are_lawful rows) h in
    cond_both (r.at == at) r.said (listed_said rows at rest) (λ s. IsTrue (is_lawful s)) (λ e. parts.0) (λ e. listed_lawful rows at rest parts.1 k)

lawful_of : (t : ℕ) (said : Said) → IsTrue (is_lawful said) → IsLawful t (said_of t said)
lawful_of t (Ok count) h =
    let parts = and_parts _ _ h in (ltb-true count.statements most_said parts.0, ltb-true count.entailments most_said parts.1)
lawful_of t (Err refusal) h = (refl, h)

pub table_is_sound : (rows : List Row) (rest : Count) (judged : ℕ) → IsTrue (are_lawful rows) → IsTrue (is_small rest) → IsSound (by_table rows rest judged)
table_is_sound rows rest judged h k = record {
  lawful = λ p fine declared t inside. lawful_of t (listed_said rows _ (Ok rest)) (listed_lawful rows _ (Ok rest) h k);
  exactly = λ no. absurd (let c : false ≡ true = no in cc);
}
