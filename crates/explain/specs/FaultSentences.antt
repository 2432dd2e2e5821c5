-- The faults of a text in plain words.
use Rattle.std.specs.Prelude.{ℕ, List, codes}
use Rattle.explain.specs.ByteSentences.{byte_sentence}
use Rattle.explain.specs.TokenSentences.{token_sentence}
use Rattle.call_reports.specs.declared.answers.FaultKind.{FaultKind}
use Rattle.call_reports.specs.declared.answers.FaultKind.TheVariants as k

-- the sentence of a fault, by the text from its place on
abbrev pub fault_sentence : FaultKind → (rest : List ℕ) → List ℕ
fault_sentence k.Byte rest = byte_sentence rest
fault_sentence k.Number rest = codes "this number is above 4294967295"
fault_sentence k.Name rest = codes "this word has more than 32 bytes"
fault_sentence k.Token rest = token_sentence rest
fault_sentence k.Limit rest = codes "what begins here passes a limit of programs: on how many of its kind there are, or how many parts it has"
fault_sentence k.Depth rest = codes "what begins here passes a limit of programs: on how deep it lies in others, or how high it is"
fault_sentence k.Unknown rest = codes "this name is that of no variable"
