-- What is added for a text that spells a program.
use Rattle.std.proofs.Common.{◌≡◌, ℕ, List, ◌++◌, map, Ok, inl, ap, ◌∙◌}
use Rattle.cov_ast.specs.declared.parsed.Parsed.{Parsed}
use Rattle.cov_ast.specs.View as view
use Rattle.cov_grammar.specs.Grammar as grammar
use Rattle.cov_text.specs.Limits as limits
use Rattle.cov_text.specs.Text.{Answers, program_of}
use Rattle.covern_cases.specs.Claims.{AddsLines, thread_lines}

pub adds_lines : (text before after : List ℕ) (parsed : Parsed) → Answers grammar.program limits.in_program text view.parsed (program_of text) (Ok parsed)
    → after ≡ before ++ thread_lines (map view.thread parsed.threads) → AddsLines text before after
adds_lines text before after parsed found added = inl (found.0, found.1, added ∙ ap (λ p. before ++ thread_lines p.threads) found.2)
