-- Words of private contracts. What is promised doesn't rest on them.
use Rattle.std.specs.Prelude.{◌<◌, ℕ, List, All}
use Rattle.cov_ast.specs.View as view
use Rattle.deeper_text.specs.DeeperText as spec
use Rattle.deeper_text.specs.declared.found.Found.{Found}

-- a certificate that is found, as plain data
abbrev pub found : Found → spec.Found
found f = record { thread = f.thread; place = f.place; number = f.number; cert = view.cert f.cert }

-- Each is of one of so many threads.
abbrev pub AreOfThreads : (threads : ℕ) → List spec.Found → Type 0
AreOfThreads n fs = All (λ (f : spec.Found). f.thread < n) fs
