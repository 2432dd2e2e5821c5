-- Laws of calls that are made again where a signal interrupts them.
use Rattle.std.proofs.Common.{Err, inl, inr, ◌∙◌, arith, ap}
use Rattle.cov_io.specs.Calls.{Troubles, Tries, HasNoError, IsFault}
use Rattle.cov_io.specs.Counters.{raised}
use Rattle.cov_io.specs.declared.trouble.CallError.{CallError}
use Rattle.cov_io.specs.declared.trouble.CallError.TheVariants.{Interrupted, Other}

-- where a call fails after others that didn't
pub fails_after : (a b c : Troubles) (error : CallError) → HasNoError a b → Tries b c (Err error) → IsFault a c
fails_after a b c Interrupted before tries = inr ((omega (arith, before.0, tries.0.0), tries.0.1 ∙ before.1), omega (arith, before.0, tries.1))
fails_after a b c Other before tries = inl (omega (arith, before.0, tries.0.0), tries.0.1 ∙ ap (λ n. raised n 1) before.1)
