-- The code that is written has an object.
use Rattle.std.proofs.Common.{◌≡◌, ◌==◌, ◌||◌, Bool, true, false, if◌then◌else◌, Some, None, get_or, All, ◌⊎◌, inl, inr, refl}
use Rattle.std.proofs.lemmas.Bool.{or_cases, eqb-true, leb-true}
use Rattle.std.proofs.lemmas.List.{get_or_default}
use Rattle.std.proofs.lemmas.Option.{slice_get-get_or}
use Rattle.cov_expr.specs.Names.{IsName}
use Rattle.risc_machine.specs.Faults.{AreGood}
use Rattle.risc_machine.specs.declared.parts.CodeBad.TheVariants as bad
use Rattle.risc_machine.specs.declared.parts.Parts.{Parts}
use Rattle.risc_machine.proofs.StepLaws.{line_good, none_left}
use Rattle.object_code.specs.Object.{HasObject}
use Rattle.object_code.specs.Inside.Given.{AreWritten, IsOfWords}

module _ (p : Parts) (good : AreGood p) where
  -- the weights of a code are in range
  pub good_weights : All (λ t. AreWritten t.lines) p.threads
  good_weights k d inside = λ i e within.
      leb-true _ 2 (line_good p k (get_or p.threads k d) inside (get_or_default p.threads k d (get_or p.threads k d) inside) good i (get_or (get_or p.threads k d).lines i e) (slice_get-get_or (get_or p.threads k d).lines i e within)).weight

  good_version : (b : Bool) → (p.version == 1 || p.version == 2) ≡ b → (if b then None else Some (bad.BadVersion p.version)) ≡ None → (p.version ≡ 1) ⊎ (p.version ≡ 2)
  good_version true e h = elim (or_cases (p.version == 1) (p.version == 2) e) [ inl f ↦ inl (eqb-true p.version 1 f) | inr f ↦ inr (eqb-true p.version 2 f) ]
  good_version false e h = absurd cc

  -- Code whose names are names and whose numbers are words has an object.
  pub code_has_object : All IsName p.vars → All IsName p.locks → All IsOfWords p.threads → HasObject p
  code_has_object vars locks words = record {
    version = good_version (p.version == 1 || p.version == 2) refl (none_left _ _ good.faultless);
    var_count = good.counted.vars;
    lock_count = good.counted.locks;
    thread_count = good.counted.threads;
    vars = vars;
    locks = locks;
    threads = λ k d inside. record {
      name = (words k d inside).0;
      count = good.counted.lines k d inside;
      lines = λ i e within.
          let passed = line_good p k (get_or p.threads k d) inside (get_or_default p.threads k d (get_or p.threads k d) inside) good i (get_or (get_or p.threads k d).lines i e) (slice_get-get_or (get_or p.threads k d).lines i e within) in
          record {
            weight = leb-true _ 2 passed.weight;
            instr = record { registers = passed.registers; variable = passed.variable; lock = passed.lock; output = passed.output; words = (words k d inside).1 i e within };
          };
    };
  }
