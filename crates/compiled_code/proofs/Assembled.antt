-- The code of a program is that of its threads.
use Rattle.std.proofs.Common.{◌≡◌, ℕ, ◌<◌, [], length, get_or, map, refl, sym, ◌∙◌, ap, subst, arith}
use Rattle.std.proofs.Math.ListN.{get_or-map}
use Rattle.std.proofs.lemmas.List.{ext_get_or, length-map}
use Rattle.std.proofs.lemmas.List.FromFn.{get_or-map-range_with_len, length-map-range_with_len}
use Rattle.cov_expr.specs.Words.{IsSchedule}
use Rattle.cov_ast.specs.Declarations.{thread_at}
use Rattle.cov_ast.specs.LocksAlong.{no_locks}
use Rattle.cov_ast.specs.Plain.{PlainThread, plain, plain_thread}
use Rattle.cov_ast.specs.Syntax.{Program, Thread}
use Rattle.flow_model.specs.Composable.{HasCompatibleModes}
use Rattle.flow_model.specs.Secure.{IsSecure}
use Rattle.flow_model.specs.Source.{items_then}
use Rattle.mode_compat.specs.Compatible.{no_thread}
use Rattle.mode_compat.specs.Declared.{IsDeclared}
use Rattle.regalloc.specs.Plan.{start}
use Rattle.compiled_code.specs.Compiled.{compiled, thread_code, thread_lines}
use Rattle.compiled_code.specs.LoadBound.{MeetsLoadBound, HasFewLoads}
use Rattle.compiled_code.specs.Matches.{AreRegisters, Matches}
use Rattle.compiled_code.specs.Records.{KeepsRecords}
use Rattle.compiled_code.specs.SecureCode.{IsSecureCode}
use Rattle.compiled_code.proofs.Few.{few_body}
use Rattle.compiled_code.proofs.Forward.{Forward, body_forward}
use Rattle.compiled_code.proofs.LaidOut.{IsTidy, body_at}
use Rattle.compiled_code.proofs.Records.{keeps_records}
use Rattle.compiled_code.proofs.Shape.{ItemsCode}
use Rattle.compiled_code.proofs.Steps.{AreSets}
use Rattle.compiled_code.proofs.Whole.{IsLaidOut, matches_after, secure_code}
use Rattle.risc_machine.specs.Faults.{thread_names}
use Rattle.risc_machine.specs.Machine.{lines_of}
use Rattle.risc_machine.specs.declared.parts.ThreadCode.{ThreadCode}

none : ThreadCode
none = record { name = []; lines = [] }

module _ (p : Program) where
  threads_are : length (plain p).threads ≡ length p.threads
  threads_are = length-map p.threads plain_thread

  pub code_count : length (compiled p).threads ≡ length p.threads
  code_count = length-map-range_with_len (thread_code (plain p)) 0 (length p.threads)

  pub code_at : (t : ℕ) (d : ThreadCode) → t < length p.threads → get_or (compiled p).threads t d ≡ thread_code (plain p) t
  code_at t d inside = get_or-map-range_with_len (thread_code (plain p)) 0 (length p.threads) t t d inside (omega arith)

  lines_are : (t : ℕ) → t < length (plain p).threads → lines_of (compiled p) t ≡ thread_lines (plain p) t
  unfolding none
  lines_are t t_in =
      get_or-map (λ (thread : ThreadCode). thread.lines) (compiled p).threads t none
      ∙ ap (λ (thread : ThreadCode). thread.lines) (code_at t none (omega (arith, t_in, threads_are)))

  pub names_are : thread_names (compiled p).threads ≡ map (λ (t : Thread). t.name) p.threads
  unfolding none
  names_are =
      ext_get_or [] (thread_names (compiled p).threads) (map (λ (t : Thread). t.name) p.threads)
      (length-map (compiled p).threads _ ∙ code_count ∙ sym (length-map p.threads _))
      (λ t lt.
      get_or-map (λ (thread : ThreadCode). thread.name) (compiled p).threads t none
      ∙ ap (λ (thread : ThreadCode). thread.name) (code_at t none (omega (arith, lt, length-map (compiled p).threads (λ (thread : ThreadCode). thread.name), code_count)))
      ∙ ap (λ (th : PlainThread). th.name) (get_or-map plain_thread p.threads t no_thread)
      ∙ sym (get_or-map (λ (t : Thread). t.name) p.threads t no_thread))

  pub few : IsDeclared (plain p) → MeetsLoadBound (plain p) (compiled p)
  few d t t_in small =
      subst (HasFewLoads (plain p) t (thread_at (plain p) t).body) (sym (lines_are t t_in)) (few_body (plain p) t d (thread_at (plain p) t).body small)

  module _ (sets : (t : ℕ) → AreSets (plain p) t) (apart : HasCompatibleModes (plain p))
      (tidy : (t : ℕ) → t < length (plain p).threads → IsTidy (plain p) t (thread_at (plain p) t).body (no_locks (plain p))) where
    laid_out : IsLaidOut (plain p) (compiled p)
    laid_out = record {
      locks = length-map p.locks _;
      threads = code_count ∙ sym threads_are;
      each = λ t t_in.
          subst (λ ls. ItemsCode (plain p) t ls (items_then (thread_at (plain p) t).body []) (no_locks (plain p)) start 0) (sym (lines_are t t_in))
          (body_at (plain p) t (thread_at (plain p) t).body (no_locks (plain p)) (tidy t t_in));
    }

    forward : (t : ℕ) → t < length (plain p).threads → Forward (lines_of (compiled p) t)
    forward t t_in = subst Forward (sym (lines_are t t_in)) (body_forward (plain p) t (thread_at (plain p) t).body (no_locks (plain p)) (tidy t t_in))

    pub matches : Matches p (compiled p)
    matches = record {
      names = record { version = refl; vars = refl; locks = refl; threads = names_are };
      runs = λ m rows s im regs s_in.
          matches_after (plain p) sets apart (compiled p) laid_out forward m rows
          (subst (λ n. AreRegisters n rows) (sym threads_are) regs) im.complete s (subst (λ n. IsSchedule n s) (sym threads_are) s_in);
    }

    pub secure : IsSecure (plain p) → IsSecureCode (plain p) (compiled p)
    secure h = secure_code (plain p) sets apart (compiled p) laid_out h

    pub records : KeepsRecords (plain p) (compiled p)
    records = keeps_records (plain p) sets apart (compiled p) laid_out
