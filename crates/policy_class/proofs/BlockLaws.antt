-- Blocks and programs in which each name has its id.
use Rattle.std.proofs.Common.{◌≡◌, ℕ, List, [], ◌∷◌, map, refl, ap, ◌∙◌, All}
use Rattle.std.proofs.lemmas.List.Elements.{All-head, All-tail}
use Rattle.cov_ast.specs.Syntax.{more, Var, Lock, Thread, Program, Parsed}
use Rattle.cov_ast.specs.View.{Placed, block_of}
use Rattle.cov_ast.specs.WellFormed.{BlockHasWords}
use Rattle.policy_class.specs.declared.ids.Ids.{Ids}
use Rattle.policy_class.specs.Inside.Statements.{StmtHasWords, resolved_stmt}
use Rattle.policy_class.specs.Inside.Ids.{AreIdsOf, var_in, lock_in}
use Rattle.policy_class.specs.Resolved.{resolved_stm, resolved_proof, resolved_block, resolved_variable, resolved_lock, resolved_thread, resolved}

module _ (to_var to_lock : ℕ → ℕ) where
  pub block_resolved : (ss : List Placed) → block_of (map (resolved_stmt to_var to_lock) ss) ≡ resolved_block to_var to_lock (block_of ss)
  block_resolved [] = refl
  block_resolved (s ∷ ss) = ap (more s.at (resolved_stm to_var to_lock s.stm) (map (resolved_proof to_var to_lock) s.proofs)) (block_resolved ss)

pub block_words : (ss : List Placed) → All StmtHasWords ss → BlockHasWords (block_of ss)
block_words [] all = tt
block_words (s ∷ ss) all =
    let first = All-head StmtHasWords s ss all in
    (first.0, first.1, block_words ss (All-tail StmtHasWords s ss all))

-- declarations by the ids of tables are those of the program that the text stands for
pub tables_resolve : (p : Parsed) (t : Ids) → AreIdsOf p t → (vars : List Var) (locks : List Lock) (threads : List Thread)
    → vars ≡ map (resolved_variable (var_in t) (lock_in t)) p.vars
    → locks ≡ map (resolved_lock (var_in t) (lock_in t)) p.locks
    → threads ≡ map (resolved_thread (var_in t) (lock_in t)) p.threads
    → (let made : Program = record { version = p.version; vars = vars; locks = locks; threads = threads } in made) ≡ resolved p
tables_resolve p t h vars locks threads a b c =
    (λ i. record { version = p.version; vars = a i; locks = b i; threads = c i })
    ∙ (λ i. record {
      version = p.version;
      vars = map (resolved_variable (λ x. h.variables x i) (λ x. h.locks x i)) p.vars;
      locks = map (resolved_lock (λ x. h.variables x i) (λ x. h.locks x i)) p.locks;
      threads = map (resolved_thread (λ x. h.variables x i) (λ x. h.locks x i)) p.threads;
    })
