-- A program with a replaced thread is well formed.
use Rattle.std.proofs.Common.{◌≡◌, ℕ, ◌<◌, [], ◌++◌, length, map, set, sym, ◌∙◌, ap, subst, IsTrue, arith}
use Rattle.std.proofs.lemmas.List.{get_or-map, length-set, map-set, set-get_or}
use Rattle.std.proofs.lemmas.List.Elements.{All-set}
use Rattle.std.specs.Str.{bytes_eq}
use Rattle.cov_ast.specs.Syntax.{Thread, Program}
use Rattle.cov_ast.specs.WellFormed.{BlockHasWords, IsBodyFine, IsSilent, IsThreadInRange, IsWellFormed, are_distinct}
use Rattle.mode_compat.specs.Compatible.{no_thread, numbered}
use Rattle.policy_class.specs.Resolved.{is_among}
use Rattle.thread_swap.specs.Inside.Over.{IsFitting}
use Rattle.thread_swap.specs.Replacements.{AreAlike, IsNamed, IsReplacement, thread_named}
use Rattle.thread_swap.specs.Swaps.{swapped}
use Rattle.thread_swap.proofs.NamedLaws.{named_inside, named_there}

module _ (p : Program) (t : ℕ) (d : Thread) (inside : t < length p.threads) (name : d.name ≡ (numbered p t).name) where
  -- the names stay
  names_stay : map (λ u. u.name) (set p.threads t d) ≡ map (λ u. u.name) p.threads
  names_stay =
      let names = map (λ (u : Thread). u.name) p.threads in
      map-set (λ (u : Thread). u.name) p.threads t d
      ∙ ap (λ n. set names t n) (name ∙ sym (get_or-map (λ (u : Thread). u.name) p.threads t no_thread [] inside))
      ∙ set-get_or names t []

  stays_formed : IsWellFormed p → IsFitting p d → IsWellFormed (swapped p t d)
  stays_formed fine h = record {
    ids = record {
      classes = fine.ids.classes;
      of_locks = fine.ids.of_locks;
      of_threads = All-set (IsThreadInRange (length p.vars) (length p.locks)) p.threads t d h.in_range fine.ids.of_threads;
    };
    words = record {
      classes = fine.words.classes;
      invariants = fine.words.invariants;
      bodies = All-set (λ u. BlockHasWords u.body) p.threads t d h.words fine.words.bodies;
    };
    names_differ = subst (λ names. IsTrue (are_distinct bytes_eq (map (λ v. v.name) p.vars ++ map (λ l. l.name) p.locks ++ names))) (sym names_stay) fine.names_differ;
    limits = record {
      variables = fine.limits.variables;
      declared_locks = fine.limits.declared_locks;
      declared_threads = omega (arith, fine.limits.declared_threads, length-set p.threads t d);
    };
    bodies = All-set (λ u. IsBodyFine u.body) p.threads t d h.body fine.bodies;
    version = record {
      known = fine.version.known;
      silent = λ one. All-set (λ u. IsSilent u.body) p.threads t d (h.silent one) (fine.version.silent one);
    };
  }

module _ (p : Program) (d : Thread) (fit : IsFitting p d) where
  -- what fits a program fits those that are alike
  fits_alike : (q : Program) → AreAlike p q → IsFitting q d
  fits_alike q alike = record {
    in_range =
        subst (λ vs. IsThreadInRange (length vs) (length q.locks) d) (sym alike.vars)
        (subst (λ ls. IsThreadInRange (length p.vars) (length ls) d) (sym alike.locks) fit.in_range);
    words = fit.words;
    body = fit.body;
    silent = λ one. fit.silent (sym alike.version ∙ one);
  }

  pub replacement : IsNamed p d → IsReplacement p d
  replacement named = record {
    named = named;
    formed = λ q alike fine.
        let there : IsNamed q d = subst (λ names. IsTrue (is_among names d.name)) (sym alike.names) named in
        stays_formed q (thread_named q d.name) d (named_inside q d there) (named_there q d there) fine (fits_alike q alike);
  }
