-- A swapper whose fields are open, with a thread replaced.
use Rattle.std.proofs.Common.{◌≡◌, ℕ, ◌<◌, List, length, map, get_or, set, sym, ◌∙◌, ap, subst, arith, Option, None}
use Rattle.std.proofs.lemmas.List.{length-map, length-set, set-set, set-get_or}
use Rattle.cov_ast.specs.Syntax.{Program}
use Rattle.cov_ast.specs.View as view
use Rattle.cov_ast.specs.WellFormed.{IsWellFormed}
use Rattle.cov_ast.specs.declared.decl.Program as decl
use Rattle.cov_ast.specs.declared.decl.ThreadDecl.{ThreadDecl}
use Rattle.thread_swap.specs.Judges.{Judging, Passes, Said}
use Rattle.thread_swap.specs.Swaps.{AreSaid, Fits, IsStanding, Swapping, due, settled, swapped, verdict_on}
use Rattle.thread_swap.specs.declared.judged.Judged.{Judged}
use Rattle.thread_swap.proofs.SwapLaws.{fits_settled, put_is, standing, still_fits, still_said}

module _ (p : decl.Program) (a : List (Option Said)) (v : Judged) (s : Swapping) (is : record { program = p; answers = a; verdict = v } ≡ s)
    (t : ℕ) (d : ThreadDecl) (T : List ThreadDecl) (put : T ≡ set p.threads t d) where
  abbrev q : Program
  q = view.program (record p { threads = T })

  here : view.program (record p { threads = T }) ≡ swapped (view.program p) t (view.thread d)
  here = ap (λ ts. view.program (record p { threads = ts })) put ∙ put_is p t d

  pub program_is : view.program (record p { threads = T }) ≡ swapped (view.program s.program) t (view.thread d)
  program_is = here ∙ ap (λ r. swapped (view.program r.program) t (view.thread d)) is

  pub still_formed : IsWellFormed (swapped (view.program s.program) t (view.thread d)) → IsWellFormed (view.program (record p { threads = T }))
  still_formed fine = subst IsWellFormed (sym program_is) fine

  module _ (A : List (Option Said)) (opened : A ≡ set a t None) where
    answers_are : A ≡ set s.answers t None
    answers_are = opened ∙ ap (λ r. set r.answers t None) is

    pub due_is : due (view.program (record p { threads = T })) A ≡ due (swapped (view.program s.program) t (view.thread d)) (set s.answers t None)
    due_is = λ i. due (program_is i) (answers_are i)

    pub settled_is : (j : Judging) → settled j (view.program (record p { threads = T })) A
        ≡ settled j (swapped (view.program s.program) t (view.thread d)) (set s.answers t None)
    settled_is j = λ i. settled j (program_is i) (answers_are i)

    pub verdict_is : (j : Judging) → verdict_on j (view.program (record p { threads = T })) ≡ verdict_on j (swapped (view.program s.program) t (view.thread d))
    verdict_is j = ap (verdict_on j) program_is

    module _ (stands : IsStanding (view.program p) a v) (within : t < length s.program.threads) where
      pub open_fits : (j : Judging) → Fits s j → AreSaid j (view.program (record p { threads = T })) A
      open_fits j fits =
          let inside : t < length (map view.thread p.threads) =
          omega (arith, within, ap (λ r. length r.program.threads) is, length-map p.threads view.thread) in
          subst (λ o. AreSaid j o A) (sym here)
          (subst (AreSaid j (swapped (view.program p) t (view.thread d))) (sym opened)
          (still_fits j (view.program p) t (view.thread d) a stands.complete inside (subst (λ r. Fits r j) (sym is) fits)))

      complete : length A ≡ length (map view.thread T)
      complete =
          ap length opened ∙ length-set a t None ∙ stands.complete ∙ length-map p.threads view.thread ∙ sym (length-set p.threads t d)
          ∙ sym (ap length put) ∙ sym (length-map T view.thread)

      -- what was settled
      module _ (j : Judging) (answers : List (Option Said)) (verdict : Judged) (answered : answers ≡ settled j (view.program (record p { threads = T })) A)
          (judged : verdict ≡ verdict_on j (view.program (record p { threads = T }))) where
        pub stands_behind : IsWellFormed (swapped (view.program s.program) t (view.thread d)) → IsStanding (view.program (record p { threads = T })) answers verdict
        stands_behind fine =
            subst (λ o. IsStanding (view.program (record p { threads = T })) o verdict) (sym answered)
            (subst (IsStanding (view.program (record p { threads = T })) (settled j (view.program (record p { threads = T })) A)) (sym judged)
            (standing (view.program (record p { threads = T })) j A (still_formed fine) complete))

        pub fits_behind : (k : Judging) → Passes j k → Fits s j → AreSaid k (view.program (record p { threads = T })) answers
        fits_behind k h fits =
            subst (AreSaid k (view.program (record p { threads = T }))) (sym answered)
            (still_said j k h (view.program (record p { threads = T })) (settled j (view.program (record p { threads = T })) A)
            (fits_settled (view.program (record p { threads = T })) j A (open_fits j fits)))

-- put back
module _ (p : decl.Program) (a : List (Option Said)) (v : Judged) (s : Swapping) (is : record { program = p; answers = a; verdict = v } ≡ s)
    (T : List ThreadDecl) (A : List (Option Said)) (threads : T ≡ p.threads) (answers : A ≡ a) where
  pub unchanged : record { program = record p { threads = T }; answers = A; verdict = v } ≡ s
  unchanged = (λ i. record { program = record p { threads = threads i }; answers = answers i; verdict = v }) ∙ is

  pub stands_again : IsStanding (view.program p) a v → IsStanding (view.program (record p { threads = T })) A v
  stands_again stands =
      subst (λ ts. IsStanding (view.program (record p { threads = ts })) A v) (sym threads) (subst (λ o. IsStanding (view.program p) o v) (sym answers) stands)

  pub fits_again : (j k : Judging) → Passes j k → Fits s j → AreSaid k (view.program (record p { threads = T })) A
  fits_again j k h fits =
      subst (λ ts. AreSaid k (view.program (record p { threads = ts })) A) (sym threads)
      (subst (AreSaid k (view.program p)) (sym answers) (still_said j k h (view.program p) a (subst (λ r. Fits r j) (sym is) fits)))

pub answers_back : (a new back : List (Option Said)) (t : ℕ) (said : Option Said) → said ≡ get_or a t said → new ≡ set a t None → back ≡ set new t said → back ≡ a
answers_back a new back t said is opened closed =
    closed ∙ ap (λ o. set o t said) opened ∙ set-set a t None said ∙ ap (set a t) is ∙ set-get_or a t said
