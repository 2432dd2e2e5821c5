-- The text with what a deeper search finds is as reading gives it.
use Rattle.std.proofs.Common.{Result, Ok, Err, IfOk, ◌≡◌, ℕ, ◌<◌, ◌≤◌, List, [], length, map, take, get_or, Option, sym, ap, ◌∙◌, subst, All, inl, inr}
use Rattle.std.proofs.lemmas.Bool.{cases_lt}
use Rattle.std.proofs.lemmas.List.{length-map}
use Rattle.annotate.proofs.ThreadChoiceLaws.{chosen_past}
use Rattle.annotate.proofs.UseLaws.{text_same}
use Rattle.annotate.specs.Annotated.{first_refused, unproved}
use Rattle.annotate.specs.AnnotatedText.{IsAsRead, annotated_text, name_number, put_in_text, unresolved_choice, with_choices}
use Rattle.annotate.specs.Inside.Choosing.{chosen_in}
use Rattle.annotate.specs.Inside.Searches.{renumbered}
use Rattle.annotate.specs.declared.choices.ThreadChoices.{ThreadChoices}
use Rattle.annotate.specs.declared.outcome.Open.{Open}
use Rattle.annotate.specs.declared.outcome.Outcome.{Outcome}
use Rattle.cert_search.specs.declared.finder.TheConstants.{MOST_DEPTH}
use Rattle.cov_ast.specs.Syntax.{Cert, Parsed, Program}
use Rattle.cov_ast.specs.View as view
use Rattle.cov_ast.specs.declared.parsed.Parsed.{Parsed as Tree}
use Rattle.cov_ast.specs.declared.refusal.Refusal.{Refusal}
use Rattle.cov_print.specs.Spelling.{spelling}
use Rattle.cov_ast.specs.WellFormed.{IsCertInRange, IsWellFormed}
use Rattle.policy_class.specs.Resolved.{lock_id, resolved, resolved_cert, resolved_lock, resolved_variable, var_id}
use Rattle.deeper_text.specs.DeeperText.{Found, all_found, chosen_among, deeper_choices, deeper_text, tried}
use Rattle.deeper_text.specs.Inside.{AreOfThreads, found}
use Rattle.deeper_text.specs.declared.found.Found.{Found as Code}
use Rattle.deeper_text.specs.declared.found.TheConstants.{MOST_TRIED}
use Rattle.deeper_text.proofs.FoundRange.{chosen_in_range, none_past}

-- by the declarations of a text
pub choices_below : (p : Parsed) → IsWellFormed (resolved p) → (t place : ℕ) → All (λ c. IsCertInRange (length p.vars) (length p.locks) c.1) (deeper_choices (resolved p) t place)
choices_below p formed t place =
    subst (λ m. All (λ c. IsCertInRange m (length p.locks) c.1) (deeper_choices (resolved p) t place)) (length-map p.vars (resolved_variable (var_id p) (lock_id p)))
    (subst (λ k. All (λ c. IsCertInRange (length (resolved p).vars) k c.1) (deeper_choices (resolved p) t place)) (length-map p.locks (resolved_lock (var_id p) (lock_id p)))
    (chosen_in_range (resolved p) formed (tried (resolved p)) t place))

-- what the code has of it, in the numbers of names, is the text with what is chosen
pub text_is : (p : Parsed) (numbers : List ℕ × ℕ) (fs : List Found) (made : List ThreadChoices) (n : ℕ)
    → ((x : ℕ) → get_or numbers.0 x numbers.1 ≡ name_number p x) → AreOfThreads n fs → length made ≡ n
    → ((t place : ℕ) → t < n → chosen_in made t place ≡ map (renumbered numbers) (chosen_among fs t place))
    → put_in_text (chosen_in made) p ≡ with_choices (chosen_among fs) p
text_is p numbers fs made n same of count each = λ i. put_in_text (λ t place. at t place i) p
  where
    renamed : (cs : List (ℕ × Cert)) → map (renumbered numbers) cs ≡ map (unresolved_choice p) cs
    renamed cs = λ i. map (λ (c : ℕ × Cert). (c.0, resolved_cert (λ x. same x i) (λ l. l) c.1)) cs

    at : (t place : ℕ) → chosen_in made t place ≡ map (unresolved_choice p) (chosen_among fs t place)
    at t place = elim (cases_lt t n) [
      | inl lt ↦ each t place lt ∙ renamed (chosen_among fs t place)
      | inr le ↦ chosen_past made t place (subst (λ m. m ≤ t) (sym count) le) ∙ sym (ap (map (unresolved_choice p)) (none_past n fs of t place le))
    ]

pub text_given : (p : Parsed) (numbers : List ℕ × ℕ) (fs : List Found) (made : List ThreadChoices) (n : ℕ) {E : Type 0} (r : Result Tree E)
    → ((x : ℕ) → get_or numbers.0 x numbers.1 ≡ name_number p x) → AreOfThreads n fs → length made ≡ n
    → ((t place : ℕ) → t < n → chosen_in made t place ≡ map (renumbered numbers) (chosen_among fs t place))
    → IfOk r (λ text. view.parsed text ≡ put_in_text (chosen_in made) p) → IfOk r (λ text. view.parsed text ≡ with_choices (chosen_among fs) p)
text_given p numbers fs made n (Ok text) same of count each h = h ∙ text_is p numbers fs made n same of count each
text_given p numbers fs made n (Err e) same of count each h = tt

-- where nothing is found, it is the text
pub nothing_found : (p : Parsed) → IsAsRead p → all_found (resolved p) (tried (resolved p)) ≡ [] → deeper_text p ≡ p
nothing_found p read e = (λ i. with_choices (chosen_among (e i)) p) ∙ text_same p read.in_order

-- what is found for the first of those that stay open
pub tried_of : (p : Parsed) (q : Program) (us : List Open) → us ≡ unproved MOST_DEPTH q → q ≡ resolved p → all_found q (take MOST_TRIED us) ≡ all_found (resolved p) (tried (resolved p))
tried_of p q us e is = λ i. all_found (is i) (take MOST_TRIED ((e ∙ ap (unproved MOST_DEPTH) is) i))

pub text_stays : (p : Parsed) (q : Program) (us : List Open) (fs : List Code) → IsAsRead p → us ≡ unproved MOST_DEPTH q → q ≡ resolved p
    → map found fs ≡ all_found q (take MOST_TRIED us) → fs ≡ [] → deeper_text p ≡ p
text_stays p q us fs read e is made none = nothing_found p read (sym (made ∙ tried_of p q us e is) ∙ ap (map found) none)

-- What is said of an outcome --------------------------------------------------------------------------------------

module _ {E : Type 0} (r : Result Outcome E) where
  pub spelled_of : (p q : Parsed) → p ≡ q → IfOk r (λ made. made.spelled ≡ spelling (annotated_text MOST_DEPTH p)) → IfOk r (λ made. made.spelled ≡ spelling (annotated_text MOST_DEPTH q))
  spelled_of p q e h = subst (λ x. IfOk r (λ made. made.spelled ≡ spelling (annotated_text MOST_DEPTH x))) e h

  pub first_of : (p q : Program) → p ≡ q → IfOk r (λ made. made.first ≡ first_refused MOST_DEPTH p) → IfOk r (λ made. made.first ≡ first_refused MOST_DEPTH q)
  first_of p q e h = subst (λ x. IfOk r (λ made. made.first ≡ first_refused MOST_DEPTH x)) e h

  pub unproved_of : (p q : Program) → p ≡ q → IfOk r (λ made. made.unproved ≡ unproved MOST_DEPTH p) → IfOk r (λ made. made.unproved ≡ unproved MOST_DEPTH q)
  unproved_of p q e h = subst (λ x. IfOk r (λ made. made.unproved ≡ unproved MOST_DEPTH x)) e h

pub spelled_is : (p again : Parsed) (text : List ℕ) → text ≡ spelling (annotated_text MOST_DEPTH again) → again ≡ p → deeper_text p ≡ p
    → text ≡ spelling (annotated_text MOST_DEPTH (deeper_text p))
spelled_is p again text h e same = h ∙ ap (λ x. spelling (annotated_text MOST_DEPTH x)) (e ∙ sym same)

pub first_is : (p : Parsed) (q : Program) (o : Option Refusal) → o ≡ first_refused MOST_DEPTH q → q ≡ resolved p → deeper_text p ≡ p → o ≡ first_refused MOST_DEPTH (resolved (deeper_text p))
first_is p q o h e same = h ∙ ap (first_refused MOST_DEPTH) (e ∙ ap resolved (sym same))

pub unproved_is : (p : Parsed) (q : Program) (us : List Open) → us ≡ unproved MOST_DEPTH q → q ≡ resolved p → deeper_text p ≡ p → us ≡ unproved MOST_DEPTH (resolved (deeper_text p))
unproved_is p q us h e same = h ∙ ap (unproved MOST_DEPTH) (e ∙ ap resolved (sym same))
