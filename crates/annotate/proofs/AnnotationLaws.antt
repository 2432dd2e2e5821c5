-- What comes of putting certificates into a text, from what its parts say.
use Rattle.std.proofs.Common.{◌≡◌, ℕ, List, map, get_or, ◌∙◌, Result, Ok, Err}
use Rattle.std.specs.Prelude.{IfOk, OnOk}
use Rattle.cov_ast.specs.Syntax.{Cert, Parsed, Program}
use Rattle.cov_ast.specs.View as view
use Rattle.cov_ast.specs.declared.parsed.Parsed.{Parsed as Tree}
use Rattle.policy_class.specs.Resolved.{resolved, resolved_cert}
use Rattle.annotate.specs.Annotated.{choices}
use Rattle.annotate.specs.AnnotatedText.{annotated_text, name_number, put_in_text, unresolved_choices}
use Rattle.annotate.specs.Inside.Searches.{renumbered}

-- where there is a value, what holds anyway
pub on_ok : {X E P : Type 0} (r : Result X E) → P → OnOk r P
on_ok (Ok x) h = h
on_ok (Err e) h = tt

-- the text with what is chosen by other numbers, where these are those of the names of variables
text_is : (depth : ℕ) (p : Parsed) (q : Program) (numbers : List ℕ × ℕ) (chosen : (t place : ℕ) → List (ℕ × Cert))
    → ((x : ℕ) → get_or numbers.0 x numbers.1 ≡ name_number p x) → q ≡ resolved p
    → ((t place : ℕ) → chosen t place ≡ map (renumbered numbers) (choices depth q t place))
    → put_in_text chosen p ≡ annotated_text depth p
text_is depth p q numbers chosen same is made =
    let each : (t place : ℕ) → chosen t place ≡ unresolved_choices depth p t place =
    λ t place.
    made t place
    ∙ (λ i. map (λ c. (c.0, resolved_cert (λ x. same x i) (λ l. l) c.1)) (choices depth (is i) t place)) in
    λ i. put_in_text (λ t place. each t place i) p

pub text_given : (depth : ℕ) (p : Parsed) (q : Program) (numbers : List ℕ × ℕ) (chosen : (t place : ℕ) → List (ℕ × Cert)) {E : Type 0} (r : Result Tree E)
    → ((x : ℕ) → get_or numbers.0 x numbers.1 ≡ name_number p x) → q ≡ resolved p
    → ((t place : ℕ) → chosen t place ≡ map (renumbered numbers) (choices depth q t place))
    → IfOk r (λ made. view.parsed made ≡ put_in_text chosen p) → IfOk r (λ made. view.parsed made ≡ annotated_text depth p)
text_given depth p q numbers chosen (Ok made) same is each h = h ∙ text_is depth p q numbers chosen same is each
text_given depth p q numbers chosen (Err fault) same is each h = tt
