-- What reading a text promises of its tree.
use Rattle.std.proofs.Common.{◌≡◌, ℕ, zero, suc, ◌≤◌, ◌<◌, List, [], ◌∷◌, length, map, Bool, true, false, if◌then◌else◌, Option, Some, None, Result, Ok, Err, refl, sym, subst, arith, IfOk}
use Rattle.std.specs.Prelude.{nat_le}
use Rattle.std.specs.List.{All, Contains}
use Rattle.std.proofs.lemmas.List.{length-map}
use Rattle.cov_expr.specs.declared.limits.TheConstants.{MOST_BYTES}
use Rattle.cov_expr.specs.Words.{HasVarsBelow}
use Rattle.cov_grammar.specs.PlacedTrees.{Program}
use Rattle.cov_grammar.specs.Grammar.{program, whole}
use Rattle.cov_ast.specs.Syntax.{Parsed}
use Rattle.cov_ast.specs.Ready.{IsReady, HasUsesInOrder}
use Rattle.cov_ast.specs.WellFormed.{IsWithinLimits}
use Rattle.cov_text.specs.declared.fault.Counted.{Counted}
use Rattle.cov_text.specs.declared.fault.Counted.TheVariants.{Variables, Locks, Threads}
use Rattle.cov_text.specs.declared.fault.Excess.{Excess}
use Rattle.cov_text.specs.declared.fault.ParseFault.{ParseFault}
use Rattle.cov_text.specs.Limits.{sooner, past, past_variables, past_locks, past_threads, in_program, in_expr}
use Rattle.cov_text.specs.GivenTrees.{var_of, lock_of, thread_of}
use Rattle.cov_text.specs.Uses.{AreUsesOf}
use Rattle.cov_text.specs.Text.{names_of, IsText, Answers, program_of, expression_of, Expression}
use Rattle.cov_text.proofs.NamesInOrder.{text_summary, uses_in_order, uses_named, expr_below, expr_uses}
use Rattle.cov_text.proofs.WordLaws.{names_few, words_few}
use Rattle.cov_text.proofs.SilentLaws.{text_version}

-- Limits -------------------------------------------------------------------------------------------------------

none_left : (x y : Option Excess) → sooner x y ≡ None → x ≡ None
none_left None y h = refl
none_left (Some x) None h = cc
none_left (Some x) (Some y) h = by (nat_le x.at y.at) h
  where
    by : (b : Bool) → (if b then Some x else Some y) ≡ None → Some x ≡ None
    by true g = g
    by false g = cc

none_right : (x y : Option Excess) → sooner x y ≡ None → y ≡ None
none_right None y h = h
none_right (Some x) None h = refl
none_right (Some x) (Some y) h = by (nat_le x.at y.at) h
  where
    by : (b : Bool) → (if b then Some x else Some y) ≡ None → Some y ≡ None
    by true g = cc
    by false g = g

past_few : (most : ℕ) (c : Counted) (ats : List ℕ) → past most c ats ≡ None → length ats ≤ most
past_few most c [] h = omega arith
past_few zero c (at ∷ ats) h = cc
past_few (suc n) c (at ∷ ats) h = omega (arith, past_few n c ats h)

few_of : {A B : Type 0} (most : ℕ) (c : Counted) (place : A → ℕ) (view : A → B) (xs : List A) → past most c (map place xs) ≡ None → length (map view xs) ≤ most
few_of most c place view xs h = omega (arith, past_few most c (map place xs) h, length-map xs place, length-map xs view)

within_limits : (ns : List (List ℕ)) (p : Program) → in_program p ≡ None → IsWithinLimits (map (var_of ns) p.vars) (map (lock_of ns) p.locks) (map (thread_of ns) p.threads)
unfolding past_variables past_locks past_threads
within_limits ns p h =
    let behind_vars = none_right (past_variables p) _ h in
    let behind_locks = none_right (past_locks p) _ behind_vars in
    record {
      variables = few_of 256 Variables (λ v. v.name.1) (var_of ns) p.vars (none_left (past_variables p) _ h);
      declared_locks = few_of 64 Locks (λ l. l.name.1) (lock_of ns) p.locks (none_left (past_locks p) _ behind_vars);
      declared_threads = few_of 16 Threads (λ t. t.name.1) (thread_of ns) p.threads (none_left (past_threads p) _ behind_locks);
    }

-- Trees --------------------------------------------------------------------------------------------------------

pub text_ready : (text : List ℕ) → length text ≤ MOST_BYTES → (tree : Program) → IsText program in_program text tree → IsReady (program_of text tree)
text_ready text short tree is =
    let few = names_few text is.tokens.lexes short in
    let known = text_summary text few tree is.tokens is.spelled in
    record {
      ids = record { classes = known.classes; of_locks = known.locks; of_threads = λ i d inside. (known.threads i d inside).ids };
      limits = within_limits (names_of text) tree is.small;
      bodies = λ i d inside. let good = known.threads i d inside in
          record { places_differ = good.places_differ; small = omega (arith, good.small, words_few text is.tokens.lexes short) };
      used_ids = uses_named text is.tokens;
      version = text_version (names_of text) text tree is.spelled;
      uses = λ u inside. subst (λ us. Contains us u) (sym (uses_in_order text few tree is)) inside;
    }

pub parsed_ready : {X : Type 0} (text : List ℕ) → length text ≤ MOST_BYTES → (view : X → Parsed) (r : Result X ParseFault) → Answers program in_program text view (program_of text) r → IfOk r (λ x. IsReady (view x))
parsed_ready text short view (Ok x) h = subst IsReady (sym h.2) (text_ready text short h.0 h.1)
parsed_ready text short view (Err fault) h = tt

pub parsed_in_order : {X : Type 0} (text : List ℕ) → length text ≤ MOST_BYTES → (view : X → Parsed) (r : Result X ParseFault) → Answers program in_program text view (program_of text) r
    → IfOk r (λ x. HasUsesInOrder (view x))
parsed_in_order text short view (Ok x) h = subst HasUsesInOrder (sym h.2) (uses_in_order text (names_few text h.1.tokens.lexes short) h.0 h.1)
parsed_in_order text short view (Err fault) h = tt

pub parsed_below : {X : Type 0} (text : List ℕ) → length text ≤ MOST_BYTES → (view : X → Expression) (r : Result X ParseFault) → Answers whole in_expr text view (expression_of text) r
    → IfOk r (λ x. HasVarsBelow (view x).expr (length (view x).names))
parsed_below text short view (Ok x) h = subst (λ e. HasVarsBelow e.expr (length e.names)) (sym h.2) (expr_below text (names_few text h.1.tokens.lexes short) h.0 h.1)
parsed_below text short view (Err fault) h = tt

pub parsed_used : {X : Type 0} (text : List ℕ) (view : X → Expression) (r : Result X ParseFault) → Answers whole in_expr text view (expression_of text) r → IfOk r (λ x. All (λ u. u.name < length (view x).names) (view x).uses)
parsed_used text view (Ok x) h = subst (λ e. All (λ u. u.name < length e.names) e.uses) (sym h.2) (uses_named text h.1.tokens)
parsed_used text view (Err fault) h = tt

pub parsed_expr_uses : {X : Type 0} (text : List ℕ) → length text ≤ MOST_BYTES → (view : X → Expression) (r : Result X ParseFault) → Answers whole in_expr text view (expression_of text) r
    → IfOk r (λ x. AreUsesOf (view x).uses (view x).expr)
parsed_expr_uses text short view (Ok x) h = subst (λ e. AreUsesOf e.uses e.expr) (sym h.2) (expr_uses text (names_few text h.1.tokens.lexes short) h.0 h.1)
parsed_expr_uses text short view (Err fault) h = tt
