-- Summaries of what right sides of the grammar spell: a law for each way to make a right side.
use Rattle.std.proofs.Common.{◌≡◌, ℕ, ◌-◌, List, [], ◌∷◌, ◌++◌, map, Bool, true, false, Option, Some, None, refl, sym, ap, subst, ◌∙◌, arith, inl, inr}
use Rattle.std.specs.Prelude.{flat_map, sum_by}
use Rattle.std.specs.List.{All}
use Rattle.std.proofs.lemmas.List.Elements.{All-nil, All-cons}
use Rattle.std.proofs.lemmas.List.Sums.{sum_by-cons}
use Rattle.cov_expr.specs.declared.kind.Kind.{Kind}
use Rattle.cov_expr.specs.declared.kind.Kind.TheVariants as k
use Rattle.cov_grammar.specs.declared.token.Token.{Token}
use Rattle.cov_grammar.specs.LookAhead.{kind_is}
use Rattle.cov_grammar.specs.Shapes.{Shape, token, seq, alt, opt, many, act, placed, place, Each, Sense, Spells}
use Rattle.cov_grammar.specs.Grammar.{◌▸◌, ◌◂◌, separated, listed, none_or, sign, name, named}
use Rattle.cov_grammar.proofs.Basics.{left_false}
use Rattle.cov_ast.specs.Ready.{Use}
use Rattle.cov_text.specs.Uses.{declares, is_lock}
use Rattle.cov_text.proofs.UseLaws.{IsSilent, IsPlain, plain_silent, plain_no_thread}
use Rattle.cov_text.proofs.Summaries.{Summary, nothing, join, more, at, Kept, HasSummary, AreFine, fine_left, fine_right, summary_nothing, summary_kept, summary_join, summary_behind, summary_first, summary_closed, summary_single, variable, lock, declared, summary_variable, summary_declared, summary_lock}

-- Lists of summaries ------------------------------------------------------------------------------------------

abbrev pub all : {A : Type 0} → (A → Summary) → List A → Summary
all g [] = nothing
all g (x ∷ xs) = join (g x) (all g xs)

abbrev pub of_option : {A : Type 0} → (A → Summary) → Option A → Summary
of_option g None = nothing
of_option g (Some x) = g x

pub kept_join : (m n m' n' : Summary) → Kept m m' → Kept n n' → Kept (join m n) (join m' n')
kept_join m n m' n' g h = record {
  uses = ap (λ us. us ++ n.uses) g.uses ∙ ap (λ us. m'.uses ++ us) h.uses;
  size = omega (arith, g.size, h.size);
  places = ap (λ us. us ++ n.places) g.places ∙ ap (λ us. m'.places ++ us) h.places;
  ids = (g.ids, h.ids);
}

pub kept_all : {A : Type 0} (g h : A → Summary) → ((x : A) → (g x).ids → Kept (g x) (h x)) → (xs : List A) → (all g xs).ids → Kept (all g xs) (all h xs)
kept_all g h f [] ids = record { uses = refl; size = omega arith; places = refl; ids = tt }
kept_all g h f (x ∷ xs) ids = kept_join (g x) (all g xs) (h x) (all h xs) (f x ids.0) (kept_all g h f xs ids.1)

-- the summary of a list, of whose items no places count
abbrev pub item : {B : Type 0} → (B → List Use) → (B → ℕ) → (B → Type 0) → B → Summary
item uses size P y = record { uses = uses y; size = size y; places = []; ids = P y }

abbrev pub items : {B : Type 0} → (B → List Use) → (B → ℕ) → (B → Type 0) → List B → Summary
items uses size P ys = record { uses = flat_map uses ys; size = sum_by size ys; places = []; ids = All P ys }

pub kept_items : {A B : Type 0} (h : A → B) (uses : B → List Use) (size : B → ℕ) (P : B → Type 0) (xs : List A) → (all (λ x. item uses size P (h x)) xs).ids → Kept (all (λ x. item uses size P (h x)) xs) (items uses size P (map h xs))
kept_items h uses size P [] ids = record { uses = refl; size = omega arith; places = refl; ids = All-nil P }
kept_items h uses size P (x ∷ xs) ids =
    let rest = kept_items h uses size P xs ids.1 in
    record {
      uses = ap (λ us. uses (h x) ++ us) rest.uses;
      size = omega (arith, rest.size, sum_by-cons size (h x) (map h xs));
      places = rest.places;
      ids = All-cons P (h x) (map h xs) ids.0 rest.ids;
    }

-- with a token less
abbrev pub less : Summary → Summary
less m = record { uses = m.uses; size = m.size - 1; places = m.places; ids = m.ids }

-- Right sides --------------------------------------------------------------------------------------------------

-- In a thread or in front of all, with names below a bound, where rules inside spell what `inside` says.
module _ (b : Bool) (n : ℕ) (inside : Sense) where
  -- A value of the right side has a summary that its tokens have, behind a token of some kinds.
  pub record IsSummary (From : Kind → Type 0) {A : Type 0} (a : Shape A) (g : A → Summary) : Type 0 where
    pub of : (v : A) (ts : List Token) → AreFine n ts → Spells inside a v ts → HasSummary b From (g v) ts

  -- the same, where the place of the first token counts
  pub record IsSummaryAt (From : Kind → Type 0) {A : Type 0} (a : Shape A) (g : A → Summary) : Type 0 where
    pub of : (v : A) (ts : List Token) → AreFine n ts → Spells inside a v ts → HasSummary b From (at (place ts) (g v)) ts

  pub kept_law : {From : Kind → Type 0} {A : Type 0} {a : Shape A} {g : A → Summary} (h : A → Summary) → IsSummary From a g → ((v : A) → (g v).ids → Kept (g v) (h v)) → IsSummary From a h
  kept_law {From} {g = g} h t f = record { of = λ v ts fine s. let x = t.of v ts fine s in summary_kept b From (g v) (h v) ts x (f v x.ids) }

  pub act_law : {From : Kind → Type 0} {A B : Type 0} {a : Shape A} {g : A → Summary} (f : A → B) (h : B → Summary) → IsSummary From a g → ((v : A) → (g v).ids → Kept (g v) (h (f v))) → IsSummary From (act f a) h
  act_law {From} {g = g} f h t e = record {
    of =
        λ v ts fine s. let x = t.of s.0 ts fine s.2 in
        subst (λ w. HasSummary b From (h w) ts) s.1 (summary_kept b From (g s.0) (h (f s.0)) ts x (e s.0 x.ids));
  }

  pub seq_law : {From : Kind → Type 0} {A B : Type 0} {a : Shape A} {c : Shape B} {g : A → Summary} {h : B → Summary} → IsSummary From a g → IsSummary IsSilent c h → IsSummary From (seq a c) (λ x. join (g x.0) (h x.1))
  seq_law {From} {g = g} {h = h} t u = record {
    of =
        λ v ts fine s. subst (HasSummary b From (join (g v.0) (h v.1))) (sym s.4)
        (summary_join b From (g v.0) (h v.1) s.0 s.1 (t.of v.0 s.0 (fine_left n s.0 s.1 ts s.4 fine) s.2) (u.of v.1 s.1 (fine_right n s.0 s.1 ts s.4 fine) s.3));
  }

  pub alt_law : {From : Kind → Type 0} {A : Type 0} {a c : Shape A} {g : A → Summary} → IsSummary From a g → IsSummary From c g → IsSummary From (alt a c) g
  alt_law {From} {A = A} {a = a} {c = c} {g = g} t u = record { of = by }
    where
      by : (v : A) (ts : List Token) → AreFine n ts → Spells inside (alt a c) v ts → HasSummary b From (g v) ts
      by v ts fine (inl s) = t.of v ts fine s
      by v ts fine (inr s) = u.of v ts fine s

  pub opt_law : {A : Type 0} {a : Shape A} {g : A → Summary} → IsSummary IsSilent a g → IsSummary IsSilent (opt a) (of_option g)
  opt_law {A = A} {a = a} {g = g} t = record { of = by }
    where
      by : (v : Option A) (ts : List Token) → AreFine n ts → Spells inside (opt a) v ts → HasSummary b IsSilent (of_option g v) ts
      by None ts fine s = subst (HasSummary b IsSilent nothing) (sym s) (summary_nothing b)
      by (Some v) ts fine s = t.of v ts fine s

  pub many_law : {A : Type 0} {a : Shape A} {g : A → Summary} → IsSummary IsSilent a g → IsSummary IsSilent (many a) (all g)
  many_law {A = A} {a = a} {g = g} t = record { of = by }
    where
      by : (vs : List A) (ts : List Token) → AreFine n ts → Each (Spells inside a) vs ts → HasSummary b IsSilent (all g vs) ts
      by [] ts fine s = subst (HasSummary b IsSilent nothing) (sym s) (summary_nothing b)
      by (v ∷ vs) ts fine s =
          subst (HasSummary b IsSilent (join (g v) (all g vs))) (sym s.4)
          (summary_join b IsSilent (g v) (all g vs) s.0 s.1 (t.of v s.0 (fine_left n s.0 s.1 ts s.4 fine) s.2) (by vs s.1 (fine_right n s.0 s.1 ts s.4 fine) s.3))

  -- Names ------------------------------------------------------------------------------------------------------

  pub name_law : IsSummary IsSilent name (variable n)
  name_law = record { of = λ v ts fine s. subst (λ w. HasSummary b IsSilent (variable n w) ts) s.1 (subst (HasSummary b IsSilent (variable n s.0.value)) (sym s.2.1) (summary_variable b n s.0 s.2.0 (subst (AreFine n) s.2.1 fine))) }

  pub lock_name_law : IsSummary (λ j. (declares b j ≡ false) × (is_lock j ≡ true)) name (lock n)
  lock_name_law = record {
    of = λ v ts fine s. subst (λ w. HasSummary b (λ j. (declares b j ≡ false) × (is_lock j ≡ true)) (lock n w) ts) s.1 (subst (HasSummary b (λ j. (declares b j ≡ false) × (is_lock j ≡ true)) (lock n s.0.value)) (sym s.2.1) (summary_lock b n s.0 s.2.0 (subst (AreFine n) s.2.1 fine)));
  }

  pub named_law : IsSummary (λ j. declares b j ≡ true) named (λ x. declared n x.0)
  named_law = record {
    of = λ v ts fine s. subst (λ w. HasSummary b (λ j. declares b j ≡ true) (declared n w.0) ts) s.1 (subst (HasSummary b (λ j. declares b j ≡ true) (declared n s.0.value)) (sym s.2.1) (summary_declared b n s.0 s.2.0 (subst (AreFine n) s.2.1 fine)));
  }

  pub placed_law : {From : Kind → Type 0} {A : Type 0} {a : Shape A} {g : A → Summary} → IsSummary From a g → IsSummary From (placed a) (λ x. g x.1)
  placed_law t = record { of = λ v ts fine s. t.of v.1 ts fine s.1 }

  pub placed_at_law : {From : Kind → Type 0} {A : Type 0} {a : Shape A} {g : A → Summary} → IsSummaryAt From a g → IsSummary From (placed a) (λ x. at x.0 (g x.1))
  placed_at_law {From} {g = g} t = record { of = λ v ts fine s. subst (λ p. HasSummary b From (at p (g v.1)) ts) (sym s.0) (t.of v.1 ts fine s.1) }

  pub at_act : {From : Kind → Type 0} {A B : Type 0} {a : Shape A} {g : A → Summary} (f : A → B) (h : B → Summary) → IsSummaryAt From a g → ((v : A) → (g v).ids → Kept (g v) (h (f v))) → IsSummaryAt From (act f a) h
  at_act {From} {g = g} f h t e = record {
    of =
        λ v ts fine s. let x = t.of s.0 ts fine s.2 in
        let kept = e s.0 x.ids in
        subst (λ w. HasSummary b From (at (place ts) (h w)) ts) s.1
        (summary_kept b From (at (place ts) (g s.0)) (at (place ts) (h (f s.0))) ts x (record { uses = kept.uses; size = kept.size; places = ap (λ ps. place ts ∷ ps) kept.places; ids = kept.ids }));
  }

  pub at_alt : {From : Kind → Type 0} {A : Type 0} {a c : Shape A} {g : A → Summary} → IsSummaryAt From a g → IsSummaryAt From c g → IsSummaryAt From (alt a c) g
  at_alt {From} {A = A} {a = a} {c = c} {g = g} t u = record { of = by }
    where
      by : (v : A) (ts : List Token) → AreFine n ts → Spells inside (alt a c) v ts → HasSummary b From (at (place ts) (g v)) ts
      by v ts fine (inl s) = t.of v ts fine s
      by v ts fine (inr s) = u.of v ts fine s

  -- behind a name, where no other places count
  pub at_name : {A : Type 0} {c : Shape A} {h : A → Summary} → ((x : A) → (h x).places ≡ []) → IsSummary IsSilent c h → IsSummaryAt IsSilent (seq name c) (λ x. join (variable n x.0) (h x.1))
  at_name {h = h} none u = record {
    of =
        λ v ts fine s. let x = (seq_law name_law u).of v ts fine s in
        let is : ts ≡ s.2.0 ∷ s.1 = s.4 ∙ ap (λ us. us ++ s.1) s.2.2.1 in
        subst (λ us. HasSummary b IsSilent (at (place us) (join (variable n v.0) (h v.1))) us) (sym is)
        (summary_single b IsSilent (join (variable n v.0) (h v.1)) s.2.0 s.1 (none v.1) (subst (HasSummary b IsSilent (join (variable n v.0) (h v.1))) is x));
  }

  -- Keywords and signs ----------------------------------------------------------------------------------------

  abbrev IsSign : Kind → Type 0
  IsSign j = (kind_is k.Name j ≡ false) × (kind_is k.Thread j ≡ false)

  -- such a token, and what stands behind it
  pub from_law : {S From : Kind → Type 0} {A : Type 0} {a : Shape A} {g : A → Summary} (j : Kind) → kind_is k.Name j ≡ false → kind_is k.Thread j ≡ false → From j → IsSummary From a g → IsSummary S (j ▸ a) (λ v. more (g v))
  from_law {S} {From} {g = g} j p q f t = record {
    of =
        λ v ts fine s. let x = s.2 in
        let is : ts ≡ s.0.0 ∷ x.1 = x.4 ∙ ap (λ us. us ++ x.1) x.2.1 in
        subst (HasSummary b S (more (g v))) (sym is)
        (summary_behind b S From (g v) s.0.0 x.1 (ap (kind_is k.Name) x.2.0 ∙ p) (ap (kind_is k.Thread) x.2.0 ∙ q) (subst From (sym x.2.0) f)
        (subst (λ w. HasSummary b From (g w) x.1) s.1 (t.of s.0.1 x.1 (fine_right n x.0 x.1 ts x.4 fine) x.3)));
  }

  pub first_law : {S From : Kind → Type 0} {A : Type 0} {a : Shape A} {g : A → Summary} (j : Kind) → kind_is k.Name j ≡ false → kind_is k.Thread j ≡ false → From j → IsSummary From a g → IsSummaryAt S (j ▸ a) (λ v. more (g v))
  first_law {S} {From} {g = g} j p q f t = record {
    of =
        λ v ts fine s. let x = s.2 in
        let is : ts ≡ s.0.0 ∷ x.1 = x.4 ∙ ap (λ us. us ++ x.1) x.2.1 in
        subst (λ us. HasSummary b S (at (place us) (more (g v))) us) (sym is)
        (summary_first b S From (g v) s.0.0 x.1 (ap (kind_is k.Name) x.2.0 ∙ p) (ap (kind_is k.Thread) x.2.0 ∙ q) (subst From (sym x.2.0) f)
        (subst (λ w. HasSummary b From (g w) x.1) s.1 (t.of s.0.1 x.1 (fine_right n x.0 x.1 ts x.4 fine) x.3)));
  }

  pub behind_law : {S : Kind → Type 0} {A : Type 0} {a : Shape A} {g : A → Summary} (j : Kind) → IsPlain j → IsSummary IsSilent a g → IsSummary S (j ▸ a) (λ v. more (g v))
  behind_law j p t = from_law j (left_false (kind_is k.Name j) _ p) (plain_no_thread j p) (plain_silent j p) t

  pub closed_law : {From : Kind → Type 0} {A : Type 0} {a : Shape A} {g : A → Summary} (j : Kind) → IsPlain j → IsSummary From a g → IsSummary From (a ◂ j) (λ v. more (g v))
  closed_law {From} {g = g} j p t = record {
    of =
        λ v ts fine s. let x = s.2 in
        let is : ts ≡ x.0 ++ s.0.1 ∷ [] = x.4 ∙ ap (λ us. x.0 ++ us) x.3.1 in
        subst (HasSummary b From (more (g v))) (sym is)
        (summary_closed b From (g v) x.0 s.0.1 (subst IsPlain (sym x.3.0) p)
        (subst (λ w. HasSummary b From (g w) x.0) s.1 (t.of s.0.0 x.0 (fine_left n x.0 x.1 ts x.4 fine) x.2)));
  }

  abbrev mark : Summary
  mark = more nothing

  pub token_law : {S : Kind → Type 0} (j : Kind) → IsPlain j → IsSummary S (token j) (λ t. more nothing)
  token_law {S} j p = record {
    of =
        λ v ts fine s. subst (HasSummary b S (more nothing)) (sym s.1)
        (summary_behind b S IsSilent nothing v [] (ap (kind_is k.Name) s.0 ∙ left_false (kind_is k.Name j) _ p) (ap (kind_is k.Thread) s.0 ∙ plain_no_thread j p)
        (plain_silent v.kind (subst IsPlain (sym s.0) p)) (summary_nothing b));
  }

  pub sign_law : {S : Kind → Type 0} {A : Type 0} (j : Kind) → IsPlain j → (v : A) (h : A → Summary) → Kept (more nothing) (h v) → IsSummary S (sign j v) h
  sign_law j p v h e = act_law (λ x. v) h (token_law j p) (λ t ids. e)

  -- Lists ------------------------------------------------------------------------------------------------------

  -- items with a plain token between them: one less than there are items
  pub separated_law : {A : Type 0} {a : Shape A} {g : A → Summary} (j : Kind) → IsPlain j → IsSummary IsSilent a g → IsSummary IsSilent (separated j a) (λ xs. less (all (λ v. more (g v)) xs))
  separated_law {g = g} j p t =
      act_law (λ x. x.0 ∷ x.1) (λ xs. less (all (λ v. more (g v)) xs)) (seq_law t (many_law (behind_law j p t)))
      (λ x ids. record { uses = refl; size = omega arith; places = refl; ids = ids })

  pub listed_law : {A : Type 0} {a : Shape (List A)} (h : List A → Summary) → Kept nothing (h []) → IsSummary IsSilent a h → IsSummary IsSilent (listed a) h
  listed_law {A = A} h e t = act_law none_or h (opt_law t) by
    where
      by : (v : Option (List A)) → (of_option h v).ids → Kept (of_option h v) (h (none_or v))
      by None ids = e
      by (Some v) ids = record { uses = refl; size = omega arith; places = refl; ids = ids }
