-- Uses of names that a walk over statements, proofs and threads comes by.
use Rattle.std.proofs.Common.{◌≡◌, ℕ, ◌==◌, ◌+◌, ◌<◌, ◌≤◌, Bool, true, false, if◌then◌else◌, Result, Ok, Err, OnOk, IfOk, Option, None, Bor, List, [], ◌∷◌, ◌++◌, length, map, get_or, drop, slice_get, Some, refl, sym, ap, ◌∙◌, append_assoc, add-one}
use Rattle.std.proofs.lemmas.List.{at_drop_more, drop_all}
use Rattle.std.proofs.lemmas.Option.{slice_get-get_or}
use Rattle.cov_ast.specs.Ready.{Use, uses_in_cert, uses_in_modes}
use Rattle.cov_ast.specs.Syntax.{Cert}
use Rattle.cov_ast.specs.View as view
use Rattle.cov_ast.specs.declared.cert.Proof.{Proof}
use Rattle.cov_ast.specs.declared.parsed.NameUse.{NameUse}
use Rattle.cov_ast.specs.declared.decl.ThreadDecl.{ThreadDecl}
use Rattle.cov_ast.specs.declared.stmt.Stmt.{Stmt}
use Rattle.cov_ast.specs.declared.stmt.StmtKind.TheFolds.{fold_out-Stmt}
use Rattle.annotate.specs.AnnotatedText.{part_of_cert, part_of_new, uses_at, parts_in_block, parts_in_stm, parts_in_threads, parts_of_proofs, stays, uses_with, UsesPart}
use Rattle.annotate.specs.Inside.Choosing.{chosen_at, chosen_in, chosen_of, lent_choice}
use Rattle.annotate.specs.Inside.Going.{added, gone, Halfway, part_gone, parts_gone, parts_in_stmt}
use Rattle.annotate.specs.WithCertificates.{chosen_for, for_others}
use Rattle.annotate.specs.declared.choices.Choice.{Choice}
use Rattle.annotate.specs.declared.choices.ThreadChoices.{ThreadChoices}
use Rattle.annotate.specs.declared.uses.Way.TheVariants as ways
use Rattle.annotate.proofs.GoingLaws.{cert_added, gone_nothing, no_parts, parts_append, parts_made, parts_next}

-- parts of a list that is cut
pub parts_go_on : (start now next : Halfway) (all ps qs rs : List UsesPart) → parts_gone rs now ≡ parts_gone all start → rs ≡ ps ++ qs → next ≡ parts_gone ps now
    → parts_gone qs next ≡ parts_gone all start
parts_go_on start now next all ps qs rs so_far cut more =
    ap (parts_gone qs) more ∙ sym (parts_append ps qs now) ∙ ap (λ xs. parts_gone xs now) (sym cut) ∙ so_far

module _ (chosen : (place : ℕ) → List (ℕ × Cert)) where
  pub stmt_parts : (s : Stmt) → parts_in_stmt chosen (view.stmt s) ≡ parts_in_stm chosen (view.kind s.kind) ++ parts_of_proofs s.at (chosen s.at) (map view.proof s.proofs)
  stmt_parts s = ap (parts_in_stmt chosen) (fold_out-Stmt _ _ view.kind_step view.stmt_step s)

  -- the next statement, and the rest
  pub block_next : (ss : List Stmt) (i : ℕ) (s : Stmt) → i < length ss → s ≡ get_or ss i s
      → parts_in_block chosen (view.block (drop i ss)) ≡ parts_in_stmt chosen (view.stmt s) ++ parts_in_block chosen (view.block (drop (i + 1) ss))
  block_next ss i s inside is =
      at_drop_more (λ xs. parts_in_block chosen (view.block xs)) ss i s inside ∙ ap (λ y. parts_in_block chosen (view.block (y ∷ drop (i + 1) ss))) (sym is)
      ∙ sym (append_assoc (parts_in_stm chosen (view.stmt s).stm) (parts_of_proofs (view.stmt s).at (chosen (view.stmt s).at) (view.stmt s).proofs)
      (parts_in_block chosen (view.block (drop (i + 1) ss))))

-- the next thread, and the rest
pub threads_next : (cs : List ThreadChoices) (ts : List ThreadDecl) (i : ℕ) (c : ThreadChoices) (t : ThreadDecl) → i < length ts → i < length cs
    → t ≡ get_or ts i t → c ≡ get_or cs i c
    → parts_in_threads (chosen_in cs) i (map view.thread (drop i ts))
    ≡ (stays (uses_in_modes (view.modes t.modes)) ∷ parts_in_block (chosen_at c) (view.block t.body)) ++ parts_in_threads (chosen_in cs) (i + 1) (map view.thread (drop (i + 1) ts))
threads_next cs ts i c t inside enough is_t is_c =
    at_drop_more (λ us. parts_in_threads (chosen_in cs) i (map view.thread us)) ts i t inside
    ∙ ap (λ u. parts_in_threads (chosen_in cs) i (map view.thread (u ∷ drop (i + 1) ts))) (sym is_t)
    ∙ (λ j. stays (uses_in_modes (view.modes t.modes)) ∷ (parts_in_block (chosen_of (here j)) (view.block t.body)
    ++ parts_in_threads (chosen_in cs) (sym (add-one i) j) (map view.thread (drop (i + 1) ts))))
  where
    here : slice_get cs i ≡ Some c
    here = slice_get-get_or cs i c enough ∙ ap Some (sym is_c)

-- the next proof, and the rest
pub proofs_next : (place : ℕ) (chosen : List (ℕ × Cert)) (qs : List Proof) (i : ℕ) (q : Proof) → i < length qs → q ≡ get_or qs i q
    → parts_of_proofs place chosen (map view.proof (drop i qs)) ≡ parts_of_proofs place chosen (map view.proof (q ∷ drop (i + 1) qs))
proofs_next place chosen qs i q inside is =
    at_drop_more (λ rs. parts_of_proofs place chosen (map view.proof rs)) qs i q inside
    ∙ ap (λ y. parts_of_proofs place chosen (map view.proof (y ∷ drop (i + 1) qs))) (sym is)

-- Answers ------------------------------------------------------------------------------------------------------

-- where no part is left
pub parts_end : {X : Type 0} (parts : List X → List UsesPart) (xs : List X) (i : ℕ) (start now : Halfway) → parts [] ≡ [] → length xs ≤ i
    → parts_gone (parts (drop i xs)) now ≡ start → now ≡ start
parts_end parts xs i start now none past so_far =
    sym (no_parts now) ∙ ap (λ ps. parts_gone ps now) (sym none) ∙ sym (ap (λ ys. parts_gone (parts ys) now) (drop_all i xs past)) ∙ so_far

-- of a part that stays
pub stay : (us : List Use) (g : Halfway) → parts_gone (stays us ∷ []) g ≡ gone ways.Keep us g
stay us g = parts_next (stays us) [] g ∙ no_parts (gone ways.Keep us g)

module _ {T E : Type 0} where
  pub stays_go : (r : Result T E) (us : List Use) (g h : Halfway) → OnOk r (h ≡ gone ways.Keep us g) → OnOk r (h ≡ parts_gone (stays us ∷ []) g)
  stays_go (Ok x) us g h first = first ∙ sym (stay us g)
  stays_go (Err e) us g h first = tt

  pub parts_go : (r : Result T E) (ps qs : List UsesPart) (g h i : Halfway) → h ≡ parts_gone ps g → OnOk r (i ≡ parts_gone qs h) → OnOk r (i ≡ parts_gone (ps ++ qs) g)
  parts_go (Ok x) ps qs g h i first second = second ∙ ap (parts_gone qs) first ∙ sym (parts_append ps qs g)
  parts_go (Err e) ps qs g h i first second = tt

  -- the uses of a loop, and of a thread
  pub loop_goes : (r : Result T E) (us : List Use) (ps : List UsesPart) (g h i : Halfway) → h ≡ gone ways.Keep us g → OnOk r (i ≡ parts_gone ps h)
      → OnOk r (i ≡ parts_gone (stays us ∷ ps) g)
  loop_goes r us ps g h i first second = parts_go r (stays us ∷ []) ps g h i (first ∙ sym (stay us g)) second

  pub branch_goes : (r : Result T E) (us vs : List Use) (ps qs : List UsesPart) (f g h i j : Halfway) → g ≡ gone ways.Keep us f → h ≡ parts_gone ps g → i ≡ parts_gone qs h
      → OnOk r (j ≡ gone ways.Keep vs i) → OnOk r (j ≡ parts_gone (stays us ∷ (ps ++ (qs ++ stays vs ∷ []))) f)
  branch_goes r us vs ps qs f g h i j first second third last =
      loop_goes r us (ps ++ (qs ++ stays vs ∷ [])) f g j first
      (parts_go r ps (qs ++ stays vs ∷ []) g h j second (parts_go r qs (stays vs ∷ []) h i j third (stays_go r vs i j last)))

-- Proofs -------------------------------------------------------------------------------------------------------

-- where nothing is chosen for a number
pub others_same : (n : ℕ) (chosen : List (ℕ × Cert)) → chosen_for chosen n ≡ None → for_others n chosen ≡ chosen
others_same n [] none = refl
others_same n (c ∷ cs) none = by (c.0 == n) none (others_same n cs)
  where
    by : (b : Bool) → (if b then Some c.1 else chosen_for cs n) ≡ None → (chosen_for cs n ≡ None → for_others n cs ≡ cs)
        → (if b then for_others n cs else c ∷ for_others n cs) ≡ c ∷ cs
    by true e rest = cc
    by false e rest = ap (λ ds. c ∷ ds) (rest e)

pub cert_stays : (place : ℕ) (c : Cert) (o : Option Cert) (g h : Halfway) → o ≡ None → h ≡ gone ways.Keep (uses_in_cert c) g → h ≡ parts_gone (part_of_cert place c o ∷ []) g
cert_stays place c o g h none first = first ∙ sym (stay (uses_in_cert c) g) ∙ ap (λ p. parts_gone (part_of_cert place c p ∷ []) g) (sym none)

cert_becomes : (place : ℕ) (c d : Cert) (o : Option Cert) (g h i : Halfway) → Some d ≡ o → h ≡ gone ways.Pass (uses_in_cert c) g
    → i ≡ gone (ways.Add place) (uses_in_cert d) h → i ≡ parts_gone (part_of_cert place c o ∷ []) g
cert_becomes place c d o g h i is first second =
    second ∙ cert_added place d h ∙ ap (added (uses_at place d)) first
    ∙ sym (parts_next (part_of_cert place c (Some d)) [] g ∙ no_parts (part_gone (part_of_cert place c (Some d)) g))
    ∙ ap (λ p. parts_gone (part_of_cert place c p ∷ []) g) is

pub proof_becomes : {E : Type 0} (r : Result (List (Bor Choice)) E) (n place : ℕ) (left given again : List (Bor Choice)) (c d : Cert) (g h i : Halfway)
    → given ≡ left → again ≡ left → Some d ≡ chosen_for (map lent_choice given) n → h ≡ gone ways.Pass (uses_in_cert c) g
    → i ≡ gone (ways.Add place) (uses_in_cert d) h → IfOk r (λ made. map lent_choice made ≡ for_others n (map lent_choice again))
    → IfOk r (λ now. (map lent_choice now ≡ for_others n (map lent_choice left))
    × (i ≡ parts_gone (part_of_cert place c (chosen_for (map lent_choice left) n) ∷ []) g))
proof_becomes (Ok x) n place left given again c d g h i e f is first second made = (
  made ∙ ap (λ l. for_others n (map lent_choice l)) f,
  cert_becomes place c d (chosen_for (map lent_choice left) n) g h i (is ∙ ap (λ l. chosen_for (map lent_choice l) n) e) first second,
)
proof_becomes (Err x) n place left given again c d g h i e f is first second made = tt

pub proofs_go_on : (place : ℕ) (before after : List (ℕ × Cert)) (qs : List Proof) (i : ℕ) (q : Proof) (start now next : Halfway) → i < length qs → q ≡ get_or qs i q
    → parts_gone (parts_of_proofs place before (map view.proof (drop i qs))) now ≡ start → after ≡ for_others q.number before
    → next ≡ parts_gone (part_of_cert place (view.proof q).cert (chosen_for before q.number) ∷ []) now
    → parts_gone (parts_of_proofs place after (map view.proof (drop (i + 1) qs))) next ≡ start
proofs_go_on place before after qs i q start now next inside is so_far others more =
    (λ j. parts_gone (parts_of_proofs place (others j) (map view.proof (drop (i + 1) qs))) (more j))
    ∙ sym (parts_append (part_of_cert place (view.proof q).cert (chosen_for before q.number) ∷ [])
    (parts_of_proofs place (for_others q.number before) (map view.proof (drop (i + 1) qs))) now)
    ∙ ap (λ ps. parts_gone ps now) (sym (proofs_next place before qs i q inside is)) ∙ so_far

new_part : (place : ℕ) (c : ℕ × Cert) (h : Halfway) → part_gone (part_of_new place c) h ≡ gone (ways.Add place) (uses_in_cert c.1) h
new_part place c h = ap (added (uses_at place c.1)) (gone_nothing ways.Pass h) ∙ sym (cert_added place c.1 h)

pub new_goes_on : (place : ℕ) (cs : List (Bor Choice)) (i : ℕ) (c : Bor Choice) (start now next : Halfway) → i < length cs → c ≡ get_or cs i c
    → parts_gone (map (part_of_new place) (map lent_choice (drop i cs))) now ≡ start → next ≡ gone (ways.Add place) (uses_in_cert (lent_choice c).1) now
    → parts_gone (map (part_of_new place) (map lent_choice (drop (i + 1) cs))) next ≡ start
new_goes_on place cs i c start now next inside is so_far more =
    ap (parts_gone (map (part_of_new place) (map lent_choice (drop (i + 1) cs)))) (more ∙ sym (new_part place (lent_choice c) now))
    ∙ sym (parts_next (part_of_new place (lent_choice c)) (map (part_of_new place) (map lent_choice (drop (i + 1) cs))) now)
    ∙ ap (λ y. parts_gone (map (part_of_new place) (map lent_choice (y ∷ drop (i + 1) cs))) now) is
    ∙ sym (at_drop_more (λ ys. parts_gone (map (part_of_new place) (map lent_choice ys)) now) cs i c inside) ∙ so_far

-- what is made where nothing was, from all uses of a text
pub all_made : (us : List Use) (ps : List UsesPart) (uses rest made : List NameUse) (g h : Halfway) → made ≡ [] → rest ≡ uses
    → g ≡ gone ways.Keep us (record { made = made; rest = rest }) → h ≡ parts_gone ps g → h.made ≡ uses_with (stays us ∷ ps) uses
all_made us ps uses rest made g h none whole first second =
    ap (λ k. k.made) (second ∙ ap (parts_gone ps) first ∙ sym (parts_next (stays us) ps (record { made = made; rest = rest })))
    ∙ parts_made (stays us ∷ ps) (record { made = made; rest = rest }) ∙ (λ i. none i ++ uses_with (stays us ∷ ps) (whole i))
