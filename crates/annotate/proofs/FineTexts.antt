-- The annotated text is within the limits of a text.
use Rattle.std.proofs.Common.{◌≡◌, ℕ, suc, ◌+◌, ◌-◌, ◌==◌, ◌≤◌, nat_lt, ◌&&◌, not, List, [], ◌∷◌, length, map, Bool, true, refl, sym, ap, ◌∙◌, All, None}
use Rattle.std.specs.List.{list_all}
use Rattle.std.proofs.lemmas.Bool.{and_from, and_parts}
use Rattle.std.proofs.lemmas.List.Elements.{All-cons, All-head, All-map, All-nil, All-tail, All-weaker}
use Rattle.cov_ast.specs.Syntax.{Cert, Proof, Stm, Block, done, more, Thread, Parsed}
use Rattle.cov_ast.specs.Syntax as s
use Rattle.cov_ast.specs.declared.parsed.NameUse.{NameUse}
use Rattle.cov_grammar.specs.PlacedTrees as t
use Rattle.cov_text.specs.GivenTrees.{lock_of, parsed_of, thread_of, var_of}
use Rattle.cov_text.specs.Limits.{in_program}
use Rattle.cov_print.specs.Unplaced.{unplaced, unplaced_block, unplaced_lock, unplaced_stm, unplaced_thread, unplaced_var}
use Rattle.cov_print.proofs.Declarations.{seen_program}
use Rattle.cov_print.proofs.Sizes.{block_fine, count, counts, fine, fine_none, limits_same, lock_fine, option_fine, pair_fine, program_fine, proof_fine, state_fine, stm_fine, stms_in, term_fine, thread_fine, var_fine}
use Rattle.policy_class.specs.Resolved.{resolved}
use Rattle.cert_search.proofs.Sound.{search_sound}
use Rattle.annotate.specs.Annotated.{choices, IsChoice}
use Rattle.annotate.specs.AnnotatedText.{annotated_text, name_number, unresolved_choice, unresolved_choices}
use Rattle.annotate.specs.WithCertificates.{put_in, put_in_stm, put_in_threads, with_certs}
use Rattle.annotate.proofs.ChoiceLaws.{choices_are}
use Rattle.annotate.proofs.PutLaws.{proofs_have}
use Rattle.annotate.proofs.SmallCerts.{class_fine, IsFine}

-- Lists --------------------------------------------------------------------------------------------------------

all_fine : (qs : List Proof) → list_all proof_fine qs ≡ true → All (λ q. IsFine q.cert) qs
all_fine [] h = All-nil (λ q. IsFine q.cert)
all_fine (q ∷ qs) h =
    let parts = and_parts (proof_fine q) (list_all proof_fine qs) h in
    All-cons (λ q. IsFine q.cert) q qs parts.0 (all_fine qs parts.1)

fine_all : (qs : List Proof) → All (λ q. IsFine q.cert) qs → list_all proof_fine qs ≡ true
fine_all [] h = refl
fine_all (q ∷ qs) h =
    and_from (proof_fine q) (list_all proof_fine qs) (All-head (λ q. IsFine q.cert) q qs h) (fine_all qs (All-tail (λ q. IsFine q.cert) q qs h))

-- of two, the second changes, or both
second : (a b c : Bool) → (b ≡ true → c ≡ true) → (a && b) ≡ true → (a && c) ≡ true
second a b c f h = let parts = and_parts a b h in and_from a c parts.0 (f parts.1)

each : (a b c d : Bool) → (a ≡ true → b ≡ true) → (c ≡ true → d ≡ true) → (a && c) ≡ true → (b && d) ≡ true
each a b c d f g h = let parts = and_parts a c h in and_from b d (f parts.0) (g parts.1)

-- Statements and blocks ----------------------------------------------------------------------------------------

module _ (chosen : ℕ → List (ℕ × Cert)) (small : (x : ℕ) → All (λ c. IsFine c.1) (chosen x)) where
  proofs_put : (x : ℕ) (qs : List Proof) → list_all proof_fine qs ≡ true → list_all proof_fine (with_certs (chosen x) qs) ≡ true
  proofs_put x qs h = fine_all (with_certs (chosen x) qs) (proofs_have IsFine (chosen x) qs (small x) (all_fine qs h))

  mutual
    stm_put : (room : ℕ) (c : Stm) (qs rs : List Proof) → (list_all proof_fine qs ≡ true → list_all proof_fine rs ≡ true)
        → stm_fine room (unplaced_stm c) qs ≡ true → stm_fine room (unplaced_stm (put_in_stm chosen c)) rs ≡ true
    stm_put room (s.assign x e q ts) qs rs f h =
        second (term_fine e) _ _ (second (option_fine q) _ _ (second (list_all pair_fine ts) (list_all proof_fine qs) (list_all proof_fine rs) f)) h
    stm_put room (s.branch e a b j) qs rs f h =
        second (term_fine e) _ _
        (each (not (room - 1 == 0) && block_fine (room - 1) (unplaced_block a)) _ _ _
        (second (not (room - 1 == 0)) (block_fine (room - 1) (unplaced_block a)) _ (block_put (room - 1) a))
        (each (not (room - 1 == 0) && block_fine (room - 1) (unplaced_block b)) _ _ _
        (second (not (room - 1 == 0)) (block_fine (room - 1) (unplaced_block b)) _ (block_put (room - 1) b))
        (second (state_fine j) (list_all proof_fine qs) (list_all proof_fine rs) f))) h
    stm_put room (s.loop e j b) qs rs f h =
        second (term_fine e) _ _
        (second (state_fine j) _ _
        (each (not (room - 1 == 0) && block_fine (room - 1) (unplaced_block b)) _ _ _
        (second (not (room - 1 == 0)) (block_fine (room - 1) (unplaced_block b)) _ (block_put (room - 1) b)) f)) h
    stm_put room (s.note j) qs rs f h = second (state_fine j) (list_all proof_fine qs) (list_all proof_fine rs) f h
    stm_put room (s.output e) qs rs f h = second (term_fine e) (list_all proof_fine qs) (list_all proof_fine rs) f h
    stm_put room _ qs rs f h = f h

    block_put : (room : ℕ) (b : Block) → block_fine room (unplaced_block b) ≡ true → block_fine room (unplaced_block (put_in chosen b)) ≡ true
    block_put room done h = refl
    block_put room (more at c proofs b) h =
        each (stm_fine room (unplaced_stm c) proofs) _ (block_fine room (unplaced_block b)) _ (stm_put room c proofs (with_certs (chosen at) proofs) (proofs_put at proofs))
        (block_put room b) h

  mutual
    stms_same : (c : Stm) → stms_in (unplaced_stm (put_in_stm chosen c)) ≡ stms_in (unplaced_stm c)
    stms_same (s.branch e a b j) = λ i. count_same a i + count_same b i
    stms_same (s.loop e j b) = count_same b
    stms_same _ = refl

    count_same : (b : Block) → count (unplaced_block (put_in chosen b)) ≡ count (unplaced_block b)
    count_same done = refl
    count_same (more at c proofs b) = λ i. 1 + stms_same c i + count_same b i

-- Texts --------------------------------------------------------------------------------------------------------

abbrev Seen : Type 0
Seen = ℕ × (List s.Var × (List s.Lock × List s.Thread))

abbrev pub seen_of : Parsed → Seen
seen_of p = (p.version, (p.vars, (p.locks, p.threads)))

module _ (chosen : (t place : ℕ) → List (ℕ × Cert)) (small : (t x : ℕ) → All (λ c. IsFine c.1) (chosen t x)) where
  threads_put : (t : ℕ) (hs : List Thread) → list_all thread_fine (map unplaced_thread hs) ≡ true → list_all thread_fine (map unplaced_thread (put_in_threads chosen t hs)) ≡ true
  threads_put t [] h = refl
  threads_put t (x ∷ hs) h =
      each (thread_fine (unplaced_thread x)) _ (list_all thread_fine (map unplaced_thread hs)) _ (block_put (chosen t) (small t) 64 x.body) (threads_put (suc t) hs) h

  counts_same : (t : ℕ) (hs : List Thread) → counts (map unplaced_thread (put_in_threads chosen t hs)) ≡ counts (map unplaced_thread hs)
  counts_same t [] = refl
  counts_same t (x ∷ hs) = λ i. count_same (chosen t) (small t) x.body i + counts_same (suc t) hs i

  length_same : (t : ℕ) (hs : List Thread) → length (map unplaced_thread (put_in_threads chosen t hs)) ≡ length (map unplaced_thread hs)
  length_same t [] = refl
  length_same t (x ∷ hs) = ap (λ n. suc n) (length_same (suc t) hs)

  program_put : (v : ℕ) (vs : List s.Var) (ls : List s.Lock) (hs : List Thread) → program_fine (v, (vs, (ls, map unplaced_thread hs))) ≡ true
      → program_fine (v, (vs, (ls, map unplaced_thread (put_in_threads chosen 0 hs)))) ≡ true
  program_put v vs ls hs =
      second (not (nat_lt 256 (length vs))) _ _
      (second (not (nat_lt 64 (length ls))) _ _
      (each (not (nat_lt 16 (length (map unplaced_thread hs)))) _ _ _ (λ h. ap (λ n. not (nat_lt 16 n)) (length_same 0 hs) ∙ h)
      (each (not (nat_lt 20000 (counts (map unplaced_thread hs)))) _ _ _ (λ h. ap (λ n. not (nat_lt 20000 n)) (counts_same 0 hs) ∙ h)
      (second (list_all var_fine vs) _ _ (second (list_all lock_fine ls) _ _ (threads_put 0 hs))))))

map_map : {A B C : Type 0} (f : A → B) (g : B → C) (xs : List A) → map (λ x. g (f x)) xs ≡ map g (map f xs)
map_map f g [] = refl
map_map f g (x ∷ xs) = ap (λ l. g (f x) ∷ l) (map_map f g xs)

pub seen_is : (names : List (List ℕ)) (uses : List NameUse) (p : t.Program) → seen_program names p ≡ seen_of (unplaced (parsed_of names uses p))
seen_is names uses p = λ i. (
  p.version,
  (map_map (var_of names) unplaced_var p.vars i, (map_map (lock_of names) unplaced_lock p.locks i, map_map (thread_of names) unplaced_thread p.threads i)),
)

choice_fine : (depth : ℕ) → depth ≤ 2 → (p : Parsed) (t place : ℕ) (c : ℕ × Cert) → IsChoice depth (resolved p) t place c → IsFine (unresolved_choice p c).1
choice_fine depth lt p t place c h =
    let g = h.of in
    class_fine (name_number p) (λ l. l) depth lt g.entailment.hyps g.entailment.goal c.1 (search_sound depth g.entailment.hyps g.entailment.goal c.1 h.found).passes

pub choices_fine : (depth : ℕ) → depth ≤ 2 → (p : Parsed) (t place : ℕ) → All (λ c. IsFine c.1) (unresolved_choices depth p t place)
choices_fine depth lt p t place =
    All-map (λ c. IsFine c.1) (unresolved_choice p) (choices depth (resolved p) t place)
    (All-weaker (IsChoice depth (resolved p) t place) (λ c. IsFine (unresolved_choice p c).1) (choice_fine depth lt p t place) (choices depth (resolved p) t place)
    (choices_are depth (resolved p) t place))

-- a tree of the annotated text, places aside
pub annotated_fine : (names : List (List ℕ)) (uses uses' : List NameUse) (tree made : t.Program) (depth : ℕ) → depth ≤ 2 → in_program tree ≡ None
    → unplaced (parsed_of names uses' made) ≡ unplaced (annotated_text depth (parsed_of names uses tree)) → in_program made ≡ None
annotated_fine names uses uses' tree made depth lt small same =
    let p = parsed_of names uses tree in
    let before : program_fine (seen_of (unplaced p)) ≡ true = ap program_fine (sym (seen_is names uses tree)) ∙ sym (limits_same names tree) ∙ ap fine small in
    fine_none (in_program made)
    (limits_same names made ∙ ap program_fine (seen_is names uses' made ∙ ap seen_of same)
    ∙ program_put (unresolved_choices depth p) (choices_fine depth lt p) p.version (map unplaced_var p.vars) (map unplaced_lock p.locks) p.threads before)
