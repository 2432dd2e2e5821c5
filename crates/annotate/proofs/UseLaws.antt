-- The uses of a text with certificates put in are those of its declarations, in the order of the text, where those before were. Each is one of those before, or one
-- in a chosen certificate, at the place of its statement.
use Rattle.std.proofs.Common.{◌≡◌, ◌⊎◌, inl, inr, ℕ, zero, suc, ◌+◌, ◌==◌, List, [], ◌∷◌, ◌++◌, length, map, take, drop, get_or, Bool, true, false, if◌then◌else◌, Option, Some, None, refl, sym, ap, ◌∙◌, subst, arith, All, ⊎_elim, take-append-drop, drop-drop}
use Rattle.std.specs.Prelude.{flat_map, unwrap_or, Contains}
use Rattle.std.proofs.Math.Seq.{drop-append_seam, take-append_seam}
use Rattle.std.proofs.lemmas.Bool.{eqb-true}
use Rattle.std.proofs.lemmas.Grind.{flat_map-append}
use Rattle.std.proofs.lemmas.List.{append-nil, append_assoc, drop-map, map-append, take-map}
use Rattle.std.proofs.lemmas.List.Elements.{All-cons, All-contains, All-contains_itself, All-drop, All-head, All-map, All-nil, All-tail, All-weaker, Contains-append_cases, Contains-append_left, Contains-append_right, Contains-push_cases}
use Rattle.cov_ast.specs.Ready.{HasUsesInOrder, Use, use_of, uses_in, uses_in_block, uses_in_cert, uses_in_class, uses_in_lock, uses_in_modes, uses_in_proof, uses_in_state, uses_in_stm, uses_in_thread}
use Rattle.cov_ast.specs.Syntax.{Cert, Proof, Stm, Block, done, more, Thread, Parsed}
use Rattle.cov_ast.specs.Syntax as s
use Rattle.cov_ast.specs.WellFormed.{places, places_within}
use Rattle.cov_ast.specs.declared.parsed.NameUse.{NameUse}
use Rattle.statement_parts.specs.Parts.{parts}
use Rattle.mode_compat.specs.Compatible.{no_thread}
use Rattle.annotate.specs.AnnotatedText.{AreKeptOrNew, becomes, IsUseOfChosen, own_uses, part_of_cert, part_of_new, parts_in, parts_in_block, parts_in_stm, parts_in_threads, parts_of_proofs, put_in_text, stays, uses_at, uses_with, UsesPart}
use Rattle.annotate.specs.WithCertificates.{chosen_for, for_others, proof_of, put_in, put_in_threads, with_certs, with_proofs, with_proofs_stm}
use Rattle.annotate.proofs.PutLaws.{AllChosen, chosen_is, for_others_same, others_have}

abbrev before_of : UsesPart → List Use
before_of (stays us) = us
before_of (becomes before after) = before

abbrev after_of : UsesPart → List Use
after_of (stays us) = us
after_of (becomes before after) = map use_of after

-- the uses before are made those after, part by part
uses_are : (ps : List UsesPart) (uses : List NameUse) → map use_of uses ≡ flat_map before_of ps → map use_of (uses_with ps uses) ≡ flat_map after_of ps
uses_are [] uses h = refl
uses_are (stays us ∷ ps) uses h =
    let rest : map use_of (drop (length us) uses) ≡ flat_map before_of ps =
    sym (drop-map use_of (length us) uses) ∙ ap (drop (length us)) h ∙ drop-append_seam us (flat_map before_of ps) in
    let first : map use_of (take (length us) uses) ≡ us =
    sym (take-map use_of (length us) uses) ∙ ap (take (length us)) h ∙ take-append_seam us (flat_map before_of ps) in
    map-append use_of (take (length us) uses) (uses_with ps (drop (length us) uses)) ∙ (λ i. first i ++ uses_are ps (drop (length us) uses) rest i)
uses_are (becomes before after ∷ ps) uses h =
    let rest : map use_of (drop (length before) uses) ≡ flat_map before_of ps =
    sym (drop-map use_of (length before) uses) ∙ ap (drop (length before)) h ∙ drop-append_seam before (flat_map before_of ps) in
    map-append use_of after (uses_with ps (drop (length before) uses)) ∙ ap (λ us. map use_of after ++ us) (uses_are ps (drop (length before) uses) rest)

-- Proofs -------------------------------------------------------------------------------------------------------

unplaced : (place : ℕ) (us : List Use) → map use_of (map (λ u. record { name = u.name; lock = u.lock; at = place }) us) ≡ us
unplaced place [] = refl
unplaced place (u ∷ us) = ap (λ vs. u ∷ vs) (unplaced place us)

none_before : (place : ℕ) (chosen : List (ℕ × Cert)) → flat_map before_of (map (part_of_new place) chosen) ≡ []
none_before place [] = refl
none_before place (c ∷ cs) = none_before place cs

proofs_before : (place : ℕ) (chosen : List (ℕ × Cert)) (proofs : List Proof) → flat_map before_of (parts_of_proofs place chosen proofs) ≡ flat_map uses_in_proof proofs
proofs_before place chosen [] = none_before place chosen
proofs_before place chosen (q ∷ qs) = λ i. go (chosen_for chosen q.number) i ++ proofs_before place (for_others q.number chosen) qs i
  where
    go : (o : Option Cert) → before_of (part_of_cert place q.cert o) ≡ uses_in_cert q.cert
    go None = refl
    go (Some c) = refl

new_after : (place : ℕ) (chosen : List (ℕ × Cert)) → flat_map after_of (map (part_of_new place) chosen) ≡ flat_map uses_in_proof (map proof_of chosen)
new_after place [] = refl
new_after place (c ∷ cs) = λ i. unplaced place (uses_in_cert c.1) i ++ new_after place cs i

proofs_after : (place : ℕ) (chosen : List (ℕ × Cert)) (proofs : List Proof)
    → flat_map after_of (parts_of_proofs place chosen proofs) ≡ flat_map uses_in_proof (with_certs chosen proofs)
proofs_after place chosen [] = new_after place chosen
proofs_after place chosen (q ∷ qs) = λ i. go (chosen_for chosen q.number) i ++ proofs_after place (for_others q.number chosen) qs i
  where
    go : (o : Option Cert) → after_of (part_of_cert place q.cert o) ≡ uses_in_cert (unwrap_or o q.cert)
    go None = refl
    go (Some c) = unplaced place (uses_in_cert c)

-- Statements ---------------------------------------------------------------------------------------------------

regrouped : (a b c d : List Use) → a ++ (b ++ (c ++ (d ++ []))) ≡ a ++ b ++ c ++ d
regrouped a b c d =
    ap (λ x. a ++ (b ++ (c ++ x))) (append-nil d) ∙ ap (λ x. a ++ x) (sym (append_assoc b c d)) ∙ sym (append_assoc a (b ++ c) d)
    ∙ ap (λ x. x ++ d) (sym (append_assoc a b c))

-- with one of the two kinds of uses of parts
module _ (kind : UsesPart → List Use) (stays_is : (us : List Use) → kind (stays us) ≡ us) (chosen : ℕ → List (ℕ × Cert)) (made : ℕ → List Proof → List Proof)
    (proofs_are : (at : ℕ) (proofs : List Proof) → flat_map kind (parts_of_proofs at (chosen at) proofs) ≡ flat_map uses_in_proof (made at proofs)) where
  one : (us : List Use) → flat_map kind (stays us ∷ []) ≡ us
  one us = append-nil (kind (stays us)) ∙ stays_is us

  -- in front of the uses of proofs
  mutual
    stm_uses : (c : Stm) (qs : List Proof) → flat_map kind (parts_in_stm chosen c) ++ flat_map uses_in_proof qs ≡ uses_in_stm (with_proofs_stm (λ _. made) c) qs
    stm_uses (s.branch e a b join) qs =
        ap (λ us. us ++ flat_map uses_in_proof qs)
        ((λ i. stays_is (uses_in e) i ++ flat_map-append kind (parts_in_block chosen a) (parts_in_block chosen b ++ stays (uses_in_state join) ∷ []) i)
        ∙ (λ i. uses_in e ++ (block_uses a i ++ flat_map-append kind (parts_in_block chosen b) (stays (uses_in_state join) ∷ []) i))
        ∙ (λ i. uses_in e ++ (uses_in_block (with_proofs (λ _. made) a) ++ (block_uses b i ++ (stays_is (uses_in_state join) i ++ []))))
        ∙ regrouped (uses_in e) (uses_in_block (with_proofs (λ _. made) a)) (uses_in_block (with_proofs (λ _. made) b)) (uses_in_state join))
    stm_uses (s.loop e inv b) qs = λ i. stays_is (uses_in e ++ uses_in_state inv) i ++ block_uses b i ++ flat_map uses_in_proof qs
    stm_uses c qs = ap (λ us. us ++ flat_map uses_in_proof qs) (one (own_uses (parts c)))

    block_uses : (b : Block) → flat_map kind (parts_in_block chosen b) ≡ uses_in_block (with_proofs (λ _. made) b)
    block_uses done = refl
    block_uses (more at c proofs b) =
        flat_map-append kind (parts_in_stm chosen c) (parts_of_proofs at (chosen at) proofs ++ parts_in_block chosen b)
        ∙ ap (λ us. flat_map kind (parts_in_stm chosen c) ++ us) (flat_map-append kind (parts_of_proofs at (chosen at) proofs) (parts_in_block chosen b))
        ∙ sym (append_assoc (flat_map kind (parts_in_stm chosen c)) (flat_map kind (parts_of_proofs at (chosen at) proofs)) (flat_map kind (parts_in_block chosen b)))
        ∙ ap (λ us. flat_map kind (parts_in_stm chosen c) ++ us ++ flat_map kind (parts_in_block chosen b)) (proofs_are at proofs)
        ∙ (λ i. stm_uses c (made at proofs) i ++ block_uses b i)

-- Programs -----------------------------------------------------------------------------------------------------

mutual
  stm_again : (c : Stm) → with_proofs_stm (λ _ at qs. qs) c ≡ c
  stm_again (s.branch e a b join) = λ i. s.branch e (block_again a i) (block_again b i) join
  stm_again (s.loop e inv b) = λ i. s.loop e inv (block_again b i)
  stm_again _ = refl

  block_again : (b : Block) → with_proofs (λ _ at qs. qs) b ≡ b
  block_again done = refl
  block_again (more at c proofs b) = λ i. more at (stm_again c i) proofs (block_again b i)

module _ (chosen : (place : ℕ) → List (ℕ × Cert)) where
  block_before : (b : Block) → flat_map before_of (parts_in_block chosen b) ≡ uses_in_block b
  block_before b =
      block_uses before_of (λ us. refl) chosen (λ at qs. qs) (λ at qs. proofs_before at (chosen at) qs) b ∙ ap uses_in_block (block_again b)

  block_after : (b : Block) → flat_map after_of (parts_in_block chosen b) ≡ uses_in_block (put_in chosen b)
  block_after b =
      block_uses after_of (λ us. refl) chosen (λ at qs. with_certs (chosen at) qs) (λ at qs. proofs_after at (chosen at) qs) b

module _ (chosen : (t place : ℕ) → List (ℕ × Cert)) where
  threads_before : (t : ℕ) (hs : List Thread) → flat_map before_of (parts_in_threads chosen t hs) ≡ flat_map uses_in_thread hs
  threads_before t [] = refl
  threads_before t (h ∷ hs) =
      ap (λ us. uses_in_modes h.modes ++ us) (flat_map-append before_of (parts_in_block (chosen t) h.body) (parts_in_threads chosen (suc t) hs))
      ∙ (λ i. uses_in_modes h.modes ++ (block_before (chosen t) h.body i ++ threads_before (suc t) hs i))
      ∙ sym (append_assoc (uses_in_modes h.modes) (uses_in_block h.body) (flat_map uses_in_thread hs))

  threads_after : (t : ℕ) (hs : List Thread) → flat_map after_of (parts_in_threads chosen t hs) ≡ flat_map uses_in_thread (put_in_threads chosen t hs)
  threads_after t [] = refl
  threads_after t (h ∷ hs) =
      ap (λ us. uses_in_modes h.modes ++ us) (flat_map-append after_of (parts_in_block (chosen t) h.body) (parts_in_threads chosen (suc t) hs))
      ∙ (λ i. uses_in_modes h.modes ++ (block_after (chosen t) h.body i ++ threads_after (suc t) hs i))
      ∙ sym (append_assoc (uses_in_modes h.modes) (uses_in_block (put_in (chosen t) h.body)) (flat_map uses_in_thread (put_in_threads chosen (suc t) hs)))

  pub uses_in_order : (p : Parsed) → HasUsesInOrder p → HasUsesInOrder (put_in_text chosen p)
  uses_in_order p h =
      let declared = flat_map (λ v. uses_in_class v.class) p.vars ++ flat_map uses_in_lock p.locks in
      uses_are (parts_in chosen p) p.uses (h ∙ ap (λ us. declared ++ us) (sym (threads_before 0 p.threads)))
      ∙ ap (λ us. declared ++ us) (threads_after 0 p.threads)

-- Nothing chosen -----------------------------------------------------------------------------------------------

abbrev AllStay : List UsesPart → Type 0
AllStay [] = Unit {0}
AllStay (stays us ∷ ps) = AllStay ps
AllStay (becomes before after ∷ ps) = ⊥

stay_append : (ps qs : List UsesPart) → AllStay ps → AllStay qs → AllStay (ps ++ qs)
stay_append [] qs h k = k
stay_append (stays us ∷ ps) qs h k = stay_append ps qs h k
stay_append (becomes before after ∷ ps) qs h k = absurd h

all_stay : (ps : List UsesPart) (uses : List NameUse) → AllStay ps → map use_of uses ≡ flat_map before_of ps → uses_with ps uses ≡ uses
all_stay [] [] s h = refl
all_stay [] (u ∷ us) s h = cc
all_stay (stays us ∷ ps) uses s h =
    let rest : map use_of (drop (length us) uses) ≡ flat_map before_of ps =
    sym (drop-map use_of (length us) uses) ∙ ap (drop (length us)) h ∙ drop-append_seam us (flat_map before_of ps) in
    ap (λ vs. take (length us) uses ++ vs) (all_stay ps (drop (length us) uses) s rest) ∙ take-append-drop (length us) uses
all_stay (becomes before after ∷ ps) uses s h = absurd s

abbrev nothing : (place : ℕ) → List (ℕ × Cert)
nothing place = []

proofs_stay : (place : ℕ) (proofs : List Proof) → AllStay (parts_of_proofs place [] proofs)
proofs_stay place [] = tt
proofs_stay place (q ∷ qs) = proofs_stay place qs

mutual
  stm_stays : (c : Stm) → AllStay (parts_in_stm nothing c)
  stm_stays (s.branch e a b join) = stay_append (parts_in_block nothing a) _ (block_stays a) (stay_append (parts_in_block nothing b) _ (block_stays b) tt)
  stm_stays (s.loop e inv b) = block_stays b
  stm_stays _ = tt

  block_stays : (b : Block) → AllStay (parts_in_block nothing b)
  block_stays done = tt
  block_stays (more at c proofs b) =
      stay_append (parts_in_stm nothing c) _ (stm_stays c) (stay_append (parts_of_proofs at [] proofs) _ (proofs_stay at proofs) (block_stays b))

threads_stay : (t : ℕ) (hs : List Thread) → AllStay (parts_in_threads (λ u. nothing) t hs)
threads_stay t [] = tt
threads_stay t (h ∷ hs) = stay_append (parts_in_block nothing h.body) _ (block_stays h.body) (threads_stay (suc t) hs)

certs_same : (proofs : List Proof) → with_certs [] proofs ≡ proofs
certs_same [] = refl
certs_same (q ∷ qs) = ap (λ rs. q ∷ rs) (certs_same qs)

block_same : (b : Block) → put_in nothing b ≡ b
block_same b = (λ i. with_proofs (λ _ at qs. certs_same qs i) b) ∙ block_again b

threads_same : (t : ℕ) (hs : List Thread) → put_in_threads (λ u. nothing) t hs ≡ hs
threads_same t [] = refl
threads_same t (h ∷ hs) = λ i. record { name = h.name; at = h.at; modes = h.modes; body = block_same h.body i; end = h.end } ∷ threads_same (suc t) hs i

pub text_same : (p : Parsed) → HasUsesInOrder p → put_in_text (λ u. nothing) p ≡ p
text_same p h =
    let declared = flat_map (λ v. uses_in_class v.class) p.vars ++ flat_map uses_in_lock p.locks in
    let uses = all_stay (parts_in (λ u. nothing) p) p.uses (threads_stay 0 p.threads) (h ∙ ap (λ us. declared ++ us) (sym (threads_before (λ u. nothing) 0 p.threads))) in
    λ i. record { version = p.version; names = p.names; uses = uses i; vars = p.vars; locks = p.locks; threads = threads_same 0 p.threads i }

-- Places -------------------------------------------------------------------------------------------------------

module _ (IsNew : NameUse → Type 0) where
  some_kept : (n : ℕ) (before after : List NameUse) → AreKeptOrNew IsNew (drop n before) after → AreKeptOrNew IsNew before (take n before ++ after)
  some_kept zero before after h = h
  some_kept (suc n) [] after h = h
  some_kept (suc n) (u ∷ us) after h = inr (0, us, refl, some_kept n us after h)

  some_left : (n : ℕ) (before after : List NameUse) → AreKeptOrNew IsNew (drop n before) after → AreKeptOrNew IsNew before after
  some_left n before [] h = tt
  some_left n before (u ∷ us) (inl h) = inl (h.0, some_left n before us h.1)
  some_left n before (u ∷ us) (inr h) = inr (n + h.0, h.1, sym (drop-drop h.0 n before) ∙ h.2, h.3)

  some_new : (new before after : List NameUse) → All IsNew new → AreKeptOrNew IsNew before after → AreKeptOrNew IsNew before (new ++ after)
  some_new [] before after h k = k
  some_new (u ∷ us) before after h k = inl (All-head IsNew u us h, some_new us before after (All-tail IsNew u us h) k)

  abbrev MakesNew : UsesPart → Type 0
  MakesNew (stays us) = Unit {0}
  MakesNew (becomes before after) = All IsNew after

  abbrev AllMakeNew : List UsesPart → Type 0
  AllMakeNew [] = Unit {0}
  AllMakeNew (part ∷ ps) = MakesNew part × AllMakeNew ps

  make_append : (ps qs : List UsesPart) → AllMakeNew ps → AllMakeNew qs → AllMakeNew (ps ++ qs)
  make_append [] qs h k = k
  make_append (part ∷ ps) qs h k = (h.0, make_append ps qs h.1 k)

  all_make : (ps : List UsesPart) (uses : List NameUse) → AllMakeNew ps → AreKeptOrNew IsNew uses (uses_with ps uses)
  all_make [] uses h = tt
  all_make (stays us ∷ ps) uses h = some_kept (length us) uses (uses_with ps (drop (length us) uses)) (all_make ps (drop (length us) uses) h.1)
  all_make (becomes before after ∷ ps) uses h =
      some_new after uses (uses_with ps (drop (length before) uses)) h.0
      (some_left (length before) uses (uses_with ps (drop (length before) uses)) (all_make ps (drop (length before) uses) h.1))

  abbrev IsNewAt : (place : ℕ) → Cert → Type 0
  IsNewAt place c = All IsNew (uses_at place c)

  new_make : (place : ℕ) (cs : List (ℕ × Cert)) → AllChosen (IsNewAt place) cs → AllMakeNew (map (part_of_new place) cs)
  new_make place [] h = tt
  new_make place (c ∷ cs) h = (All-head (λ c. IsNewAt place c.1) c cs h, new_make place cs (All-tail (λ c. IsNewAt place c.1) c cs h))

  proofs_make : (place : ℕ) (cs : List (ℕ × Cert)) (proofs : List Proof) → AllChosen (IsNewAt place) cs → AllMakeNew (parts_of_proofs place cs proofs)
  proofs_make place cs [] h = new_make place cs h
  proofs_make place cs (q ∷ qs) h =
      (go (chosen_for cs q.number) refl, proofs_make place (for_others q.number cs) qs (others_have (IsNewAt place) q.number cs h))
    where
      go : (o : Option Cert) → chosen_for cs q.number ≡ o → MakesNew (part_of_cert place q.cert o)
      go None i = tt
      go (Some d) i = chosen_is (IsNewAt place) cs q.number d h i

  module _ (chosen : (place : ℕ) → List (ℕ × Cert)) (inside : (place : ℕ) → AllChosen (IsNewAt place) (chosen place)) where
    mutual
      stm_makes : (c : Stm) → AllMakeNew (parts_in_stm chosen c)
      stm_makes (s.branch e a b join) = (tt, make_append (parts_in_block chosen a) _ (block_makes a) (make_append (parts_in_block chosen b) _ (block_makes b) (tt, tt)))
      stm_makes (s.loop e inv b) = (tt, block_makes b)
      stm_makes _ = (tt, tt)

      block_makes : (b : Block) → AllMakeNew (parts_in_block chosen b)
      block_makes done = tt
      block_makes (more at c proofs b) =
          make_append (parts_in_stm chosen c) _ (stm_makes c)
          (make_append (parts_of_proofs at (chosen at) proofs) _ (proofs_make at (chosen at) proofs (inside at)) (block_makes b))

  module _ (chosen : (t place : ℕ) → List (ℕ × Cert)) (inside : (t place : ℕ) → AllChosen (IsNewAt place) (chosen t place)) where
    threads_make : (t : ℕ) (hs : List Thread) → AllMakeNew (parts_in_threads chosen t hs)
    threads_make t [] = tt
    threads_make t (h ∷ hs) =
        (tt, make_append (parts_in_block (chosen t) h.body) _ (block_makes (chosen t) (inside t) h.body) (threads_make (suc t) hs))

    pub kept_or_new : (p : Parsed) → AreKeptOrNew IsNew p.uses (put_in_text chosen p).uses
    kept_or_new p = all_make (parts_in chosen p) p.uses (tt, threads_make 0 p.threads)

  -- what is so of each use before and of each that is new is so of each after
  module _ (Q : NameUse → Type 0) (of_new : (u : NameUse) → IsNew u → Q u) where
    pub kept_have : (before after : List NameUse) → All Q before → AreKeptOrNew IsNew before after → All Q after
    kept_have before [] h k = All-nil Q
    kept_have before (u ∷ us) h (inl k) = All-cons Q u us (of_new u k.0) (kept_have before us h k.1)
    kept_have before (u ∷ us) h (inr k) =
        let left : All Q (u ∷ k.1) = subst (All Q) k.2 (All-drop Q k.0 before h) in
        All-cons Q u us (All-head Q u k.1 left) (kept_have k.1 us (All-tail Q u k.1 left) k.3)

abbrev pub placed : (place : ℕ) → Use → NameUse
placed place u = record { name = u.name; lock = u.lock; at = place }

module _ (chosen : (t place : ℕ) → List (ℕ × Cert)) where
  used_chosen : (t place : ℕ) → AllChosen (IsNewAt (IsUseOfChosen chosen) place) (chosen t place)
  used_chosen t place =
      All-weaker (Contains (chosen t place)) (λ c. IsNewAt (IsUseOfChosen chosen) place c.1) of_choice (chosen t place) (All-contains_itself (chosen t place))
    where
      of_choice : (c : ℕ × Cert) → Contains (chosen t place) c → IsNewAt (IsUseOfChosen chosen) place c.1
      of_choice c there =
          All-map (IsUseOfChosen chosen) (placed place) (uses_in_cert c.1)
          (All-weaker (Contains (uses_in_cert c.1)) (λ u. IsUseOfChosen chosen (placed place u)) (λ u used. record { thread = t; choice = c; is_chosen = there; is_used = used })
          (uses_in_cert c.1) (All-contains_itself (uses_in_cert c.1)))

  pub uses_placed : (p : Parsed) → AreKeptOrNew (IsUseOfChosen chosen) p.uses (put_in_text chosen p).uses
  uses_placed p = kept_or_new (IsUseOfChosen chosen) chosen used_chosen p

-- Chosen certificates ------------------------------------------------------------------------------------------

-- A part becomes these uses.
abbrev Becomes : List NameUse → List UsesPart → Type 0
Becomes new [] = ⊥
Becomes new (stays us ∷ ps) = Becomes new ps
Becomes new (becomes before after ∷ ps) = (after ≡ new) ⊎ Becomes new ps

becomes_left : (new : List NameUse) (ps qs : List UsesPart) → Becomes new ps → Becomes new (ps ++ qs)
becomes_left new [] qs h = absurd h
becomes_left new (stays us ∷ ps) qs h = becomes_left new ps qs h
becomes_left new (becomes before after ∷ ps) qs (inl h) = inl h
becomes_left new (becomes before after ∷ ps) qs (inr h) = inr (becomes_left new ps qs h)

becomes_right : (new : List NameUse) (ps qs : List UsesPart) → Becomes new qs → Becomes new (ps ++ qs)
becomes_right new [] qs h = h
becomes_right new (stays us ∷ ps) qs h = becomes_right new ps qs h
becomes_right new (becomes before after ∷ ps) qs h = inr (becomes_right new ps qs h)

-- and these uses are there
becomes_there : (new : List NameUse) (ps : List UsesPart) (uses : List NameUse) → Becomes new ps → All (Contains (uses_with ps uses)) new
becomes_there new [] uses h = absurd h
becomes_there new (stays us ∷ ps) uses h =
    All-weaker (Contains (uses_with ps (drop (length us) uses))) (Contains (uses_with (stays us ∷ ps) uses))
    (λ u k. Contains-append_right (take (length us) uses) (uses_with ps (drop (length us) uses)) u k) new (becomes_there new ps (drop (length us) uses) h)
becomes_there new (becomes before after ∷ ps) uses (inl h) =
    subst (λ vs. All (Contains (uses_with (becomes before after ∷ ps) uses)) vs) h
    (All-weaker (Contains after) (Contains (uses_with (becomes before after ∷ ps) uses))
    (λ u k. Contains-append_left after (uses_with ps (drop (length before) uses)) u k) after (All-contains_itself after))
becomes_there new (becomes before after ∷ ps) uses (inr h) =
    All-weaker (Contains (uses_with ps (drop (length before) uses))) (Contains (uses_with (becomes before after ∷ ps) uses))
    (λ u k. Contains-append_right after (uses_with ps (drop (length before) uses)) u k) new (becomes_there new ps (drop (length before) uses) h)

not_in_none : {X : Type 0} (x : X) → Contains [] x → ⊥
not_in_none x h = All-contains (λ y. ⊥) [] x (All-nil (λ y. ⊥)) h

module _ (x n : ℕ) (d : Cert) where
  new_becomes : (cs : List (ℕ × Cert)) → chosen_for cs n ≡ Some d → Becomes (uses_at x d) (map (part_of_new x) cs)
  new_becomes [] h = cc
  new_becomes (c ∷ cs) h = go (c.0 == n) h (new_becomes cs)
    where
      go : (b : Bool) → (if b then Some c.1 else chosen_for cs n) ≡ Some d → (chosen_for cs n ≡ Some d → Becomes (uses_at x d) (map (part_of_new x) cs))
          → Becomes (uses_at x d) (part_of_new x c ∷ map (part_of_new x) cs)
      go true i rest = let same : c.1 ≡ d = cc in inl (ap (uses_at x) same)
      go false i rest = inr (rest i)

  proofs_become : (cs : List (ℕ × Cert)) (proofs : List Proof) → chosen_for cs n ≡ Some d → Becomes (uses_at x d) (parts_of_proofs x cs proofs)
  proofs_become cs [] h = new_becomes cs h
  proofs_become cs (q ∷ qs) h = go (q.number == n) refl (proofs_become (for_others q.number cs) qs)
    where
      here : (o : Option Cert) (ps : List UsesPart) → o ≡ Some d → Becomes (uses_at x d) (part_of_cert x q.cert o ∷ ps)
      here None ps i = cc
      here (Some c) ps i = let same : c ≡ d = cc in inl (ap (uses_at x) same)

      behind : (o : Option Cert) (ps : List UsesPart) → Becomes (uses_at x d) ps → Becomes (uses_at x d) (part_of_cert x q.cert o ∷ ps)
      behind None ps i = i
      behind (Some c) ps i = inr i

      go : (b : Bool) → (q.number == n) ≡ b → (chosen_for (for_others q.number cs) n ≡ Some d → Becomes (uses_at x d) (parts_of_proofs x (for_others q.number cs) qs))
          → Becomes (uses_at x d) (part_of_cert x q.cert (chosen_for cs q.number) ∷ parts_of_proofs x (for_others q.number cs) qs)
      go true i rest = here (chosen_for cs q.number) (parts_of_proofs x (for_others q.number cs) qs) (ap (chosen_for cs) (eqb-true q.number n i) ∙ h)
      go false i rest =
          behind (chosen_for cs q.number) (parts_of_proofs x (for_others q.number cs) qs) (rest (for_others_same q.number cs n i ∙ h))

  module _ (chosen : (place : ℕ) → List (ℕ × Cert)) (h : chosen_for (chosen x) n ≡ Some d) where
    mutual
      stm_becomes : (c : Stm) → Contains (places_within c) x → Becomes (uses_at x d) (parts_in_stm chosen c)
      stm_becomes (s.branch e a b join) k =
          ⊎_elim (λ i. becomes_left (uses_at x d) (parts_in_block chosen a) _ (block_becomes a i))
          (λ i. becomes_right (uses_at x d) (parts_in_block chosen a) _ (becomes_left (uses_at x d) (parts_in_block chosen b) _ (block_becomes b i)))
          (Contains-append_cases (places a) (places b) x k)
      stm_becomes (s.loop e inv b) k = block_becomes b k
      stm_becomes _ k = absurd (not_in_none x k)

      block_becomes : (b : Block) → Contains (places b) x → Becomes (uses_at x d) (parts_in_block chosen b)
      block_becomes done k = absurd (not_in_none x k)
      block_becomes (more at c proofs b) k =
          ⊎_elim (λ i. becomes_right (uses_at x d) (parts_in_stm chosen c) _ (becomes_left (uses_at x d) (parts_of_proofs at (chosen at) proofs) (parts_in_block chosen b) (here i)))
          (λ i. ⊎_elim (λ j. becomes_left (uses_at x d) (parts_in_stm chosen c) _ (stm_becomes c j))
          (λ j. becomes_right (uses_at x d) (parts_in_stm chosen c) _ (becomes_right (uses_at x d) (parts_of_proofs at (chosen at) proofs) (parts_in_block chosen b) (block_becomes b j)))
          (Contains-append_cases (places_within c) (places b) x i))
          (Contains-append_cases (at ∷ []) (places_within c ++ places b) x k)
        where
          here : Contains (at ∷ []) x → Becomes (uses_at x d) (parts_of_proofs at (chosen at) proofs)
          here i =
              ⊎_elim (λ j. absurd (not_in_none x j))
              (λ e. subst (λ y. Becomes (uses_at x d) (parts_of_proofs y (chosen y) proofs)) (sym e) (proofs_become (chosen x) proofs h)) (Contains-push_cases [] at x i)

  module _ (chosen : (t place : ℕ) → List (ℕ × Cert)) where
    threads_become : (u t : ℕ) (hs : List Thread) → Contains (places (get_or hs t no_thread).body) x → chosen_for (chosen (u + t) x) n ≡ Some d
        → Becomes (uses_at x d) (parts_in_threads chosen u hs)
    threads_become u t [] k h = absurd (not_in_none x k)
    threads_become u zero (y ∷ hs) k h =
        let same : u + 0 ≡ u = omega arith in
        becomes_left (uses_at x d) (parts_in_block (chosen u) y.body) _
        (block_becomes (chosen u) (ap (λ v. chosen_for (chosen v x) n) (sym same) ∙ h) y.body k)
    threads_become u (suc t) (y ∷ hs) k h =
        let same : suc u + t ≡ u + suc t = omega arith in
        becomes_right (uses_at x d) (parts_in_block (chosen u) y.body) _
        (threads_become (suc u) t hs k (ap (λ v. chosen_for (chosen v x) n) same ∙ h))

    pub chosen_there : (p : Parsed) (t : ℕ) → Contains (places (get_or p.threads t no_thread).body) x → chosen_for (chosen t x) n ≡ Some d
        → All (Contains (put_in_text chosen p).uses) (uses_at x d)
    chosen_there p t k h =
        let same : 0 + t ≡ t = omega arith in
        becomes_there (uses_at x d) (parts_in chosen p) p.uses (threads_become 0 t p.threads k (ap (λ v. chosen_for (chosen v x) n) same ∙ h))
